use Rattle.words.proofs.Chains.{inside_closes, inside_ends, inside_goes, inside_less}
use Rattle.words.proofs.links.close_of.Goals as goal

pub returns-then-kind_at-eq-CLOSE : goal.returns-then-kind_at-eq-CLOSE
returns-then-kind_at-eq-CLOSE c = search inside_closes

pub loop-i-smaller : goal.loop-i-smaller
loop-i-smaller c = search inside_less

pub loop-i-preserved : goal.loop-i-preserved
loop-i-preserved c = search inside_goes

pub returns : goal.returns
returns c = search inside_ends
