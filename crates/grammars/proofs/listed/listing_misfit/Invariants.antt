use Rattle.grammars.proofs.Listing.{Listing}
use Rattle.grammars.proofs.listed.listing_misfit.Given as goal

abbrev pub invariant-loop-row : goal.invariant-loop-row
invariant-loop-row l = Listing l.text l.lexemes l.names l.at l.listed l.close l.nowhere l.place l.group l.row
