use Rattle.accepting.proofs.Blanking.{blanked}
use Rattle.accepting.proofs.area.blank_area.Goals as goal

pub returns-then-shown-eq-AREA : goal.returns-then-shown-eq-AREA
returns-then-shown-eq-AREA c = blanked c.args.shown.now (c.fill.ensures.after (λ y same. same)) c.if-shown-eq-AREA.true
