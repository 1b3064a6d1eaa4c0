use Rattle.std.proofs.Common.{◌≡◌, MatchOption, eqb, false, length, rules}
use Rattle.following.proofs.Whole.{top_asks, top_told}
use Rattle.following.proofs.follows.Goals as goal

pub use_rule-found-requires : goal.use_rule-found-requires
use_rule-found-requires c = top_asks c.requires

pub returns : goal.returns
returns c =
    let told : MatchOption c.use_rule-found.result (c.is_some_and.result ≡ false) (λ w. c.is_some_and.result ≡ eqb w (length c.args.list.now)) = search rules in
    top_told c.use_rule-found.result c.use_rule-found.ensures told
