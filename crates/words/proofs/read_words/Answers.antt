use native.Mathlib.Omega.{arith}
use Rattle.words.proofs.WholeText.{all_read, to_link, too_long}
use Rattle.words.proofs.read_words.Goals as goal

pub returns-then-text-limits : goal.returns-then-text-limits
returns-then-text-limits c = search too_long

pub link-requires : goal.link-requires
link-requires c =
    let fit = c.room_for-room.ensures in
    let lent = c.args in
    to_link _ lent.table.now lent.values.now _ fit _ _ _ _ c.scan_text-found.ensures (omega arith) _ c.passed_of.ensures

pub returns : goal.returns
returns c =
    let fit = c.room_for-room.ensures in
    let short = c.if-text-limits.false in
    let lent = c.args in
    let counted = c.passed_of.ensures in
    let linked = c.link.ensures in
    all_read _ lent.table.now lent.values.now _ fit _ _ _ _ c.scan_text-found.ensures short (omega arith) _ counted _ linked
