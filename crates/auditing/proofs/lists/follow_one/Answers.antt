use mathlib.Core.Path.{refl, sym}
use lib.Seq.{length-take-le}
use Rattle.auditing.proofs.ListFollowed.{front_followed, front_long, front_within, list_within, long_fails}
use Rattle.auditing.proofs.lists.follow_one.Goals as goal

pub returns-then-count-gt-LIST : goal.returns-then-count-gt-LIST
returns-then-count-gt-LIST c = let q = c.requires in λ one. long_fails _ q.right one.low c.list_length-count.ensures c.if-count-gt-LIST.true one

pub slice_bounds-copy_list-end : goal.slice_bounds-copy_list-end
slice_bounds-copy_list-end c =
    let q = c.requires in
    sym (front_long _ q.right q.one.low c.list_length-count.ensures _ refl c.if-count-gt-LIST.false)

pub copy_list-requires : goal.copy_list-requires
copy_list-requires c =
    let q = c.requires in
    list_within _ q.right q.one.low c.list_length-count.ensures _ refl c.if-count-gt-LIST.false c.list_at.ensures

pub slice_bounds-list-end-2 : goal.slice_bounds-list-end-2
slice_bounds-list-end-2 c =
    let q = c.requires in
    front_within _ q.right q.one.low c.list_length-count.ensures _ refl c.if-count-gt-LIST.false c.list_at.ensures
    c.copy_list.ensures _

pub slice_bounds-follow_list-end : goal.slice_bounds-follow_list-end
slice_bounds-follow_list-end c =
    let q = c.requires in
    sym (length-take-le _ _ (front_within _ q.right q.one.low c.list_length-count.ensures _ refl c.if-count-gt-LIST.false
    c.list_at.ensures c.copy_list.ensures _))

pub returns : goal.returns
returns c =
    let q = c.requires in
    front_followed _ q.right q.one.low c.list_length-count.ensures _ refl c.if-count-gt-LIST.false c.list_at.ensures
    c.copy_list.ensures _ c.follow_list.ensures
