use Rattle.response.proofs.HeldToFunction.{header_compared, header-differs, j_low, matches, name_unknown, names_sought, sort_differs, sort_sought}
use Rattle.response.proofs.functions.held_to.Goals as goal

pub arguments_of-arguments-requires : goal.arguments_of-arguments-requires
arguments_of-arguments-requires c = j_low c.requires.asked

pub result_of-result-requires : goal.result_of-result-requires
result_of-result-requires c = j_low c.requires.asked

pub header_differs-header-requires : goal.header_differs-header-requires
header_differs-header-requires c = header_compared c.arguments_of-arguments.ensures c.result_of-result.ensures c.requires

pub returns-then-header-nowhere : goal.returns-then-header-nowhere
returns-then-header-nowhere c =
    rw c.verdict.ensures
    (header-differs c.arguments_of-arguments.ensures c.result_of-result.ensures c.header_differs-header.ensures c.if-header-nowhere.true)

pub seen_by-seen-requires : goal.seen_by-seen-requires
seen_by-seen-requires c = j_low c.requires.asked

pub body_names-name-requires : goal.body_names-name-requires
body_names-name-requires c =
    names_sought c.arguments_of-arguments.ensures c.result_of-result.ensures c.header_differs-header.ensures c.if-header-nowhere.false c.seen_by-seen.ensures c.requires

pub returns-then-name-nowhere : goal.returns-then-name-nowhere
returns-then-name-nowhere c =
    rw c.verdict-then-name-nowhere.ensures
    (name_unknown
    c.arguments_of-arguments.ensures
    c.result_of-result.ensures
    c.header_differs-header.ensures
    c.if-header-nowhere.false
    c.seen_by-seen.ensures
    c.body_names-name.ensures
    c.if-name-nowhere.true)

pub body_sort-sort-requires : goal.body_sort-sort-requires
body_sort-sort-requires c =
    sort_sought
    c.arguments_of-arguments.ensures
    c.result_of-result.ensures
    c.header_differs-header.ensures
    c.if-header-nowhere.false
    c.seen_by-seen.ensures
    c.body_names-name.ensures
    c.if-name-nowhere.false
    c.requires

pub returns-then-sort-nowhere : goal.returns-then-sort-nowhere
returns-then-sort-nowhere c =
    rw c.verdict-then-sort-nowhere.ensures
    (sort_differs
    c.arguments_of-arguments.ensures
    c.result_of-result.ensures
    c.header_differs-header.ensures
    c.if-header-nowhere.false
    c.seen_by-seen.ensures
    c.body_names-name.ensures
    c.if-name-nowhere.false
    c.body_sort-sort.ensures
    c.if-sort-nowhere.true)

pub returns : goal.returns
returns c =
    rw c.verdict-2.ensures
    (matches
    c.arguments_of-arguments.ensures
    c.result_of-result.ensures
    c.header_differs-header.ensures
    c.if-header-nowhere.false
    c.seen_by-seen.ensures
    c.body_names-name.ensures
    c.if-name-nowhere.false
    c.body_sort-sort.ensures
    c.if-sort-nowhere.false)
