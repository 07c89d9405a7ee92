use Rattle.std.proofs.Common.{◌≡◌, ◌++◌, ◌∷◌, [], sym, ◌∙◌}
use Rattle.std.specs.declared.cmp.Ordering.TheVariants.{Less}
use Rattle.ordered_list.proofs.Places.{less_from_test}
use Rattle.ordered_list.proofs.Items.{item_gap_at_end, item_searched_Ok, item_searched_Err}
use Rattle.ordered_list.proofs.ordered_set.place_of.Goals as goal

pub returns-in-Some-clause-absent : goal.returns-in-Some-clause-absent
returns-in-Some-clause-absent g c =
    let parts : c.args.items.now ≡ c.in-Some.field-0-1.now ++ c.in-Some.last.now ∷ [] = c.in-Some.ensures.cases.0 in
    let less : g.T.Ord.cmp c.in-Some.last.now c.args.item.now ≡ Less = sym c.cmp.ensures
    ∙ less_from_test c.cmp.result (sym c.is_lt.ensures ∙ c.if-is_lt.true) in
    let ascends = c.requires in
    rw parts (item_gap_at_end g.T.Ord.cmp g.met.T.Ord.total c.args.item.now c.in-Some.field-0-1.now c.in-Some.last.now (rw parts at ascends) less)

pub returns-in_default-clause-found : goal.returns-in_default-clause-found
returns-in_default-clause-found g c =
    item_searched_Ok g.T.Ord.cmp g.met.T.Ord.total c.args.item.now c.args.items.now c.binary_search.result c.requires c.binary_search.ensures.bound
    c.binary_search.ensures.position

pub returns-in_default-clause-absent : goal.returns-in_default-clause-absent
returns-in_default-clause-absent g c =
    item_searched_Err g.T.Ord.cmp g.met.T.Ord.total c.args.item.now c.args.items.now c.binary_search.result c.requires c.binary_search.ensures.bound
    c.binary_search.ensures.position
