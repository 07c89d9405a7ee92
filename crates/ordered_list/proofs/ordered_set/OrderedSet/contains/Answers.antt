use Rattle.std.proofs.Common.{ap, ◌∙◌}
use Rattle.ordered_list.specs.Items.{is_among}
use Rattle.ordered_list.proofs.Items.{among_from_place}
use Rattle.ordered_list.proofs.ordered_set.OrderedSet.contains.Goals as goal

pub returns : goal.returns
returns g c =
    let cmp = g.T.Ord.cmp in
    let items = c.self.inside.items.items in
    c.is_ok.ensures.value
    ∙ among_from_place cmp g.met.T.Ord.total c.args.item.now items c.place_of.result c.self.invariant (rw c.deref.ensures.value at c.place_of.ensures.found)
    (rw c.deref.ensures.value at c.place_of.ensures.absent)
    ∙ ap (λ xs. is_among cmp xs c.args.item.now) c.self.view_is
