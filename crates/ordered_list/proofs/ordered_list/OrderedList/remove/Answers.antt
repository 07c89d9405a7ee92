use Rattle.std.proofs.Common.{sym, ap, ◌∙◌, subst, arith}
use Rattle.std.specs.Map.{remove_entry}
use Rattle.std.specs.BTreeMap.{is_at}
use Rattle.ordered_list.proofs.Places.{Ascends, place_within, remove_there, remove_nothing, not_found_in_gap, ascends_remove, updated_remove}
use Rattle.ordered_list.proofs.ordered_list.OrderedList.remove.Goals as goal

pub remove-requires : goal.remove-requires
remove-requires g c =
    let within = place_within g.K.Ord.cmp c.args.key.now c.deref.result.now c.in-Ok.place c.in-Ok.ensures.found in
    omega (arith, within, c.deref.ensures.len)

pub invariant_of-self : goal.invariant_of-self
invariant_of-self g c =
    let after = c.remove.ensures.items ∙ remove_there g.K.Ord.cmp c.args.key.now c.self.inside.items.items c.in-Ok.place
    (rw c.deref.ensures.value at c.in-Ok.ensures.found) in
    subst (Ascends g.K.Ord.cmp) (sym after) (ascends_remove g.K.Ord.cmp g.met.K.Ord.total (is_at (g.K.Ord.cmp c.args.key.now))
    c.self.inside.items.items c.self.invariant)

pub returns-in-Ok-clause-entries : goal.returns-in-Ok-clause-entries
returns-in-Ok-clause-entries g c =
    c.remove.ensures.items ∙ remove_there g.K.Ord.cmp c.args.key.now c.self.inside.items.items c.in-Ok.place (rw c.deref.ensures.value at c.in-Ok.ensures.found)
    ∙ ap (remove_entry (is_at (g.K.Ord.cmp c.args.key.now))) c.self.view_is

pub returns-in_default-clause-entries : goal.returns-in_default-clause-entries
returns-in_default-clause-entries g c =
    let missing = not_found_in_gap g.K.Ord.cmp g.met.K.Ord.total c.args.key.now c.self.inside.items.items c.in_default.field-0 c.self.invariant
    (rw c.deref.ensures.value at c.in_default.ensures.absent) in
    rw (← c.self.view_is) (sym (remove_nothing g.K.Ord.cmp c.args.key.now c.self.inside.items.items missing))

pub returns-in-Ok-clause-updates : goal.returns-in-Ok-clause-updates
returns-in-Ok-clause-updates g c =
    updated_remove g.K.Ord.cmp g.met.K.Ord.total c.args.self.now _ c.args.key.now (subst (Ascends g.K.Ord.cmp) c.self.view_is c.self.invariant)
    (returns-in-Ok-clause-entries g c)

pub returns-in_default-clause-updates : goal.returns-in_default-clause-updates
returns-in_default-clause-updates g c =
    updated_remove g.K.Ord.cmp g.met.K.Ord.total c.args.self.now _ c.args.key.now (subst (Ascends g.K.Ord.cmp) c.self.view_is c.self.invariant)
    (returns-in_default-clause-entries g c)
