use Rattle.std.proofs.Common.{set, sym, ap, ◌∙◌, subst, arith}
use Rattle.std.specs.Prelude.{IsSome}
use Rattle.std.specs.BTreeMap.{insert_entry}
use Rattle.ordered_list.specs.Places.{value_at}
use Rattle.ordered_list.proofs.Places.{Ascends, place_within, set_there, ascends_insert, not_found_in_gap, updated_insert}
use Rattle.ordered_list.proofs.ordered_list.OrderedList.replace.Goals as goal

pub index_mut-requires : goal.index_mut-requires
index_mut-requires g c =
    let within = place_within g.K.Ord.cmp c.args.key.now c.deref.result.now c.in-Ok.place c.in-Ok.ensures.found in
    omega (arith, within, c.deref.ensures.len)

pub unreachable-requires : goal.unreachable-requires
unreachable-requires g c =
    let missing = not_found_in_gap g.K.Ord.cmp g.met.K.Ord.total c.args.key.now c.self.inside.items.items c.in-Err.field-0 c.self.invariant
    (rw c.deref.ensures.value at c.in-Err.ensures.absent) in
    let none = subst IsSome (ap (λ es. value_at g.K.Ord.cmp es c.args.key.now) (sym c.self.view_is) ∙ missing) c.requires in
    cc none

pub returns-clause-entries : goal.returns-clause-entries
returns-clause-entries g c =
    ap (λ e. set c.self.inside.items.items c.in-Ok.place (e.0, c.args.value)) c.index_mut.ensures.value
    ∙ set_there g.K.Ord.cmp c.args.key.now c.self.inside.items.items c.in-Ok.place c.index_mut.result.now c.args.value
    (rw c.deref.ensures.value at c.in-Ok.ensures.found)
    ∙ ap (λ es. insert_entry g.K.Ord.cmp es c.args.key.now c.args.value) c.self.view_is

pub invariant_of-self : goal.invariant_of-self
invariant_of-self g c =
    let after = ap (λ e. set c.self.inside.items.items c.in-Ok.place (e.0, c.args.value)) c.index_mut.ensures.value
    ∙ set_there g.K.Ord.cmp c.args.key.now c.self.inside.items.items c.in-Ok.place c.index_mut.result.now c.args.value
    (rw c.deref.ensures.value at c.in-Ok.ensures.found) in
    subst (Ascends g.K.Ord.cmp) (sym after) (ascends_insert g.K.Ord.cmp g.met.K.Ord.total c.self.inside.items.items c.args.key.now c.args.value
    c.self.invariant)

pub returns-clause-updates : goal.returns-clause-updates
returns-clause-updates g c = updated_insert g.K.Ord.cmp g.met.K.Ord.total c.args.self.now _ c.args.key.now c.args.value (returns-clause-entries g c)
