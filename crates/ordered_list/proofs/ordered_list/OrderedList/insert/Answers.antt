use Rattle.std.proofs.Common.{◌≡◌, set, sym, ap, ◌∙◌, subst, arith}
use Rattle.std.specs.Prelude.{Result, Ok, Err, OnOk, OnErr}
use Rattle.std.specs.List.{insert}
use Rattle.std.specs.BTreeMap.{insert_entry}
use Rattle.std.proofs.lemmas.Result.{on_ok_weaker}
use Rattle.ordered_list.proofs.Places.{Ascends, place_within, gap_within, set_there, insert_there, ascends_insert, updated_insert}
use Rattle.ordered_list.proofs.ordered_list.OrderedList.insert.Goals as goal

pub index_mut-requires : goal.index_mut-requires
index_mut-requires g c =
    let within = place_within g.K.Ord.cmp c.args.key c.deref.result.now c.in-Ok.place c.in-Ok.ensures.found in
    omega (arith, within, c.deref.ensures.len)

pub insert_at-requires : goal.insert_at-requires
insert_at-requires g c =
    let within = gap_within g.K.Ord.cmp c.args.key c.deref.result.now c.in-Err.place c.in-Err.ensures.absent in
    omega (arith, within, c.deref.ensures.len)

pub returns-in-Ok-clause-ok : goal.returns-in-Ok-clause-ok
returns-in-Ok-clause-ok g c =
    ap (λ e. set c.self.inside.items.items c.in-Ok.place (e.0, c.args.value)) c.index_mut.ensures.value
    ∙ set_there g.K.Ord.cmp c.args.key c.self.inside.items.items c.in-Ok.place c.index_mut.result.now c.args.value
    (rw c.deref.ensures.value at c.in-Ok.ensures.found)
    ∙ ap (λ es. insert_entry g.K.Ord.cmp es c.args.key c.args.value) c.self.view_is

pub invariant_of-self : goal.invariant_of-self
invariant_of-self g c =
    let after = ap (λ e. set c.self.inside.items.items c.in-Ok.place (e.0, c.args.value)) c.index_mut.ensures.value
    ∙ set_there g.K.Ord.cmp c.args.key c.self.inside.items.items c.in-Ok.place c.index_mut.result.now c.args.value
    (rw c.deref.ensures.value at c.in-Ok.ensures.found) in
    subst (Ascends g.K.Ord.cmp) (sym after) (ascends_insert g.K.Ord.cmp g.met.K.Ord.total c.self.inside.items.items c.args.key c.args.value c.self.invariant)

-- an insert at a gap, or one that was refused
ascends_after : {P : Type 0} {E L : Type 0} (r : Result L E) (Q : P → Type 0) (old new there : P) → OnOk r (new ≡ there) → OnErr r (new ≡ old) → Q old
    → Q there → Q new
ascends_after (Ok u) Q old new there ok err before after = subst Q (sym ok) after
ascends_after (Err e) Q old new there ok err before after = subst Q (sym err) before

pub invariant_of-self-in-Err : goal.invariant_of-self-in-Err
invariant_of-self-in-Err g c =
    let there = insert_there g.K.Ord.cmp c.args.key c.self.inside.items.items c.in-Err.place c.args.value
    (rw c.deref.ensures.value at c.in-Err.ensures.absent) in
    ascends_after c.insert_at.result (Ascends g.K.Ord.cmp) c.self.inside.items.items c.insert_at.new.items.items
    (insert c.self.inside.items.items c.in-Err.place (c.args.key, c.args.value))
    c.insert_at.ensures.ok c.insert_at.ensures.unchanged c.self.invariant
    (subst (Ascends g.K.Ord.cmp) (sym there) (ascends_insert g.K.Ord.cmp g.met.K.Ord.total c.self.inside.items.items c.args.key c.args.value c.self.invariant))

pub returns-in-Err-clause-ok : goal.returns-in-Err-clause-ok
returns-in-Err-clause-ok g c =
    let there = insert_there g.K.Ord.cmp c.args.key c.self.inside.items.items c.in-Err.place c.args.value
    (rw c.deref.ensures.value at c.in-Err.ensures.absent) in
    rw (← c.self.view_is, ← there) c.insert_at.ensures.ok

pub returns-in-Ok-clause-updates : goal.returns-in-Ok-clause-updates
returns-in-Ok-clause-updates g c = updated_insert g.K.Ord.cmp g.met.K.Ord.total c.args.self.now _ c.args.key c.args.value (returns-in-Ok-clause-ok g c)

pub returns-in-Err-clause-updates : goal.returns-in-Err-clause-updates
returns-in-Err-clause-updates g c =
    on_ok_weaker c.insert_at.result (updated_insert g.K.Ord.cmp g.met.K.Ord.total c.args.self.now c.insert_at.new.items.items c.args.key c.args.value)
    (returns-in-Err-clause-ok g c)
