use Rattle.std.proofs.Common.{◌≡◌, sym, subst, arith}
use Rattle.std.specs.Prelude.{Result, Ok, Err, OnOk, OnErr}
use Rattle.std.specs.List.{insert}
use Rattle.std.specs.List.Sorted.{IsStrictlySortedBy}
use Rattle.std.proofs.lemmas.Result.{on_ok_weaker}
use Rattle.ordered_list.proofs.Items.{item_gap_within, insert_item_there, insert_item_known, ascends_insert_key, updated_insert_key}
use Rattle.ordered_list.proofs.ordered_set.OrderedSet.insert.Goals as goal

pub insert_at-requires : goal.insert_at-requires
insert_at-requires g c =
    let within = item_gap_within g.T.Ord.cmp c.args.item c.deref.result.now c.in-Err.place c.in-Err.ensures.absent in
    omega (arith, within, c.deref.ensures.len)

-- an insert at a gap, or one that was refused
ascends_after : {P : Type 0} {E L : Type 0} (r : Result L E) (Q : P → Type 0) (old new there : P) → OnOk r (new ≡ there) → OnErr r (new ≡ old) → Q old
    → Q there → Q new
ascends_after (Ok u) Q old new there ok err before after = subst Q (sym ok) after
ascends_after (Err e) Q old new there ok err before after = subst Q (sym err) before

pub invariant_of-self : goal.invariant_of-self
invariant_of-self g c =
    let there = insert_item_there g.T.Ord.cmp c.args.item c.self.inside.items.items c.in-Err.place (rw c.deref.ensures.value at c.in-Err.ensures.absent) in
    ascends_after c.insert_at.result (IsStrictlySortedBy g.T.Ord.cmp) c.self.inside.items.items c.insert_at.new.items.items
    (insert c.self.inside.items.items c.in-Err.place c.args.item)
    c.insert_at.ensures.ok c.insert_at.ensures.unchanged c.self.invariant
    (subst (IsStrictlySortedBy g.T.Ord.cmp) (sym there)
    (ascends_insert_key g.T.Ord.cmp g.met.T.Ord.total c.self.inside.items.items c.args.item c.self.invariant))

pub returns-in-Ok-clause-ok : goal.returns-in-Ok-clause-ok
returns-in-Ok-clause-ok g c =
    let known = insert_item_known g.T.Ord.cmp c.args.item c.self.inside.items.items c.in-Ok.field-0 (rw c.deref.ensures.value at c.in-Ok.ensures.found) in
    rw (← c.self.view_is) known

pub returns-in-Err-clause-ok : goal.returns-in-Err-clause-ok
returns-in-Err-clause-ok g c =
    let there = insert_item_there g.T.Ord.cmp c.args.item c.self.inside.items.items c.in-Err.place (rw c.deref.ensures.value at c.in-Err.ensures.absent) in
    rw (← c.self.view_is, ← there) c.insert_at.ensures.ok

pub returns-in-Ok-clause-updates : goal.returns-in-Ok-clause-updates
returns-in-Ok-clause-updates g c = updated_insert_key g.T.Ord.cmp g.met.T.Ord.total c.args.self.now _ c.args.item (returns-in-Ok-clause-ok g c)

pub returns-in-Err-clause-updates : goal.returns-in-Err-clause-updates
returns-in-Err-clause-updates g c =
    on_ok_weaker c.insert_at.result (updated_insert_key g.T.Ord.cmp g.met.T.Ord.total c.args.self.now c.insert_at.new.items.items c.args.item)
    (returns-in-Err-clause-ok g c)
