use Rattle.std.proofs.Common.{ℕ, List, Contains, ◌↔◌, subst, sym}
use Rattle.std.proofs.lemmas.Result.{IfOk-weaker}
use Rattle.std.specs.Map.{keys_of}
use Rattle.delta_ops.specs.LiveMap.{as_or_map, live_state, no_dots}
use Rattle.op_model.specs.Meaning.{HoldsField}
use Rattle.op_model.specs.Shown.{IsAscending}
use Rattle.delta_ops.proofs.Listing.{ascends-from_sorted, fields_hold}
use Rattle.delta_ops.proofs.reading.fields.Goals as goal

pub returns-in-Some-clause-ascending : goal.returns-in-Some-clause-ascending
returns-in-Some-clause-ascending g c =
    IfOk-weaker c.copied_keys.result _ _ (λ found is. subst IsAscending (sym is) (ascends-from_sorted (keys_of c.entries.result.now) c.entries.ensures.ordered))
    c.copied_keys.ensures.ok

pub returns-in-Some-clause-held : goal.returns-in-Some-clause-held
returns-in-Some-clause-held g c =
    IfOk-weaker c.copied_keys.result _ _ (λ found is field.
    let P : List (List ℕ) → Type 0 = λ fields. Contains fields field ↔ HoldsField (live_state (c.args.store.now, no_dots)) c.args.key.now field in
    subst P (sym is) (fields_hold (as_or_map (c.args.store.now, no_dots)) c.args.key.now c.in-Some.fields.now c.entries.result.now c.in-Some.ensures.held
    c.entries.ensures.filled c.entries.ensures.held c.entries.ensures.only field)) c.copied_keys.ensures.ok
