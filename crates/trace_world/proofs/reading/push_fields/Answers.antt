use Rattle.std.proofs.Common.{List, ℕ, subst, sym, take}
use Rattle.std.proofs.lemmas.List.{take_all}
use Rattle.ordered_list.proofs.Places.{take_next}
use Rattle.op_model.specs.Meaning.{Stands}
use Rattle.op_model.specs.Place.{place_of}
use Rattle.replica_core.specs.Meaning.{meaning}
use Rattle.replica_core.specs.Reading.{Lists}
use Rattle.trace_world.specs.Does.{AddsEntries}
use Rattle.trace_world.proofs.ReadTexts.{adds_none, adds_more}
use Rattle.trace_world.proofs.reading.push_fields.Goals as goal

pub loop-field-init : goal.loop-field-init
loop-field-init g c =
    let P : List ℕ → List (List ℕ) → Type 0 = λ field. Lists (Stands (meaning c.args.replica.now).live (place_of c.args.key.now field)) in
    adds_none P c.args.out.now.items

pub loop-field-preserved : goal.loop-field-preserved
loop-field-preserved g c =
    let P : List ℕ → List (List ℕ) → Type 0 = λ field. Lists (Stands (meaning c.args.replica.now).live (place_of c.args.key.now field)) in
    let label : List ℕ = c.field-item.result in
    let added = rw c.bytes.ensures.value at c.in_ok-push_entry.ensures.ok in
    subst (λ ls. AddsEntries P ls c.args.out.now.items c.push_entry.new.out.items)
    (sym (take_next c.args.fields.now c.loop-field.field-index label c.loop-field-test.true c.field-item.is))
    (adds_more P (take c.loop-field.field-index c.args.fields.now) c.in_ok-found.found.items c.as_slice.result.now label c.args.out.now.items
    c.loop-field.out.items c.push_entry.new.out.items
    c.loop-field.invariant c.in_ok-found.ensures.ok c.as_slice.ensures.value added)

pub returns-clause-ok : goal.returns-clause-ok
returns-clause-ok g c =
    let P : List ℕ → List (List ℕ) → Type 0 = λ field. Lists (Stands (meaning c.args.replica.now).live (place_of c.args.key.now field)) in
    subst (λ ls. AddsEntries P ls c.args.out.now.items c.loop-field.out.items) (take_all c.loop-field.field-index c.args.fields.now c.loop-field-test.false)
    c.loop-field.invariant
