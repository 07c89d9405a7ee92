use Rattle.std.proofs.Common.{List, ℕ, subst, sym, take}
use Rattle.std.proofs.lemmas.List.{take_all}
use Rattle.ordered_list.proofs.Places.{take_next}
use Rattle.op_model.specs.Meaning.{StandsWithin}
use Rattle.replica_core.specs.Meaning.{meaning}
use Rattle.replica_core.specs.Reading.{Lists}
use Rattle.trace_world.specs.Does.{AddsEntries}
use Rattle.trace_world.proofs.ReadTexts.{adds_none, adds_more}
use Rattle.trace_world.proofs.reading.push_keys.Goals as goal

pub loop-key-init : goal.loop-key-init
loop-key-init g c =
    let P : List ℕ → List (List ℕ) → Type 0 = λ key. Lists (StandsWithin (meaning c.args.replica.now).live key) in
    adds_none P c.args.out.now.items

pub loop-key-preserved : goal.loop-key-preserved
loop-key-preserved g c =
    let P : List ℕ → List (List ℕ) → Type 0 = λ key. Lists (StandsWithin (meaning c.args.replica.now).live key) in
    let label : List ℕ = c.key-item.result in
    let added = rw c.bytes.ensures.value at c.in_ok-push_entry.ensures.ok in
    subst (λ ls. AddsEntries P ls c.args.out.now.items c.push_entry.new.out.items)
    (sym (take_next c.args.keys.now c.loop-key.key-index label c.loop-key-test.true c.key-item.is))
    (adds_more P (take c.loop-key.key-index c.args.keys.now) c.in_ok-found.found.items c.as_slice.result.now label c.args.out.now.items c.loop-key.out.items
    c.push_entry.new.out.items
    c.loop-key.invariant c.in_ok-found.ensures.ok c.as_slice.ensures.value added)

pub returns-clause-ok : goal.returns-clause-ok
returns-clause-ok g c =
    let P : List ℕ → List (List ℕ) → Type 0 = λ key. Lists (StandsWithin (meaning c.args.replica.now).live key) in
    subst (λ ls. AddsEntries P ls c.args.out.now.items c.loop-key.out.items) (take_all c.loop-key.key-index c.args.keys.now c.loop-key-test.false)
    c.loop-key.invariant
