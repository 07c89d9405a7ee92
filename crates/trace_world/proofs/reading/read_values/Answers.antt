use Rattle.std.proofs.Common.{ℕ, Err, inr}
use Rattle.std.proofs.lemmas.Result.{err_from_is_err_and}
use Rattle.op_model.specs.Place.{place_of}
use Rattle.replica_core.specs.Meaning.{meaning}
use Rattle.trace_world.specs.Outcome.{CommandOutcome, with_bytes, ReadsValues}
use Rattle.trace_world.proofs.Commands.{tells_long, tells_with}
use Rattle.trace_world.proofs.ReadTexts.{values_told}
use Rattle.trace_world.proofs.reading.read_values.Goals as goal

-- the field is too long
pub returns-in_err-field : goal.returns-in_err-field
returns-in_err-field g c =
    let p = err_from_is_err_and c.from_residual-in_err-field.result c.from_residual-in_err-field.ensures.1 in
    let values : CommandOutcome → Type 0 = ReadsValues (place_of c.args.key.now c.args.field.now) (meaning c.args.replica.now).live in
    let with_field : CommandOutcome → Type 0 = with_bytes c.args.field.now values in
    rw (p.1, p.2) (tells_with {A = ℕ} with_field c.args.key.now (Err c.in_err-field.field-0.0) c.in_ok-key.ensures.ok.1
    (tells_long values c.args.field.now c.in_err-field.field-0.0 c.in_err-field.ensures.err))

-- the values at the place of the key and the field
pub returns : goal.returns
returns g c =
    let live = (meaning c.args.replica.now).live in
    inr (
      c.in_ok-key.ensures.ok.1,
      inr (
        c.in_ok-field.ensures.ok.1,
        values_told live (place_of c.args.key.now c.args.field.now) (place_of c.in_ok-key.key c.in_ok-field.field)
            c.in_ok-found.found.items c.as_slice.result.now c.in_ok-text.text.items
            (λ i. place_of (c.in_ok-key.ensures.ok.0 i) (c.in_ok-field.ensures.ok.0 i))
            c.in_ok-found.ensures.ok c.as_slice.ensures.value c.in_ok-text.ensures.ok,
      ),
    )
