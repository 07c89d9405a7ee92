use Rattle.std.proofs.Common.{ℕ, Err}
use Rattle.std.proofs.lemmas.Result.{err_from_is_err_and}
use Rattle.hash_path.specs.Fnv1a.{fnv1a}
use Rattle.op_model.specs.Place.{place_of}
use Rattle.replica_model.specs.Step as step
use Rattle.replica_model.specs.World.{World}
use Rattle.trace_world.specs.Outcome.{CommandOutcome, IsCall, with_bytes}
use Rattle.trace_world.proofs.Commands.{does_at, does_absent, does_with, does_long}
use Rattle.trace_world.proofs.teller.Teller.remove_field.Goals as goal

pub returns-then-not-has_replica : goal.returns-then-not-has_replica
returns-then-not-has_replica g c =
    let made : World → CommandOutcome → Type 0 = λ w. IsCall fnv1a w c.args.name (step.RemoveField (place_of c.args.key.now c.args.field.now)) in
    let with_field : World → CommandOutcome → Type 0 = λ w. with_bytes c.args.field.now (made w) in
    let with_key : World → CommandOutcome → Type 0 = λ w. with_bytes c.args.key.now (with_field w) in
    does_absent with_key c.args.name c.args.self.now (c.has_replica.ensures.absent c.if-not-has_replica.true)

pub returns-in_err-key : goal.returns-in_err-key
returns-in_err-key g c =
    let p = err_from_is_err_and c.from_residual.result c.from_residual.ensures.1 in
    let made : World → CommandOutcome → Type 0 = λ w. IsCall fnv1a w c.args.name (step.RemoveField (place_of c.args.key.now c.args.field.now)) in
    let with_field : World → CommandOutcome → Type 0 = λ w. with_bytes c.args.field.now (made w) in
    let with_key : World → CommandOutcome → Type 0 = λ w. with_bytes c.args.key.now (with_field w) in
    rw (p.1, p.2) (does_at {A = ℕ} with_key c.args.name c.args.self.now c.args.self.now (Err c.in_err-key.field-0.0)
    (c.has_replica.ensures.there c.if-not-has_replica.false)
    (does_long with_field c.args.key.now c.args.self.now c.in_err-key.field-0.0 c.in_err-key.ensures.err))

pub returns-in_err-field : goal.returns-in_err-field
returns-in_err-field g c =
    let p = err_from_is_err_and c.from_residual-in_err-field.result c.from_residual-in_err-field.ensures.1 in
    let made : World → CommandOutcome → Type 0 = λ w. IsCall fnv1a w c.args.name (step.RemoveField (place_of c.args.key.now c.args.field.now)) in
    let with_field : World → CommandOutcome → Type 0 = λ w. with_bytes c.args.field.now (made w) in
    let with_key : World → CommandOutcome → Type 0 = λ w. with_bytes c.args.key.now (with_field w) in
    rw (p.1, p.2) (does_at {A = ℕ} with_key c.args.name c.args.self.now c.args.self.now (Err c.in_err-field.field-0.0)
    (c.has_replica.ensures.there c.if-not-has_replica.false)
    (does_with {A = ℕ} with_field c.args.key.now c.args.self.now c.args.self.now (Err c.in_err-field.field-0.0) c.in_ok-key.ensures.ok.1
    (does_long made c.args.field.now c.args.self.now c.in_err-field.field-0.0 c.in_err-field.ensures.err)))

pub returns : goal.returns
returns g c =
    let called = rw (c.in_ok-key.ensures.ok.0, c.in_ok-field.ensures.ok.0) at c.call.ensures in
    let made : World → CommandOutcome → Type 0 = λ w. IsCall fnv1a w c.args.name (step.RemoveField (place_of c.args.key.now c.args.field.now)) in
    let with_field : World → CommandOutcome → Type 0 = λ w. with_bytes c.args.field.now (made w) in
    let with_key : World → CommandOutcome → Type 0 = λ w. with_bytes c.args.key.now (with_field w) in
    does_at with_key c.args.name c.args.self.now c.call.new.self c.call.result (c.has_replica.ensures.there c.if-not-has_replica.false)
    (does_with with_field c.args.key.now c.args.self.now c.call.new.self c.call.result c.in_ok-key.ensures.ok.1
    (does_with made c.args.field.now c.args.self.now c.call.new.self c.call.result c.in_ok-field.ensures.ok.1 (called)))
