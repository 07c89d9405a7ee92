use Rattle.std.proofs.Common.{subst}
use Rattle.hash_path.specs.Fnv1a.{fnv1a}
use Rattle.op_model.specs.Place.{place_of}
use Rattle.replica_model.specs.Step as step
use Rattle.trace_world.specs.Does.{Does, In}
use Rattle.trace_world.specs.Outcome.{IsCall}
use Rattle.trace_world.proofs.Commands.{does_call, does_no_call}
use Rattle.trace_world.proofs.teller.Teller.put.Goals as goal

pub returns-in-Ok : goal.returns-in-Ok
returns-in-Ok g c =
    let put = step.Put (place_of c.args.key.now c.args.field.now) c.args.value.now in
    let of = c.in-Ok.ensures.ok in
    let P : step.Call → Type 0 = λ call. Does (In c.args.self.now (λ w. IsCall fnv1a w c.args.name call)) c.args.self.now c.call.new.self c.call.result in
    does_call c.args.name c.args.key.now c.args.field.now c.args.value.now put c.args.self.now c.call.new.self c.call.result of.1 of.2 of.3
    (subst P of.0 c.call.ensures)

pub returns-in-Err : goal.returns-in-Err
returns-in-Err g c =
    let put = step.Put (place_of c.args.key.now c.args.field.now) c.args.value.now in
    does_no_call c.args.name c.args.key.now c.args.field.now c.args.value.now put c.args.self.now c.in-Err.refusal c.or_unknown.result c.in-Err.ensures.err
    c.or_unknown.ensures
