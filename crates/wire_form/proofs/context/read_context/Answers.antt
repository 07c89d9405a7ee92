use Rattle.std.proofs.Common.{refl}
use Rattle.std.proofs.lemmas.Result.{err_from_is_err_and}
use Rattle.wire_form.specs.Spelling.{counted, AreCounted, HasNoSpelling}
use Rattle.wire_form.specs.Parts.{dot_bytes, IsDot, context, IsContext}
use Rattle.wire_form.proofs.Reading.{refuses_weaker}
use Rattle.wire_form.proofs.Bodies.{no_cloud, context_begins, no_context}
use Rattle.wire_form.proofs.context.read_context.Goals as goal

pub returns-in_err-cloud : goal.returns-in_err-cloud
returns-in_err-cloud g c =
    let p = err_from_is_err_and c.from_residual-in_err-cloud.result c.from_residual-in_err-cloud.ensures.1 in
    rw (p.1, p.2)
    (refuses_weaker (HasNoSpelling (counted dot_bytes) (AreCounted IsDot) c.in_ok-vector.rest.now) (HasNoSpelling context IsContext c.args.bytes.now)
    c.in_err-cloud.field-0.0
    (no_cloud c.args.bytes.now c.in_ok-vector.vector.items c.in_ok-vector.rest.now c.in_ok-vector.ensures) c.in_err-cloud.ensures)

pub returns-in-Some : goal.returns-in-Some
returns-in-Some g c =
    let canonical = rw c.in-Some.is at c.from_parts.ensures.canonical in
    let same = rw c.in-Some.is at c.from_parts.ensures.form in
    context_begins c.args.bytes.now c.in_ok-vector.vector.items c.in_ok-vector.rest.now c.in_ok-cloud.cloud.items c.in_ok-cloud.rest.now c.in-Some.context
    c.in_ok-vector.ensures c.in_ok-cloud.ensures (canonical.0 refl) same

pub returns-in-None : goal.returns-in-None
returns-in-None g c =
    let canonical = rw c.in-None.is at c.from_parts.ensures.canonical in
    no_context c.args.bytes.now c.in_ok-vector.vector.items c.in_ok-vector.rest.now c.in_ok-cloud.cloud.items c.in_ok-cloud.rest.now c.in_ok-vector.ensures
    c.in_ok-cloud.ensures canonical.1
