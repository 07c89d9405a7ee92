use Rattle.wire_form.specs.Parts.{context, IsContext}
use Rattle.wire_form.proofs.Bodies.{context_unique}
use Rattle.wire_form.proofs.Wholes.{none_whole_end, whole_spelled}
use Rattle.wire_form.proofs.session_reading.read_known.Goals as goal

pub returns-then-not-is_empty : goal.returns-then-not-is_empty
returns-then-not-is_empty g c = none_whole_end context IsContext context_unique c.args.bytes.now c.in_ok-context.context c.in_ok-context.rest.now
    c.in_ok-context.ensures c.if-not-is_empty.ensures

pub returns : goal.returns
returns g c = whole_spelled context IsContext c.args.bytes.now c.in_ok-context.context c.in_ok-context.rest.now c.in_ok-context.ensures
    c.if-not-is_empty.ensures
