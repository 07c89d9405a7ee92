use Rattle.causal_join.specs.OrMap.{OrMapValue}
use Rattle.wire_form.specs.Spelling.{HasNoSpelling}
use Rattle.wire_form.specs.Store.{store, IsStoreOf}
use Rattle.wire_form.specs.Message.{SpellsBody}
use Rattle.wire_form.proofs.Reading.{refuses_weaker}
use Rattle.wire_form.proofs.Deltas.{no_body_store, no_body_end, delta_read}
use Rattle.wire_form.proofs.decoding.read_delta.Goals as goal

pub returns-in-Err : goal.returns-in-Err
returns-in-Err g c =
    refuses_weaker (HasNoSpelling (store c.args.plain) (IsStoreOf c.args.plain) c.in_ok-context.rest.now)
    ((d : OrMapValue) → SpellsBody c.args.plain c.args.bytes.now d → ⊥) c.in-Err.refusal
    (no_body_store c.args.plain c.args.bytes.now c.in_ok-context.context c.in_ok-context.rest.now c.in_ok-context.ensures) c.in-Err.ensures

pub returns-then-not-is_empty : goal.returns-then-not-is_empty
returns-then-not-is_empty g c =
    no_body_end c.args.plain c.args.bytes.now c.in_ok-context.context c.in_ok-context.rest.now c.in_ok-context.ensures c.in-Ok.front.0 c.in-Ok.front.1.now
    c.in-Ok.ensures c.if-not-is_empty.ensures

pub returns : goal.returns
returns g c =
    rw c.ok_or.ensures.value (delta_read c.args.plain c.args.bytes.now c.in_ok-context.context c.in_ok-context.rest.now c.in-Ok.front.0 c.in-Ok.front.1.now
    c.in_ok-context.ensures c.in-Ok.ensures c.if-not-is_empty.ensures c.from_parts.result
    c.from_parts.ensures.pair c.from_parts.ensures.outside)
