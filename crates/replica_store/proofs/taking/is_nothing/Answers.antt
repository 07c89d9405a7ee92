use Rattle.std.proofs.Common.{sym, subst}
use Rattle.causal_context.specs.Context.{HasNone}
use Rattle.causal_join.specs.Causal.{state_of}
use Rattle.causal_join.specs.OrMap.{or_map_at}
use Rattle.wire_form.specs.Message.{message_of}
use Rattle.op_model.specs.State.{IsInside}
use Rattle.replica_model.specs.Mail.{mail_of}
use Rattle.replica_store.specs.Took.{BringsNothing}
use Rattle.replica_store.proofs.Gaining.{nothing_brought}
use Rattle.replica_store.proofs.taking.is_nothing.Goals as goal

pub returns-in-Delta : goal.returns-in-Delta
returns-in-Delta c = λ t.
    subst (λ m. BringsNothing (mail_of (message_of m))) (sym c.in-Delta.is)
    (nothing_brought c.in-Delta.delta c.context.ensures.inside (subst HasNone c.context.ensures.value (c.is_empty.ensures.0 t)))
