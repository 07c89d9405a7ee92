use Rattle.std.proofs.Common.{◌∙◌, map, sym, ap, subst}
use Rattle.std.proofs.lemmas.Result.{IfOk-weaker}
use Rattle.std.specs.List.Sorted.{IsStrictlySortedBy}
use Rattle.std.specs.Ordering.{nat_cmp}
use Rattle.wire_form.specs.Session.{SessionValue}
use Rattle.sync_protocol.specs.Asking.{AskerValue}
use Rattle.replica_model.specs.Replica.{Open}
use Rattle.replica_core.specs.Meaning.{ReplicaValue, open_of}
use Rattle.replica_core.proofs.Written.{named_alike, numbered_alike}
use Rattle.replica_core.proofs.replica.Replica.sessions.Goals as goal

pub returns-clause-ok : goal.returns-clause-ok
returns-clause-ok g c =
    IfOk-weaker c.named_sessions.result _ _ (λ found is. is ∙ ap (map (λ (a : AskerValue _). a.session)) c.deref.ensures.value
    ∙ named_alike c.self.inside.sessions.items
    ∙ ap (λ (r : ReplicaValue _). map (λ (o : Open). o.session) (map open_of r.sessions)) c.self.view_is) c.named_sessions.ensures.ok

pub returns-clause-ordered : goal.returns-clause-ordered
returns-clause-ordered g c =
    IfOk-weaker c.named_sessions.result _ _ (λ found is. subst (IsStrictlySortedBy nat_cmp)
    (numbered_alike c.self.inside.sessions.items ∙ ap (map (λ (s : SessionValue). s.number))
    (sym (is ∙ ap (map (λ (a : AskerValue _). a.session)) c.deref.ensures.value))) c.self.invariant.ascend)
    c.named_sessions.ensures.ok
