use Rattle.std.proofs.Common.{◌∙◌, ap}
use Rattle.std.proofs.lemmas.Option.{IfSome_then}
use Rattle.replica_model.specs.Replica.{next_session}
use Rattle.replica_core.specs.Meaning.{ReplicaValue, meaning}
use Rattle.replica_core.proofs.replica.Replica.next_session.Goals as goal

pub returns-clause-next : goal.returns-clause-next
returns-clause-next g c =
    IfSome_then c.new.result c.new.ensures.value
    (λ session made. made ∙ (λ i. record { asker = c.self.inside.name; answerer = c.args.peer; number = c.in_ok-number.ensures.1 i })
    ∙ ap (λ (r : ReplicaValue _). next_session (meaning r) c.args.peer) c.self.view_is)
