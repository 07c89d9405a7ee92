use Rattle.std.proofs.Common.{subst}
use Rattle.std.proofs.lemmas.Option.{IfSome_then}
use Rattle.std.proofs.lemmas.Result.{IfOk-weaker}
use Rattle.replica_core.specs.Turning.{CanTake}
use Rattle.replica_core.proofs.replica.Replica.joined_by_turn.Goals as goal

pub joined_by_end-requires : goal.joined_by_end-requires
joined_by_end-requires g c = (
  c.requires.0,
  c.requires.1,
  subst (CanTake g.H.PathHash.hash_of c.requires.0 c.args.turn.next) (c.is_done.ensures c.if-not-is_done.false) c.requires.2,
)

pub returns-clause-ok : goal.returns-clause-ok
returns-clause-ok g c =
    IfOk-weaker c.joined_by_end.result _ _
    (λ found told. IfSome_then found told (λ delta live. record { done = c.is_done.ensures c.if-not-is_done.false; live = live })) c.joined_by_end.ensures.ok
