use Rattle.std.proofs.Common.{refl, sym}
use Rattle.replica_core.proofs.Sent.{nothing_sent, all_sent}
use Rattle.replica_core.proofs.replica.Replica.flush_to.Goals as goal

pub returns-in_default-clause-ok : goal.returns-in_default-clause-ok
returns-in_default-clause-ok g c = nothing_sent g.H.PathHash.hash_of c.args.self.now
    (rw (sym c.self.view_is) (rw c.in_default.is at c.in_ok-whole.ensures.none))

pub returns-clause-ok : goal.returns-clause-ok
returns-clause-ok g c =
    rw (sym c.self.view_is) (all_sent g.H.PathHash.hash_of _ _ c.in-Some.whole (rw c.in-Some.is at c.in_ok-whole.ensures.some)
    refl refl refl refl refl c.clear.ensures)
