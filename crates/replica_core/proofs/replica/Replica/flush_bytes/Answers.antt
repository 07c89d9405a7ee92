use Rattle.std.proofs.Common.{[], ◌∷◌, refl, sym}
use Rattle.wire_form.specs.Message as form
use Rattle.replica_core.proofs.Sent.{all_sent}
use Rattle.replica_core.proofs.replica.Replica.flush_bytes.Goals as goal

pub returns-clause-ok : goal.returns-clause-ok
returns-clause-ok g c = record {
  messages = form.Delta c.in-Some.only.now ∷ [];
  steps = rw (sym c.self.view_is) (all_sent g.H.PathHash.hash_of _ _ c.in-Some.only.now (rw c.in-Some.is at c.only.ensures.some) refl refl refl refl refl c.clear.ensures);
  letters_are = (c.in_ok-letter.ensures.ok, tt);
}
