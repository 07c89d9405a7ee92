use Rattle.replica_core.proofs.Meant.{both_ok}
use Rattle.node_threads.proofs.looks.KeyListingLookRoot.look.Goals as goal

-- the keys that hold a value
pub returns : goal.returns
returns g c = (
  both_ok c.keys.result (λ found ascending held. record { ascending = ascending; just = held }) c.keys.ensures.ascending c.keys.ensures.held,
  c.keys.ensures.err,
)
