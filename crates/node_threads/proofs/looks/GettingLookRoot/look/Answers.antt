use Rattle.replica_core.proofs.Meant.{both_ok}
use Rattle.node_threads.proofs.looks.GettingLookRoot.look.Goals as goal

-- the values at the place of the key and the field
pub returns : goal.returns
returns g c = (
  both_ok c.values.result (λ found ascending held. record { ascending = ascending; just = held }) c.values.ensures.ascending c.values.ensures.held,
  c.values.ensures.err,
)
