use Rattle.std.proofs.Common.{◌≡◌, List, [], ap, rules}
use Rattle.std.specs.declared.sync.Arc.{Arc}
use Rattle.causal_join.specs.OrMap.{OrMapValue}
use Rattle.delta_ops.specs.Log.{deltas_of}
use Rattle.delta_ops.proofs.outgoing.Outgoing.clear.Goals as goal

none_of : {A : Type 0} (log : List (Arc OrMapValue A)) → log ≡ [] → deltas_of log ≡ []
none_of log is = ap deltas_of is

-- src/outgoing.rt
pub returns : goal.returns
returns g c = none_of _ (search (rules))
