use Rattle.std.proofs.Common.{ap, ◌∙◌, is_some}
use Rattle.std.specs.FinMap as finite
use Rattle.causal_join.specs.OrMap.{FieldsValue}
use Rattle.delta_ops.specs.LiveMap.{live_state}
use Rattle.trie_map.specs.Keyed.{TrieMapValue}
use Rattle.replica_core.proofs.Contained.{contained, copied_some}
use Rattle.replica_core.proofs.MappedPair.{mapped}
use Rattle.replica_core.proofs.replica.Replica.contains.Goals as goal

pub returns : goal.returns
returns g c =
    let pair = c.self.inside.live.0 in
    let is = mapped pair c.store.result.now c.store.ensures.value c.store.ensures.filled c.store.ensures.canonical in
    rw (← c.self.view_is) (contained pair.0.1 (live_state pair) is c.args.key.now c.is_some.result
    (c.is_some.ensures ∙ copied_some c.get.result ∙ ap is_some c.get.ensures.store
    ∙ ap (λ (m : TrieMapValue _ FieldsValue). is_some (finite.get m.1 c.args.key.now)) c.store.ensures.value))
