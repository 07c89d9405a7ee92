-- The map of a live pair stands for it.
use Rattle.std.proofs.Common.{◌≡◌, subst}
use Rattle.causal_join.specs.OrMap.{FieldsValue, fields_at}
use Rattle.delta_ops.specs.LiveMap.{live_state}
use Rattle.live_map.specs.Live.{PairValue}
use Rattle.prefix_digest.specs.MapOf.{IsInOrder, IsMapOf}
use Rattle.trie_map.specs.Keyed.{TrieMapValue, NoStoreIsEmpty, EachIsCanonical}
use Rattle.replica_core.proofs.Pairs.{pair_map}

pub mapped : {Hash : Type 0} (pair : PairValue Hash FieldsValue) (store : TrieMapValue Hash FieldsValue) → store ≡ pair.0 → NoStoreIsEmpty fields_at store.1
    → EachIsCanonical IsInOrder store.1
    → IsMapOf pair.0.1 (live_state pair)
mapped pair store is filled ordered = pair_map pair (subst (λ s. NoStoreIsEmpty fields_at s.1) is filled)
    (subst (λ s. EachIsCanonical IsInOrder s.1) is ordered)
