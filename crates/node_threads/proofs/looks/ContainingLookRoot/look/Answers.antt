use Rattle.std.proofs.Common.{◌∙◌, ap, is_some, refl, subst}
use Rattle.std.specs.FinMap as finite
use Rattle.causal_join.specs.OrMap.{fields_at}
use Rattle.delta_ops.specs.LiveMap.{no_dots, store_state}
use Rattle.prefix_digest.specs.MapOf.{IsInOrder}
use Rattle.trie_map.specs.Keyed.{NoStoreIsEmpty, EachIsCanonical}
use Rattle.replica_core.proofs.Contained.{contained, copied_some}
use Rattle.replica_core.proofs.MappedPair.{mapped}
use Rattle.node_threads.proofs.looks.ContainingLookRoot.look.Goals as goal

pub returns : goal.returns
returns g c =
    let root = c.args.root.now in
    let promised = c.frozen.ensures in
    let filled : NoStoreIsEmpty fields_at root.1 = subst (NoStoreIsEmpty fields_at) promised.map promised.filled in
    let ordered : EachIsCanonical IsInOrder root.1 = subst (EachIsCanonical IsInOrder) promised.map promised.canonical in
    contained root.1 (store_state root) (mapped (root, no_dots) root refl filled ordered) c.args.self.now.key.now c.is_some.result
    (c.is_some.ensures ∙ copied_some c.lookup.result ∙ ap is_some c.lookup.ensures ∙ ap (λ m. is_some (finite.get m c.args.self.now.key.now)) promised.map)
