use Rattle.std.proofs.Common.{◌∙◌, refl, subst}
use Rattle.causal_join.specs.OrMap.{fields_at}
use Rattle.delta_ops.specs.LiveMap.{no_dots}
use Rattle.hash_path.specs.Fnv1a.{fnv1a}
use Rattle.prefix_digest.specs.MapOf.{IsInOrder}
use Rattle.prefix_digest.specs.Page.{digest_at}
use Rattle.trie_map.specs.Keyed.{NoStoreIsEmpty, EachIsCanonical}
use Rattle.replica_core.proofs.MappedPair.{mapped}
use Rattle.node_threads.proofs.looks.DigestingLookRoot.look.Goals as goal

pub returns : goal.returns
returns g c =
    let root = c.args.root.now in
    let promised = c.frozen.ensures in
    let filled : NoStoreIsEmpty fields_at root.1 = subst (NoStoreIsEmpty fields_at) promised.map promised.filled in
    let ordered : EachIsCanonical IsInOrder root.1 = subst (EachIsCanonical IsInOrder) promised.map promised.canonical in
    (root.1, mapped (root, no_dots) root refl filled ordered, c.digest.ensures.value ∙ (λ i. digest_at fnv1a (promised.map i) (c.root.ensures i)))
