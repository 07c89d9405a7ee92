-- What stands in a snapshot is what the map that it is stored as stands for: over plain variables.
use Rattle.std.proofs.Common.{◌≡◌, ℕ, List, [], Bool, Option, Some, None, Bor, IsTrue, is_some, refl, ap, ◌∙◌, subst}
use Rattle.std.specs.Prelude.{◌↔◌}
use Rattle.std.specs.FinMap as finite
use Rattle.std.specs.Option.{option_map}
use Rattle.causal_join.specs.OrMap.{FieldsValue, fields_at}
use Rattle.delta_ops.specs.LiveMap.{no_dots, store_state}
use Rattle.dots.specs.Bytes.{bytes_cmp}
use Rattle.hash_path.specs.Fnv1a.{fnv1a}
use Rattle.op_model.specs.Meaning.{HoldsKey}
use Rattle.prefix_digest.specs.MapOf.{IsInOrder, IsMapOf}
use Rattle.prefix_digest.specs.Page.{digest_at}
use Rattle.replica_core.proofs.Contained.{contained}
use Rattle.replica_core.proofs.MappedPair.{mapped}
use Rattle.trie_map.specs.Keyed.{TrieMapValue, NoStoreIsEmpty, EachIsCanonical}
use Rattle.ginelm_c.specs.Reading.{IsRootDigest}

module _ {Hash : Type 0} (store : TrieMapValue Hash FieldsValue) (m : finite.FinMap bytes_cmp FieldsValue) (is : m ≡ store.1)
    (filled : NoStoreIsEmpty fields_at m) (canonical : EachIsCanonical IsInOrder m) where
  map_in : IsMapOf store.1 (store_state store)
  map_in = mapped (store, no_dots) store refl (subst (NoStoreIsEmpty fields_at) is filled) (subst (EachIsCanonical IsInOrder) is canonical)

  pub root_in : (found : Option (List ℕ)) → found ≡ digest_at fnv1a m [] → IsRootDigest (store_state store) found
  root_in found same = record { map = store.1; is_map = map_in; same = same ∙ ap (λ n. digest_at fnv1a n []) is }

  pub key_in : (key : List ℕ) (o : Option (Bor FieldsValue)) (found : Bool) → found ≡ is_some o → option_map (λ v. v.now) o ≡ finite.get m key
      → IsTrue found ↔ HoldsKey (store_state store) key
  key_in key o found told at =
      contained store.1 (store_state store) map_in key found (told ∙ (same_some o ∙ (ap is_some at ∙ ap (λ n. is_some (finite.get n key)) is)))
    where
      same_some : (p : Option (Bor FieldsValue)) → is_some p ≡ is_some (option_map (λ v. v.now) p)
      same_some None = refl
      same_some (Some b) = refl
