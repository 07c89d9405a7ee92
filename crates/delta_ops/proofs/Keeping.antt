-- The keys of a map, gathered one after another.
use Rattle.std.proofs.Common.{◌≡◌, ℕ, List, Contains, Some, sym, ap, ◌∙◌, subst}
use Rattle.std.specs.Prelude.{is_some, ◌⊎◌}
use Rattle.std.specs.BTreeSet.{insert_key}
use Rattle.std.specs.FinMap as finite
use Rattle.causal_join.specs.OrMap.{FieldsValue, fields_at}
use Rattle.delta_ops.proofs.Gathering.{insert_key-with_one}
use Rattle.delta_ops.proofs.Listing.{somewhere}
use Rattle.dot_store.specs.Store.{HasNothing}
use Rattle.dots.specs.Bytes.{bytes_cmp}
use Rattle.op_model.proofs.Ascending.{in_with_one, from_with_one, with_one-ascends}
use Rattle.op_model.specs.Meaning.{HoldsKey}
use Rattle.op_model.specs.Shown.{IsAscending, with_one}
use Rattle.live_map.specs.Live.{PairValue}
use Rattle.trie_map.proofs.Holding.{held_of, store_of}
use Rattle.delta_ops.specs.LiveMap.{live_state}
use Rattle.delta_ops.proofs.AsOrMap.{as_entries}

-- one key more
module _ (found new : List (List ℕ)) (key : List ℕ) (is : new ≡ insert_key bytes_cmp found key) where
  same : new ≡ with_one key found
  same = is ∙ insert_key-with_one key found

  pub more_ascend : IsAscending found → IsAscending new
  more_ascend ascending = subst IsAscending (sym same) (with_one-ascends key found ascending)

  pub more_has : Contains new key
  more_has = subst (λ keys. Contains keys key) (sym same) (in_with_one key found).0

  pub more_keeps : (q : List ℕ) → Contains found q → Contains new q
  more_keeps q h = subst (λ keys. Contains keys q) (sym same) ((in_with_one key found).1 q h)

  pub more_only : (q : List ℕ) → Contains new q → (q ≡ key) ⊎ Contains found q
  more_only q h = from_with_one key found q (subst (λ keys. Contains keys q) same h)

module _ {Hash : Type 0} (pair : PairValue Hash FieldsValue) where
  -- a key with fields holds something
  pub key_holds : (key : List ℕ) (fields : FieldsValue) → finite.get pair.0.1 key ≡ Some fields → ¬ HasNothing (fields_at fields)
      → HoldsKey (live_state pair) key
  key_holds key fields is filled =
      let there = somewhere fields filled in (
        there.0,
        (
          there.1.0,
          ap is_some (as_entries pair.0 (key, (there.0, tt)) there.1.0 ∙ held_of fields_at pair.0 key fields is (there.0, tt) there.1.0)
              ∙ there.1.1,
        ),
      )

  -- and one that holds something has fields
  pub holds_fields : (key : List ℕ) → HoldsKey (live_state pair) key → (fields : FieldsValue) × (finite.get pair.0.1 key ≡ Some fields)
  holds_fields key (field, (d, some)) =
      let there = store_of fields_at pair.0 (key, (field, tt)) d (sym (ap is_some (as_entries pair.0 (key, (field, tt)) d)) ∙ some) in
      (there.0, there.1)
