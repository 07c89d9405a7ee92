-- The keys of a map's entries are those that hold something.
use Rattle.std.proofs.Common.{◌≡◌, ℕ, List, length, Contains, ◌↔◌, Option, None, Some, is_some, IsSome, refl, sym, ap, ◌∙◌}
use Rattle.std.specs.FinMap as finite
use Rattle.std.specs.FinMap.{entries_sorted, len-entries}
use Rattle.std.specs.Map.{keys_of}
use Rattle.std.specs.Ordering.{eq_by_cmp}
use Rattle.std.proofs.lemmas.Cmp.{eq_by_cmp_equiv, nat_list_cmp_total}
use Rattle.std.proofs.lemmas.List.{length-map}
use Rattle.std.proofs.lemmas.Map.Views.{Contains-keys_from_lookup, IsSome-lookup_from_Contains}
use Rattle.causal_join.specs.OrMap.{FieldsValue, fields_at}
use Rattle.delta_ops.specs.LiveMap.{live_state}
use Rattle.delta_ops.proofs.AsOrMap.{lookup_is}
use Rattle.delta_ops.proofs.Keeping.{key_holds, holds_fields}
use Rattle.delta_ops.proofs.Listing.{ascends-from_sorted}
use Rattle.dots.specs.Bytes.{bytes_cmp}
use Rattle.gen_trie.proofs.Ordered.{sorted_keys}
use Rattle.live_map.specs.Live.{PairValue}
use Rattle.op_model.proofs.Places.{same_bytes-true}
use Rattle.op_model.specs.Meaning.{HoldsKey}
use Rattle.op_model.specs.Shown.{IsAscending}
use Rattle.trie_map.specs.Keyed.{NoStoreIsEmpty}

some_of : {V : Type 0} (o : Option V) → IsSome o → (v : V) × (o ≡ Some v)
some_of None h = absurd cc
some_of (Some v) h = (v, refl)

module _ {Hash : Type 0} (pair : PairValue Hash FieldsValue) where
  -- the keys of the entries are those that hold something, ascending
  pub counted_keys : NoStoreIsEmpty fields_at pair.0.1
      → (listed : List (List ℕ)) × IsAscending listed × ((key : List ℕ) → Contains listed key ↔ HoldsKey (live_state pair) key)
      × (finite.len pair.0.1 ≡ length listed)
  counted_keys filled = (
    keys_of entries,
    ascends-from_sorted (keys_of entries) (sorted_keys entries (entries_sorted pair.0.1)),
    λ key. (
      λ h. let there = entry_of key h in key_holds pair key there.0 there.1 (filled key there.0 there.1),
      λ h. let there = holds_fields pair key h in in_entries key there.0 there.1,
    ),
    len-entries pair.0.1 ∙ sym (length-map entries (λ e. e.0)),
  )
    where
      entries : List (List ℕ × FieldsValue)
      entries = finite.entries pair.0.1

      entry_of : (key : List ℕ) → Contains (keys_of entries) key → (fields : FieldsValue) × (finite.get pair.0.1 key ≡ Some fields)
      entry_of key h = some_of (finite.get pair.0.1 key) (sym (ap is_some (lookup_is pair.0.1 key))
          ∙ IsSome-lookup_from_Contains {eq = eq_by_cmp bytes_cmp} (eq_by_cmp_equiv nat_list_cmp_total) key entries h)

      in_entries : (key : List ℕ) (fields : FieldsValue) → finite.get pair.0.1 key ≡ Some fields → Contains (keys_of entries) key
      in_entries key fields is = Contains-keys_from_lookup {eq = eq_by_cmp bytes_cmp} same_bytes-true key entries (ap is_some (lookup_is pair.0.1 key ∙ is))
