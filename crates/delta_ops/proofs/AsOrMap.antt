-- A map kept as a trie holds what the list of its entries does.
use Rattle.std.proofs.Common.{◌≡◌, ℕ, List, [], ◌∷◌, cond, Some, sym, ap, ◌∙◌, refl}
use Rattle.std.specs.Prelude.{is_some}
use Rattle.std.specs.BTreeMap.{is_at}
use Rattle.std.specs.Map.{lookup}
use Rattle.std.specs.Ordering.{eq_by_cmp}
use Rattle.std.specs.FinMap as finite
use Rattle.std.specs.FinMap.{get-entries}
use Rattle.std.specs.FinMap.Entries.{find}
use Rattle.causal_join.specs.Causal.{state_of}
use Rattle.causal_join.specs.OrMap.{FieldsValue, fields_at, or_map_at}
use Rattle.dot_store.specs.Stores.{at_stores, held_by}
use Rattle.dots.specs.Bytes.{bytes_cmp}
use Rattle.dots.specs.Dot.{DotValue}
use Rattle.op_model.specs.State.{IsInside}
use Rattle.trie_map.specs.Keyed.{TrieMapValue, at_keys}
use Rattle.live_map.specs.Live.{PairValue}
use Rattle.delta_ops.specs.LiveMap.{as_or_map}

lookup-find : {V : Type 0} (q : List ℕ) (es : List (List ℕ × V)) → lookup (is_at (bytes_cmp q)) es ≡ find bytes_cmp q es
lookup-find q [] = refl
lookup-find q (e ∷ es) = ap (cond (eq_by_cmp bytes_cmp q e.0) (Some e.1)) (lookup-find q es)

pub lookup_is : {V : Type 0} (m : finite.FinMap bytes_cmp V) (q : List ℕ) → lookup (is_at (bytes_cmp q)) (finite.entries m) ≡ finite.get m q
lookup_is m q = lookup-find q (finite.entries m) ∙ sym (get-entries m q)

module _ {Hash : Type 0} where
  pub as_entries : (map : TrieMapValue Hash FieldsValue) (path : List ℕ × (List ℕ × Unit {0})) (d : DotValue)
      → or_map_at (finite.entries map.1) path d ≡ at_keys fields_at map path d
  unfolding at_stores at_keys
  as_entries map path d = ap (λ o. held_by fields_at o path.1 d) (lookup_is map.1 path.0)

  pub inside_as : (pair : PairValue Hash FieldsValue) → IsInside (state_of (at_keys fields_at) pair) → IsInside (state_of or_map_at (as_or_map pair))
  inside_as pair inside path d some = inside path d (sym (ap is_some (as_entries pair.0 path d)) ∙ some)
