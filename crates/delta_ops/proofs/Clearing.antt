-- The dots that stand anywhere, gathered key by key.
use Rattle.std.proofs.Common.{◌≡◌, ℕ, List, Some, sym, ap, ◌∙◌}
use Rattle.std.specs.Prelude.{IsTrue, is_some}
use Rattle.std.specs.FinMap as finite
use Rattle.causal_join.specs.OrMap.{FieldsValue, fields_at, path_of}
use Rattle.dot_store.specs.Store.{HoldsDot}
use Rattle.dots.specs.Dot.{DotValue}
use Rattle.op_model.specs.Made.{IsAnywhere, IsClearAt}
use Rattle.op_model.specs.Operation.{has}
use Rattle.op_model.specs.Place.{place_of}
use Rattle.live_map.specs.Live.{PairValue}
use Rattle.trie_map.proofs.Holding.{held_of, store_of}
use Rattle.delta_ops.specs.LiveMap.{live_state}
use Rattle.delta_ops.proofs.AsOrMap.{as_entries}

module _ {Hash : Type 0} (pair : PairValue Hash FieldsValue) where
  -- what stands at the fields of a key stands somewhere
  pub anywhere_of : (key : List ℕ) (fields : FieldsValue) → finite.get pair.0.1 key ≡ Some fields → (d : DotValue) → HoldsDot (fields_at fields) d
      → IsAnywhere (live_state pair) d
  anywhere_of key fields is d held =
      (place_of key held.0.0, ap is_some (as_entries pair.0 (key, held.0) d ∙ held_of fields_at pair.0 key fields is held.0 d) ∙ held.1)

  -- once all keys were gone through, just the dots that stand were gathered
  pub cleared : (dots : List DotValue) → ((d : DotValue) → IsTrue (has dots d) → IsAnywhere (live_state pair) d)
      → ((key : List ℕ) (fields : FieldsValue) → finite.get pair.0.1 key ≡ Some fields → (d : DotValue) → HoldsDot (fields_at fields) d → IsTrue (has dots d))
      → IsClearAt (live_state pair) dots
  cleared dots only all d = (
    only d,
    λ (place, some).
        let there = store_of fields_at pair.0 (path_of place) d (sym (ap is_some (as_entries pair.0 (path_of place) d)) ∙ some) in
        all place.key there.0 there.1 d ((place.field, tt), there.2),
  )
