-- What a live pair of a replica stands for, when a delta or what a session built is joined in.
use Rattle.std.proofs.Common.{◌≡◌, ◌||◌, ℕ, List, [], Bool, true, false, Option, Some, None, IsSome, IsTrue, refl, sym, ◌∙◌, ap}
use Rattle.std.proofs.lemmas.Bool.{false≢true}
use Rattle.std.specs.FinMap as finite
use Rattle.causal_context.specs.Context.{HasNone, has}
use Rattle.causal_join.specs.Causal.{state_of}
use Rattle.causal_join.specs.OrMap.{FieldsValue, OrMapValue, fields_at, or_map_at, or_map_state, path_of}
use Rattle.delta_ops.specs.LiveMap.{live_state}
use Rattle.delta_ops.proofs.AsOrMap.{as_entries}
use Rattle.dot_store.specs.Store.{HasNothing}
use Rattle.op_model.specs.Meaning.{MapState, greater, state}
use Rattle.live_map.specs.Live.{PairValue}
use Rattle.op_model.specs.State.{Same, joined, join, IsInside}
use Rattle.prefix_digest.specs.MapOf.{IsInOrder, IsMapOf}
use Rattle.trie_map.specs.Keyed.{at_keys, NoStoreIsEmpty}
use Rattle.replica_model.proofs.States.{same_is}

module _ {Hash : Type 0} where
  -- the join of a delta into a live pair is that of their states
  join-live : (both live : PairValue Hash FieldsValue) (delta : OrMapValue)
      → Same (state_of (at_keys fields_at) both) (join greater (state_of (at_keys fields_at) live) (state_of or_map_at delta))
      → Same (live_state both) (join greater (live_state live) (or_map_state delta))
  join-live both live delta same = record {
    at = λ place dot. as_entries both.0 (path_of place) dot ∙ same.at (path_of place) dot
        ∙ ap (λ own. joined greater own (has live.1 dot) (or_map_at delta.0 (path_of place) dot) (has delta.1 dot))
        (sym (as_entries live.0 (path_of place) dot));
    has = same.has;
  }

  pub live_joined : (both live : PairValue Hash FieldsValue) (delta : OrMapValue)
      → Same (state_of (at_keys fields_at) both) (join greater (state_of (at_keys fields_at) live) (state_of or_map_at delta))
      → live_state both ≡ join greater (live_state live) (or_map_state delta)
  live_joined both live delta same = same_is (live_state both) (join greater (live_state live) (or_map_state delta)) (join-live both live delta same)

  -- a live pair that holds nothing and knows nothing
  bottom_same : (live : PairValue Hash FieldsValue) → HasNothing (at_keys fields_at live.0) → HasNone live.1 → Same (live_state live) (state [])
  bottom_same live nothing unknown = record { at = λ place dot. as_entries live.0 (path_of place) dot ∙ nothing (path_of place) dot; has = unknown }

  pub bottom_live : (live : PairValue Hash FieldsValue) → HasNothing (at_keys fields_at live.0) → HasNone live.1 → live_state live ≡ state []
  bottom_live live nothing unknown = same_is (live_state live) (state []) (bottom_same live nothing unknown)

  -- its map stands for it
  pub pair_map : (live : PairValue Hash FieldsValue) → NoStoreIsEmpty fields_at live.0.1
      → ((key : List ℕ) (held : FieldsValue) → finite.get live.0.1 key ≡ Some held → IsInOrder held)
      → IsMapOf live.0.1 (live_state live)
  unfolding at_keys
  pair_map live filled ordered = record { at = λ place dot. sym (as_entries live.0 (path_of place) dot); filled = filled; ordered = ordered }

-- a delta that knows no dot changes nothing
unknown_at : (own : Option (List ℕ)) (knows : Bool) (held : Option (List ℕ)) (known : Bool) → known ≡ false → (IsSome held → IsTrue known)
    → own ≡ joined greater own knows held known
unknown_at own knows (Some x) known none inside = absurd (false≢true (sym none ∙ inside refl))
unknown_at (Some x) knows None true none inside = absurd (false≢true (sym none))
unknown_at (Some x) knows None false none inside = refl
unknown_at None knows None known none inside = refl

unknown_has : (knows known : Bool) → known ≡ false → knows ≡ (knows || known)
unknown_has true known none = refl
unknown_has false known none = sym none

pub join-unknown : (p : MapState) (delta : OrMapValue) → IsInside (state_of or_map_at delta) → HasNone delta.1 → p ≡ join greater p (or_map_state delta)
join-unknown p delta inside none = same_is p (join greater p (or_map_state delta)) (record {
  at = λ place dot. unknown_at (p.at place dot) (p.has dot) ((or_map_state delta).at place dot) ((or_map_state delta).has dot) (none dot)
      (inside (path_of place) dot);
  has = λ dot. unknown_has (p.has dot) ((or_map_state delta).has dot) (none dot);
})
