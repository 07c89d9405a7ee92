-- What a session gives, as the join into a live pair asks for it.
use Rattle.std.proofs.Common.{◌≡◌, ℕ, List, [], ◌∷◌, Bool, true, false, Option, Some, None, IsSome, cond, refl, sym, ◌∙◌, ap, subst}
use Rattle.std.specs.Prelude.{◌&&◌}
use Rattle.std.specs.BTreeMap.{is_at}
use Rattle.std.specs.FinMap as finite
use Rattle.std.specs.Map.{lookup}
use Rattle.std.proofs.lemmas.Bool.{false≢true}
use Rattle.causal_context.specs.Context.{ContextValue, has}
use Rattle.causal_join.specs.Causal.{state_of}
use Rattle.causal_join.specs.OrMap.{ValuesValue, FieldsValue, fields_at, path_of}
use Rattle.delta_ops.specs.LiveMap.{live_state}
use Rattle.delta_ops.proofs.AsOrMap.{as_entries}
use Rattle.dot_store.specs.Stores.{at_values, at_stores, held_by}
use Rattle.dots.specs.Bytes.{bytes_cmp}
use Rattle.dots.specs.Dot.{DotValue, same_dot}
use Rattle.gen_trie.specs.Shown.{Shown}
use Rattle.live_map.specs.Closing.{IsBuiltOn}
use Rattle.live_map.specs.Live.{PairValue}
use Rattle.op_model.specs.Meaning.{greater}
use Rattle.op_model.specs.Place.{place_of}
use Rattle.op_model.specs.State.{Same, joined, join, IsInside}
use Rattle.op_model.proofs.Dots.{same_dot-true}
use Rattle.page_fetching.specs.Building.{BuiltValue, GoesOn}
use Rattle.replica_model.proofs.States.{same_is}
use Rattle.sync_model.specs.Closing as closing
use Rattle.sync_model.specs.Closing.{IsBelow}
use Rattle.sync_model.specs.Differ.{Held}
use Rattle.sync_model.specs.Fetch.{within_values, within_fields}
use Rattle.sync_model.specs.Laws.{KnowsEachDot}
use Rattle.trie_map.specs.Keyed.{at_keys}

and_left : (a b : Bool) → (a && b) ≡ true → a ≡ true
and_left true b e = refl
and_left false b e = e

and_right : (a b : Bool) → (a && b) ≡ true → b ≡ true
and_right true b e = e
and_right false b e = absurd (false≢true e)

-- ---- a dot of what is within the known ones is known

module _ (known : DotValue → Bool) (dot : DotValue) where
  value_known : (vs : ValuesValue) → within_values known vs ≡ true → IsSome (lookup (same_dot dot) vs) → known dot ≡ true
  value_known [] all some = absurd (false≢true some)
  value_known (v ∷ vs) all some = step (same_dot dot v.0) refl some (value_known vs (and_right (known v.0) (within_values known vs) all))
    where
      step : (b : Bool) → same_dot dot v.0 ≡ b → IsSome (cond b (Some v.1) (lookup (same_dot dot) vs)) → (IsSome (lookup (same_dot dot) vs) → known dot ≡ true)
          → known dot ≡ true
      step true same here rest = subst (λ d. known d ≡ true) (sym (same_dot-true dot v.0 same)) (and_left (known v.0) (within_values known vs) all)
      step false apart there rest = rest there

  value_held : (vs : ValuesValue) → within_values known vs ≡ true → IsSome (at_values vs tt dot) → known dot ≡ true
  unfolding at_values
  value_held vs all some = value_known vs all some

  field_known : (field : List ℕ) (fs : FieldsValue) → within_fields known fs ≡ true → IsSome (held_by at_values (lookup (is_at (bytes_cmp field)) fs) tt dot)
      → known dot ≡ true
  field_known field [] all some = absurd (false≢true some)
  field_known field (f ∷ fs) all some =
      step (is_at (bytes_cmp field) f.0) some (field_known field fs (and_right (within_values known f.1) (within_fields known fs) all))
    where
      step : (b : Bool) → IsSome (held_by at_values (cond b (Some f.1) (lookup (is_at (bytes_cmp field)) fs)) tt dot)
          → (IsSome (held_by at_values (lookup (is_at (bytes_cmp field)) fs) tt dot) → known dot ≡ true) → known dot ≡ true
      step true here rest = value_held f.1 (and_left (within_values known f.1) (within_fields known fs) all) here
      step false there rest = rest there

  field_held : (field : List ℕ) (fs : FieldsValue) → within_fields known fs ≡ true → IsSome (fields_at fs (field, tt) dot) → known dot ≡ true
  unfolding at_stores
  field_held field fs all some = field_known field fs all some

  key_held : (field : List ℕ) (o : Option FieldsValue) → ((fs : FieldsValue) → o ≡ Some fs → within_fields known fs ≡ true)
      → IsSome (held_by fields_at o (field, tt) dot) → known dot ≡ true
  key_held field None all some = absurd (false≢true some)
  key_held field (Some fs) all some = field_held field fs (all fs refl) some

module _ {Hash : Type 0} (hash : Hash) (live : PairValue Hash FieldsValue) (m : Held) (context : ContextValue) where
  -- a map that is known under a context is inside it
  pub built_inside : KnowsEachDot (has context) m → IsInside (state_of (at_keys fields_at) ((hash, m), context))
  unfolding at_keys
  built_inside within path dot some = key_held (has context) dot path.1.0 (finite.get m path.0) (λ fs is. within path.0 fs is) some

  -- what is below the live state is below the pair
  pub below_pair : IsBelow (closing.held_state m (has context)) (live_state live)
      → Same (join greater (state_of (at_keys fields_at) live) (state_of (at_keys fields_at) ((hash, m), context))) (state_of (at_keys fields_at) live)
  unfolding at_keys
  below_pair below = record {
    at = λ path dot.
        ap (λ own. joined greater own (has live.1 dot) (held_by fields_at (finite.get m path.0) path.1 dot) (has context dot))
        (sym (as_entries live.0 path dot))
        ∙ below.at (place_of path.0 path.1.0) dot ∙ as_entries live.0 path dot;
    has = below.has;
  }

  -- and the pair with the map joined in is the live state with it joined in
  pub opened_joined : (next : PairValue Hash FieldsValue)
      → Same (state_of (at_keys fields_at) next) (join greater (state_of (at_keys fields_at) live) (state_of (at_keys fields_at) ((hash, m), context)))
      → live_state next ≡ join greater (live_state live) (closing.held_state m (has context))
  unfolding at_keys
  opened_joined next same = same_is (live_state next) (join greater (live_state live) (closing.held_state m (has context))) (record {
    at = λ place dot. as_entries next.0 (path_of place) dot ∙ same.at (path_of place) dot
        ∙ ap (λ own. joined greater own (has live.1 dot) (held_by fields_at (finite.get m place.key) (place.field, tt) dot) (has context dot))
        (sym (as_entries live.0 (path_of place) dot));
    has = same.has;
  })

-- what a session gives is built on what it began with
pub opened_builds : {Hash : Type 0} (live : PairValue Hash FieldsValue) (base entries : Shown Hash FieldsValue) (seen : ContextValue) (touched : Shown Hash (Unit {0}))
    (context : ContextValue) (built : BuiltValue Hash)
    → IsBelow (closing.held_state base.map (has seen)) (live_state live)
    → GoesOn (record { hash = base.hash; entries = base.map; touched = finite.empty }) built
    → KnowsEachDot (has context) built.entries
    → entries.map ≡ built.entries
    → touched.map ≡ built.touched
    → IsBuiltOn fields_at greater live base seen entries touched context
opened_builds live base entries seen touched context built below goes known same_entries same_touched = record {
  below = below_pair base.hash live base.map seen below;
  rest = λ key none. ap (λ m. finite.get m key) same_entries ∙ goes.rest key (ap (λ t. finite.get t key) (sym same_touched) ∙ none);
  inside = built_inside entries.hash live entries.map context (subst (KnowsEachDot (has context)) (sym same_entries) known);
}
