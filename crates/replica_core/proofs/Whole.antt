-- All of a live pair as one delta, and what a delta is where it is joined into nothing.
use Rattle.std.proofs.Common.{◌≡◌, ℕ, List, [], Bool, Option, Some, None, IsSome, IsTrue, false, refl, sym, ◌∙◌, ap, subst}
use Rattle.std.specs.Prelude.{◌↔◌, IsNone}
use Rattle.causal_context.specs.Context.{has}
use Rattle.causal_join.specs.Causal.{state_of}
use Rattle.causal_join.specs.OrMap.{FieldsValue, OrMapValue, fields_at, or_map_at, or_map_state, path_of}
use Rattle.delta_ops.specs.LiveMap.{live_state}
use Rattle.delta_ops.proofs.AsOrMap.{as_entries}
use Rattle.dot_store.specs.Store.{HoldsSame, state_with}
use Rattle.live_map.specs.Live.{PairValue}
use Rattle.op_model.specs.Meaning.{MapState, greater, state}
use Rattle.op_model.specs.State.{Same, joined, join, IsInside}
use Rattle.replica_model.proofs.States.{same_is}
use Rattle.trie_map.specs.Keyed.{at_keys}

module _ {Hash : Type 0} (pair : PairValue Hash FieldsValue) (d : OrMapValue) (holds : HoldsSame (or_map_at d.0) (at_keys fields_at pair.0))
    (knows : d.1 ≡ pair.1) where
  pub whole_same : Same (or_map_state d) (live_state pair)
  whole_same = record { at = λ place dot. holds (path_of place) dot ∙ sym (as_entries pair.0 (path_of place) dot); has = λ dot. ap (λ c. has c dot) knows }

  pub whole_inside : IsInside (state_of (at_keys fields_at) pair) → IsInside (state_with (or_map_at d.0) (has d.1))
  whole_inside inside = λ path dot some. subst (λ c. IsTrue (has c dot)) (sym knows) (inside path dot (subst IsSome (holds path dot) some))

-- where it is not None just because of this, it is there
pub is_there : {T : Type 0} (o : Option T) {P : Type 0} → IsNone o ↔ (P → ⊥) → P → IsSome o
is_there None none p = absurd (none.0 refl p)
is_there (Some x) none p = refl

pub join_nothing : (x : MapState) → join greater (state []) x ≡ x
join_nothing x = same_is (join greater (state []) x) x (record { at = λ place dot. by (x.at place dot) (x.has dot); has = λ dot. refl })
  where
    by : (o : Option (List ℕ)) (b : Bool) → joined greater None false o b ≡ o
    by None b = refl
    by (Some y) b = refl
