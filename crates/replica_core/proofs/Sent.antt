-- What a replica sends of what it made.
use Rattle.std.proofs.Common.{◌≡◌, ℕ, List, [], ◌∷◌, inl, inr, map, refl, sym, ap, subst, ◌∙◌}
use Rattle.causal_context.specs.Context.{HasNone}
use Rattle.causal_join.specs.OrMap.{OrMapValue, or_map_state}
use Rattle.delta_ops.specs.Group.{group_state}
use Rattle.op_model.specs.State.{Same}
use Rattle.replica_model.proofs.States.{same_is}
use Rattle.replica_model.specs.Mail.{Delta}
use Rattle.replica_model.specs.Replica.{flushed}
use Rattle.replica_model.specs.Step.{Do, Flush, Nothing, KnowsNone}
use Rattle.replica_core.specs.Meaning.{ReplicaValue, meaning}
use Rattle.replica_core.specs.Stepping.{Steps}
use Rattle.replica_core.proofs.Meant.{meaning_by}
use Rattle.replica_core.proofs.Waits.{all_waiting}

module _ {Hash : Type 0} (hash_of : Hash → List ℕ → ℕ) where
  pub nothing_sent : (r : ReplicaValue Hash) → KnowsNone (group_state r.group) → Steps hash_of r r (Do Flush) Nothing []
  nothing_sent r none = record {
    step = (refl, inl (none, refl, refl));
    waits = inl (subst KnowsNone (sym (all_waiting r.group)) none, refl);
    hash = refl;
  }

  pub all_sent : (old new : ReplicaValue Hash) (whole : OrMapValue) → Same (or_map_state whole) (group_state old.group) × (¬ HasNone whole.1)
      → new.name ≡ old.name → new.live ≡ old.live → new.opened ≡ old.opened → new.sessions ≡ old.sessions → new.kept ≡ old.kept → new.group ≡ []
      → Steps hash_of old new (Do Flush) Nothing (Delta (or_map_state whole) ∷ [])
  all_sent old new whole made name live opened sessions kept group = record {
    step = (
      refl,
      inr (
        (λ none. made.1 (λ dot. made.0.has dot ∙ none dot)),
        meaning_by new (flushed (meaning old)) name (ap (λ l. Rattle.delta_ops.specs.LiveMap.live_state l.0) live) (ap group_state group) opened
            (ap (Rattle.std.specs.Prelude.map Rattle.replica_core.specs.Meaning.open_of) sessions)
            (ap (Rattle.std.specs.Prelude.map Rattle.replica_core.specs.Meaning.kept_of) kept),
        ap (λ d. Delta d ∷ []) (same_is (or_map_state whole) (group_state old.group) made.0),
      ),
    );
    waits = inr (ap (map or_map_state) group);
    hash = ap (λ l. l.0.0.0) live;
  }
