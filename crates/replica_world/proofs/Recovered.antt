-- What is kept of the replicas of a world, after a change at one name; and what a restart makes of them: over plain variables.
use Rattle.std.proofs.Common.{◌≡◌, ◌≢◌, ◌⊎◌, inl, inr, ℕ, ◌+◌, ◌==◌, Bool, true, false, cond, List, [], Option, Some, None, is_some, refl, sym, ap, ◌∙◌}
use Rattle.std.proofs.Common.{arith}
use Rattle.std.proofs.lemmas.Bool.Decides.{nat_tests}
use Rattle.std.specs.BTreeMap.{BTreeMap, get, Updates}
use Rattle.std.specs.Ordering.{nat_cmp}
use Rattle.std.specs.Option.{unwrap_or}
use Rattle.std.specs.Prelude.{IsSome}
use Rattle.dots.specs.declared.refusal.Refusal.{Refusal}
use Rattle.dots.specs.declared.refusal.Refusal.TheVariants.{OutOfMemory, UnknownReplica}
use Rattle.replica_model.specs.Replica.{restarts}
use Rattle.replica_model.specs.Step.{Nothing, Restart}
use Rattle.replica_model.specs.World.{Event, At}
use Rattle.replica_core.specs.Meaning.{ReplicaValue, meaning}
use Rattle.replica_world.specs.Keeping.{Makes, Restarts, IsRefusedEvent, ForetellsEvent}
use Rattle.replica_world.specs.Kept.{checkpoint_at, saves_of, back_of, saves_in, back_in, SavedOnce, Notes}
use Rattle.replica_world.specs.Refused.{IsRefusedIn}
use Rattle.replica_world.specs.declared.recovery.Recovery.{Recovery}
use Rattle.replica_world.proofs.Happened.{at_other}
use Rattle.replica_world.proofs.Kept.{call_keeps}
use Rattle.replica_world.proofs.Refusing.{call_unrefused}

module _ {Hash A : Type 0} (old new : BTreeMap ℕ (Recovery Hash A)) (name : ℕ) (found : Recovery Hash A)
    (updates : Updates nat_cmp old new name (Some found)) where
  at_name : (n : ℕ) (b : Bool) → (n == name) ≡ b → get nat_cmp new n ≡ cond b (Some found) (get nat_cmp old n)
  at_name n true is = let named : n ≡ name = grind (arith, nat_tests) in ap (get nat_cmp new) named ∙ updates.1
  at_name n false is = let apart : n ≢ name = grind (arith, nat_tests) in updates.2 n (at_other name n apart)

  named_by : (n : ℕ) → (n == name) ≡ true → get nat_cmp old n ≡ get nat_cmp old name
  named_by n is = let named : n ≡ name = grind (arith, nat_tests) in ap (get nat_cmp old) named

  -- a place for one of which nothing is kept
  module _ (none : get nat_cmp old name ≡ None) (saves : found.saves ≡ 0) (nothing : found.checkpoint ≡ None) where
    pub placed_saves : (n : ℕ) → saves_in new n ≡ saves_in old n
    placed_saves n = by (n == name) refl
      where
        by : (b : Bool) → (n == name) ≡ b → saves_in new n ≡ saves_in old n
        by true is = ap saves_of (at_name n true is) ∙ saves ∙ sym (ap saves_of (named_by n is ∙ none))
        by false is = ap saves_of (at_name n false is)

    pub placed_back : (n : ℕ) → back_in new n ≡ back_in old n
    placed_back n = by (n == name) refl
      where
        by : (b : Bool) → (n == name) ≡ b → back_in new n ≡ back_in old n
        by true is = ap back_of (at_name n true is) ∙ ap checkpoint_at nothing ∙ sym (ap back_of (named_by n is ∙ none))
        by false is = ap back_of (at_name n false is)

  module _ (before : Recovery Hash A) (was : Some before ≡ get nat_cmp old name) where
    -- it was saved
    pub saved_once : found.saves ≡ before.saves + 1 → found.checkpoint ≡ None → SavedOnce old new name
    saved_once more nothing n = by (n == name) refl
      where
        by : (b : Bool) → (n == name) ≡ b → (saves_in new n ≡ cond b (saves_in old n + 1) (saves_in old n)) × (back_in new n ≡ cond b None (back_in old n))
        by true is = (
          ap saves_of (at_name n true is) ∙ more ∙ ap (λ o. saves_of o + 1) (was ∙ sym (named_by n is)),
          ap back_of (at_name n true is) ∙ ap checkpoint_at nothing,
        )
        by false is = (ap saves_of (at_name n false is), ap back_of (at_name n false is))

    -- it is kept what it is to come back from
    pub noted_at : (replicas : BTreeMap ℕ (ReplicaValue Hash)) (r : ReplicaValue Hash) → Some r ≡ get nat_cmp replicas name → found.saves ≡ before.saves
        → (checkpoint_at found.checkpoint ≡ checkpoint_at before.checkpoint)
        ⊎ ((checkpoint_at before.checkpoint ≡ None) × (checkpoint_at found.checkpoint ≡ Some (restarts (meaning r))))
        → Notes replicas old new
    noted_at replicas r there same noted n = by (n == name) refl
      where
        back_by : (n == name) ≡ true → (checkpoint_at found.checkpoint ≡ checkpoint_at before.checkpoint)
            ⊎ ((checkpoint_at before.checkpoint ≡ None) × (checkpoint_at found.checkpoint ≡ Some (restarts (meaning r))))
            → (back_in new n ≡ back_in old n)
            ⊎ ((back_in old n ≡ None) × ((q : ReplicaValue Hash) × (get nat_cmp replicas n ≡ Some q) × (back_in new n ≡ Some (restarts (meaning q)))))
        back_by is (inl stayed) = inl (ap back_of (at_name n true is) ∙ stayed ∙ ap back_of (was ∙ sym (named_by n is)))
        back_by is (inr (none, some)) =
            let named : n ≡ name = grind (arith, nat_tests) in
            inr (sym (ap back_of (was ∙ sym (named_by n is))) ∙ none, (r, ap (get nat_cmp replicas) named ∙ sym there, ap back_of (at_name n true is) ∙ some))

        by : (b : Bool) → (n == name) ≡ b → (saves_in new n ≡ saves_in old n)
            × ((back_in new n ≡ back_in old n)
            ⊎ ((back_in old n ≡ None) × ((q : ReplicaValue Hash) × (get nat_cmp replicas n ≡ Some q) × (back_in new n ≡ Some (restarts (meaning q))))))
        by true is = (ap saves_of (at_name n true is) ∙ same ∙ ap saves_of (was ∙ sym (named_by n is)), back_by is noted)
        by false is = (ap saves_of (at_name n false is), inl (ap back_of (at_name n false is)))

-- what is noted is noted where nothing else changed before
pub notes_past : {Hash A : Type 0} (replicas : BTreeMap ℕ (ReplicaValue Hash)) (old now new : BTreeMap ℕ (Recovery Hash A))
    → ((n : ℕ) → saves_in now n ≡ saves_in old n) → ((n : ℕ) → back_in now n ≡ back_in old n)
    → Notes replicas now new → Notes replicas old new
notes_past replicas old now new saves back notes n = ((notes n).0 ∙ saves n, by (notes n).1)
  where
    by : (back_in new n ≡ back_in now n)
        ⊎ ((back_in now n ≡ None) × ((r : ReplicaValue _) × (get nat_cmp replicas n ≡ Some r) × (back_in new n ≡ Some (restarts (meaning r)))))
        → (back_in new n ≡ back_in old n)
        ⊎ ((back_in old n ≡ None) × ((r : ReplicaValue _) × (get nat_cmp replicas n ≡ Some r) × (back_in new n ≡ Some (restarts (meaning r)))))
    by (inl same) = inl (same ∙ back n)
    by (inr (none, rest)) = inr (sym (back n) ∙ none, rest)

pub notes_same : {Hash A : Type 0} (replicas : BTreeMap ℕ (ReplicaValue Hash)) (old new : BTreeMap ℕ (Recovery Hash A))
    → ((n : ℕ) → saves_in new n ≡ saves_in old n) → ((n : ℕ) → back_in new n ≡ back_in old n) → Notes replicas old new
notes_same replicas old new saves back n = (saves n, inl (back n))

-- a restart
module _ {Hash : Type 0} (hash : Hash) (old new : BTreeMap ℕ (ReplicaValue Hash)) (messages : List (List ℕ)) (name : ℕ) where
  pub restart_made : (hash_of : Hash → List ℕ → ℕ) → Restarts hash old new name → Makes hash_of hash old messages (At name Restart) Nothing new messages
  restart_made hash_of (before, after, replaces, is, few, hashed) w keeps =
      call_keeps hash old new messages messages w keeps hash_of name before after replaces Restart Nothing refl
      ([], record { step = (is, refl, refl); waits = few; hash = hashed ∙ sym (keeps.hashed name before replaces.was) }, inr (refl, refl))

  pub restart_refused : (refusal : Refusal) → ((refusal ≡ UnknownReplica) × (get nat_cmp old name ≡ None))
      ⊎ ((refusal ≡ OutOfMemory) × IsSome (get nat_cmp old name))
      → IsRefusedEvent hash old messages (At name Restart) refusal
  restart_refused refusal (inl (unknown, none)) w keeps = inr (inl (sym (keeps.there name) ∙ ap is_some none, unknown))
  restart_refused refusal (inr (memory, some)) w keeps =
      inl (memory, call_unrefused w name Restart (sym (keeps.there name) ∙ known (get nat_cmp old name) some) refl (λ r none. none))
    where
      known : {X : Type 0} (o : Option X) → IsSome o → is_some o ≡ true
      known None there = absurd cc
      known (Some x) there = refl

  pub foretells_restart : (told : Option Refusal) → (is_some (get nat_cmp old name) ≡ true → told ≡ None)
      → (is_some (get nat_cmp old name) ≡ false → told ≡ Some UnknownReplica) → ForetellsEvent hash old messages (At name Restart) told
  foretells_restart told there absent w keeps = by (is_some (get nat_cmp old name)) refl
    where
      by : (b : Bool) → is_some (get nat_cmp old name) ≡ b → Rattle.replica_world.specs.Refused.ForetellsIn w (At name Restart) told
      by true is = rw (there is) (call_unrefused w name Restart (sym (keeps.there name) ∙ is) refl (λ r none. none))
      by false is = rw (absent is) (inl (sym (keeps.there name) ∙ is, refl))

-- an event that is refused as it was foreseen, or else for want of memory
pub unready : {Hash : Type 0} (hash : Hash) (replicas : BTreeMap ℕ (ReplicaValue Hash)) (messages : List (List ℕ)) (e : Event) (told : Option Refusal)
    (refusal : Refusal)
    → ForetellsEvent hash replicas messages e told → refusal ≡ OutOfMemory → IsRefusedEvent hash replicas messages e (unwrap_or told refusal)
unready hash replicas messages e None refusal foretold memory w keeps = inl (memory, foretold w keeps)
unready hash replicas messages e (Some other) refusal foretold memory w keeps = inr (foretold w keeps)
