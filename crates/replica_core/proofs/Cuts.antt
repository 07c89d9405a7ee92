-- What a replica sends of the deltas that wait: over plain variables.
use Rattle.std.proofs.Common.{◌≡◌, ◌≤◌, ◌<◌, ◌-◌, ◌*◌, ◌^◌, ℕ, Bool, true, false, List, [], ◌∷◌, ◌++◌, inl, inr, map, take, drop, length, refl, sym, ap, subst, ◌∙◌, arith}
use Rattle.std.specs.Prelude.{◌⊎◌, Option, min, nat_le}
use Rattle.std.proofs.lemmas.Bool.Decides.{nat_tests}
use Rattle.std.proofs.lemmas.List.{take-append-drop, take-map, drop-map}
use Rattle.causal_join.specs.OrMap.{OrMapValue, or_map_state}
use Rattle.delta_ops.specs.Group.{group_state}
use Rattle.delta_ops.specs.LiveMap.{live_state}
use Rattle.wire_form.specs.Message as message
use Rattle.replica_model.proofs.States.{same_is}
use Rattle.replica_model.specs.Mail.{Delta}
use Rattle.replica_model.specs.Step.{KnowsNone}
use Rattle.replica_alone.specs.Waiting.{all_of}
use Rattle.replica_core.specs.Cutting.{IsFront, IsMost, IsWithin, SendsMost, SendsOldest}
use Rattle.replica_core.specs.Meaning.{ReplicaValue, kept_of, meaning, open_of, waiting_in}
use Rattle.replica_core.proofs.Meant.{meaning_by}
use Rattle.replica_core.proofs.Waits.{all_waiting}

module _ {Hash : Type 0} where
  -- nothing is sent, and all is as it was
  pub nothing_cut : (r : ReplicaValue Hash) → SendsOldest r r []
  nothing_cut r = record {
    messages = [];
    cut = record {
      first = [];
      parts = refl;
      becomes = λ i. record (meaning r) { group = sym (all_waiting r.group) i };
      sent = inl ((λ dot. refl), refl);
    };
    letters_are = tt;
    hash = refl;
  }

  module _ (old new : ReplicaValue Hash) (number : ℕ) (group : new.group ≡ drop number old.group) where
    left_waiting : waiting_in new ≡ drop number (waiting_in old)
    left_waiting = ap (map or_map_state) group ∙ sym (drop-map or_map_state number old.group)

    -- the oldest are sent in this letter
    pub oldest_cut : (letter : Option ℕ × List ℕ) → IsFront old.group number letter → (KnowsNone (group_state (take number old.group)) → ⊥)
        → new.name ≡ old.name → new.live ≡ old.live → new.opened ≡ old.opened → new.sessions ≡ old.sessions → new.kept ≡ old.kept
        → SendsOldest old new (letter ∷ [])
    oldest_cut letter front some name live opened sessions kept =
        let first = take number (waiting_in old) in
        let is : all_of first ≡ group_state (take number old.group) =
        ap all_of (take-map or_map_state number old.group) ∙ all_waiting (take number old.group) in
        record {
          messages = message.Delta front.whole ∷ [];
          cut = record {
            first = first;
            parts = sym (take-append-drop number (waiting_in old)) ∙ ap (λ left. first ++ left) (sym left_waiting);
            becomes = meaning_by new (record (meaning old) { group = all_of (waiting_in new) }) name (ap (λ l. live_state l.0) live)
                (sym (all_waiting new.group)) opened (ap (map open_of) sessions) (ap (map kept_of) kept);
            sent = inr ((λ none. some (subst KnowsNone is none)), ap (λ d. Delta d ∷ []) (same_is _ _ front.same ∙ sym is));
          };
          letters_are = (front.is_letter, tt);
          hash = ap (λ l. l.0.0.0) live;
        }

    -- it has at most so many bytes, or it is that of the first that knows a dot
    pub cut_within : (first most : ℕ) (bytes : List ℕ) → (length bytes ≤ most) ⊎ (number ≡ first) → 0 < first
        → KnowsNone (group_state (take (first - 1) old.group)) → IsWithin old new most bytes
    cut_within first most bytes (inl few) some none = inl few
    cut_within first most bytes (inr alone) some none = inr (
      first - 1,
      left_waiting ∙ ap (λ n. drop n (waiting_in old)) (alone ∙ omega (arith, some)),
      subst KnowsNone (sym (ap all_of (take-map or_map_state (first - 1) old.group) ∙ all_waiting (take (first - 1) old.group))) none,
    )

    -- and more do not fit
    pub cut_most : (most : ℕ) → IsMost old.group number most → SendsMost old new most
    cut_most most is = (number, left_waiting, is)

-- twice as many, or all where these are fewer
pub twice_or_all : (deltas : List OrMapValue) (number most more : ℕ) (letter : Option ℕ × List ℕ) → length deltas < 2 ^ 64
    → more ≡ min (min (number * 2) (2 ^ 64 - 1)) (length deltas) → IsFront deltas more letter → most < length letter.1 → IsMost deltas number most
twice_or_all deltas number most more letter bound is front long = inr (more, letter, by (nat_le (length deltas) (number * 2)) refl, front, long)
  where
    by : (b : Bool) → nat_le (length deltas) (number * 2) ≡ b → (more ≡ number * 2) ⊎ (more ≡ length deltas)
    by true all = let fewer : length deltas ≤ number * 2 = grind (arith, nat_tests) in inr (omega (arith, is, bound, fewer))
    by false some = let apart : number * 2 < length deltas = grind (arith, nat_tests) in inl (omega (arith, is, bound, apart))
