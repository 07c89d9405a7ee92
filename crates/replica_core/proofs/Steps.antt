-- The steps of own operations.
use Rattle.std.proofs.Common.{◌≡◌, ◌<◌, ◌≤◌, ◌-◌, ◌^◌, ℕ, List, [], ◌∷◌, inl, inr, refl, sym, ap, ◌∙◌, subst, length, arith, is_some, IsSome, IsTrue}
use Rattle.std.specs.Prelude.{◌↔◌, ◌⊎◌, Option, Some, None}
use Rattle.std.specs.List.{IsDistinct}
use Rattle.causal_context.specs.Context.{IsGreatest}
use Rattle.causal_context.specs.Context as context
use Rattle.causal_join.specs.OrMap.{FieldsValue, OrMapValue, or_map_state}
use Rattle.delta_ops.specs.LiveMap.{live_state}
use Rattle.dots.specs.declared.dot.Dot.{Dot}
use Rattle.dots.specs.Dot.{same_dot}
use Rattle.live_map.specs.Live.{PairValue}
use Rattle.op_model.specs.Made.{erasure, IsNext, IsPutAt}
use Rattle.op_model.specs.Meaning.{MapState, state}
use Rattle.op_model.specs.Operation.{Write, Wrote, has}
use Rattle.op_model.specs.Place.{Place}
use Rattle.op_model.specs.State.{Same}
use Rattle.replica_model.proofs.States.{same_is}
use Rattle.replica_model.specs.Replica.{makes}
use Rattle.replica_model.specs.Step.{Do, Put, Made, Counted, Refuses, Removes}
use Rattle.replica_alone.specs.Waiting.{Erases, Queues}
use Rattle.replica_core.specs.Meaning.{ReplicaValue, hash_in, meaning, waiting_in}
use Rattle.dots.specs.declared.refusal.Refusal.{Refusal}
use Rattle.dots.specs.declared.refusal.Refusal.TheVariants.{NumbersSpent, OutOfMemory}
use Rattle.replica_core.specs.Stepping.{Foretells, Steps, IsRefused}

-- An own operation at what the replica holds: its name and its pair are told as the operation was told of them.
module _ {Hash : Type 0} (hash_of : Hash → List ℕ → ℕ) (old new : ReplicaValue Hash) (delta : OrMapValue)
    (made : meaning new ≡ makes (meaning old) (or_map_state delta)) (queues : Queues (waiting_in old) (or_map_state delta) (waiting_in new))
    (hash : hash_in new ≡ hash_in old)
    (pair : PairValue Hash FieldsValue) (here : pair ≡ old.live.0) where
  pub put_stepped : (name : ℕ) → name ≡ old.name → (place : Place) (value : List ℕ) (dot : Dot) (w : Write) → IsPutAt (live_state pair) name place value w
      → Same (or_map_state delta) (state (Wrote w ∷ []))
      → dot ≡ w.id → dot.number < 2 ^ 64 → Steps hash_of old new (Do (Put place value)) (Made dot) []
  put_stepped name named place value dot w put same is below = record {
    step = (
      w,
      subst (λ n. IsPutAt (live_state old.live.0) n place value w) named (subst (λ p. IsPutAt (live_state p) name place value w) here put),
      subst (λ d. d.number < 2 ^ 64) is below,
      made ∙ ap (makes (meaning old)) (same_is (or_map_state delta) (state (Wrote w ∷ [])) same),
      ap Made is,
      refl,
    );
    waits =
        let put_here : IsPutAt (live_state old.live.0) old.name place value w =
        subst (λ n. IsPutAt (live_state old.live.0) n place value w) named (subst (λ p. IsPutAt (live_state p) name place value w) here put) in
        (or_map_state delta, (w, put_here, same_is (or_map_state delta) (state (Wrote w ∷ [])) same), queues);
    hash = hash;
  }

  -- the delta of a removal waits
  pub erased : (P : MapState → Dot → Type 0) (over : List Dot) → ((dot : Dot) → IsTrue (has over dot) ↔ P (live_state pair) dot)
      → Same (or_map_state delta) (state (erasure over))
      → (d : MapState) × Erases (P (live_state old.live.0)) d × Queues (waiting_in old) d (waiting_in new)
  erased P over just same =
      let observed : (dot : Dot) → IsTrue (has over dot) ↔ P (live_state old.live.0) dot =
      subst (λ p. (dot : Dot) → IsTrue (has over dot) ↔ P (live_state p) dot) here just in
      (or_map_state delta, (over, observed, same_is (or_map_state delta) (state (erasure over)) same), queues)

  -- what a removal observed is taken away, and counted
  pub removed : (P : MapState → Dot → Type 0) (over : List Dot) (n : ℕ) → ((dot : Dot) → IsTrue (has over dot) ↔ P (live_state pair) dot)
      → Same (or_map_state delta) (state (erasure over)) → IsDistinct same_dot over
      → n ≡ length over → Removes (P (live_state old.live.0)) (meaning old) (meaning new) (Counted n) []
  removed P over n just same apart counted =
      let observed : (dot : Dot) → IsTrue (has over dot) ↔ P (live_state old.live.0) dot =
      subst (λ p. (dot : Dot) → IsTrue (has over dot) ↔ P (live_state p) dot) here just in (
        over,
        observed,
        made ∙ ap (makes (meaning old)) (same_is (or_map_state delta) (state (erasure over)) same),
        (n, record { dots = over; apart = apart; just = observed; number = counted }, refl),
        refl,
      )

-- a test that is whether something is there
pub just_some : {X : Type 0} (over : List Dot) (at : Dot → Option X) → ((dot : Dot) → has over dot ≡ is_some (at dot)) → (dot : Dot)
    → IsTrue (has over dot) ↔ IsSome (at dot)
just_some over at is dot = ((λ h. sym (is dot) ∙ h), (λ h. is dot ∙ h))

-- the next dot is past the last number
pub past_last : (name : ℕ) (known : Dot → Rattle.std.specs.Prelude.Bool) → IsGreatest name known (2 ^ 64 - 1) → (dot : Dot) × IsNext name known dot
    × (2 ^ 64 ≤ dot.number)
past_last name known most = (
  record { name = name; number = 2 ^ 64 },
  record {
    named = refl;
    above = λ d same there. above d same there;
    least = inr (most.known (omega arith));
  },
  omega arith,
)
  where
    above : (d : Dot) → d.name ≡ name → IsTrue (known d) → d.number < 2 ^ 64
    above d same there =
        let here : IsTrue (known (record { name = name; number = d.number })) =
        subst (λ n. IsTrue (known (record { name = n; number = d.number }))) same there in
        let bound = most.bound d.number here in omega (arith, bound)

-- a next dot that is a number of 64 bits is the only next one
pub not_past : (name : ℕ) (known : Dot → Rattle.std.specs.Prelude.Bool) (dot : Dot) → context.IsNext name known dot → dot.number < 2 ^ 64 → (other : Dot)
    → IsNext name known other → other.number < 2 ^ 64
not_past name known dot next below other is = by is.least
  where
    by : (other.number ≡ 1) ⊎ IsTrue (known (record { name = name; number = other.number - 1 })) → other.number < 2 ^ 64
    by (inl one) = omega (arith, one)
    by (inr there) = let bound = next.is_greatest.bound (other.number - 1) there in omega (arith, bound, next.number, below)

module _ {Hash : Type 0} (old : ReplicaValue Hash) (place : Place) (value : List ℕ) where
  -- a put is refused where no number is left
  pub put_spent : IsGreatest old.name (meaning old).live.has (2 ^ 64 - 1) → Foretells (meaning old) (Put place value) (Some NumbersSpent)
  put_spent most = let past = past_last old.name (meaning old).live.has most in (past.0, past.1, past.2, refl)

  -- and nowhere else
  pub put_not_refused : (dot : Dot) → context.IsNext old.name (meaning old).live.has dot → dot.number < 2 ^ 64 → Foretells (meaning old) (Put place value) None
  put_not_refused dot next below = λ refusal refuses. none refusal refuses
    where
      none : (refusal : Refusal) → Refuses (meaning old) (Put place value) refusal → ⊥
      none refusal (other, is, past, named) =
          let within = not_past old.name (meaning old).live.has dot next below other is in absurd (omega (arith, within, past))

  pub put_without_memory : (refusal : Refusal) → Foretells (meaning old) (Put place value) None → (refusal ≡ NumbersSpent) ⊎ (refusal ≡ OutOfMemory)
      → (refusal ≡ NumbersSpent → IsGreatest old.name (meaning old).live.has (2 ^ 64 - 1)) → IsRefused old (Put place value) refusal
  put_without_memory refusal none (inl spent) most = let past = past_last old.name (meaning old).live.has (most spent) in inr (past.0, past.1, past.2, spent)
  put_without_memory refusal none (inr full) most = inl (full, none)
