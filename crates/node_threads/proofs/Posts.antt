-- What goes out by a post, one reply and one message after the other.
use Rattle.std.proofs.Common.{◌≡◌, ℕ, ◌+◌, ◌≤◌, min, List, [], ◌∷◌, ◌++◌, length, refl, sym, ap, subst, ◌∙◌, inl, inr, ⊎_elim, arith}
use Rattle.node_threads.specs.declared.node_event.NodeEvent.{NodeEvent}
use Rattle.node_threads.specs.Serving.{AreSent, IsPassed, IsSent, IsTaken, Serves, Turn, NoMessage, Refused, Taken, total}
use Rattle.replica_model.specs.Replica.{Replica}
use Rattle.shared_object.specs.History.{Seat}
use Rattle.wire_form.specs.Message.{SpellsNone, message_of}
use Rattle.wire_form.specs.declared.message.Message.{Message}

module _ {P A : Type 0} (Receives : P → P → List ℕ → Type 0) (Sends : P → P → ℕ → List ℕ → Type 0) (Rests : P → P → Type 0) where
  -- one more reply, of which this became
  module _ (q r : P) (reply : Message A) where
    pub sent_more : (p : P) (replies : List (Message A)) (unsent lost : ℕ) → AreSent Receives Sends Rests p q replies unsent lost
        → IsSent Sends q r (message_of reply) → AreSent Receives Sends Rests p r (replies ++ reply ∷ []) unsent lost
    sent_more p [] unsent lost h sent = (r, (0, 0), inl (subst (λ x. IsSent Sends x r (message_of reply)) h.0 sent, h.1, h.2), (refl, refl, refl))
    sent_more p (x ∷ xs) unsent lost h sent = (h.0, h.1, h.2, sent_more h.0 xs h.1.0 h.1.1 h.3 sent)

    pub unsent_more : (p : P) (replies : List (Message A)) (unsent lost : ℕ) → AreSent Receives Sends Rests p q replies unsent lost
        → Rests q r → AreSent Receives Sends Rests p r (replies ++ reply ∷ []) (unsent + 1) lost
    unsent_more p [] unsent lost h rests = (r, (0, 0), inr (inl (subst (λ x. Rests x r) h.0 rests, omega (arith, h.1), h.2)), (refl, refl, refl))
    unsent_more p (x ∷ xs) unsent lost h rests = (
      h.0,
      (h.1.0 + 1, h.1.1),
      ⊎_elim (λ s. inl (s.0, omega (arith, s.1), s.2))
          (⊎_elim (λ s. inr (inl (s.0, omega (arith, s.1), s.2))) (λ s. inr (inr (s.0, omega (arith, s.1), s.2)))) h.2,
      unsent_more h.0 xs h.1.0 h.1.1 h.3 rests,
    )

    pub lost_more : (p : P) (replies : List (Message A)) (unsent lost : ℕ) → AreSent Receives Sends Rests p q replies unsent lost
        → r ≡ q → AreSent Receives Sends Rests p r (replies ++ reply ∷ []) unsent (lost + 1)
    lost_more p [] unsent lost h same = (r, (0, 0), inr (inr (same ∙ h.0, h.1, omega (arith, h.2))), (refl, refl, refl))
    lost_more p (x ∷ xs) unsent lost h same = (
      h.0,
      (h.1.0, h.1.1 + 1),
      ⊎_elim (λ s. inl (s.0, s.1, omega (arith, s.2)))
          (⊎_elim (λ s. inr (inl (s.0, s.1, omega (arith, s.2)))) (λ s. inr (inr (s.0, s.1, omega (arith, s.2))))) h.2,
      lost_more h.0 xs h.1.0 h.1.1 h.3 same,
    )

  -- no more stay behind than there are
  pub few_missed : (p q : P) (replies : List (Message A)) (unsent lost : ℕ) → AreSent Receives Sends Rests p q replies unsent lost
      → unsent + lost ≤ length replies
  few_missed p q [] unsent lost h = omega (arith, h.1, h.2)
  few_missed p q (x ∷ xs) unsent lost h =
      let rest : h.1.0 + h.1.1 ≤ length xs = few_missed h.0 q xs h.1.0 h.1.1 h.3 in
      ⊎_elim (λ s. omega (arith, rest, s.1, s.2)) (⊎_elim (λ s. omega (arith, rest, s.1, s.2)) (λ s. omega (arith, rest, s.1, s.2))) h.2

  module _ (first : Replica) (r : P) (new : Seat (NodeEvent A)) where
    pub no_message_more : (p q : P) (old seat : Seat (NodeEvent A)) (steps : List Turn) → Serves Receives Sends Rests first p q old seat steps
        → IsPassed Receives Sends Rests SpellsNone q r seat new
        → Serves Receives Sends Rests first p r old new (steps ++ NoMessage ∷ [])
    no_message_more p q old seat [] h step = (
      r,
      new,
      subst (λ x. IsPassed Receives Sends Rests SpellsNone x r old new) h.0
          (subst (λ s. IsPassed Receives Sends Rests SpellsNone q r s new) h.1 step),
      (refl, refl),
    )
    no_message_more p q old seat (NoMessage ∷ steps) h step = (h.0, h.1, h.2, no_message_more h.0 q h.1 seat steps h.3 step)
    no_message_more p q old seat (Refused ∷ steps) h step = (h.0, h.1, h.2, no_message_more h.0 q h.1 seat steps h.3 step)
    no_message_more p q old seat (Taken n m ∷ steps) h step = (h.0, h.1, h.2, no_message_more h.0 q h.1 seat steps h.3 step)

    pub refused_more : (p q : P) (old seat : Seat (NodeEvent A)) (steps : List Turn) → Serves Receives Sends Rests first p q old seat steps
        → IsPassed Receives Sends Rests (λ bytes. Unit {0}) q r seat new
        → Serves Receives Sends Rests first p r old new (steps ++ Refused ∷ [])
    refused_more p q old seat [] h step = (
      r,
      new,
      subst (λ x. IsPassed Receives Sends Rests (λ bytes. Unit {0}) x r old new) h.0
          (subst (λ s. IsPassed Receives Sends Rests (λ bytes. Unit {0}) q r s new) h.1 step),
      (refl, refl),
    )
    refused_more p q old seat (NoMessage ∷ steps) h step = (h.0, h.1, h.2, refused_more h.0 q h.1 seat steps h.3 step)
    refused_more p q old seat (Refused ∷ steps) h step = (h.0, h.1, h.2, refused_more h.0 q h.1 seat steps h.3 step)
    refused_more p q old seat (Taken n m ∷ steps) h step = (h.0, h.1, h.2, refused_more h.0 q h.1 seat steps h.3 step)

    pub taken_more : (p q : P) (old seat : Seat (NodeEvent A)) (steps : List Turn) (unsent lost : ℕ)
        → Serves Receives Sends Rests first p q old seat steps
        → IsTaken Receives Sends Rests first q r seat new unsent lost
        → Serves Receives Sends Rests first p r old new (steps ++ Taken unsent lost ∷ [])
    taken_more p q old seat [] unsent lost h step = (
      r,
      new,
      subst (λ x. IsTaken Receives Sends Rests first x r old new unsent lost) h.0
          (subst (λ s. IsTaken Receives Sends Rests first q r s new unsent lost) h.1 step),
      (refl, refl),
    )
    taken_more p q old seat (NoMessage ∷ steps) unsent lost h step = (h.0, h.1, h.2, taken_more h.0 q h.1 seat steps unsent lost h.3 step)
    taken_more p q old seat (Refused ∷ steps) unsent lost h step = (h.0, h.1, h.2, taken_more h.0 q h.1 seat steps unsent lost h.3 step)
    taken_more p q old seat (Taken n m ∷ steps) unsent lost h step = (h.0, h.1, h.2, taken_more h.0 q h.1 seat steps unsent lost h.3 step)

-- ---- the numbers

pub total_both : {X : Type 0} (of : X → ℕ) (xs ys : List X) → total of (xs ++ ys) ≡ total of xs + total of ys
total_both of [] ys = omega arith
total_both of (x ∷ xs) ys = omega (arith, total_both of xs ys)

pub total_end : {X : Type 0} (of : X → ℕ) (xs : List X) (x : X) → total of (xs ++ x ∷ []) ≡ total of xs + of x
total_end of xs x = omega (arith, total_both of xs (x ∷ []))

-- a number that stays at a limit goes on
capped : (limit n k : ℕ) → min (min n limit + k) limit ≡ min (n + k) limit
capped limit n k = omega arith

pub counts_on : (limit : ℕ) (of : Turn → ℕ) (steps : List Turn) (step : Turn) (count : ℕ) → count ≡ min (total of steps) limit
    → min (count + of step) limit ≡ min (total of (steps ++ step ∷ [])) limit
counts_on limit of steps step count h =
    ap (λ n. min (n + of step) limit) h ∙ (capped limit (total of steps) (of step) ∙ ap (λ n. min n limit) (sym (total_end of steps step)))

pub counts_none : (limit : ℕ) (of : Turn → ℕ) (steps : List Turn) (step : Turn) (count : ℕ) → of step ≡ 0 → count ≡ min (total of steps) limit
    → count ≡ min (total of (steps ++ step ∷ [])) limit
counts_none limit of steps step count none h = h ∙ ap (λ n. min n limit) (omega (arith, none, total_end of steps step))
