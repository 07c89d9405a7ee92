-- Synchronisations that send again, one after the other.
use Rattle.std.proofs.Common.{ℕ, List, [], ◌∷◌, ◌++◌, refl, subst}
use Rattle.node_threads.specs.declared.node_event.NodeEvent.{NodeEvent}
use Rattle.node_threads.specs.Renewing.{AreSentAgain, IsSentAgain}
use Rattle.node_threads.specs.Serving.{Turn, NoMessage, Refused, Taken}
use Rattle.replica_model.specs.Replica.{Replica}
use Rattle.shared_object.specs.Calling.{HasNotCalled}
use Rattle.shared_object.specs.History.{Seat}

module _ {P A : Type 0} (Receives : P → P → List ℕ → Type 0) (Sends : P → P → ℕ → List ℕ → Type 0) (Rests : P → P → Type 0) (first : Replica) (number : ℕ)
    (new : Seat (NodeEvent A)) where
  pub refused_more : (p q : P) (old seat : Seat (NodeEvent A)) (numbers : List ℕ) (steps : List Turn)
      → AreSentAgain Receives Sends Rests first p q old seat numbers steps
      → HasNotCalled (λ e. e.place) seat new → AreSentAgain Receives Sends Rests first p q old new (numbers ++ number ∷ []) (steps ++ Refused ∷ [])
  refused_more p q old seat [] [] h step = (new, subst (λ (s : Seat (NodeEvent A)). HasNotCalled (λ e. e.place) s new) h.1 step, (h.0, refl))
  refused_more p q old seat [] (turn ∷ steps) h step = absurd h
  refused_more p q old seat (n ∷ ns) [] h step = absurd h
  refused_more p q old seat (n ∷ ns) (NoMessage ∷ steps) h step = absurd h
  refused_more p q old seat (n ∷ ns) (Refused ∷ steps) h step = (h.0, h.1, refused_more p q h.0 seat ns steps h.2 step)
  refused_more p q old seat (n ∷ ns) (Taken unsent lost ∷ steps) h step = (h.0, h.1, h.2, refused_more h.0 q h.1 seat ns steps h.3 step)

  pub again_more : (p q r : P) (old seat : Seat (NodeEvent A)) (numbers : List ℕ) (steps : List Turn) (unsent lost : ℕ)
      → AreSentAgain Receives Sends Rests first p q old seat numbers steps
      → IsSentAgain Receives Sends Rests first number q r seat new unsent lost
      → AreSentAgain Receives Sends Rests first p r old new (numbers ++ number ∷ []) (steps ++ Taken unsent lost ∷ [])
  again_more p q r old seat [] [] unsent lost h step = (
    r,
    new,
    subst (λ x. IsSentAgain Receives Sends Rests first number x r old new unsent lost) h.0
        (subst (λ s. IsSentAgain Receives Sends Rests first number q r s new unsent lost) h.1 step),
    (refl, refl),
  )
  again_more p q r old seat [] (turn ∷ steps) unsent lost h step = absurd h
  again_more p q r old seat (n ∷ ns) [] unsent lost h step = absurd h
  again_more p q r old seat (n ∷ ns) (NoMessage ∷ steps) unsent lost h step = absurd h
  again_more p q r old seat (n ∷ ns) (Refused ∷ steps) unsent lost h step = (h.0, h.1, again_more p q r h.0 seat ns steps unsent lost h.2 step)
  again_more p q r old seat (n ∷ ns) (Taken u l ∷ steps) unsent lost h step =
      (h.0, h.1, h.2, again_more h.0 q r h.1 seat ns steps unsent lost h.3 step)
