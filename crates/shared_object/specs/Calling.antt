-- What the calls of a client come to. Of this project.
use Rattle.std.specs.Prelude.{◌≡◌, ◌⊎◌, ◌<◌, ℕ, ◌+◌, ◌-◌, ◌^◌, List, [], ◌∷◌, ◌++◌, length}
use mathlib.Core.List.{IsPrefix}
use Rattle.dots.specs.declared.refusal.Refusal.{Refusal}
use Rattle.dots.specs.declared.refusal.Refusal.TheVariants.{OutOfMemory, NumbersSpent}
use Rattle.shared_object.specs.History.{Seat, calls_by, made}

module _ {E : Type 0} (place : E → ℕ) where
  -- The client has not called, though it may have seen more.
  pub record HasNotCalled (old new : Seat E) : Type 0 where
    pub seat : new.place ≡ old.place
    pub operations : new.operations ≡ old.operations
    pub made : made place new ≡ made place old
    pub seen : IsPrefix old.front new.front

  -- The client's call was accepted as this event, after this history: the history begins with all that the client had seen, and the calls of
  -- its place there are just those that it had made. It has then made one call more, and seen the history with it.
  pub record IsAccepted (old new : Seat E) (history : List E) (event : E) : Type 0 where
    pub seen : IsPrefix old.front history
    pub own : calls_by place old.place history ≡ made place old
    pub seat : new.place ≡ old.place
    pub operations : new.operations ≡ old.operations + 1
    pub front : new.front ≡ history ++ event ∷ []

-- refused as the object refuses it, and for want of memory only where that does not
abbrev pub IsRefusedBy : {E : Type 0} → (List E → Refusal → Type 0) → List E → Refusal → Type 0
IsRefusedBy refuses history refusal = ((refusal ≡ OutOfMemory) × ((other : Refusal) → ¬ refuses history other)) ⊎ refuses history refusal

-- A call was refused after this history: as many events as can be counted are there, or there is room for one more and it is refused by the
-- object or for want of memory.
abbrev pub IsRefused : {E : Type 0} → (List E → Refusal → Type 0) → List E → Refusal → Type 0
IsRefused refuses history refusal =
    ((length history < 2 ^ 64 - 1) × IsRefusedBy refuses history refusal) ⊎ ((refusal ≡ NumbersSpent) × (length history ≡ 2 ^ 64 - 1))
