-- What a replica comes to when a session closes: what was built joined into its live pair, which has gone on since it asked, is what
-- the peer had when it opened joined in. Of this project, over the causal join of Almeida, Shoker and Baquero, "Delta State
-- Replicated Data Types" (2018).
use Rattle.std.specs.Prelude.{◌≡◌, ℕ, Bool, List}
use Rattle.std.specs.FinMap as finite
use Rattle.dots.specs.declared.dot.Dot.{Dot}
use Rattle.op_model.specs.Meaning.{MapState, greater}
use Rattle.op_model.specs.State.{Same, join}
use Rattle.sync_model.specs.Opened.{held_in, opened_at}
use Rattle.sync_model.specs.Differ.{Held}
use Rattle.sync_model.specs.Laws.{IsLawfulMap}

-- the state of a map and the dots that are known with it
abbrev pub held_state : Held → (Dot → Bool) → MapState
held_state m known = record { at = λ place dot. held_in (finite.get m place.key) place.field dot; has = known }

-- joining the first state into the second gives the second
abbrev pub IsBelow : MapState → MapState → Type 0
IsBelow p q = Same (join greater q p) q

abbrev pub Closing : Type 0
Closing = (own theirs built : Held) (seen opened : Dot → Bool) (live : MapState) → IsLawfulMap theirs
    → ((key : List ℕ) → finite.get built key ≡ opened_at seen (finite.get own key) (finite.get theirs key))
    → IsBelow (held_state own seen) live
    → Same (join greater live (held_state built opened)) (join greater live (held_state theirs opened))
