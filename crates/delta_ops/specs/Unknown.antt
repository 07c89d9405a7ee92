-- What a context knows nothing of. Of this project.
use Rattle.std.specs.Prelude.{◌≡◌, false, Option, IsSome}
use Rattle.dots.specs.Dot.{DotValue}
use Rattle.causal_context.specs.Context.{ContextValue, has}

-- no dot that a store holds, at any place, is in the context
abbrev pub KnowsNoneOf : {P H : Type 0} → ContextValue → (P → DotValue → Option H) → Type 0
KnowsNoneOf context at = (place : _) (d : DotValue) → IsSome (at place d) → has context d ≡ false
