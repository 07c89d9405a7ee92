-- How a context is stored, where values of contracts are: as the pair of its lists. Of this project.
use Rattle.std.specs.Prelude.{ℕ, List, refl}
use Rattle.std.specs.Coded.{Coded, code_by, coded×, coded_list, coded_ℕ}
use Rattle.dots.specs.Code.{dot_code}
use Rattle.dots.specs.Dot.{DotValue}
use Rattle.causal_context.specs.Context.{ContextValue}

abbrev pub context_code : Coded ContextValue
context_code =
    code_by (List (ℕ × ℕ) × List DotValue) (coded× (coded_list (coded× coded_ℕ coded_ℕ)) (coded_list dot_code))
    (λ c. (c.vector, c.cloud))
    (λ p. record { vector = p.0; cloud = p.1 })
    (λ _. refl)
