-- How a dot is stored, where values of contracts are: as the pair of its numbers. Of this project.
use Rattle.std.specs.Prelude.{ℕ, refl}
use Rattle.std.specs.Coded.{Coded, code_by, coded×, coded_ℕ}
use Rattle.dots.specs.Dot.{DotValue}

abbrev pub dot_code : Coded DotValue
dot_code = code_by (ℕ × ℕ) (coded× coded_ℕ coded_ℕ) (λ d. (d.name, d.number)) (λ p. record { name = p.0; number = p.1 }) (λ _. refl)
