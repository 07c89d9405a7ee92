-- Dots, after Almeida, Shoker and Baquero, "Delta State Replicated Data Types" (2018):
-- a dot is a pair of a replica's name and a number, and stands for one write of that replica.
use Rattle.std.specs.Prelude.{ℕ, Bool, ◌==◌, ◌&&◌}

-- what a contract sees of a `Dot`
pub record DotValue : Type 0 where
  pub name : ℕ
  pub number : ℕ

-- whether two dots are one
abbrev pub same_dot : DotValue → DotValue → Bool
same_dot d e = (d.name == e.name) && (d.number == e.number)
