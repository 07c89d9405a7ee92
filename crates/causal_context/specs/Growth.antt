-- Which dots of another context a context does not have. Of this project.
use Rattle.std.specs.Prelude.{◌≡◌, ◌==◌, ℕ, nat_le, ◌||◌, ◌&&◌, Bool, false, IsTrue}
use Rattle.dots.specs.Dot.{DotValue, same_dot}
use Rattle.causal_context.specs.Context.{ContextValue, has}
use Rattle.causal_context.specs.declared.growth.Growth.{Growth}
use Rattle.causal_context.specs.declared.growth.Growth.TheVariants.{Nothing, One, More}

-- whether a dot has this name, and a number up to this one
abbrev pub is_up_to : ℕ → ℕ → DotValue → Bool
is_up_to name number d = (name == d.name) && (nat_le 1 d.number && nat_le d.number number)

-- the dot is one of those there, and not of those here
pub record IsNew (here there : DotValue → Bool) (dot : DotValue) : Type 0 where
  pub unknown : here dot ≡ false
  pub present : IsTrue (there dot)

-- and no other one of those that were seen is lacking
pub record IsOnlyNew (here there seen : DotValue → Bool) (dot : DotValue) : Type 0 where
  pub is_new : IsNew here there dot
  pub others : (d : DotValue) → IsTrue (seen d) → IsTrue (same_dot dot d || here d)

-- what is lacking here of the dots that were seen, which are some of those there
abbrev pub IsGrowthAmong : (here there seen : DotValue → Bool) → Growth → Type 0
IsGrowthAmong here there seen Nothing = (d : DotValue) → IsTrue (seen d) → IsTrue (here d)
IsGrowthAmong here there seen (One dot) = IsOnlyNew here there seen dot
IsGrowthAmong here there seen More = (dot : DotValue) × IsNew here there dot

-- what a context lacks of the other
abbrev pub IsGrowth : ContextValue → ContextValue → Growth → Type 0
IsGrowth context other growth = IsGrowthAmong (has context) (has other) (has other) growth

-- what is lacking of both parts
abbrev pub both : Growth → Growth → Growth
both Nothing growth = growth
both (One dot) Nothing = One dot
both (One dot) (One d) = More
both (One dot) More = More
both More growth = More
