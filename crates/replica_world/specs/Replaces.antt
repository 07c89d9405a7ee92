-- How one replica of a world's changes. Of this project.
use Rattle.std.specs.Prelude.{◌≡◌, ◌≢◌, ℕ, Some}
use Rattle.std.specs.BTreeMap.{BTreeMap, get}
use Rattle.std.specs.Ordering.{nat_cmp}

-- the replica of this name, which was `before`, is `after`, and each other is as it was
pub record Replaces {R : Type 0} (old new : BTreeMap ℕ R) (name : ℕ) (before after : R) : Type 0 where
  pub was : get nat_cmp old name ≡ Some before
  pub becomes : get nat_cmp new name ≡ Some after
  pub others : (other : ℕ) → other ≢ name → get nat_cmp new other ≡ get nat_cmp old other
