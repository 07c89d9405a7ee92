-- Two lists of entries whose keys ascend, gone through together.
use Rattle.std.specs.Prelude.{◌≡◌, ◌+◌, ◌<◌, false, cond, ◌||◌, Option, None, List, length, IsTrue, is_some}
use Rattle.std.specs.declared.cmp.Ordering.{Ordering}
use Rattle.std.specs.Ordering.{is_eq, is_gt}
use Rattle.ordered_list.specs.Places.{value_at}

-- One turn, at the least key of either list or of both: what each list has there, and what is left of them, which is
-- what they have at the other keys.
pub record IsTurn {K V : Type 0} (cmp : K → K → Ordering) (mine yours my_rest your_rest : List (K × V)) (key : K) (x y : Option V) : Type 0 where
  pub mine_at : value_at cmp mine key ≡ x
  pub yours_at : value_at cmp yours key ≡ y
  pub somewhere : IsTrue (is_some x || is_some y)
  pub least : (q : K) → IsTrue (is_some (value_at cmp mine q) || is_some (value_at cmp yours q)) → is_gt (cmp key q) ≡ false
  pub mine_past : (q : K) → value_at cmp my_rest q ≡ cond (is_eq (cmp key q)) None (value_at cmp mine q)
  pub yours_past : (q : K) → value_at cmp your_rest q ≡ cond (is_eq (cmp key q)) None (value_at cmp yours q)
  pub fewer : length my_rest + length your_rest < length mine + length yours
