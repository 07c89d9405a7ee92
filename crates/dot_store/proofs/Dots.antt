-- What a set of dots holds, over the map from its dots to `tt` that it is kept as.
use Rattle.std.proofs.Common.{◌≡◌, Bool, true, false, ◌||◌, cond, List, [], ◌∷◌, Option, Some, None, refl}
use Rattle.std.specs.List.{list_any}
use Rattle.std.specs.Map.{lookup, keys_of}
use Rattle.dots.specs.Dot.{DotValue, same_dot}
use Rattle.dot_store.specs.Stores.{at_dots, at_values}

alike_by : (b c : Bool) (u : Unit {0}) (o : Option (Unit {0})) → cond c (Some (tt {0})) None ≡ o → cond (b || c) (Some (tt {0})) None ≡ cond b (Some u) o
alike_by true c u o h = refl
alike_by false c u o h = h

pub at_keys : (es : List (DotValue × Unit {0})) (place : Unit {0}) (d : DotValue) → at_dots (keys_of es) place d ≡ at_values es place d
unfolding at_dots at_values
at_keys [] place d = refl
at_keys (e ∷ es) place d = alike_by (same_dot d e.0) (list_any (same_dot d) (keys_of es)) e.1 (lookup (same_dot d) es) (at_keys es place d)

pub at_dots-at_values : (es : List (DotValue × Unit {0})) (dots : List DotValue) → keys_of es ≡ dots → (place : Unit {0}) (d : DotValue)
    → at_dots dots place d ≡ at_values es place d
at_dots-at_values es dots is place d = rw (← is) (at_keys es place d)
