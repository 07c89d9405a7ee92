-- Where a value stands in the map: at a key and a field within it. Of this project.
-- Example: a service `billing` is a key with the fields host, port and version. A key that was only ever put plainly has the
-- empty field and no other.
use Rattle.std.specs.Prelude.{ℕ, List, [], Bool, ◌&&◌}
use Rattle.std.specs.Ordering.{eq_by_cmp}
use Rattle.dots.specs.Bytes.{bytes_cmp}

pub record Place : Type 0 where
  pub key : List ℕ
  pub field : List ℕ

-- the field of a key
abbrev pub place_of : List ℕ → List ℕ → Place
place_of key field = record { key = key; field = field }

-- where a put or a get that names no field is: at the empty field
abbrev pub plain : List ℕ → Place
plain key = place_of key []

-- whether two keys, fields or values are one
abbrev pub same_bytes : List ℕ → List ℕ → Bool
same_bytes x y = eq_by_cmp bytes_cmp x y

-- whether two places are one
abbrev pub same_place : Place → Place → Bool
same_place p q = same_bytes p.key q.key && same_bytes p.field q.field
