-- Names stand at the same dots and fields as the values do.
use Rattle.std.proofs.Common.{◌≡◌, List, [], ◌∷◌, map, refl, ap}
use Rattle.std.specs.Map.{keys_of}

pub keys_kept : {K X Y : Type 0} (name : X → Y) (es : List (K × X)) → keys_of (map (λ e. (e.0, name e.1)) es) ≡ keys_of es
keys_kept name [] = refl
keys_kept name (e ∷ es) = ap (λ ks. e.0 ∷ ks) (keys_kept name es)
