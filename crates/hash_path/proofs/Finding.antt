-- Looking a word up in a branch is looking the rest of it up in the child at its first index.
use Rattle.std.proofs.Common.{◌≡◌, ℕ, suc, ◌<◌, List, [], ◌∷◌, ◌++◌, Bool, true, false, cond, Some, None, arith, refl, ◌∙◌, ap}
use Rattle.std.specs.declared.option.Option.{Option}
use Rattle.std.specs.Option.{option_or}
use Rattle.std.specs.declared.cmp.Ordering.{Ordering}
use Rattle.std.specs.declared.cmp.Ordering.TheVariants.{Less, Equal, Greater}
use Rattle.std.specs.Ordering.{nat_cmp, is_eq, ordering_then}
use Rattle.std.specs.FinMap.Entries.{by_order, find}
use Rattle.dots.specs.Bytes.{bytes_cmp}
use Rattle.hash_path.specs.Fan.{under, fan, Rise, at}
use Rattle.hash_path.proofs.Orders.{less, same, is_less}

or_none : {A : Type 0} (x : Option A) → option_or x None ≡ x
or_none None = refl
or_none (Some x) = refl

first_found : {A : Type 0} (b : Bool) (x : A) (y z : Option A) → cond b (Some x) (option_or y z) ≡ option_or (cond b (Some x) y) z
first_found true x y z = refl
first_found false x y z = refl

find-under : {V : Type 0} (i j : ℕ) (w : List ℕ) (es rest : List (List ℕ × V)) (o : Ordering) → nat_cmp i j ≡ o
    → find bytes_cmp (i ∷ w) (under j es ++ rest) ≡ by_order o (find bytes_cmp (i ∷ w) rest) (option_or (find bytes_cmp w es) (find bytes_cmp (i ∷ w) rest))
    (find bytes_cmp (i ∷ w) rest)
find-under i j w [] rest Less p = refl
find-under i j w [] rest Equal p = refl
find-under i j w [] rest Greater p = refl
find-under i j w (e ∷ es) rest Less p =
    ap (λ r. cond (is_eq (ordering_then r (bytes_cmp w e.0))) (Some e.1) (find bytes_cmp (i ∷ w) (under j es ++ rest))) p ∙ find-under i j w es rest Less p
find-under i j w (e ∷ es) rest Equal p =
    ap (λ r. cond (is_eq (ordering_then r (bytes_cmp w e.0))) (Some e.1) (find bytes_cmp (i ∷ w) (under j es ++ rest))) p
    ∙ ap (cond (is_eq (bytes_cmp w e.0)) (Some e.1)) (find-under i j w es rest Equal p)
    ∙ first_found (is_eq (bytes_cmp w e.0)) e.1 (find bytes_cmp w es) (find bytes_cmp (i ∷ w) rest)
find-under i j w (e ∷ es) rest Greater p =
    ap (λ r. cond (is_eq (ordering_then r (bytes_cmp w e.0))) (Some e.1) (find bytes_cmp (i ∷ w) (under j es ++ rest))) p ∙ find-under i j w es rest Greater p

-- an index below all is not there
pub absent : {V : Type 0} (low i : ℕ) (w : List ℕ) (cs : List (ℕ × List (List ℕ × V))) → Rise low cs → i < low → find bytes_cmp (i ∷ w) (fan cs) ≡ None
absent low i w [] r h = refl
absent low i w (c ∷ cs) r h =
    let below : i < c.0 = omega arith in
    let next : i < suc c.0 = omega arith in
    find-under i c.0 w c.1 (fan cs) Less (is_less i c.0 below) ∙ absent (suc c.0) i w cs r.2 next

find_step : {V : Type 0} (i : ℕ) (w : List ℕ) (c : ℕ × List (List ℕ × V)) (cs : List (ℕ × List (List ℕ × V))) (o : Ordering) → nat_cmp i c.0 ≡ o
    → Rise (suc c.0) cs → find bytes_cmp (i ∷ w) (fan cs) ≡ find bytes_cmp w (at i cs)
    → find bytes_cmp (i ∷ w) (under c.0 c.1 ++ fan cs) ≡ find bytes_cmp w (by_order o [] c.1 (at i cs))
find_step i w c cs Less p r rest =
    let next : i < suc c.0 = let h = less i c.0 p in omega arith in
    find-under i c.0 w c.1 (fan cs) Less p ∙ absent (suc c.0) i w cs r next
find_step i w c cs Equal p r rest =
    let next : i < suc c.0 = let h = same i c.0 p in omega arith in
    find-under i c.0 w c.1 (fan cs) Equal p ∙ ap (option_or (find bytes_cmp w c.1)) (absent (suc c.0) i w cs r next) ∙ or_none (find bytes_cmp w c.1)
find_step i w c cs Greater p r rest = find-under i c.0 w c.1 (fan cs) Greater p ∙ rest

pub find-fan : {V : Type 0} (low i : ℕ) (w : List ℕ) (cs : List (ℕ × List (List ℕ × V))) → Rise low cs
    → find bytes_cmp (i ∷ w) (fan cs) ≡ find bytes_cmp w (at i cs)
find-fan low i w [] r = refl
find-fan low i w (c ∷ cs) r = find_step i w c cs (nat_cmp i c.0) refl r.2 (find-fan (suc c.0) i w cs r.2)
