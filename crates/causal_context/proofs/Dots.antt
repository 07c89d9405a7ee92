-- The order of dots, and the test whether two dots are one.
use Rattle.std.proofs.Common.{◌≡◌, ℕ, true, ◌&&◌, List, [], ◌∷◌, refl, ap, ◌∙◌, arith, eqb}
use Rattle.std.specs.Ordering.{is_eq, nat_cmp, ordering_then}
use Rattle.std.specs.declared.cmp.Ordering.{Ordering}
use Rattle.std.specs.declared.cmp.Ordering.TheVariants.{Less, Equal, Greater}
use Rattle.std.specs.Cmp.{IsTotalOrder, nat_cmp_total, then_total, on_total}
use Rattle.std.specs.List.{list_any}
use Rattle.std.specs.Map.{lookup}
use Rattle.std.specs.BTreeMap.{is_at}
use Rattle.std.proofs.lemmas.Bool.Decides.{nat_tests}
use Rattle.std.proofs.lemmas.Map.Lookups.{CmpEqualImpliesEq, exact_unsigned}
use Rattle.dots.specs.Dot.{DotValue, same_dot}
use Rattle.causal_context.specs.Dots.{dot_cmp}

is_eq-then : (o p : Ordering) → is_eq (ordering_then o p) ≡ (is_eq o && is_eq p)
is_eq-then Less p = refl
is_eq-then Equal p = refl
is_eq-then Greater p = refl

is_eq-nat_cmp : (m n : ℕ) → is_eq (nat_cmp m n) ≡ eqb m n
is_eq-nat_cmp m n = grind (arith, nat_tests)

-- dots are equal by their order exactly where they are one
pub is_eq-dot_cmp : (d e : DotValue) → is_eq (dot_cmp d e) ≡ same_dot d e
is_eq-dot_cmp d e = rw (is_eq-then, is_eq-nat_cmp, is_eq-nat_cmp) refl

pub dot_cmp_total : IsTotalOrder dot_cmp
dot_cmp_total = then_total (on_total (λ d. d.name) nat_cmp_total) (on_total (λ d. d.number) nat_cmp_total)

equal_parts : (o p : Ordering) → ordering_then o p ≡ Equal → (o ≡ Equal) × (p ≡ Equal)
equal_parts Less p h = absurd (cc h)
equal_parts Equal p h = (refl, h)
equal_parts Greater p h = absurd (cc h)

dot_from_parts : (d e : DotValue) → d.name ≡ e.name → d.number ≡ e.number → d ≡ e
dot_from_parts d e name number =
    let with_name : ℕ → DotValue = λ n. record { name = n; number = d.number } in
    let with_number : ℕ → DotValue = λ n. record { name = e.name; number = n } in
    ap with_name name ∙ ap with_number number

pub dot_exact : CmpEqualImpliesEq dot_cmp
dot_exact d e h =
    let p = equal_parts (nat_cmp d.name e.name) (nat_cmp d.number e.number) h in
    let name = exact_unsigned d.name e.name p.0 in
    let number = exact_unsigned d.number e.number p.1 in
    dot_from_parts d e name number

equal_from_test : (o : Ordering) → is_eq o ≡ true → o ≡ Equal
equal_from_test Less h = absurd (cc h)
equal_from_test Equal h = refl
equal_from_test Greater h = absurd (cc h)

-- a dot is one with itself, and with no other
pub same_dot-refl : (d : DotValue) → same_dot d d ≡ true
same_dot-refl d = grind (arith, nat_tests)

pub same_from_test : (d e : DotValue) → same_dot d e ≡ true → d ≡ e
same_from_test d e h = dot_exact d e (equal_from_test (dot_cmp d e) (is_eq-dot_cmp d e ∙ h))

-- what an ordered set answers at a dot is what the test says
pub list_any-dot_cmp : (d : DotValue) (ds : List DotValue) → list_any (is_at (dot_cmp d)) ds ≡ list_any (same_dot d) ds
list_any-dot_cmp d [] = refl
list_any-dot_cmp d (e ∷ ds) = rw (is_eq-dot_cmp d e, list_any-dot_cmp d ds) refl

pub lookup-dot_cmp : {V : Type 0} (d : DotValue) (es : List (DotValue × V)) → lookup (is_at (dot_cmp d)) es ≡ lookup (same_dot d) es
lookup-dot_cmp d [] = refl
lookup-dot_cmp d (e ∷ es) = rw (is_eq-dot_cmp d e.0, lookup-dot_cmp d es) refl
