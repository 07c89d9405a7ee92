-- Places as they are tested: two that the test takes for one are one.
use Rattle.std.proofs.Common.{◌≡◌, ℕ, List, refl, ap, true}
use Rattle.std.specs.declared.cmp.Ordering.{Ordering}
use Rattle.std.specs.declared.cmp.Ordering.TheVariants.{Less, Equal, Greater}
use Rattle.std.specs.Ordering.{is_eq}
use Rattle.std.specs.Cmp.Lexicographic.{nat_list_cmp_total}
use Rattle.std.proofs.lemmas.Bool.{false≢true, and_parts, and_from}
use Rattle.std.proofs.lemmas.Cmp.{tied_itself}
use Rattle.dots.specs.Bytes.{bytes_cmp}
use Rattle.op_model.specs.Place.{Place, same_bytes, same_place}
use Rattle.op_model.specs.Operation.{Write}
use Rattle.op_model.specs.Shown.{is_on, is_within}
use Rattle.op_model.proofs.Greater.{bytes_exact}

is_equal : (o : Ordering) → is_eq o ≡ true → o ≡ Equal
is_equal Less e = absurd (false≢true e)
is_equal Equal e = refl
is_equal Greater e = absurd (false≢true e)

pub same_bytes-true : (x y : List ℕ) → same_bytes x y ≡ true → x ≡ y
same_bytes-true x y e = bytes_exact x y (is_equal (bytes_cmp x y) e)

pub same_bytes-self : (x : List ℕ) → same_bytes x x ≡ true
same_bytes-self x = ap is_eq (tied_itself nat_list_cmp_total x)

pub same_place-true : (p q : Place) → same_place p q ≡ true → p ≡ q
same_place-true p q e =
    let parts = and_parts (same_bytes p.key q.key) (same_bytes p.field q.field) e in
    let key : p.key ≡ q.key = same_bytes-true p.key q.key parts.0 in
    let field : p.field ≡ q.field = same_bytes-true p.field q.field parts.1 in
    λ i. record { key = key i; field = field i }

pub same_place-self : (p : Place) → same_place p p ≡ true
same_place-self p = and_from (same_bytes p.key p.key) (same_bytes p.field p.field) (same_bytes-self p.key) (same_bytes-self p.field)

-- a write is on its own place and within its own key, and on or within no other
pub on_own : (w : Write) → is_on w.place w ≡ true
on_own w = same_place-self w.place

pub on_place : (place : Place) (w : Write) → is_on place w ≡ true → w.place ≡ place
on_place place w e = same_place-true w.place place e

pub within_own : (w : Write) → is_within w.place.key w ≡ true
within_own w = same_bytes-self w.place.key

pub within_key : (key : List ℕ) (w : Write) → is_within key w ≡ true → w.place.key ≡ key
within_key key w e = same_bytes-true w.place.key key e
