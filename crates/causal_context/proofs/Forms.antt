-- The canonical form of a set of dots.
use Rattle.std.proofs.Common.{◌≡◌, ℕ, Bool, true, false, ◌||◌, ◌&&◌, List, [], ◌∷◌, length, refl, ap, ◌∙◌, arith, max, leb}
use Rattle.std.specs.Prelude.{IsTrue}
use Rattle.std.proofs.lemmas.Bool.Decides.{nat_tests}
use Rattle.dots.specs.Dot.{DotValue}
use Rattle.causal_context.specs.Context.{has, known_up_to, in_cloud, is_known}
use Rattle.causal_context.specs.Canonical.{IsApart, HasNoZero, EqualSetsAreOne}
use Rattle.causal_context.proofs.Vectors.{vector_from_known, first_known}
use Rattle.causal_context.proofs.Clouds.{cloud_from_test, first_in_cloud}
use Rattle.causal_context.proofs.Known.{known_below, known_in_cloud, known_max, same_entries, same_clouds}

-- equal sets have equal representation
pub one_form : EqualSetsAreOne
unfolding has
one_form a b ca cb h =
    let vectors = vector_from_known a.vector b.vector ca.names_ascend cb.names_ascend ca.no_zero cb.no_zero
    (same_entries (known_up_to a.vector) (known_up_to b.vector) (in_cloud a.cloud) (in_cloud b.cloud) ca.apart cb.apart h) in
    let clouds = cloud_from_test a.cloud b.cloud ca.dots_ascend cb.dots_ascend
    (same_clouds (known_up_to a.vector) (known_up_to b.vector) (in_cloud a.cloud) (in_cloud b.cloud) ca.apart cb.apart h) in
    λ i. record { vector = vectors i; cloud = clouds i }

-- a set has no dots exactly where the vector and the cloud are empty
no_dots : (d : DotValue) (b : Bool) → (b && false) ≡ false
no_dots d true = refl
no_dots d false = refl

pub none_from_empty : (vector : List (ℕ × ℕ)) (cloud : List DotValue) → length vector ≡ 0 → length cloud ≡ 0 → (d : DotValue) → is_known vector cloud d ≡ false
none_from_empty [] [] v c d = grind (arith, nat_tests)
none_from_empty [] (x ∷ xs) v c d = absurd (omega arith)
none_from_empty (x ∷ xs) cloud v c d = absurd (omega arith)

pub vector_empty_from_none : (vector : List (ℕ × ℕ)) (cloud : List DotValue) → HasNoZero vector → ((d : DotValue) → is_known vector cloud d ≡ false)
    → length vector ≡ 0
vector_empty_from_none [] cloud z h = refl
vector_empty_from_none (x ∷ xs) cloud z h =
    let d : DotValue = record { name = x.0; number = 1 } in
    let there : IsTrue (is_known (x ∷ xs) cloud d) = known_below (known_up_to (x ∷ xs)) (in_cloud cloud) d (omega arith) (first_known x xs z) in
    absurd (cc (there, h d))

pub cloud_empty_from_none : (vector : List (ℕ × ℕ)) (cloud : List DotValue) → IsApart vector cloud → ((d : DotValue) → is_known vector cloud d ≡ false)
    → length cloud ≡ 0
cloud_empty_from_none vector [] apart h = refl
cloud_empty_from_none vector (x ∷ xs) apart h =
    let above = apart x (first_in_cloud x xs) in
    let there : IsTrue (is_known vector (x ∷ xs) x) = known_in_cloud (known_up_to vector) (in_cloud (x ∷ xs)) x (omega arith) (first_in_cloud x xs) in
    absurd (cc (there, h x))

-- a vector that is as high as either of two, with no cloud
pub known-covering : (both mine yours : List (ℕ × ℕ)) (cloud : List DotValue)
    → ((name : ℕ) → known_up_to both name ≡ max (known_up_to mine name) (known_up_to yours name)) → cloud ≡ []
    → (d : DotValue) → is_known both cloud d ≡ (is_known mine [] d || is_known yours [] d)
known-covering both mine yours cloud merged empty d =
    ap (λ ds. is_known both ds d) empty ∙ ap (λ n. leb 1 d.number && (leb d.number n || false)) (merged d.name)
    ∙ known_max d.number (known_up_to mine d.name) (known_up_to yours d.name)
