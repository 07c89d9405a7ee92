-- What `==` of two contexts decides.
use Rattle.std.proofs.Common.{◌≡◌, ℕ, Bool, ◌&&◌, refl, sym, ap, ◌∙◌, eqb}
use Rattle.std.specs.Prelude.{IsTrue, ◌↔◌}
use Rattle.std.specs.Bool.{Decides}
use Rattle.std.specs.Cmp.Lexicographic.{pointwise}
use Rattle.std.proofs.lemmas.Bool.{and_parts, and_from}
use Rattle.std.proofs.lemmas.Bool.Decides.{Decides-eqb}
use Rattle.std.proofs.lemmas.Slice.Eq.{slice_eq-Decides}
use Rattle.dots.specs.Dot.{DotValue, same_dot}
use Rattle.causal_context.specs.Context.{ContextValue, has, HasSame}
use Rattle.causal_context.specs.Canonical.{IsCanonical}
use Rattle.causal_context.specs.Equal.{same_form}
use Rattle.causal_context.proofs.Dots.{same_dot-refl, same_from_test}
use Rattle.causal_context.proofs.Forms.{one_form}

entries_decide : (p q : ℕ × ℕ) → Decides (eqb p.0 q.0 && eqb p.1 q.1) (p ≡ q)
entries_decide p q = (
  λ h. let parts = and_parts (eqb p.0 q.0) (eqb p.1 q.1) h in
      let name = (Decides-eqb p.0 q.0).0 parts.0 in
      let number = (Decides-eqb p.1 q.1).0 parts.1 in
      λ i. (name i, number i),
  λ e. and_from (eqb p.0 q.0) (eqb p.1 q.1) ((Decides-eqb p.0 q.0).1 (ap (λ (x : ℕ × ℕ). x.0) e)) ((Decides-eqb p.1 q.1).1 (ap (λ (x : ℕ × ℕ). x.1) e)),
)

dots_decide : (d e : DotValue) → Decides (same_dot d e) (d ≡ e)
dots_decide d e = (same_from_test d e, λ h. ap (same_dot d) (sym h) ∙ same_dot-refl d)

-- equal vectors and clouds are one value
pub same_form-decides : (a b : ContextValue) → Decides (same_form a b) (a ≡ b)
same_form-decides a b =
    let vectors = slice_eq-Decides entries_decide a.vector b.vector (pointwise (λ (p q : ℕ × ℕ). eqb p.0 q.0 && eqb p.1 q.1) a.vector b.vector) refl in
    let clouds = slice_eq-Decides dots_decide a.cloud b.cloud (pointwise same_dot a.cloud b.cloud) refl in (
      λ h. let parts = and_parts _ (pointwise same_dot a.cloud b.cloud) h in
          let v = vectors.0 parts.0 in
          let c = clouds.0 parts.1 in
          λ i. record { vector = v i; cloud = c i },
      λ e. and_from _ (pointwise same_dot a.cloud b.cloud) (vectors.1 (ap (λ (x : ContextValue). x.vector) e))
          (clouds.1 (ap (λ (x : ContextValue). x.cloud) e)),
    )

pub same_form-equal : (a b : ContextValue) (r : Bool) → r ≡ same_form a b → IsTrue r ↔ (a ≡ b)
same_form-equal a b r is = (λ h. (same_form-decides a b).0 (sym is ∙ h), λ e. is ∙ (same_form-decides a b).1 e)

-- and contexts with the same dots are
pub same_form-same : (a b : ContextValue) (r : Bool) → IsCanonical a → IsCanonical b → r ≡ same_form a b → IsTrue r ↔ HasSame a b
same_form-same a b r ca cb is =
    let equal = same_form-equal a b r is in
    (λ h d. ap (λ x. has x d) (equal.0 h), λ same. equal.1 (one_form a b ca cb same))
