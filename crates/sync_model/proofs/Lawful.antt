-- A map that stands for a state is lawful: each key has fields, each field a value, and each field is there once; and what is in a sorted list is found in it.
use Rattle.std.proofs.Common.{◌≡◌, inl, inr, ℕ, List, [], ◌∷◌, Bool, true, false, cond, Some, refl, sym, ◌∙◌, ap, subst}
use Rattle.std.specs.List.{AllByRecursion}
use Rattle.std.specs.List.Sorted.{IsStrictlySortedBy}
use Rattle.std.specs.Map.{keys_of, values_of}
use Rattle.std.specs.declared.cmp.Ordering.{Ordering}
use Rattle.std.specs.declared.cmp.Ordering.TheVariants.{Less}
use Rattle.std.specs.Ordering.{is_eq, eq_by_cmp}
use Rattle.std.specs.FinMap.Entries.{find}
use Rattle.dots.specs.Bytes.{bytes_cmp}
use Rattle.hash_path.proofs.Words.{tied_same, same_tied}
use Rattle.causal_join.specs.OrMap.{fields_at}
use Rattle.dot_store.specs.Store.{HasNothing}
use Rattle.dot_store.specs.Stores.{at_values, at_stores}
use Rattle.op_model.specs.Meaning.{MapState}
use Rattle.prefix_digest.specs.MapOf.{IsMapOf}
use Rattle.sync_model.specs.Differ.{Held}
use Rattle.sync_model.specs.Laws.{IsLawfulMap}
use Rattle.sync_model.proofs.Members.{In, In-Contains, In-All, In-map}

each_rec : {X : Type 0} (P : X → Type 0) (xs : List X) (x : X) → AllByRecursion P xs → In xs x → P x
each_rec P [] x all h = absurd h
each_rec P (y ∷ ys) x all (inl e) = subst P e all.0
each_rec P (y ∷ ys) x all (inr h) = each_rec P ys x all.1 h

less_apart : {K : Type 0} (R : K → K → Ordering) (f : K) → eq_by_cmp R f f ≡ true → R f f ≡ Less → ⊥
less_apart R f same e = absurd (let off : true ≡ false = sym same ∙ ap is_eq e in cc)

module _ {K X : Type 0} (R : K → K → Ordering) (exact : (x y : K) → eq_by_cmp R x y ≡ true → x ≡ y) (same : (x : K) → eq_by_cmp R x x ≡ true) where
  pub found : (es : List (K × X)) (f : K) (v : X) → IsStrictlySortedBy R (keys_of es) → In es (f, v) → find R f es ≡ Some v
  unfolding IsStrictlySortedBy
  found [] f v sorted h = absurd h
  found (x ∷ es) f v sorted h = step (eq_by_cmp R f x.0) refl h (found es f v sorted.1)
    where
      step : (b : Bool) → eq_by_cmp R f x.0 ≡ b → In (x ∷ es) (f, v) → (In es (f, v) → find R f es ≡ Some v) → cond b (Some x.1) (find R f es) ≡ Some v
      step true e (inl here) further = ap (λ c. Some c.1) here
      step true e (inr i) further =
          let key = exact f x.0 e in
          let less = each_rec (λ y. R x.0 y ≡ Less) (keys_of es) f sorted.0 (In-map (λ e. e.0) es (f, v) i) in
          absurd (less_apart R f (same f) (ap (λ g. R g f) key ∙ less))
      step false e (inl here) further = absurd (let on : true ≡ false = sym (ap (λ c. eq_by_cmp R f c.0) here ∙ same f) ∙ e in cc)
      step false e (inr i) further = further i

nothing_held : HasNothing (fields_at [])
unfolding at_stores
nothing_held place dot = refl

no_value : HasNothing (at_values {V = List ℕ} [])
unfolding at_values
no_value place dot = refl

pub map_lawful : (m : Held) (p : MapState) → IsMapOf m p → IsLawfulMap m
map_lawful m p is key fs e =
    let order = is.ordered key fs e in
    record {
      some = λ none. is.filled key fs e (subst (λ l. HasNothing (fields_at l)) (sym none) nothing_held);
      each = λ f vs h. (
        (λ none. In-All (λ v. ¬ HasNothing (at_values v)) (values_of fs) vs order.filled (In-map (λ x. x.1) fs (f, vs) (In-Contains fs (f, vs) h))
            (subst (λ l. HasNothing (at_values l)) (sym none) no_value)),
        found bytes_cmp tied_same (λ f. same_tied f f refl) fs f vs order.ordered (In-Contains fs (f, vs) h),
      );
    }
