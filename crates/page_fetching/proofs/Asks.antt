-- What is asked for are children that a prefix can have, and what is waited for then are prefixes.
use Rattle.std.proofs.Common.{◌≡◌, ◌⊎◌, inl, inr, ℕ, suc, ◌+◌, ◌<◌, ◌≤◌, List, [], ◌∷◌, ◌++◌, length, Bool, true, false, cond, Some, None, nat_eq, eqb-true}
use Rattle.std.proofs.Common.{eq-eqb, arith, refl, sym, ◌∙◌, ap, subst}
use Rattle.std.specs.Prelude.{not, IsTrue}
use Rattle.std.specs.List.{AllByRecursion, filter}
use Rattle.std.specs.Ordering.{eq_by_cmp}
use Rattle.std.specs.Cmp.Lexicographic.{nat_list_cmp_total}
use Rattle.std.specs.FinMap as finite
use Rattle.std.specs.FinMap.{get-remove, get-insert, get-empty, empty_of_len, len-empty, same_map, slice_cmp-IsAntisymmetric, nat_cmp-IsAntisymmetric}
use Rattle.dots.specs.Bytes.{bytes_cmp}
use Rattle.hash_path.specs.Path.{AreIndices, last_index}
use Rattle.hash_path.proofs.Words.{tied_same}
use Rattle.wire_form.specs.Page.{PageValue, OneKey, Keys, Branch}
use Rattle.wire_form.specs.Sent.{SentValue, CanStand, CanBeSent}
use Rattle.sync_model.specs.Differ.{Held}
use Rattle.sync_model.specs.Fetch.{Waiting, children_of, is_own, to_ask, put_children}
use Rattle.sync_model.proofs.Members.{In}
use Rattle.sync_model.proofs.Stepping.{from_children}
use Rattle.page_fetching.specs.Taking.{IsChildOf, ArePrefixes}

all_kept : {X : Type 0} (P : X → Type 0) (t : X → Bool) (xs : List X) → AllByRecursion P xs → AllByRecursion P (filter t xs)
all_kept P t [] h = tt
all_kept P t (x ∷ xs) h = step (t x) (all_kept P t xs h.1)
  where
    step : (b : Bool) → AllByRecursion P (filter t xs) → AllByRecursion P (cond b (x ∷ filter t xs) (filter t xs))
    step true rest = (h.0, rest)
    step false rest = rest

deep_enough : (p : List ℕ) (cs : List (ℕ × List ℕ)) → length p < 7 → AllByRecursion (λ c. c.0 ≤ last_index (length p)) cs
    → AllByRecursion (λ c. IsChildOf p c.0) cs
deep_enough p [] short h = tt
deep_enough p (c ∷ cs) short h = ((short, h.0), deep_enough p cs short h.1)

between : (d : ℕ) (cs : List (ℕ × List ℕ)) → CanStand d (Branch cs) → AllByRecursion (λ c. c.0 ≤ last_index d) cs
between d cs (deep, some, below, sorted) = below

can_ask : (p : List ℕ) (page : PageValue) → CanStand (length p) page → AllByRecursion (λ c. IsChildOf p c.0) (children_of page)
can_ask p (OneKey e) h = tt
can_ask p (Keys es) h = tt
can_ask p (Branch cs) h = deep_enough p cs h.0 (between (length p) cs h)

module _ (f : List ℕ → ℕ) (own : Held) where
  pub asks_can : (s : SentValue) → CanBeSent s → AllByRecursion (λ c. IsChildOf s.prefix c.0) (to_ask f own s.prefix (children_of s.page))
  asks_can s h = all_kept (λ c. IsChildOf s.prefix c.0) (λ c. not (is_own f own s.prefix c)) (children_of s.page) (can_ask s.prefix s.page h.stands)

further : (d : ℕ) (p : List ℕ) (i : ℕ) → AreIndices d p → i ≤ last_index (d + length p) → AreIndices d (p ++ i ∷ [])
further d [] i h last = let same : d + 0 ≡ d = omega arith in (subst (λ k. i ≤ last_index k) same last, tt)
further d (j ∷ p) i h last = let same : d + suc (length p) ≡ suc d + length p = omega arith in
    (h.0, further (suc d) p i h.1 (subst (λ k. i ≤ last_index k) same last))

longer : (p : List ℕ) (i : ℕ) → length (p ++ i ∷ []) ≡ suc (length p)
longer [] i = refl
longer (j ∷ p) i = ap suc (longer p i)

in_all : {X : Type 0} (P : X → Type 0) (xs : List X) (x : X) → AllByRecursion P xs → In xs x → P x
in_all P [] x h i = absurd i
in_all P (y ∷ ys) x h (inl e) = subst P e h.0
in_all P (y ∷ ys) x h (inr i) = in_all P ys x h.1 i

pub prefixes_next : (w : Waiting) (p : List ℕ) (cs : List (ℕ × List ℕ)) → ArePrefixes w → AreIndices 0 p → AllByRecursion (λ c. IsChildOf p c.0) cs
    → ArePrefixes (put_children p cs (finite.remove w p))
prefixes_next w p cs are indices can q d e = step (from_children p cs (finite.remove w p) q d e)
  where
    kept : (b : Bool) → cond b None (finite.get w q) ≡ Some d → finite.get w q ≡ Some d
    kept true u = absurd cc
    kept false u = u

    step : ((i : ℕ) × In cs (i, d) × (q ≡ p ++ i ∷ [])) ⊎ (finite.get (finite.remove w p) q ≡ Some d) → AreIndices 0 q × (length q ≤ 7)
    step (inl (i, there, is)) =
        let child = in_all (λ c. IsChildOf p c.0) cs (i, d) can there in
        let long = longer p i in let short = child.0 in let none_more : length p ≡ 0 + length p = omega arith in
        subst (λ r. AreIndices 0 r × (length r ≤ 7)) (sym is) (
          further 0 p i indices (subst (λ k. i ≤ last_index k) none_more child.1),
          omega (arith, long, short),
        )
    step (inr before) = are q d (kept (eq_by_cmp bytes_cmp q p) (sym (get-remove nat_list_cmp_total w p q) ∙ before))

pub no_prefixes : ArePrefixes finite.empty
no_prefixes p d e = let none = sym (get-empty bytes_cmp p) ∙ e in absurd cc

pub root_prefix : (root : List ℕ) → ArePrefixes (finite.insert finite.empty [] root)
root_prefix root p d e = step (eq_by_cmp bytes_cmp p []) refl (sym (get-insert nat_list_cmp_total finite.empty [] root p) ∙ e)
  where
    step : (b : Bool) → eq_by_cmp bytes_cmp p [] ≡ b → cond b (Some root) (finite.get (finite.empty {X = List ℕ} {R = bytes_cmp}) p) ≡ Some d → AreIndices 0 p
        × (length p ≤ 7)
    step true t u = subst (λ q. AreIndices 0 q × (length q ≤ 7)) (sym (tied_same p [] t)) (tt, omega arith)
    step false t u = let none = sym (get-empty bytes_cmp p) ∙ u in absurd cc

-- nothing is waited for where the map has no key
same_waiting : (v w : Waiting) → ((q : List ℕ) → finite.get v q ≡ finite.get w q) → v ≡ w
same_waiting v w h = same_map nat_list_cmp_total (slice_cmp-IsAntisymmetric nat_cmp-IsAntisymmetric) v w h

pub complete_is : (w : Waiting) (n : ℕ) → n ≡ finite.len w → (IsTrue (nat_eq n 0) → (p : List ℕ) → finite.get w p ≡ None)
    × (((p : List ℕ) → finite.get w p ≡ None) → IsTrue (nat_eq n 0))
complete_is w n is = (
  (λ t p. ap (λ v. finite.get v p) (empty_of_len w (sym is ∙ eqb-true n 0 t)) ∙ get-empty bytes_cmp p),
  λ none. eq-eqb n 0 (is ∙ ap finite.len (same_waiting w finite.empty (λ q. none q ∙ sym (get-empty bytes_cmp q))) ∙ len-empty bytes_cmp (List ℕ)),
)
