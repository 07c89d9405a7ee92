-- What the writers of a page leave.
use Rattle.std.proofs.Common.{◌≡◌, ℕ, List, [], ◌∷◌, ◌++◌, ◌<◌, ◌+◌, ◌≤◌, length, take, get_or, sym, ap, ◌∙◌, subst}
use Rattle.std.specs.List.{flat_map, AllByRecursion}
use Rattle.std.proofs.lemmas.List.{append-nil, take_more, take_all, flat_map_more}
use Rattle.std.specs.List.Sorted.{IsStrictlySortedBy}
use Rattle.std.specs.Map.{keys_of}
use Rattle.dots.specs.Bytes.{bytes_cmp}
use Rattle.causal_context.specs.Dots.{dot_cmp}
use Rattle.wire_form.specs.Spelling.{pair, IsPair, counted, AreCounted}
use Rattle.wire_form.specs.Parts.{text, IsText, dot_bytes, IsDot}
use Rattle.wire_form.specs.Page.{NamesValue, NamedValue, digest, IsDigest, names, AreNames, named, AreNamed}
use Rattle.wire_form.specs.Writing.{Appends}

pub names_appended : (old now : List ℕ) (ns made : NamesValue) → Appends (counted (pair dot_bytes digest)) (AreCounted (IsPair IsDot IsDigest)) old now made
    → made ≡ ns
    → IsStrictlySortedBy dot_cmp (keys_of made) → Appends names AreNames old now ns
names_appended old now ns made p e s = subst (λ (m : NamesValue). Appends names AreNames old now m) e
    (record { fits = record { each = p.fits; ascend = s }; parts = p.parts })

pub named_appended : (old now : List ℕ) (fs made : NamedValue) → Appends (counted (pair text names)) (AreCounted (IsPair IsText AreNames)) old now made
    → made ≡ fs
    → IsStrictlySortedBy bytes_cmp (keys_of made) → Appends named AreNamed old now fs
named_appended old now fs made p e s = subst (λ (m : NamedValue). Appends named AreNamed old now m) e
    (record { fits = record { each = p.fits; ascend = s }; parts = p.parts })

-- ---- items behind one another, with no count

module _ {X : Type 0} (item : X → List ℕ) (Item : X → Type 0) where
  all_push : (xs : List X) (x : X) → AllByRecursion Item xs → Item x → AllByRecursion Item (xs ++ x ∷ [])
  all_push [] x p q = (q, tt)
  all_push (y ∷ ys) x p q = (p.0, all_push ys x p.1 q)

  pub none_behind : (old : List ℕ) → Appends (flat_map item) (AllByRecursion Item) old old []
  none_behind old = record { fits = tt; parts = sym (append-nil old) }

  one_behind : (old now new : List ℕ) (xs : List X) (x : X) → Appends (flat_map item) (AllByRecursion Item) old now xs → Appends item Item now new x
      → Appends (flat_map item) (AllByRecursion Item) old new (xs ++ x ∷ [])
  one_behind old now new xs x p q = record {
    fits = all_push xs x p.fits q.fits;
    parts = q.parts ∙ ap (λ (t : List ℕ). t ++ item x) p.parts ∙ flat_map_more item old xs x;
  }

  pub next_behind : (old now new : List ℕ) (xs : List X) (i : ℕ) (x : X) → Appends (flat_map item) (AllByRecursion Item) old now (take i xs) → i < length xs
      → x ≡ get_or xs i x → Appends item Item now new x
      → Appends (flat_map item) (AllByRecursion Item) old new (take (i + 1) xs)
  next_behind old now new xs i x p h is q =
      let e : take (i + 1) xs ≡ take i xs ++ x ∷ [] = take_more xs i x h ∙ ap (λ (y : X). take i xs ++ y ∷ []) (sym is) in
      subst (Appends (flat_map item) (AllByRecursion Item) old new) (sym e) (one_behind old now new (take i xs) x p q)

  pub all_behind : (old now : List ℕ) (xs : List X) (i : ℕ) → Appends (flat_map item) (AllByRecursion Item) old now (take i xs) → length xs ≤ i
      → Appends (flat_map item) (AllByRecursion Item) old now xs
  all_behind old now xs i p h = subst (Appends (flat_map item) (AllByRecursion Item) old now) (take_all i xs h) p
