-- Stores that are copied from a map one after another, and their entries in the order of the keys.
use Rattle.std.proofs.Common.{◌≡◌, ℕ, Bool, true, false, cond, List, Contains, Option, None, Some, refl, sym, ap, ◌∙◌, subst}
use Rattle.std.proofs.lemmas.Bool.{false≢true, cond-true, cond-false}
use Rattle.std.proofs.lemmas.Cmp.{eq_by_cmp_equiv, nat_list_cmp_total}
use Rattle.std.proofs.lemmas.List.Elements.{All-contains_itself, All-weaker}
use Rattle.std.proofs.lemmas.Map.Keys.{IsDistinct-from_sorted}
use Rattle.std.proofs.lemmas.Map.Made.{Contains-from_values_of}
use Rattle.std.proofs.lemmas.Map.Views.{lookup-from_Contains}
use Rattle.std.specs.BTreeMap.{BTreeMap, get, is_at, keys, IsEmpty}
use Rattle.std.specs.FinMap as finite
use Rattle.std.specs.Map.{lookup, values_of}
use Rattle.std.specs.Ordering.{eq_by_cmp}
use Rattle.dots.specs.Bytes.{bytes_cmp}
use Rattle.dots.specs.Dot.{DotValue}
use Rattle.dot_store.specs.Store.{HasNothing, HoldsSame}
use Rattle.dot_store.specs.Stores.{at_stores, held_by, NoKeyIsEmpty}
use Rattle.hash_path.proofs.Words.{same_tied, tied_same}
use Rattle.trie_map.specs.Copied.{IsCopied, AreOnlyCopies, AreCopies, AddsCopy}
use Rattle.trie_map.specs.Keyed.{at_keys, NoStoreIsEmpty}

module _ {S P H : Type 0} (at : S → P → DotValue → Option H) (m : finite.FinMap bytes_cmp S) where
  pub no_copies : (copies : BTreeMap (List ℕ) S) → IsEmpty copies → AreOnlyCopies at m copies
  no_copies copies empty key copy is = absurd (let none : None ≡ Some copy = sym (ap (lookup (is_at (bytes_cmp key))) empty) ∙ is in cc)

  module _ (old new : BTreeMap (List ℕ) S) (key : List ℕ) (store : S) (there : finite.get m key ≡ Some store) (adds : AddsCopy at old new key store) where
    abbrev copy : S
    copy = adds.copy

    same : HoldsSame (at copy) (at store)
    same = adds.same

    updates : (q : List ℕ) → get bytes_cmp new q ≡ cond (is_at (bytes_cmp key) q) (Some copy) (get bytes_cmp old q)
    updates = adds.updates

    -- one more copy, at its key and at the others
    pub copied_here : IsCopied at m new key
    copied_here w is =
        let e : store ≡ w = cc in (
          copy,
          updates key ∙ cond-true (is_at (bytes_cmp key) key) (Some copy) (get bytes_cmp old key) (same_tied key key refl),
          subst (λ s. HoldsSame (at copy) (at s)) e same,
        )

    apart_at : (q : List ℕ) → eq_by_cmp bytes_cmp q key ≡ false → (b : Bool) → is_at (bytes_cmp key) q ≡ b → b ≡ false
    apart_at q apart true tied = absurd (false≢true (sym apart ∙ same_tied q key (sym (tied_same key q tied))))
    apart_at q apart false tied = refl

    pub copied_apart : (q : List ℕ) → eq_by_cmp bytes_cmp q key ≡ false → IsCopied at m old q → IsCopied at m new q
    copied_apart q apart was w is =
        let before = was w is in (
          before.0,
          updates q ∙ cond-false (is_at (bytes_cmp key) q) (Some copy) (get bytes_cmp old q) (apart_at q apart (is_at (bytes_cmp key) q) refl)
              ∙ before.1,
          before.2,
        )

    pub copied_only : AreOnlyCopies at m old → AreOnlyCopies at m new
    copied_only was q s is = go (is_at (bytes_cmp key) q) refl
      where
        go : (b : Bool) → is_at (bytes_cmp key) q ≡ b → (w : S) × (finite.get m q ≡ Some w) × HoldsSame (at s) (at w)
        go true tied =
            let found = sym (cond-true (is_at (bytes_cmp key) q) (Some copy) (get bytes_cmp old q) tied) ∙ sym (updates q) ∙ is in
            let e : copy ≡ s = cc in
            (store, ap (finite.get m) (sym (tied_same key q tied)) ∙ there, subst (λ c. HoldsSame (at c) (at store)) e same)
        go false tied = was q s (sym (cond-false (is_at (bytes_cmp key) q) (Some copy) (get bytes_cmp old q) tied) ∙ sym (updates q) ∙ is)

  module _ (copies : BTreeMap (List ℕ) S) (are : AreCopies at m copies) where
    -- no copy is empty, as no store is
    pub copies_filled : NoStoreIsEmpty at m → NoKeyIsEmpty at copies.entries
    copies_filled filled = All-weaker (Contains (values_of copies.entries)) (λ s. ¬ HasNothing (at s)) each (values_of copies.entries)
        (All-contains_itself (values_of copies.entries))
      where
        each : (s : S) → Contains (values_of copies.entries) s → ¬ HasNothing (at s)
        each s in_it nothing =
            let entry = Contains-from_values_of copies.entries s in_it in
            let found = lookup-from_Contains {eq = eq_by_cmp bytes_cmp} (eq_by_cmp_equiv nat_list_cmp_total) entry.0 s copies.entries
            (IsDistinct-from_sorted bytes_cmp (keys copies) are.ordered) entry.1 in
            let store = are.only entry.0 s found in
            filled entry.0 store.0 store.1 (λ place d. sym (store.2 place d) ∙ nothing place d)

    -- the copies hold what the map does
    pub copies_hold : {Hash : Type 0} (hash : Hash) (q : List ℕ × P) (d : DotValue) → at_stores at bytes_cmp copies.entries q d ≡ at_keys at (hash, m) q d
    unfolding at_stores at_keys
    copies_hold hash q d = go (get bytes_cmp copies q.0) (finite.get m q.0) refl refl
      where
        go : (found : Option S) (held : Option S) → get bytes_cmp copies q.0 ≡ found → finite.get m q.0 ≡ held
            → held_by at (get bytes_cmp copies q.0) q.1 d ≡ held_by at (finite.get m q.0) q.1 d
        go (Some s) held is h =
            let store = are.only q.0 s is in
            ap (λ o. held_by at o q.1 d) is ∙ store.2 q.1 d ∙ ap (λ o. held_by at o q.1 d) (sym store.1)
        go None None is h = ap (λ o. held_by at o q.1 d) is ∙ ap (λ o. held_by at o q.1 d) (sym h)
        go None (Some w) is h = let copy = are.all q.0 w h in absurd (let both : None ≡ Some copy.0 = sym is ∙ copy.1 in cc)
