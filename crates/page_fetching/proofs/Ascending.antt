-- A set that the keys of a walk are put into has just the keys of the map, in their order.
use Rattle.std.proofs.Common.{◌≡◌, ℕ, suc, ◌≤◌, List, [], ◌∷◌, map, length, Bool, true, false, cond, Some, None, inl, inr, arith, refl, sym, ◌∙◌, ap}
use Rattle.std.specs.Prelude.{◌||◌, is_some, Option}
use Rattle.std.specs.Ordering.{eq_by_cmp}
use Rattle.std.specs.Cmp.{eq_by_cmp_equiv}
use Rattle.std.specs.Cmp.Lexicographic.{nat_list_cmp_total}
use Rattle.std.specs.List.{All, AllByRecursion, list_any}
use Rattle.std.specs.List.Sorted.{IsStrictlySortedBy}
use Rattle.std.specs.BTreeSet.{BTreeSet, contains}
use Rattle.std.specs.FinMap as finite
use Rattle.std.specs.FinMap.{entries_sorted, contains_key-keys}
use Rattle.std.proofs.lemmas.Map.Lookups.{btree_set_from_contains, exact_bytes}
use Rattle.dots.specs.Bytes.{bytes_cmp}
use Rattle.gen_trie.proofs.Ordered.{sorted_keys}
use Rattle.hash_path.specs.Path.{AreIndices, prefix_cmp}
use Rattle.hash_path.specs.Map.{walk}
use Rattle.hash_path.proofs.Parts.{walk_found, walk_has}
use Rattle.hash_path.proofs.Words.{tied_same, same_tied}
use Rattle.sync_model.specs.Fetch.{Waiting}
use Rattle.sync_model.proofs.Members.{In, In-All, In-Contains}
use Rattle.page_fetching.specs.Taking.{ArePrefixes}

or_true : (b : Bool) → (b || true) ≡ true
or_true true = refl
or_true false = refl

or_false : (b : Bool) → (b || false) ≡ b
or_false true = refl
or_false false = refl

module _ {V : Type 0} where
  -- ---- whether entries have a key

  abbrev pub has_entry : List (List ℕ × V) → List ℕ → Bool
  has_entry es q = list_any (λ e. eq_by_cmp prefix_cmp q e.0) es

  has_from_In : (q : List ℕ) (v : V) (es : List (List ℕ × V)) → In es (q, v) → has_entry es q ≡ true
  has_from_In q v [] h = absurd h
  has_from_In q v (e ∷ es) (inl same) = ap (λ b. b || has_entry es q) (same_tied q e.0 (sym (ap (λ x. x.0) same)))
  has_from_In q v (e ∷ es) (inr h) = ap (λ b. eq_by_cmp prefix_cmp q e.0 || b) (has_from_In q v es h) ∙ or_true (eq_by_cmp prefix_cmp q e.0)

  In_from_has : (q : List ℕ) (es : List (List ℕ × V)) → has_entry es q ≡ true → (v : V) × In es (q, v)
  In_from_has q [] h = absurd cc
  In_from_has q (e ∷ es) h = step (eq_by_cmp prefix_cmp q e.0) refl h (In_from_has q es)
    where
      step : (b : Bool) → eq_by_cmp prefix_cmp q e.0 ≡ b → (b || has_entry es q) ≡ true → (has_entry es q ≡ true → (v : V) × In es (q, v)) → (v : V)
          × In (e ∷ es) (q, v)
      step true t u rest = let key : e.0 ≡ q = sym (tied_same q e.0 t) in (e.1, inl (λ i. (key i, e.1)))
      step false t u rest = let r = rest u in (r.0, inr r.1)

  some_of : (o : Option V) → is_some o ≡ true → (v : V) × (o ≡ Some v)
  some_of None h = absurd cc
  some_of (Some v) h = (v, refl)

  -- a walk has just the keys of its map
  walk_keys : (f : List ℕ → ℕ) (m : finite.FinMap bytes_cmp V) (q : List ℕ) → has_entry (walk f m) q ≡ finite.contains_key m q
  walk_keys f m q = step (has_entry (walk f m) q) (finite.contains_key m q) refl refl
    where
      step : (a b : Bool) → has_entry (walk f m) q ≡ a → finite.contains_key m q ≡ b → a ≡ b
      step true b a_is b_is =
          let there = In_from_has q (walk f m) a_is in
          ap is_some (sym (In-All (λ e. finite.get m e.0 ≡ Some e.1) (walk f m) (q, there.0) (walk_found f m) there.1)) ∙ b_is
      step false false a_is b_is = refl
      step false true a_is b_is =
          let there = some_of (finite.get m q) b_is in
          sym a_is ∙ has_from_In q there.0 (walk f m) (In-Contains (walk f m) (q, there.0) (walk_has f m q there.0 there.1))

-- ---- the prefixes that are waited for are put into a set

abbrev pub IsPrefix : List ℕ → Type 0
IsPrefix p = AreIndices 0 p × (length p ≤ 7)

all_prefixes : (w : Waiting) → ArePrefixes w → (es : List (List ℕ × List ℕ)) → All (λ e. finite.get w e.0 ≡ Some e.1) es → AllByRecursion (λ e. IsPrefix e.0) es
all_prefixes w are [] all = tt
all_prefixes w are (e ∷ es) all = (are e.0 e.1 (all 0 e (omega arith)), all_prefixes w are es (λ k d l. all (suc k) d (omega (arith, l))))

-- what the set has and what is left of the walk are the keys of the walk
pub record Gathers (f : List ℕ → ℕ) (w : Waiting) (s : BTreeSet (List ℕ)) (left : List (List ℕ × List ℕ)) : Type 0 where
  pub ordered : IsStrictlySortedBy prefix_cmp s.keys
  pub prefixes : AllByRecursion (λ e. IsPrefix e.0) left
  pub same : (q : List ℕ) → (contains prefix_cmp s q || has_entry left q) ≡ has_entry (walk f w) q

module _ (f : List ℕ → ℕ) (w : Waiting) where
  pub none_gathered : (s : BTreeSet (List ℕ)) → ArePrefixes w → IsStrictlySortedBy prefix_cmp s.keys → s.keys ≡ [] → Gathers f w s (walk f w)
  none_gathered s are ordered none = record {
    ordered = ordered;
    prefixes = all_prefixes w are (walk f w) (walk_found f w);
    same = λ q. ap (λ keys. list_any (eq_by_cmp prefix_cmp q) keys || has_entry (walk f w) q) none;
  }

  -- one key more
  one_more : (a b t rest all : Bool) → (a ≡ cond t true b) → (b || (t || rest)) ≡ all → (a || rest) ≡ all
  one_more a b true rest all is before = ap (λ x. x || rest) is ∙ sym (or_true b) ∙ before
  one_more a b false rest all is before = ap (λ x. x || rest) is ∙ before

  pub one_gathered : (s n : BTreeSet (List ℕ)) (e : List ℕ × List ℕ) (left : List (List ℕ × List ℕ)) (p : List ℕ) → Gathers f w s (e ∷ left) → p ≡ e.0
      → IsStrictlySortedBy prefix_cmp n.keys → ((q : List ℕ) → contains prefix_cmp n q ≡ cond (eq_by_cmp prefix_cmp p q) true (contains prefix_cmp s q))
      → Gathers f w n left
  one_gathered s n e left p g is ordered updates = record {
    ordered = ordered;
    prefixes = g.prefixes.1;
    same = λ q. one_more (contains prefix_cmp n q) (contains prefix_cmp s q) (eq_by_cmp prefix_cmp q e.0) (has_entry left q) (has_entry (walk f w) q)
        (updates q ∙ ap (λ b. cond b true (contains prefix_cmp s q)) ((eq_by_cmp_equiv nat_list_cmp_total).symm p q ∙ ap (eq_by_cmp prefix_cmp q) is))
        (g.same q);
  }

  pub all_gathered : (s : BTreeSet (List ℕ)) → Gathers f w s [] → s.keys ≡ map (λ e. e.0) (finite.entries w)
  all_gathered s g =
      let mine : BTreeSet (List ℕ) = record { keys = map (λ e. e.0) (finite.entries w) } in
      btree_set_from_contains nat_list_cmp_total s mine g.ordered (sorted_keys (finite.entries w) (entries_sorted w))
      (λ q. sym (or_false (contains prefix_cmp s q)) ∙ g.same q ∙ walk_keys f w q ∙ contains_key-keys w q) exact_bytes
