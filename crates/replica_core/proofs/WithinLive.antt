-- What stands in a live pair is known to it, as a test on its map asks it.
use Rattle.std.proofs.Common.{◌≡◌, ℕ, List, [], ◌∷◌, Bool, true, false, Option, Some, IsSome, Less, inl, inr, cond, refl, sym, ◌∙◌, ap, subst}
use Rattle.std.specs.BTreeMap.{is_at}
use Rattle.std.specs.Cmp.Lexicographic.{nat_list_cmp_total}
use Rattle.std.specs.FinMap as finite
use Rattle.std.specs.List.{AllByRecursion}
use Rattle.std.specs.List.Sorted.{IsStrictlySortedBy}
use Rattle.std.specs.Map.{keys_of, lookup}
use Rattle.std.specs.Ordering.{is_eq}
use Rattle.std.proofs.lemmas.Map.Keys.{sorted_head, sorted_tail}
use Rattle.causal_context.specs.Context.{has}
use Rattle.causal_context.proofs.Dots.{same_dot-refl}
use Rattle.causal_join.specs.Causal.{state_of}
use Rattle.causal_join.specs.OrMap.{ValuesValue, FieldsValue, fields_at}
use Rattle.dot_store.specs.Stores.{at_values, at_stores, held_by}
use Rattle.dots.specs.Bytes.{bytes_cmp}
use Rattle.dots.specs.Dot.{DotValue, same_dot}
use Rattle.hash_path.proofs.Words.{same_tied}
use Rattle.live_map.specs.Live.{PairValue}
use Rattle.op_model.specs.State.{IsInside}
use Rattle.ordered_list.proofs.Places.{greater_from_less}
use Rattle.sync_model.specs.Fetch.{within_values, within_fields}
use Rattle.sync_model.specs.Laws.{KnowsEachDot}
use Rattle.sync_model.proofs.Fits.{all_pass}
use Rattle.sync_model.proofs.Members.{In}
use Rattle.trie_map.specs.Keyed.{at_keys}

-- ---- in a sorted list each member is found

of_key : {V : Type 0} (P : List ℕ → Type 0) (fs : List (List ℕ × V)) (q : List ℕ) (v : V) → AllByRecursion P (keys_of fs) → In fs (q, v) → P q
of_key P [] q v all h = absurd h
of_key P (f ∷ fs) q v all (inl same) = subst P (ap (λ x. x.0) same) all.0
of_key P (f ∷ fs) q v all (inr h) = of_key P fs q v all.1 h

found : {V : Type 0} (fs : List (List ℕ × V)) (q : List ℕ) (v : V) → IsStrictlySortedBy bytes_cmp (keys_of fs) → In fs (q, v)
    → lookup (is_at (bytes_cmp q)) fs ≡ Some v
found [] q v sorted h = absurd h
found ((k, w) ∷ fs) q v sorted (inl same) =
    ap (λ b. cond b (Some w) (lookup (is_at (bytes_cmp q)) fs)) (ap (λ x. is_eq (bytes_cmp q x.0)) same ∙ same_tied q q refl) ∙ ap (λ x. Some x.1) same
found ((k, w) ∷ fs) q v sorted (inr h) =
    let less = of_key (λ y. bytes_cmp k y ≡ Less) fs q v (sorted_head bytes_cmp k (keys_of fs) sorted) h in
    ap (λ o. cond (is_eq o) (Some w) (lookup (is_at (bytes_cmp q)) fs)) (greater_from_less bytes_cmp nat_list_cmp_total k q less)
    ∙ found fs q v (sorted_tail bytes_cmp k (keys_of fs) sorted) h

-- ---- so what is known of what is found is known of all

pub own_value : (vs : ValuesValue) (d : DotValue) (v : List ℕ) → In vs (d, v) → IsSome (lookup (same_dot d) vs)
own_value [] d v h = absurd h
own_value ((e, w) ∷ vs) d v (inl same) =
    subst IsSome (sym (ap (λ b. cond b (Some w) (lookup (same_dot d) vs)) (ap (λ x. same_dot d x.0) same ∙ same_dot-refl d))) refl
own_value ((e, w) ∷ vs) d v (inr h) = step (same_dot d e) (own_value vs d v h)
  where
    step : (b : Bool) → IsSome (lookup (same_dot d) vs) → IsSome (cond b (Some w) (lookup (same_dot d) vs))
    step true some = refl
    step false some = some

module _ (known : DotValue → Bool) where
  values_within : (vs : ValuesValue) → ((d : DotValue) → IsSome (at_values vs tt d) → known d ≡ true) → within_values known vs ≡ true
  unfolding at_values
  values_within vs all = all_pass (λ v. known v.0) vs (λ v h. all v.0 (own_value vs v.0 v.1 h))

  fields_within : (fs : FieldsValue) → IsStrictlySortedBy bytes_cmp (keys_of fs)
      → ((field : List ℕ) (d : DotValue) → IsSome (fields_at fs (field, tt) d) → known d ≡ true) → within_fields known fs ≡ true
  unfolding at_stores
  fields_within fs sorted all =
      all_pass (λ f. within_values known f.1) fs (λ f h. values_within f.1 (λ d some.
      all f.0 d (subst (λ (o : Option ValuesValue). IsSome (held_by at_values o tt d)) (sym (found fs f.0 f.1 sorted h)) some)))

module _ {Hash : Type 0} (live : PairValue Hash FieldsValue) where
  pub live_within : IsInside (state_of (at_keys fields_at) live)
      → ((key : List ℕ) (fs : FieldsValue) → finite.get live.0.1 key ≡ Some fs → IsStrictlySortedBy bytes_cmp (keys_of fs)) → KnowsEachDot (has live.1) live.0.1
  unfolding at_keys
  live_within inside sorted key fs e =
      fields_within (has live.1) fs (sorted key fs e) (λ field d some.
      inside (key, (field, tt)) d (subst (λ (o : Option FieldsValue). IsSome (held_by fields_at o (field, tt) d)) (sym e) some))
