-- What a change of one value leaves of a trie, and of the map that it is.
use Rattle.std.proofs.Common.{◌≡◌, ℕ, ◌+◌, List, length, Bool, true, false, cond, T, Some, Ok, Err, refl, sym, ◌∙◌, ap, subst}
use Rattle.std.specs.Prelude.{is_some, None, IsTrue, MatchOption, IfOk, OnOk, OnErr}
use Rattle.std.specs.declared.option.Option.{Option}
use Rattle.std.specs.declared.result.Result.{Result}
use Rattle.std.specs.Cmp.Lexicographic.{nat_list_cmp_total}
use Rattle.std.specs.FinMap as finite
use Rattle.std.specs.FinMap.Entries.{find, is_sorted, is_sorted-put, length-put}
use Rattle.dots.specs.Bytes.{bytes_cmp}
use Rattle.hash_path.specs.Map.{as_map}
use Rattle.hash_path.specs.Word.{word}
use Rattle.gen_trie.specs.declared.node.Slot.{Slot}
use Rattle.gen_trie.specs.Changes.{IsChanged, ChangesValue}
use Rattle.gen_trie.specs.Root.{root_entries, root_sealed, RootStands, IsRoot, IsTrie}
use Rattle.gen_trie.specs.Shown.{shown_of, trie_shown}
use Rattle.gen_trie.proofs.Roots.{same_root, IsTrie-put, IsTrie-same, insert_is, lookup_is}

module _ {V M A : Type 0} (becomes : V → V → Type 0) (f : List ℕ → ℕ) (root new : Option (Slot V M A)) (count hash : ℕ) (key : List ℕ) (h : IsTrie f root count)
    (hashed : hash ≡ f key) where
  changed_root : IsChanged becomes (word 7 hash key) (root_entries root) (root_entries new) → RootStands new → IsRoot new count
  changed_root changed stands =
      let r = h.root_is in
      record {
        stands = stands;
        sorted = subst (λ (es : List (List ℕ × V)). T (is_sorted bytes_cmp es)) (sym changed.put_in)
            (is_sorted-put bytes_cmp nat_list_cmp_total (word 7 hash key) changed.value (root_entries root) r.sorted);
        counted =
            r.counted
            ∙ sym
            (ap length changed.put_in ∙ length-put bytes_cmp nat_list_cmp_total (word 7 hash key) changed.value (root_entries root) r.sorted
            ∙ ap (λ o. cond (is_some o) (length (root_entries root)) (length (root_entries root) + 1)) changed.found);
      }

  pub trie_after : {E : Type 0} (r : Result Bool E) → IfOk r (λ there. there ≡ false → new ≡ root)
      → IfOk r (λ there. IsTrue there → IsChanged becomes (word 7 hash key) (root_entries root) (root_entries new))
      → OnErr r (root_entries new ≡ root_entries root) → RootStands new → IsTrie f new count
  trie_after (Ok true) absent ok same stands = let changed = ok refl in
      IsTrie-put f root new count count hash key changed.value h hashed (changed_root changed stands) changed.put_in
  trie_after (Ok false) absent ok same stands = subst (λ x. IsTrie f x count) (sym (absent refl)) h
  trie_after (Err x) absent ok same stands = IsTrie-same f root new count count h (same_root root new count same (λ _. stands) h.root_is) same

  module _ {H : Type 0} (by : H) (generation : ℕ) where
    leaves : (o : Option V) → find bytes_cmp (word 7 hash key) (root_entries root) ≡ o → (there : Bool)
        → there ≡ is_some (find bytes_cmp (word 7 hash key) (root_entries root)) → (there ≡ false → new ≡ root)
        → (IsTrue there → IsChanged becomes (word 7 hash key) (root_entries root) (root_entries new))
        → MatchOption o (shown_of by new generation ≡ shown_of by root generation)
        (ChangesValue becomes key (shown_of by root generation) (shown_of by new generation))
    leaves None e there t absent ok = ap (λ x. shown_of by x generation) (absent (t ∙ ap is_some e))
    leaves (Some v) e there t absent ok =
        let changed = ok (t ∙ ap is_some e) in
        let same : changed.old ≡ v = cc (sym changed.found ∙ e) in
        record {
          value = changed.value;
          change = subst (λ x. becomes x changed.value) same changed.change;
          rest = ap (λ m. trie_shown by m generation (root_sealed new)) (insert_is f root new count hash key changed.value h hashed changed.put_in);
        }

    pub change_is : {E : Type 0} (r : Result Bool E) → IfOk r (λ there. there ≡ is_some (find bytes_cmp (word 7 hash key) (root_entries root)))
        → IfOk r (λ there. there ≡ false → new ≡ root)
        → IfOk r (λ there. IsTrue there → IsChanged becomes (word 7 hash key) (root_entries root) (root_entries new))
        → OnOk r
        (MatchOption (finite.get (as_map (root_entries root)) key) (shown_of by new generation ≡ shown_of by root generation)
        (ChangesValue becomes key (shown_of by root generation) (shown_of by new generation)))
    change_is (Ok there) t absent ok =
        leaves (finite.get (as_map (root_entries root)) key)
        (lookup_is f root count hash key (find bytes_cmp (word 7 hash key) (root_entries root)) h hashed refl) there t absent ok
    change_is (Err x) t absent ok = tt
