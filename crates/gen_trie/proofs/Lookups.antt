-- Looking up in a node that is a branch.
use Rattle.std.proofs.Common.{◌≡◌, ℕ, suc, List, [], ◌∷◌, cond, Vec, T, Some, None, ◌∙◌, ap, sym, subst}
use Rattle.std.specs.declared.option.Option.{Option}
use Rattle.std.specs.declared.sync.Arc.{Arc}
use Rattle.std.specs.FinMap.Entries.{find, is_sorted}
use Rattle.dots.specs.Bytes.{bytes_cmp}
use Rattle.hash_path.specs.Word.{digit, word}
use Rattle.hash_path.specs.Fan.{fan, at}
use Rattle.hash_path.proofs.Cutting.{sorted-at}
use Rattle.hash_path.proofs.Finding.{find-fan}
use Rattle.hash_path.proofs.Words.{tied-word}
use Rattle.gen_trie.specs.declared.entry.Entry.{Entry}
use Rattle.gen_trie.specs.declared.node.Node.{Node}
use Rattle.gen_trie.specs.declared.node.Shape.{Shape}
use Rattle.gen_trie.specs.declared.node.Shape.TheVariants.{Branch}
use Rattle.gen_trie.specs.declared.node.Slot.{Slot}
use Rattle.gen_trie.specs.declared.node.Slot.TheVariants.{One, Many}
use Rattle.gen_trie.specs.Shapes.{children, child, entry_at, height_and_entries, StandsBelow, IsCanonical}

-- one entry is found by its hash and its bytes
pub found_one : {V A : Type 0} (below hash : ℕ) (key : List ℕ) (e : Entry V A)
    → find bytes_cmp (word below hash key) (entry_at below e ∷ []) ≡ find bytes_cmp (hash ∷ key) (entry_at 0 e ∷ [])
found_one below hash key e = ap (λ b. cond b (Some e.value) None) (tied-word below hash e.hash key e.key)

module _ {V M A : Type 0} (shape : Shape V M A) (node : ℕ × List (List ℕ × V)) (below m hash : ℕ) (key : List ℕ) (slots : Vec (Slot V M A) A)
    (seen : height_and_entries shape ≡ node) (is : shape ≡ Branch below m slots) (holds : IsCanonical shape) where
  below_it : find bytes_cmp (word node.0 hash key) node.1 ≡ find bytes_cmp (word below hash key) (at (digit below hash) (children below slots.items))
  below_it =
      let b = subst IsCanonical is holds in
      let e : node ≡ (suc below, fan (children below slots.items)) = sym seen ∙ ap height_and_entries is in
      ap (λ n. find bytes_cmp (word n.0 hash key) n.1) e ∙ find-fan 0 (digit below hash) (word below hash key) (children below slots.items) b.rise

  pub look_none : at (digit below hash) (children below slots.items) ≡ [] → None ≡ find bytes_cmp (word node.0 hash key) node.1
  look_none e = sym (below_it ∙ ap (find bytes_cmp (word below hash key)) e)

  pub look_one : (s : Slot V M A) (i : ℕ) (e : Arc (Entry V A) A) (x : Entry V A) (r : Option V) → s ≡ One i e → x ≡ e.value
      → (child below s ≡ (digit below hash, at (digit below hash) (children below slots.items))) × StandsBelow below s
      → r ≡ find bytes_cmp (hash ∷ key) (entry_at 0 x ∷ []) → r ≡ find bytes_cmp (word node.0 hash key) node.1
  look_one s i e x r one q h f =
      let entries : entry_at below e.value ∷ [] ≡ at (digit below hash) (children below slots.items) = ap (λ c. c.1) (ap (child below) (sym one) ∙ h.0) in
      f ∙ ap (λ y. find bytes_cmp (hash ∷ key) (entry_at 0 y ∷ [])) q ∙ sym (found_one below hash key e.value)
      ∙ ap (find bytes_cmp (word below hash key)) entries ∙ sym below_it

  pub look_many : (s : Slot V M A) (i : ℕ) (n : Arc (Node V M A) A) (x : Node V M A) (r : Option V) → s ≡ Many i n → x ≡ n.value
      → (child below s ≡ (digit below hash, at (digit below hash) (children below slots.items))) × StandsBelow below s
      → r ≡ find bytes_cmp (word x.0 hash key) x.1.0 → r ≡ find bytes_cmp (word node.0 hash key) node.1
  look_many s i n x r many q h f =
      let entries : n.value.1.0 ≡ at (digit below hash) (children below slots.items) = ap (λ c. c.1) (ap (child below) (sym many) ∙ h.0) in
      let low = subst (StandsBelow below) many h.1 in
      f ∙ ap (λ y. find bytes_cmp (word y.0 hash key) y.1.0) q ∙ ap (λ k. find bytes_cmp (word k hash key) n.value.1.0) low.0
      ∙ ap (find bytes_cmp (word below hash key)) entries ∙ sym below_it

  -- and the entries of the child ascend where those of the node do
  pub look_sorted : (s : Slot V M A) (i : ℕ) (n : Arc (Node V M A) A) (x : Node V M A) → s ≡ Many i n → x ≡ n.value
      → (child below s ≡ (digit below hash, at (digit below hash) (children below slots.items))) × StandsBelow below s
      → T (is_sorted bytes_cmp node.1) → T (is_sorted bytes_cmp x.1.0)
  look_sorted s i n x many q h sorted =
      let e : node ≡ (suc below, fan (children below slots.items)) = sym seen ∙ ap height_and_entries is in
      let entries : n.value.1.0 ≡ at (digit below hash) (children below slots.items) = ap (λ c. c.1) (ap (child below) (sym many) ∙ h.0) in
      subst (λ (l : List (List ℕ × V)). T (is_sorted bytes_cmp l)) (sym (ap (λ y. y.1.0) q ∙ entries))
      (sorted-at (digit below hash) (children below slots.items) (subst (λ (y : ℕ × List (List ℕ × V)). T (is_sorted bytes_cmp y.1)) e sorted))
