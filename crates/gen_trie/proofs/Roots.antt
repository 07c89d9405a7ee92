-- What a write at the root leaves, and what the parts of a trie are as a map.
use Rattle.std.proofs.Common.{◌≡◌, ◌⊎◌, inl, inr, ℕ, ◌+◌, ◌-◌, ◌^◌, ◌<◌, ◌≤◌, List, [], ◌∷◌, length, Bool, true, false, cond, T, Some, None, arith, refl, sym}
use Rattle.std.proofs.Common.{◌∙◌, ap, subst}
use Rattle.std.specs.Prelude.{is_some, not, MatchOption}
use Rattle.std.specs.Ordering.{eq_by_cmp}
use Rattle.std.specs.declared.option.Option.{Option}
use Rattle.std.specs.Cmp.Lexicographic.{nat_list_cmp_total}
use Rattle.std.specs.FinMap as finite
use Rattle.std.specs.FinMap.Entries.{put, find, is_sorted, is_sorted-put, is_sorted-where_key, length-put}
use Rattle.dots.specs.Bytes.{bytes_cmp}
use Rattle.hash_path.specs.Word.{word}
use Rattle.hash_path.specs.Cut.{cut}
use Rattle.hash_path.specs.Map.{path, HashedBy, as_map}
use Rattle.hash_path.proofs.Cutting.{length-cut}
use Rattle.hash_path.proofs.MapCuts.{HashedBy-cut, as_map-cut}
use Rattle.hash_path.proofs.Maps.{HashedBy-put, as_map-put, get-as_map, len-as_map}
use Rattle.gen_trie.specs.declared.entry.Entry.{Entry}
use Rattle.gen_trie.specs.declared.node.Slot.{Slot}
use Rattle.gen_trie.specs.Shapes.{child, entry_at, HasMore, StandsBelow}
use Rattle.gen_trie.specs.Root.{root_entries, RootStands, IsRoot, IsTrie}
use Rattle.gen_trie.proofs.Takes.{cut_only}

module _ {V M A : Type 0} where
  pub same_root : (root copy : Option (Slot V M A)) (count : ℕ) → root_entries copy ≡ root_entries root → (RootStands root → RootStands copy)
      → IsRoot root count → IsRoot copy count
  same_root root copy count e s h = record {
    stands = s h.stands;
    sorted = subst (λ es. T (is_sorted bytes_cmp es)) (sym e) h.sorted;
    counted = h.counted ∙ ap length (sym e);
  }

  pub put_root_is : (root new : Option (Slot V M A)) (count n : ℕ) (w : List ℕ) (v : V) (fresh : Bool) → IsRoot root count
      → root_entries new ≡ put bytes_cmp w v (root_entries root) → RootStands new
      → HasMore fresh (root_entries root) (root_entries new) → n ≡ cond fresh (count + 1) count → IsRoot new n
  put_root_is root new count n w v fresh h e s more c = record {
    stands = s;
    sorted = subst (λ es. T (is_sorted bytes_cmp es)) (sym e) (is_sorted-put bytes_cmp nat_list_cmp_total w v (root_entries root) h.sorted);
    counted = c ∙ ap (λ k. cond fresh (k + 1) k) h.counted ∙ sym more;
  }

  -- a key that is there is not counted again
  pub not_more : (root new : Option (Slot V M A)) (count : ℕ) (w : List ℕ) (v : V) (fresh : Bool) → IsRoot root count
      → root_entries new ≡ put bytes_cmp w v (root_entries root)
      → HasMore fresh (root_entries root) (root_entries new) → is_some (find bytes_cmp w (root_entries root)) ≡ true → fresh ≡ false
  not_more root new count w v false h e more there = refl
  not_more root new count w v true h e more there =
      let same = ap length e ∙ length-put bytes_cmp nat_list_cmp_total w v (root_entries root) h.sorted
      ∙ ap (λ b. cond b (length (root_entries root)) (length (root_entries root) + 1)) there in
      absurd (omega (arith, same, more))

  pub room_for_one : (root new : Option (Slot V M A)) (count : ℕ) (w : List ℕ) (v : V) (fresh : Bool) → IsRoot root count
      → root_entries new ≡ put bytes_cmp w v (root_entries root)
      → HasMore fresh (root_entries root) (root_entries new) → (count < 2 ^ 64 - 1) ⊎ (is_some (find bytes_cmp w (root_entries root)) ≡ true) → fresh ≡ true
      → count + 1 < 2 ^ 64
  room_for_one root new count w v fresh h e more (inl less) t = omega (arith, less)
  room_for_one root new count w v fresh h e more (inr there) t = let twice : true ≡ false = sym t
      ∙ not_more root new count w v fresh h e more there in absurd cc

  -- ---- a key that goes

  pub taken_alone : {X : Type 0} (root : Option (Slot V M A)) (s : Slot V M A) (r : Option X) (e : X → Entry V A) (hash : ℕ) (key : List ℕ) → root ≡ Some s
      → is_some (find bytes_cmp (word 7 hash key) (root_entries root)) ≡ true
      → MatchOption r (StandsBelow 7 s → 2 ≤ length (child 7 s).1) (λ x. (child 7 s).1 ≡ entry_at 7 (e x) ∷ []) → is_some r ≡ true
      → [] ≡ cut (word 7 hash key) (root_entries root)
  taken_alone root s None e hash key q f h t = cc
  taken_alone root s (Some x) e hash key q f h t =
      let is : root_entries root ≡ entry_at 7 (e x) ∷ [] = ap root_entries q ∙ h in
      sym (ap (cut (word 7 hash key)) is ∙ cut_only 7 hash key (entry_at 7 (e x)) (subst (λ l. is_some (find bytes_cmp (word 7 hash key) l) ≡ true) is f))

  pub two_there : {X : Type 0} (root : Option (Slot V M A)) (s : Slot V M A) (r : Option X) (e : X → Entry V A) → root ≡ Some s → RootStands root
      → MatchOption r (StandsBelow 7 s → 2 ≤ length (child 7 s).1) (λ x. (child 7 s).1 ≡ entry_at 7 (e x) ∷ []) → is_some r ≡ false → 2 ≤ length (child 7 s).1
  two_there root s None e q stands h t = h (subst RootStands q stands)
  two_there root s (Some x) e q stands h t = cc

  pub IsRoot-cut : (root new : Option (Slot V M A)) (count : ℕ) (w : List ℕ) → IsRoot root count → is_some (find bytes_cmp w (root_entries root)) ≡ true
      → root_entries new ≡ cut w (root_entries root) → RootStands new → IsRoot new (count - 1)
  IsRoot-cut root new count w h f e s = record {
    stands = s;
    sorted = subst (λ es. T (is_sorted bytes_cmp es)) (sym e) (is_sorted-where_key bytes_cmp (λ x. not (eq_by_cmp bytes_cmp w x)) (root_entries root) h.sorted);
    counted = let fewer = length-cut w (root_entries root) h.sorted f in let same = h.counted in let less = ap length e in omega arith;
  }

  -- ---- as a map

  pub IsTrie-put : (f : List ℕ → ℕ) (root new : Option (Slot V M A)) (count n hash : ℕ) (key : List ℕ) (v : V) → IsTrie f root count → hash ≡ f key
      → IsRoot new n
      → root_entries new ≡ put bytes_cmp (word 7 hash key) v (root_entries root) → IsTrie f new n
  IsTrie-put f root new count n hash key v h e r is =
      let at_path : root_entries new ≡ put bytes_cmp (path f key) v (root_entries root) = is ∙ ap (λ x. put bytes_cmp (word 7 x key) v (root_entries root)) e in
      record { root_is = r; hashed = subst (HashedBy f) (sym at_path) (HashedBy-put f key v (root_entries root) h.hashed) }

  pub IsTrie-same : (f : List ℕ → ℕ) (root new : Option (Slot V M A)) (count n : ℕ) → IsTrie f root count → IsRoot new n → root_entries new ≡ root_entries root
      → IsTrie f new n
  IsTrie-same f root new count n h r is = record { root_is = r; hashed = subst (HashedBy f) (sym is) h.hashed }

  pub insert_is : (f : List ℕ → ℕ) (root new : Option (Slot V M A)) (count hash : ℕ) (key : List ℕ) (v : V) → IsTrie f root count → hash ≡ f key
      → root_entries new ≡ put bytes_cmp (word 7 hash key) v (root_entries root) → as_map (root_entries new) ≡ finite.insert (as_map (root_entries root)) key v
  insert_is f root new count hash key v h e is =
      ap as_map (is ∙ ap (λ x. put bytes_cmp (word 7 x key) v (root_entries root)) e) ∙ as_map-put f key v (root_entries root) h.hashed

  pub IsTrie-cut : (f : List ℕ → ℕ) (root new : Option (Slot V M A)) (count n hash : ℕ) (key : List ℕ) → IsTrie f root count → hash ≡ f key → IsRoot new n
      → root_entries new ≡ cut (word 7 hash key) (root_entries root) → IsTrie f new n
  IsTrie-cut f root new count n hash key h e r is =
      let at_path : root_entries new ≡ cut (path f key) (root_entries root) = is ∙ ap (λ x. cut (word 7 x key) (root_entries root)) e in
      record { root_is = r; hashed = subst (HashedBy f) (sym at_path) (HashedBy-cut f (path f key) (root_entries root) h.hashed) }

  pub remove_is : (f : List ℕ → ℕ) (root new : Option (Slot V M A)) (count hash : ℕ) (key : List ℕ) → IsTrie f root count → hash ≡ f key
      → root_entries new ≡ cut (word 7 hash key) (root_entries root) → as_map (root_entries new) ≡ finite.remove (as_map (root_entries root)) key
  remove_is f root new count hash key h e is =
      ap as_map (is ∙ ap (λ x. cut (word 7 x key) (root_entries root)) e) ∙ as_map-cut f key (root_entries root) h.hashed

  pub lookup_is : (f : List ℕ → ℕ) (root : Option (Slot V M A)) (count hash : ℕ) (key : List ℕ) (o : Option V) → IsTrie f root count → hash ≡ f key
      → o ≡ find bytes_cmp (word 7 hash key) (root_entries root) → o ≡ finite.get (as_map (root_entries root)) key
  lookup_is f root count hash key o h e is =
      is ∙ ap (λ x. find bytes_cmp (word 7 x key) (root_entries root)) e ∙ sym (get-as_map f key (root_entries root) h.hashed)

  pub size_is : (f : List ℕ → ℕ) (root : Option (Slot V M A)) (count : ℕ) → IsTrie f root count → count ≡ finite.len (as_map (root_entries root))
  size_is f root count h = let r = h.root_is in r.counted ∙ sym (len-as_map f (root_entries root) h.hashed r.sorted)

  -- with the bytes as they were read for the hash and for the look-up
  pub lookup_at : (f : List ℕ → ℕ) (root : Option (Slot V M A)) (count hash : ℕ) (hashed read key : List ℕ) (o : Option V) → IsTrie f root count
      → hash ≡ f hashed → hashed ≡ key → read ≡ key
      → o ≡ find bytes_cmp (word 7 hash read) (root_entries root) → o ≡ finite.get (as_map (root_entries root)) key
  lookup_at f root count hash hashed read key o h e p q is =
      lookup_is f root count hash key o h (e ∙ ap f p) (is ∙ ap (λ k. find bytes_cmp (word 7 hash k) (root_entries root)) q)
