-- What is left of a walk as it goes on.
use Rattle.std.proofs.Common.{◌≡◌, ℕ, zero, suc, ◌+◌, ◌-◌, ◌<◌, ◌≤◌, List, [], ◌∷◌, ◌++◌, length, get_or, set, Vec, Some, None, arith, refl, sym, ◌∙◌, ap}
use Rattle.std.proofs.Common.{subst}
use Rattle.std.specs.Borrow.{Bor}
use Rattle.std.specs.List.{All}
use Rattle.std.specs.declared.sync.Arc.{Arc}
use Rattle.std.proofs.lemmas.List.{append_assoc, append-nil}
use Rattle.std.proofs.lemmas.List.Elements.{All-head, All-tail}
use Rattle.hash_path.specs.Word.{key_in}
use Rattle.hash_path.specs.Fan.{under, fan}
use Rattle.hash_path.specs.Map.{as_map, walk, walk_under}
use Rattle.hash_path.specs.Summary.{under_prefix}
use Rattle.hash_path.proofs.Parts.{walk_under_is}
use Rattle.hash_path.proofs.Walks.{walk_is}
use Rattle.hash_path.proofs.Words.{key_in-word}
use Rattle.std.specs.declared.option.Option.{Option}
use Rattle.gen_trie.specs.Root.{root_entries, IsTrie}
use Rattle.gen_trie.specs.Shown.{Shown, shown_of}
use Rattle.gen_trie.specs.declared.entry.Entry.{Entry}
use Rattle.gen_trie.specs.declared.node.Node.{Node}
use Rattle.gen_trie.specs.declared.node.Shape.{Shape}
use Rattle.gen_trie.specs.declared.node.Shape.TheVariants.{Branch, Keys}
use Rattle.gen_trie.specs.declared.node.Slot.{Slot}
use Rattle.gen_trie.specs.declared.node.Slot.TheVariants.{One, Many}
use Rattle.gen_trie.specs.Shapes.{children, child, listed, height_and_entries, stands_for, StandsBelow, IsBranch, IsCanonical}
use Rattle.hash_path.specs.Map.{by_key}
use Rattle.gen_trie.specs.Left.{item, slots_left, levels_left, root_left, LevelsStand, NoneBelow}

module _ {V : Type 0} where
  by_key-under : (below i : ℕ) (es rest : List (List ℕ × V)) → by_key (suc below) (under i es ++ rest) ≡ by_key below es ++ by_key (suc below) rest
  by_key-under below i [] rest = refl
  by_key-under below i (e ∷ es) rest = ap (λ l. (key_in below e.0, e.1) ∷ l) (by_key-under below i es rest)

module _ {V M A : Type 0} where
  -- the entries of a branch are those of its children
  fan_left : (below : ℕ) (ss : List (Slot V M A)) → by_key (suc below) (fan (children below ss)) ≡ slots_left below ss
  fan_left below [] = refl
  fan_left below (s ∷ ss) = by_key-under below (child below s).0 (child below s).1 (fan (children below ss))
      ∙ ap (λ l. by_key below (child below s).1 ++ l) (fan_left below ss)

  first_left : (below : ℕ) (s : Slot V M A) (ss ts : List (Slot V M A)) (rest : List (List ℕ × V)) → ts ≡ s ∷ ss
      → slots_left below ts ++ rest ≡ by_key below (child below s).1 ++ (slots_left below ss ++ rest)
  first_left below s ss ts rest is = ap (λ l. slots_left below l ++ rest) is ∙ append_assoc (by_key below (child below s).1) (slots_left below ss) rest

  -- the first child of the lowest branch that has one left
  pub next_slot_is : (from k n : ℕ) (ls : List (Bor (List (Slot V M A)))) (d others : Bor (List (Slot V M A))) (s : Slot V M A) → n ≡ from + k → k < length ls
      → (get_or ls k d).now ≡ s ∷ others.now → LevelsStand from ls → NoneBelow k ls
      → ((levels_left from ls ≡ by_key n (child n s).1 ++ levels_left from (set ls k others)) × StandsBelow n s × NoneBelow k (set ls k others))
      × LevelsStand from (set ls k others)
  next_slot_is from k n [] d others s e h first stand past = absurd (omega arith)
  next_slot_is from zero n (x ∷ xs) d others s e h first stand past =
      let same : n ≡ from = omega arith in
      let fits = subst (All (StandsBelow from)) first stand.0 in (
        (
          first_left from s others.now x.now (levels_left (suc from) xs) first
              ∙ ap (λ m. by_key m (child m s).1 ++ (slots_left from others.now ++ levels_left (suc from) xs)) (sym same),
          subst (λ m. StandsBelow m s) (sym same) (All-head (StandsBelow from) s others.now fits),
          tt,
        ),
        (All-tail (StandsBelow from) s others.now fits, stand.1),
      )
  next_slot_is from (suc k) n (x ∷ xs) d others s e h first stand past =
      let next : n ≡ suc from + k = omega arith in
      let rest = next_slot_is (suc from) k n xs d others s next (omega arith) first stand.1 past.1 in
      let none = λ (ls : List (Bor (List (Slot V M A)))). ap (λ y. slots_left from y ++ levels_left (suc from) ls) past.0 in (
        (
          none xs ∙ rest.0.0 ∙ ap (λ l. by_key n (child n s).1 ++ l) (sym (none (set xs k others))),
          rest.0.1,
          (past.0, rest.0.2),
        ),
        (stand.0, rest.1),
      )

  -- what is left once children are put where nothing was left, below the branches that have some
  pub left_at : (from k n : ℕ) (ls : List (Bor (List (Slot V M A)))) (put : Bor (List (Slot V M A))) → n ≡ from + k → k < length ls
      → All (StandsBelow n) put.now → LevelsStand from ls → NoneBelow (suc k) ls
      → (levels_left from (set ls k put) ≡ slots_left n put.now ++ levels_left from ls) × LevelsStand from (set ls k put) × NoneBelow k (set ls k put)
  left_at from k n [] put e h fits stand past = absurd (omega arith)
  left_at from zero n (x ∷ xs) put e h fits stand past =
      let same : n ≡ from = omega arith in (
        ap (λ m. slots_left m put.now ++ levels_left (suc from) xs) (sym same)
            ∙ ap (λ y. slots_left n put.now ++ (slots_left from y ++ levels_left (suc from) xs)) (sym past.0),
        (subst (λ m. All (StandsBelow m) put.now) same fits, stand.1),
        tt,
      )
  left_at from (suc k) n (x ∷ xs) put e h fits stand past =
      let next : n ≡ suc from + k = omega arith in
      let rest = left_at (suc from) k n xs put next (omega arith) fits stand.1 past.1 in
      let none = λ (ls : List (Bor (List (Slot V M A)))). ap (λ y. slots_left from y ++ levels_left (suc from) ls) past.0 in (
        none (set xs k put) ∙ rest.0 ∙ ap (λ l. slots_left n put.now ++ l) (sym (none xs)),
        (stand.0, rest.1),
        (past.0, rest.2),
      )

-- ---- a slot that is gone into

module _ {V M A : Type 0} (below : ℕ) (s : Slot V M A) (i : ℕ) (n : Arc (Node V M A) A) (x : Node V M A) (shape : Shape V M A)
    (many : s ≡ Many i n) (read : x ≡ n.value) (fits : StandsBelow below s) (seen : height_and_entries shape ≡ stands_for x) where
  -- the node of a slot has its height, two entries or more, and those of the slot
  node_is : ((height_and_entries shape).0 ≡ below) × (2 ≤ length (height_and_entries shape).1) × ((child below s).1 ≡ (height_and_entries shape).1)
  node_is =
      let is : height_and_entries shape ≡ stands_for n.value = seen ∙ ap stands_for read in
      let low = subst (StandsBelow below) many fits in
      (ap (λ y. y.0) is ∙ low.0, subst (λ y. 2 ≤ length y.1) (sym is) low.1, ap (λ t. (child below t).1) many ∙ ap (λ y. y.1) (sym is))

  module _ (lower m : ℕ) (v : Vec (Slot V M A) A) (branch : shape ≡ Branch lower m v) (holds : IsCanonical shape) where
    branch_is : (suc lower ≡ below) × (2 ≤ length (fan (children lower v.items))) × ((child below s).1 ≡ fan (children lower v.items))
    branch_is = subst (λ y. ((height_and_entries y).0 ≡ below) × (2 ≤ length (height_and_entries y).1) × ((child below s).1 ≡ (height_and_entries y).1))
        branch node_is

    pub lower_is : suc lower ≡ below
    lower_is = branch_is.0

    pub no_empty_branch : (items : List (Slot V M A)) → items ≡ v.items → length items ≡ 0 → ⊥
    no_empty_branch items is none = no_items v.items (ap length (sym is) ∙ none) branch_is.1
      where
        no_items : (ss : List (Slot V M A)) → length ss ≡ 0 → 2 ≤ length (fan (children lower ss)) → ⊥
        no_items [] e h = omega arith
        no_items (t ∷ ss) e h = omega arith

    module _ (items others : List (Slot V M A)) (t : Slot V M A) (as_items : items ≡ v.items) (split : items ≡ t ∷ others) where
      branch_holds : IsBranch lower m v.items
      branch_holds = subst IsCanonical branch holds

      child_fits : All (StandsBelow lower) (t ∷ others)
      child_fits = subst (All (StandsBelow lower)) (sym as_items ∙ split) branch_holds.fits

      pub first_fits : StandsBelow lower t
      first_fits = All-head (StandsBelow lower) t others child_fits

      pub leave_asks : (levels : List (Bor (List (Slot V M A)))) → LevelsStand 0 levels → NoneBelow below levels
          → (112 < 9223372036854775808) × ((lower < 7) × (All (StandsBelow lower) others × (LevelsStand 0 levels × NoneBelow (suc lower) levels)))
      leave_asks levels stand past = (
        omega arith,
        (
          let low = branch_holds.height in omega arith,
          (All-tail (StandsBelow lower) t others child_fits, (stand, subst (λ b. NoneBelow b levels) (sym lower_is) past)),
        ),
      )

      pub entered_branch : (new old left : List (List ℕ × V)) → left ≡ slots_left lower others ++ old → (y : List ℕ × V)
          → by_key lower (child lower t).1 ++ left ≡ y ∷ new → by_key below (child below s).1 ++ old ≡ y ∷ new
      entered_branch new old left leaves y first =
          (λ k. by_key (sym lower_is k) (branch_is.2 k) ++ old)
          ∙ ap (λ l. l ++ old) (fan_left lower v.items)
          ∙ first_left lower t others v.items old (sym as_items ∙ split)
          ∙ ap (λ l. by_key lower (child lower t).1 ++ l) (sym leaves)
          ∙ first

  module _ (v : Vec (Arc (Entry V A) A) A) (keys : shape ≡ Keys v) where
    keys_are : (0 ≡ below) × (2 ≤ length (listed v.items)) × ((child below s).1 ≡ listed v.items)
    keys_are = subst (λ y. ((height_and_entries y).0 ≡ below) × (2 ≤ length (height_and_entries y).1) × ((child below s).1 ≡ (height_and_entries y).1))
        keys node_is

    pub no_empty_list : (items : List (Arc (Entry V A) A)) → items ≡ v.items → length items ≡ 0 → ⊥
    no_empty_list items is none = no_items v.items (ap length (sym is) ∙ none) keys_are.1
      where
        no_items : (es : List (Arc (Entry V A) A)) → length es ≡ 0 → 2 ≤ length (listed es) → ⊥
        no_items [] e h = omega arith
        no_items (t ∷ es) e h = omega arith

module _ {V A : Type 0} where
  -- children that are left stand before what was left, where the list has none
  pub left_after : (es : List (Arc (Entry V A) A)) (new slots old root : List (List ℕ × V)) → es ≡ [] → new ≡ slots ++ old
      → by_key 0 (listed es) ++ (new ++ root) ≡ slots ++ (by_key 0 (listed es) ++ (old ++ root))
  left_after es new slots old root none is =
      ap (λ l. by_key 0 (listed l) ++ (new ++ root)) none ∙ ap (λ l. l ++ root) is ∙ append_assoc slots old root
      ∙ ap (λ l. slots ++ (by_key 0 (listed l) ++ (old ++ root))) (sym none)

  pub entered_one : {M : Type 0} (below i : ℕ) (s : Slot V M A) (e : Arc (Entry V A) A) (rest : List (List ℕ × V)) → s ≡ One i e
      → by_key below (child below s).1 ++ rest ≡ item e.value ∷ rest
  entered_one below i s e rest is =
      ap (λ t. by_key below (child below t).1 ++ rest) is ∙ (λ k. (key_in-word below e.value.hash e.value.key k, e.value.value) ∷ rest)

-- ---- the first entry

module _ {V M A : Type 0} where
  pub past_less : (k n : ℕ) (ls : List (Bor (List (Slot V M A)))) → k ≤ n → NoneBelow n ls → NoneBelow k ls
  past_less zero n ls h past = tt
  past_less (suc k) zero ls h past = absurd (omega arith)
  past_less (suc k) (suc n) [] h past = tt
  past_less (suc k) (suc n) (x ∷ xs) h past = (past.0, past_less k n xs (omega arith) past.1)

  all_past : (from n : ℕ) (ls : List (Bor (List (Slot V M A)))) → length ls ≡ n → NoneBelow n ls → levels_left from ls ≡ []
  all_past from n [] e past = refl
  all_past from zero (x ∷ xs) e past = absurd (omega arith)
  all_past from (suc n) (x ∷ xs) e past = ap (λ l. slots_left from l ++ levels_left (suc from) xs) past.0 ∙ all_past (suc from) n xs (omega arith) past.1

  module _ (height : ℕ) (list : List (Arc (Entry V A) A)) (ls : List (Bor (List (Slot V M A)))) (none : list ≡ []) (seven : length ls ≡ 7)
      (past : NoneBelow 7 ls) where
    nothing_before : (x : List (List ℕ × V)) → by_key 0 (listed list) ++ (levels_left 0 ls ++ x) ≡ x
    nothing_before x = (λ k. by_key 0 (listed (none k)) ++ (all_past 0 7 ls seven past k ++ x))

    -- the walk goes on at the root, once nothing else is left
    pub root_first : (root taken : Option (Bor (Slot V M A))) (slot : Bor (Slot V M A)) (y : List ℕ × V) (new : List (List ℕ × V)) → root ≡ Some slot
        → taken ≡ None
        → by_key height (child height slot.now).1 ++ (by_key 0 (listed list) ++ (levels_left 0 ls ++ root_left height taken)) ≡ y ∷ new
        → by_key 0 (listed list) ++ (levels_left 0 ls ++ root_left height root) ≡ y ∷ new
    root_first root taken slot y new some gone first =
        nothing_before (root_left height root) ∙ ap (root_left height) some ∙ sym (append-nil (by_key height (child height slot.now).1))
        ∙ ap (λ l. by_key height (child height slot.now).1 ++ l) (sym (nothing_before (root_left height taken) ∙ ap (root_left height) gone)) ∙ first

-- ---- the whole

module _ {V M A : Type 0} (f : List ℕ → ℕ) (root : Option (Slot V M A)) (count : ℕ) (trie : IsTrie f root count) (all : List (List ℕ × V))
    (is : all ≡ by_key 7 (root_entries root)) where
  iter_is : all ≡ walk f (as_map (root_entries root))
  iter_is = is ∙ sym (walk_is f (root_entries root) trie.hashed (let r = trie.root_is in r.sorted))

module _ {V M A H : Type 0} (hash_of : H → List ℕ → ℕ) (hash : H) (root : Option (Slot V M A)) (count generation : ℕ) (seen : Shown H V)
    (all : List (List ℕ × V)) where
  -- as the map is seen
  pub iter_shown : IsTrie (hash_of hash) root count → shown_of hash root generation ≡ seen → all ≡ by_key 7 (root_entries root)
      → all ≡ walk (hash_of seen.hash) seen.map
  iter_shown trie shown is = iter_is (hash_of hash) root count trie all is ∙ ap (λ x. walk (hash_of x.hash) x.map) shown

  -- and its part under a prefix
  pub iter_under_shown : (prefix : List ℕ) → IsTrie (hash_of hash) root count → shown_of hash root generation ≡ seen → length prefix ≤ 7
      → all ≡ by_key (7 - length prefix) (under_prefix prefix (root_entries root)) → all ≡ walk_under (hash_of seen.hash) prefix seen.map
  iter_under_shown prefix trie shown short is =
      is ∙ sym (walk_under_is (hash_of hash) prefix (root_entries root) short trie.hashed (let r = trie.root_is in r.sorted))
      ∙ ap (λ x. walk_under (hash_of x.hash) prefix x.map) shown
