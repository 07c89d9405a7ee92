-- Nodes of two entries.
use Rattle.std.proofs.Common.{◌≡◌, ◌≢◌, ℕ, suc, ◌+◌, ◌<◌, ◌≤◌, List, [], ◌∷◌, ◌++◌, length, get_or, Some, None, arith, sym, ◌∙◌, ap, subst, length-append}
use Rattle.std.specs.Prelude.{MatchOption}
use Rattle.std.specs.List.{All}
use Rattle.std.specs.declared.option.Option.{Option}
use Rattle.std.specs.declared.sync.Arc.{Arc}
use Rattle.std.proofs.lemmas.List.{length-map}
use Rattle.std.proofs.lemmas.List.Elements.{All-head, All-tail}
use Rattle.hash_path.specs.Word.{digit, word, IsWord, AllWords}
use Rattle.hash_path.specs.Fan.{under, fan}
use Rattle.hash_path.proofs.Words.{hash_in-word}
use Rattle.gen_trie.specs.declared.entry.Entry.{Entry}
use Rattle.gen_trie.specs.declared.node.Node.{Node}
use Rattle.gen_trie.specs.declared.node.Slot.{Slot}
use Rattle.gen_trie.specs.declared.node.Slot.TheVariants.{One, Many}
use Rattle.gen_trie.specs.Shapes.{children, child, entry_at, StandsBelow, IsBranch}

pub option_so : {X : Type 0} {P R : Type 0} {Q S : X → Type 0} (r : Option X) → (P → R) → ((x : X) → Q x → S x) → MatchOption r P Q → MatchOption r R S
option_so None f g h = f h
option_so (Some x) f g h = g x h

pub only_item : {X : Type 0} (xs : List X) (x : X) → 1 ≤ length xs → length xs < 2 → x ≡ get_or xs 0 x → xs ≡ x ∷ []
only_item [] x a b e = absurd (omega arith)
only_item (y ∷ []) x a b e = λ i. sym e i ∷ []
only_item (y ∷ z ∷ xs) x a b e = absurd (omega arith)

pub two_items : {X : Type 0} (xs : List X) (x y : X) → 2 ≤ length xs → length xs < 3 → x ≡ get_or xs 0 x → y ≡ get_or xs 1 y → xs ≡ x ∷ y ∷ []
two_items [] x y a b e f = absurd (omega arith)
two_items (u ∷ []) x y a b e f = absurd (omega arith)
two_items (u ∷ v ∷ []) x y a b e f = λ i. sym e i ∷ sym f i ∷ []
two_items (u ∷ v ∷ z ∷ xs) x y a b e f = absurd (omega arith)

length-under : {V : Type 0} (i : ℕ) (es : List (List ℕ × V)) → length (under i es) ≡ length es
length-under i es = length-map es (λ e. (i ∷ e.0, e.1))

word_index : (b i hash : ℕ) (key : List ℕ) → IsWord (suc b) (i ∷ word b hash key) → i ≡ digit b hash
word_index b i hash key p = ap (λ w. get_or w 0 0) p ∙ ap (digit b) (hash_in-word b hash key)

words_rest : {V : Type 0} (height i : ℕ) (es rest : List (List ℕ × V)) → AllWords height (under i es ++ rest) → AllWords height rest
words_rest height i [] rest a = a
words_rest height i (e ∷ es) rest a = words_rest height i es rest a.1

module _ {V A : Type 0} (below : ℕ) where
  -- one entry below an index, in a branch
  up_one : (i : ℕ) (e : Entry V A) (es rest : List (List ℕ × V)) → es ≡ entry_at below e ∷ [] → AllWords (suc below) (under i es ++ rest)
      → under i es ++ rest ≡ entry_at (suc below) e ∷ rest
  up_one i e es rest is words =
      let here = subst (λ l. AllWords (suc below) (under i l ++ rest)) is words in
      let index = word_index below i e.hash e.key here.0 in
      ap (λ l. under i l ++ rest) is ∙ (λ k. (index k ∷ word below e.hash e.key, e.value) ∷ rest)

module _ {V M A : Type 0} (below : ℕ) where
  slot_has : (s : Slot V M A) → StandsBelow below s → 1 ≤ length (child below s).1
  slot_has (One i e) h = omega arith
  slot_has (Many i n) h = let k = h.1 in omega arith

  pub fan_long : (ss : List (Slot V M A)) → All (StandsBelow below) ss → length ss ≤ length (fan (children below ss))
  fan_long [] h = omega arith
  fan_long (s ∷ ss) h =
      let first = slot_has s (All-head (StandsBelow below) s ss h) in
      let rest = fan_long ss (All-tail (StandsBelow below) s ss h) in
      let whole = length-append (under (child below s).0 (child below s).1) (fan (children below ss)) in
      let own = length-under (child below s).0 (child below s).1 in
      omega arith

  pub pair_none : (m : ℕ) (ss : List (Slot V M A)) (node : ℕ × List (List ℕ × V)) → node ≡ (suc below, fan (children below ss)) → IsBranch below m ss
      → 3 ≤ length ss → length node.1 ≢ 2
  pair_none m ss node e b h two =
      let long = fan_long ss b.fits in
      let same = ap (λ n. length n.1) e in
      omega arith

  pub pair_empty : (ss : List (Slot V M A)) (node : ℕ × List (List ℕ × V)) → node ≡ (suc below, fan (children below ss)) → length ss < 1 → length node.1 ≢ 2
  pair_empty [] node e h two = let same = ap (λ n. length n.1) e in omega arith
  pair_empty (s ∷ ss) node e h two = absurd (omega arith)

  pub pair_one : (ss : List (Slot V M A)) (i : ℕ) (x : Arc (Entry V A) A) (node : ℕ × List (List ℕ × V)) → node ≡ (suc below, fan (children below ss))
      → ss ≡ One i x ∷ [] → length node.1 ≢ 2
  pair_one ss i x node e is two =
      let same = ap (λ n. length n.1) e ∙ ap (λ l. length (fan (children below l))) is in
      omega arith

  pub pair_many : {X : Type 0} (a b : X → Entry V A) (m : ℕ) (ss : List (Slot V M A)) (i : ℕ) (n : Arc (Node V M A) A) (node : ℕ × List (List ℕ × V))
      (r : Option X)
      → node ≡ (suc below, fan (children below ss)) → IsBranch below m ss → ss ≡ Many i n ∷ []
      → MatchOption r (length n.value.1.0 ≢ 2) (λ x. n.value.1.0 ≡ entry_at n.value.0 (a x) ∷ entry_at n.value.0 (b x) ∷ [])
      → MatchOption r (length node.1 ≢ 2) (λ x. node.1 ≡ entry_at node.0 (a x) ∷ entry_at node.0 (b x) ∷ [])
  pair_many a b m ss i n node r e br is h =
      let fits = All-head (StandsBelow below) (Many i n) [] (subst (All (StandsBelow below)) is br.fits) in
      let words = subst (λ l. AllWords (suc below) (fan (children below l))) is br.words in
      let seen : node ≡ (suc below, under i n.value.1.0 ++ []) = e ∙ ap (λ l. (suc below, fan (children below l))) is in
      let long = length-append (under i n.value.1.0) [] in
      let own = length-under i n.value.1.0 in
      option_so r
      (λ f two. f (let same = ap (λ x. length x.1) seen in omega arith))
      (λ x q.
      let q' : n.value.1.0 ≡ entry_at below (a x) ∷ entry_at below (b x) ∷ [] = q ∙ ap (λ k. entry_at k (a x) ∷ entry_at k (b x) ∷ []) fits.0 in
      let w = subst (λ l. AllWords (suc below) (under i l ++ [])) q' words in
      let first = word_index below i (a x).hash (a x).key w.0 in
      let second = word_index below i (b x).hash (b x).key w.1.0 in
      ap (λ y. y.1) seen ∙ ap (λ l. under i l ++ []) q'
      ∙ (λ k. (first k ∷ word below (a x).hash (a x).key, (a x).value) ∷ (second k ∷ word below (b x).hash (b x).key, (b x).value) ∷ [])
      ∙ ap (λ k. entry_at k (a x) ∷ entry_at k (b x) ∷ []) (sym (ap (λ y. y.0) seen)))
      h

  pub pair_two : {X : Type 0} (a b : X → Entry V A) (m : ℕ) (ss : List (Slot V M A)) (s t : Slot V M A) (node : ℕ × List (List ℕ × V)) (r : Option X)
      → node ≡ (suc below, fan (children below ss)) → IsBranch below m ss → ss ≡ s ∷ t ∷ []
      → MatchOption r (StandsBelow below s → StandsBelow below t → 3 ≤ length (child below s).1 + length (child below t).1)
      (λ x. ((child below s).1 ≡ entry_at below (a x) ∷ []) × ((child below t).1 ≡ entry_at below (b x) ∷ []))
      → MatchOption r (length node.1 ≢ 2) (λ x. node.1 ≡ entry_at node.0 (a x) ∷ entry_at node.0 (b x) ∷ [])
  pair_two a b m ss s t node r e br is h =
      let both = subst (All (StandsBelow below)) is br.fits in
      let fits_s = All-head (StandsBelow below) s (t ∷ []) both in
      let fits_t = All-head (StandsBelow below) t [] (All-tail (StandsBelow below) s (t ∷ []) both) in
      let words = subst (λ l. AllWords (suc below) (fan (children below l))) is br.words in
      let es = (child below s).1 in
      let fs = (child below t).1 in
      let i = (child below s).0 in
      let j = (child below t).0 in
      let seen : node ≡ (suc below, under i es ++ (under j fs ++ [])) = e ∙ ap (λ l. (suc below, fan (children below l))) is in
      let l1 = length-append (under i es) (under j fs ++ []) in
      let l2 = length-append (under j fs) [] in
      let l3 = length-under i es in
      let l4 = length-under j fs in
      option_so r
      (λ f two. let same = ap (λ x. length x.1) seen in let long = f fits_s fits_t in omega arith)
      (λ x q.
      ap (λ y. y.1) seen ∙ up_one below i (a x) es (under j fs ++ []) q.0 words
      ∙ ap (λ l. entry_at (suc below) (a x) ∷ l) (up_one below j (b x) fs [] q.1 (words_rest (suc below) i es (under j fs ++ []) words))
      ∙ ap (λ k. entry_at k (a x) ∷ entry_at k (b x) ∷ []) (sym (ap (λ y. y.0) seen)))
      h
