-- What an edit of the slots of a branch leaves.
use Rattle.std.proofs.Common.{◌≡◌, ℕ, suc, ◌+◌, ◌*◌, ◌%◌, ◌^◌, ◌<◌, ◌≤◌, List, [], ◌∷◌, ◌++◌, length, get_or, take, drop, set, map, Bool, true, false, not}
use Rattle.std.proofs.Common.{arith, refl, sym, ◌∙◌, ap, subst}
use Rattle.std.specs.List.{All, insert}
use Rattle.std.specs.declared.sync.Arc.{Arc}
use Rattle.std.proofs.lemmas.List.{map-append, map-set, take_more, length-map}
use Rattle.std.proofs.lemmas.List.Elements.{All-set, All-append, All-cons, All-nil, All-take, All-drop}
use Rattle.std.proofs.lemmas.Nat.{one_shl}
use Rattle.std.specs.List.{take-map, drop-map}
use Rattle.std.proofs.Math.ListN.{get_or-map}
use Rattle.std.proofs.Math.Seq.{map-set_same}
use Rattle.hash_path.specs.Word.{digit, word, AllWords}
use Rattle.hash_path.specs.Fan.{fan, at, there, place, put_child, bits_of, Rise}
use Rattle.hash_path.proofs.Putting.{put-fan, length-put_child}
use Rattle.hash_path.proofs.Places.{set_there, insert_absent, bits_there, bits_absent, bits_fit, Rise-put_child, there_at, at_absent}
use Rattle.std.proofs.lemmas.List.{get_or-map as get_or-map_at}
use Rattle.std.specs.Prelude.{OnOk, OnErr, IfOk}
use Rattle.std.proofs.Common.{Ok, Err}
use Rattle.std.specs.declared.result.Result.{Result}
use Rattle.std.specs.Ordering.{eq_by_cmp}
use Rattle.dots.specs.Bytes.{bytes_cmp}
use Rattle.hash_path.specs.Rank.{rank}
use Rattle.hash_path.proofs.Ranks.{put_set, put_insert, rank_le}
use Rattle.hash_path.proofs.Words.{IsWord-word, AllWords-put, tied_same, tied-word, put_tied, two_apart, length_put_ge, length_put_le}
use Rattle.gen_trie.specs.declared.entry.Entry.{Entry}
use Rattle.gen_trie.specs.declared.node.Slot.{Slot}
use Rattle.gen_trie.specs.declared.node.Slot.TheVariants.{One}
use Rattle.gen_trie.specs.Shapes.{children, child, entry_at, listed, with_entry, HasMore, StandsBelow, IsBranch, IsSeat}

-- ---- copies

pub same_more : {X Y : Type 0} (f : X → Y) (xs : List X) (k : ℕ) (x y : X) (ds es : List X) → k < length xs → x ≡ get_or xs k x → f y ≡ f x
    → map f ds ≡ map f (take k xs) → es ≡ ds ++ y ∷ [] → map f es ≡ map f (take (k + 1) xs)
same_more f xs k x y ds es h is e so q =
    ap (map f) q ∙ map-append f ds (y ∷ []) ∙ (λ i. so i ++ (e ∙ ap f is) i ∷ []) ∙ sym (map-append f (take k xs) (get_or xs k x ∷ []))
    ∙ sym (ap (map f) (take_more xs k x h))

module _ {V M A : Type 0} (below : ℕ) where
  pub same_branch : (m : ℕ) (ss ts : List (Slot V M A)) → IsBranch below m ss → children below ts ≡ children below ss
      → (All (StandsBelow below) ss → All (StandsBelow below) ts) → IsBranch below m ts
  same_branch m ss ts b e f = record {
    height = b.height;
    bitmap_is = subst (λ cs. m ≡ bits_of cs) (sym e) b.bitmap_is;
    rise = subst (Rise 0) (sym e) b.rise;
    fits = f b.fits;
    words = subst (λ cs. AllWords (suc below) (fan cs)) (sym e) b.words;
  }

  -- ---- the children with an entry put in

  pub put_is : (m m' : ℕ) (e : Entry V A) (ss ts : List (Slot V M A)) → IsBranch below m ss
      → children below ts ≡ put_child (digit below e.hash) (with_entry below e (at (digit below e.hash) (children below ss))) (children below ss)
      → m' ≡ bits_of (put_child (digit below e.hash) (with_entry below e (at (digit below e.hash) (children below ss))) (children below ss))
      → All (StandsBelow below) ts → digit below e.hash < 32
      → (fan (children below ts) ≡ with_entry (suc below) e (fan (children below ss)))
      × IsBranch below m' ts
      × (length (fan (children below ts)) + length (at (digit below e.hash) (children below ss)) ≡ length (fan (children below ss))
      + length (with_entry below e (at (digit below e.hash) (children below ss))))
  put_is m m' e ss ts b c bits fits less =
      let entries : fan (children below ts) ≡ with_entry (suc below) e (fan (children below ss)) =
      ap fan c ∙ sym (put-fan (digit below e.hash) (word below e.hash e.key) e.value 0 (children below ss) b.rise) in (
        entries,
        record {
          height = b.height;
          bitmap_is = bits ∙ ap bits_of (sym c);
          rise = subst (Rise 0) (sym c) (Rise-put_child 0 (digit below e.hash) _ (children below ss) (omega arith) less b.rise);
          fits = fits;
          words = subst (AllWords (suc below)) (sym entries)
              (AllWords-put (suc below) (word (suc below) e.hash e.key) e.value (fan (children below ss)) b.words (IsWord-word (suc below) e.hash e.key));
        },
        ap (λ cs. length (fan cs) + length (at (digit below e.hash) (children below ss))) c
            ∙ length-put_child (digit below e.hash) (with_entry below e (at (digit below e.hash) (children below ss))) (children below ss),
      )

  map_insert : (ss : List (Slot V M A)) (n : ℕ) (s : Slot V M A) → children below (insert ss n s) ≡ insert (children below ss) n (child below s)
  map_insert ss n s =
      map-append (child below) (take n ss) (s ∷ drop n ss) ∙ (λ i. sym (take-map (child below) n ss) i ++ child below s ∷ sym (drop-map (child below) n ss) i)

  -- at an index that has no child
  pub put_new_is : (m count j n : ℕ) (t : Bool) (e : Arc (Entry V A) A) (ss ts : List (Slot V M A)) → IsBranch below m ss
      → IsSeat (digit below e.value.hash) (children below ss) count j n t → t ≡ false → ts ≡ insert ss n (One j e)
      → (fan (children below ts) ≡ with_entry (suc below) e.value (fan (children below ss))) × IsBranch below (m + 1 * 2 ^ j % 4294967296) ts
      × HasMore true (fan (children below ss)) (fan (children below ts))
  put_new_is m count j n t e ss ts b seat free is =
      let i = digit below e.value.hash in
      let cs = children below ss in
      let none : there i cs ≡ false = sym seat.taken_is ∙ free in
      let empty : at i cs ≡ [] = at_absent i cs none in
      let child_is : children below ts ≡ put_child i (with_entry below e.value (at i cs)) cs =
      ap (children below) is ∙ map_insert ss n (One j e)
      ∙ (λ k. insert cs (seat.position_is k) (seat.index_is k, entry_at below e.value ∷ []))
      ∙ insert_absent i (entry_at below e.value ∷ []) cs none ∙ ap (λ es. put_child i (with_entry below e.value es) cs) (sym empty) in
      let less : j < 32 = subst (λ k. k < 32) (sym seat.index_is) seat.bound in
      let bits : m + 1 * 2 ^ j % 4294967296 ≡ bits_of (put_child i (with_entry below e.value (at i cs)) cs) =
      ap (λ x. m + x) (one_shl j 32 less) ∙ (λ k. b.bitmap_is k + 2 ^ (seat.index_is k)) ∙ sym (bits_absent i _ cs none) in
      let fits : All (StandsBelow below) (insert ss n (One j e)) =
      All-append (StandsBelow below) (take n ss) (One j e ∷ drop n ss) (All-take (StandsBelow below) n ss b.fits)
      (All-cons (StandsBelow below) (One j e) (drop n ss) tt (All-drop (StandsBelow below) n ss b.fits)) in
      let all = put_is m _ e.value ss ts b child_is bits (subst (All (StandsBelow below)) (sym is) fits) seat.bound in
      let grows = all.2 in
      let before = ap length empty in
      let after : length (with_entry below e.value (at i cs)) ≡ 1 = ap (λ es. length (with_entry below e.value es)) empty in
      (all.0, all.1, omega (arith, grows, before, after))

  pub bitmap_room : (m count i j n : ℕ) (t : Bool) (ss : List (Slot V M A)) → IsBranch below m ss → IsSeat i (children below ss) count j n t → t ≡ false
      → m + 1 * 2 ^ j % 4294967296 < 2 ^ 32
  bitmap_room m count i j n t ss b seat free =
      let cs = children below ss in
      let none : there i cs ≡ false = sym seat.taken_is ∙ free in
      let less : j < 32 = subst (λ k. k < 32) (sym seat.index_is) seat.bound in
      let bits : m + 1 * 2 ^ j % 4294967296 ≡ bits_of (put_child i [] cs) =
      ap (λ x. m + x) (one_shl j 32 less) ∙ (λ k. b.bitmap_is k + 2 ^ (seat.index_is k)) ∙ sym (bits_absent i [] cs none) in
      let fit = bits_fit 0 (put_child i [] cs) (Rise-put_child 0 i [] cs (omega arith) seat.bound b.rise) (omega arith) in
      omega arith

  -- at an index that has one
  pub put_old_is : (m count j n : ℕ) (t : Bool) (e : Entry V A) (s s' : Slot V M A) (ss ts : List (Slot V M A)) → IsBranch below m ss
      → IsSeat (digit below e.hash) (children below ss) count j n t → t ≡ true → s ≡ get_or ss n s → ts ≡ set ss n s'
      → child below s' ≡ ((child below s).0, with_entry below e (child below s).1) → StandsBelow below s'
      → (fan (children below ts) ≡ with_entry (suc below) e (fan (children below ss)))
      × IsBranch below m ts
      × (length (fan (children below ts)) + length (child below s).1 ≡ length (fan (children below ss)) + length (child below s').1)
  put_old_is m count j n t e s s' ss ts b seat taken at_s is new fits =
      let i = digit below e.hash in
      let cs = children below ss in
      let yes : there i cs ≡ true = sym seat.taken_is ∙ taken in
      let inside = there_at i (child below s) cs yes in
      let here : child below s ≡ get_or cs (place i cs) (child below s) =
      subst (λ k. child below s ≡ get_or cs k (child below s)) seat.position_is (ap (child below) at_s ∙ sym (get_or-map (child below) ss n s)) in
      let first = ap (λ x. x.0) here ∙ inside.1 in
      let second = ap (λ x. x.1) here ∙ inside.2 in
      let seen : child below s' ≡ (i, with_entry below e (at i cs)) = new ∙ (λ k. (first k, with_entry below e (second k))) in
      let child_is : children below ts ≡ put_child i (with_entry below e (at i cs)) cs =
      ap (children below) is ∙ map-set (child below) ss n s' ∙ (λ k. set cs (seat.position_is k) (seen k))
      ∙ set_there i (with_entry below e (at i cs)) cs yes in
      let bits = b.bitmap_is ∙ sym (bits_there i (with_entry below e (at i cs)) cs yes) in
      let all = put_is m m e ss ts b child_is bits (subst (All (StandsBelow below)) (sym is) (All-set (StandsBelow below) ss n s' fits b.fits)) seat.bound in
      let grows = all.2 in
      let before = ap length second in
      let after = ap (λ x. length x.1) seen in
      (all.0, all.1, omega (arith, grows, before, after))

  -- a refused put changed no child
  pub put_none_is : (m n : ℕ) (s s' : Slot V M A) (ss ts : List (Slot V M A)) → IsBranch below m ss → n < length ss → s ≡ get_or ss n s → ts ≡ set ss n s'
      → child below s' ≡ child below s → StandsBelow below s'
      → (fan (children below ts) ≡ fan (children below ss)) × IsBranch below m ts
  put_none_is m n s s' ss ts b l at_s is new fits =
      let e : children below ts ≡ children below ss = ap (children below) is ∙ map-set_same (child below) ss n s' s (new ∙ ap (child below) at_s) in
      (ap fan e, same_branch m ss ts b e (λ f. subst (All (StandsBelow below)) (sym is) (All-set (StandsBelow below) ss n s' fits f)))

-- ---- a node of one key

pub single_is : {V M A : Type 0} (below height index : ℕ) (e : Arc (Entry V A) A) (new ss : List (Slot V M A)) → height ≡ suc below → below ≤ 6
    → index ≡ digit below e.value.hash → index < 32
    → new ≡ [] → ss ≡ new ++ One index e ∷ []
    → IsBranch below (1 * 2 ^ index % 4294967296) ss
    × (◌≡◌ {A = ℕ × List (List ℕ × V)} (suc below, fan (children below ss)) (height, entry_at height e.value ∷ []))
single_is {V} below height index e new ss h low is less empty items =
    let one : ss ≡ One index e ∷ [] = items ∙ ap (λ l. l ++ One index e ∷ []) empty in
    let entries : fan (children below ss) ≡ entry_at (suc below) e.value ∷ [] = ap (λ l. fan (children below l)) one
    ∙ (λ i. (is i ∷ word below e.value.hash e.value.key, e.value.value) ∷ []) in (
      record {
        height = low;
        bitmap_is = one_shl index 32 less ∙ plus_none (2 ^ index) ∙ ap (λ l. bits_of (children below l)) (sym one);
        rise = subst (λ l. Rise 0 (children below l)) (sym one) (omega arith, less, tt);
        fits = subst (All (StandsBelow below)) (sym one) (All-cons (StandsBelow below) (One index e) [] tt (All-nil (StandsBelow below)));
        words = subst (AllWords (suc below)) (sym entries) (IsWord-word (suc below) e.value.hash e.value.key, tt);
      },
      (λ i. (suc below, entries i)) ∙ (λ i. (sym h i, entry_at (sym h i) e.value ∷ [])),
    )
  where
    plus_none : (n : ℕ) → n ≡ n + 0
    plus_none n = omega arith

-- ---- a list of keys with equal hashes

module _ {V A : Type 0} where
  pub list_set : (n : ℕ) (e : Arc (Entry V A) A) (es : List (Arc (Entry V A) A)) → n ≡ rank (e.value.hash ∷ e.value.key) (listed es) → n < length es
      → ((d : List ℕ × V) → true ≡ eq_by_cmp bytes_cmp (e.value.hash ∷ e.value.key) (get_or (listed es) n d).0)
      → listed (set es n e) ≡ with_entry 0 e.value (listed es)
  list_set n e es p h t =
      let w = e.value.hash ∷ e.value.key in
      let d = entry_at 0 e.value in
      let tie : eq_by_cmp bytes_cmp w (get_or (listed es) (rank w (listed es)) d).0 ≡ true =
      subst (λ k. eq_by_cmp bytes_cmp w (get_or (listed es) k d).0 ≡ true) p (sym (t d)) in
      let within : rank w (listed es) < length (listed es) = subst (λ k. k < length (listed es)) p
      (subst (λ k. n < k) (sym (length-map es (λ (x : Arc (Entry V A) A). entry_at 0 x.value))) h) in
      map-set (λ (x : Arc (Entry V A) A). entry_at 0 x.value) es n e ∙ ap (λ k. set (listed es) k d) p ∙ sym (put_set w e.value.value d (listed es) tie within)

  pub list_room : (n : ℕ) (e : Entry V A) (es : List (Arc (Entry V A) A)) → n ≡ rank (e.hash ∷ e.key) (listed es) → n ≤ length es
  list_room n e es p =
      subst (λ k. k ≤ length es) (sym p) (subst (λ k. rank (e.hash ∷ e.key) (listed es) ≤ k) (length-map es (λ (x : Arc (Entry V A) A). entry_at 0 x.value))
      (rank_le (e.hash ∷ e.key) e.value (listed es)))

  pub list_insert : (n : ℕ) (e : Arc (Entry V A) A) (es ts : List (Arc (Entry V A) A)) → n ≡ rank (e.value.hash ∷ e.value.key) (listed es)
      → (n < length es → (d : List ℕ × V) → false ≡ eq_by_cmp bytes_cmp (e.value.hash ∷ e.value.key) (get_or (listed es) n d).0)
      → ts ≡ insert es n e → listed ts ≡ with_entry 0 e.value (listed es)
  list_insert n e es ts p t is =
      let w = e.value.hash ∷ e.value.key in
      let d = entry_at 0 e.value in
      let f = λ (x : Arc (Entry V A) A). entry_at 0 x.value in
      let apart : rank w (listed es) < length (listed es) → eq_by_cmp bytes_cmp w (get_or (listed es) (rank w (listed es)) d).0 ≡ false =
      λ h. sym (subst (λ k. false ≡ eq_by_cmp bytes_cmp w (get_or (listed es) k d).0) p
      (t (subst (λ k. k < length es) (sym p) (subst (λ k. rank w (listed es) < k) (length-map es f) h)) d)) in
      ap listed is ∙ map-append f (take n es) (e ∷ drop n es) ∙ (λ i. sym (take-map f n es) i ++ f e ∷ sym (drop-map f n es) i)
      ∙ ap (λ k. insert (listed es) k d) p
      ∙ sym (put_insert w e.value.value d (listed es) apart)

  pub key_at : (n : ℕ) (w : List ℕ) (x : Arc (Entry V A) A) (r : Bool) (es : List (Arc (Entry V A) A)) (d : List ℕ × V) → n < length es → x ≡ get_or es n x
      → r ≡ eq_by_cmp bytes_cmp w (x.value.hash ∷ x.value.key) → r ≡ eq_by_cmp bytes_cmp w (get_or (listed es) n d).0
  key_at n w x r es d h is t =
      let at_n : get_or (listed es) n d ≡ entry_at 0 x.value = get_or-map_at (λ (y : Arc (Entry V A) A). entry_at 0 y.value) es n x d h
      ∙ ap (λ (y : Arc (Entry V A) A). entry_at 0 y.value) (sym is) in
      t ∙ ap (λ y. eq_by_cmp bytes_cmp w y.0) (sym at_n)

  -- ---- a slot

  pub replaced : {M : Type 0} (below i : ℕ) (e : Arc (Entry V A) A) (leaf : Arc (Entry V A) A) (s : Slot V M A) → s ≡ One i e
      → true ≡ eq_by_cmp bytes_cmp (leaf.value.hash ∷ leaf.value.key) (e.value.hash ∷ e.value.key)
      → child {M = M} below (One i leaf) ≡ ((child below s).0, with_entry below leaf.value (child below s).1)
  replaced below i e leaf s is t =
      let same = tied_same (leaf.value.hash ∷ leaf.value.key) (e.value.hash ∷ e.value.key) (sym t) in
      let words : word below leaf.value.hash leaf.value.key ≡ word below e.value.hash e.value.key = ap (λ x. word below (get_or x 0 0) (drop 1 x)) same in
      let one : with_entry below leaf.value (entry_at below e.value ∷ []) ≡ (word below e.value.hash e.value.key, leaf.value.value) ∷ [] =
      put_tied (word below leaf.value.hash leaf.value.key) (word below e.value.hash e.value.key) leaf.value.value e.value.value words in
      (λ k. (i, (words k, leaf.value.value) ∷ [])) ∙ (λ k. (i, sym one k))
      ∙ (λ k. ((child below (sym is k)).0, with_entry below leaf.value (child below (sym is k)).1))

  pub two_keys : (below height : ℕ) (e leaf : Entry V A) (n : ℕ × List (List ℕ × V)) → n ≡ (below, with_entry below leaf (entry_at below e ∷ []))
      → false ≡ eq_by_cmp bytes_cmp (leaf.hash ∷ leaf.key) (e.hash ∷ e.key) → (n.0 ≡ below) × (2 ≤ length n.1)
  two_keys below height e leaf n is t =
      let apart = tied-word below leaf.hash e.hash leaf.key e.key ∙ sym t in
      (ap (λ x. x.0) is, subst (λ x. 2 ≤ length x.1) (sym is) (two_apart (word below leaf.hash leaf.key) (word below e.hash e.key) leaf.value e.value apart))

  -- and they are one more than the one before
  pub one_more_key : (below : ℕ) (e leaf : Entry V A) (n : ℕ × List (List ℕ × V)) → n ≡ (below, with_entry below leaf (entry_at below e ∷ []))
      → false ≡ eq_by_cmp bytes_cmp (leaf.hash ∷ leaf.key) (e.hash ∷ e.key) → HasMore true (entry_at below e ∷ []) n.1
  one_more_key below e leaf n is t =
      let two = two_keys below below e leaf n is t in
      let least = two.1 in
      let most = length_put_le (word below leaf.hash leaf.key) leaf.value (entry_at below e ∷ []) in
      let same = ap (λ x. length x.1) is in
      omega (arith, least, most, same)

  pub more_keys : {T E : Type 0} (r : Result T E) (below : ℕ) (leaf : Entry V A) (n m : ℕ × List (List ℕ × V)) → OnOk r (n ≡ (m.0, with_entry m.0 leaf m.1))
      → OnErr r (n ≡ m)
      → (m.0 ≡ below) × (2 ≤ length m.1) → (n.0 ≡ below) × (2 ≤ length n.1)
  more_keys (Ok x) below leaf n m ok err h = (
    ap (λ x. x.0) ok ∙ h.0,
    let grows = length_put_ge (word m.0 leaf.hash leaf.key) leaf.value m.1 in let same = ap (λ x. length x.1) ok in let old = h.1 in
        omega arith,
  )
  more_keys (Err x) below leaf n m ok err h = (ap (λ x. x.0) err ∙ h.0, subst (λ x. 2 ≤ length x.1) (sym err) h.1)

-- one child has one entry more, and so the branch
pub grown : {X Y : Type 0} (fresh : Bool) (before after : List X) (old new : List Y) → length after + length old ≡ length before + length new
    → HasMore fresh old new → HasMore fresh before after
grown true before after old new sum more = omega (arith, sum, more)
grown false before after old new sum more = omega (arith, sum, more)

-- ---- results

pub ok_so : {T E P Q : Type 0} (r : Result T E) → (P → Q) → OnOk r P → OnOk r Q
ok_so (Ok x) f p = f p
ok_so (Err x) f p = tt

pub err_so : {T E P Q : Type 0} (r : Result T E) → (P → Q) → OnErr r P → OnErr r Q
err_so (Ok x) f p = tt
err_so (Err x) f p = f p

pub if_ok_so : {T E : Type 0} {P Q : T → Type 0} (r : Result T E) → ((x : T) → P x → Q x) → IfOk r P → IfOk r Q
if_ok_so (Ok x) f p = f x p
if_ok_so (Err x) f p = tt

pub ok_with : {T E P : Type 0} {Q R : T → Type 0} (r : Result T E) → (P → (x : T) → Q x → R x) → OnOk r P → IfOk r Q → IfOk r R
ok_with (Ok x) f p q = f p x q
ok_with (Err x) f p q = tt

pub either_so : {T E P Q R : Type 0} (r : Result T E) → (P → R) → (Q → R) → OnOk r P → OnErr r Q → R
either_so (Ok x) f g p q = f p
either_so (Err x) f g p q = g q

pub not_false : (b : Bool) → not b ≡ false → b ≡ true
not_false true e = refl
not_false false e = cc
