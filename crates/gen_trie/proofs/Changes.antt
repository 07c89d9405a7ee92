-- What a change of one value leaves of a list, of a slot, of a branch and of a map.
use Rattle.std.proofs.Common.{◌≡◌, ℕ, suc, ◌+◌, ◌<◌, ◌≤◌, List, [], ◌∷◌, length, get_or, set, Bool, true, false, cond, T, Some, Ok, Err, arith, refl, sym, ◌∙◌}
use Rattle.std.proofs.Common.{ap, subst}
use Rattle.std.specs.Prelude.{◌&&◌, is_some, None, IsSomeAnd, OnOk, OnErr}
use Rattle.std.specs.declared.cmp.Ordering.{Ordering}
use Rattle.std.specs.declared.cmp.Ordering.TheVariants.{Less, Equal, Greater}
use Rattle.std.specs.declared.option.Option.{Option}
use Rattle.std.specs.declared.result.Result.{Result}
use Rattle.std.specs.declared.sync.Arc.{Arc}
use Rattle.std.specs.Cmp.Lexicographic.{nat_list_cmp_total}
use Rattle.std.specs.Ordering.{eq_by_cmp, is_eq}
use Rattle.std.specs.FinMap.Entries.{by_order, put, find, below_all, is_sorted, length-put}
use Rattle.std.proofs.lemmas.List.{get_or-map, map-set, length-map}
use Rattle.std.proofs.Math.Seq.{map-set_same}
use Rattle.dots.specs.Bytes.{bytes_cmp}
use Rattle.hash_path.specs.Word.{digit, word}
use Rattle.hash_path.specs.Cut.{spot}
use Rattle.hash_path.specs.Fan.{fan, at}
use Rattle.hash_path.proofs.Cutting.{sorted-at}
use Rattle.hash_path.proofs.Finding.{find-fan}
use Rattle.hash_path.proofs.Words.{tied_same, length_put_ge}
use Rattle.gen_trie.specs.declared.entry.Entry.{Entry}
use Rattle.gen_trie.specs.declared.node.Slot.{Slot}
use Rattle.gen_trie.specs.Changes.{IsChanged}
use Rattle.gen_trie.specs.Shapes.{children, child, entry_at, listed, StandsBelow, IsBranch, IsSeat}
use Rattle.gen_trie.proofs.Puts.{put_old_is}

pub there_is : {V : Type 0} (o : Option V) (P : V → Type 0) → IsSomeAnd o P → is_some o ≡ true
there_is None P h = absurd h
there_is (Some v) P h = refl

and_right : (a b : Bool) → T (a && b) → T b
and_right true b t = t
and_right false b t = absurd t

-- ---- the first entry of a word

module _ {V : Type 0} (w : List ℕ) where
  pub spot_within : (es : List (List ℕ × V)) → is_some (find bytes_cmp w es) ≡ true → spot w es < length es
  spot_within [] f = absurd (cc f)
  spot_within (e ∷ es) f = by (eq_by_cmp bytes_cmp w e.0) (spot_within es) f
    where
      by : (b : Bool) → (is_some (find bytes_cmp w es) ≡ true → spot w es < length es) → is_some (cond b (Some e.1) (find bytes_cmp w es)) ≡ true
          → cond b 0 (suc (spot w es)) < suc (length es)
      by true rest t = omega arith
      by false rest t = let h = rest t in omega arith

  pub find_spot : (d : List ℕ × V) (es : List (List ℕ × V)) → is_some (find bytes_cmp w es) ≡ true → find bytes_cmp w es ≡ Some (get_or es (spot w es) d).1
  find_spot d [] f = absurd (cc f)
  find_spot d (e ∷ es) f = by (eq_by_cmp bytes_cmp w e.0) (find_spot d es) f
    where
      by : (b : Bool) → (is_some (find bytes_cmp w es) ≡ true → find bytes_cmp w es ≡ Some (get_or es (spot w es) d).1)
          → is_some (cond b (Some e.1) (find bytes_cmp w es)) ≡ true
          → cond b (Some e.1) (find bytes_cmp w es) ≡ Some (get_or (e ∷ es) (cond b 0 (suc (spot w es))) d).1
      by true rest t = refl
      by false rest t = rest t

  pub tied_spot : (d : List ℕ × V) (es : List (List ℕ × V)) → is_some (find bytes_cmp w es) ≡ true → eq_by_cmp bytes_cmp w (get_or es (spot w es) d).0 ≡ true
  tied_spot d [] f = absurd (cc f)
  tied_spot d (e ∷ es) f = by (eq_by_cmp bytes_cmp w e.0) refl (tied_spot d es) f
    where
      by : (b : Bool) → eq_by_cmp bytes_cmp w e.0 ≡ b → (is_some (find bytes_cmp w es) ≡ true → eq_by_cmp bytes_cmp w (get_or es (spot w es) d).0 ≡ true)
          → is_some (cond b (Some e.1) (find bytes_cmp w es)) ≡ true
          → eq_by_cmp bytes_cmp w (get_or (e ∷ es) (cond b 0 (suc (spot w es))) d).0 ≡ true
      by true is rest t = is
      by false is rest t = rest t

  put_step : (v : V) (e : List ℕ × V) (es : List (List ℕ × V)) (o : Ordering) → bytes_cmp w e.0 ≡ o
      → length (by_order o ((w, v) ∷ e ∷ es) ((e.0, v) ∷ es) (e ∷ put bytes_cmp w v es)) ≡ suc (length es)
      → (is_some (find bytes_cmp w es) ≡ true → put bytes_cmp w v es ≡ set es (spot w es) (w, v))
      → is_some (cond (is_eq o) (Some e.1) (find bytes_cmp w es)) ≡ true
      → by_order o ((w, v) ∷ e ∷ es) ((e.0, v) ∷ es) (e ∷ put bytes_cmp w v es) ≡ set (e ∷ es) (cond (is_eq o) 0 (suc (spot w es))) (w, v)
  put_step v e es Less p more rest t = absurd (omega (arith, more))
  put_step v e es Equal p more rest t = let same = tied_same w e.0 (ap is_eq p) in λ i. (sym same i, v) ∷ es
  put_step v e es Greater p more rest t = ap (λ l. e ∷ l) (rest t)

  -- in an ascending list a put at a word that is there is a write at its place
  pub put_spot : (v : V) (es : List (List ℕ × V)) → T (is_sorted bytes_cmp es) → is_some (find bytes_cmp w es) ≡ true
      → put bytes_cmp w v es ≡ set es (spot w es) (w, v)
  put_spot v [] s f = absurd (cc f)
  put_spot v (e ∷ es) s f =
      let more = length-put bytes_cmp nat_list_cmp_total w v (e ∷ es) s ∙ ap (λ b. cond b (suc (length es)) (suc (length es) + 1)) f in
      put_step v e es (bytes_cmp w e.0) refl more (put_spot v es (tail s)) f
    where
      tail : T (is_sorted bytes_cmp (e ∷ es)) → T (is_sorted bytes_cmp es)
      tail t = and_right (below_all bytes_cmp e.0 es) (is_sorted bytes_cmp es) t

-- ---- a list of keys with equal hashes

pub list_within : {V A : Type 0} (hash : ℕ) (key : List ℕ) (n : ℕ) (es : List (Arc (Entry V A) A)) (P : V → Type 0)
    → IsSomeAnd (find bytes_cmp (hash ∷ key) (listed es)) P → n ≡ spot (hash ∷ key) (listed es) → n < length es
list_within {V} {A} hash key n es P there place =
    subst (λ k. k < length es) (sym place)
    (subst (λ k. spot (hash ∷ key) (listed es) < k) (length-map es (λ (x : Arc (Entry V A) A). entry_at 0 x.value))
    (spot_within (hash ∷ key) (listed es) (there_is (find bytes_cmp (hash ∷ key) (listed es)) P there)))

module _ {V A : Type 0} (hash : ℕ) (key : List ℕ) (n : ℕ) (es : List (Arc (Entry V A) A)) (e : Arc (Entry V A) A) (P : V → Type 0)
    (there : IsSomeAnd (find bytes_cmp (hash ∷ key) (listed es)) P)
    (place : n ≡ spot (hash ∷ key) (listed es)) (is : e ≡ get_or es n e) where
  is_there : is_some (find bytes_cmp (hash ∷ key) (listed es)) ≡ true
  is_there = there_is (find bytes_cmp (hash ∷ key) (listed es)) P there

  here : get_or (listed es) (spot (hash ∷ key) (listed es)) (entry_at 0 e.value) ≡ entry_at 0 e.value
  here =
      ap (λ k. get_or (listed es) k (entry_at 0 e.value)) (sym place)
      ∙ get_or-map (λ (x : Arc (Entry V A) A). entry_at 0 x.value) es n e (entry_at 0 e.value) (list_within hash key n es P there place)
      ∙ ap (λ (x : Arc (Entry V A) A). entry_at 0 x.value) (sym is)

  finds : find bytes_cmp (hash ∷ key) (listed es) ≡ Some e.value.value
  finds = find_spot (hash ∷ key) (entry_at 0 e.value) (listed es) is_there ∙ ap (λ (x : List ℕ × V). Some x.1) here

  -- the entry's value is the one that is there
  pub list_fits : P e.value.value
  list_fits = subst (λ o. IsSomeAnd o P) finds there

  pub list_changed : (becomes : V → V → Type 0) (f : Arc (Entry V A) A) → T (is_sorted bytes_cmp (listed es)) → f.value.hash ≡ e.value.hash
      → f.value.key ≡ e.value.key → becomes e.value.value f.value.value
      → IsChanged becomes (hash ∷ key) (listed es) (listed (set es n f))
  list_changed becomes f sorted same_hash same_key change =
      let tied : eq_by_cmp bytes_cmp (hash ∷ key) (e.value.hash ∷ e.value.key) ≡ true =
      subst (λ (x : List ℕ × V). eq_by_cmp bytes_cmp (hash ∷ key) x.0 ≡ true) here (tied_spot (hash ∷ key) (entry_at 0 e.value) (listed es) is_there) in
      let word_is : f.value.hash ∷ f.value.key ≡ hash ∷ key = (λ i. same_hash i ∷ same_key i)
      ∙ sym (tied_same (hash ∷ key) (e.value.hash ∷ e.value.key) tied) in
      record {
        old = e.value.value;
        value = f.value.value;
        found = finds;
        change = change;
        put_in =
            map-set (λ (x : Arc (Entry V A) A). entry_at 0 x.value) es n f ∙ (λ i. set (listed es) (place i) (word_is i, f.value.value))
            ∙ sym (put_spot (hash ∷ key) f.value.value (listed es) sorted is_there);
      }

  pub list_same : (f : Arc (Entry V A) A) → f.value.hash ≡ e.value.hash → f.value.key ≡ e.value.key → f.value.value ≡ e.value.value
      → listed (set es n f) ≡ listed es
  list_same f same_hash same_key same_value =
      map-set_same (λ (x : Arc (Entry V A) A). entry_at 0 x.value) es n f e ((λ i. (same_hash i ∷ same_key i, same_value i))
      ∙ ap (λ (x : Arc (Entry V A) A). entry_at 0 x.value) is)

-- ---- a slot

-- a node that is changed has as many entries
pub many_fits : {V T E : Type 0} (becomes : V → V → Type 0) (r : Result T E) (below : ℕ) (w : List ℕ) (h k : ℕ) (es fs : List (List ℕ × V)) → k ≡ h
    → OnOk r (IsChanged becomes w es fs) → OnErr r (fs ≡ es)
    → (h ≡ below) × (2 ≤ length es) → (k ≡ below) × (2 ≤ length fs)
many_fits becomes (Ok x) below w h k es fs height ok err fits =
    (height ∙ fits.0, let grows = length_put_ge w ok.value es in let same = ap length ok.put_in in let old = fits.1 in omega arith)
many_fits becomes (Err x) below w h k es fs height ok err fits = (height ∙ fits.0, subst (λ l. 2 ≤ length l) (sym err) fits.1)

-- ---- a branch

module _ {V M A : Type 0} (below : ℕ) (hash : ℕ) (key : List ℕ) (m : ℕ) (ss : List (Slot V M A)) (b : IsBranch below m ss) (s : Slot V M A)
    (here : child below s ≡ (digit below hash, at (digit below hash) (children below ss))) where
  child_find : find bytes_cmp (word (suc below) hash key) (fan (children below ss)) ≡ find bytes_cmp (word below hash key) (child below s).1
  child_find = find-fan 0 (digit below hash) (word below hash key) (children below ss) b.rise ∙ ap (λ c. find bytes_cmp (word below hash key) c.1) (sym here)

  pub child_there : (P : V → Type 0) → IsSomeAnd (find bytes_cmp (word (suc below) hash key) (fan (children below ss))) P
      → IsSomeAnd (find bytes_cmp (word below hash key) (child below s).1) P
  child_there P there = subst (λ o. IsSomeAnd o P) child_find there

  pub child_sorted : T (is_sorted bytes_cmp (fan (children below ss))) → T (is_sorted bytes_cmp (child below s).1)
  child_sorted sorted = subst (λ (l : List (List ℕ × V)). T (is_sorted bytes_cmp l)) (sym (ap (λ c. c.1) here))
      (sorted-at (digit below hash) (children below ss) sorted)

  pub branch_changed : (becomes : V → V → Type 0) (count j n : ℕ) (t : Bool) (s' : Slot V M A) → IsSeat (digit below hash) (children below ss) count j n t
      → t ≡ true → s ≡ get_or ss n s
      → (child below s').0 ≡ (child below s).0 → IsChanged becomes (word below hash key) (child below s).1 (child below s').1 → StandsBelow below s'
      → IsChanged becomes (word (suc below) hash key) (fan (children below ss)) (fan (children below (set ss n s'))) × IsBranch below m (set ss n s')
  branch_changed becomes count j n t s' seat taken at_s index changed fits =
      let e : Entry V A = record { hash = hash; key = key; value = changed.value } in
      let all = put_old_is below m count j n t e s s' ss (set ss n s') b seat taken at_s refl (λ i. (index i, changed.put_in i)) fits in (
        record {
          old = changed.old;
          value = changed.value;
          found = child_find ∙ changed.found;
          change = changed.change;
          put_in = all.0;
        },
        all.1,
      )
