-- What whole runs keep: the tries that are not written to, and those that are read-only.
use Rattle.std.specs.Prelude.{◌≡◌, ◌<◌, ◌≤◌, ◌+◌, ◌↔◌, ℕ, zero, suc, Bool, true, false, IsTrue, List, [], ◌∷◌, ◌++◌, length, refl, take, drop, fold, Option}
use Rattle.std.specs.Prelude.{Some, None, Result, Err, IfSome, cond, slice_get, ◌==◌}
use Rattle.std.specs.List.{All}
use Rattle.std.specs.Option.{option_map}
use Rattle.std.proofs.Common.{arith, ap, sym, ◌∙◌, subst, length-append, append_assoc}
use Rattle.std.specs.FinMap as finite
use Rattle.std.proofs.lemmas.Option.{slice_get_within}
use Rattle.std.proofs.lemmas.Bool.{false≢true}
use Rattle.std.proofs.lemmas.List.Elements.{All-take, All-tail}
use Rattle.std.proofs.lemmas.List.Sums.{fold_push, fold-append}
use Rattle.std.proofs.lemmas.List.{take-append-drop, append-nil}
use Rattle.std.proofs.lemmas.Iterator.Adapters.{option_map_id}
use Rattle.std.proofs.Math.Dec.{eqb-suc-zero, eqb-zero-suc, eqb-suc-suc}
use Rattle.dots.specs.declared.refusal.Refusal.{Refusal}
use Rattle.dots.specs.declared.refusal.Refusal.TheVariants.{ReadOnly}
use Rattle.dots.specs.Bytes.{bytes_cmp}
use Rattle.ctrie_api.specs.Trie.{Trie}
use Rattle.ctrie_api.specs.Run.{changed_at, written, as_list, read_only, takes_no_write, acted, acted_all, after_act, EachIsWritten, is_refused, IsWriteAt}
use Rattle.ctrie_api.specs.declared.act.Act.{Act}
use Rattle.ctrie_api.specs.declared.act.Act.TheVariants.{Insert, Remove, Clear, Snapshot, ReadOnlySnapshot}

module _ {X : Type 0} where
  length_changed : (i : ℕ) (f : X → X) (xs : List X) → length (changed_at i f xs) ≡ length xs
  length_changed i f [] = refl
  length_changed zero f (x ∷ xs) = refl
  length_changed (suc i) f (x ∷ xs) = ap suc (length_changed i f xs)

  get_other : (i j : ℕ) (f : X → X) (xs : List X) → ¬ (j ≡ i) → slice_get (changed_at j f xs) i ≡ slice_get xs i
  get_other i j f [] other = refl
  get_other zero zero f (x ∷ xs) other = absurd (other refl)
  get_other (suc i) zero f (x ∷ xs) other = refl
  get_other zero (suc j) f (x ∷ xs) other = refl
  get_other (suc i) (suc j) f (x ∷ xs) other = get_other i j f xs (λ e. other (ap suc e))

  -- what a change leaves as it is stays, wherever the change is made
  get_fixed : (i j : ℕ) (f : X → X) (xs : List X) (x : X) → slice_get xs i ≡ Some x → f x ≡ x → slice_get (changed_at j f xs) i ≡ Some x
  get_fixed i j f [] x there fixed = there
  get_fixed zero zero f (y ∷ ys) x there fixed = ap (option_map f) there ∙ ap Some fixed
  get_fixed (suc i) zero f (y ∷ ys) x there fixed = there
  get_fixed zero (suc j) f (y ∷ ys) x there fixed = there
  get_fixed (suc i) (suc j) f (y ∷ ys) x there fixed = get_fixed i j f ys x there fixed

  -- a change of what was there to stay leaves the list
  changed_fixed : (i : ℕ) (f : X → X) (xs : List X) → IfSome (slice_get xs i) (λ x. f x ≡ x) → changed_at i f xs ≡ xs
  changed_fixed i f [] fixed = refl
  changed_fixed zero f (x ∷ xs) fixed = ap (λ y. y ∷ xs) fixed
  changed_fixed (suc i) f (x ∷ xs) fixed = ap (λ ys. x ∷ ys) (changed_fixed i f xs fixed)

  option_map_twice : (f g : X → X) (found : Option X) → option_map g (option_map f found) ≡ option_map (λ x. g (f x)) found
  option_map_twice f g None = refl
  option_map_twice f g (Some x) = refl

  -- what stands at a place after a change at another place, or at this one
  get_changed : (i j : ℕ) (f : X → X) (xs : List X) → slice_get (changed_at j f xs) i ≡ option_map (λ x. cond (j == i) (f x) x) (slice_get xs i)
  get_changed i j f [] = refl
  get_changed zero zero f (x ∷ xs) = refl
  get_changed (suc i) zero f (x ∷ xs) = sym (option_map_id (slice_get xs i))
      ∙ ap (λ b. option_map (λ x. cond b (f x) x) (slice_get xs i)) (sym (eqb-zero-suc i))
  get_changed zero (suc j) f (x ∷ xs) = ap (λ b. Some (cond b (f x) x)) (sym (eqb-suc-zero j))
  get_changed (suc i) (suc j) f (x ∷ xs) = get_changed i j f xs ∙ ap (λ b. option_map (λ y. cond b (f y) y) (slice_get xs i)) (sym (eqb-suc-suc j i))

  cond_on : (b : Bool) (x y : X) → IsTrue b → cond b x y ≡ x
  cond_on true x y on = refl
  cond_on false x y on = absurd (false≢true on)

  take_front : (xs ys : List X) → take (length xs) (xs ++ ys) ≡ xs
  take_front [] ys = refl
  take_front (x ∷ xs) ys = ap (λ zs. x ∷ zs) (take_front xs ys)

  All-front : (P : X → Type 0) (xs ys all : List X) → xs ++ ys ≡ all → All P all → All P xs
  All-front P xs ys all parts h = subst (All P) (ap (take (length xs)) (sym parts) ∙ take_front xs ys) (All-take P (length xs) all h)

  get_append : (xs ys : List X) (i : ℕ) → i < length xs → slice_get (xs ++ ys) i ≡ slice_get xs i
  get_append [] ys i within = absurd (omega (arith, within))
  get_append (x ∷ xs) ys zero within = refl
  get_append (x ∷ xs) ys (suc i) within = get_append xs ys i (omega (arith, within))

module _ {H V : Type 0} where
  written_marked : (change : finite.FinMap bytes_cmp V → finite.FinMap bytes_cmp V) (trie : Trie H V) → IsTrue trie.read_only → written change trie ≡ trie
  written_marked change trie marked = cond_on trie.read_only trie (record trie { map = change trie.map }) marked

  stays_refused : (change : finite.FinMap bytes_cmp V → finite.FinMap bytes_cmp V) (found : Option (Trie H V)) → IsTrue (takes_no_write found)
      → IfSome found (λ trie. written change trie ≡ trie)
  stays_refused change None marked = tt
  stays_refused change (Some trie) marked = written_marked change trie marked

module _ {H V A : Type 0} where
  -- a refused act changes nothing
  acted_refused : (tries : List (Trie H V)) (act : Act V A) → IsTrue (is_refused tries act) → acted tries act ≡ tries
  acted_refused tries (Insert i key value) refused = changed_fixed i (written (λ map. finite.insert map key value)) tries
      (stays_refused (λ map. finite.insert map key value) (slice_get tries i) refused)
  acted_refused tries (Remove i key) refused = changed_fixed i (written (λ map. finite.remove map key)) tries
      (stays_refused (λ map. finite.remove map key) (slice_get tries i) refused)
  acted_refused tries (Clear i) refused = changed_fixed i (written (λ map. finite.empty)) tries
      (stays_refused (λ map. finite.empty) (slice_get tries i) refused)
  acted_refused tries (Snapshot i) refused = absurd (false≢true refused)
  acted_refused tries (ReadOnlySnapshot i) refused = absurd (false≢true refused)

  -- an act that was refused as its trie is read-only did all that it is to do
  pub refused_done : (refusal : Refusal) (tries new : List (Trie H V)) (act : Act V A) → refusal ≡ ReadOnly → new ≡ tries
      → (◌≡◌ {A = Result Bool Refusal} (Err refusal) (Err ReadOnly)) ↔ IsTrue (is_refused tries act) → new ≡ acted tries act
  refused_done refusal tries new act marked same exact = same ∙ sym (acted_refused tries act (exact.0 (ap Err marked)))

  act_grows : (tries : List (Trie H V)) (act : Act V A) → length tries ≤ length (acted tries act)
  act_grows tries (Insert i key value) = omega (arith, length_changed i (written (λ map. finite.insert map key value)) tries)
  act_grows tries (Remove i key) = omega (arith, length_changed i (written (λ map. finite.remove map key)) tries)
  act_grows tries (Clear i) = omega (arith, length_changed i (written (λ map. finite.empty)) tries)
  act_grows tries (Snapshot i) = omega (arith, length-append tries (as_list (slice_get tries i)))
  act_grows tries (ReadOnlySnapshot i) = omega (arith, length-append tries (as_list (option_map read_only (slice_get tries i))))

  act_other : (tries : List (Trie H V)) (act : Act V A) (i : ℕ) → i < length tries → ¬ (IsWriteAt i act) → slice_get (acted tries act) i ≡ slice_get tries i
  act_other tries (Insert j key value) i within other = get_other i j (written (λ map. finite.insert map key value)) tries other
  act_other tries (Remove j key) i within other = get_other i j (written (λ map. finite.remove map key)) tries other
  act_other tries (Clear j) i within other = get_other i j (written (λ map. finite.empty)) tries other
  act_other tries (Snapshot j) i within other = get_append tries (as_list (slice_get tries j)) i within
  act_other tries (ReadOnlySnapshot j) i within other = get_append tries (as_list (option_map read_only (slice_get tries j))) i within

  act_each : (tries : List (Trie H V)) (act : Act V A) (i : ℕ) → i < length tries
      → slice_get (acted tries act) i ≡ option_map (λ trie. after_act i trie act) (slice_get tries i)
  act_each tries (Insert j key value) i within = get_changed i j (written (λ map. finite.insert map key value)) tries
  act_each tries (Remove j key) i within = get_changed i j (written (λ map. finite.remove map key)) tries
  act_each tries (Clear j) i within = get_changed i j (written (λ map. finite.empty)) tries
  act_each tries (Snapshot j) i within = get_append tries (as_list (slice_get tries j)) i within ∙ sym (option_map_id (slice_get tries i))
  act_each tries (ReadOnlySnapshot j) i within = get_append tries (as_list (option_map read_only (slice_get tries j))) i within
      ∙ sym (option_map_id (slice_get tries i))

  act_marked : (tries : List (Trie H V)) (act : Act V A) (i : ℕ) (trie : Trie H V) → slice_get tries i ≡ Some trie → IsTrue trie.read_only
      → slice_get (acted tries act) i ≡ Some trie
  act_marked tries (Insert j key value) i trie there marked = get_fixed i j (written (λ map. finite.insert map key value)) tries trie there
      (written_marked (λ map. finite.insert map key value) trie marked)
  act_marked tries (Remove j key) i trie there marked = get_fixed i j (written (λ map. finite.remove map key)) tries trie there
      (written_marked (λ map. finite.remove map key) trie marked)
  act_marked tries (Clear j) i trie there marked = get_fixed i j (written (λ map. finite.empty)) tries trie there
      (written_marked (λ map. finite.empty) trie marked)
  act_marked tries (Snapshot j) i trie there marked = get_append tries (as_list (slice_get tries j)) i (slice_get_within tries i trie there) ∙ there
  act_marked tries (ReadOnlySnapshot j) i trie there marked = get_append tries (as_list (option_map read_only (slice_get tries j))) i
      (slice_get_within tries i trie there) ∙ there

  all_other : (acts : List (Act V A)) (tries : List (Trie H V)) (i : ℕ) → i < length tries → All (λ act. ¬ (IsWriteAt i act)) acts
      → slice_get (acted_all tries acts) i ≡ slice_get tries i
  all_other [] tries i within others = refl
  all_other (act ∷ acts) tries i within others =
      let grows = act_grows tries act in
      all_other acts (acted tries act) i (omega (arith, grows, within)) (All-tail (λ act. ¬ (IsWriteAt i act)) act acts others)
      ∙ act_other tries act i within (others 0 act (omega arith))

  all_each : (acts : List (Act V A)) (tries : List (Trie H V)) (i : ℕ) → i < length tries
      → slice_get (acted_all tries acts) i ≡ option_map (λ trie. fold (after_act i) trie acts) (slice_get tries i)
  all_each [] tries i within = sym (option_map_id (slice_get tries i))
  all_each (act ∷ acts) tries i within =
      let grows = act_grows tries act in
      all_each acts (acted tries act) i (omega (arith, grows, within))
      ∙ ap (option_map (λ trie. fold (after_act i) trie acts)) (act_each tries act i within)
      ∙ option_map_twice (λ trie. after_act i trie act) (λ trie. fold (after_act i) trie acts) (slice_get tries i)

  -- after a run each trie is what the writes at its index made of it since it was there
  pub each_written : (acts : List (Act V A)) (old new : List (Trie H V)) → new ≡ acted_all old acts → EachIsWritten old new acts
  each_written acts old new is first i within =
      ap (λ ts. slice_get ts i) (is ∙ ap (acted_all old) (sym (take-append-drop first acts)) ∙ fold-append acted old (take first acts) (drop first acts))
      ∙ all_each (drop first acts) (acted_all old (take first acts)) i within

  all_marked : (acts : List (Act V A)) (tries : List (Trie H V)) (i : ℕ) (trie : Trie H V) → slice_get tries i ≡ Some trie → IsTrue trie.read_only
      → slice_get (acted_all tries acts) i ≡ Some trie
  all_marked [] tries i trie there marked = there
  all_marked (act ∷ acts) tries i trie there marked = all_marked acts (acted tries act) i trie (act_marked tries act i trie there marked) marked

  -- after some first acts of a list, a trie that none of the list writes to is as it was
  pub others_stay : (acts rest all : List (Act V A)) (tries new : List (Trie H V)) → acts ++ rest ≡ all → new ≡ acted_all tries acts
      → (i : ℕ) → i < length tries → All (λ act. ¬ (IsWriteAt i act)) all → slice_get new i ≡ slice_get tries i
  others_stay acts rest all tries new parts is i within others =
      ap (λ ts. slice_get ts i) is ∙ all_other acts tries i within (All-front (λ act. ¬ (IsWriteAt i act)) acts rest all parts others)

  if_marked : (acts : List (Act V A)) (tries new : List (Trie H V)) (i : ℕ) (found : Option (Trie H V)) → slice_get tries i ≡ found → new ≡ acted_all tries acts
      → IfSome found (λ trie. IsTrue trie.read_only → slice_get new i ≡ Some trie)
  if_marked acts tries new i None there is = tt
  if_marked acts tries new i (Some trie) there is = λ marked. ap (λ ts. slice_get ts i) is ∙ all_marked acts tries i trie there marked

  -- and one that is read-only is as it was
  pub marked_stay : (acts : List (Act V A)) (tries new : List (Trie H V)) → new ≡ acted_all tries acts
      → (i : ℕ) → IfSome (slice_get tries i) (λ trie. IsTrue trie.read_only → slice_get new i ≡ Some trie)
  marked_stay acts tries new is i = if_marked acts tries new i (slice_get tries i) refl is

  pub one_more : (acts : List (Act V A)) (act : Act V A) (tries now new : List (Trie H V)) → now ≡ acted_all tries acts → new ≡ acted now act
      → new ≡ acted_all tries (acts ++ act ∷ [])
  one_more acts act tries now new is step = step ∙ ap (λ ts. acted ts act) is ∙ sym (fold_push acted tries acts act)

  -- the acts before one for which memory was refused
  pub stopped : (acts : List (Act V A)) (act : Act V A) (rest more all : List (Act V A)) (tries now new : List (Trie H V)) (done : ℕ)
      → acts ++ more ≡ all → more ≡ act ∷ rest → now ≡ acted_all tries acts → done ≡ length acts → new ≡ now
      → (done < length all) × (new ≡ acted_all tries (take done all))
  stopped acts act rest more all tries now new done parts next is count same =
      let sum = length-append acts more in
      let whole = ap length parts in
      let some = ap length next in (
        omega (arith, sum, whole, some, count),
        same ∙ is ∙ ap (acted_all tries) (sym (ap (λ n. take n all) count ∙ (ap (take (length acts)) (sym parts) ∙ take_front acts more))),
      )

  -- each trie after the acts that were carried out before one for which memory was refused
  pub stopped_each : (acts : List (Act V A)) (act : Act V A) (rest more all : List (Act V A)) (tries now new : List (Trie H V)) (done : ℕ)
      → acts ++ more ≡ all → more ≡ act ∷ rest → now ≡ acted_all tries acts → done ≡ length acts → new ≡ now → EachIsWritten tries new (take done all)
  stopped_each acts act rest more all tries now new done parts next is count same =
      each_written (take done all) tries new (stopped acts act rest more all tries now new done parts next is count same).1

  -- and after all of them
  pub ended_each : (acts more all : List (Act V A)) (tries new : List (Trie H V)) → acts ++ more ≡ all → more ≡ [] → new ≡ acted_all tries acts
      → EachIsWritten tries new all
  ended_each acts more all tries new parts none is =
      each_written all tries new (is ∙ ap (acted_all tries) (sym (append-nil acts) ∙ ap (λ m. acts ++ m) (sym none) ∙ parts))

  -- one more act was carried out
  pub goes_on : (acts : List (Act V A)) (act : Act V A) (rest more all : List (Act V A)) (tries now new : List (Trie H V)) (done : ℕ)
      → acts ++ more ≡ all → more ≡ act ∷ rest → now ≡ acted_all tries acts → done ≡ length acts → new ≡ acted now act
      → (acts ++ act ∷ [] ++ rest ≡ all) × (new ≡ acted_all tries (acts ++ act ∷ [])) × (done + 1 ≡ length (acts ++ act ∷ []))
  goes_on acts act rest more all tries now new done parts next is count step = (
    append_assoc acts (act ∷ []) rest ∙ ap (λ ys. acts ++ ys) (sym next) ∙ parts,
    one_more acts act tries now new is step,
    omega (arith, count, length-append acts (act ∷ [])),
  )
