-- A write at one trie of a list.
use Rattle.std.specs.Prelude.{◌≡◌, ◌<◌, ◌≤◌, ◌↔◌, ℕ, zero, suc, Bool, true, false, IsTrue, List, [], ◌∷◌, length, refl, Result, Ok, Err, cond, slice_get, is_ok}
use Rattle.std.proofs.Common.{arith, get_or, set, ap, sym, ◌∙◌}
use Rattle.std.specs.FinMap as finite
use Rattle.std.proofs.lemmas.Option.{slice_get-get_or}
use Rattle.std.proofs.lemmas.Bool.{false≢true}
use Rattle.dots.specs.declared.refusal.Refusal.{Refusal}
use Rattle.dots.specs.declared.refusal.Refusal.TheVariants.{OutOfMemory, ReadOnly}
use Rattle.dots.specs.Bytes.{bytes_cmp}
use Rattle.ctrie_api.specs.Trie.{Trie}
use Rattle.ctrie_api.specs.Run.{changed_at, written, takes_no_write}

module _ {X : Type 0} where
  -- an index past the end changes nothing
  pub changed_past : (i : ℕ) (f : X → X) (xs : List X) → length xs ≤ i → xs ≡ changed_at i f xs
  changed_past i f [] past = refl
  changed_past zero f (x ∷ xs) past = absurd (omega (arith, past))
  changed_past (suc i) f (x ∷ xs) past = ap (λ ys. x ∷ ys) (changed_past i f xs (omega (arith, past)))

  changed_set : (i : ℕ) (f : X → X) (xs : List X) (d new : X) → i < length xs → new ≡ f (get_or xs i d) → set xs i new ≡ changed_at i f xs
  changed_set i f [] d new within is = absurd (omega (arith, within))
  changed_set zero f (y ∷ ys) d new within is = ap (λ z. z ∷ ys) is
  changed_set (suc i) f (y ∷ ys) d new within is = ap (λ zs. y ∷ zs) (changed_set i f ys d new (omega (arith, within)) is)

  cond_off : (b : Bool) (x y : X) → ¬ (IsTrue b) → cond b x y ≡ y
  cond_off true x y off = absurd (off refl)
  cond_off false x y off = refl

module _ {H V : Type 0} (tries : List (Trie H V)) (i : ℕ) (trie : Trie H V) (there : trie ≡ get_or tries i trie) (within : i < length tries) where
  -- a trie that takes writes was written, and is put back
  pub write_done : (change : finite.FinMap bytes_cmp V → finite.FinMap bytes_cmp V) (new : Trie H V)
      → ¬ (IsTrue trie.read_only) → new ≡ record trie { map = change trie.map } → set tries i new ≡ changed_at i (written change) tries
  write_done change new writable is =
      changed_set i (written change) tries trie new within
      (is ∙ sym (cond_off trie.read_only trie (record trie { map = change trie.map }) writable) ∙ ap (written change) there)

  marked : takes_no_write (slice_get tries i) ≡ trie.read_only
  marked = ap takes_no_write (slice_get-get_or tries i trie within) ∙ ap (λ t. t.read_only) (sym there)

-- the refusal that a result is, if it is one
abbrev refusal_in : {T : Type 0} → Result T Refusal → Refusal
refusal_in (Ok x) = OutOfMemory
refusal_in (Err refusal) = refusal

pub ok_not_err : {T : Type 0} (x : T) (refusal : Refusal) → ¬ (◌≡◌ {A = Result T Refusal} (Ok x) (Err refusal))
ok_not_err x refusal same = false≢true (sym (ap is_ok same))

-- a write that was done was at a trie that takes writes
pub writable_there : {T : Type 0} (b : Bool) (x : T) → (◌≡◌ {A = Result T Refusal} (Ok x) (Err ReadOnly)) ↔ IsTrue b → ¬ (IsTrue b)
writable_there b x exact so = ok_not_err x ReadOnly (exact.1 so)

module _ {H V T : Type 0} (S : Type 0) (tries : List (Trie H V)) (i : ℕ) (trie : Trie H V) (there : trie ≡ get_or tries i trie)
    (within : i < length tries) where
  pub ok_clause : (x : T) (y : S) → (◌≡◌ {A = Result T Refusal} (Ok x) (Err ReadOnly)) ↔ IsTrue trie.read_only
      → (◌≡◌ {A = Result S Refusal} (Ok y) (Err ReadOnly)) ↔ IsTrue (takes_no_write (slice_get tries i))
  ok_clause x y exact =
      (λ bad. absurd (ok_not_err y ReadOnly bad), λ t. absurd (ok_not_err x ReadOnly (exact.1 (sym (marked tries i trie there within) ∙ t))))

  -- and one that was refused is refused alike
  pub err_clause : (refusal : Refusal) → (◌≡◌ {A = Result T Refusal} (Err refusal) (Err ReadOnly)) ↔ IsTrue trie.read_only
      → (◌≡◌ {A = Result S Refusal} (Err refusal) (Err ReadOnly)) ↔ IsTrue (takes_no_write (slice_get tries i))
  err_clause refusal exact = (
    λ same. marked tries i trie there within ∙ exact.0 (ap Err (ap refusal_in same)),
    λ t. ap Err (ap refusal_in (exact.1 (sym (marked tries i trie there within) ∙ t))),
  )
