-- The list of the snapshots that are kept: who is found in it, and how long it is.
use Rattle.std.proofs.Common.{◌≡◌, ℕ, ◌+◌, ◌<◌, ◌≤◌, nat_lt, List, [], ◌∷◌, ◌++◌, length, Bool, true, false, cond, Some, None, arith, refl, sym, ◌∙◌, ap, subst}
use Rattle.std.proofs.Common.{length-append}
use Rattle.std.specs.Prelude.{Option, ◌&&◌}
use Rattle.std.specs.List.{All, remove}
use Rattle.std.specs.Map.{lookup}
use Rattle.std.proofs.lemmas.Bool.{ltb-true, eq-eqb}
use Rattle.std.proofs.lemmas.List.Elements.{All-nil, All-cons, All-tail, All-append}
use Rattle.wire_form.specs.Message.{MessageValue}
use Rattle.wire_form.specs.Session.{SessionValue, same_session}
use Rattle.sync_protocol.specs.Snapshot.{SnapshotValue, KeptValue}
use Rattle.sync_protocol.specs.Answering.{LIMIT, snapshot_of, all_but_first, with_place, keeping, kept_with, kept_after, told_with, told_of, page_of}
use Rattle.sync_protocol.specs.Answering.{answer_with, answer_of}

pub same_itself : (s : SessionValue) → same_session s s ≡ true
same_itself s = (λ i. eq-eqb s.asker s.asker refl i && (eq-eqb s.answerer s.answerer refl i && eq-eqb s.number s.number refl i))

-- ---- who is found

module _ {K X : Type 0} (test : K → Bool) where
  -- behind entries none of which passes
  lookup_behind : (es fs : List (K × X)) → lookup test es ≡ None → lookup test (es ++ fs) ≡ lookup test fs
  lookup_behind [] fs none = refl
  lookup_behind (e ∷ es) fs none = step (test e.0) none (lookup_behind es fs)
    where
      step : (b : Bool) → cond b (Some e.1) (lookup test es) ≡ None → (lookup test es ≡ None → lookup test (es ++ fs) ≡ lookup test fs)
          → cond b (Some e.1) (lookup test (es ++ fs)) ≡ lookup test fs
      step true none further = absurd cc
      step false none further = further none

  lookup_fewer : (e : K × X) (es : List (K × X)) → lookup test (e ∷ es) ≡ None → lookup test es ≡ None
  lookup_fewer e es none = step (test e.0) none
    where
      step : (b : Bool) → cond b (Some e.1) (lookup test es) ≡ None → lookup test es ≡ None
      step true none = absurd cc
      step false none = none

module _ {Hash : Type 0} where
  none_shorter : (kept : KeptValue Hash) (s : SessionValue) → snapshot_of kept s ≡ None → snapshot_of (all_but_first kept) s ≡ None
  none_shorter [] s none = none
  none_shorter (k ∷ ks) s none = lookup_fewer (same_session s) k ks none

  -- a place is made among others
  pub none_placed : (kept : KeptValue Hash) (s : SessionValue) → snapshot_of kept s ≡ None → snapshot_of (with_place kept) s ≡ None
  none_placed kept s none = step (nat_lt (length kept) LIMIT)
    where
      step : (b : Bool) → snapshot_of (cond b kept (all_but_first kept)) s ≡ None
      step true = none
      step false = none_shorter kept s none

  -- what was just kept is found
  new_found : (kept : KeptValue Hash) (s : SessionValue) (new : SnapshotValue Hash) → snapshot_of kept s ≡ None → snapshot_of (keeping s new kept) s ≡ Some new
  new_found kept s new none =
      lookup_behind (same_session s) (with_place kept) ((s, new) ∷ []) (none_placed kept s none) ∙ ap (λ b. cond b (Some new) None) (same_itself s)

  pub told_found : (kept : KeptValue Hash) (s : SessionValue) (new : SnapshotValue Hash) → snapshot_of (kept_after kept s new) s ≡ Some (told_of kept s new)
  told_found kept s new = step (snapshot_of kept s) refl
    where
      step : (o : Option (SnapshotValue Hash)) → snapshot_of kept s ≡ o → snapshot_of (kept_with s new kept o) s ≡ Some (told_with new o)
      step None none = new_found kept s new none
      step (Some k) found = found

  -- the oldest is taken out
  pub first_out : (kept : KeptValue Hash) → remove kept 0 ≡ all_but_first kept
  first_out [] = refl
  first_out (k ∷ ks) = refl

  -- ---- how many there are

  one_fewer : (kept : KeptValue Hash) → length kept ≤ LIMIT → length (all_but_first kept) < LIMIT
  one_fewer [] few = omega arith
  one_fewer (k ∷ ks) few = omega (arith, few)

  few_placed : (kept : KeptValue Hash) → length kept ≤ LIMIT → length (with_place kept) < LIMIT
  few_placed kept few = step (nat_lt (length kept) LIMIT) refl
    where
      step : (b : Bool) → nat_lt (length kept) LIMIT ≡ b → length (cond b kept (all_but_first kept)) < LIMIT
      step true is = ltb-true (length kept) LIMIT is
      step false is = one_fewer kept few

  pub few_kept : (kept : KeptValue Hash) (s : SessionValue) (new : SnapshotValue Hash) → length kept ≤ LIMIT → length (keeping s new kept) ≤ LIMIT
  few_kept kept s new few =
      let placed = few_placed kept few in
      let long = length-append (with_place kept) ((s, new) ∷ []) in
      omega (arith, placed, long)

  pub few_after : (kept : KeptValue Hash) (s : SessionValue) (new : SnapshotValue Hash) → length kept ≤ LIMIT → length (kept_after kept s new) ≤ LIMIT
  few_after kept s new few = step (snapshot_of kept s)
    where
      step : (o : Option (SnapshotValue Hash)) → length (kept_with s new kept o) ≤ LIMIT
      step None = few_kept kept s new few
      step (Some k) = few

  -- ---- what holds of each

  module _ (P : SnapshotValue Hash → Type 0) where
    all_shorter : (kept : KeptValue Hash) → All (λ e. P e.1) kept → All (λ e. P e.1) (all_but_first kept)
    all_shorter [] all = all
    all_shorter (k ∷ ks) all = All-tail (λ e. P e.1) k ks all

    all_kept : (kept : KeptValue Hash) (s : SessionValue) (new : SnapshotValue Hash) → All (λ e. P e.1) kept → P new → All (λ e. P e.1) (keeping s new kept)
    all_kept kept s new all here =
        All-append (λ e. P e.1) (with_place kept) ((s, new) ∷ []) (step (nat_lt (length kept) LIMIT))
        (All-cons (λ e. P e.1) (s, new) [] here (All-nil (λ e. P e.1)))
      where
        step : (b : Bool) → All (λ e. P e.1) (cond b kept (all_but_first kept))
        step true = all
        step false = all_shorter kept all

    found_has : (kept : KeptValue Hash) (s : SessionValue) (k : SnapshotValue Hash) → All (λ e. P e.1) kept → snapshot_of kept s ≡ Some k → P k
    found_has [] s k all found = absurd cc
    found_has (e ∷ es) s k all found = step (same_session s e.0) found (found_has es s k (All-tail (λ e. P e.1) e es all))
      where
        step : (b : Bool) → cond b (Some e.1) (snapshot_of es s) ≡ Some k → (snapshot_of es s ≡ Some k → P k) → P k
        step true found further = let same : e.1 ≡ k = cc in subst P same (all 0 e (omega arith))
        step false found further = further found

    pub all_after : (kept : KeptValue Hash) (s : SessionValue) (new : SnapshotValue Hash) → All (λ e. P e.1) kept → P new
        → All (λ e. P e.1) (kept_after kept s new) × P (told_of kept s new)
    all_after kept s new all here = step (snapshot_of kept s) refl
      where
        step : (o : Option (SnapshotValue Hash)) → snapshot_of kept s ≡ o → All (λ e. P e.1) (kept_with s new kept o) × P (told_with new o)
        step None none = (all_kept kept s new all here, here)
        step (Some k) found = (all, found_has kept s k all found)

  -- what holds of the snapshot that is found holds of the one that is told of
  pub told_is : (P : SnapshotValue Hash → Type 0) (kept : KeptValue Hash) (s : SessionValue) (new k : SnapshotValue Hash) → snapshot_of kept s ≡ Some k → P k
      → P (told_of kept s new)
  told_is P kept s new k found h = subst P (sym (ap (told_with new) found)) h

  -- and what holds of its page, of the answer
  pub answer_is : (hash_of : Hash → List ℕ → ℕ) (P : Option MessageValue → Type 0) (kept : KeptValue Hash) (s : SessionValue) (prefix : List ℕ)
      (k : SnapshotValue Hash) → snapshot_of kept s ≡ Some k
      → P (page_of hash_of s k prefix) → P (answer_of hash_of kept s prefix)
  answer_is hash_of P kept s prefix k found h = subst P (sym (ap (answer_with hash_of s prefix) found)) h
