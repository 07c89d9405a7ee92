-- Own sessions that are found, that go on at their places, and that are taken out there.
use Rattle.std.proofs.Common.{◌≡◌, ◌≢◌, ℕ, zero, suc, ◌<◌, List, [], ◌∷◌, Bool, true, false, Option, Some, None, cond, not, set, arith, refl, sym, ap, ◌∙◌}
use Rattle.std.proofs.Common.{subst, Less}
use Rattle.std.specs.Prelude.{map, ◌==◌}
use Rattle.std.specs.List.{find, slice_get, remove, AllByRecursion}
use Rattle.std.specs.List.Sorted.{IsStrictlySortedBy}
use Rattle.std.specs.Ordering.{nat_cmp}
use Rattle.hash_path.proofs.Orders.{less}
use Rattle.wire_form.specs.Session.{SessionValue, same_session}
use Rattle.sync_protocol.specs.Asking.{AskerValue}
use Rattle.replica_model.specs.Replica.{Open, open_at, open_numbered, advanced, without_session}
use Rattle.replica_model.proofs.Found.{same_is_one, one_is_same}
use Rattle.replica_core.specs.Meaning.{open_of}
use Rattle.replica_core.specs.Tied.{IsFirstAt, NoneIs, AreApart, OpensAreFound, OpensAreMissed, NumbersAreFound, NumbersAreMissed, AdvancesInPlace}
use Rattle.replica_core.specs.Tied.{ClosesInPlace}

-- ---- who is found

module _ {Hash : Type 0} (test : AskerValue Hash → Bool) where
  pub first_found : (list : List (AskerValue Hash)) (i : ℕ) (a : AskerValue Hash) → IsFirstAt test list i a → find test list ≡ Some a
  first_found [] i a f = absurd cc
  first_found (x ∷ xs) zero a f =
      let one : x ≡ a = cc in
      ap (λ b. cond b (Some x) (find test xs)) (ap test one ∙ f.1) ∙ ap (λ y. Some y) one
  first_found (x ∷ xs) (suc i) a f =
      ap (λ b. cond b (Some x) (find test xs)) (f.2 0 x (omega arith) refl)
      ∙ first_found xs i a (f.0, f.1, λ j b h. f.2 (suc j) b (omega (arith, h)))

  pub none_found : (list : List (AskerValue Hash)) → NoneIs test list → find test list ≡ None
  none_found [] f = refl
  none_found (x ∷ xs) f = ap (λ b. cond b (Some x) (find test xs)) (f 0 x refl) ∙ none_found xs (λ j. f (suc j))

-- what is found of a list that is made of another
opened : {Hash : Type 0} → Option (AskerValue Hash) → Option Open
opened None = None
opened (Some a) = Some (open_of a)

opened_either : {Hash : Type 0} (b : Bool) (x : AskerValue Hash) (o : Option Open) (p : Option (AskerValue Hash)) → o ≡ opened p
    → cond b (Some (open_of x)) o ≡ opened (cond b (Some x) p)
unfolding opened
opened_either true x o p e = refl
opened_either false x o p e = e

module _ {Hash : Type 0} where
  at_found : (list : List (AskerValue Hash)) (s : SessionValue) → open_at (map open_of list) s
      ≡ opened (find (λ b. same_session b.session s) list)
  unfolding opened
  at_found [] s = refl
  at_found (x ∷ xs) s = opened_either (same_session x.session s) x (open_at (map open_of xs) s) (find (λ b. same_session b.session s) xs) (at_found xs s)

  numbered_found : (list : List (AskerValue Hash)) (number : ℕ) → open_numbered (map open_of list) number
      ≡ opened (find (λ b. b.session.number == number) list)
  unfolding opened
  numbered_found [] number = refl
  numbered_found (x ∷ xs) number =
      opened_either (x.session.number == number) x (open_numbered (map open_of xs) number) (find (λ b. b.session.number == number) xs)
      (numbered_found xs number)

  pub found_tied : OpensAreFound Hash
  unfolding opened
  found_tied list s i a f = at_found list s ∙ ap opened (first_found (λ b. same_session b.session s) list i a f)

  pub none_tied : OpensAreMissed Hash
  unfolding opened
  none_tied list s f = at_found list s ∙ ap opened (none_found (λ b. same_session b.session s) list f)

  pub numbered_tied : NumbersAreFound Hash
  unfolding opened
  numbered_tied list number i a f = numbered_found list number ∙ ap opened (first_found (λ b. b.session.number == number) list i a f)

  pub none_numbered_tied : NumbersAreMissed Hash
  unfolding opened
  none_numbered_tied list number f = numbered_found list number ∙ ap opened (none_found (λ b. b.session.number == number) list f)

-- ---- sessions whose numbers are apart

pub numbers_apart : (s t : SessionValue) → s.number ≢ t.number → same_session s t ≡ false
numbers_apart s t apart = step (same_session s t) refl
  where
    step : (b : Bool) → same_session s t ≡ b → b ≡ false
    step true e = absurd (apart (ap (λ u. u.number) (same_is_one s t e)))
    step false e = refl

module _ {Hash : Type 0} where
  abbrev numbers : List (AskerValue Hash) → List ℕ
  numbers list = map (λ a. a.session.number) list

  abbrev AllAbove : ℕ → List (AskerValue Hash) → Type 0
  AllAbove n list = AllByRecursion (λ y. nat_cmp n y ≡ Less) (numbers list)

  abbrev AllOther : SessionValue → List (AskerValue Hash) → Type 0
  AllOther s list = AllByRecursion (λ a. same_session a.session s ≡ false) list

  apart_head : (x : AskerValue Hash) (xs : List (AskerValue Hash)) → AreApart (x ∷ xs) → AllAbove x.session.number xs
  unfolding IsStrictlySortedBy
  apart_head x xs h = h.0

  apart_tail : (x : AskerValue Hash) (xs : List (AskerValue Hash)) → AreApart (x ∷ xs) → AreApart xs
  unfolding IsStrictlySortedBy
  apart_tail x xs h = h.1

  -- those above a number are of other sessions than one of this number
  all_other : (n : ℕ) (list : List (AskerValue Hash)) (s : SessionValue) → s.number ≡ n → AllAbove n list → AllOther s list
  all_other n [] s is above = tt
  all_other n (x ∷ xs) s is above =
      (numbers_apart x.session s (λ e. let h = less n x.session.number above.0 in absurd (omega (arith, h, e, is))), all_other n xs s is above.1)

  above_at : (n : ℕ) (list : List (AskerValue Hash)) (i : ℕ) (a : AskerValue Hash) → AllAbove n list → slice_get list i ≡ Some a
      → n < a.session.number
  above_at n [] i a above e = absurd cc
  above_at n (x ∷ xs) zero a above e = let one : x ≡ a = cc in subst (λ y. n < y.session.number) one (less n x.session.number above.0)
  above_at n (x ∷ xs) (suc i) a above e = above_at n xs i a above.1 e

  rest_stays : (b : AskerValue Hash) (list : List (AskerValue Hash)) → AllOther b.session list
      → advanced (open_of b) (map open_of list) ≡ map open_of list
  rest_stays b [] other = refl
  rest_stays b (x ∷ xs) other = λ i. cond (other.0 i) (open_of b) (open_of x) ∷ rest_stays b xs other.1 i

  rest_kept : (s : SessionValue) (list : List (AskerValue Hash)) → AllOther s list → without_session s (map open_of list) ≡ map open_of list
  rest_kept s [] other = refl
  rest_kept s (x ∷ xs) other = λ i. cond (not (other.0 i)) (open_of x ∷ rest_kept s xs other.1 i) (rest_kept s xs other.1 i)

  -- the one before a place is of another session than the one there
  before : (x : AskerValue Hash) (xs : List (AskerValue Hash)) (i : ℕ) (a : AskerValue Hash) (s : SessionValue) → AreApart (x ∷ xs)
      → slice_get xs i ≡ Some a → s ≡ a.session
      → same_session x.session s ≡ false
  before x xs i a s apart e is =
      let h = above_at x.session.number xs i a (apart_head x xs apart) e in
      let n = ap (λ (u : SessionValue). u.number) is in
      numbers_apart x.session s (λ g. absurd (omega (arith, h, n, g)))

  advances_there : (list : List (AskerValue Hash)) (i : ℕ) (a b : AskerValue Hash) → AreApart list → slice_get list i ≡ Some a
      → b.session ≡ a.session
      → advanced (open_of b) (map open_of list) ≡ map open_of (set list i b)
  advances_there [] i a b apart e is = absurd cc
  advances_there (x ∷ xs) zero a b apart e is =
      let one : x ≡ a = cc in
      let same : b.session ≡ x.session = is ∙ ap (λ (y : AskerValue Hash). y.session) (sym one) in
      let rest = rest_stays b xs (all_other x.session.number xs b.session (ap (λ (u : SessionValue). u.number) same) (apart_head x xs apart)) in
      λ j. cond (one_is_same x.session b.session (sym same) j) (open_of b) (open_of x) ∷ rest j
  advances_there (x ∷ xs) (suc i) a b apart e is =
      λ j. cond (before x xs i a b.session apart e is j) (open_of b) (open_of x) ∷ advances_there xs i a b (apart_tail x xs apart) e is j

  closes_there : (list : List (AskerValue Hash)) (i : ℕ) (a : AskerValue Hash) → AreApart list → slice_get list i ≡ Some a
      → without_session a.session (map open_of list) ≡ map open_of (remove list i)
  closes_there [] i a apart e = absurd cc
  closes_there (x ∷ xs) zero a apart e =
      let one : x ≡ a = cc in
      let same : a.session ≡ x.session = ap (λ (y : AskerValue Hash). y.session) (sym one) in
      let rest = rest_kept a.session xs (all_other x.session.number xs a.session (ap (λ (u : SessionValue). u.number) same) (apart_head x xs apart)) in
      (λ j. cond (not (one_is_same x.session a.session (sym same) j)) (open_of x ∷ without_session a.session (map open_of xs))
      (without_session a.session (map open_of xs))) ∙ rest
  closes_there (x ∷ xs) (suc i) a apart e =
      let rest = closes_there xs i a (apart_tail x xs apart) e in
      λ j. cond (not (before x xs i a a.session apart e refl j)) (open_of x ∷ rest j) (rest j)

  numbers_set : (list : List (AskerValue Hash)) (i : ℕ) (a b : AskerValue Hash) → slice_get list i ≡ Some a → b.session ≡ a.session
      → numbers (set list i b) ≡ numbers list
  numbers_set [] i a b e is = absurd cc
  numbers_set (x ∷ xs) zero a b e is =
      let one : x ≡ a = cc in
      ap (λ (u : SessionValue). u.number ∷ numbers xs) (is ∙ ap (λ (y : AskerValue Hash). y.session) (sym one))
  numbers_set (x ∷ xs) (suc i) a b e is = ap (λ ns. x.session.number ∷ ns) (numbers_set xs i a b e is)

  removed_above : (n : ℕ) (list : List (AskerValue Hash)) (i : ℕ) → AllAbove n list → AllAbove n (remove list i)
  removed_above n [] zero above = tt
  removed_above n [] (suc i) above = tt
  removed_above n (x ∷ xs) zero above = above.1
  removed_above n (x ∷ xs) (suc i) above = (above.0, removed_above n xs i above.1)

  removed_apart : (list : List (AskerValue Hash)) (i : ℕ) → AreApart list → AreApart (remove list i)
  unfolding IsStrictlySortedBy
  removed_apart [] zero apart = tt
  removed_apart [] (suc i) apart = tt
  removed_apart (x ∷ xs) zero apart = apart.1
  removed_apart (x ∷ xs) (suc i) apart = (removed_above x.session.number xs i apart.0, removed_apart xs i apart.1)

  pub advances_tied : AdvancesInPlace Hash
  advances_tied list i a b apart e is = (advances_there list i a b apart e is, subst (IsStrictlySortedBy nat_cmp) (sym (numbers_set list i a b e is)) apart)

  pub closes_tied : ClosesInPlace Hash
  closes_tied list i a apart e = (closes_there list i a apart e, removed_apart list i apart)
