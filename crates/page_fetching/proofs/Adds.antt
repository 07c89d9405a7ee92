-- One dot of a page: by what is held there where it was seen, and else by the next of the values sent.
use Rattle.std.proofs.Common.{◌≡◌, ◌≢◌, ℕ, List, [], ◌∷◌, ◌++◌, append-nil, Bool, true, false, arith, cond, Some, None, refl, sym, ◌∙◌, ap, subst}
use Rattle.std.proofs.lemmas.Bool.Decides.{nat_tests}
use Rattle.std.specs.Prelude.{Option}
use Rattle.dots.specs.Dot.{DotValue, same_dot}
use Rattle.causal_join.specs.OrMap.{ValuesValue, FieldsValue}
use Rattle.dot_store.specs.Store.{HasNothing}
use Rattle.dot_store.specs.Stores.{at_values, NoKeyIsEmpty}
use Rattle.std.specs.List.{AllByRecursion}
use Rattle.std.specs.Map.{values_of}
use Rattle.std.proofs.lemmas.List.Elements.{All-from_recursion}
use Rattle.page_fetching.proofs.Picks.{Each}
use Rattle.page_fetching.proofs.Dots.{IsSome}
use Rattle.sync_model.specs.Filled.{Made, made_map, checked, fill_seen, fill_unseen, then_fields, then_entries}
use Rattle.sync_model.specs.Opened.{with_values}
use Rattle.page_fetching.specs.Adding.{AddsPart, fill_dot}

module _ (seen : DotValue → Bool) (held : DotValue → Option (List ℕ)) (n : DotValue × List ℕ) where
  -- what the checked value adds, whatever values are left
  abbrev pub AddsChecked : List ℕ → ValuesValue → ValuesValue → Bool → Type 0
  AddsChecked v old new right = (left : List (List ℕ)) → AddsPart right old new (λ rest. checked n.0 n.1 v (rest left)) left

  pub as_held : (v : List ℕ) (old new : ValuesValue) (sent : List (List ℕ)) → seen n.0 ≡ true → held n.0 ≡ Some v
      → (right : Bool) → AddsChecked v old new right → AddsPart right old new (fill_dot seen held n sent) sent
  as_held v old new sent s h right adds = subst (λ part. AddsPart right old new part sent) same (adds sent)
    where
      same : (λ rest. checked n.0 n.1 v (rest sent)) ≡ fill_dot seen held n sent
      same = λ i rest. cond (sym s i) (fill_seen n.0 n.1 (sym h i) rest sent) (fill_unseen n.0 n.1 rest sent)

  pub as_sent : (v : List ℕ) (old new : ValuesValue) (sent left : List (List ℕ)) → seen n.0 ≡ false → sent ≡ v ∷ left
      → (right : Bool) → AddsChecked v old new right → AddsPart right old new (fill_dot seen held n sent) left
  as_sent v old new sent left s is right adds = subst (λ part. AddsPart right old new part left) same (adds left)
    where
      same : (λ rest. checked n.0 n.1 v (rest left)) ≡ fill_dot seen held n sent
      same = λ i rest. cond (sym s i) (fill_seen n.0 n.1 (held n.0) rest sent) (fill_unseen n.0 n.1 rest (sym is i))

-- one field of a page, of what its values came to
module _ (field : List ℕ) (m : Made ValuesValue) where
  pub no_values : None ≡ m → (rest : List (List ℕ) → Made FieldsValue) → then_fields field rest m ≡ None
  no_values e rest = ap (then_fields field rest) (sym e)

  pub empty_values : (vs : ValuesValue) (old new : FieldsValue) (left : List (List ℕ)) → Some (vs, left) ≡ m → vs ≡ [] → new ≡ old
      → AddsPart true old new (λ rest. then_fields field rest m) left
  empty_values vs old new left e none same = (
    [],
    same ∙ sym (append-nil old),
    λ rest. ap (then_fields field rest) (sym e)
        ∙ ap (λ l. made_map (with_values field l) (rest left)) none,
  )

  with_some : (vs : ValuesValue) → vs ≢ [] → with_values field vs ≡ (λ xs. ((field, vs) ∷ []) ++ xs)
  with_some [] some = absurd (some refl)
  with_some (v ∷ vs) some = refl

  pub some_values : (vs : ValuesValue) (old new : FieldsValue) (left : List (List ℕ)) → Some (vs, left) ≡ m → vs ≢ [] → new ≡ old ++ (field, vs) ∷ []
      → AddsPart true old new (λ rest. then_fields field rest m) left
  some_values vs old new left e some put = (
    (field, vs) ∷ [],
    put,
    λ rest. ap (then_fields field rest) (sym e)
        ∙ ap (λ f. made_map f (rest left)) (with_some vs some),
  )

-- one key of a page, of what its fields came to
module _ (key : List ℕ) (m : Made FieldsValue) where
  pub no_fields : None ≡ m → (rest : List (List ℕ) → Made (List (List ℕ × FieldsValue))) → then_entries key rest m ≡ None
  no_fields e rest = ap (then_entries key rest) (sym e)

  pub some_fields : (fs : FieldsValue) (old new : List (List ℕ × FieldsValue)) (left : List (List ℕ)) → Some (fs, left) ≡ m → new ≡ old ++ (key, fs) ∷ []
      → AddsPart true old new (λ rest. then_entries key rest m) left
  some_fields fs old new left e put = ((key, fs) ∷ [], put, λ rest. ap (then_entries key rest) (sym e))

-- a field in which nothing is held has no values
same_itself : (d : DotValue) → same_dot d d ≡ true
same_itself d = grind (arith, nat_tests)

pub nothing_held : (vs : ValuesValue) → HasNothing (at_values vs) → vs ≡ []
unfolding at_values
nothing_held [] none = refl
nothing_held (v ∷ vs) none = absurd (let held : Some v.1 ≡ None = (λ i. cond (sym (same_itself v.0) i) (Some v.1) (at_values vs tt v.0)) ∙ none tt v.0 in cc)

pub held_nowhere : (vs : ValuesValue) → vs ≡ [] → HasNothing (at_values vs)
unfolding at_values
held_nowhere vs none place d = ap (λ l. at_values l place d) none

-- what is held at a field is told of the field alone
pub same_held : (f : (DotValue → Option (List ℕ)) → Made ValuesValue) (m : Made ValuesValue) (here there : DotValue → Option (List ℕ))
    → ((d : DotValue) → here d ≡ there d) → m ≡ f here → m ≡ f there
same_held f m here there same is = is ∙ (λ i. f (λ d. same d i))

-- fields that each hold a value are of a map in which no key is empty
some_held : (vs : ValuesValue) → vs ≢ [] → ¬ HasNothing (at_values vs)
some_held vs some none = some (nothing_held vs none)

each_held : (fs : FieldsValue) → Each IsSome fs → AllByRecursion (λ store. ¬ HasNothing (at_values store)) (values_of fs)
each_held [] all = tt
each_held (f ∷ fs) all = (some_held f.1 all.0, each_held fs all.1)

pub no_field_is_empty : (fs : FieldsValue) → Each IsSome fs → NoKeyIsEmpty at_values fs
no_field_is_empty fs all = All-from_recursion (λ store. ¬ HasNothing (at_values store)) (values_of fs) (each_held fs all)

-- a page of one key
pub one_key : (key : List ℕ) (fill : List (List ℕ) → Made FieldsValue) (sent left : List (List ℕ)) (new none : List (List ℕ × FieldsValue)) → none ≡ []
    → (right : Bool) → right ≡ true
    → AddsPart right none new (λ rest. then_entries key rest (fill sent)) left → Some (new, left) ≡ then_entries key (λ sent. Some ([], sent)) (fill sent)
one_key key fill sent left new none is right is_right adds =
    step (subst (λ l. AddsPart true l new (λ rest. then_entries key rest (fill sent)) left) is
    (subst (λ b. AddsPart b none new (λ rest. then_entries key rest (fill sent)) left) is_right adds))
  where
    step : AddsPart true [] new (λ rest. then_entries key rest (fill sent)) left → Some (new, left) ≡ then_entries key (λ sent. Some ([], sent)) (fill sent)
    step (more, put, made) = ap (λ l. Some (l, left)) (put ∙ sym (append-nil more)) ∙ sym (made (λ sent. Some ([], sent)))
