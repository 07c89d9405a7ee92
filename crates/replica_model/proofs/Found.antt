-- Sessions that are found by their key, and what a change by key leaves.
use Rattle.std.proofs.Common.{◌≡◌, ◌≢◌, ◌⊎◌, inl, inr, List, [], ◌∷◌, ◌++◌, Bool, true, false, Some, None, cond, not, ◌&&◌, refl, sym, ap, ◌∙◌, subst, eqb-true}
use Rattle.std.proofs.Common.{eq-eqb}
use Rattle.std.specs.Prelude.{◌==◌, Contains, length, nat_lt}
use Rattle.std.proofs.lemmas.Bool.{false≢true}
use Rattle.std.proofs.lemmas.List.Elements.{Contains-append_cases}
use Rattle.op_model.proofs.Members.{nothing_in, at_head, in_tail, head_or_tail, from_map, from_filter}
use Rattle.wire_form.specs.Session.{SessionValue, same_session}
use Rattle.replica_model.specs.Replica.{Open, Kept, open_at, kept_at, advanced, without_session, LIMIT, all_but_first, keeping}
use Rattle.replica_model.specs.World.{changed}

-- ---- sessions that are one

and_left : (a b : Bool) → (a && b) ≡ true → a ≡ true
and_left true b e = refl
and_left false b e = e

and_right : (a b : Bool) → (a && b) ≡ true → b ≡ true
and_right true b e = e
and_right false b e = absurd (false≢true e)

both : (a b : Bool) → a ≡ true → b ≡ true → (a && b) ≡ true
both a b e f = ap (λ c. c && b) e ∙ f

pub same_is_one : (s t : SessionValue) → same_session s t ≡ true → s ≡ t
same_is_one s t e =
    let first = and_left (s.asker == t.asker) ((s.answerer == t.answerer) && (s.number == t.number)) e in
    let rest = and_right (s.asker == t.asker) ((s.answerer == t.answerer) && (s.number == t.number)) e in
    let second = and_left (s.answerer == t.answerer) (s.number == t.number) rest in
    let third = and_right (s.answerer == t.answerer) (s.number == t.number) rest in
    λ i. record { asker = eqb-true s.asker t.asker first i; answerer = eqb-true s.answerer t.answerer second i; number = eqb-true s.number t.number third i }

pub same_itself : (s : SessionValue) → same_session s s ≡ true
same_itself s = both (s.asker == s.asker) ((s.answerer == s.answerer) && (s.number == s.number)) (eq-eqb s.asker s.asker refl)
    (both (s.answerer == s.answerer) (s.number == s.number) (eq-eqb s.answerer s.answerer refl) (eq-eqb s.number s.number refl))

pub one_is_same : (s t : SessionValue) → s ≡ t → same_session s t ≡ true
one_is_same s t e = subst (λ u. same_session s u ≡ true) e (same_itself s)

-- sessions of two askers or of two answerers are two
not_same : (s t : SessionValue) (b : Bool) → same_session s t ≡ b → (s ≡ t → ⊥) → same_session s t ≡ false
not_same s t true e apart = absurd (apart (same_is_one s t e))
not_same s t false e apart = e

pub askers_apart : (s t : SessionValue) → s.asker ≢ t.asker → same_session s t ≡ false
askers_apart s t apart = not_same s t (same_session s t) refl (λ e. apart (ap (λ u. u.asker) e))

pub answerers_apart : (s t : SessionValue) → s.answerer ≢ t.answerer → same_session s t ≡ false
answerers_apart s t apart = not_same s t (same_session s t) refl (λ e. apart (ap (λ u. u.answerer) e))

-- ---- what is found is one of them, of that session

pub found_open : (os : List Open) (s : SessionValue) (o : Open) → open_at os s ≡ Some o → Contains os o × (o.session ≡ s)
found_open [] s o e = absurd cc
found_open (x ∷ os) s o e = step (same_session x.session s) refl e (found_open os s o)
  where
    step : (b : Bool) → same_session x.session s ≡ b → cond b (Some x) (open_at os s) ≡ Some o → (open_at os s ≡ Some o → Contains os o × (o.session ≡ s))
        → Contains (x ∷ os) o × (o.session ≡ s)
    step true same here rest = let one : x ≡ o = cc in (
      subst (λ y. Contains (x ∷ os) y) one (at_head x os),
      ap (λ (y : Open). y.session) (sym one)
          ∙ same_is_one x.session s same,
    )
    step false apart there rest = let found = rest there in (in_tail x os o found.0, found.1)

pub found_kept : (ks : List Kept) (s : SessionValue) (k : Kept) → kept_at ks s ≡ Some k → Contains ks k × (k.session ≡ s)
found_kept [] s k e = absurd cc
found_kept (x ∷ ks) s k e = step (same_session x.session s) refl e (found_kept ks s k)
  where
    step : (b : Bool) → same_session x.session s ≡ b → cond b (Some x) (kept_at ks s) ≡ Some k → (kept_at ks s ≡ Some k → Contains ks k × (k.session ≡ s))
        → Contains (x ∷ ks) k × (k.session ≡ s)
    step true same here rest = let one : x ≡ k = cc in (
      subst (λ y. Contains (x ∷ ks) y) one (at_head x ks),
      ap (λ (y : Kept). y.session) (sym one)
          ∙ same_is_one x.session s same,
    )
    step false apart there rest = let found = rest there in (in_tail x ks k found.0, found.1)

-- where none is found, each is of another session
pub none_kept : (ks : List Kept) (s : SessionValue) (k : Kept) → kept_at ks s ≡ None → Contains ks k → same_session k.session s ≡ false
none_kept [] s k e h = nothing_in k h
none_kept (x ∷ ks) s k e h = step (same_session x.session s) refl e (head_or_tail x ks k h) (none_kept ks s k)
  where
    step : (b : Bool) → same_session x.session s ≡ b → cond b (Some x) (kept_at ks s) ≡ None → (x ≡ k) ⊎ Contains ks k
        → (kept_at ks s ≡ None → Contains ks k → same_session k.session s ≡ false) → same_session k.session s ≡ false
    step true same e at rest = absurd cc
    step false apart e (inl one) rest = ap (λ (y : Kept). same_session y.session s) (sym one) ∙ apart
    step false apart e (inr there) rest = rest e there

-- ---- lists of sessions that changed

pub in_advanced : (next : Open) (os : List Open) (o : Open) → Contains (advanced next os) o → (o ≡ next)
    ⊎ (Contains os o × (same_session o.session next.session ≡ false))
in_advanced next os o h =
    let found = from_map (λ x. cond (same_session x.session next.session) next x) os o h in
    step found.0 (same_session found.0.session next.session) refl found.1 found.2
  where
    step : (x : Open) (b : Bool) → same_session x.session next.session ≡ b → Contains os x → cond b next x ≡ o → (o ≡ next)
        ⊎ (Contains os o × (same_session o.session next.session ≡ false))
    step x true same there e = inl (sym e)
    step x false apart there e = inr (subst (λ y. Contains os y) e there, ap (λ (y : Open). same_session y.session next.session) (sym e) ∙ apart)

pub in_without : (s : SessionValue) (os : List Open) (o : Open) → Contains (without_session s os) o → Contains os o
in_without s os o h = (from_filter (λ x. not (same_session x.session s)) os o h).0

in_rest : (ks : List Kept) (k : Kept) → Contains (all_but_first ks) k → Contains ks k
in_rest [] k h = h
in_rest (x ∷ ks) k h = in_tail x ks k h

in_newest : (b : Bool) (ks : List Kept) (k : Kept) → Contains (cond b ks (all_but_first ks)) k → Contains ks k
in_newest true ks k h = h
in_newest false ks k h = in_rest ks k h

only : {X : Type 0} (x y : X) → Contains (x ∷ []) y → y ≡ x
only x y h = either (head_or_tail x [] y h)
  where
    either : (x ≡ y) ⊎ Contains [] y → y ≡ x
    either (inl e) = sym e
    either (inr t) = nothing_in y t

pub in_one : {X : Type 0} (x y : X) → Contains (x ∷ []) y → y ≡ x
in_one = only

pub in_keeping : (new : Kept) (ks : List Kept) (k : Kept) → Contains (keeping new ks) k → Contains ks k ⊎ (k ≡ new)
in_keeping new ks k h = either (Contains-append_cases (cond (nat_lt (length ks) LIMIT) ks (all_but_first ks)) (new ∷ []) k h)
  where
    either : Contains (cond (nat_lt (length ks) LIMIT) ks (all_but_first ks)) k ⊎ Contains (new ∷ []) k → Contains ks k ⊎ (k ≡ new)
    either (inl there) = inl (in_newest (nat_lt (length ks) LIMIT) ks k there)
    either (inr here) = inr (only new k here)

-- the new one is found
kept_last : (ks : List Kept) (new : Kept) (s : SessionValue) → kept_at ks s ≡ None → new.session ≡ s → kept_at (ks ++ new ∷ []) s ≡ Some new
kept_last [] new s none is = ap (λ b. cond b (Some new) None) (one_is_same new.session s is)
kept_last (x ∷ ks) new s none is = step (same_session x.session s) none (kept_last ks new s)
  where
    step : (b : Bool) → cond b (Some x) (kept_at ks s) ≡ None → (kept_at ks s ≡ None → new.session ≡ s → kept_at (ks ++ new ∷ []) s ≡ Some new)
        → cond b (Some x) (kept_at (ks ++ new ∷ []) s) ≡ Some new
    step true e rest = absurd cc
    step false e rest = rest e is

none_in_rest : (ks : List Kept) (s : SessionValue) → kept_at ks s ≡ None → kept_at (all_but_first ks) s ≡ None
none_in_rest [] s e = e
none_in_rest (x ∷ ks) s e = step (same_session x.session s) e
  where
    step : (b : Bool) → cond b (Some x) (kept_at ks s) ≡ None → kept_at ks s ≡ None
    step true e = absurd cc
    step false e = e

none_in_newest : (b : Bool) (ks : List Kept) (s : SessionValue) → kept_at ks s ≡ None → kept_at (cond b ks (all_but_first ks)) s ≡ None
none_in_newest true ks s e = e
none_in_newest false ks s e = none_in_rest ks s e

pub kept_new : (ks : List Kept) (new : Kept) (s : SessionValue) → kept_at ks s ≡ None → new.session ≡ s → kept_at (keeping new ks) s ≡ Some new
kept_new ks new s none is = kept_last (cond (nat_lt (length ks) LIMIT) ks (all_but_first ks)) new s (none_in_newest (nat_lt (length ks) LIMIT) ks s none) is

-- ---- changes by session

module _ {X : Type 0} (f : SessionValue → X) (s : SessionValue) (x : X) where
  pub changed_here : (t : SessionValue) → t ≡ s → changed f s x t ≡ x
  changed_here t e = ap (λ b. cond b x (f t)) (one_is_same t s e)

  pub changed_elsewhere : (t : SessionValue) → same_session t s ≡ false → changed f s x t ≡ f t
  changed_elsewhere t e = ap (λ b. cond b x (f t)) e

  pub changed_to_same : f s ≡ x → (t : SessionValue) → changed f s x t ≡ f t
  changed_to_same e t = step (same_session t s) refl
    where
      step : (b : Bool) → same_session t s ≡ b → cond b x (f t) ≡ f t
      step true same = sym e ∙ ap f (sym (same_is_one t s same))
      step false apart = refl
