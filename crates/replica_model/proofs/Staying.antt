-- What a step does to the sessions and the snapshots that it is not of: an open session stays as it is, and a snapshot stays or is dropped.
use Rattle.std.proofs.Common.{◌≡◌, ◌⊎◌, inl, inr, ℕ, List, [], ◌∷◌, Bool, true, false, not, Option, Some, None, cond, refl, sym, ap, ◌∙◌, subst, eqb-true}
use Rattle.std.specs.Prelude.{◌==◌, ◌++◌, ◌≤◌, Contains, length, nat_lt}
use Rattle.std.specs.FinMap as finite
use Rattle.std.proofs.lemmas.Bool.{ltb-false}
use Rattle.std.proofs.lemmas.List.Elements.{Contains-append_left}
use Rattle.op_model.proofs.Members.{nothing_in, head_or_tail, in_filter, in_map}
use Rattle.wire_form.specs.Session.{SessionValue, same_session}
use Rattle.sync_model.specs.Differ.{Held}
use Rattle.replica_model.specs.Mail.{Mail, Hello}
use Rattle.replica_model.specs.Replica.{Replica, Open, Kept, open_numbered, kept_at, advanced, without_session, LIMIT, keeping, keeps}
use Rattle.replica_model.specs.Delivery.{Turn, delivered}
use Rattle.replica_model.specs.Step.{Call, Put, Remove, RemoveField, Clear, Flush, Retry, Abandon, Restart, Do, Take, Act, Answer, Abandons, IsCall}
use Rattle.replica_model.specs.Step as step
use Rattle.replica_model.specs.Laws.{IsOfOpen, IsNewFor, IsDropped, SessionsStay, SnapshotsStay, OldestAreDropped}
use Rattle.replica_model.proofs.Askers.{call_keeps, call_kept}
use Rattle.replica_model.proofs.Found.{same_is_one, found_open, in_keeping}
use Rattle.replica_model.proofs.Rows.{snapshot, each_row}

-- sessions that are not one are told apart
told_apart : (s t : SessionValue) → (s ≡ t → ⊥) → same_session s t ≡ false
told_apart s t apart = by (same_session s t) refl
  where
    by : (b : Bool) → same_session s t ≡ b → same_session s t ≡ false
    by true same = absurd (apart (same_is_one s t same))
    by false other = other

stays_without : (s : SessionValue) (os : List Open) (o : Open) → Contains os o → (o.session ≡ s → ⊥) → Contains (without_session s os) o
stays_without s os o h apart = in_filter (λ x. not (same_session x.session s)) os o h (ap not (told_apart o.session s apart))

stays_advanced : (next : Open) (os : List Open) (o : Open) → Contains os o → (o.session ≡ next.session → ⊥) → Contains (advanced next os) o
stays_advanced next os o h apart =
    subst (λ b. Contains (advanced next os) (cond b next o)) (told_apart o.session next.session apart)
    (in_map (λ x. cond (same_session x.session next.session) next x) os o h)

found_number : (os : List Open) (number : ℕ) (o : Open) → open_numbered os number ≡ Some o → o.session.number ≡ number
found_number [] number o e = absurd cc
found_number (x ∷ os) number o e = by (x.session.number == number) refl e (found_number os number o)
  where
    by : (b : Bool) → (x.session.number == number) ≡ b → cond b (Some x) (open_numbered os number) ≡ Some o
        → (open_numbered os number ≡ Some o → o.session.number ≡ number) → o.session.number ≡ number
    by true same here rest = let one : x ≡ o = cc in ap (λ (y : Open). y.session.number) (sym one) ∙ eqb-true x.session.number number same
    by false other there rest = rest there

-- ---- open sessions

module _ (hash_of : List ℕ → ℕ) (own : Held) (r : Replica) (o : Open) (there : Contains r.sessions o) where
  apart_from : (s t : SessionValue) → t ≡ s → (o.session ≡ s → ⊥) → o.session ≡ t → ⊥
  apart_from s t same apart e = apart (e ∙ same)

  delivery_leaves : (mail : Mail) → (IsOfOpen o (Take mail) → ⊥) → Contains (delivered hash_of own r mail).new.sessions o
  delivery_leaves = each_row hash_of own r (λ mail t. (IsOfOpen o (Take mail) → ⊥) → Contains t.new.sessions o) (record {
    ignoring = λ mail other _. there;
    mismatch = λ mail other _. there;
    delta = λ d _. there;
    told_again = λ s seen k e _. there;
    kept = λ s seen here none _. there;
    gone = λ s p _. there;
    page = λ s p k page _. there;
    opening_done = λ s c root x f found first took complete apart. stays_without x.session r.sessions o there
        (apart_from s x.session (found_open r.sessions s x found).1 apart);
    opening_sent = λ s c root x f found first took apart. stays_advanced _ r.sessions o there
        (apart_from s x.session (found_open r.sessions s x found).1 apart);
    page_done = λ s sent x a f found accepted took complete apart. stays_without x.session r.sessions o there
        (apart_from s x.session (found_open r.sessions s x found).1 apart);
    page_sent = λ s sent x a f found accepted took apart. stays_advanced _ r.sessions o there
        (apart_from s x.session (found_open r.sessions s x found).1 apart);
    ended = λ s x found apart. stays_without x.session r.sessions o there (apart_from s x.session (found_open r.sessions s x found).1 apart);
  })

  same_sessions : (new changed : Replica) → new ≡ changed → Contains changed.sessions o → Contains new.sessions o
  same_sessions new changed is h = subst (λ (x : Replica). Contains x.sessions o) (sym is) h

  abandon_leaves : (new : Replica) (number : ℕ) (x : Option Open) (answer : Answer) → open_numbered r.sessions number ≡ x → Abandons r x new answer
      → (number ≡ o.session.number → ⊥) → Contains new.sessions o
  abandon_leaves new number None answer e (n, a) apart = same_sessions new r n there
  abandon_leaves new number (Some x) answer e (n, a) apart =
      same_sessions new _ n (stays_without x.session r.sessions o there
      (λ same. apart (sym (found_number r.sessions number x e) ∙ ap (λ (s : SessionValue). s.number) (sym same))))

  call_leaves : (new : Replica) (c : Call) (answer : Answer) (out : List Mail) → IsCall r c new answer out → (IsOfOpen o (Do c) → ⊥) → Contains new.sessions o
  call_leaves new (Put place value) answer out (x, put, few, n, a, z) apart = same_sessions new _ n there
  call_leaves new (Remove key) answer out (over, just, n, counts, z) apart = same_sessions new _ n there
  call_leaves new (RemoveField place) answer out (over, just, n, counts, z) apart = same_sessions new _ n there
  call_leaves new Clear answer out (over, just, n, counts, z) apart = same_sessions new _ n there
  call_leaves new Flush answer out (a, inl (none, n, z)) apart = same_sessions new r n there
  call_leaves new Flush answer out (a, inr (some, n, z)) apart = same_sessions new _ n there
  call_leaves new (step.Ask peer) answer out (mine, is, few, left, n, a, z) apart = same_sessions new _ n (Contains-append_left r.sessions _ o there)
  call_leaves new (Retry number) answer out (n, a, z) apart = same_sessions new r n there
  call_leaves new (Abandon number) answer out (abandons, z) apart = abandon_leaves new number (open_numbered r.sessions number) answer refl abandons apart
  call_leaves new Restart answer out (n, a, z) apart = absurd (apart tt)

pub sessions_stay : SessionsStay
sessions_stay hash_of old new (Do c) answer out is o there apart = call_leaves hash_of finite.empty old o there new c answer out is apart
sessions_stay hash_of old new (Take mail) answer out (outcome, a, (own, is_own, steps)) o there apart =
    subst (λ (t : Turn). Contains t.new.sessions o) steps (delivery_leaves hash_of own old o there mail apart)

-- ---- kept snapshots

module _ (hash_of : List ℕ → ℕ) (own : Held) (r : Replica) (k : Kept) where
  delivery_keeps : (mail : Mail) → Contains (delivered hash_of own r mail).new.kept k → Contains r.kept k ⊎ IsNewFor r (Take mail) k
  delivery_keeps = each_row hash_of own r (λ mail t. Contains t.new.kept k → Contains r.kept k ⊎ IsNewFor r (Take mail) k) (record {
    ignoring = λ mail other h. inl h;
    mismatch = λ mail other h. inl h;
    delta = λ d h. inl h;
    told_again = λ s seen x e h. inl h;
    kept = λ s seen here none h. by s seen none (in_keeping (snapshot own r s seen) r.kept k h);
    gone = λ s p h. inl h;
    page = λ s p x page h. inl h;
    opening_done = λ s c root x f found first took complete h. inl h;
    opening_sent = λ s c root x f found first took h. inl h;
    page_done = λ s sent x a f found accepted took complete h. inl h;
    page_sent = λ s sent x a f found accepted took h. inl h;
    ended = λ s x found h. inl h;
  })
    where
      by : (s : SessionValue) (seen : _) → kept_at r.kept s ≡ None → Contains r.kept k ⊎ (k ≡ snapshot own r s seen) → Contains r.kept k
          ⊎ IsNewFor r (Take (Hello s seen)) k
      by s seen none (inl h) = inl h
      by s seen none (inr e) = inr (ap (λ (x : Kept). x.session) e, none)

-- ---- which are dropped

-- where one more is kept, each stays but the oldest of eight
KeptOrOldest : List Kept → Kept → Kept → Type 0
KeptOrOldest ks ninth k = Contains (keeping ninth ks) k
    ⊎ ((LIMIT ≤ length ks) × ((others : List Kept) × (ks ≡ k ∷ others) × (keeping ninth ks ≡ others ++ ninth ∷ [])))

kept_or_oldest : (ks : List Kept) (ninth k : Kept) → Contains ks k → KeptOrOldest ks ninth k
unfolding KeptOrOldest
kept_or_oldest [] ninth k there = nothing_in k there
kept_or_oldest (x ∷ ks) ninth k there = by (nat_lt (length (x ∷ ks)) LIMIT) refl (head_or_tail x ks k there)
  where
    kept_by : Bool → List Kept
    kept_by b = cond b (x ∷ ks) ks ++ ninth ∷ []

    by : (b : Bool) → nat_lt (length (x ∷ ks)) LIMIT ≡ b → (x ≡ k) ⊎ Contains ks k → KeptOrOldest (x ∷ ks) ninth k
    by true room h = inl (subst (λ b. Contains (kept_by b) k) (sym room) (Contains-append_left (x ∷ ks) (ninth ∷ []) k there))
    by false full (inl e) = inr (ltb-false (length (x ∷ ks)) LIMIT full, (ks, ap (λ y. y ∷ ks) e, ap kept_by full))
    by false full (inr h) = inl (subst (λ b. Contains (kept_by b) k) (sym full) (Contains-append_left ks (ninth ∷ []) k h))

module _ (hash_of : List ℕ → ℕ) (own : Held) (r : Replica) (k : Kept) (there : Contains r.kept k) where
  delivery_drops : (mail : Mail) → Contains (delivered hash_of own r mail).new.kept k ⊎ IsDropped r (delivered hash_of own r mail).new (Take mail) k
  unfolding KeptOrOldest
  delivery_drops = each_row hash_of own r (λ mail t. Contains t.new.kept k ⊎ IsDropped r t.new (Take mail) k) (record {
    ignoring = λ mail other. inl there;
    mismatch = λ mail other. inl there;
    delta = λ d. inl there;
    told_again = λ s seen x e. inl there;
    kept = λ s seen here none. by s seen none (kept_or_oldest r.kept (snapshot own r s seen) k there);
    gone = λ s p. inl there;
    page = λ s p x page. inl there;
    opening_done = λ s c root x f found first took complete. inl there;
    opening_sent = λ s c root x f found first took. inl there;
    page_done = λ s sent x a f found accepted took complete. inl there;
    page_sent = λ s sent x a f found accepted took. inl there;
    ended = λ s x found. inl there;
  })
    where
      by : (s : SessionValue) (seen : _) → kept_at r.kept s ≡ None → KeptOrOldest r.kept (snapshot own r s seen) k
          → Contains (keeps r (snapshot own r s seen)).kept k ⊎ IsDropped r (keeps r (snapshot own r s seen)) (Take (Hello s seen)) k
      by s seen none (inl h) = inl h
      by s seen none (inr (full, (others, oldest, newest))) =
          inr (record { full = full; others = others; oldest = oldest; ninth = snapshot own r s seen; is_new = (refl, none); newest = newest })

pub snapshots_stay : SnapshotsStay
snapshots_stay hash_of old new (Do c) answer out is k h = inl (call_kept old new c answer out is k h)
snapshots_stay hash_of old new (Take mail) answer out (outcome, a, (own, is_own, steps)) k h =
    delivery_keeps hash_of own old k mail (subst (λ (t : Turn). Contains t.new.kept k) (sym steps) h)

pub oldest_are_dropped : OldestAreDropped
oldest_are_dropped hash_of old new (Do c) answer out is k h = by (call_keeps old new c answer out is)
  where
    by : (new.kept ≡ old.kept) ⊎ ((c ≡ Restart) × (new.kept ≡ [])) → Contains new.kept k ⊎ (IsDropped old new (Do c) k ⊎ (Do c ≡ Do Restart))
    by (inl same) = inl (subst (λ ks. Contains ks k) (sym same) h)
    by (inr (is, none)) = inr (inr (ap Do is))
oldest_are_dropped hash_of old new (Take mail) answer out (outcome, a, (own, is_own, steps)) k h =
    either (subst (λ (t : Turn). Contains t.new.kept k ⊎ IsDropped old t.new (Take mail) k) steps (delivery_drops hash_of own old k h mail))
  where
    either : Contains new.kept k ⊎ IsDropped old new (Take mail) k → Contains new.kept k ⊎ (IsDropped old new (Take mail) k ⊎ (Take mail ≡ Do Restart))
    either (inl there) = inl there
    either (inr dropped) = inr (inl dropped)
