-- What a replica is to send is looked at by a flush alone: each other step is the same whatever it is, and a write joins its delta to it.
use Rattle.std.proofs.Common.{◌≡◌, ℕ, List, [], ◌∷◌, Bool, true, false, Option, Some, None, cond, refl, sym, ap, ◌∙◌, subst}
use Rattle.std.specs.Prelude.{IsSome}
use Rattle.dots.specs.declared.dot.Dot.{Dot}
use Rattle.dots.specs.Dot.{DotValue}
use Rattle.op_model.specs.Made.{erasure, IsWithin, IsAnywhere}
use Rattle.op_model.specs.Meaning.{MapState, greater, state}
use Rattle.op_model.specs.Operation.{Write, Wrote}
use Rattle.op_model.specs.Operation as operation
use Rattle.op_model.specs.State.{Same, join, IsInside}
use Rattle.op_model.proofs.Making.{IsNext-one, write-same, erasure-same, state-inside}
use Rattle.op_model.proofs.SameSets.{both_ways}
use Rattle.prefix_digest.specs.Page.{page_at}
use Rattle.sync_model.specs.Closing.{held_state}
use Rattle.sync_model.specs.Differ.{Held}
use Rattle.sync_model.specs.Fetch.{Fetch, take_opening, take_page}
use Rattle.sync_model.specs.Fetch as fetch
use Rattle.wire_form.specs.Page.{PageValue}
use Rattle.wire_form.specs.Session.{SessionValue}
use Rattle.wire_form.specs.Sent.{SentValue}
use Rattle.replica_model.specs.Mail.{Mail, Delta, Hello, Opening, Ask, Page, Gone, is_for}
use Rattle.replica_model.specs.Replica.{Replica, Open, Accepted, Kept, open_at, open_numbered, kept_at, joins, makes, advances, closes}
use Rattle.replica_model.specs.Delivery.{Turn, turn, ignored, Done, Sent, is_complete, asks_for, asks_of, fetching, went_on, took_gone, took_hello, answered}
use Rattle.replica_model.specs.Delivery.{took_ask, opening_taken, took_first, took_opening, child_prefixes, page_taken, took_further, took_page, taken}
use Rattle.replica_model.specs.Delivery.{delivered}
use Rattle.replica_model.specs.Step.{Call, Put, Remove, RemoveField, Clear, Flush, Retry, Abandon, Restart, Act, Do, Take, Answer, Came}
use Rattle.replica_model.specs.Step.{Removes, Abandons, IsCall, IsStep, retried}
use Rattle.replica_model.specs.Step as call
use Rattle.replica_model.proofs.States.{same_is}
use Rattle.replica_alone.specs.Waiting.{Erases, IsDeltaOf}

-- the replica with this to send
abbrev pub with_group : MapState → Replica → Replica
with_group g r = record r { group = g }

-- ---- a delivery

-- a turn to the replica with this to send
abbrev regroup : MapState → Turn → Turn
regroup g t = turn (with_group g t.new) t.outcome t.replies

module _ (hash_of : List ℕ → ℕ) (own : Held) (r : Replica) (g : MapState) where
  -- a session goes on, or ends, whatever is to be sent
  went : (o : Open) (context : DotValue → Bool) (f : Fetch) (asks : List Mail)
      → went_on (with_group g r) o context f asks ≡ regroup g (went_on r o context f asks)
  went o context f asks = by (is_complete f)
    where
      by : (b : Bool) → cond b (turn (closes (joins (with_group g r) (held_state f.built context)) o.session) Done [])
          (turn (advances (with_group g r) (fetching o context f)) Sent asks)
          ≡ regroup g (cond b (turn (closes (joins r (held_state f.built context)) o.session) Done []) (turn (advances r (fetching o context f)) Sent asks))
      by true = refl
      by false = refl

  -- so it is of a hello
  at_hello : (s : SessionValue) (seen : DotValue → Bool) (k : Option Kept)
      → took_hello hash_of own (with_group g r) s seen k ≡ regroup g (took_hello hash_of own r s seen k)
  at_hello s seen (Some k) = refl
  at_hello s seen None = refl

  -- of an ask, by the page and by the kept snapshot
  at_answer : (s : SessionValue) (k : Kept) (prefix : List ℕ) (page : Option PageValue)
      → answered hash_of (with_group g r) s k prefix page ≡ regroup g (answered hash_of r s k prefix page)
  at_answer s k prefix (Some page) = refl
  at_answer s k prefix None = refl

  at_ask : (s : SessionValue) (prefix : List ℕ) (k : Option Kept)
      → took_ask hash_of (with_group g r) s prefix k ≡ regroup g (took_ask hash_of r s prefix k)
  at_ask s prefix (Some k) = at_answer s k prefix (page_at hash_of k.map prefix)
  at_ask s prefix None = refl

  -- of an opening, by what the fetch says, by what the session has, and by the session
  at_taken_opening : (o : Open) (context : DotValue → Bool) (t : fetch.Taken)
      → opening_taken hash_of (with_group g r) o context t ≡ regroup g (opening_taken hash_of r o context t)
  at_taken_opening o context fetch.Ignored = refl
  at_taken_opening o context fetch.Mismatch = refl
  at_taken_opening o context (fetch.Took f) = went o context f (asks_of o.session f)

  at_first : (o : Open) (context : DotValue → Bool) (root : Option (List ℕ)) (a : Option Accepted)
      → took_first hash_of (with_group g r) o context root a ≡ regroup g (took_first hash_of r o context root a)
  at_first o context root (Some a) = refl
  at_first o context root None = at_taken_opening o context (take_opening hash_of o.own o.seen context root)

  at_opening : (context : DotValue → Bool) (root : Option (List ℕ)) (o : Option Open)
      → took_opening hash_of (with_group g r) context root o ≡ regroup g (took_opening hash_of r context root o)
  at_opening context root (Some o) = at_first o context root o.accepted
  at_opening context root None = refl

  -- of a page, the same way
  at_taken_page : (o : Open) (context : DotValue → Bool) (sent : SentValue) (t : fetch.Taken)
      → page_taken hash_of (with_group g r) o context sent t ≡ regroup g (page_taken hash_of r o context sent t)
  at_taken_page o context sent fetch.Ignored = refl
  at_taken_page o context sent fetch.Mismatch = refl
  at_taken_page o context sent (fetch.Took f) = went o context f (asks_for o.session (child_prefixes hash_of o sent))

  at_further : (o : Open) (sent : SentValue) (a : Option Accepted)
      → took_further hash_of (with_group g r) o sent a ≡ regroup g (took_further hash_of r o sent a)
  at_further o sent (Some a) =
      at_taken_page o a.context sent (take_page hash_of o.own o.seen a.context a.fetch sent.prefix sent.page sent.values)
  at_further o sent None = refl

  at_page : (sent : SentValue) (o : Option Open) → took_page hash_of (with_group g r) sent o ≡ regroup g (took_page hash_of r sent o)
  at_page sent (Some o) = at_further o sent o.accepted
  at_page sent None = refl

  -- of a gone
  at_gone : (o : Option Open) → took_gone (with_group g r) o ≡ regroup g (took_gone r o)
  at_gone (Some o) = refl
  at_gone None = refl

  -- and so of each message that is for the replica
  at_mail : (mail : Mail) → taken hash_of own (with_group g r) mail ≡ regroup g (taken hash_of own r mail)
  at_mail (Delta d) = refl
  at_mail (Hello s seen) = at_hello s seen (kept_at r.kept s)
  at_mail (Opening s context root) = at_opening context root (open_at r.sessions s)
  at_mail (Ask s prefix) = at_ask s prefix (kept_at r.kept s)
  at_mail (Page s sent) = at_page sent (open_at r.sessions s)
  at_mail (Gone s) = at_gone (open_at r.sessions s)

  -- a delivery is the same, whatever is to be sent
  at_delivery : (mail : Mail) → delivered hash_of own (with_group g r) mail ≡ regroup g (delivered hash_of own r mail)
  at_delivery mail = by (is_for r.name mail)
    where
      by : (b : Bool) → cond b (taken hash_of own (with_group g r) mail) (ignored (with_group g r))
          ≡ regroup g (cond b (taken hash_of own r mail) (ignored r))
      by true = at_mail mail
      by false = refl

-- the step of a message is the same, whatever is to be sent
pub taken_at : (hash_of : List ℕ → ℕ) (g : MapState) (r next : Replica) (mail : Mail) (answer : Answer) (now : List Mail)
    → IsStep hash_of r (Take mail) next answer now → IsStep hash_of (with_group g r) (Take mail) (with_group g next) answer now
taken_at hash_of g r next mail answer now (outcome, a, (own, is, e)) = (outcome, a, (own, is, at_delivery hash_of own r g mail ∙ ap (regroup g) e))

-- ---- the calls that write nothing

-- so is that of an ask
pub asked_at : (g : MapState) (r next : Replica) (peer : ℕ) (answer : Answer) (now : List Mail) → IsCall r (call.Ask peer) next answer now
    → IsCall (with_group g r) (call.Ask peer) (with_group g next) answer now
asked_at g r next peer answer now (own, is, few, left, n, a, o) = (own, is, few, left, ap (with_group g) n, a, o)

-- a retry is answered the same, and sends the same
retried_outcome : (g : MapState) (r : Replica) (o : Option Open) → (retried (with_group g r) o).outcome ≡ (retried r o).outcome
retried_outcome g r (Some o) = refl
retried_outcome g r None = refl

retried_replies : (g : MapState) (r : Replica) (o : Option Open) → (retried (with_group g r) o).replies ≡ (retried r o).replies
retried_replies g r (Some o) = refl
retried_replies g r None = refl

-- so its step is the same
pub retried_at : (g : MapState) (r next : Replica) (number : ℕ) (answer : Answer) (now : List Mail) → IsCall r (Retry number) next answer now
    → IsCall (with_group g r) (Retry number) (with_group g next) answer now
retried_at g r next number answer now (n, a, o) =
    let there = open_numbered r.sessions number in
    (ap (with_group g) n, a ∙ sym (ap Came (retried_outcome g r there)), o ∙ sym (retried_replies g r there))

-- and so is that of an abandon
abandons_at : (g : MapState) (r next : Replica) (o : Option Open) (answer : Answer) → Abandons r o next answer
    → Abandons (with_group g r) o (with_group g next) answer
abandons_at g r next (Some o) answer (n, a) = (ap (with_group g) n, a)
abandons_at g r next None answer (n, a) = (ap (with_group g) n, a)

pub abandoned_at : (g : MapState) (r next : Replica) (number : ℕ) (answer : Answer) (now : List Mail) → IsCall r (Abandon number) next answer now
    → IsCall (with_group g r) (Abandon number) (with_group g next) answer now
abandoned_at g r next number answer now (n, o) = (abandons_at g r next (open_numbered r.sessions number) answer n, o)

-- ---- the writes

-- what is said of a write's delta at each group: it is joined there to what is to be sent, and all that stands in it is known
pub record IsWriteAt (r : Replica) (c : Call) (next : Replica) (answer : Answer) (now : List Mail) (delta : MapState) : Type 0 where
  pub inside : IsInside delta
  pub anywhere : (g : MapState) → IsCall (with_group g r) c (with_group (join greater g delta) next) answer now

-- a replica that makes a delta makes it whatever it is to send
joined_at : (g : MapState) (r next : Replica) (delta made : MapState) → next ≡ makes r made → delta ≡ made
    → with_group (join greater g delta) next ≡ makes (with_group g r) made
joined_at g r next delta made n same = λ i. with_group (join greater g (same i)) (n i)

-- so does a removal of the dots that are as P says
erased_at : (P : Dot → Type 0) (g : MapState) (r next : Replica) (answer : Answer) (now : List Mail) (delta : MapState) → Removes P r next answer now
    → Erases P delta → Removes P (with_group g r) (with_group (join greater g delta) next) answer now
erased_at P g r next answer now delta (over, just, n, counts, o) (others, just', is) =
    let dots : (dot : Dot) → operation.has others dot ≡ operation.has over dot = λ dot. both_ways (operation.has others dot) (operation.has over dot)
    (λ h. (just dot).1 ((just' dot).0 h)) (λ h. (just' dot).1 ((just dot).0 h)) in
    let same : delta ≡ state (erasure over) = is ∙ same_is (state (erasure others)) (state (erasure over)) (erasure-same others over dots) in
    (over, just, joined_at g r next delta (state (erasure over)) n same, counts, o)

-- all that stands in its delta is known
erased_inside : (P : Dot → Type 0) (delta : MapState) → Erases P delta → IsInside delta
erased_inside P delta (over, just, is) = let F : MapState → Type 0 = λ p. IsInside p in subst F (sym is) (state-inside (erasure over))

-- each write is so
pub write_at : (r next : Replica) (c : Call) (answer : Answer) (now : List Mail) (delta : MapState) → IsCall r c next answer now → IsDeltaOf r c delta
    → IsWriteAt r c next answer now delta
write_at r next (Put place value) answer now delta (w, put, lt, n, a, o) (w', put', is) =
    let id : w'.id ≡ w.id = IsNext-one r.name r.live.has w'.id w.id put'.id put.id in
    let one : Same (state (Wrote w' ∷ [])) (state (Wrote w ∷ [])) =
    write-same w' w id (put'.same_place ∙ sym put.same_place) (put'.same_value ∙ sym put.same_value) (λ dot. put'.over dot ∙ sym (put.over dot)) in
    let same : delta ≡ state (Wrote w ∷ []) = is ∙ same_is (state (Wrote w' ∷ [])) (state (Wrote w ∷ [])) one in
    let F : MapState → Type 0 = λ p. IsInside p in
    record {
      inside = subst F (sym is) (state-inside (Wrote w' ∷ []));
      anywhere = λ g. (
        w,
        put,
        lt,
        joined_at g r next delta (state (Wrote w ∷ [])) n same,
        a,
        o,
      );
    }
write_at r next (Remove key) answer now delta step is = record {
  inside = erased_inside (IsWithin r.live key) delta is;
  anywhere = λ g. erased_at (IsWithin r.live key) g r next answer now delta step is;
}
write_at r next (RemoveField place) answer now delta step is =
    let P : Dot → Type 0 = λ dot. IsSome (r.live.at place dot) in
    record { inside = erased_inside P delta is; anywhere = λ g. erased_at P g r next answer now delta step is }
write_at r next Clear answer now delta step is = record {
  inside = erased_inside (IsAnywhere r.live) delta is;
  anywhere = λ g. erased_at (IsAnywhere r.live) g r next answer now delta step is;
}
write_at r next Flush answer now delta step is = absurd is
write_at r next (call.Ask peer) answer now delta step is = absurd is
write_at r next (Retry number) answer now delta step is = absurd is
write_at r next (Abandon number) answer now delta step is = absurd is
write_at r next Restart answer now delta step is = absurd is
