-- What an open session does not take: any page but that which it waits for.
use Rattle.std.proofs.Common.{◌≡◌, ℕ, List, [], ◌∷◌, Bool, true, false, Option, Some, None, cond, refl, sym, ap, ◌∙◌, subst, eq-eqb}
use Rattle.std.specs.Prelude.{◌&&◌}
use Rattle.std.specs.Str.{bytes_eq}
use Rattle.std.specs.FinMap as finite
use Rattle.op_model.proofs.Members.{at_head}
use Rattle.causal_join.specs.OrMap.{FieldsValue}
use Rattle.dots.specs.Dot.{DotValue}
use Rattle.wire_form.specs.Sent.{SentValue}
use Rattle.wire_form.specs.Session.{SessionValue}
use Rattle.prefix_digest.specs.Page.{digest_of, digest_at}
use Rattle.sync_model.specs.Differ.{Held}
use Rattle.sync_model.specs.Fetch.{Fetch, entries_of, fits, took, promised, take_page}
use Rattle.sync_model.specs.Fetch as fetch
use Rattle.sync_model.specs.Filled.{filled}
use Rattle.sync_model.specs.Laws.{IsLawfulMap, Taking, Fetched, NoClash}
use Rattle.sync_model.proofs.Fetches.{fetching}
use Rattle.sync_model.proofs.Lawful.{map_lawful}
use Rattle.replica_model.specs.Mail.{Mail, Page, is_for}
use Rattle.replica_model.specs.Replica.{Replica, Open, Accepted, open_at}
use Rattle.replica_model.specs.Delivery.{Outcome, Ignored, Mismatch, Turn, turn, ignored, page_taken, took_further, took_page, delivered}
use Rattle.replica_model.specs.Step.{Take, Answer, Came, IsStep}
use Rattle.replica_model.specs.World.{taking_of}
use Rattle.replica_model.specs.Laws.{IsPageOf, IsOnlyAnswered, OtherPagesMismatch, AwaitsPage, PagesElsewhereAreIgnored}
use Rattle.replica_model.proofs.Found.{found_open}
use Rattle.replica_model.proofs.Fronts.{told}
use Rattle.replica_model.proofs.Taking.{for_it}

-- a delivery that comes to this turn is only answered
only_answered : (hash_of : List ℕ → ℕ) (outcome : Outcome) (old new : Replica) (mail : Mail) (answer : Answer) (out : List Mail)
    → ((own : Held) → delivered hash_of own old mail ≡ turn old outcome []) → IsStep hash_of old (Take mail) new answer out
    → IsOnlyAnswered outcome old new answer out
only_answered hash_of outcome old new mail answer out comes (is, answers, (own, is_map, step)) =
    let same : turn new is out ≡ turn old outcome [] = sym step ∙ comes own in record {
      answers = answers ∙ ap (λ (t : Turn). Came t.outcome) same;
      replica = ap (λ (t : Turn). t.new) same;
      sends = ap (λ (t : Turn). t.replies) same;
    }

-- ---- a page where none is waited for

module _ (hash_of : List ℕ → ℕ) (r : Replica) (s : SessionValue) (sent : SentValue) (none : ¬ AwaitsPage r s sent.prefix) where
  not_waited : (o : Open) (a : Accepted) → open_at r.sessions s ≡ Some o → o.accepted ≡ Some a → (x : Option (List ℕ))
      → finite.get a.fetch.waiting sent.prefix ≡ x
      → page_taken hash_of r o a.context sent (promised hash_of o.own o.seen a.context a.fetch sent.prefix sent.page sent.values x) ≡ ignored r
  not_waited o a there accepted None e = refl
  not_waited o a there accepted (Some digest) e = absurd (none (o, a, digest, there, accepted, e))

  no_further : (o : Open) → open_at r.sessions s ≡ Some o → (x : Option Accepted) → o.accepted ≡ x → took_further hash_of r o sent x ≡ ignored r
  no_further o there None e = refl
  no_further o there (Some a) e = not_waited o a there e (finite.get a.fetch.waiting sent.prefix) refl

  no_page : (x : Option Open) → open_at r.sessions s ≡ x → took_page hash_of r sent x ≡ ignored r
  no_page None e = refl
  no_page (Some o) e = no_further o e o.accepted refl

  none_taken : (own : Held) → delivered hash_of own r (Page s sent) ≡ ignored r
  none_taken own = by (is_for r.name (Page s sent))
    where
      by : (b : Bool) → cond b (took_page hash_of r sent (open_at r.sessions s)) (ignored r) ≡ ignored r
      by true = no_page (open_at r.sessions s) refl
      by false = refl

pub elsewhere_ignored : PagesElsewhereAreIgnored
elsewhere_ignored hash_of old new s sent answer out step none = only_answered hash_of Ignored old new (Page s sent) answer out
    (none_taken hash_of old s sent none) step

-- ---- and another than that which is waited for

-- a page that is waited for is not ignored
waited_not_ignored : (hash_of : List ℕ → ℕ) (own : Held) (seen opened : DotValue → Bool) (f : Fetch) (sent : SentValue) (digest : List ℕ)
    → finite.get f.waiting sent.prefix ≡ Some digest
    → ¬ (take_page hash_of own seen opened f sent.prefix sent.page sent.values ≡ fetch.Ignored)
waited_not_ignored hash_of own seen opened f sent digest waits is =
    by (bytes_eq digest (digest_of sent.page) && fits hash_of own opened sent.prefix sent.page) (filled seen own (entries_of sent.page) sent.values)
    (sym (ap (promised hash_of own seen opened f sent.prefix sent.page sent.values) waits) ∙ is)
  where
    by : (b : Bool) (x : Option (List (List ℕ × FieldsValue))) → cond b (took hash_of own seen opened f sent.prefix sent.page x) fetch.Mismatch
        ≡ fetch.Ignored → ⊥
    by false x e = absurd cc
    by true None e = absurd cc
    by true (Some es) e = absurd cc

-- and one that is taken is that of the snapshot
taken_is_page : (hash_of : List ℕ → ℕ) (o : Open) (a : Accepted) (theirs : Held) (ts : List Taking) (sent : SentValue) (f : Fetch) → IsLawfulMap o.own
    → NoClash hash_of o.own theirs (taking_of sent ∷ ts)
    → Fetched hash_of o.own o.seen a.context (digest_at hash_of theirs []) ts a.fetch
    → take_page hash_of o.own o.seen a.context a.fetch sent.prefix sent.page sent.values ≡ fetch.Took f → IsPageOf o.seen hash_of theirs sent
taken_is_page hash_of o a theirs ts sent f lawful no_clash got e =
    let takings = taking_of sent ∷ ts in
    let law = fetching hash_of o.own theirs o.seen a.context takings f lawful no_clash (a.fetch, got, e) in
    law.theirs_taken (taking_of sent) (at_head (taking_of sent) ts)

pub mismatches : (hash_of : List ℕ → ℕ) (o : Open) (a : Accepted) (theirs : Held) (ts : List Taking) (sent : SentValue) (digest : List ℕ)
    → finite.get a.fetch.waiting sent.prefix ≡ Some digest → IsLawfulMap o.own
    → NoClash hash_of o.own theirs (taking_of sent ∷ ts) → Fetched hash_of o.own o.seen a.context (digest_at hash_of theirs []) ts a.fetch
    → ¬ IsPageOf o.seen hash_of theirs sent
    → take_page hash_of o.own o.seen a.context a.fetch sent.prefix sent.page sent.values ≡ fetch.Mismatch
mismatches hash_of o a theirs ts sent digest waits lawful no_clash got other =
    by (take_page hash_of o.own o.seen a.context a.fetch sent.prefix sent.page sent.values) refl
  where
    by : (t : fetch.Taken) → take_page hash_of o.own o.seen a.context a.fetch sent.prefix sent.page sent.values ≡ t → t ≡ fetch.Mismatch
    by fetch.Mismatch e = refl
    by fetch.Ignored e = absurd (waited_not_ignored hash_of o.own o.seen a.context a.fetch sent digest waits e)
    by (fetch.Took f) e = absurd (other (taken_is_page hash_of o a theirs ts sent f lawful no_clash got e))

pub others_mismatch : OtherPagesMismatch
others_mismatch hash_of events w runs name s o a open_there accepted sent digest waits no_clash other new answer out step =
    let ties = told hash_of events w runs in
    let found = found_open (w.replica name).sessions s o open_there in
    let tie = ties.sessions name o found.0 in
    let got : Fetched hash_of o.own o.seen a.context (digest_at hash_of (w.accepted s).map []) (w.taken s) a.fetch =
    subst (λ u. Fetched hash_of o.own o.seen a.context (digest_at hash_of (w.accepted u).map []) (w.taken u) a.fetch) found.1 (tie.fetched a accepted).1 in
    let here : s.asker ≡ (w.replica name).name = ap (λ (x : SessionValue). x.asker) (sym found.1) ∙ tie.asker ∙ sym (ties.named name) in
    let mismatch = mismatches hash_of o a (w.accepted s).map (w.taken s) sent digest waits (map_lawful o.own _ tie.asked.0.own_then) no_clash got other in
    only_answered hash_of Mismatch (w.replica name) new (Page s sent) answer out
    (λ own. for_it hash_of own (w.replica name) (Page s sent) (eq-eqb s.asker (w.replica name).name here)
    ∙ ap (took_page hash_of (w.replica name) sent) open_there
    ∙ ap (took_further hash_of (w.replica name) o sent) accepted
    ∙ ap (page_taken hash_of (w.replica name) o a.context sent) mismatch) step
