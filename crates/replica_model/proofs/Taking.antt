-- What an open session takes, and what an ask is told.
use Rattle.std.proofs.Common.{◌≡◌, ◌⊎◌, inl, inr, ℕ, List, [], ◌∷◌, ◌++◌, map, Bool, true, false, Option, Some, None, cond, refl, sym, ap, ◌∙◌, subst, eq-eqb}
use Rattle.dots.specs.Dot.{DotValue}
use Rattle.wire_form.specs.Page.{PageValue}
use Rattle.wire_form.specs.Sent.{SentValue}
use Rattle.wire_form.specs.Session.{SessionValue}
use Rattle.prefix_digest.specs.Page.{page_at, digest_at}
use Rattle.sync_model.specs.Differ.{Held, Differ}
use Rattle.sync_model.specs.Fetch.{Fetch, take_opening, take_page}
use Rattle.sync_model.specs.Fetch as fetch
use Rattle.sync_model.specs.Laws.{Fetched}
use Rattle.sync_model.proofs.Fetches.{fetching}
use Rattle.sync_model.proofs.Fitted.{fitting, opening}
use Rattle.replica_model.specs.Mail.{Mail, Opening, Ask, Page, is_for}
use Rattle.replica_model.specs.Replica.{Replica, Open, Accepted, Kept, open_at, kept_at}
use Rattle.replica_model.specs.Delivery.{Outcome, Sent, Done, Turn, turn, ignored, is_complete, asks_of, asks_for, child_prefixes, went_on, opening_taken}
use Rattle.replica_model.specs.Delivery.{page_taken, took_first, took_further, took_opening, took_page, took_ask, answered, page_for, taken, delivered}
use Rattle.replica_model.specs.Step.{Answer, Came}
use Rattle.replica_model.specs.World.{World, Deliver, Message, message_at, no_snapshot, sent_as, taking_of, takes, Happens}
use Rattle.replica_model.specs.Laws.{IsDoneElseSent, TakesOpenings, sent_of, TakesPages, TellsPages}
use Rattle.replica_model.proofs.Complete.{NoneWaits, complete_waits, incomplete_waits, differ_nowhere, none_waits_first, theirs_clean}
use Rattle.replica_model.proofs.Found.{found_open, found_kept}
use Rattle.replica_model.proofs.Ties.{MailTie}
use Rattle.replica_model.proofs.Carried.{same_messages}
use Rattle.replica_model.proofs.Fronts.{Delivered, delivery, told}
use Rattle.replica_model.proofs.Puts.{SnapOf, AskedOf, SendsOf, all_put}
use Rattle.replica_model.proofs.Standing.{IsHeldOf, held_lawful, held_known, one_value}

-- ---- where a step of a session was taken, the delivery is

-- with Done where the session has all
abbrev pub is_taken_outcome : Type 0 → Outcome → Type 0
is_taken_outcome HasAll o = ((o ≡ Done) × HasAll) ⊎ ((o ≡ Sent) × (¬ HasAll))

-- what it fetches is complete just where it has all
pub record IsAllOf (HasAll : Type 0) (f : Fetch) : Type 0 where
  pub complete : is_complete f ≡ true → HasAll
  pub incomplete : is_complete f ≡ false → ¬ HasAll

went : (HasAll : Type 0) (r : Replica) (o : Open) (c : DotValue → Bool) (f : Fetch) (asks : List Mail) → IsAllOf HasAll f
    → is_taken_outcome HasAll (went_on r o c f asks).outcome
went HasAll r o c f asks all = by (is_complete f) refl _ _
  where
    by : (b : Bool) → is_complete f ≡ b → (p q : Replica) → is_taken_outcome HasAll (cond b (turn p Done []) (turn q Sent asks)).outcome
    by true e p q = inl (refl, all.complete e)
    by false e p q = inr (refl, all.incomplete e)

-- a message for a replica is taken by its row
pub for_it : (hash_of : List ℕ → ℕ) (own : Held) (r : Replica) (mail : Mail) → is_for r.name mail ≡ true
    → delivered hash_of own r mail ≡ taken hash_of own r mail
for_it hash_of own r mail is = ap (λ b. cond b (taken hash_of own r mail) (ignored r)) is

the_same : {X : Type 0} (o : Option X) (x y : X) → o ≡ Some x → o ≡ Some y → x ≡ y
the_same o x y e f = let same : Some x ≡ Some y = sym e ∙ f in cc

-- the answer of a delivery, by what it comes to
answer_is : (HasAll : Type 0) (hash_of : List ℕ → ℕ) (w v : World) (number name : ℕ) (answer : Answer) (m : Message) → message_at w.messages number ≡ Some m
    → Happens hash_of w (Deliver number name) answer v
    → ((own : Held) → is_taken_outcome HasAll (delivered hash_of own (w.replica name) m.mail).outcome) → IsDoneElseSent answer HasAll
answer_is HasAll hash_of w v number name answer m there happens all = by d (all d.own)
  where
    d : Delivered hash_of w number name answer v
    d = delivery hash_of w v number name answer happens

    by : (d : Delivered hash_of w number name answer v) → is_taken_outcome HasAll (delivered hash_of d.own (w.replica name) m.mail).outcome
        → IsDoneElseSent answer HasAll
    by d taken =
        let one : m ≡ d.message = the_same (message_at w.messages number) m d.message there d.there in
        let same : (delivered hash_of d.own (w.replica name) m.mail).outcome ≡ d.outcome =
        ap (λ (x : Message). (delivered hash_of d.own (w.replica name) x.mail).outcome) one ∙ ap (λ (t : Turn). t.outcome) d.step in
        either (subst (is_taken_outcome HasAll) same taken)
      where
        either : is_taken_outcome HasAll d.outcome → IsDoneElseSent answer HasAll
        either (inl (e, has)) = inl (d.answers ∙ ap Came e, has)
        either (inr (e, lacks)) = inr (d.answers ∙ ap Came e, lacks)

-- ---- an opening

pub opening_taken_by : (HasAll : Type 0) (hash_of : List ℕ → ℕ) (own : Held) (r : Replica) (s : SessionValue) (context : DotValue → Bool)
    (root : Option (List ℕ))
    (o : Open) (f : Fetch) → s.asker ≡ r.name
    → open_at r.sessions s ≡ Some o → o.accepted ≡ None → take_opening hash_of o.own o.seen context root ≡ fetch.Took f → IsAllOf HasAll f
    → is_taken_outcome HasAll (delivered hash_of own r (Opening s context root)).outcome
opening_taken_by HasAll hash_of own r s context root o f here there first took has =
    let all : delivered hash_of own r (Opening s context root) ≡ went_on r o context f (asks_of o.session f) =
    for_it hash_of own r (Opening s context root) (eq-eqb s.asker r.name here)
    ∙ ap (took_opening hash_of r context root) there
    ∙ ap (took_first hash_of r o context root) first
    ∙ ap (opening_taken hash_of r o context) took in
    subst (λ (t : Turn). is_taken_outcome HasAll t.outcome) (sym all) (went HasAll r o context f (asks_of o.session f) has)

pub takes_openings : TakesOpenings
takes_openings hash_of events w runs number name m s context root o there mail open_there first no_clash answer v happens =
    let put = all_put hash_of events w runs in
    let puts = put.0 in
    let ties = put.1.ties in
    let found = found_open (w.replica name).sessions s o open_there in
    let tie = ties.sessions name o found.0 in
    let shown : MailTie hash_of (SnapOf puts) (AskedOf puts) (SendsOf puts) (Opening s context root) m.of =
    subst (λ x. MailTie hash_of (SnapOf puts) (AskedOf puts) (SendsOf puts) x m.of) mail (ties.messages number m there) in
    let fits = opening hash_of o.own m.of.map o.seen context (held_lawful puts o.own o.seen tie.asked) no_clash (held_known puts m.of.map context shown.0) in
    let took : take_opening hash_of o.own o.seen context root ≡ fetch.Took fits.0 = ap (take_opening hash_of o.own o.seen context) shown.1 ∙ fits.1 in
    let here : s.asker ≡ (w.replica name).name = ap (λ (x : SessionValue). x.asker) (sym found.1) ∙ tie.asker ∙ sym (ties.named name) in
    let law = fetching hash_of o.own m.of.map o.seen context [] fits.0 (held_lawful puts o.own o.seen tie.asked) no_clash fits.1 in
    let HasAll : Type 0 = (p digest : List ℕ) → ¬ Differ hash_of o.own m.of.map p digest in
    let has : IsAllOf HasAll fits.0 = record {
      complete = λ e. differ_nowhere hash_of o.own m.of.map (complete_waits hash_of o.own m.of.map o.seen context [] fits.0 law e);
      incomplete = λ e nowhere. incomplete_waits hash_of o.own m.of.map o.seen context [] fits.0 law e (none_waits_first hash_of o.own m.of.map nowhere);
    } in
    answer_is HasAll hash_of w v number name answer m there happens
    (λ own. subst (λ x. is_taken_outcome HasAll (delivered hash_of own (w.replica name) x).outcome) (sym mail)
    (opening_taken_by HasAll hash_of own (w.replica name) s context root o fits.0 here open_there first took has))

-- ---- a page

pub page_taken_by : (HasAll : Type 0) (hash_of : List ℕ → ℕ) (own : Held) (r : Replica) (s : SessionValue) (sent : SentValue) (o : Open)
    (a : Accepted) (f : Fetch)
    → s.asker ≡ r.name
    → open_at r.sessions s ≡ Some o → o.accepted ≡ Some a → take_page hash_of o.own o.seen a.context a.fetch sent.prefix sent.page sent.values ≡ fetch.Took f
    → IsAllOf HasAll f
    → is_taken_outcome HasAll (delivered hash_of own r (Page s sent)).outcome
page_taken_by HasAll hash_of own r s sent o a f here there accepted took has =
    let all : delivered hash_of own r (Page s sent) ≡ went_on r o a.context f (asks_for o.session (child_prefixes hash_of o sent)) =
    for_it hash_of own r (Page s sent) (eq-eqb s.asker r.name here)
    ∙ ap (took_page hash_of r sent) there
    ∙ ap (took_further hash_of r o sent) accepted
    ∙ ap (page_taken hash_of r o a.context sent) took in
    subst (λ (t : Turn). is_taken_outcome HasAll t.outcome) (sym all) (went HasAll r o a.context f (asks_for o.session (child_prefixes hash_of o sent)) has)

pub takes_pages : TakesPages
takes_pages hash_of events w runs name s o a open_there accepted no_clash p digest waits =
    let put = all_put hash_of events w runs in
    let puts = put.0 in
    let ties = put.1.ties in
    let found = found_open (w.replica name).sessions s o open_there in
    let tie = ties.sessions name o found.0 in
    let theirs = (w.accepted s).map in
    let fetched = tie.fetched a accepted in
    let snap : IsHeldOf puts theirs a.context = subst (λ u. IsHeldOf puts (w.accepted u).map a.context) found.1 fetched.0 in
    let got : Fetched hash_of o.own o.seen a.context (digest_at hash_of theirs []) (w.taken s) a.fetch =
    subst (λ u. Fetched hash_of o.own o.seen a.context (digest_at hash_of (w.accepted u).map []) (w.taken u) a.fetch) found.1 fetched.1 in
    let one = one_value puts put.1.one o.own theirs o.seen a.context tie.asked snap hash_of (w.taken s) no_clash in
    let lawful = held_lawful puts o.own o.seen tie.asked in
    let fits = fitting hash_of o.own theirs o.seen a.context (w.taken s) a.fetch lawful no_clash (held_known puts theirs a.context snap)
    one got p digest waits in
    let sent = sent_of o.seen hash_of theirs p fits.0 in
    let takings = taking_of sent ∷ w.taken s in
    let law = fetching hash_of o.own theirs o.seen a.context takings fits.2.0 lawful
    (theirs_clean hash_of o.own theirs o.seen p fits.0 fits.1 (w.taken s) no_clash) (a.fetch, got, fits.2.1) in
    let HasAll : Type 0 = NoneWaits hash_of o.own theirs takings in
    let has : IsAllOf HasAll fits.2.0 = record {
      complete = complete_waits hash_of o.own theirs o.seen a.context takings fits.2.0 law;
      incomplete = incomplete_waits hash_of o.own theirs o.seen a.context takings fits.2.0 law;
    } in
    let here : s.asker ≡ (w.replica name).name = ap (λ (x : SessionValue). x.asker) (sym found.1) ∙ tie.asker ∙ sym (ties.named name) in (
      fits.0,
      fits.1,
      λ number m there mail answer v happens.
          answer_is HasAll hash_of w v number name answer m there happens
          (λ own. subst (λ x. is_taken_outcome HasAll (delivered hash_of own (w.replica name) x).outcome) (sym mail)
          (page_taken_by HasAll hash_of own (w.replica name) s sent o a fits.2.0 here open_there accepted fits.2.1 has)),
    )

-- ---- an ask

told_by : (hash_of : List ℕ → ℕ) (own : Held) (r : Replica) (s : SessionValue) (p : List ℕ) (k : Kept) (page : PageValue) → s.answerer ≡ r.name
    → kept_at r.kept s ≡ Some k → page_at hash_of k.map p ≡ Some page
    → delivered hash_of own r (Ask s p) ≡ turn r Sent (page_for hash_of s k p page ∷ [])
told_by hash_of own r s p k page here there page_there =
    for_it hash_of own r (Ask s p) (eq-eqb s.answerer r.name here) ∙ ap (took_ask hash_of r s p) there ∙ ap (answered hash_of r s k p) page_there

pub tells_pages : TellsPages
tells_pages hash_of events w runs number name m s p k page there mail kept_there page_there answer v happens =
    by (delivery hash_of w v number name answer happens)
  where
    by : Delivered hash_of w number name answer v
        → (answer ≡ Came Sent) × (v.messages ≡ w.messages ++ record { mail = page_for hash_of s k p page; of = no_snapshot } ∷ [])
    by d =
        let ties = told hash_of events w runs in
        let found = found_kept (w.replica name).kept s k kept_there in
        let here : s.answerer ≡ (w.replica name).name = ap (λ (x : SessionValue). x.answerer) (sym found.1) ∙ (ties.kept name k found.0).answerer
        ∙ sym (ties.named name) in
        let one : d.message.mail ≡ Ask s p = ap (λ (x : Message). x.mail) (the_same (message_at w.messages number) d.message m d.there there) ∙ mail in
        let all : turn d.new d.outcome d.out ≡ turn (w.replica name) Sent (page_for hash_of s k p page ∷ []) =
        sym d.step ∙ ap (delivered hash_of d.own (w.replica name)) one ∙ told_by hash_of d.own (w.replica name) s p k page here kept_there page_there in
        let u = takes name (w.replica name) d.message.mail d.message.of d.outcome w in (
          d.answers ∙ ap (λ (t : Turn). Came t.outcome) all,
          ap (λ (x : World). x.messages) d.after
              ∙ ap (λ (t : Turn). u.messages ++ map (sent_as [] u.kept t.new.kept) t.replies) all
              ∙ ap (λ ms. ms ++ record { mail = page_for hash_of s k p page; of = no_snapshot } ∷ [])
              (same_messages w name (w.replica name) d.message.mail d.message.of d.outcome),
        )
