-- What an open session of a replica by itself takes.
use Rattle.std.proofs.Common.{◌≡◌, inl, inr, ℕ, List, [], ◌∷◌, Bool, Some, sym, ap, ◌∙◌, subst}
use Rattle.dots.specs.Dot.{DotValue}
use Rattle.wire_form.specs.Session.{SessionValue}
use Rattle.prefix_digest.specs.Page.{digest_at}
use Rattle.sync_model.specs.Differ.{Held, Differ}
use Rattle.sync_model.specs.Laws.{Fetched}
use Rattle.sync_model.proofs.Fetches.{fetching}
use Rattle.sync_model.proofs.Fitted.{fitting, opening}
use Rattle.sync_model.proofs.Lawful.{map_lawful}
use Rattle.replica_model.specs.Alone.{Deed, Comes, Befalls, RunsAlone}
use Rattle.replica_model.specs.Delivery.{Turn}
use Rattle.replica_model.specs.Delivery.{delivered}
use Rattle.replica_model.specs.Laws.{IsDoneElseSent, sent_of}
use Rattle.replica_model.specs.Mail.{Mail, Opening, Page}
use Rattle.replica_model.specs.Replica.{Open, Accepted, open_at}
use Rattle.replica_model.specs.SessionsAlone.{TookOpening}
use Rattle.replica_model.specs.Step.{Answer, Came}
use Rattle.replica_model.specs.World.{World, Snapshot, nothing, taking_of}
use Rattle.replica_model.proofs.Complete.{NoneWaits, complete_waits, incomplete_waits, differ_nowhere, none_waits_first, theirs_clean}
use Rattle.replica_model.proofs.Found.{found_open}
use Rattle.replica_model.proofs.OpeningsAlone.{one_opening_alone}
use Rattle.replica_model.proofs.SessionsAlone.{tied}
use Rattle.replica_model.proofs.Taking.{is_taken_outcome, IsAllOf, opening_taken_by, page_taken_by}
use Rattle.replica_alone.specs.Taking.{TakesOpeningsAlone, TakesPagesAlone}
use Rattle.replica_alone.proofs.Deeds.{CameNow, came_now}

-- ---- where a step of a session was taken, the delivery is

-- the answer of a delivery, by what it comes to
answer_is : (HasAll : Type 0) (hash_of : List ℕ → ℕ) (name : ℕ) (w v : World) (mail : Mail) (of : Snapshot) (answer : Answer)
    → Befalls hash_of name w (Comes mail of) answer v
    → ((own : Held) → is_taken_outcome HasAll (delivered hash_of own (w.replica name) mail).outcome) → IsDoneElseSent answer HasAll
answer_is HasAll hash_of name w v mail of answer befalls all = by (came_now hash_of name w v mail of answer befalls)
  where
    by : CameNow hash_of name w mail of answer v → IsDoneElseSent answer HasAll
    by d = either (subst (λ (t : Turn). is_taken_outcome HasAll t.outcome) d.step (all d.own))
      where
        either : is_taken_outcome HasAll d.outcome → IsDoneElseSent answer HasAll
        either (inl (e, has)) = inl (d.answers ∙ ap Came e, has)
        either (inr (e, lacks)) = inr (d.answers ∙ ap Came e, lacks)

-- ---- an opening

pub takes_openings_alone : TakesOpeningsAlone
takes_openings_alone hash_of name deeds w v runs s o there first context theirs known no_clash of answer befalls =
    let root = digest_at hash_of theirs [] in
    let all = tied hash_of name deeds w runs in
    let found = found_open (w.replica name).sessions s o there in
    let tie = all.sessions o found.0 in
    let lawful = map_lawful o.own _ tie.asked.own_then in
    let fits = opening hash_of o.own theirs o.seen context lawful no_clash known in
    let here : s.asker ≡ (w.replica name).name = ap (λ (x : SessionValue). x.asker) (sym found.1) ∙ tie.asked.asker ∙ sym all.named in
    let law = fetching hash_of o.own theirs o.seen context [] fits.0 lawful no_clash fits.1 in
    let HasAll : Type 0 = (p digest : List ℕ) → ¬ Differ hash_of o.own theirs p digest in
    let has : IsAllOf HasAll fits.0 = record {
      complete = λ e. differ_nowhere hash_of o.own theirs (complete_waits hash_of o.own theirs o.seen context [] fits.0 law e);
      incomplete = λ e nowhere. incomplete_waits hash_of o.own theirs o.seen context [] fits.0 law e (none_waits_first hash_of o.own theirs nowhere);
    } in
    answer_is HasAll hash_of name w v (Opening s context root) of answer befalls
    (λ own. opening_taken_by HasAll hash_of own (w.replica name) s context root o fits.0 here there first fits.1 has)

-- ---- a page

-- what a session has fetched is under the one opening that it took
pub fetched_of : (hash_of : List ℕ → ℕ) (name : ℕ) (deeds : List Deed) (w : World) → RunsAlone hash_of name nothing deeds w → (s : SessionValue) (o : Open)
    (a : Accepted) → open_at (w.replica name).sessions s ≡ Some o → o.accepted ≡ Some a
    → (context : DotValue → Bool) (theirs : Held) → TookOpening hash_of name deeds s context (digest_at hash_of theirs [])
    → Fetched hash_of o.own o.seen a.context (digest_at hash_of theirs []) (w.taken s) a.fetch
fetched_of hash_of name deeds w runs s o a there accepted context theirs took =
    let found = found_open (w.replica name).sessions s o there in
    let was = ((tied hash_of name deeds w runs).sessions o found.0).fetched a accepted in
    let mine : TookOpening hash_of name deeds s a.context was.0 = subst (λ u. TookOpening hash_of name deeds u a.context was.0) found.1 was.1 in
    let root : was.0 ≡ digest_at hash_of theirs [] =
    (one_opening_alone hash_of name deeds s a.context context was.0 (digest_at hash_of theirs []) mine took).1 in
    subst (λ x. Fetched hash_of o.own o.seen a.context x (w.taken s) a.fetch) root
    (subst (λ u. Fetched hash_of o.own o.seen a.context was.0 (w.taken u) a.fetch) found.1 was.2)

pub takes_pages_alone : TakesPagesAlone
takes_pages_alone hash_of name deeds w runs s o a there accepted theirs took known one no_clash p digest waits =
    let all = tied hash_of name deeds w runs in
    let found = found_open (w.replica name).sessions s o there in
    let tie = all.sessions o found.0 in
    let lawful = map_lawful o.own _ tie.asked.own_then in
    let got = fetched_of hash_of name deeds w runs s o a there accepted a.context theirs took in
    let fits = fitting hash_of o.own theirs o.seen a.context (w.taken s) a.fetch lawful no_clash known one got p digest waits in
    let sent = sent_of o.seen hash_of theirs p fits.0 in
    let takings = taking_of sent ∷ w.taken s in
    let law = fetching hash_of o.own theirs o.seen a.context takings fits.2.0 lawful
    (theirs_clean hash_of o.own theirs o.seen p fits.0 fits.1 (w.taken s) no_clash) (a.fetch, got, fits.2.1) in
    let HasAll : Type 0 = NoneWaits hash_of o.own theirs takings in
    let has : IsAllOf HasAll fits.2.0 = record {
      complete = complete_waits hash_of o.own theirs o.seen a.context takings fits.2.0 law;
      incomplete = incomplete_waits hash_of o.own theirs o.seen a.context takings fits.2.0 law;
    } in
    let here : s.asker ≡ (w.replica name).name = ap (λ (x : SessionValue). x.asker) (sym found.1) ∙ tie.asked.asker ∙ sym all.named in (
      fits.0,
      fits.1,
      λ v of answer befalls.
          answer_is HasAll hash_of name w v (Page s sent) of answer befalls
          (λ own. page_taken_by HasAll hash_of own (w.replica name) s sent o a fits.2.0 here there accepted fits.2.1 has),
    )
