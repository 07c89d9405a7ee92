-- What an open session of a replica by itself takes, and what it does not. Of this project.
--
-- No message has the map of its sender. So each law is told for any map with the root digest of the opening.
use Rattle.std.specs.Prelude.{◌≡◌, ℕ, Bool, List, [], ◌∷◌, Some, None}
use Rattle.std.specs.FinMap as finite
use Rattle.dots.specs.Dot.{DotValue}
use Rattle.wire_form.specs.Page.{PageValue}
use Rattle.wire_form.specs.Sent.{SentValue}
use Rattle.wire_form.specs.Session.{SessionValue}
use Rattle.prefix_digest.specs.Page.{page_at, digest_at}
use Rattle.sync_model.specs.Differ.{Held, Differ, Waits}
use Rattle.sync_model.specs.Laws.{TakenAt, NoClash, KnowsEachDot, OneValue}
use Rattle.replica_model.specs.Alone.{Deed, Comes, Befalls, RunsAlone}
use Rattle.replica_model.specs.Delivery.{Mismatch}
use Rattle.replica_model.specs.Laws.{IsDoneElseSent, sent_of, IsPageOf}
use Rattle.replica_model.specs.Mail.{Opening, Page}
use Rattle.replica_model.specs.Replica.{Open, Accepted, open_at}
use Rattle.replica_model.specs.SessionsAlone.{TookOpening}
use Rattle.replica_model.specs.Step.{Answer, Came}
use Rattle.replica_model.specs.World.{World, Snapshot, taking_of, nothing}

-- An open session that accepted no opening takes each opening of it that knows the dots of some map and has its root digest, with Done where that map and
-- the own one differ nowhere, unless pages or values of the two clash.
abbrev pub TakesOpeningsAlone : Type 0
TakesOpeningsAlone = (hash_of : List ℕ → ℕ) (name : ℕ) (deeds : List Deed) (w v : World) → RunsAlone hash_of name nothing deeds w
    → (s : SessionValue) (o : Open) → open_at (w.replica name).sessions s ≡ Some o → o.accepted ≡ None
    → (context : DotValue → Bool) (theirs : Held) → KnowsEachDot context theirs → NoClash hash_of o.own theirs []
    → (of : Snapshot) (answer : Answer) → Befalls hash_of name w (Comes (Opening s context (digest_at hash_of theirs [])) of) answer v
    → IsDoneElseSent answer ((p digest : List ℕ) → ¬ Differ hash_of o.own theirs p digest)

-- One that accepted an opening, for each map that this can be the opening of: one with its root digest, whose dots it knows, and where a dot that
-- stands at one place of that map and of the own one has one value there. Unless pages or values clash of the two maps and of what the session took:
-- that map has a page at each prefix that the session waits for, and the page, with the values that the session had not seen, is taken, with Done where
-- nothing is waited for after it.
abbrev pub TakesPagesAlone : Type 0
TakesPagesAlone = (hash_of : List ℕ → ℕ) (name : ℕ) (deeds : List Deed) (w : World) → RunsAlone hash_of name nothing deeds w
    → (s : SessionValue) (o : Open) (a : Accepted) → open_at (w.replica name).sessions s ≡ Some o → o.accepted ≡ Some a
    → (theirs : Held) → TookOpening hash_of name deeds s a.context (digest_at hash_of theirs []) → KnowsEachDot a.context theirs → OneValue o.own theirs
    → NoClash hash_of o.own theirs (w.taken s) → (p digest : List ℕ) → finite.get a.fetch.waiting p ≡ Some digest
    → (page : PageValue) × (page_at hash_of theirs p ≡ Some page)
    × ((v : World) (of : Snapshot) (answer : Answer) → let sent = sent_of o.seen hash_of theirs p page in
    Befalls hash_of name w (Comes (Page s sent) of) answer v
    → IsDoneElseSent answer ((q d : List ℕ) → ¬ Waits hash_of o.own theirs (TakenAt (taking_of sent ∷ w.taken s)) q d))

-- For each map with the root digest of the opening that an open session accepted: any page but that of the map, at a prefix that the session waits for, is
-- answered Mismatch and leaves all as it is, unless pages or values clash of the two maps and of what the session took, this page among it.
abbrev pub OtherPagesMismatchAlone : Type 0
OtherPagesMismatchAlone = (hash_of : List ℕ → ℕ) (name : ℕ) (deeds : List Deed) (w v : World) → RunsAlone hash_of name nothing deeds w
    → (s : SessionValue) (o : Open) (a : Accepted) → open_at (w.replica name).sessions s ≡ Some o → o.accepted ≡ Some a
    → (sent : SentValue) (digest : List ℕ) → finite.get a.fetch.waiting sent.prefix ≡ Some digest
    → (theirs : Held) → TookOpening hash_of name deeds s a.context (digest_at hash_of theirs []) → NoClash hash_of o.own theirs (taking_of sent ∷ w.taken s)
    → ¬ IsPageOf o.seen hash_of theirs sent
    → (of : Snapshot) (answer : Answer) → Befalls hash_of name w (Comes (Page s sent) of) answer v → (answer ≡ Came Mismatch) × (v ≡ w)
