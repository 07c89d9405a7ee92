-- What the sessions of a replica by itself ask for. Of this project.
use Rattle.std.specs.Prelude.{◌≡◌, ℕ, Bool, List, [], ◌∷◌, ◌++◌, Option, Some}
use Rattle.dots.specs.Dot.{DotValue}
use Rattle.wire_form.specs.Sent.{SentValue}
use Rattle.wire_form.specs.Session.{SessionValue}
use Rattle.prefix_digest.specs.Page.{digest_at}
use Rattle.sync_model.specs.Differ.{Held}
use Rattle.sync_model.specs.Laws.{NoClash}
use Rattle.replica_model.specs.Alone.{Deed, Comes, Befalls, RunsAlone}
use Rattle.replica_model.specs.Delivery.{Sent}
use Rattle.replica_model.specs.Differing.{AreChildren, asks_at}
use Rattle.replica_model.specs.Mail.{Opening, Page}
use Rattle.replica_model.specs.Replica.{Open, open_at}
use Rattle.replica_model.specs.SessionsAlone.{TookOpening}
use Rattle.replica_model.specs.Step.{Came}
use Rattle.replica_model.specs.World.{World, Snapshot, taking_of, nothing}

-- a session that takes an opening and goes on asks for the root
abbrev pub OpeningsAskAlone : Type 0
OpeningsAskAlone = (hash_of : List ℕ → ℕ) (name : ℕ) (deeds : List Deed) (w v : World) → RunsAlone hash_of name nothing deeds w
    → (s : SessionValue) (context : DotValue → Bool) (root : Option (List ℕ)) (of : Snapshot)
    → Befalls hash_of name w (Comes (Opening s context root) of) (Came Sent) v → v.messages ≡ w.messages ++ asks_at s ([] ∷ [])

-- One that takes a page and goes on asks for some prefixes, whatever clashes. For each map with the root digest of the opening that it took, unless
-- pages or values clash of the two maps and of what the session took, this page among it: these are just the children of the page's prefix where that
-- map and the own one differ, and they ascend.
abbrev pub PagesAskAlone : Type 0
PagesAskAlone = (hash_of : List ℕ → ℕ) (name : ℕ) (deeds : List Deed) (w v : World) → RunsAlone hash_of name nothing deeds w
    → (s : SessionValue) (sent : SentValue) (of : Snapshot) (o : Open) → open_at (w.replica name).sessions s ≡ Some o
    → Befalls hash_of name w (Comes (Page s sent) of) (Came Sent) v
    → (prefixes : List (List ℕ)) × (v.messages ≡ w.messages ++ asks_at s prefixes)
    × ((context : DotValue → Bool) (theirs : Held) → TookOpening hash_of name deeds s context (digest_at hash_of theirs [])
    → NoClash hash_of o.own theirs (taking_of sent ∷ w.taken s) → AreChildren hash_of o.own theirs sent.prefix prefixes)
