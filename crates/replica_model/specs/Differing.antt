-- What the open sessions of a world fetch and ask for, told by where the maps differ: the own one, and that of the snapshot that the accepted
-- opening shows. Of this project. Each is so unless pages or values that the session itself met clash, whatever other sessions met.
use Rattle.std.specs.Prelude.{◌≡◌, ◌↔◌, ℕ, Bool, List, [], ◌∷◌, ◌++◌, map, Option, Some}
use Rattle.std.specs.List.{Contains}
use Rattle.std.specs.List.Sorted.{IsStrictlySortedBy}
use Rattle.dots.specs.Dot.{DotValue}
use Rattle.hash_path.specs.Path.{prefix_cmp}
use Rattle.wire_form.specs.Sent.{SentValue}
use Rattle.wire_form.specs.Session.{SessionValue}
use Rattle.sync_model.specs.Differ.{Held, Differ}
use Rattle.sync_model.specs.Laws.{NoClash, IsFetched}
use Rattle.replica_model.specs.Delivery.{Sent}
use Rattle.replica_model.specs.Mail.{Opening, Ask, Page}
use Rattle.replica_model.specs.Replica.{Open, Accepted, open_at}
use Rattle.replica_model.specs.Step.{Came}
use Rattle.replica_model.specs.World.{World, Event, Deliver, Message, message_at, no_snapshot, taking_of, nothing, Happens, Runs}

-- a session that accepted an opening has taken just pages of that snapshot, with the values that it lacked, each once; and it waits for just the
-- prefixes where the maps differ, which were not taken and all above which were
abbrev pub SessionsFetch : Type 0
SessionsFetch = (hash_of : List ℕ → ℕ) (events : List Event) (w : World) → Runs hash_of nothing events w
    → (name : ℕ) (o : Open) (a : Accepted) → Contains (w.replica name).sessions o → o.accepted ≡ Some a
    → NoClash hash_of o.own (w.accepted o.session).map (w.taken o.session)
    → IsFetched hash_of o.own (w.accepted o.session).map o.seen a.context (w.taken o.session) a.fetch

-- these are just the prefixes one index further where the maps differ, and they ascend by that index, each once
pub record AreChildren (hash_of : List ℕ → ℕ) (own theirs : Held) (p : List ℕ) (prefixes : List (List ℕ)) : Type 0 where
  pub just : (q : List ℕ) → Contains prefixes q ↔ ((i : ℕ) × (q ≡ p ++ i ∷ []) × ((d : List ℕ) × Differ hash_of own theirs q d))
  pub ascend : IsStrictlySortedBy prefix_cmp prefixes

-- the asks of a session for these prefixes
abbrev pub asks_at : SessionValue → List (List ℕ) → List Message
asks_at s prefixes = map (λ p. record { mail = Ask s p; of = no_snapshot }) prefixes

-- a session that takes an opening and goes on asks for the root
abbrev pub OpeningsAsk : Type 0
OpeningsAsk = (hash_of : List ℕ → ℕ) (events : List Event) (w v : World) → Runs hash_of nothing events w
    → (number name : ℕ) (m : Message) (s : SessionValue) (context : DotValue → Bool) (root : Option (List ℕ)) → message_at w.messages number ≡ Some m
    → m.mail ≡ Opening s context root
    → Happens hash_of w (Deliver number name) (Came Sent) v → v.messages ≡ w.messages ++ asks_at s ([] ∷ [])

-- and one that takes a page and goes on asks for the children of its prefix where the maps differ, by ascending index
abbrev pub PagesAsk : Type 0
PagesAsk = (hash_of : List ℕ → ℕ) (events : List Event) (w v : World) → Runs hash_of nothing events w
    → (number name : ℕ) (m : Message) (s : SessionValue) (sent : SentValue) (o : Open) → message_at w.messages number ≡ Some m → m.mail ≡ Page s sent
    → open_at (w.replica name).sessions s ≡ Some o → NoClash hash_of o.own (w.accepted s).map (taking_of sent ∷ w.taken s)
    → Happens hash_of w (Deliver number name) (Came Sent) v
    → (prefixes : List (List ℕ)) × AreChildren hash_of o.own (w.accepted s).map sent.prefix prefixes × (v.messages ≡ w.messages ++ asks_at s prefixes)
