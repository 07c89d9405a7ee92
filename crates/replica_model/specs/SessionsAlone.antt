-- The sessions of a replica by itself, whatever else comes to it: forged messages, other sessions, pages that clash there. Nothing is asked of what
-- the messages stand for. Of this project.
use Rattle.std.specs.Prelude.{◌≡◌, ◌⊎◌, ℕ, ◌+◌, Bool, List, [], ◌∷◌, ◌++◌, Option, Some}
use Rattle.std.specs.List.{Contains}
use Rattle.dots.specs.Dot.{DotValue}
use Rattle.op_model.specs.Meaning.{greater}
use Rattle.op_model.specs.State.{join}
use Rattle.prefix_digest.specs.MapOf.{IsMapOf}
use Rattle.prefix_digest.specs.Page.{digest_at}
use Rattle.sync_model.specs.Closing.{held_state, IsBelow}
use Rattle.sync_model.specs.Differ.{Held}
use Rattle.sync_model.specs.Laws.{IsLawfulMap, Fetched, IsFetched, NoClash}
use Rattle.wire_form.specs.Session.{SessionValue}
use Rattle.replica_model.specs.Alone.{Deed, Calls, Comes, Befalls, RunsAlone}
use Rattle.replica_model.specs.Delivery.{Sent, Done}
use Rattle.replica_model.specs.Mail.{Mail, Opening, IsTurnOf}
use Rattle.replica_model.specs.Replica.{Open, Accepted}
use Rattle.replica_model.specs.Sessions.{TookAll, taken_with}
use Rattle.replica_model.specs.Step.{Ask, Answer, Came}
use Rattle.replica_model.specs.World.{World, Snapshot, nothing}

module _ (hash_of : List ℕ → ℕ) (name : ℕ) where
  -- A session was opened by an ask, which was one of the deeds: this map stood for the live state just before, and it knew these dots.
  pub record IsAskAlone (deeds : List Deed) (s : SessionValue) (own : Held) (known : DotValue → Bool) : Type 0 where
    pub asker : s.asker ≡ name
    pub front : List Deed
    pub later : List Deed
    pub split : deeds ≡ front ++ Calls (Ask s.answerer) ∷ later
    pub before : World
    pub runs : RunsAlone hash_of name nothing front before
    pub numbered : s.number ≡ (before.replica name).opened + 1
    pub own_then : IsMapOf own (before.replica name).live
    pub known_then : known ≡ (before.replica name).live.has

  -- An opening of the session, with these known dots and this root digest, was one of the deeds, and was taken.
  pub record TookOpening (deeds : List Deed) (s : SessionValue) (context : DotValue → Bool) (root : Option (List ℕ)) : Type 0 where
    pub front : List Deed
    pub of : Snapshot
    pub later : List Deed
    pub split : deeds ≡ front ++ Comes (Opening s context root) of ∷ later
    pub before : World
    pub runs : RunsAlone hash_of name nothing front before
    pub answer : Answer
    pub after : World
    pub taken : (answer ≡ Came Sent) ⊎ (answer ≡ Came Done)
    pub befell : Befalls hash_of name before (Comes (Opening s context root) of) answer after

  -- What an open session has fetched: pages under the opening that it took. So for each map with the root digest of that opening, unless pages or
  -- values of the two maps and those taken clash: these are just pages of that map, and what is waited for is where the maps differ.
  pub record FetchesAlone (deeds : List Deed) (w : World) (o : Open) (a : Accepted) : Type 0 where
    pub root : Option (List ℕ)
    pub opening : TookOpening deeds o.session a.context root
    pub fetched : Fetched hash_of o.own o.seen a.context root (w.taken o.session) a.fetch
    pub pages : (theirs : Held) → root ≡ digest_at hash_of theirs [] → NoClash hash_of o.own theirs (w.taken o.session)
        → IsFetched hash_of o.own theirs o.seen a.context (w.taken o.session) a.fetch

  -- What an open session is: the replica's own, opened by an ask, of a map that is below the live state ever since.
  pub record IsSessionAlone (deeds : List Deed) (w : World) (o : Open) : Type 0 where
    pub asked : IsAskAlone deeds o.session o.own o.seen
    pub below : IsBelow (held_state o.own o.seen) (w.replica name).live
    pub fetching : (a : Accepted) → o.accepted ≡ Some a → FetchesAlone deeds w o a

  -- How a message ends a session with Done: it is an opening or a page of a session that is open. For each map with the root digest of the
  -- opening that the session took, unless two pages or two values that this session met have one SHA-256: it took a page at just each prefix
  -- where the maps differ, once, and joins that map, if it is lawful, under the dots that the opening knows, into the live state.
  pub record IsEndAlone (deeds : List Deed) (w v : World) (mail : Mail) (of : Snapshot) : Type 0 where
    pub ended : Open
    pub was_open : Contains (w.replica name).sessions ended
    pub turn : IsTurnOf ended.session mail
    pub asked : IsAskAlone deeds ended.session ended.own ended.seen
    pub context : DotValue → Bool
    pub root : Option (List ℕ)
    pub opening : TookOpening (deeds ++ Comes mail of ∷ []) ended.session context root
    pub all : (theirs : Held) → root ≡ digest_at hash_of theirs [] → NoClash hash_of ended.own theirs (taken_with w mail)
        → TookAll hash_of ended.own theirs ended.seen (taken_with w mail)
    pub joins : (theirs : Held) → IsLawfulMap theirs → root ≡ digest_at hash_of theirs [] → NoClash hash_of ended.own theirs (taken_with w mail)
        → (v.replica name).live ≡ join greater (w.replica name).live (held_state theirs context)

-- ---- the laws

abbrev pub SessionsAlone : Type 0
SessionsAlone = (hash_of : List ℕ → ℕ) (name : ℕ) (deeds : List Deed) (w : World) → RunsAlone hash_of name nothing deeds w
    → (o : Open) → Contains (w.replica name).sessions o → IsSessionAlone hash_of name deeds w o

-- A session has one ask, and so one own map and one context of what was known then; and it takes one opening. So these are the ask and the
-- opening of the session.
abbrev pub OneAskAlone : Type 0
OneAskAlone = (hash_of : List ℕ → ℕ) (name : ℕ) (deeds : List Deed) (s : SessionValue) (own own' : Held) (known known' : DotValue → Bool)
    → IsAskAlone hash_of name deeds s own known → IsAskAlone hash_of name deeds s own' known' → (own ≡ own') × (known ≡ known')

abbrev pub OneOpeningAlone : Type 0
OneOpeningAlone = (hash_of : List ℕ → ℕ) (name : ℕ) (deeds : List Deed) (s : SessionValue) (context context' : DotValue → Bool) (root root' : Option (List ℕ))
    → (one : TookOpening hash_of name deeds s context root) (other : TookOpening hash_of name deeds s context' root')
    → (context ≡ context') × (root ≡ root') × (one.of ≡ other.of)

abbrev pub EndsAlone : Type 0
EndsAlone = (hash_of : List ℕ → ℕ) (name : ℕ) (deeds : List Deed) (w v : World) (mail : Mail) (of : Snapshot) → RunsAlone hash_of name nothing deeds w
    → (answer : Answer) → Befalls hash_of name w (Comes mail of) answer v → answer ≡ Came Done → IsEndAlone hash_of name deeds w v mail of
