-- That the turns of a replica's sessions, and of the snapshots that it keeps, are those of the model, and that its lists of them change
-- as those of the model do. Of this project. A law is proved where a function of src/ names it.
use Rattle.std.specs.Prelude.{◌≡◌, ℕ, ◌<◌, ◌==◌, Bool, true, false, List, [], ◌∷◌, map, set, Option, Some, None}
use Rattle.std.specs.List.{All, slice_get, remove}
use Rattle.std.specs.List.Sorted.{IsStrictlySortedBy}
use Rattle.std.specs.Option.{option_map}
use Rattle.std.specs.Ordering.{nat_cmp}
use Rattle.causal_context.specs.Context.{ContextValue, has}
use Rattle.wire_form.specs.Sent.{SentValue}
use Rattle.wire_form.specs.Session.{SessionValue, same_session}
use Rattle.sync_protocol.specs.Answering as answering
use Rattle.sync_protocol.specs.Answering.{snapshot_of, kept_after, told_of, opening_of, answer_of}
use Rattle.sync_protocol.specs.Asking.{AskerValue, is_over, stage_with}
use Rattle.sync_protocol.specs.Snapshot.{SnapshotValue, KeptValue}
use Rattle.sync_protocol.specs.Turning as turning
use Rattle.sync_protocol.specs.Turning.{StateAndStep, gone_at, opening_at, page_at_stage}
use Rattle.replica_model.specs.Mail.{mail_of}
use Rattle.replica_model.specs.Replica as model
use Rattle.replica_model.specs.Replica.{Replica, open_at, open_numbered, kept_at, advanced, without_session}
use Rattle.replica_model.specs.Delivery.{turn, Sent, took_gone, took_hello, took_ask, took_first, took_further}
use Rattle.replica_model.specs.Step.{again}
use Rattle.replica_core.specs.Meaning.{accepted_of, open_of, kept_of}
use Rattle.replica_core.specs.Turned.{turned, asked_turn}

-- ---- lists of own sessions

module _ {Hash : Type 0} where
  -- the first of the sessions that passes the test is this, at this place; and none passes it
  abbrev pub IsFirstAt : (AskerValue Hash → Bool) → List (AskerValue Hash) → ℕ → AskerValue Hash → Type 0
  IsFirstAt test list i a =
      (slice_get list i ≡ Some a) × (test a ≡ true) × ((j : ℕ) (b : AskerValue Hash) → j < i → slice_get list j ≡ Some b → test b ≡ false)

  abbrev pub NoneIs : (AskerValue Hash → Bool) → List (AskerValue Hash) → Type 0
  NoneIs test list = (j : ℕ) (b : AskerValue Hash) → slice_get list j ≡ Some b → test b ≡ false

  -- the sessions stand by their numbers, each of which is another
  abbrev pub AreApart : List (AskerValue Hash) → Type 0
  AreApart list = IsStrictlySortedBy nat_cmp (map (λ a. a.session.number) list)

module _ (Hash : Type 0) where
  -- ---- what a session that goes on comes to

  abbrev pub OpeningsAreTied : Type 0
  OpeningsAreTied = (hash_of : List ℕ → ℕ) (r : Replica) (a : AskerValue Hash) → is_over a.stage ≡ false
      → (context : ContextValue) (root : Option (List ℕ)) (t : StateAndStep)
      → t ≡ opening_at hash_of a.session (stage_with a.own a.seen a.stage) context root
      → took_first hash_of r (open_of a) (has context) root (accepted_of a.stage) ≡ turned r t.0 t.1

  abbrev pub PagesAreTied : Type 0
  PagesAreTied = (hash_of : List ℕ → ℕ) (r : Replica) (a : AskerValue Hash) → is_over a.stage ≡ false
      → (sent : SentValue) (t : StateAndStep) → t ≡ page_at_stage hash_of a.session (stage_with a.own a.seen a.stage) sent
      → took_further hash_of r (open_of a) sent (accepted_of a.stage) ≡ turned r t.0 t.1

  abbrev pub GonesAreTied : Type 0
  GonesAreTied = (r : Replica) (a : AskerValue Hash) → is_over a.stage ≡ false
      → (t : StateAndStep) → t ≡ gone_at a.session (stage_with a.own a.seen a.stage) → took_gone r (Some (open_of a)) ≡ turned r t.0 t.1

  -- what is sent again
  abbrev pub RetriesAreTied : Type 0
  RetriesAreTied = (a : AskerValue Hash) → is_over a.stage ≡ false
      → again (open_of a) (accepted_of a.stage) ≡ map mail_of (turning.again a.session (stage_with a.own a.seen a.stage))

  -- ---- the kept snapshots

  -- the one that is found, and those that are kept where one more is
  abbrev pub KeptAreTied : Type 0
  KeptAreTied = (kept : KeptValue Hash) (s : SessionValue) → kept_at (map kept_of kept) s
      ≡ option_map (λ k. kept_of (s, k)) (snapshot_of kept s)

  abbrev pub KeepingIsTied : Type 0
  KeepingIsTied = (kept : KeptValue Hash) (s : SessionValue) (new : SnapshotValue Hash)
      → map kept_of (answering.keeping s new kept) ≡ model.keeping (kept_of (s, new)) (map kept_of kept)

  -- ---- the own sessions

  -- the first of a session is the one that the model finds, and where there is none it finds none
  abbrev pub OpensAreFound : Type 0
  OpensAreFound = (list : List (AskerValue Hash)) (s : SessionValue) (i : ℕ) (a : AskerValue Hash)
      → IsFirstAt (λ b. same_session b.session s) list i a → open_at (map open_of list) s ≡ Some (open_of a)

  abbrev pub OpensAreMissed : Type 0
  OpensAreMissed = (list : List (AskerValue Hash)) (s : SessionValue)
      → NoneIs (λ b. same_session b.session s) list → open_at (map open_of list) s ≡ None

  -- the same by their numbers
  abbrev pub NumbersAreFound : Type 0
  NumbersAreFound = (list : List (AskerValue Hash)) (number i : ℕ) (a : AskerValue Hash)
      → IsFirstAt (λ b. b.session.number == number) list i a → open_numbered (map open_of list) number ≡ Some (open_of a)

  abbrev pub NumbersAreMissed : Type 0
  NumbersAreMissed = (list : List (AskerValue Hash)) (number : ℕ)
      → NoneIs (λ b. b.session.number == number) list → open_numbered (map open_of list) number ≡ None

  -- a session goes on at its place, and is taken out there; and they stay apart
  abbrev pub AdvancesInPlace : Type 0
  AdvancesInPlace = (list : List (AskerValue Hash)) (i : ℕ) (a b : AskerValue Hash)
      → AreApart list → slice_get list i ≡ Some a → b.session ≡ a.session
      → (advanced (open_of b) (map open_of list) ≡ map open_of (set list i b)) × AreApart (set list i b)

  abbrev pub ClosesInPlace : Type 0
  ClosesInPlace = (list : List (AskerValue Hash)) (i : ℕ) (a : AskerValue Hash)
      → AreApart list → slice_get list i ≡ Some a
      → (without_session a.session (map open_of list) ≡ map open_of (remove list i)) × AreApart (remove list i)

module _ {Hash : Type 0} where
  -- the keys' paths of all kept snapshots are by one hash
  abbrev pub AreOf : Hash → KeptValue Hash → Type 0
  AreOf hash kept = All (λ e. e.1.hash ≡ hash) kept

module _ {Hash : Type 0} (hash_by : Hash → List ℕ → ℕ) where
  -- a hello, where the live state is of the dots of the snapshot that would be kept, and an ask
  abbrev pub HellosAreTied : Type 0
  HellosAreTied = (hash : Hash) (kept : KeptValue Hash) (s : SessionValue) (new : SnapshotValue Hash) (r : Replica)
      → AreOf hash kept → new.hash ≡ hash → r.kept ≡ map kept_of kept → r.live.has ≡ has new.context
      → took_hello (hash_by hash) new.map r s (has new.seen) (kept_at r.kept s)
      ≡ turn (record r { kept = map kept_of (kept_after kept s new) }) Sent (mail_of (opening_of hash_by s (told_of kept s new)) ∷ [])

  abbrev pub AsksAreTied : Type 0
  AsksAreTied = (hash : Hash) (kept : KeptValue Hash) (s : SessionValue) (prefix : List ℕ) (r : Replica)
      → AreOf hash kept → r.kept ≡ map kept_of kept
      → took_ask (hash_by hash) r s prefix (kept_at r.kept s) ≡ asked_turn r (answer_of hash_by kept s prefix)
