-- The snapshots that a replica by itself keeps, and what hellos and asks are told of them. Of this project.
use Rattle.std.specs.Prelude.{◌≡◌, ℕ, Bool, List, [], ◌∷◌, ◌++◌, Option, Some, None}
use Rattle.std.specs.List.{Contains}
use Rattle.dots.specs.Dot.{DotValue}
use Rattle.op_model.specs.Operation.{Operation}
use Rattle.wire_form.specs.Page.{PageValue}
use Rattle.wire_form.specs.Session.{SessionValue}
use Rattle.prefix_digest.specs.MapOf.{IsMapOf}
use Rattle.prefix_digest.specs.Page.{page_at, digest_at}
use Rattle.sync_model.specs.Differ.{Held}
use Rattle.replica_model.specs.Alone.{Deed, Comes, Befalls, RunsAlone}
use Rattle.replica_model.specs.Delivery.{Sent}
use Rattle.replica_model.specs.Laws.{sent_of}
use Rattle.replica_model.specs.Mail.{Hello, Opening, Ask, Page}
use Rattle.replica_model.specs.Replica.{Kept, kept_at}
use Rattle.replica_model.specs.Step.{Answer, Came}
use Rattle.replica_model.specs.World.{World, Message, Snapshot, message_at, no_snapshot, nothing}

-- A snapshot for a session was taken of what the replica was just before one of the deeds: a hello of the session came and told these dots, and no snapshot
-- was kept for it yet. So much had the replica seen then, for its live state this map stood, and it knew these dots.
pub record IsSnapshotAlone (hash_of : List ℕ → ℕ) (name : ℕ) (deeds : List Deed) (s : SessionValue) (told : DotValue → Bool) (seen : List Operation)
    (map : Held) (context : DotValue → Bool) : Type 0 where
  pub answerer : s.answerer ≡ name
  pub front : List Deed
  pub of : Snapshot
  pub later : List Deed
  pub split : deeds ≡ front ++ Comes (Hello s told) of ∷ later
  pub before : World
  pub runs : RunsAlone hash_of name nothing front before
  pub none_kept : kept_at (before.replica name).kept s ≡ None
  pub seen_then : seen ≡ before.seen name
  pub map_then : IsMapOf map (before.replica name).live
  pub known_then : context ≡ (before.replica name).live.has

-- ---- the laws

-- each kept snapshot is so, whatever the replica wrote since, and it goes by the dots that its hello told
abbrev pub SnapshotsAreForAlone : Type 0
SnapshotsAreForAlone = (hash_of : List ℕ → ℕ) (name : ℕ) (deeds : List Deed) (w : World) → RunsAlone hash_of name nothing deeds w
    → (k : Kept) → Contains (w.replica name).kept k → IsSnapshotAlone hash_of name deeds k.session k.seen (w.kept k.session) k.map k.context

-- each opening that it sent is that of such a snapshot, with the root digest of its map
abbrev pub OpeningsAreAlone : Type 0
OpeningsAreAlone = (hash_of : List ℕ → ℕ) (name : ℕ) (deeds : List Deed) (w : World) → RunsAlone hash_of name nothing deeds w
    → (number : ℕ) (m : Message) → message_at w.messages number ≡ Some m
    → (s : SessionValue) (context : DotValue → Bool) (root : Option (List ℕ)) → m.mail ≡ Opening s context root
    → ((told : DotValue → Bool) × IsSnapshotAlone hash_of name deeds s told m.of.seen m.of.map context) × (root ≡ digest_at hash_of m.of.map [])

-- an ask is told the page of the kept snapshot, with the values that the asker had not seen, by what its hello told
abbrev pub TellsPagesAlone : Type 0
TellsPagesAlone = (hash_of : List ℕ → ℕ) (name : ℕ) (deeds : List Deed) (w v : World) → RunsAlone hash_of name nothing deeds w
    → (s : SessionValue) (p : List ℕ) (k : Kept) (page : PageValue) → kept_at (w.replica name).kept s ≡ Some k → page_at hash_of k.map p ≡ Some page
    → (of : Snapshot) (answer : Answer) → Befalls hash_of name w (Comes (Ask s p) of) answer v
    → (answer ≡ Came Sent)
    × (v.messages ≡ w.messages ++ record { mail = Page s (sent_of k.seen hash_of k.map p page); of = no_snapshot } ∷ [])
