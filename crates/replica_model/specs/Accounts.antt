-- That the account of what happened is that of the world to which it led. Of this project.
use Rattle.std.specs.Prelude.{◌≡◌, ◌↔◌, ℕ, ◌+◌, List, [], ◌∷◌, ◌++◌, length, map}
use Rattle.replica_model.specs.World.{World, nothing, Happens, Runs}
use Rattle.replica_model.specs.World as world
use Rattle.replica_model.specs.Happened.{Happened, events_in, Leads}
use Rattle.replica_model.specs.Seen.{Account, account, Unclashed}
use Rattle.replica_model.specs.Spelled.{AreSpelled}

-- the same replicas are there, each has seen the same, and what the account tells of clashed just where something did
pub record IsAccountOf (hash_of : List ℕ → ℕ) (a : Account) (w : World) : Type 0 where
  pub nodes : a.nodes ≡ w.nodes
  pub seen : (name : ℕ) → a.seen name ≡ w.seen name
  pub clean : Unclashed hash_of a ↔ world.Unclashed hash_of w

-- The account is told by the bytes that spell the world's messages.
abbrev pub AccountsAreTold : Type 0
AccountsAreTold = (hash_of : List ℕ → ℕ) (messages : List (List ℕ)) (hs : List Happened) (w : World) → Leads hash_of nothing hs w
    → AreSpelled messages (map (λ m. m.mail) w.messages) → IsAccountOf hash_of (account messages hs) w

-- What led to a world is a run of its events, and goes on by each event that happens.
abbrev pub LeadsRun : Type 0
LeadsRun = (hash_of : List ℕ → ℕ) (hs : List Happened) (w v : World) → Leads hash_of w hs v → Runs hash_of w (events_in hs) v

abbrev pub LeadsGoOn : Type 0
LeadsGoOn = (hash_of : List ℕ → ℕ) (hs : List Happened) (w v : World) (h : Happened) → Leads hash_of nothing hs w → Happens hash_of w h.event h.answer v
    → length v.messages ≡ length w.messages + h.sent → Leads hash_of nothing (hs ++ h ∷ []) v
