-- What a delivery leaves to be kept: of a delta the delta, of the end of a session a delta that brings what it joined in, or all that is held; and else
-- nothing. Of this project.
use Rattle.std.specs.Prelude.{◌≡◌, ℕ, List}
use Rattle.op_model.specs.Meaning.{MapState, greater}
use Rattle.op_model.specs.State.{join}
use Rattle.sync_model.specs.Closing.{IsBelow}
use Rattle.replica_model.specs.Mail.{Mail, Delta}
use Rattle.replica_model.specs.Replica.{Replica, restarts}
use Rattle.replica_model.specs.Delivery.{Outcome, Joined, Done}
use Rattle.replica_core.specs.Bringing.{Brings}

abbrev pub TookAs : Replica → Mail → Outcome → Replica → Type 0
TookAs r mail Joined new = (d : MapState) × (mail ≡ Delta d) × (restarts new ≡ record (restarts r) { live = join greater r.live d })
TookAs r mail Done new = (restarts new ≡ record (restarts r) { live = new.live }) × IsBelow r.live new.live
TookAs r mail _ new = restarts new ≡ restarts r

-- the message is a delta, and what was held with it joined in is what is held
abbrev pub Joins : Replica → Mail → Replica → Type 0
Joins old mail new = (d : MapState) × (mail ≡ Delta d) × (new.live ≡ join greater old.live d)

-- the second message is a delta that brings what the delivery of the first one joins in
abbrev pub BringsAs : (List ℕ → ℕ) → Replica → Mail → Mail → Type 0
BringsAs hash_of r mail brought = (d : MapState) × (brought ≡ Delta d) × Brings hash_of r mail d

-- a delta that changes nothing that it is joined into
abbrev pub BringsNothing : Mail → Type 0
BringsNothing mail = (d : MapState) → mail ≡ Delta d → (p : MapState) → join greater p d ≡ p
