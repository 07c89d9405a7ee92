-- What a contract sees of a replica, and the replica of the model that it is. Of this project.
use Rattle.std.specs.Prelude.{ℕ, List, Option, Some, None, map, refl}
use Rattle.std.specs.Coded.{Coded, code_by, coded×, coded_list, coded_ℕ}
use Rattle.causal_context.specs.Code.{context_code}
use Rattle.causal_context.specs.Context.{has}
use Rattle.causal_join.specs.Code.{fields_code}
use Rattle.causal_join.specs.OrMap.{FieldsValue, OrMapValue, or_map_state}
use Rattle.delta_ops.specs.Group.{group_state}
use Rattle.delta_ops.specs.LiveMap.{live_state}
use Rattle.live_map.specs.Live.{LiveValue, live_code}
use Rattle.op_model.specs.Meaning.{MapState}
use Rattle.page_fetching.specs.Taking.{fetch_of}
use Rattle.wire_form.specs.Session.{SessionValue}
use Rattle.sync_protocol.specs.Asking.{AskerValue, StageValue, Asked, Fetching, Complete, Over, asker_code}
use Rattle.sync_protocol.specs.Snapshot.{KeptValue, SnapshotValue, kept_code}
use Rattle.replica_model.specs.Replica.{Replica, Open, Accepted, Kept}

-- its name; what it holds, with its index; what it is to send; the number of its last own session; its own sessions that are open,
-- and the snapshots that it keeps for the sessions of others
pub record ReplicaValue (Hash : Type 0) : Type 0 where
  pub name : ℕ
  pub live : LiveValue Hash FieldsValue
  pub group : List OrMapValue
  pub opened : ℕ
  pub sessions : List (AskerValue Hash)
  pub kept : KeptValue Hash

-- it is stored as its parts
abbrev pub or_map_code : Coded OrMapValue
or_map_code = coded× (coded_list (coded× (coded_list coded_ℕ) fields_code)) context_code

abbrev pub replica_code : {Hash : Type 0} → Coded Hash → Coded (ReplicaValue Hash)
replica_code {Hash} hash =
    code_by (ℕ × (LiveValue Hash FieldsValue × (List OrMapValue × (ℕ × (List (AskerValue Hash) × KeptValue Hash)))))
    (coded× coded_ℕ (coded× (live_code hash fields_code) (coded× (coded_list or_map_code)
    (coded× coded_ℕ (coded× (coded_list (asker_code hash)) (kept_code hash))))))
    (λ r. (r.name, (r.live, (r.group, (r.opened, (r.sessions, r.kept))))))
    (λ p. record { name = p.0; live = p.1.0; group = p.1.1.0; opened = p.1.1.1.0; sessions = p.1.1.1.1.0; kept = p.1.1.1.1.1 })
    (λ _. refl)

module _ {Hash : Type 0} where
  -- the hash of its keys' paths
  abbrev pub hash_in : ReplicaValue Hash → Hash
  hash_in r = r.live.0.0.0

  -- an own session as that of the model: what it accepted, while it fetches
  abbrev pub accepted_of : StageValue Hash → Option Accepted
  accepted_of Asked = None
  accepted_of (Fetching c f) = Some (record { context = has c; fetch = fetch_of f })
  accepted_of (Complete c b) = None
  accepted_of Over = None

  abbrev pub open_of : AskerValue Hash → Open
  open_of a = record { session = a.session; own = a.own; seen = has a.seen; accepted = accepted_of a.stage }

  -- and a kept snapshot
  abbrev pub kept_of : SessionValue × SnapshotValue Hash → Kept
  kept_of k = record { session = k.0; seen = has k.1.seen; map = k.1.map; context = has k.1.context }

  -- the replica of the model
  abbrev pub meaning : ReplicaValue Hash → Replica
  meaning r = record {
    name = r.name;
    live = live_state r.live.0;
    group = group_state r.group;
    opened = r.opened;
    sessions = map open_of r.sessions;
    kept = map kept_of r.kept;
  }

  -- the deltas that wait to be sent, the oldest first
  abbrev pub waiting_in : ReplicaValue Hash → List MapState
  waiting_in r = map or_map_state r.group
