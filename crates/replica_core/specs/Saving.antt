-- What a replica comes back from. Of this project.
use Rattle.std.specs.Prelude.{ℕ, List, [], refl}
use Rattle.std.specs.Coded.{Coded, code_by, coded×, coded_list, coded_ℕ}
use Rattle.causal_join.specs.Code.{fields_code}
use Rattle.causal_join.specs.OrMap.{FieldsValue, OrMapValue, or_map_state}
use Rattle.delta_ops.specs.Group.{group_state}
use Rattle.delta_ops.specs.LiveMap.{live_state}
use Rattle.live_map.specs.Live.{PairValue, pair_code}
use Rattle.saved_form.specs.declared.saved.Saved.{Saved}
use Rattle.replica_model.specs.Replica.{Replica}
use Rattle.replica_core.specs.Meaning.{or_map_code}

-- a checkpoint: the name; what is held, with the dots that are known; what is to be sent; and the number of the last own session
pub record CheckpointValue (Hash : Type 0) : Type 0 where
  pub name : ℕ
  pub pair : PairValue Hash FieldsValue
  pub group : List OrMapValue
  pub opened : ℕ

-- it is stored as its parts
abbrev pub checkpoint_code : {Hash : Type 0} → Coded Hash → Coded (CheckpointValue Hash)
checkpoint_code {Hash} hash =
    code_by (ℕ × (PairValue Hash FieldsValue × (List OrMapValue × ℕ)))
    (coded× coded_ℕ (coded× (pair_code hash fields_code) (coded× (coded_list or_map_code) coded_ℕ)))
    (λ c. (c.name, (c.pair, (c.group, c.opened))))
    (λ p. record { name = p.0; pair = p.1.0; group = p.1.1.0; opened = p.1.1.1 })
    (λ _. refl)

-- the replica that comes back from it, and from what was saved of it
abbrev pub checkpointed : {Hash : Type 0} → CheckpointValue Hash → Replica
checkpointed c = record { name = c.name; live = live_state c.pair; group = group_state c.group; opened = c.opened; sessions = []; kept = [] }

abbrev pub restored : {A : Type 0} → Saved A → Replica
restored saved = record { name = saved.name; live = or_map_state saved.live; group = or_map_state saved.group; opened = saved.opened; sessions = []; kept = [] }
