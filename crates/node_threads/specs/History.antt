-- What the clients of a node are told, by its one history: as the replica that the node begins with tells it after a front of that history.
-- Of this project, over the step of one replica in `replica_model`.
use Rattle.std.specs.Prelude.{◌≡◌, List, map}
use Rattle.std.specs.List.{flat_map}
use Rattle.delta_ops.specs.LiveMap.{store_state}
use Rattle.causal_join.specs.OrMap.{FieldsValue}
use Rattle.dots.specs.declared.refusal.Refusal.{Refusal}
use Rattle.hash_path.specs.Fnv1a.{fnv1a}
use Rattle.replica_model.specs.History as model
use Rattle.replica_model.specs.Mail.{Mail, mail_of}
use Rattle.replica_model.specs.Replica.{Replica}
use Rattle.replica_model.specs.Step.{Act, Answer, Call, Do, IsStep, Refuses, Take}
use Rattle.replica_core.specs.Writing.{call_value}
use Rattle.trie_map.specs.Keyed.{TrieMapValue}
use Rattle.wire_form.specs.Message.{message_of}
use Rattle.node_threads.specs.declared.deed.Deed.{Deed}
use Rattle.node_threads.specs.declared.deed.Deed.TheVariants as deed
use Rattle.node_threads.specs.declared.node_event.NodeEvent.{NodeEvent}

-- a call of a client, in the words of the model
abbrev pub act_of : {A : Type 0} → Deed A → Act
act_of (deed.Call call) = Do (call_value call)
act_of (deed.Deliver message) = Take (mail_of (message_of message))

-- an event of a history, whose calls were made one after the other, and a history
abbrev pub entries_of : {A : Type 0} → NodeEvent A → List model.Entry
entries_of e = map (λ d. record { place = e.place; act = act_of d }) e.deeds

abbrev pub entries : {A : Type 0} → List (NodeEvent A) → List model.Entry
entries history = flat_map entries_of history

-- the replica is this one after the history, if it was this one first: there is one at most
abbrev pub IsAfter : {A : Type 0} → Replica → List (NodeEvent A) → Replica → Type 0
IsAfter first history r = (answers : List Answer) × model.Runs fnv1a first (entries history) answers r

-- a store holds what the replica does after the history
abbrev pub StandsFor : {Hash A : Type 0} → Replica → TrieMapValue Hash FieldsValue → List (NodeEvent A) → Type 0
StandsFor first store history = (r : Replica) × IsAfter first history r × ((store_state store).at ≡ r.live.at)

-- the call is answered this after the history, and sends these
abbrev pub Replies : {A : Type 0} → Replica → List (NodeEvent A) → Deed A → Answer → List Mail → Type 0
Replies first history deed answer out =
    (r : Replica) × (next : Replica) × IsAfter first history r × IsStep fnv1a r (act_of deed) next answer out

-- the call is refused so after the history, want of memory aside
abbrev pub RefusesAfter : {A : Type 0} → Replica → List (NodeEvent A) → Call → Refusal → Type 0
RefusesAfter first history call refusal = (r : Replica) × IsAfter first history r × Refuses r call refusal

-- nothing refuses it
abbrev pub NeverRefuses : {A : Type 0} → List (NodeEvent A) → Refusal → Type 0
NeverRefuses history refusal = ⊥
