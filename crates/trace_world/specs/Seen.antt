-- What a read comes to, and what a write is answered, off what the replicas have seen alone: here are no stores, no contexts, and of the
-- messages no more than how many there are. Of this project.
use Rattle.std.specs.Prelude.{ℕ, suc, cond, nat_le, List, [], ◌∷◌, ◌++◌, length, map, codes, Option, Some, None}
use Rattle.dots.specs.Bytes.{MAX_LENGTH}
use Rattle.dots.specs.declared.refusal.Refusal.TheVariants.{TooLong, UnknownReplica}
use Rattle.hash_path.specs.Fnv1a.{fnv1a}
use Rattle.op_model.specs.Made.{dot_at, removed_at, field_removed_at, cleared_at}
use Rattle.op_model.specs.Operation.{Operation, known}
use Rattle.op_model.specs.Place.{place_of}
use Rattle.op_model.specs.Shown.{values, values_of_key, fields, keys, size}
use Rattle.prefix_digest.specs.MapOf.{root_digest}
use Rattle.replica_model.specs.World.{World, is_node}
use Rattle.trace_words.specs.Command.{CommandValue, Put, Get, Flush, Remove, RemoveField, Clear, Fields, Show, Size, Context, Digest}
use Rattle.trace_words.specs.Text.{values_text, fields_text, map_text, size_text, context_text, digest_text, put_text, erased_text, message_text}
use Rattle.trace_words.specs.declared.kind.Kind.TheVariants.{Delta}
use Rattle.trace_world.specs.Compressed.{vector_of, cloud_of}
use Rattle.trace_world.specs.Outcome.{CommandOutcome, Refused, Done}

-- at a replica that is there, and with bytes that are not too long
abbrev pub if_there : World → ℕ → CommandOutcome → CommandOutcome
if_there w name then = cond (is_node w name) then (Refused UnknownReplica)

abbrev pub if_short : List ℕ → CommandOutcome → CommandOutcome
if_short bytes then = cond (nat_le (length bytes) MAX_LENGTH) then (Refused TooLong)

-- each of these labels with its values
abbrev pub entries_by : (List ℕ → List (List ℕ)) → List (List ℕ) → List (List ℕ × List (List ℕ))
entries_by at labels = map (λ label. (label, at label)) labels

-- the texts of the reads of what was seen
abbrev pub fields_seen : List Operation → List ℕ → List ℕ
fields_seen S key = fields_text (entries_by (λ field. values S (place_of key field)) (fields S key))

abbrev pub keys_seen : List Operation → List ℕ
keys_seen S = map_text (entries_by (values_of_key S) (keys S))

abbrev pub context_seen : List Operation → List ℕ
context_seen S = context_text (vector_of (known S)) (cloud_of (known S))

-- what a command that reads a replica comes to
abbrev pub read_of : World → CommandValue → Option CommandOutcome
read_of w (Get name key field) = Some (if_there w name (if_short key (if_short field (Done (values_text (values (w.seen name) (place_of key field))) []))))
read_of w (Fields name key) = Some (if_there w name (if_short key (Done (fields_seen (w.seen name) key) [])))
read_of w (Show name) = Some (if_there w name (Done (keys_seen (w.seen name)) []))
read_of w (Size name) = Some (if_there w name (Done (size_text (size (w.seen name))) []))
read_of w (Context name) = Some (if_there w name (Done (context_seen (w.seen name)) []))
read_of w (Digest name) = Some (if_there w name (Done (digest_text (root_digest fnv1a (w.seen name))) []))
read_of w command = None

-- what a flush is answered where so much was to be sent: its message has this number
abbrev pub flush_seen : List Operation → ℕ → List ℕ
flush_seen [] number = codes "empty"
flush_seen (o ∷ S) number = codes "sent" ++ message_text number Delta

-- what a command that writes or sends is answered where it is not refused
abbrev pub written_of : World → CommandValue → Option (List ℕ)
written_of w (Put name key field value) = Some (put_text (dot_at (w.seen name) name))
written_of w (Remove name key) = Some (erased_text (removed_at (w.seen name) key))
written_of w (RemoveField name key field) = Some (erased_text (field_removed_at (w.seen name) (place_of key field)))
written_of w (Clear name) = Some (erased_text (cleared_at (w.seen name)))
written_of w (Flush name) = Some (flush_seen (w.outgoing name) (suc (length w.messages)))
written_of w command = None
