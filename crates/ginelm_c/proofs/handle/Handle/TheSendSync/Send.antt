-- A handle may be given to another thread, as the box behind it may.
use denote.Param.Send.{IsSend, struct_send, owning_send, sendable}
use denote.Param.SendFields.{declared_send}
use denote.Builtin.{RawPtr}
use denote.Struct.Struct.{exits_of}
use denote.Struct.Owning.{shape, fields, to}
use Rattle.std_alloc.proofs.SendSync.{quiet}
use Rattle.std.proofs.alloc.Global.TheSendSync as heap
use Rattle.ginelm_c.specs.contracts.held.Held as held
use Rattle.ginelm_c.proofs.Owned.{owned_crosses}
use Rattle.ginelm_c.proofs.texts.Texts.TheSendSync as texts
use Rattle.hash_path.proofs.fnv1a.Fnv1a.TheSendSync as hashes
use Rattle.prefix_digest.proofs.sha_summary.ShaSummary.TheSendSync as digests
use Rattle.replica_core.proofs.Crossing.{object_send, frozen_send, fields_send, fields_sync}
use Rattle.ginelm_c.specs.contracts.handle.Handle.{the_row, the_type}

held_send : IsSend held.the_row
held_send = declared_send held.the_type (
  object_send,
  (texts.the_send, (search (frozen_send, fields_send, fields_sync, digests.the_send, digests.the_sync, hashes.the_send, sendable) depth 20, tt)),
)

pub send : IsSend the_row
send = let ps : IsSend RawPtr = search sendable in
    owning_send the_type (ps, (heap.the_field_send, tt)) (λ d. owned_crosses held.the_row held_send d.alloc d.at d.value)
    (λ k. quiet (to the_type) (exits_of k (fields the_type)) ((struct_send (shape the_type) (ps, (heap.the_field_send, tt))).leaving k))
