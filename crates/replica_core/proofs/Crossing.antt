-- Which parts of a replica may go to another thread, at the heap. Rattle states it of each type but of those that lead to a type that holds itself,
-- as the nodes of a trie do: so here it stands of these, lowest first, each in one step from its parts.
use mathlib.Core.List.{List, [], ◌∷◌}
use mir.Syntax.{Sym, Ty}
use Prim.Native.Nat.{ℕ}
use denote.Builtin
use denote.Exit.{Kept}
use denote.Param.{param, arg}
use denote.Param.Send.{IsSend, IsSync, AllSend, param_send, arg_send, sendable}
use denote.Param.SendFields.{FieldsHave, as_row_send, declared_send}
use denote.RattleType.{RattleType}
use denote.Struct.Field.{row_field}
use denote.Struct.Tuple
use Rattle.std.below.core.specs.contracts.clone.Clone+copy.TheImpl as copy
use Rattle.std.proofs.Crossing.{crosses}
use Rattle.std.proofs.hash.BuildHasherDefault.TheSendSync as Hasher
use Rattle.std.specs.contracts.alloc.Global as Heap
use Rattle.std.specs.contracts.impls.GlobalAllocator.TheImpl.{ghosts}
use Rattle.std.specs.declared.alloc.Global.{Global}
use Rattle.std.specs.declared.clone.Clone as copying
use Rattle.std.specs.declared.default.Default as standard
use Rattle.indexmap.proofs.map.IndexMap.TheSendSync as IndexMap
use Rattle.dots.proofs.name.Name.TheSendSync as Name
use Rattle.dots.proofs.text.Text.TheSendSync as Texts
use Rattle.dots.specs.contracts.kind.FieldKind as FieldKind
use Rattle.dots.specs.contracts.kind.ValueKind as ValueKind
use Rattle.dots.specs.contracts.text.Text as Text
use Rattle.hash_path.proofs.fnv1a.Fnv1a.TheSendSync as Hashes
use Rattle.hash_path.specs.contracts.fnv1a.Fnv1a as Fnv1a
use Rattle.hash_path.specs.contracts.fnv1a.Fnv1aDefault.TheImpl as Fnv1aDefault
use Rattle.hash_path.specs.contracts.fnv1a.Fnv1aPathHash.TheImpl as Fnv1aHash
use Rattle.hash_path.specs.declared.path_hash.PathHash as hashing
use Rattle.causal_context.proofs.context.Context.TheSendSync as Context
use Rattle.causal_join.proofs.fields.Fields.TheSendSync as AllFields
use Rattle.causal_join.specs.contracts.fields.Fields as KeyFields
use Rattle.causal_join.specs.contracts.fields.FieldsDotStore.TheImpl as FieldsStore
use Rattle.dot_store.specs.declared.store.DotStore as storing
use Rattle.gen_trie.proofs.no_summary.NoSummary.TheSendSync as NoSummary
use Rattle.gen_trie.proofs.node.Node.TheLaws.TheKnot as Nodes
use Rattle.gen_trie.specs.contracts.frozen.Frozen as Frozen
use Rattle.gen_trie.specs.declared.summary.Summary as summing
use Rattle.trie_map.specs.contracts.trie_map.TrieMap as TrieMap
use Rattle.live_map.proofs.index.Index.TheSendSync as Index
use Rattle.live_map.specs.contracts.live.Live as Live
use Rattle.delta_ops.proofs.outgoing.Outgoing.TheSendSync as Outgoing
use Rattle.wire_form.proofs.session.Session.TheSendSync as Session
use Rattle.prefix_digest.proofs.sha_summary.ShaSummary.TheSendSync as Digests
use Rattle.prefix_digest.specs.contracts.sha_summary.ShaSummary as ShaSummary
use Rattle.prefix_digest.specs.contracts.sha_summary.ShaSummarySummaryFields.TheImpl as FieldSummary
use Rattle.page_fetching.specs.contracts.built.Built as Built
use Rattle.page_fetching.specs.contracts.fetching.Fetching as Fetching
use Rattle.sync_protocol.specs.contracts.answerer.Answerer as Answerer
use Rattle.sync_protocol.specs.contracts.asker.Asker as Asker
use Rattle.sync_protocol.specs.contracts.snapshot.Snapshot as Snapshot
use Rattle.replica_core.specs.contracts.checkpoint.Checkpoint as Checkpoint
use Rattle.replica_core.specs.contracts.replica.Replica as Replica

-- ---- what stands at a key: the fields
abbrev Field : RattleType
Field = Text.the_row FieldKind.the_row Heap.the_row ghosts

abbrev Value : RattleType
Value = Text.the_row ValueKind.the_row Heap.the_row ghosts

abbrev pub copied : copying.Ghosts Global
copied = copy.ghosts Heap.the_row

abbrev pub Fields : RattleType
Fields = KeyFields.the_row Heap.the_row ghosts copied

pub fields_send : IsSend Fields
fields_send = search (AllFields.the_send, crosses, sendable) depth 20

pub fields_sync : IsSync Fields
fields_sync = search (AllFields.the_sync, crosses, sendable) depth 20

-- ---- tries, and what holds them
module _ (H : RattleType) (p : hashing.Ghosts H.Denot) (d : standard.Ghosts H.Denot) where
  module _ (V M : RattleType) (m : summing.Ghosts M.Denot V.Denot) where
    pub frozen_send : IsSend V → IsSync V → IsSend M → IsSync M → IsSend H → IsSend (Frozen.the_row V M H Heap.the_row m p d ghosts)
    frozen_send v w n o h = search (Nodes.crosses, crosses, sendable) depth 60 fits 20000

    pub frozen_sync : IsSend V → IsSync V → IsSend M → IsSync M → IsSync H → IsSync (Frozen.the_row V M H Heap.the_row m p d ghosts)
    frozen_sync v w n o h = search (Nodes.crosses, crosses, sendable) depth 60 fits 20000

    module _ (P L : RattleType) (s : storing.Ghosts V.Denot Global P.Denot L.Denot) where
      pub map_send : IsSend V → IsSync V → IsSend M → IsSync M → IsSend H → IsSend (TrieMap.the_row V M H Heap.the_row P L s m p d ghosts)
      map_send v w n o h = search (frozen_send, sendable) depth 20

      pub map_sync : IsSend V → IsSync V → IsSend M → IsSync M → IsSync H → IsSync (TrieMap.the_row V M H Heap.the_row P L s m p d ghosts)
      map_sync v w n o h = search (frozen_sync, sendable) depth 20

      live_send : IsSend V → IsSync V → IsSend M → IsSync M → IsSend H → IsSend (Live.the_row V M H Heap.the_row P L s m p d ghosts)
      live_send v w n o h = search (map_send, Context.the_send, Index.the_send, crosses, sendable) depth 20

  module _ (c : copying.Ghosts Global) where
    built_send : IsSend H → IsSend (Built.the_row H Heap.the_row p d ghosts c)
    built_send h = search (frozen_send, fields_send, fields_sync, Digests.the_send, Digests.the_sync, NoSummary.the_send, NoSummary.the_sync, sendable) depth 20

    fetching_send : IsSend H → IsSend (Fetching.the_row H Heap.the_row p d ghosts c)
    fetching_send h = search (built_send, frozen_send, NoSummary.the_send, NoSummary.the_sync, sendable) depth 20

    asker_send : IsSend H → IsSend (Asker.the_row H Heap.the_row p d ghosts c)
    asker_send h = search (
      fetching_send,
      built_send,
      frozen_send,
      fields_send,
      fields_sync,
      Digests.the_send,
      Digests.the_sync,
      Session.the_send,
      Context.the_send,
      crosses,
      sendable,
    ) depth 20

    snapshot_send : IsSend H → IsSend (Snapshot.the_row H Heap.the_row p d ghosts c)
    snapshot_send h = search (map_send, fields_send, fields_sync, Digests.the_send, Digests.the_sync, Context.the_send, crosses, sendable) depth 20

    answerer_send : IsSend H → IsSend (Answerer.the_row H Heap.the_row p d ghosts c)
    answerer_send h = search (snapshot_send, IndexMap.the_send, Session.the_send, Hasher.the_send, crosses, sendable) depth 20

    pub checkpoint_send : IsSend H → IsSend (Checkpoint.the_row H Heap.the_row p d ghosts c)
    checkpoint_send h = search (
      map_send,
      fields_send,
      fields_sync,
      Digests.the_send,
      Digests.the_sync,
      Context.the_send,
      Outgoing.the_send,
      Name.the_send,
      crosses,
      sendable,
    ) depth 20

    pub replica_send : IsSend H → IsSend (Replica.the_row H Heap.the_row p d ghosts c)
    replica_send h = search (
      live_send,
      asker_send,
      answerer_send,
      fields_send,
      fields_sync,
      Digests.the_send,
      Digests.the_sync,
      Outgoing.the_send,
      Name.the_send,
      crosses,
      sendable,
    ) depth 20

-- ---- a replica as a program holds it by default
abbrev pub Object : RattleType
Object = Replica.the_row Fnv1a.the_row Heap.the_row Fnv1aHash.ghosts Fnv1aDefault.ghosts ghosts copied

pub object_send : IsSend Object
object_send = replica_send Fnv1a.the_row Fnv1aHash.ghosts Fnv1aDefault.ghosts copied Hashes.the_send
