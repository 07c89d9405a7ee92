-- Which parts of a node may go to another thread, at the heap, as those of a replica do.
use mathlib.Core.List.{List, [], ◌∷◌}
use mir.Syntax.{Sym, Ty}
use Prim.Native.Nat.{ℕ}
use denote.Builtin
use denote.Exit.{Kept}
use denote.Param.{param, arg}
use denote.Param.Send.{IsSend, IsSync, AllSend, param_send, arg_send, sendable}
use denote.Param.SendFields.{FieldsHave, as_row_send, declared_send}
use denote.RattleType.{RattleType}
use denote.Struct.Field.{row_field}
use denote.Struct.Tuple
use Rattle.std.proofs.Crossing.{crosses}
use Rattle.replica_core.proofs.Crossing.{copied, Fields, fields_send, fields_sync, map_send, map_sync, Object, object_send}
use Rattle.std.specs.contracts.alloc.Global as Heap
use Rattle.std.specs.contracts.impls.GlobalAllocator.TheImpl.{ghosts}
use Rattle.std.specs.declared.alloc.Global.{Global}
use Rattle.dots.specs.contracts.kind.FieldKind as FieldKind
use Rattle.dots.specs.contracts.kind.ValueKind as ValueKind
use Rattle.dots.specs.contracts.text.Text as Text
use Rattle.hash_path.proofs.fnv1a.Fnv1a.TheSendSync as Hashes
use Rattle.hash_path.specs.contracts.fnv1a.Fnv1a as Fnv1a
use Rattle.hash_path.specs.contracts.fnv1a.Fnv1aDefault.TheImpl as Fnv1aDefault
use Rattle.hash_path.specs.contracts.fnv1a.Fnv1aPathHash.TheImpl as Fnv1aHash
use Rattle.causal_join.specs.contracts.fields.FieldsDotStore.TheImpl as FieldsStore
use Rattle.dot_store.specs.declared.store.DotStore as storing
use Rattle.gen_trie.specs.declared.summary.Summary as summing
use Rattle.trie_map.specs.contracts.trie_map.TrieMap as TrieMap
use Rattle.prefix_digest.proofs.sha_summary.ShaSummary.TheSendSync as Digests
use Rattle.prefix_digest.specs.contracts.sha_summary.ShaSummary as ShaSummary
use Rattle.prefix_digest.specs.contracts.sha_summary.ShaSummarySummaryFields.TheImpl as FieldSummary
use Rattle.root_cell.specs.declared.brand.Brand as branding
use Rattle.shared_object.proofs.client.Client.TheSendSync as Clients
use Rattle.shared_object.proofs.shared.Shared.TheSendSync as Locks
use Rattle.shared_object.proofs.snapshot.Snapshot.TheSendSync as Snapshots
use Rattle.shared_object.specs.contracts.client.Client as Client
use Rattle.shared_object.specs.contracts.shared.Shared as Shared
use Rattle.shared_object.specs.contracts.snapshot.Snapshot as Snapshot
use Rattle.shared_object.specs.declared.object.Object as sharing
use Rattle.shared_object.specs.declared.placed.Placed as placing
use Rattle.node_threads.specs.contracts.named.Named as Named
use Rattle.node_threads.specs.contracts.named.NamedBrandRootNodeEvent.TheImpl as NamedBrand
use Rattle.node_threads.specs.contracts.named.NamedObject.TheImpl as NamedObject
use Rattle.node_threads.specs.contracts.node_event.NodeEvent as NodeEvent
use Rattle.node_threads.specs.contracts.node_event.NodeEventPlaced.TheImpl as EventPlaced
use Rattle.node_threads.specs.declared.named.Naming as naming

-- ---- what stands at a key: the fields
abbrev Field : RattleType
Field = Text.the_row FieldKind.the_row Heap.the_row ghosts

abbrev Value : RattleType
Value = Text.the_row ValueKind.the_row Heap.the_row ghosts

-- ---- what the clients of a shared object share, a client, and a snapshot
module _ (J D R E : RattleType) (o : sharing.Ghosts J.Denot D.Denot R.Denot E.Denot) (b : branding.Ghosts J.Denot R.Denot E.Denot) (e : placing.Ghosts E.Denot) where
  any_client_send : (S : RattleType) → IsSend R → IsSync R → IsSend S → IsSync S → IsSend (Client.the_row J S Heap.the_row D R E o b e ghosts)
  any_client_send S r u s y = search (Clients.the_send, crosses, sendable) depth 20

  any_snapshot_send : IsSend R → IsSync R → IsSend (Snapshot.the_row J Heap.the_row D R E o b e ghosts)
  any_snapshot_send r u = search (Snapshots.the_send, crosses, sendable) depth 20

  any_snapshot_sync : IsSend R → IsSync R → IsSync (Snapshot.the_row J Heap.the_row D R E o b e ghosts)
  any_snapshot_sync r u = search (Snapshots.the_sync, crosses, sendable) depth 20

  module _ (G W : RattleType) where
    lock_send : IsSend D → IsSend R → IsSync R → IsSend G → IsSend W → IsSend (Shared.the_row J G W Heap.the_row D R E o b e ghosts)
    lock_send s r u g h = search (Locks.the_send, crosses, sendable) depth 20

    lock_sync : IsSend D → IsSend R → IsSync R → IsSync G → IsSend W → IsSync (Shared.the_row J G W Heap.the_row D R E o b e ghosts)
    lock_sync s r u g h = search (Locks.the_sync, crosses, sendable) depth 20

-- ---- a client of a node. Its type is written out, as a search would take long to read it off a goal
abbrev Place : RattleType
Place = Tuple.Tuple (Field ∷ Builtin.unit ∷ [])

abbrev fields_store : storing.Ghosts Fields.Denot Global Place.Denot Value.Denot
fields_store = FieldsStore.ghosts Heap.the_row ghosts FieldsStore.no_dict copied FieldsStore.no_dict

abbrev digesting : summing.Ghosts ShaSummary.the_row.Denot Fields.Denot
digesting = FieldSummary.ghosts Heap.the_row ghosts FieldSummary.no_dict copied FieldSummary.no_dict

abbrev Root : RattleType
Root = TrieMap.the_row Fields ShaSummary.the_row Fnv1a.the_row Heap.the_row Place Value fields_store digesting Fnv1aHash.ghosts Fnv1aDefault.ghosts ghosts

abbrev Event : RattleType
Event = NodeEvent.the_row Heap.the_row ghosts copied

root_send : IsSend Root
root_send = map_send Fnv1a.the_row Fnv1aHash.ghosts Fnv1aDefault.ghosts Fields ShaSummary.the_row digesting Place Value fields_store fields_send fields_sync
    Digests.the_send Digests.the_sync Hashes.the_send

root_sync : IsSync Root
root_sync = map_sync Fnv1a.the_row Fnv1aHash.ghosts Fnv1aDefault.ghosts Fields ShaSummary.the_row digesting Place Value fields_store fields_send fields_sync
    Digests.the_send Digests.the_sync Hashes.the_sync

module _ (K : RattleType) (n : naming.Ghosts K.Denot) where
  abbrev placed : placing.Ghosts Event.Denot
  placed = EventPlaced.ghosts Heap.the_row ghosts EventPlaced.no_dict copied EventPlaced.no_dict

  abbrev Names : RattleType
  Names = Named.the_row K Heap.the_row

  abbrev shared : sharing.Ghosts Names.Denot Object.Denot Root.Denot Event.Denot
  shared = NamedObject.ghosts K Heap.the_row n NamedObject.no_dict ghosts NamedObject.no_dict copied NamedObject.no_dict

  abbrev branded : branding.Ghosts Names.Denot Root.Denot Event.Denot
  branded = NamedBrand.ghosts K Heap.the_row n NamedBrand.no_dict ghosts NamedBrand.no_dict copied NamedBrand.no_dict

  -- one that only looks goes wherever what it shares may be shared
  pub looking_send : (S : RattleType) → IsSend S → IsSync S → IsSend (Client.the_row Names S Heap.the_row Object Root Event shared branded placed ghosts)
  looking_send S = any_client_send Names Object Root Event shared branded placed S root_send root_sync

  -- a snapshot goes anywhere, and is shared
  pub snapshot_send : IsSend (Snapshot.the_row Names Heap.the_row Object Root Event shared branded placed ghosts)
  snapshot_send = any_snapshot_send Names Object Root Event shared branded placed root_send root_sync

  pub snapshot_sync : IsSync (Snapshot.the_row Names Heap.the_row Object Root Event shared branded placed ghosts)
  snapshot_sync = any_snapshot_sync Names Object Root Event shared branded placed root_send root_sync

  module _ (G W : RattleType) where
    abbrev pub Lock : RattleType
    Lock = Shared.the_row Names G W Heap.the_row Object Root Event shared branded placed ghosts

    module _ (g : IsSend G) (h : IsSync G) (w : IsSend W) where
      pub lock_goes : IsSend Lock
      lock_goes = lock_send Names Object Root Event shared branded placed G W object_send root_send root_sync g w

      pub lock_shared : IsSync Lock
      lock_shared = lock_sync Names Object Root Event shared branded placed G W object_send root_send root_sync h w

      pub client_send : IsSend (Client.the_row Names Lock Heap.the_row Object Root Event shared branded placed ghosts)
      client_send = looking_send Lock lock_goes lock_shared

-- ---- a closure, by what it takes along
each_send : (Ts : List RattleType) → AllSend Ts → FieldsHave IsSend (Tuple.parts Ts)
each_send [] s = tt
each_send (T ∷ Ts) s = (as_row_send (row_field T) s.0, each_send Ts s.1)

pub closure_send : (name : Sym) (Ts : List RattleType) (i : ℕ) (δ : Ty) (k : Kept) → AllSend Ts → IsSend (param i (arg δ k (Tuple.TupleAt name Ts)))
closure_send name Ts i δ k s = param_send i (arg δ k (Tuple.TupleAt name Ts))
    (arg_send δ k (Tuple.TupleAt name Ts) (declared_send (Tuple.type_at name Ts) (each_send Ts s)))
