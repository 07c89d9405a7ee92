use Rattle.std.proofs.Common.{◌≡◌, ◌≤◌, ℕ, length, map, take}
use Rattle.std.specs.Vec.{vec_capacity}
use Rattle.hash_path.specs.Fnv1a.{fnv1a}
use Rattle.replica_core.specs.Meaning.{meaning}
use Rattle.replica_model.specs.History.{Runs}
use Rattle.replica_core.specs.Writing.{answer_of}
use Rattle.node_threads.specs.Batch.{made_at}
use Rattle.node_threads.specs.History.{entries_of}
use Rattle.node_threads.proofs.acts.batching.write_all.Given as goal

abbrev pub invariant-loop-one : goal.invariant-loop-one
invariant-loop-one g l = record {
  runs : (place : ℕ) → Runs fnv1a (meaning l.fn.replica) (entries_of (made_at place (take l.one-index l.writes))) (map answer_of l.wrote.items)
      (meaning l.replica);
  count : length l.wrote.items ≡ l.one-index;
  room : vec_capacity l.fn.room ≤ vec_capacity l.wrote;
}
