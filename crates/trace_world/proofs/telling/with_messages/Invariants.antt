use Rattle.std.proofs.Common.{◌≡◌, ◌+◌, ◌-◌, ◌≤◌, ◌++◌, length, drop}
use Rattle.hash_path.specs.Fnv1a.{fnv1a}
use Rattle.replica_model.specs.World.{World, nothing, Runs}
use Rattle.replica_world.specs.Keeping.{past_of}
use Rattle.trace_world.specs.Told.{messages_text}
use Rattle.trace_world.proofs.telling.with_messages.Given as goal

-- what is left comes behind what was appended
abbrev pub invariant-loop-number : goal.invariant-loop-number
invariant-loop-number g l =
    (v : World) → Runs fnv1a nothing (past_of l.world) v → 1 ≤ l.first → l.end ≡ length v.messages + 1
    → l.text.items ++ messages_text l.number (drop (l.number - 1) v.messages) ≡ l.fn.text.items ++ messages_text l.fn.first (drop (l.fn.first - 1) v.messages)
