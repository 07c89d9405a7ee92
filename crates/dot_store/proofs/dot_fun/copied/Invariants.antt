use Rattle.std.proofs.Common.{◌≡◌, take}
use Rattle.dot_store.proofs.dot_fun.copied.Given as goal

abbrev pub invariant-loop-dot : goal.invariant-loop-dot
invariant-loop-dot g l = l.copies ≡ take l.dot-index l.entries
