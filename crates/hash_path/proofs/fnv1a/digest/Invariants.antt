use Rattle.std.proofs.Common.{◌≡◌, drop}
use Rattle.hash_path.specs.Fnv1a.{fnv1a, fnv1a_from}
use Rattle.hash_path.proofs.fnv1a.digest.Given as goal

abbrev pub invariant-loop-byte : goal.invariant-loop-byte
invariant-loop-byte l = fnv1a_from l.hash (drop l.byte-index l.bytes) ≡ fnv1a l.bytes
