use Rattle.std.proofs.Common.{◌≡◌, ◌*◌, length, sum}
use Rattle.cell_tests.proofs.cells.beside.publish_often.Given as goal

abbrev pub invariant-loop-turn : goal.invariant-loop-turn
invariant-loop-turn g l = (sum l.writer ≡ 3 * l.turn) × (length l.writer ≡ l.turn)
