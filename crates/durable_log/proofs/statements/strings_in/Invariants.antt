use Rattle.std.proofs.Common.{◌≡◌, map, take}
use Rattle.sqlite.specs.Order.{column, bytes}
use Rattle.durable_log.proofs.statements.strings_in.Given as goal

abbrev pub invariant-loop-row : goal.invariant-loop-row
invariant-loop-row l = map (λ string. string.items) l.found.items ≡ map (λ r. bytes (column r 0)) (take l.row-index l.rows)
