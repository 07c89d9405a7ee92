use Rattle.std.proofs.Common.{◌≡◌, ◌++◌, drop}
use Rattle.std.specs.Prelude.{map}
use Rattle.wire_form.specs.Message.{Ask, message_of}
use Rattle.sync_protocol.proofs.turning.asks_for.Given as goal

abbrev pub invariant-loop-prefix : goal.invariant-loop-prefix
invariant-loop-prefix g l = map (Ask l.session) l.prefixes ≡ map message_of l.asks.items ++ map (Ask l.session) (drop l.prefix-index l.prefixes)
