use Rattle.std.proofs.Common.{take}
use Rattle.std.specs.List.{flat_map, AllByRecursion}
use Rattle.wire_form.specs.Spelling.{pair, IsPair}
use Rattle.wire_form.specs.Parts.{text, IsText}
use Rattle.wire_form.specs.Store.{sole, AreSole}
use Rattle.wire_form.specs.Writing.{Appends}
use Rattle.wire_form.proofs.encoding.write_plain_entries.Given as goal

abbrev pub invariant-loop-key : goal.invariant-loop-key
invariant-loop-key g l =
    Appends (flat_map (pair text sole)) (AllByRecursion (IsPair IsText AreSole)) l.fn.out.items l.out.items (take l.key-index l.entries)
