use Rattle.wire_form.specs.Spelling.{pair, IsPair}
use Rattle.wire_form.specs.Parts.{text, IsText}
use Rattle.wire_form.specs.Store.{sole, AreSole}
use Rattle.wire_form.proofs.Plains.{sole_at}
use Rattle.wire_form.proofs.Pages.{none_behind, next_behind, all_behind}
use Rattle.wire_form.proofs.Writes.{pair_appends}
use Rattle.wire_form.proofs.encoding.write_plain_entries.Goals as goal

pub loop-key-init : goal.loop-key-init
loop-key-init g c = none_behind (pair text sole) (IsPair IsText AreSole) c.args.out.now.items

pub write_alone-requires : goal.write_alone-requires
write_alone-requires g c = sole_at c.args.entries.now c.loop-key.key-index c.loop-key-item.result c.loop-key-test.true c.loop-key-item.is c.requires

pub loop-key-preserved : goal.loop-key-preserved
loop-key-preserved g c =
    let e = c.loop-key-item.result in
    next_behind (pair text sole) (IsPair IsText AreSole) c.args.out.now.items c.loop-key.out.items c.write_alone.new.out.items c.args.entries.now
    c.loop-key.key-index e c.loop-key.invariant c.loop-key-test.true c.loop-key-item.is
    (pair_appends text IsText sole AreSole c.loop-key.out.items c.append_to.new.out.items c.write_alone.new.out.items e.0 e.1 c.in_ok-append_to.ensures.ok
    c.in_ok-write_alone.ensures.ok)

pub returns-clause-ok : goal.returns-clause-ok
returns-clause-ok g c =
    all_behind (pair text sole) (IsPair IsText AreSole) c.args.out.now.items c.loop-key.out.items c.args.entries.now c.loop-key.key-index c.loop-key.invariant
    c.loop-key-test.false
