use Rattle.std.proofs.Common.{length, subst}
use Rattle.wire_form.specs.Spelling.{number, pair}
use Rattle.wire_form.specs.Parts.{dot_bytes}
use Rattle.wire_form.specs.Page.{NamesValue, digest, names}
use Rattle.prefix_digest.specs.Taking.{TakesBytes}
use Rattle.prefix_digest.proofs.Taken.{takes_both, none_taken, next_taken, all_taken}
use Rattle.prefix_digest.proofs.page_feeding.feed_names.Goals as goal

pub loop-dot-init : goal.loop-dot-init
loop-dot-init g c = none_taken (pair dot_bytes digest) c.args.hasher.now c.feed_number.new.hasher (number (length c.entries-entries.result.now))
    c.feed_number.ensures

pub loop-dot-preserved : goal.loop-dot-preserved
loop-dot-preserved g c =
    let es : NamesValue = c.entries-entries.result.now in
    next_taken (pair dot_bytes digest) c.args.hasher.now c.loop-dot.hasher c.update.new.self (number (length es))
    es c.loop-dot.dot-index c.loop-dot-item.result c.loop-dot.invariant c.loop-dot-test.true c.loop-dot-item.is
    (takes_both c.loop-dot.hasher c.feed_dot.new.hasher c.update.new.self _ _ c.feed_dot.ensures c.update.ensures)

pub returns : goal.returns
returns g c =
    let es : NamesValue = c.entries-entries.result.now in
    subst (λ (ns : NamesValue). TakesBytes c.args.hasher.now c.loop-dot.hasher (names ns)) c.entries-entries.ensures.rest
    (all_taken (pair dot_bytes digest) c.args.hasher.now c.loop-dot.hasher (number (length es))
    es c.loop-dot.dot-index c.loop-dot.invariant c.loop-dot-test.false)
