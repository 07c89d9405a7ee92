use Rattle.std.proofs.Common.{ℕ, List, length, subst}
use Rattle.sha2.specs.Sha256.{sha256}
use Rattle.dots.specs.Dot.{DotValue}
use Rattle.causal_join.specs.OrMap.{ValuesValue}
use Rattle.wire_form.specs.Spelling.{number, pair}
use Rattle.wire_form.specs.Parts.{dot_bytes}
use Rattle.wire_form.specs.Page.{digest, names}
use Rattle.prefix_digest.specs.Page.{named_values}
use Rattle.prefix_digest.specs.Taking.{TakesBytes}
use Rattle.prefix_digest.proofs.Taken.{takes_same, takes_both, counted_of, none_taken, next_taken, all_taken}
use Rattle.prefix_digest.proofs.feeding.feed_values.Goals as goal

abbrev item : DotValue × List ℕ → List ℕ
item v = pair dot_bytes digest (v.0, sha256 v.1)

pub loop-dot-init : goal.loop-dot-init
loop-dot-init g c = none_taken item c.args.hasher.now c.feed_number.new.hasher (number (length c.entries-entries.result.now)) c.feed_number.ensures

pub loop-dot-preserved : goal.loop-dot-preserved
loop-dot-preserved g c =
    let es : ValuesValue = c.entries-entries.result.now in
    let e = c.loop-dot-item.result in
    let name : TakesBytes c.feed_dot.new.hasher c.update.new.self (sha256 e.1) =
    takes_same c.feed_dot.new.hasher c.update.new.self _ _ c.value_digest.ensures c.update.ensures in
    next_taken item c.args.hasher.now c.loop-dot.hasher c.update.new.self (number (length es))
    es c.loop-dot.dot-index e c.loop-dot.invariant c.loop-dot-test.true c.loop-dot-item.is
    (takes_both c.loop-dot.hasher c.feed_dot.new.hasher c.update.new.self (dot_bytes e.0) (sha256 e.1) c.feed_dot.ensures name)

pub returns : goal.returns
returns g c =
    let es : ValuesValue = c.entries-entries.result.now in
    subst (λ (vs : ValuesValue). TakesBytes c.args.hasher.now c.loop-dot.hasher (names (named_values vs))) c.entries-entries.ensures.rest
    (takes_same c.args.hasher.now c.loop-dot.hasher _ (names (named_values es)) (counted_of (pair dot_bytes digest) (λ v. (v.0, sha256 v.1)) es)
    (all_taken item c.args.hasher.now c.loop-dot.hasher (number (length es)) es c.loop-dot.dot-index c.loop-dot.invariant c.loop-dot-test.false))
