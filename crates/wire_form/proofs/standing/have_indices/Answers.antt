use Rattle.std.proofs.Common.{◌≤◌, List, ℕ, arith, []}
use Rattle.wire_form.proofs.Alls.{read_more, tested_all, read_not}
use Rattle.wire_form.proofs.standing.have_indices.Goals as goal

pub loop-index-init : goal.loop-index-init
loop-index-init c = tt

pub returns-then-from-last : goal.returns-then-from-last
returns-then-from-last c =
    read_not (λ (x : ℕ × List ℕ). x.0 ≤ c.args.last) c.args.children.now c.loop-index.index-index (0, []) c.loop-index-test.true
    (λ h. omega (arith, c.from.ensures, c.if-from-last.true, h))

pub loop-index-preserved : goal.loop-index-preserved
loop-index-preserved c =
    read_more (λ (x : ℕ × List ℕ). x.0 ≤ c.args.last) c.args.children.now c.loop-index.index-index (0, []) c.loop-index.invariant c.loop-index-test.true
    (omega (arith, c.from.ensures, c.if-from-last.false))

pub returns : goal.returns
returns c = tested_all (λ (x : ℕ × List ℕ). x.0 ≤ c.args.last) c.args.children.now c.loop-index.index-index c.loop-index.invariant c.loop-index-test.false
