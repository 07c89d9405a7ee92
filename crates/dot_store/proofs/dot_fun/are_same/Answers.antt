use Rattle.std.proofs.Common.{◌≡◌, sym, ◌∙◌}
use Rattle.std.specs.Option.{option_copied}
use Rattle.dots.specs.Dot.{DotValue}
use Rattle.causal_context.specs.Dots.{dot_cmp}
use Rattle.causal_context.proofs.Dots.{dot_exact}
use Rattle.ordered_list.specs.Places.{value_at}
use Rattle.ordered_list.proofs.Walked.{walked_here, walked_more}
use Rattle.dot_store.proofs.dot_fun.are_same.Goals as goal

pub returns-then-not-is_same : goal.returns-then-not-is_same
returns-then-not-is_same g c =
    let mine = c.args.mine.now in
    let yours = c.args.yours.now in
    let here = walked_here dot_cmp mine yours (λ (q : DotValue). Unit {0}) (λ (q : DotValue). value_at dot_cmp mine q ≡ value_at dot_cmp yours q)
    c.loop-x.merge.0 c.loop-x.merge.1 c.next.new.self.0 c.next.new.self.1
    c.in-Some.field-0-0.now (option_copied c.in-Some.x) (option_copied c.in-Some.y) c.loop-x.invariant c.in-Some.ensures.turn in
    (λ t. absurd (cc t), λ h. sym c.if-not-is_same.true ∙ c.is_same.ensures.1 (sym here.0 ∙ h c.in-Some.field-0-0.now ∙ here.1))

pub loop-x-preserved : goal.loop-x-preserved
loop-x-preserved g c =
    let mine = c.args.mine.now in
    let yours = c.args.yours.now in
    let key = c.in-Some.field-0-0.now in
    let x = option_copied c.in-Some.x in
    let y = option_copied c.in-Some.y in
    let here = walked_here dot_cmp mine yours (λ (q : DotValue). Unit {0}) (λ (q : DotValue). value_at dot_cmp mine q ≡ value_at dot_cmp yours q)
    c.loop-x.merge.0 c.loop-x.merge.1 c.next.new.self.0 c.next.new.self.1
    key x y c.loop-x.invariant c.in-Some.ensures.turn in
    walked_more dot_cmp mine yours dot_exact (λ (q : DotValue). Unit {0}) (λ (q : DotValue). value_at dot_cmp mine q ≡ value_at dot_cmp yours q)
    (λ (q : DotValue). Unit {0})
    (λ (q : DotValue). value_at dot_cmp mine q ≡ value_at dot_cmp yours q) c.loop-x.merge.0 c.loop-x.merge.1 c.next.new.self.0 c.next.new.self.1 key x y
    c.loop-x.invariant c.in-Some.ensures.turn
    (here.0 ∙ c.is_same.ensures.0 c.if-not-is_same.false ∙ sym here.1) (λ q apart e. e) (λ q apart e. e)
