use Rattle.std.proofs.Common.{◌≡◌, None, sym, ◌∙◌}
use Rattle.std.specs.Option.{option_copied}
use Rattle.std.specs.Ordering.{ord_max}
use Rattle.dots.specs.Dot.{DotValue}
use Rattle.causal_context.specs.Context.{has}
use Rattle.causal_context.specs.Dots.{dot_cmp}
use Rattle.causal_context.proofs.Dots.{dot_cmp_total, dot_exact}
use Rattle.ordered_list.specs.Places.{value_at}
use Rattle.dot_store.specs.Stores.{joined_value}
use Rattle.dot_store.proofs.Values.{joined_along}
use Rattle.ordered_list.proofs.Walked.{walked_here, walked_more, put_here, put_apart}
use Rattle.dot_store.proofs.dot_fun.join_values.Goals as goal

pub loop-dot-preserved : goal.loop-dot-preserved
loop-dot-preserved g c =
    let mine = c.args.mine.now in
    let yours = c.args.yours.now in
    let key = c.in-Some.dot.now in
    let x = option_copied c.in-Some.x in
    let y = option_copied c.in-Some.y in
    let old = value_at dot_cmp c.loop-dot.kept in
    let new = value_at dot_cmp c.put_some.new.list in
    let wanted = joined_value (ord_max g.V.Ord.cmp) (value_at dot_cmp mine) (has c.args.own.now) (value_at dot_cmp yours) (has c.args.theirs.now) in
    let here = walked_here dot_cmp mine yours (λ (q : DotValue). old q ≡ None) (λ (q : DotValue). old q ≡ wanted q)
    c.loop-dot.merge.0 c.loop-dot.merge.1 c.next.new.self.0 c.next.new.self.1 key x y
    c.loop-dot.invariant c.in-Some.ensures.turn in
    let updates = c.in_ok-put_some.ensures.updates in
    walked_more dot_cmp mine yours dot_exact (λ (q : DotValue). old q ≡ None) (λ (q : DotValue). old q ≡ wanted q) (λ (q : DotValue). new q ≡ None)
    (λ (q : DotValue). new q ≡ wanted q)
    c.loop-dot.merge.0 c.loop-dot.merge.1 c.next.new.self.0 c.next.new.self.1 key x y c.loop-dot.invariant c.in-Some.ensures.turn
    (put_here dot_cmp key c.in_ok-value.value old new updates dot_cmp_total here.2 ∙ c.in_ok-value.ensures.ok
    ∙ joined_along (ord_max g.V.Ord.cmp) x (value_at dot_cmp mine key) y (value_at dot_cmp yours key) (has c.args.own.now key) (has c.args.theirs.now key)
    (sym here.0) (sym here.1))
    (λ q apart e. put_apart dot_cmp key c.in_ok-value.value old new updates q apart ∙ e)
    (λ q apart e. put_apart dot_cmp key c.in_ok-value.value old new updates q apart ∙ e)
