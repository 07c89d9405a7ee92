use Rattle.std.proofs.Common.{refl, sym, ap, ◌∙◌}
use Rattle.std.specs.Option.{option_copied}
use Rattle.ordered_list.specs.Places.{value_at}
use Rattle.dot_store.specs.Store.{HoldsSame}
use Rattle.dot_store.specs.Stores.{at_stores, held_by}
use Rattle.ordered_list.proofs.Walked.{walked_here, walked_more, walked_all}
use Rattle.dot_store.proofs.Stores.{held_along}
use Rattle.dot_store.proofs.dot_map.are_same.Goals as goal

pub returns-then-not-is_same : goal.returns-then-not-is_same
unfolding at_stores
returns-then-not-is_same g c =
    let cmp = g.K.Ord.cmp in
    let at = g.S.DotStore.at in
    let mine = c.args.mine.now in
    let yours = c.args.yours.now in
    let key = c.in-Some.field-0-0.now in
    let x = option_copied c.in-Some.x in
    let y = option_copied c.in-Some.y in
    let here = walked_here cmp mine yours (λ (q : _). Unit {0}) (λ (q : _). HoldsSame (held_by at (value_at cmp mine q)) (held_by at (value_at cmp yours q)))
    c.loop-x.merge.0 c.loop-x.merge.1 c.next.new.self.0 c.next.new.self.1
    key x y c.loop-x.invariant c.in-Some.ensures.turn in (
      λ t. absurd (cc t),
      λ h. sym c.if-not-is_same.true
          ∙ c.is_same.ensures.1 (held_along at (value_at cmp mine key) x (value_at cmp yours key) y here.0 here.1 (h key)),
    )

pub loop-x-preserved : goal.loop-x-preserved
unfolding at_stores
loop-x-preserved g c =
    let cmp = g.K.Ord.cmp in
    let at = g.S.DotStore.at in
    let mine = c.args.mine.now in
    let yours = c.args.yours.now in
    let key = c.in-Some.field-0-0.now in
    let x = option_copied c.in-Some.x in
    let y = option_copied c.in-Some.y in
    let here = walked_here cmp mine yours (λ (q : _). Unit {0}) (λ (q : _). HoldsSame (held_by at (value_at cmp mine q)) (held_by at (value_at cmp yours q)))
    c.loop-x.merge.0 c.loop-x.merge.1 c.next.new.self.0 c.next.new.self.1
    key x y c.loop-x.invariant c.in-Some.ensures.turn in
    walked_more cmp mine yours g.met.K.Kept.exact (λ (q : _). Unit {0})
    (λ (q : _). HoldsSame (held_by at (value_at cmp mine q)) (held_by at (value_at cmp yours q))) (λ (q : _). Unit {0})
    (λ (q : _). HoldsSame (held_by at (value_at cmp mine q)) (held_by at (value_at cmp yours q)))
    c.loop-x.merge.0 c.loop-x.merge.1 c.next.new.self.0 c.next.new.self.1 key x y c.loop-x.invariant c.in-Some.ensures.turn
    (held_along at x (value_at cmp mine key) y (value_at cmp yours key) (sym here.0) (sym here.1) (c.is_same.ensures.0 c.if-not-is_same.false)) (λ q apart e. e)
    (λ q apart e. e)

pub returns : goal.returns
unfolding at_stores
returns g c =
    let cmp = g.K.Ord.cmp in
    let at = g.S.DotStore.at in
    let mine = c.args.mine.now in
    let yours = c.args.yours.now in (
      λ _ key.
          walked_all cmp mine yours (λ (q : _). Unit {0}) (λ (q : _). HoldsSame (held_by at (value_at cmp mine q)) (held_by at (value_at cmp yours q)))
          c.loop-x.merge c.loop-x.invariant c.in_default.ensures.end key
          (λ e f _ place d. ap (λ o. held_by at o place d) e ∙ sym (ap (λ o. held_by at o place d) f)),
      λ _. refl,
    )
