use Rattle.std.proofs.Common.{◌≡◌, None, sym, ap, ◌∙◌}
use Rattle.std.specs.Option.{option_copied}
use Rattle.causal_context.specs.Context.{has}
use Rattle.ordered_list.specs.Places.{value_at}
use Rattle.dot_store.specs.Store.{HasNothing, HoldsSame}
use Rattle.dot_store.specs.Stores.{at_stores, held_by, joined_store}
use Rattle.dot_store.proofs.Stores.{each_put_some, joined_store_along}
use Rattle.ordered_list.proofs.Walked.{walked_here, walked_more, walked_all, put_here, put_apart}
use Rattle.dot_store.proofs.dot_map.join_stores.Goals as goal

pub loop-key-preserved : goal.loop-key-preserved
unfolding at_stores
loop-key-preserved g c =
    let cmp = g.K.Ord.cmp in
    let at = g.S.DotStore.at in
    let mine = c.args.mine.now in
    let yours = c.args.yours.now in
    let key = c.in-Some.key.now in
    let x = option_copied c.in-Some.x in
    let y = option_copied c.in-Some.y in
    let old = value_at cmp c.loop-key.kept in
    let new = value_at cmp c.put_some.new.list in
    let wanted = λ (q : _). joined_store at g.S.DotStore.greater (value_at cmp mine q) (has c.args.own.now) (value_at cmp yours q) (has c.args.theirs.now) in
    let here = walked_here cmp mine yours (λ (q : _). old q ≡ None) (λ (q : _). HoldsSame (held_by at (old q)) (wanted q))
    c.loop-key.merge.0 c.loop-key.merge.1 c.next.new.self.0 c.next.new.self.1 key x y
    c.loop-key.invariant.0 c.in-Some.ensures.turn in
    let value = c.in_ok-store.store in
    let updates = c.in_ok-put_some.ensures.updates in (
      walked_more cmp mine yours g.met.K.Kept.exact (λ (q : _). old q ≡ None) (λ (q : _). HoldsSame (held_by at (old q)) (wanted q)) (λ (q : _). new q ≡ None)
          (λ (q : _). HoldsSame (held_by at (new q)) (wanted q))
          c.loop-key.merge.0 c.loop-key.merge.1 c.next.new.self.0 c.next.new.self.1 key x y c.loop-key.invariant.0 c.in-Some.ensures.turn
          (λ place d. ap (λ o. held_by at o place d) (put_here cmp key value old new updates g.met.K.Ord.total here.2) ∙ c.in_ok-store.ensures.ok place d
          ∙ joined_store_along at g.S.DotStore.greater x (value_at cmp mine key) y (value_at cmp yours key) (has c.args.own.now) (has c.args.theirs.now)
          (sym here.0) (sym here.1) place d)
          (λ q apart e. put_apart cmp key value old new updates q apart ∙ e)
          (λ q apart e place d. ap (λ o. held_by at o place d) (put_apart cmp key value old new updates q apart) ∙ e place d),
      each_put_some (λ s. HasNothing (at s) → ⊥) cmp c.loop-key.kept c.put_some.new.list key value c.loop-key.invariant.1 c.in_ok-store.ensures.filled
          c.in_ok-put_some.ensures.entries,
      each_put_some g.S.DotStore.canonical cmp c.loop-key.kept c.put_some.new.list key value c.loop-key.invariant.2 c.in_ok-store.ensures.canonical
          c.in_ok-put_some.ensures.entries,
    )

pub returns-clause-ok : goal.returns-clause-ok
unfolding at_stores
returns-clause-ok g c = λ key.
    let cmp = g.K.Ord.cmp in
    let at = g.S.DotStore.at in
    let mine = c.args.mine.now in
    let yours = c.args.yours.now in
    let old = value_at cmp c.loop-key.kept in
    let wanted = λ (q : _). joined_store at g.S.DotStore.greater (value_at cmp mine q) (has c.args.own.now) (value_at cmp yours q) (has c.args.theirs.now) in
    walked_all cmp mine yours (λ (q : _). old q ≡ None) (λ (q : _). HoldsSame (held_by at (old q)) (wanted q))
    c.loop-key.merge c.loop-key.invariant.0 c.in_default.ensures.end key
    (λ e f none place d. ap (λ o. held_by at o place d) none
    ∙ sym (joined_store_along at g.S.DotStore.greater (value_at cmp mine key) None (value_at cmp yours key) None (has c.args.own.now) (has c.args.theirs.now)
    e f place d))
