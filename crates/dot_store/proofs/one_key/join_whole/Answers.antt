use Rattle.std.proofs.Common.{sym, subst}
use Rattle.causal_context.specs.Context.{has}
use Rattle.ordered_list.specs.Places.{value_at}
use Rattle.dot_store.specs.Store.{HoldsSame}
use Rattle.dot_store.specs.Stores.{held_by, joined_store, NoKeyIsEmpty}
use Rattle.dot_store.proofs.one_key.join_whole.Goals as goal

pub returns-clause-ok : goal.returns-clause-ok
returns-clause-ok g c =
    let at = g.S.DotStore.at in
    let cmp = g.K.Ord.cmp in
    λ key.
    subst
    (λ l. HoldsSame (held_by at (value_at cmp l key)) (joined_store at g.S.DotStore.greater (value_at cmp c.args.mine.now key) (has c.args.own.now)
    (value_at cmp c.args.yours.now key) (has c.args.theirs.now)))
    (sym c.replace.ensures.after) (c.in_ok-both.ensures.ok key)

pub returns-clause-filled : goal.returns-clause-filled
returns-clause-filled g c = subst (NoKeyIsEmpty g.S.DotStore.at) (sym c.replace.ensures.after) c.in_ok-both.ensures.filled
