use Rattle.std.proofs.Common.{sym, subst}
use Rattle.causal_context.specs.Context.{has}
use Rattle.dot_store.specs.Stores.{IsOnlyKey}
use Rattle.dot_store.proofs.OneKey.{both_so, joined_by_key}
use Rattle.dot_store.proofs.one_key.join_list.Goals as goal

pub returns-clause-ok : goal.returns-clause-ok
returns-clause-ok g c =
    let at = g.S.DotStore.at in
    let cmp = g.K.Ord.cmp in
    let mine = c.args.mine.now in
    let yours = c.args.yours.now in
    let key = c.in_ok-key-in-Some.key in
    let only = subst (λ l. IsOnlyKey at cmp l c.entries-2.result.now c.args.found.now c.in-Some.key.now) c.entries.ensures.all c.in-Some.ensures in
    let only_here = subst (λ l. IsOnlyKey at cmp mine l c.args.found.now c.in-Some.key.now) c.entries-2.ensures.all only in
    both_so c.join_at_key.result
    (λ here apart. joined_by_key at cmp g.met.K.Kept.exact g.S.DotStore.greater mine yours c.join_at_key.new.mine (has c.args.own.now) (has c.args.theirs.now)
    c.args.found.now key c.requires.found
    (subst (IsOnlyKey at cmp mine yours c.args.found.now) (sym c.in_ok-key-in-Some.ensures.ok) only_here) here apart)
    c.join_at_key.ensures.here c.join_at_key.ensures.apart
