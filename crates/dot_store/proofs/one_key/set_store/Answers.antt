use Rattle.std.proofs.Common.{subst}
use Rattle.std.specs.Prelude.{IfSome}
use Rattle.std.specs.BTreeMap.{is_at}
use Rattle.dot_store.specs.Store.{HasNothing}
use Rattle.dot_store.proofs.Stores.{each_after_put, each_remove}
use Rattle.dot_store.proofs.one_key.set_store.Goals as goal

pub returns-in-Some-clause-filled : goal.returns-in-Some-clause-filled
returns-in-Some-clause-filled g c =
    each_after_put (λ s. HasNothing (g.S.DotStore.at s) → ⊥) g.K.Ord.cmp c.insert.result c.args.stores.now c.insert.new.self c.args.key c.in-Some.store
    c.requires.filled
    (subst (λ o. IfSome o (λ s. HasNothing (g.S.DotStore.at s) → ⊥)) c.in-Some.is c.requires.store_filled) c.insert.ensures.ok c.insert.ensures.unchanged

pub returns-in-Some-clause-canonical : goal.returns-in-Some-clause-canonical
returns-in-Some-clause-canonical g c =
    each_after_put g.S.DotStore.canonical g.K.Ord.cmp c.insert.result c.args.stores.now c.insert.new.self c.args.key c.in-Some.store c.requires.canonical
    (subst (λ o. IfSome o g.S.DotStore.canonical) c.in-Some.is c.requires.store_canonical) c.insert.ensures.ok c.insert.ensures.unchanged

pub returns-in-None-clause-filled : goal.returns-in-None-clause-filled
returns-in-None-clause-filled g c = rw c.remove.ensures.entries
    (each_remove (λ s. HasNothing (g.S.DotStore.at s) → ⊥) (is_at (g.K.Ord.cmp c.args.key)) c.args.stores.now c.requires.filled)

pub returns-in-None-clause-canonical : goal.returns-in-None-clause-canonical
returns-in-None-clause-canonical g c = rw c.remove.ensures.entries
    (each_remove g.S.DotStore.canonical (is_at (g.K.Ord.cmp c.args.key)) c.args.stores.now c.requires.canonical)
