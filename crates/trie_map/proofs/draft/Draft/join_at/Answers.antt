use Rattle.std.proofs.Common.{ap, ◌∙◌, refl}
use Rattle.std.specs.FinMap as finite
use Rattle.causal_context.specs.Context.{has}
use Rattle.dot_store.specs.Store.{HasNothing}
use Rattle.std.proofs.lemmas.Result.{on_err_weaker, on_ok_weaker}
use Rattle.trie_map.proofs.Written.{each_remove, each_after_insert, joins_kept, joins_cut, joins_put}
use Rattle.trie_map.proofs.draft.Draft.join_at.Goals as goal

pub returns-then-same-clause-ok : goal.returns-then-same-clause-ok
returns-then-same-clause-ok g c =
    joins_kept g.S.DotStore.at g.S.DotStore.greater c.args.mine.now (has c.args.own.now) c.args.yours.now (has c.args.theirs.now)
    c.in_ok-both.both c.in_ok-both.ensures.ok
    c.args.self.now.1 c.args.key.now (c.if-same.ensures.0 refl)

pub invariant_of-self-then-is_empty : goal.invariant_of-self-then-is_empty
invariant_of-self-then-is_empty g c =
    let old = c.self.inside.entries.map in
    let new = c.remove.new.self.map in
    let is = ap (λ t. t.map) c.in_ok-remove.ensures.ok in (
      each_remove (λ s. HasNothing (g.S.DotStore.at s) → ⊥) old new c.args.key.now c.self.invariant.0 is,
      each_remove g.S.DotStore.canonical old new c.args.key.now c.self.invariant.1 is,
    )

pub returns-then-is_empty-clause-ok : goal.returns-then-is_empty-clause-ok
returns-then-is_empty-clause-ok g c =
    joins_cut g.S.DotStore.at g.S.DotStore.greater c.args.mine.now (has c.args.own.now) c.args.yours.now (has c.args.theirs.now)
    c.in_ok-both.both c.in_ok-both.ensures.ok
    c.args.self.now.1 c.remove.new.self.map c.args.key.now (ap (λ t. t.map) c.in_ok-remove.ensures.ok
    ∙ ap (λ p. finite.remove p.1 c.args.key.now) c.self.view_is) (c.if-is_empty.ensures.nothing.0 refl)

pub invariant_of-self-in-Ok : goal.invariant_of-self-in-Ok
invariant_of-self-in-Ok g c =
    let old = c.self.inside.entries.map in
    let new = c.insert.new.self.map in
    let key = c.in-Ok.key in
    let both = c.in_ok-both.both in
    let put = on_ok_weaker c.insert.result (λ e. ap (λ t. t.map) e) c.insert.ensures.ok in
    let stayed = on_err_weaker c.insert.result (λ e. ap (λ t. t.map) e) c.insert.ensures.same in (
      each_after_insert (λ s. HasNothing (g.S.DotStore.at s) → ⊥) c.insert.result old new key both c.self.invariant.0
          (λ h. absurd (cc (c.if-is_empty.false, c.is_empty.ensures.nothing.1 h))) put stayed,
      each_after_insert g.S.DotStore.canonical c.insert.result old new key both c.self.invariant.1 c.is_empty.ensures.canonical put stayed,
    )

pub returns-in-Ok-clause-ok : goal.returns-in-Ok-clause-ok
returns-in-Ok-clause-ok g c =
    on_ok_weaker c.insert.result
    (λ e. joins_put g.S.DotStore.at g.S.DotStore.greater c.args.mine.now (has c.args.own.now) c.args.yours.now (has c.args.theirs.now)
    c.in_ok-both.both c.in_ok-both.ensures.ok
    c.args.self.now.1 c.insert.new.self.map c.args.key.now
    (ap (λ t. t.map) e ∙ (λ i. finite.insert (c.self.view_is i).1 (c.in-Ok.ensures.ok i) c.in_ok-both.both)))
    c.insert.ensures.ok
