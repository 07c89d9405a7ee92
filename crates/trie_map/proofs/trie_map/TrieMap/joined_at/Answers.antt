use Rattle.std.proofs.Common.{◌≡◌, refl, sym, subst}
use Rattle.std.specs.Borrow.{Bor}
use Rattle.std.specs.FinMap as finite
use Rattle.causal_context.specs.Context.{has}
use Rattle.dot_store.specs.Stores.{held_by}
use Rattle.trie_map.proofs.Here.{stands_here, join_some, join_none, join_same}
use Rattle.trie_map.proofs.trie_map.TrieMap.joined_at.Goals as goal

pub returns-then-same-clause-ok : goal.returns-then-same-clause-ok
returns-then-same-clause-ok g c =
    let at = g.S.DotStore.at in
    let o = finite.get c.args.self.now.1 c.args.key.now in
    let mine = c.unwrap_or-mine.result.now in
    let holds : (place : _) (d : _) → held_by at o place d ≡ at mine place d =
    subst (λ (b : Bor g.row.S.Denot). (place : _) (d : _) → held_by at o place d ≡ at b.now place d) (sym c.unwrap_or-mine.ensures)
    (stands_here at o c.get.result _ c.get.ensures.store c.empty-empty.ensures) in
    join_same at g.S.DotStore.greater (has c.args.own.now) c.args.yours.now (has c.args.theirs.now) g.met.S.DotStore.greater_idem o mine holds
    (c.if-same.ensures.0 refl)

pub returns-then-same-2-clause-ok : goal.returns-then-same-2-clause-ok
returns-then-same-2-clause-ok g c =
    let at = g.S.DotStore.at in
    let o = finite.get c.args.self.now.1 c.args.key.now in
    let mine = c.unwrap_or-mine.result.now in
    let holds : (place : _) (d : _) → held_by at o place d ≡ at mine place d =
    subst (λ (b : Bor g.row.S.Denot). (place : _) (d : _) → held_by at o place d ≡ at b.now place d) (sym c.unwrap_or-mine.ensures)
    (stands_here at o c.get.result _ c.get.ensures.store c.empty-empty.ensures) in
    join_none at g.S.DotStore.greater (has c.args.own.now) c.args.yours.now (has c.args.theirs.now) o mine c.in_ok-both.both holds c.in_ok-both.ensures.ok
    (c.if-same-2.ensures.0 refl)

pub returns-clause-ok : goal.returns-clause-ok
returns-clause-ok g c =
    let at = g.S.DotStore.at in
    let o = finite.get c.args.self.now.1 c.args.key.now in
    let mine = c.unwrap_or-mine.result.now in
    let holds : (place : _) (d : _) → held_by at o place d ≡ at mine place d =
    subst (λ (b : Bor g.row.S.Denot). (place : _) (d : _) → held_by at o place d ≡ at b.now place d) (sym c.unwrap_or-mine.ensures)
    (stands_here at o c.get.result _ c.get.ensures.store c.empty-empty.ensures) in
    join_some at g.S.DotStore.greater (has c.args.own.now) c.args.yours.now (has c.args.theirs.now) o mine c.in_ok-both.both holds c.in_ok-both.ensures.ok
