use Rattle.std.proofs.Common.{◌≡◌, ◌∙◌, ap, sym, subst}
use Rattle.std.proofs.lemmas.Result.{IfOk-weaker}
use Rattle.std.specs.FinMap as finite
use Rattle.std.specs.Borrow.{Bor}
use Rattle.causal_context.specs.Context.{has}
use Rattle.dot_store.specs.Stores.{at_stores}
use Rattle.dots.specs.Bytes.{bytes_cmp}
use Rattle.trie_map.specs.Here.{IsJoinHere}
use Rattle.live_map.proofs.Changing.{held_either}
use Rattle.live_map.proofs.one_key.made_at.Goals as goal

pub returns-clause-ok : goal.returns-clause-ok
returns-clause-ok g c =
    let at = g.S.DotStore.at in
    let key = c.args.key.now in
    let y = c.unwrap_or-yours.result.now in
    let holds : (place : _) (d : _) → at_stores at bytes_cmp c.args.delta.now.0 (key, place) d ≡ at y place d = λ place d.
    ap (λ stores. at_stores at bytes_cmp stores (key, place) d) (sym c.store.ensures.value) ∙ c.get.ensures.held place d
    ∙ held_either at c.get.result _ c.empty-empty.ensures place d
    ∙ ap (λ (b : Bor g.row.S.Denot). at b.now place d) (sym c.unwrap_or-yours.ensures) in
    IfOk-weaker c.joined_at.result _ _
    (λ made is. record {
      store = y;
      holds = holds;
      joins = subst (λ context. IsJoinHere at g.S.DotStore.greater (finite.get c.args.mine.now.1 key) (has c.args.own.now) y (has context) made)
          c.context.ensures.value is;
    })
    c.joined_at.ensures.ok
