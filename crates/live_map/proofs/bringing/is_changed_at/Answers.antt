use Rattle.std.proofs.Common.{◌≡◌, ◌∙◌, sym, subst}
use Rattle.std.specs.Borrow.{Bor}
use Rattle.causal_context.specs.Context.{has}
use Rattle.trie_map.specs.Keyed.{at_keys}
use Rattle.trie_map.proofs.Written.{holds_either}
use Rattle.live_map.specs.Closing.{stores_of}
use Rattle.live_map.proofs.Brought.{stays_at}
use Rattle.live_map.proofs.bringing.is_changed_at.Goals as goal

pub returns-clause-stays : goal.returns-clause-stays
returns-clause-stays g c = λ e.
    let at = g.S.DotStore.at in
    let key = c.args.key.now in
    let y = c.unwrap_or-yours.result.now in
    let holds : (place : _) (d : _) → at_keys at (stores_of c.args.built.now) (key, place) d ≡ at y place d =
    subst (λ (b : Bor g.row.S.Denot). (place : _) (d : _) → at_keys at (stores_of c.args.built.now) (key, place) d ≡ at b.now place d)
    (sym c.unwrap_or-yours.ensures)
    (holds_either at (stores_of c.args.built.now) key c.lookup.result _ c.lookup.ensures c.empty-empty.ensures) in
    stays_at at g.S.DotStore.greater c.args.mine.now (has c.args.own.now) (at_keys at (stores_of c.args.built.now)) (has c.args.theirs.now) key y
    c.in_ok-joined.joined holds c.in_ok-joined.ensures.ok (sym c.is_some-is_changed.ensures ∙ e)
