use Rattle.std.proofs.Common.{◌≡◌, ◌∙◌, ap, sym, subst}
use Rattle.std.specs.Prelude.{is_some}
use Rattle.std.specs.Borrow.{Bor}
use Rattle.trie_map.specs.Keyed.{at_keys}
use Rattle.std.proofs.lemmas.Result.{on_ok_weaker}
use Rattle.trie_map.proofs.Written.{holds_either}
use Rattle.live_map.specs.Closing.{stores_of}
use Rattle.live_map.proofs.closing.name_key.Goals as goal

pub returns-clause-there : goal.returns-clause-there
returns-clause-there g c =
    let at = g.S.DotStore.at in
    let key = c.args.key.now in
    let holds : (place : _) (d : _) → at_keys at (stores_of c.args.built.now) (key, place) d ≡ at c.unwrap_or-store.result.now place d =
    subst (λ (b : Bor g.row.S.Denot). (place : _) (d : _) → at_keys at (stores_of c.args.built.now) (key, place) d ≡ at b.now place d)
    (sym c.unwrap_or-store.ensures)
    (holds_either at (stores_of c.args.built.now) key c.lookup.result _ c.lookup.ensures c.empty-empty.ensures) in
    on_ok_weaker c.name_store.result (λ there place d h fresh. there place d (ap is_some (sym (holds place d)) ∙ h) fresh) c.name_store.ensures.there
