use Rattle.std.proofs.Common.{◌≡◌, ◌∙◌, cond, ap, sym, subst}
use Rattle.std.specs.Borrow.{Bor}
use Rattle.std.specs.Cmp.{eq_by_cmp_equiv}
use Rattle.std.specs.Cmp.Lexicographic.{nat_list_cmp_total}
use Rattle.std.proofs.lemmas.Result.{on_ok_weaker}
use Rattle.dot_store.specs.Stores.{at_stores}
use Rattle.dots.specs.Bytes.{bytes_cmp}
use Rattle.trie_map.specs.Keyed.{at_keys}
use Rattle.trie_map.proofs.Written.{holds_either}
use Rattle.live_map.specs.Closing.{stores_of}
use Rattle.live_map.proofs.bringing.copy_one.Goals as goal

pub returns-clause-here : goal.returns-clause-here
returns-clause-here g c =
    let at = g.S.DotStore.at in
    let key = c.args.key.now in
    let held = at_stores at bytes_cmp c.args.held.now in
    let holds : (place : _) (d : _) → at_keys at (stores_of c.args.trie.now) (key, place) d ≡ at c.unwrap_or-store.result.now place d =
    subst (λ (b : Bor g.row.S.Denot). (place : _) (d : _) → at_keys at (stores_of c.args.trie.now) (key, place) d ≡ at b.now place d)
    (sym c.unwrap_or-store.ensures)
    (holds_either at (stores_of c.args.trie.now) key c.lookup.result _ c.lookup.ensures c.empty-empty.ensures) in
    on_ok_weaker c.put_copy.result
    (λ put place d. put (key, place) d
    ∙ ap (λ b. cond b (at c.unwrap_or-store.result.now place d) (held (key, place) d)) ((eq_by_cmp_equiv nat_list_cmp_total).refl key) ∙ sym (holds place d))
    c.put_copy.ensures.ok

pub returns-clause-apart : goal.returns-clause-apart
returns-clause-apart g c =
    let at = g.S.DotStore.at in
    let held = at_stores at bytes_cmp c.args.held.now in
    on_ok_weaker c.put_copy.result
    (λ put q apart place d. put (q, place) d ∙ ap (λ b. cond b (at c.unwrap_or-store.result.now place d) (held (q, place) d)) apart)
    c.put_copy.ensures.ok
