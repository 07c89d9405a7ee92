use Rattle.std.proofs.Common.{◌≡◌, ◌∙◌, ap, sym}
use Rattle.std.specs.Borrow.{Bor}
use Rattle.causal_context.specs.Context.{has}
use Rattle.dot_store.specs.Stores.{at_stores}
use Rattle.dots.specs.Bytes.{bytes_cmp}
use Rattle.live_map.proofs.Changing.{held_either}
use Rattle.live_map.proofs.Members.{not_true}
use Rattle.live_map.proofs.touching.is_ended.Goals as goal

pub returns : goal.returns
returns g c = λ t.
    let at = g.S.DotStore.at in
    let key = c.args.key.now in
    let y = c.unwrap_or-store.result.now in
    let holds : (place : _) (d : _) → at_stores at bytes_cmp c.args.delta.now.0 (key, place) d ≡ at y place d = λ place d.
    ap (λ stores. at_stores at bytes_cmp stores (key, place) d) (sym c.store.ensures.value) ∙ c.get.ensures.held place d
    ∙ held_either at c.get.result _ c.empty-empty.ensures place d
    ∙ ap (λ (b : Bor g.row.S.Denot). at b.now place d) (sym c.unwrap_or-store.ensures) in (
      ap (λ x. has x c.args.dot) (sym c.context.ensures.value) ∙ sym c.contains.ensures ∙ c.if-not-contains.false,
      λ place. holds place c.args.dot ∙ c.contains-2.ensures.absent (not_true c.contains-2.result t) place,
    )
