use Rattle.std.proofs.Common.{◌∙◌, get_or, refl, sym, ap, subst, arith}
use Rattle.std.specs.Prelude.{is_some}
use Rattle.causal_context.specs.Context.{has}
use Rattle.dot_store.specs.Stores.{at_stores}
use Rattle.dots.specs.Bytes.{bytes_cmp}
use Rattle.live_map.specs.OneKey.{HasNoOther}
use Rattle.live_map.proofs.NewKey.{entry_alone, key_alone}
use Rattle.live_map.proofs.Repeating.{again_at}
use Rattle.live_map.proofs.again.key_again.Goals as goal

pub returns : goal.returns
returns g c =
    let at = at_stores g.S.DotStore.at bytes_cmp in
    let entries = c.entries.result.now in
    let entry = get_or entries 0 c.index-key-0.result in
    let dot = c.in_ok-dot.dot in
    let alone = entry_alone entries c.index-key-0.result c.index-key-0.result (omega (arith, c.in-len1.len_at_least, c.in-len1.len_below)) in
    again_at c.args.index.now (has c.args.own.now) (at c.args.delta.now.0) (has c.args.delta.now.1) dot entry.0
    (subst (λ x. HasNoOther (has x) dot) c.context.ensures.value c.in_ok-dot.ensures) (sym c.if-not-contains.ensures)
    (c.if-not-names_no_other.ensures refl)
    (λ q place d h. key_alone (at c.store.result.now) entries entry.0 entry.1 alone c.entries.ensures.only q place d
    (ap (λ l. is_some (at l (q, place) d)) c.store.ensures.value ∙ h))
