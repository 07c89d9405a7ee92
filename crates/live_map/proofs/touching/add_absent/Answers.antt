use Rattle.std.proofs.Common.{◌∙◌, sym, subst}
use Rattle.std.specs.List.{All}
use Rattle.std.proofs.lemmas.List.Elements.{All-push}
use Rattle.trie_map.specs.Keyed.{at_keys}
use Rattle.live_map.specs.Index.{IsGone}
use Rattle.live_map.proofs.Changing.{not_standing}
use Rattle.live_map.proofs.touching.add_absent.Goals.{then-not-contains+in_ok-copy+in_ok-push, else-not-contains}
use Rattle.live_map.proofs.touching.add_absent.Goals as goal

pub loop-dot-preserved : goal.loop-dot-preserved
loop-dot-preserved g c =
    let at = at_keys g.S.DotStore.at c.args.store.now in
    let dot = c.dot-item.result in
    elim c.if-not-contains.branch [
      | then-not-contains+in_ok-copy+in_ok-push w ↦
          let here : IsGone at (dot, w.in_ok-copy.field-0) = subst (λ key. IsGone at (dot, key)) (sym w.in_ok-copy.ensures.ok)
          (λ place. not_standing _ _ (sym c.contains.ensures ∙ w.if-not-contains.true) (c.requires.standing place dot)) in
          subst (λ gone. All (IsGone at) gone.items) (sym w.gone-is)
          (subst (All (IsGone at)) (sym w.in_ok-push.ensures.items)
          (All-push (IsGone at) c.loop-dot.gone.items (dot, w.in_ok-copy.field-0) c.loop-dot.invariant here))
      | else-not-contains w ↦ subst (λ gone. All (IsGone at) gone.items) (sym w.gone-is) c.loop-dot.invariant
    ]
