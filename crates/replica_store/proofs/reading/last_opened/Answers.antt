use Rattle.std.proofs.Common.{◌≡◌, ◌+◌, List, ℕ, [], ◌∷◌, ◌++◌, map, take, sym, ap, ◌∙◌, subst}
use Rattle.replica_store.specs.Reading.{IsTold}
use Rattle.replica_store.proofs.Telling.{taken_more}
use Rattle.replica_store.proofs.reading.last_opened.Goals as goal

pub loop-string-preserved : goal.loop-string-preserved
loop-string-preserved c =
    let before = map (λ string. string.items) (take c.loop-string.string-index c.args.strings.now) in
    let more = taken_more (λ string. string.items) c.args.strings.now c.loop-string.string-index c.string-item.result c.loop-string-test.true
    c.string-item.is in
    subst (λ strings. IsTold c.number-number.result strings c.in_ok-told.told.is_named c.in_ok-told.told.number)
    (ap (λ s. before ++ s ∷ []) c.as_slice.ensures.value ∙ sym more)
    (c.in_ok-told.ensures before c.loop-string.invariant)
