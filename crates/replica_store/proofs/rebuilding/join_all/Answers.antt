use Rattle.std.proofs.Common.{◌≡◌, ◌⊎◌, inl, inr, ◌+◌, List, ℕ, [], ◌∷◌, ◌++◌, map, take, sym, ap, ◌∙◌, subst}
use Rattle.replica_core.specs.Meaning.{meaning}
use Rattle.replica_store.specs.Reading.{HasJoined}
use Rattle.replica_store.proofs.Telling.{taken_more, joined_delta, joined_none}
use Rattle.replica_store.proofs.rebuilding.join_all.Goals as goal

pub loop-string-preserved : goal.loop-string-preserved
loop-string-preserved g c =
    let first = meaning c.args.replica.now in
    let old = meaning c.loop-string.replica in
    let new = meaning c.join_string.new.replica in
    let string = c.as_slice.result.now in
    let before = map (λ string. string.items) (take c.loop-string.string-index c.args.strings.now) in
    let more = taken_more (λ string. string.items) c.args.strings.now c.loop-string.string-index c.string-item.result c.loop-string-test.true
    c.string-item.is in
    let joined : HasJoined (before ++ string ∷ []) first new = elim c.in_ok-join_string.ensures [
      | inl delta ↦ joined_delta before string first old new c.loop-string.invariant delta.0 delta.1 delta.2
      | inr none ↦ joined_none before string first old new c.loop-string.invariant none.0 none.1
    ] in
    subst (λ strings. HasJoined strings first new) (ap (λ s. before ++ s ∷ []) c.as_slice.ensures.value ∙ sym more) joined
