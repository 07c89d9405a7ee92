use Rattle.std.proofs.Common.{[], ◌∷◌, map, take, sym, ap, subst₂, ◌∙◌}
use Rattle.std.proofs.lemmas.List.{map-append}
use Rattle.replica_store.specs.Writes.{MakesAll}
use Rattle.replica_store.proofs.Behind.{all_more}
use Rattle.replica_store.proofs.Telling.{taken_more}
use Rattle.replica_store.proofs.writing_all.make_all.Goals as goal

pub loop-write-preserved : goal.loop-write-preserved
loop-write-preserved g c =
    let hash = g.H.PathHash.hash_of in
    let call = g.W.ToMake.call in
    let answered = g.W.ToMake.answered in
    let first = c.args.replica.now in
    let last = c.make.new.replica in
    let before = c.loop-write.answers.items in
    let all = all_more hash call answered first c.loop-write.replica last _ _ _ _ c.loop-write.invariant c.in_ok-answer.ensures.ok in
    let calls = taken_more call c.args.writes.now c.loop-write.write-index c.write-item.result c.loop-write-test.true c.write-item.is in
    let answers = ap (map answered) c.in_ok-push.ensures.items ∙ map-append answered before (c.in_ok-answer.answer ∷ []) in
    subst₂ (λ calls answers. MakesAll hash first last calls answers) (sym calls) (sym answers) all
