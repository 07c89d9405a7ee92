use Rattle.std.proofs.Common.{ap, ◌∙◌, inl, inr, ⊎_elim}
use Rattle.std.specs.Prelude.{IsTrue}
use Rattle.causal_join.specs.OrMap.{FieldsValue, fields_at}
use Rattle.dot_store.specs.Store.{HoldsDot}
use Rattle.dots.specs.Dot.{DotValue}
use Rattle.hash_path.specs.Map.{walk}
use Rattle.op_model.specs.Operation.{has as is_among}
use Rattle.trie_map.proofs.Visits.{Reached, visits_none, visits_next, reached_more, reached_all}
use Rattle.delta_ops.proofs.Clearing.{anywhere_of, cleared}
use Rattle.delta_ops.proofs.erasures.dots_anywhere.Goals as goal

pub loop-fields-init : goal.loop-fields-init
loop-fields-init g c =
    let map = c.args.live.now.0.0.1 in (
      visits_none map (g.H.PathHash.hash_of c.frozen.result.now.hash) c.into_iter-fields-iterator.result
          (Reached map (λ (fields : FieldsValue). (d : DotValue) → HoldsDot (fields_at fields) d → IsTrue (is_among c.new-dots.result.keys d)))
          (c.into_iter-fields-iterator.ensures.into_iter_gives ∙ c.iter-fields-items.ensures
          ∙ ap (walk (g.H.PathHash.hash_of c.frozen.result.now.hash)) (c.frozen.ensures.map ∙ ap (λ m. m.1) c.store.ensures.value)),
      λ d h. absurd (cc (h, ap (λ dots. is_among dots d) c.new-dots.ensures.empty)),
    )

pub loop-fields-preserved : goal.loop-fields-preserved
loop-fields-preserved g c =
    let pair = c.args.live.now.0 in
    let map = pair.0.1 in
    let old = c.loop-fields.dots.keys in
    let new = c.gather_fields.new.dots.keys in
    let Had = λ (fields : FieldsValue). (d : DotValue) → HoldsDot (fields_at fields) d → IsTrue (is_among old d) in
    let Has = λ (fields : FieldsValue). (d : DotValue) → HoldsDot (fields_at fields) d → IsTrue (is_among new d) in
    let key = c.in-Some.field-0-0.now in
    let fields = c.in-Some.fields.now in
    let added = c.in_ok-gather_fields.ensures.ok in
    let there = visits_next map c.loop-fields.fields-iterator c.next.new.self key fields (Reached map Had)
    c.loop-fields.invariant.0 c.in-Some.ensures.steps in (
      reached_more map Had Has c.loop-fields.fields-iterator c.next.new.self key fields c.loop-fields.invariant.0 c.in-Some.ensures.steps
          (λ w was d h. (added d).1 (inl (was d h))) (λ d h. (added d).1 (inr h)),
      λ d h. ⊎_elim (λ was. c.loop-fields.invariant.1 d was) (λ held. anywhere_of pair key fields there d held) ((added d).0 h),
    )

pub returns-clause-ok : goal.returns-clause-ok
returns-clause-ok g c =
    cleared c.args.live.now.0 c.loop-fields.dots.keys c.loop-fields.invariant.1
    (reached_all c.args.live.now.0.0.1 (λ (fields : FieldsValue). (d : DotValue) → HoldsDot (fields_at fields) d → IsTrue (is_among c.loop-fields.dots.keys d))
    c.loop-fields.fields-iterator
    c.loop-fields.invariant.0 c.in-None.ensures.steps.0)
