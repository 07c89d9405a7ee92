use Rattle.std.proofs.Common.{ap, ◌∙◌, ◌++◌, sym, subst, length, codes, inr}
use Rattle.std.specs.Fmt.{decimal}
use Rattle.op_model.specs.Meaning.{HoldsField}
use Rattle.replica_core.specs.Meaning.{meaning}
use Rattle.replica_core.specs.Reading.{Lists}
use Rattle.trace_world.proofs.ReadTexts.{fields_told}
use Rattle.trace_world.proofs.reading.read_fields.Goals as goal

pub returns : goal.returns
returns g c =
    let same = c.as_slice.ensures.value in
    let front = (λ i. (c.into_bytes-text.ensures.value i).items) ∙ c.in_ok-fields_answer.ensures.ok
    ∙ ap (λ n. codes "fields " ++ decimal n) (c.len.ensures ∙ (c.in_ok-fields.fields.ok.0 ∙ ap length (sym same))) in
    let live = (meaning c.args.replica.now).live in
    let lists : Lists (HoldsField live c.in_ok-key.key) c.as_slice.result.now =
    subst (λ fs. Lists (HoldsField live c.in_ok-key.key) fs) (sym same) c.in_ok-fields.ensures.ok in
    inr (
      c.in_ok-key.ensures.ok.1,
      fields_told live c.args.key.now c.in_ok-key.key c.as_slice.result.now c.into_bytes-text.result.items
          c.push_fields.new.out.items c.in_ok-key.ensures.ok.0 lists front c.in_ok-push_fields.ensures.ok,
    )
