use Rattle.std.proofs.Common.{ap, ◌∙◌, ◌++◌, sym, subst, length, codes}
use Rattle.std.specs.Fmt.{decimal}
use Rattle.op_model.specs.Meaning.{HoldsKey}
use Rattle.replica_core.specs.Meaning.{meaning}
use Rattle.replica_core.specs.Reading.{Lists}
use Rattle.trace_world.proofs.ReadTexts.{keys_told}
use Rattle.trace_world.proofs.reading.read_keys.Goals as goal

pub returns : goal.returns
returns g c =
    let same = c.as_slice.ensures.value in
    let front = (λ i. (c.into_bytes-text.ensures.value i).items) ∙ c.in_ok-map_answer.ensures.ok
    ∙ ap (λ n. codes "map " ++ decimal n) (c.len.ensures ∙ (c.in_ok-keys.keys.ok.0 ∙ ap length (sym same))) in
    let live = (meaning c.args.replica.now).live in
    let lists : Lists (HoldsKey live) c.as_slice.result.now = subst (λ ks. Lists (HoldsKey live) ks) (sym same) c.in_ok-keys.ensures.ok in
    keys_told live c.as_slice.result.now c.into_bytes-text.result.items c.push_keys.new.out.items lists front c.in_ok-push_keys.ensures.ok
