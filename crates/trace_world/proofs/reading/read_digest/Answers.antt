use Rattle.std.proofs.Common.{ap, ◌∙◌, []}
use Rattle.trace_words.specs.Text.{digest_text}
use Rattle.trace_world.specs.Outcome.{Done}
use Rattle.trace_world.proofs.reading.read_digest.Goals as goal

pub returns : goal.returns
returns g c =
    let text = (λ i. (c.into_bytes.ensures.value i).items) ∙ c.in_ok-digest_answer.ensures.ok in
    (c.digest.ensures.0, c.digest.ensures.1, ap (λ t. Done t []) (text ∙ ap digest_text c.digest.ensures.2))
