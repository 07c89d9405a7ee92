use Rattle.std.proofs.Common.{ap, ◌∙◌, []}
use Rattle.trace_words.specs.Text.{context_text}
use Rattle.trace_world.specs.Outcome.{Done}
use Rattle.trace_world.proofs.reading.read_context.Goals as goal

-- the vector and the cloud of what the replica has seen
pub returns : goal.returns
returns g c =
    let text = c.in_ok-text.ensures.ok ∙ ap (λ vector. context_text vector c.cloud.result.now) c.vector.ensures.rest
    ∙ ap (context_text c.context-context.result.now.vector) c.cloud.ensures.rest in
    (c.context-context.result.now, c.vector.ensures.canonical, c.context-context.ensures, ap (λ t. Done t []) text)
