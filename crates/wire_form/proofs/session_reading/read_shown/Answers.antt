use Rattle.std.specs.Prelude.{ℕ, List, Option}
use Rattle.causal_context.specs.Context.{ContextValue}
use Rattle.wire_form.specs.Spelling.{IsWhole}
use Rattle.wire_form.specs.Message.{root, IsRoot, opening, IsOpening}
use Rattle.wire_form.proofs.Reading.{refuses_weaker}
use Rattle.wire_form.proofs.Shown.{no_opening_root}
use Rattle.wire_form.proofs.session_reading.read_shown.Goals as goal

pub returns-in-Err : goal.returns-in-Err
returns-in-Err g c =
    refuses_weaker ((r : Option (List ℕ)) → IsWhole root IsRoot c.in_ok-context.rest.now r → ⊥)
    ((o : ContextValue × Option (List ℕ)) → IsWhole opening IsOpening c.args.bytes.now o → ⊥) c.in-Err.refusal
    (no_opening_root c.args.bytes.now c.in_ok-context.context c.in_ok-context.rest.now c.in_ok-context.ensures) c.in-Err.ensures
