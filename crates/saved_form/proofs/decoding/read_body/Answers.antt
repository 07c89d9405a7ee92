use Rattle.std.proofs.Common.{◌∷◌}
use Rattle.std.proofs.lemmas.Result.{err_from_is_err_and}
use Rattle.wire_form.specs.Spelling.{number, IsNumber, HasNoSpelling, Begins}
use Rattle.causal_join.specs.OrMap.{OrMapValue}
use Rattle.wire_form.specs.Message.{SpellsDelta}
use Rattle.wire_form.proofs.Reading.{refuses_weaker}
use Rattle.saved_form.specs.Saved.{sized, IsSized, head, IsHead, SpellsNothingSaved}
use Rattle.saved_form.proofs.Heads.{no_head_number, no_head_sized, head_begins}
use Rattle.saved_form.proofs.Saves.{none_headless, none_first, none_second}
use Rattle.saved_form.proofs.decoding.read_body.Goals as goal

pub returns-in-Err-number_at : goal.returns-in-Err-number_at
returns-in-Err-number_at g c =
    let bytes = c.args.bytes.now in
    refuses_weaker (HasNoSpelling number IsNumber c.in-Ok.front.1.now) (SpellsNothingSaved (3 ∷ 2 ∷ bytes)) c.in-Err-number_at.refusal
    (λ none. none_headless bytes (no_head_number bytes c.in-Ok.front.0 c.in-Ok.front.1.now c.in-Ok.ensures none)) c.in-Err-number_at.ensures

pub returns-in-Err-sized_at : goal.returns-in-Err-sized_at
returns-in-Err-sized_at g c =
    let bytes = c.args.bytes.now in
    refuses_weaker (HasNoSpelling sized IsSized c.in-Ok-number_at.front.1.now) (SpellsNothingSaved (3 ∷ 2 ∷ bytes)) c.in-Err-sized_at.refusal
    (λ none. none_headless bytes (no_head_sized bytes c.in-Ok.front.0 c.in-Ok.front.1.now c.in-Ok-number_at.front.0 c.in-Ok-number_at.front.1.now
    c.in-Ok.ensures c.in-Ok-number_at.ensures none)) c.in-Err-sized_at.ensures

pub returns-in_err-live : goal.returns-in_err-live
returns-in_err-live g c =
    let bytes = c.args.bytes.now in
    let p = err_from_is_err_and c.from_residual.result c.from_residual.ensures.1 in
    let whole : Begins head IsHead bytes (c.in-Ok.front.0, (c.in-Ok-number_at.front.0, c.in-Ok-sized_at.front.0.now)) c.in-Ok-sized_at.front.1.now =
    head_begins bytes c.in-Ok.front.0 c.in-Ok.front.1.now c.in-Ok-number_at.front.0 c.in-Ok-number_at.front.1.now c.in-Ok-sized_at.front.0.now
    c.in-Ok-sized_at.front.1.now c.in-Ok.ensures c.in-Ok-number_at.ensures c.in-Ok-sized_at.ensures in
    rw (p.1, p.2)
    (refuses_weaker ((d : OrMapValue) → SpellsDelta c.in-Ok-sized_at.front.0.now d → ⊥) (SpellsNothingSaved (3 ∷ 2 ∷ bytes)) c.in_err-live.field-0.0
    (none_first bytes c.in-Ok.front.0 c.in-Ok-number_at.front.0 c.in-Ok-sized_at.front.0.now c.in-Ok-sized_at.front.1.now whole) c.in_err-live.ensures)

pub returns-in-Err-read_delta : goal.returns-in-Err-read_delta
returns-in-Err-read_delta g c =
    let bytes = c.args.bytes.now in
    let whole : Begins head IsHead bytes (c.in-Ok.front.0, (c.in-Ok-number_at.front.0, c.in-Ok-sized_at.front.0.now)) c.in-Ok-sized_at.front.1.now =
    head_begins bytes c.in-Ok.front.0 c.in-Ok.front.1.now c.in-Ok-number_at.front.0 c.in-Ok-number_at.front.1.now c.in-Ok-sized_at.front.0.now
    c.in-Ok-sized_at.front.1.now c.in-Ok.ensures c.in-Ok-number_at.ensures c.in-Ok-sized_at.ensures in
    refuses_weaker ((d : OrMapValue) → SpellsDelta c.in-Ok-sized_at.front.1.now d → ⊥) (SpellsNothingSaved (3 ∷ 2 ∷ bytes)) c.in-Err-read_delta.refusal
    (none_second bytes c.in-Ok.front.0 c.in-Ok-number_at.front.0 c.in-Ok-sized_at.front.0.now c.in-Ok-sized_at.front.1.now whole) c.in-Err-read_delta.ensures
