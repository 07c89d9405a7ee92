use Rattle.std.proofs.Common.{◌≡◌, ◌++◌, ◌∷◌, [], ◌∙◌, ℕ, List, length}
use Rattle.std.proofs.Math.Seq.{append_snoc}
use Rattle.std.proofs.lemmas.List.{append_assoc}
use Rattle.std.proofs.lemmas.Result.{on_ok_weaker}
use Rattle.std.specs.Fmt.{decimal}
use Rattle.trace_words.specs.Text.{listed_text}
use Rattle.trace_words.specs.Word.{shown_as}
use Rattle.trace_words.proofs.answer.push_entry.Goals as goal

appended : (out label digits listed a b d e f : List ℕ) → a ≡ out ++ 32 ∷ [] → b ≡ a ++ label → d ≡ b ++ 32 ∷ [] → e ≡ d ++ digits → f ≡ e ++ listed
    → f ≡ out ++ (32 ∷ (label ++ (32 ∷ (digits ++ listed))))
appended out label digits listed a b d e f p q r s t =
    rw (t, s, r, q, p)
    (append_assoc (out ++ 32 ∷ [] ++ label ++ 32 ∷ []) digits listed ∙ append_snoc (out ++ 32 ∷ [] ++ label) 32 (digits ++ listed)
    ∙ append_assoc (out ++ 32 ∷ []) label (32 ∷ (digits ++ listed)) ∙ append_snoc out 32 (label ++ (32 ∷ (digits ++ listed))))

-- src/answer.rt
pub returns-clause-ok : goal.returns-clause-ok
returns-clause-ok g c =
    let digits = rw (c.as_bytes.ensures.value, c.in_ok-digits.ensures.ok) at c.in_ok-extend_from_slice.ensures.items in
    on_ok_weaker c.push_values.result (λ last. appended _ (shown_as c.args.label.now) (decimal (length c.args.found.now)) (listed_text c.args.found.now)
    _ _ _ _ _ c.in_ok-push.ensures.items c.in_ok-push_text.ensures.ok c.in_ok-push-2.ensures.items digits last) c.push_values.ensures.ok
