-- The messages that an event made, one after the other: over plain variables.
use Rattle.std.proofs.Common.{◌≡◌, ℕ, zero, suc, ◌+◌, ◌-◌, ◌<◌, ◌≤◌, List, [], ◌∷◌, ◌++◌, length, drop, refl, sym, ap, ◌∙◌, arith, append_assoc, append-nil}
use Rattle.std.proofs.Common.{Some}
use Rattle.std.specs.Prelude.{slice_get}
use Rattle.replica_model.specs.World.{Message, message_at}
use Rattle.trace_world.specs.Told.{messages_text, found_text, flush_text, sent_text}

-- what is left from a place on begins with what stands there
drop_at : (ms : List Message) (k : ℕ) → k < length ms → (m : Message) × (slice_get ms k ≡ Some m) × (drop k ms ≡ m ∷ drop (suc k) ms)
drop_at [] k within = absurd (omega (arith, within))
drop_at (m ∷ ms) zero within = (m, refl, refl)
drop_at (m ∷ ms) (suc k) within = drop_at ms k (omega (arith, within))

drop_none : (ms : List Message) (k : ℕ) → length ms ≤ k → drop k ms ≡ []
drop_none [] zero past = refl
drop_none [] (suc k) past = refl
drop_none (m ∷ ms) zero past = absurd (omega (arith, past))
drop_none (m ∷ ms) (suc k) past = drop_none ms k (omega (arith, past))

-- one message more
one_more : (ms : List Message) (k : ℕ) (mid new all : List ℕ) → k < length ms → new ≡ mid ++ found_text (suc k) (slice_get ms k)
    → mid ++ messages_text (suc k) (drop k ms) ≡ all → new ++ messages_text (suc (suc k)) (drop (suc k) ms) ≡ all
one_more ms k mid new all within added is =
    let at = drop_at ms k within in
    let text = found_text (suc k) (Some at.0) in
    let rest = messages_text (suc (suc k)) (drop (suc k) ms) in
    ap (λ t. t ++ rest) (added ∙ ap (λ o. mid ++ found_text (suc k) o) at.1) ∙ append_assoc mid text rest
    ∙ ap (λ xs. mid ++ messages_text (suc k) xs) (sym at.2) ∙ is

pub messages_more : (ms : List Message) (number end : ℕ) (mid new all : List ℕ) → 1 ≤ number → number < end → end ≡ length ms + 1
    → new ≡ mid ++ found_text number (message_at ms number)
    → mid ++ messages_text number (drop (number - 1) ms) ≡ all → new ++ messages_text (number + 1) (drop (number + 1 - 1) ms) ≡ all
messages_more ms zero end mid new all from within is added told = absurd (omega (arith, from))
messages_more ms (suc k) end mid new all from within is added told =
    let before : suc k - 1 ≡ k = omega arith in
    let after : suc k + 1 - 1 ≡ suc k = omega arith in
    let next : suc k + 1 ≡ suc (suc k) = omega arith in
    (λ i. new ++ messages_text (next i) (drop (after i) ms))
    ∙ one_more ms k mid new all (omega (arith, within, is)) added (ap (λ n. mid ++ messages_text (suc k) (drop n ms)) (sym before) ∙ told)

pub messages_end : (ms : List Message) (number end : ℕ) (text all : List ℕ) → end ≤ number → end ≡ length ms + 1
    → text ++ messages_text number (drop (number - 1) ms) ≡ all → text ≡ all
messages_end ms number end text all past is told =
    sym (append-nil text) ∙ ap (λ xs. text ++ messages_text number xs) (sym (drop_none ms (number - 1) (omega (arith, past, is)))) ∙ told

-- a flush that made messages
pub flushed_some : (ms : List Message) (first end : ℕ) (text : List ℕ) → 1 ≤ first → first < end → end ≡ length ms + 1
    → text ≡ sent_text first (drop (first - 1) ms) → text ≡ flush_text first (drop (first - 1) ms)
flushed_some ms first end text from within is said =
    let at = drop_at ms (first - 1) (omega (arith, from, within, is)) in
    said ∙ ap (sent_text first) at.2 ∙ ap (flush_text first) (sym at.2)
