-- Texts at the front of bytes.
use Rattle.std.proofs.Common.{◌≡◌, ℕ, ◌<◌, ◌≤◌, List, ◌++◌, length, take, drop, refl, sym, ap, subst, ◌∙◌, append_assoc, arith, length-append, inl, inr}
use Rattle.std.specs.Prelude.{◌⊎◌}
use Rattle.std.specs.Int.{w16, to_be_bytes, from_be_bytes}
use Rattle.std.proofs.lemmas.List.{take-append-drop, length-take}
use Rattle.std.proofs.lemmas.Nat.{be_bytes_2}
use Rattle.dots.specs.Bytes.{MAX_LENGTH}
use Rattle.dots.specs.declared.refusal.Refusal.{Refusal}
use Rattle.dots.specs.declared.refusal.Refusal.TheVariants.{OutOfMemory, TooLong}
use Rattle.wire_form.specs.Spelling.{Begins, HasNoSpelling}
use Rattle.wire_form.specs.Parts.{text, IsText}
use Rattle.wire_form.specs.Reading.{RefusesReading}
use Rattle.wire_form.specs.Unique.{same_front, length_again}
use Rattle.wire_form.proofs.Numbers.{AreBytes, AreBytes-take}

-- fewer than two bytes are no text
pub no_length : (bytes : List ℕ) → length bytes < 2 → HasNoSpelling text IsText bytes
unfolding text
no_length bytes short v rest h = omega (
  arith,
  ap length h.parts,
  length-append (to_be_bytes w16 (length v) ++ v) rest,
  length-append (to_be_bytes w16 (length v)) v,
)

-- the two bytes of a length
pub length_begins : (bytes front rest : List ℕ) (n : ℕ) → AreBytes bytes → 2 ≤ length bytes → front ≡ take 2 bytes → rest ≡ drop 2 bytes
    → n ≡ from_be_bytes w16 front
    → (bytes ≡ to_be_bytes w16 n ++ rest) × (n ≤ MAX_LENGTH)
length_begins bytes front rest n fits long f r is =
    let two : length front ≡ 2 = ap length f ∙ omega (arith, length-take 2 bytes) in
    let each : AreBytes front = subst AreBytes (sym f) (AreBytes-take 2 bytes fits) in (
      sym (take-append-drop 2 bytes) ∙ ap (λ (x : List ℕ). x ++ drop 2 bytes) (sym f ∙ sym (be_bytes_2 front n two each is))
          ∙ ap (λ (x : List ℕ). to_be_bytes w16 n ++ x) (sym r),
      rw is (omega (arith, each 0, each 1)),
    )

-- fewer bytes than the length says are no text
pub no_text : (bytes rest : List ℕ) (n : ℕ) → bytes ≡ to_be_bytes w16 n ++ rest → n ≤ MAX_LENGTH → length rest < n → HasNoSpelling text IsText bytes
unfolding text
no_text bytes rest n parts most short v end h =
    let long = same_front 2 (to_be_bytes w16 n) (to_be_bytes w16 (length v)) rest (v ++ end) refl refl
    (sym parts ∙ h.parts ∙ append_assoc (to_be_bytes w16 (length v)) v end) in
    let same = length_again n (length v) most h.fits long.0 in
    omega (arith, ap length long.1, length-append v end)

pub text_begins : (bytes rest front end : List ℕ) (n : ℕ) → bytes ≡ to_be_bytes w16 n ++ rest → n ≤ MAX_LENGTH → n ≤ length rest → front ≡ take n rest
    → end ≡ drop n rest
    → Begins text IsText bytes front end
unfolding text
text_begins bytes rest front end n parts most long f e =
    let len : length front ≡ n = ap length f ∙ omega (arith, length-take n rest) in
    record {
      fits = omega arith;
      parts = parts ∙ ap (λ (x : List ℕ). to_be_bytes w16 n ++ x) (sym (take-append-drop n rest) ∙ ap (λ (x : List ℕ). x ++ drop n rest) (sym f)
          ∙ ap (λ (x : List ℕ). front ++ x) (sym e))
          ∙ ap (λ (k : ℕ). to_be_bytes w16 k ++ (front ++ end)) (sym len) ∙ sym (append_assoc (to_be_bytes w16 (length front)) front end);
    }

-- a text is not too long for a key or a value
pub refuses_text : (P : Type 0) (bytes : List ℕ) (e : Refusal) → IsText bytes → (e ≡ TooLong → MAX_LENGTH < length bytes) → (e ≡ TooLong) ⊎ (e ≡ OutOfMemory)
    → RefusesReading P e
refuses_text P bytes e fits long why = elim why [ inl l ↦ absurd (omega (arith, long l)) | inr m ↦ subst (RefusesReading P) (sym m) tt ]
