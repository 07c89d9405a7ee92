-- Numbers, names and dots at the front of bytes.
use Rattle.std.proofs.Common.{◌≡◌, ℕ, ◌<◌, ◌≤◌, ◌≢◌, zero, suc, true, false, List, ◌++◌, length, get_or, take, drop, refl, sym, ap, subst, ◌∙◌, arith}
use Rattle.std.proofs.Common.{length-append, inl, inr}
use Rattle.std.specs.Int.{w64, to_be_bytes, from_be_bytes}
use Rattle.std.proofs.lemmas.Bool.{cases_lt}
use Rattle.std.proofs.lemmas.List.{take-append-drop, length-take, get_or-take, get_or_past}
use Rattle.std.proofs.lemmas.Nat.{be_bytes_8}
use Rattle.wire_form.specs.Spelling.{number, IsNumber, pair, IsPair, Begins, HasNoSpelling}
use Rattle.wire_form.specs.Parts.{IsName, dot_bytes, IsDot}
use Rattle.wire_form.specs.Unique.{length-number, number_unique, pair_unique}
use Rattle.wire_form.proofs.Pairs.{pair_begins, none_second}
use Rattle.wire_form.proofs.Reading.{none_lawful}

-- each of them is a byte
abbrev pub AreBytes : List ℕ → Type 0
AreBytes bytes = (i : ℕ) → get_or bytes i 0 < 256

pub AreBytes-take : (n : ℕ) (bytes : List ℕ) → AreBytes bytes → AreBytes (take n bytes)
AreBytes-take n bytes h i =
    elim (cases_lt i n) [
      | inl lt ↦ rw (get_or-take n bytes i 0 lt) (h i)
      | inr le ↦ rw (get_or_past (take n bytes) i 0 (omega (arith, length-take n bytes))) (omega arith)
    ]

-- eight bytes are a number
pub number_begins : (bytes front rest : List ℕ) (n : ℕ) → AreBytes bytes → 8 ≤ length bytes → front ≡ take 8 bytes → rest ≡ drop 8 bytes
    → n ≡ from_be_bytes w64 front
    → Begins number IsNumber bytes n rest
unfolding number
number_begins bytes front rest n fits long f r is =
    let eight : length front ≡ 8 = ap length f ∙ omega (arith, length-take 8 bytes) in
    let each : AreBytes front = subst AreBytes (sym f) (AreBytes-take 8 bytes fits) in
    record {
      fits = rw is (omega (arith, each 0, each 1, each 2, each 3, each 4, each 5, each 6, each 7));
      parts = sym (take-append-drop 8 bytes) ∙ ap (λ (x : List ℕ). x ++ drop 8 bytes) (sym f ∙ sym (be_bytes_8 front n eight each is))
          ∙ ap (λ (x : List ℕ). to_be_bytes w64 n ++ x) (sym r);
    }

-- fewer are none
pub no_number : (bytes : List ℕ) → length bytes < 8 → HasNoSpelling number IsNumber bytes
no_number bytes short n rest h = omega (arith, ap length h.parts, length-append (number n) rest, length-number n)

-- ---- names

pub no_name : (bytes : List ℕ) (n : ℕ) (rest : List ℕ) → Begins number IsNumber bytes n rest → n ≡ 0 → HasNoSpelling number IsName bytes
no_name bytes n rest read nought = none_lawful number IsNumber IsName number_unique (λ v h. h.1) bytes n rest read (λ h. omega (arith, h.0))

pub name_begins : (bytes : List ℕ) (n : ℕ) (rest : List ℕ) → Begins number IsNumber bytes n rest → 1 ≤ n → Begins number IsName bytes n rest
name_begins bytes n rest read one = record { fits = (one, read.fits); parts = read.parts }

-- a number is 0 where there is no name of it
pub zero_unless : (n : ℕ) → (n ≢ 0 → false ≡ true) → n ≡ 0
zero_unless zero h = refl
zero_unless (suc n) h = absurd (cc (h (λ e. omega arith)))

-- ---- dots

pub no_dot_parts : (bytes : List ℕ) → HasNoSpelling (pair number number) (IsPair IsNumber IsNumber) bytes → HasNoSpelling dot_bytes IsDot bytes
no_dot_parts bytes none d rest h = none (d.name, d.number) rest (record { fits = (h.fits.0.1, h.fits.1.1); parts = h.parts })

pub no_dot_number : (bytes : List ℕ) (name : ℕ) (rest : List ℕ) → Begins number IsNumber bytes name rest → HasNoSpelling number IsNumber rest
    → HasNoSpelling dot_bytes IsDot bytes
no_dot_number bytes name rest read none = no_dot_parts bytes (none_second number IsNumber number IsNumber number_unique bytes name rest read none)

pub no_dot : (bytes : List ℕ) (name : ℕ) (rest : List ℕ) (n : ℕ) (end : List ℕ) → Begins number IsNumber bytes name rest → Begins number IsNumber rest n end
    → ((1 ≤ name) × (1 ≤ n) → false ≡ true)
    → HasNoSpelling dot_bytes IsDot bytes
no_dot bytes name rest n end first second bad d after h =
    let read = pair_begins number IsNumber number IsNumber bytes name rest n end first second in
    let same = pair_unique number IsNumber number IsNumber number_unique number_unique (name, n) (d.name, d.number) end after read.fits (h.fits.0.1, h.fits.1.1)
    (sym read.parts ∙ h.parts) in
    absurd (cc (bad (subst (λ (p : ℕ × ℕ). (1 ≤ p.0) × (1 ≤ p.1)) (sym same.0) (h.fits.0.0, h.fits.1.0))))
