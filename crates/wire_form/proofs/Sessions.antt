-- Sessions at the front of bytes, and behind what was written.
use Rattle.std.proofs.Common.{◌≡◌, ℕ, ◌≤◌, true, false, List, ◌++◌, sym, ap, subst, ◌∙◌, append_assoc}
use Rattle.wire_form.specs.Spelling.{number, IsNumber, pair, IsPair, Begins, HasNoSpelling}
use Rattle.wire_form.specs.Parts.{IsName}
use Rattle.wire_form.specs.Session.{SessionValue, session, IsSession}
use Rattle.wire_form.specs.Unique.{IsUnique, pair_unique, number_unique}
use Rattle.wire_form.specs.Writing.{Appends}
use Rattle.wire_form.proofs.Pairs.{pair_begins, none_first, none_second}

-- three numbers
abbrev Numbers : Type 0
Numbers = (ℕ × ℕ) × ℕ

abbrev numbers : Numbers → List ℕ
numbers = pair (pair number number) number

abbrev AreNumbers : Numbers → Type 0
AreNumbers = IsPair (IsPair IsNumber IsNumber) IsNumber

two_unique : IsUnique (pair number number) (IsPair IsNumber IsNumber)
two_unique = pair_unique number IsNumber number IsNumber number_unique number_unique

numbers_unique : IsUnique numbers AreNumbers
numbers_unique = pair_unique (pair number number) (IsPair IsNumber IsNumber) number IsNumber two_unique number_unique

numbers_of : SessionValue → Numbers
numbers_of s = ((s.asker, s.answerer), s.number)

are_numbers : (s : SessionValue) → IsSession s → AreNumbers (numbers_of s)
unfolding numbers_of
are_numbers s h = ((h.0.1, h.1.1), h.2.1)

pub session_unique : IsUnique session IsSession
unfolding numbers_of
session_unique s t a b p q e =
    let both = numbers_unique (numbers_of s) (numbers_of t) a b (are_numbers s p) (are_numbers t q) e in
    let made : Numbers → SessionValue = λ x. record { asker = x.0.0; answerer = x.0.1; number = x.1 } in
    (ap made both.0, both.1)

no_numbers : (bytes : List ℕ) → HasNoSpelling numbers AreNumbers bytes → HasNoSpelling session IsSession bytes
unfolding numbers_of
no_numbers bytes none s rest h = none (numbers_of s) rest (record { fits = are_numbers s h.fits; parts = h.parts })

pub no_asker : (bytes : List ℕ) → HasNoSpelling number IsNumber bytes → HasNoSpelling session IsSession bytes
no_asker bytes none =
    let two = none_first number IsNumber number IsNumber bytes none in
    no_numbers bytes (none_first (pair number number) (IsPair IsNumber IsNumber) number IsNumber bytes two)

pub no_answerer : (bytes : List ℕ) (asker : ℕ) (rest : List ℕ) → Begins number IsNumber bytes asker rest → HasNoSpelling number IsNumber rest
    → HasNoSpelling session IsSession bytes
no_answerer bytes asker rest read none =
    let two = none_second number IsNumber number IsNumber number_unique bytes asker rest read none in
    no_numbers bytes (none_first (pair number number) (IsPair IsNumber IsNumber) number IsNumber bytes two)

pub no_session_number : (bytes : List ℕ) (asker : ℕ) (rest : List ℕ) (answerer : ℕ) (after : List ℕ) → Begins number IsNumber bytes asker rest
    → Begins number IsNumber rest answerer after
    → HasNoSpelling number IsNumber after → HasNoSpelling session IsSession bytes
no_session_number bytes asker rest answerer after first second none =
    let two = pair_begins number IsNumber number IsNumber bytes asker rest answerer after first second in
    no_numbers bytes (none_second (pair number number) (IsPair IsNumber IsNumber) number IsNumber two_unique bytes (asker, answerer) after two none)

numbers_begin : (bytes : List ℕ) (asker : ℕ) (rest : List ℕ) (answerer : ℕ) (after : List ℕ) (n : ℕ) (end : List ℕ) → Begins number IsNumber bytes asker rest
    → Begins number IsNumber rest answerer after
    → Begins number IsNumber after n end → Begins numbers AreNumbers bytes ((asker, answerer), n) end
numbers_begin bytes asker rest answerer after n end first second third =
    let two = pair_begins number IsNumber number IsNumber bytes asker rest answerer after first second in
    pair_begins (pair number number) (IsPair IsNumber IsNumber) number IsNumber bytes (asker, answerer) after n end two third

-- what was read is a session, where each number is from 1
pub session_begins : (bytes : List ℕ) (asker : ℕ) (rest : List ℕ) (answerer : ℕ) (after : List ℕ) (n : ℕ) (end : List ℕ) (s : SessionValue)
    → Begins number IsNumber bytes asker rest
    → Begins number IsNumber rest answerer after → Begins number IsNumber after n end → (1 ≤ asker) × (1 ≤ answerer) × (1 ≤ n)
    → s ≡ record { asker = asker; answerer = answerer; number = n }
    → Begins session IsSession bytes s end
session_begins bytes asker rest answerer after n end s first second third ones is =
    subst (λ (t : SessionValue). Begins session IsSession bytes t end) (sym is)
    (record {
      fits = ((ones.0, first.fits), (ones.1, second.fits), (ones.2, third.fits));
      parts = (numbers_begin bytes asker rest answerer after n end first second third).parts;
    })

-- and none, where one is 0
pub no_session : (bytes : List ℕ) (asker : ℕ) (rest : List ℕ) (answerer : ℕ) (after : List ℕ) (n : ℕ) (end : List ℕ) → Begins number IsNumber bytes asker rest
    → Begins number IsNumber rest answerer after
    → Begins number IsNumber after n end → ((1 ≤ asker) × (1 ≤ answerer) × (1 ≤ n) → false ≡ true) → HasNoSpelling session IsSession bytes
unfolding numbers_of
no_session bytes asker rest answerer after n end first second third bad s behind h =
    let read = numbers_begin bytes asker rest answerer after n end first second third in
    let same = numbers_unique ((asker, answerer), n) (numbers_of s) end behind read.fits (are_numbers s h.fits) (sym read.parts ∙ h.parts) in
    absurd (cc (bad (subst (λ (x : Numbers). (1 ≤ x.0.0) × (1 ≤ x.0.1) × (1 ≤ x.1)) (sym same.0) (h.fits.0.0, h.fits.1.0, h.fits.2.0))))

-- three numbers behind what was there
pub session_appends : (old first second new : List ℕ) (s : SessionValue) → Appends number IsName old first s.asker
    → Appends number IsName first second s.answerer
    → Appends number IsNumber second new s.number → 1 ≤ s.number → Appends session IsSession old new s
session_appends old first second new s p q r one = record {
  fits = (p.fits, q.fits, (one, r.fits));
  parts = r.parts ∙ ap (λ (t : List ℕ). t ++ number s.number) (q.parts ∙ ap (λ (t : List ℕ). t ++ number s.answerer) p.parts
      ∙ append_assoc old (number s.asker) (number s.answerer))
      ∙ append_assoc old (number s.asker ++ number s.answerer) (number s.number);
}
