-- What stands before the second delta.
use Rattle.std.proofs.Common.{◌≡◌, ℕ, ◌<◌, ◌≤◌, List, ◌++◌, length, take, drop, refl, sym, ap, subst, ◌∙◌, append_assoc, arith, length-append}
use Rattle.std.proofs.lemmas.List.{take-append-drop, length-take}
use Rattle.wire_form.specs.Spelling.{number, IsNumber, pair, IsPair, Begins, HasNoSpelling}
use Rattle.wire_form.specs.Parts.{IsName}
use Rattle.wire_form.specs.Unique.{IsUnique, number_unique, name_unique, pair_unique, same_front}
use Rattle.wire_form.proofs.Pairs.{pair_begins, none_first, none_second}
use Rattle.saved_form.specs.Saved.{sized, IsSized, head, IsHead}

-- ---- bytes behind their number

pub sized_unique : IsUnique sized IsSized
sized_unique v w a b p q e =
    let long = number_unique (length v) (length w) (v ++ a) (w ++ b) p q (sym (append_assoc (number (length v)) v a) ∙ e
    ∙ append_assoc (number (length w)) w b) in
    same_front (length v) v w a b refl (sym long.0) long.1

pub no_sized_number : (bytes : List ℕ) → HasNoSpelling number IsNumber bytes → HasNoSpelling sized IsSized bytes
no_sized_number bytes none v rest h = none (length v) (v ++ rest) (record { fits = h.fits; parts = h.parts ∙ append_assoc (number (length v)) v rest })

pub no_sized : (bytes : List ℕ) (n : ℕ) (rest : List ℕ) → Begins number IsNumber bytes n rest → length rest < n → HasNoSpelling sized IsSized bytes
no_sized bytes n rest read short v end h =
    let same = number_unique n (length v) rest (v ++ end) read.fits h.fits (sym read.parts ∙ h.parts ∙ append_assoc (number (length v)) v end) in
    omega (arith, short, same.0, ap length same.1, length-append v end)

pub sized_begins : (bytes : List ℕ) (n : ℕ) (rest front end : List ℕ) → Begins number IsNumber bytes n rest → n ≤ length rest → front ≡ take n rest
    → end ≡ drop n rest
    → Begins sized IsSized bytes front end
sized_begins bytes n rest front end read long f d =
    let is : length front ≡ n = ap length f ∙ omega (arith, length-take n rest) in
    record {
      fits = subst IsNumber (sym is) read.fits;
      parts = read.parts ∙ (λ i. number (sym is i) ++ rest) ∙ ap (λ (x : List ℕ). number (length front) ++ x)
          (sym (take-append-drop n rest) ∙ (λ i. sym f i ++ sym d i))
          ∙ sym (append_assoc (number (length front)) front end);
    }

-- ---- the three together

pub head_unique : IsUnique head IsHead
head_unique p q a b fp fq e =
    pair_unique number IsName (pair number sized) (IsPair IsNumber IsSized) name_unique
    (λ x y c d fx fy h. pair_unique number IsNumber sized IsSized number_unique sized_unique x y c d fx fy h) p q a b fp fq e

pub no_head_name : (bytes : List ℕ) → HasNoSpelling number IsName bytes → HasNoSpelling head IsHead bytes
no_head_name bytes none = none_first number IsName (pair number sized) (IsPair IsNumber IsSized) bytes none

pub no_head_number : (bytes : List ℕ) (name : ℕ) (rest : List ℕ) → Begins number IsName bytes name rest → HasNoSpelling number IsNumber rest
    → HasNoSpelling head IsHead bytes
no_head_number bytes name rest read none =
    none_second number IsName (pair number sized) (IsPair IsNumber IsSized) name_unique bytes name rest read
    (none_first number IsNumber sized IsSized rest none)

pub no_head_sized : (bytes : List ℕ) (name : ℕ) (rest : List ℕ) (n : ℕ) (end : List ℕ) → Begins number IsName bytes name rest
    → Begins number IsNumber rest n end → HasNoSpelling sized IsSized end
    → HasNoSpelling head IsHead bytes
no_head_sized bytes name rest n end first second none =
    none_second number IsName (pair number sized) (IsPair IsNumber IsSized) name_unique bytes name rest first
    (none_second number IsNumber sized IsSized number_unique rest n end second none)

pub head_begins : (bytes : List ℕ) (name : ℕ) (rest : List ℕ) (n : ℕ) (end : List ℕ) (v last : List ℕ) → Begins number IsName bytes name rest
    → Begins number IsNumber rest n end
    → Begins sized IsSized end v last → Begins head IsHead bytes (name, (n, v)) last
head_begins bytes name rest n end v last first second third =
    pair_begins number IsName (pair number sized) (IsPair IsNumber IsSized) bytes name rest (n, v) last first
    (pair_begins number IsNumber sized IsSized rest n end v last second third)
