-- Numbers and texts as words: over plain variables.
use Rattle.std.proofs.Common.{◌≡◌, ◌≢◌, ℕ, ◌+◌, ◌-◌, ◌*◌, ◌^◌, ◌<◌, ◌≤◌, ◌==◌, ◌&&◌, nat_lt, not, Bool, true, false, cond, List, [], ◌∷◌, length, zero, suc}
use Rattle.std.proofs.Common.{IsSome, subst, Option, Some, None, IfSome, Result, Ok, Err, MatchResult, refl, ◌∙◌, ap, arith, rules}
use Rattle.std.proofs.lemmas.Bool.Decides.{nat_tests}
use Rattle.std.proofs.lemmas.Str.{IsUtf8-from_ascii}
use Rattle.std.proofs.lemmas.Str.Parse.{IsDigitsTest, IsNumeralModel, FoldsDigits, numerals_by_fold, parse_digits}
use Rattle.std.specs.Char.{is_ascii_digit}
use Rattle.std.specs.List.{list_all}
use Rattle.std.specs.Result.{result_ok, OkIff}
use Rattle.std.specs.Str.{IsUtf8, IsAscii}
use Rattle.std.specs.Str.Parse.{ParsesUnsigned}
use Rattle.trace_words.specs.Word.{is_numeral, value_after, numeral_value}

-- the test of a list of digits, as std's lemmas on numerals want it
digits_test : IsDigitsTest (λ ds. list_all is_ascii_digit ds ≡ true)
digits_test = search rules

value_folds : FoldsDigits value_after
value_folds = search rules

own : IsNumeralModel (λ ds. list_all is_ascii_digit ds ≡ true) (value_after 0)
own = numerals_by_fold _ digits_test value_after value_folds

and_left : (a b : Bool) → (a && b) ≡ true → a ≡ true
and_left true b h = refl
and_left false b h = h

and_right : (a b : Bool) → (a && b) ≡ true → b ≡ true
and_right true b h = h
and_right false b h = cc

pub numeral_digits : (word : List ℕ) → is_numeral word ≡ true → list_all is_ascii_digit word ≡ true
numeral_digits [] h = cc
numeral_digits (digit ∷ digits) h = and_right (not (digit == 48)) (list_all is_ascii_digit (digit ∷ digits)) h

numeral_nonempty : (word : List ℕ) → is_numeral word ≡ true → 0 < length word
numeral_nonempty [] h = absurd cc
numeral_nonempty (digit ∷ digits) h = omega arith

digit_small : (digit : ℕ) → is_ascii_digit digit ≡ true → digit < 128
digit_small digit h = grind (arith, nat_tests)

digits_ascii : (word : List ℕ) → list_all is_ascii_digit word ≡ true → IsAscii word
digits_ascii [] h k = omega arith
digits_ascii (digit ∷ digits) h zero = digit_small digit (and_left (is_ascii_digit digit) (list_all is_ascii_digit digits) h)
digits_ascii (digit ∷ digits) h (suc k) = digits_ascii digits (and_right (is_ascii_digit digit) (list_all is_ascii_digit digits) h) k

-- a numeral is text
pub numeral_utf8 : (word : List ℕ) → is_numeral word ≡ true → IsUtf8 word
numeral_utf8 word h = IsUtf8-from_ascii word (digits_ascii word (numeral_digits word h))

pub no_err : {T E U : Type 0} (P : T → Type 0) (Q : E → Type 0) (r : Result T E) → None ≡ result_ok r → MatchResult r P (λ e. (U → ⊥) × Q e) → U → ⊥
no_err P Q (Ok x) none cases u = cc
no_err P Q (Err e) none cases u = cases.0 u

pub at_ok : {T E : Type 0} (P : T → Type 0) (Q : E → Type 0) (r : Result T E) (x : T) → Some x ≡ result_ok r → MatchResult r P Q → P x
at_ok P Q (Ok y) x some cases = let e : y ≡ x = cc in subst P e cases
at_ok P Q (Err e) x some cases = absurd cc

fits : {E N : Type 0} (r : Result ℕ E) (v : ℕ) → N → OkIff r (N × (v < 2 ^ 64)) v → result_ok r ≡ cond (nat_lt v (2 ^ 64)) (Some v) None
fits (Ok x) v n h = let small : v < 2 ^ 64 = h.0.1 in let same : x ≡ v = h.1 in grind (arith, nat_tests)
fits (Err e) v n h = let large : (v < 2 ^ 64) → ⊥ = λ small. h (n, small) in grind (arith, nat_tests)

-- what `parse` gives for a numeral
pub number_of-parse : {E : Type 0} (word text : List ℕ) (r : Result ℕ E) (o : Option ℕ) → is_numeral word ≡ true → text ≡ word → ParsesUnsigned 64 10 text r
    → o ≡ result_ok r → o ≡ numeral_value word
number_of-parse word text r o h same p is =
    let parsed = rw same at p in
    is ∙ rw h (fits r (value_after 0 word) (numeral_nonempty word h) (parse_digits own 64 word r parsed (numeral_digits word h)))

value_after-le : (number : ℕ) (digits : List ℕ) → number ≤ value_after number digits
value_after-le number [] = omega arith
value_after-le number (digit ∷ digits) = omega (arith, value_after-le (number * 10 + (digit - 48)) digits)

first_digit : (digit : ℕ) → is_ascii_digit digit ≡ true → (digit == 48) ≡ false → 1 ≤ 0 * 10 + (digit - 48)
first_digit digit h other = grind (arith, nat_tests)

not_true : (b : Bool) → not b ≡ true → b ≡ false
not_true true h = cc
not_true false h = refl

numeral_positive : (word : List ℕ) → is_numeral word ≡ true → 1 ≤ value_after 0 word
numeral_positive [] h = absurd cc
numeral_positive (digit ∷ digits) h =
    let all = and_right (not (digit == 48)) (list_all is_ascii_digit (digit ∷ digits)) h in
    let first = first_digit digit (and_left (is_ascii_digit digit) (list_all is_ascii_digit digits) all)
    (not_true (digit == 48) (and_left (not (digit == 48)) (list_all is_ascii_digit (digit ∷ digits)) h)) in
    omega (arith, first, value_after-le (0 * 10 + (digit - 48)) digits)

if_some : {T : Type 0} (b : Bool) (v n : T) → Some n ≡ cond b (Some v) None → (b ≡ true) × (n ≡ v)
if_some true v n h = (refl, cc)
if_some false v n h = absurd cc

-- a number is from 1 on
pub number_of-positive : (word : List ℕ) (n : ℕ) → Some n ≡ numeral_value word → n ≢ 0
number_of-positive word n is zero_is =
    let parts = if_some (is_numeral word && nat_lt (value_after 0 word) (2 ^ 64)) (value_after 0 word) n is in
    let one = numeral_positive word (and_left (is_numeral word) (nat_lt (value_after 0 word) (2 ^ 64)) parts.0) in
    let same : n ≡ value_after 0 word = parts.1 in
    absurd (omega (arith, one, same, zero_is))

pub some_name : (o : Option ℕ) (n : ℕ) → n ≢ 0 → (n ≢ 0 → IsSome o) → IfSome o (λ name. name ≡ n) → o ≡ Some n
some_name None n h found value = let there : IsSome {T = ℕ} None = found h in absurd cc
some_name (Some name) n h found value = ap Some value
