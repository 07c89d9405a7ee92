-- What is read of the bytes of a message: its kind, its session, and a page.
use Rattle.std.proofs.Common.{◌≡◌, ℕ, zero, suc, ◌+◌, ◌-◌, List, [], ◌∷◌, ◌++◌, map, take, drop, Some, refl, sym, ap, ◌∙◌, subst, append_assoc}
use Rattle.std.proofs.Common.{arith, length-append}
use Rattle.std.specs.Prelude.{slice_index_or, slice_get}
use Rattle.std.specs.Int.{w64, from_be_bytes}
use Rattle.std.proofs.lemmas.List.{take_at, drop_at}
use Rattle.std.proofs.lemmas.Nat.{from_be_bytes-to_be_bytes_8}
use Rattle.wire_form.specs.Spelling.{number, IsNumber}
use Rattle.wire_form.specs.Unique.{length-number}
use Rattle.wire_form.specs.Message.{MessageValue, PAGE, VERSION, SpellsIn, Spells}
use Rattle.wire_form.specs.Message as message
use Rattle.wire_form.specs.Sent.{sent, IsSent}
use Rattle.wire_form.specs.Session.{SessionValue, session, IsSession}
use Rattle.replica_model.specs.Mail.{Mail, Delta, Hello, Opening, Ask, Page, Gone, mail_of}
use Rattle.replica_model.specs.World.{Message, message_at}
use Rattle.replica_model.specs.Seen.{Kind, kind_of, number_in, session_in}
use Rattle.replica_model.specs.Seen as seen
use Rattle.replica_model.specs.Spelled.{IsSpelled, AreSpelled}

-- the kind of a mail, and its session, or else this one
abbrev pub kind_for : Mail → Kind
kind_for (Delta d) = seen.Delta
kind_for (Hello s known) = seen.Hello
kind_for (Opening s context root) = seen.Opening
kind_for (Ask s prefix) = seen.Other
kind_for (Page s page) = seen.Page
kind_for (Gone s) = seen.Other

abbrev pub session_for : SessionValue → Mail → SessionValue
session_for other (Delta d) = other
session_for other (Hello s known) = s
session_for other (Opening s context root) = s
session_for other (Ask s prefix) = s
session_for other (Page s page) = s
session_for other (Gone s) = s

-- where it is a page, the bytes spell it
abbrev pub SpellsPage : List ℕ → Mail → Type 0
SpellsPage bytes (Delta d) = Unit {0}
SpellsPage bytes (Hello s known) = Unit {0}
SpellsPage bytes (Opening s context root) = Unit {0}
SpellsPage bytes (Ask s prefix) = Unit {0}
SpellsPage bytes (Page s page) = SpellsIn PAGE sent IsSent bytes s page
SpellsPage bytes (Gone s) = Unit {0}

pub record IsRead (bytes : List ℕ) (mail : Mail) : Type 0 where
  pub kind : kind_of bytes ≡ kind_for mail
  pub session : session_in bytes ≡ session_for (session_in bytes) mail
  pub page : SpellsPage bytes mail

-- ---- the session

-- a number at the front
number_first : (n : ℕ) (rest : List ℕ) → IsNumber n → from_be_bytes w64 (take 8 (number n ++ rest)) ≡ n
unfolding number
number_first n rest small = ap (from_be_bytes w64) (take_at (number n) rest 8 (length-number n)) ∙ from_be_bytes-to_be_bytes_8 n small

-- the three numbers stand one after another
session_first : (s : SessionValue) (rest : List ℕ) → session s ++ rest ≡ number s.asker ++ number s.answerer ++ number s.number ++ rest
unfolding number
session_first s rest =
    append_assoc (number s.asker) (number s.answerer ++ number s.number) rest
    ∙ ap (λ x. number s.asker ++ x) (append_assoc (number s.answerer) (number s.number) rest)

second_at : (a b : ℕ) (rest : List ℕ) → drop 8 (number a ++ number b ++ rest) ≡ number b ++ rest
unfolding number
second_at a b rest = drop_at (number a) (number b ++ rest) 8 (length-number a)

third_at : (a b : ℕ) (rest : List ℕ) → drop 16 (number a ++ number b ++ rest) ≡ rest
unfolding number
third_at a b rest =
    ap (drop 16) (sym (append_assoc (number a) (number b) rest))
    ∙ drop_at (number a ++ number b) rest 16
    (length-append (number a) (number b) ∙ (λ i. length-number a i + length-number b i))

session_read : (bytes : List ℕ) (kind : ℕ) (s : SessionValue) (rest : List ℕ) → IsSession s → bytes ≡ VERSION ∷ kind ∷ session s ++ rest
    → session_in bytes ≡ s
unfolding number
session_read bytes kind s rest fits spelled =
    let a = number s.asker in
    let b = number s.answerer in
    let c = number s.number in
    let whole : bytes ≡ VERSION ∷ kind ∷ a ++ b ++ c ++ rest = spelled ∙ ap (λ x. VERSION ∷ kind ∷ x) (session_first s rest) in
    let first : number_in 2 bytes ≡ s.asker = ap (number_in 2) whole ∙ number_first s.asker (b ++ c ++ rest) fits.0.1 in
    let second : number_in 10 bytes ≡ s.answerer =
    ap (number_in 10) whole ∙ ap (λ x. from_be_bytes w64 (take 8 x)) (second_at s.asker s.answerer (c ++ rest))
    ∙ number_first s.answerer (c ++ rest) fits.1.1 in
    let third : number_in 18 bytes ≡ s.number =
    ap (number_in 18) whole ∙ ap (λ x. from_be_bytes w64 (take 8 x)) (third_at s.asker s.answerer (c ++ rest))
    ∙ number_first s.number rest fits.2.1 in
    λ i. record { asker = first i; answerer = second i; number = third i }

-- ---- a message

of_session : (kind : ℕ) {V : Type 0} (spell : V → List ℕ) (Fits : V → Type 0) (bytes : List ℕ) (s : SessionValue) (value : V)
    → SpellsIn kind spell Fits bytes s value → session_in bytes ≡ s
of_session kind spell Fits bytes s value h = session_read bytes kind s (spell value) h.asked h.spelling

read_message : (bytes : List ℕ) (m : MessageValue) → Spells bytes m → IsRead bytes (mail_of m)
read_message bytes (message.Delta d) h = record { kind = ap kind_of h.spelling; session = refl; page = tt }
read_message bytes (message.Hello s c) h = record { kind = ap kind_of h.spelling; session = of_session _ _ _ bytes s _ h; page = tt }
read_message bytes (message.Opening s c r) h = record { kind = ap kind_of h.spelling; session = of_session _ _ _ bytes s _ h; page = tt }
read_message bytes (message.Ask s p) h = record { kind = ap kind_of h.spelling; session = of_session _ _ _ bytes s _ h; page = tt }
read_message bytes (message.Page s p) h = record { kind = ap kind_of h.spelling; session = of_session _ _ _ bytes s _ h; page = h }
read_message bytes (message.Gone s) h = record { kind = ap kind_of h.spelling; session = of_session _ _ _ bytes s _ h; page = tt }

pub read : (bytes : List ℕ) (mail : Mail) → IsSpelled bytes mail → IsRead bytes mail
read bytes mail (m, spells, is) = subst (IsRead bytes) is (read_message bytes m spells)

-- ---- the message of a number

spelled_in : (bs : List (List ℕ)) (ms : List Message) → AreSpelled bs (map (λ m. m.mail) ms) → (n : ℕ) (m : Message) → slice_get ms n ≡ Some m
    → IsSpelled (slice_index_or bs n []) m.mail
spelled_in bs [] all n m there = absurd cc
spelled_in [] (x ∷ ms) all n m there = absurd all
spelled_in (b ∷ bs) (x ∷ ms) all zero m there = let one : x ≡ m = cc in subst (λ (y : Message). IsSpelled b y.mail) one all.0
spelled_in (b ∷ bs) (x ∷ ms) all (suc n) m there = spelled_in bs ms all.1 n m there

pub spelled_at : (bs : List (List ℕ)) (ms : List Message) → AreSpelled bs (map (λ m. m.mail) ms) → (number : ℕ) (m : Message)
    → message_at ms number ≡ Some m → IsSpelled (seen.bytes_at bs number) m.mail
spelled_at bs ms all zero m there = absurd cc
spelled_at bs ms all (suc n) m there =
    let same : n ≡ suc n - 1 = omega arith in
    subst (λ k. IsSpelled (slice_index_or bs k []) m.mail) same (spelled_in bs ms all n m there)
