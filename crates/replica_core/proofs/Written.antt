-- Letters of messages: over plain variables.
use Rattle.std.proofs.Common.{◌≡◌, ℕ, ◌+◌, ◌<◌, ◌≤◌, suc, List, [], ◌∷◌, ◌++◌, map, length, drop, get_or, Some, None, inl, inr, refl, sym, ap, ◌∙◌, subst}
use Rattle.std.proofs.Common.{append_assoc, arith}
use Rattle.std.specs.Prelude.{Option}
use Rattle.std.proofs.lemmas.List.{append-nil, map-append}
use Rattle.wire_form.specs.declared.message.Message.{Message}
use Rattle.wire_form.specs.Message.{MessageValue, message_of}
use Rattle.wire_form.specs.Session.{SessionValue}
use Rattle.page_fetching.proofs.Loops.{stands_at, is_past}
use Rattle.sync_protocol.specs.Asking.{AskerValue}
use Rattle.sync_protocol.specs.Posting.{IsPosted}
use Rattle.replica_model.specs.Mail.{Mail, mail_of}
use Rattle.replica_model.specs.Replica.{Open}
use Rattle.replica_model.specs.Step.{Act, Answer}
use Rattle.replica_core.specs.declared.letter.Letter.{Letter}
use Rattle.replica_core.specs.Carrying.{AreLetters, Gains, IsLetter, Sends, letter_of, letters_of}
use Rattle.replica_core.specs.Meaning.{ReplicaValue, open_of}
use Rattle.replica_core.specs.Own.{numbers}
use Rattle.replica_core.specs.Stepping.{Steps, mail_or_none, mails_of, message_or_none}

-- what an outbox has that was empty
pub gained_letters : (old new : List (Option ℕ × List ℕ)) (out : List MessageValue) → old ≡ [] → Gains old new out → AreLetters new out
gained_letters old new out none (more, is, are) = subst (λ ls. AreLetters ls out) (sym (is ∙ ap (λ front. front ++ more) none)) are

pub posted_letters : (old new : List (Option ℕ × List ℕ)) (out : List MessageValue) → old ≡ [] → IsPosted Gains old new out → AreLetters new out
posted_letters old new out none (inl gained) = gained_letters old new out none gained
posted_letters old new out none (inr (is, nothing)) = subst (λ o. AreLetters new o) (sym nothing) (subst (λ ls. AreLetters ls []) (sym (is ∙ none)) tt)

pub as_many : (ls : List (Option ℕ × List ℕ)) (ms : List MessageValue) → AreLetters ls ms → length ls ≡ length ms
as_many [] [] are = refl
as_many [] (m ∷ ms) are = absurd are
as_many (l ∷ ls) [] are = absurd are
as_many (l ∷ ls) (m ∷ ms) are = ap suc (as_many ls ms are.1)

module _ {A : Type 0} where
  at_most_one : (sent : Option (Message A)) → length (message_or_none sent) ≤ 1
  at_most_one None = omega arith
  at_most_one (Some m) = omega arith

  pub few_letters : (new : List (Option ℕ × List ℕ)) (sent : Option (Message A)) → AreLetters new (message_or_none sent) → length new ≤ 1
  few_letters new sent are = let many = as_many new (message_or_none sent) are in let few = at_most_one sent in omega (arith, many, few)

  -- messages by what they mean
  pub mails_are : (ms : List (Message A)) → mails_of ms ≡ map mail_of (map message_of ms)
  mails_are [] = refl
  mails_are (m ∷ ms) = ap (λ r. mail_of (message_of m) ∷ r) (mails_are ms)

  pub mail_is : (sent : Option (Message A)) → mail_or_none sent ≡ map mail_of (message_or_none sent)
  mail_is None = refl
  mail_is (Some m) = refl

-- a step with the letters of what it sends
module _ {Hash : Type 0} (hash_of : Hash → List ℕ → ℕ) (old new : ReplicaValue Hash) (act : Act) (answer : Answer) where
  pub sends : (mails : List Mail) (ms : List MessageValue) (letters : List (Option ℕ × List ℕ)) → mails ≡ map mail_of ms
      → Steps hash_of old new act answer mails → AreLetters letters ms → Sends hash_of old new act answer letters
  sends mails ms letters is steps are = record { messages = ms; steps = subst (Steps hash_of old new act answer) is steps; letters_are = are }

-- one more is posted
pub posts : {A : Type 0} (old new : List (Letter A)) (letter : Letter A) (m : MessageValue) → new ≡ old ++ letter ∷ [] → IsLetter (letter_of letter) m
    → Gains (letters_of old) (letters_of new) (m ∷ [])
posts old new letter m is spelled = (letter_of letter ∷ [], ap letters_of is ∙ map-append letter_of old (letter ∷ []), (spelled, tt))

pub posts_all : {A : Type 0} (old new more : List (Letter A)) (ms : List MessageValue) → new ≡ old ++ more → AreLetters (letters_of more) ms
    → Gains (letters_of old) (letters_of new) ms
posts_all old new more ms is spelled = (letters_of more, ap letters_of is ∙ map-append letter_of old more, spelled)

-- messages that are spelled one by one: with the letters of the rest behind them all are
abbrev pub Spelling : {A : Type 0} → List (Letter A) → List (Message A) → ℕ → Type 0
Spelling spelled ms i = (ls : List (Option ℕ × List ℕ)) → AreLetters ls (map message_of (drop i ms)) → AreLetters (letters_of spelled ++ ls) (map message_of ms)

pub one_spelled : {A : Type 0} (spelled new : List (Letter A)) (letter : Letter A) (ms : List (Message A)) (i : ℕ) (m : Message A) → Spelling spelled ms i
    → i < length ms → m ≡ get_or ms i m
    → IsLetter (letter_of letter) (message_of m) → new ≡ spelled ++ letter ∷ [] → Spelling new ms (i + 1)
one_spelled spelled new letter ms i m before within is spells put ls rest =
    let all = before (letter_of letter ∷ ls) (subst (λ l. AreLetters (letter_of letter ∷ ls) (map message_of l)) (sym (stands_at ms i m within is))
    (spells, rest)) in
    let same : letters_of spelled ++ letter_of letter ∷ ls ≡ letters_of new ++ ls =
    sym (append_assoc (letters_of spelled) (letter_of letter ∷ []) ls) ∙ ap (λ l. l ++ ls) (sym (map-append letter_of spelled (letter ∷ [])))
    ∙ ap (λ l. letters_of l ++ ls) (sym put) in
    subst (λ l. AreLetters l (map message_of ms)) same all

pub all_spelled : {A : Type 0} (spelled : List (Letter A)) (ms : List (Message A)) (i : ℕ) → Spelling spelled ms i → length ms ≤ i
    → AreLetters (letters_of spelled) (map message_of ms)
all_spelled spelled ms i before past =
    subst (λ l. AreLetters l (map message_of ms)) (append-nil (letters_of spelled))
    (before [] (subst (λ l. AreLetters [] (map message_of l)) (sym (is_past ms i past)) tt))

-- own sessions by their names and numbers
module _ {Hash : Type 0} where
  pub named_alike : (xs : List (AskerValue Hash)) → map (λ (a : AskerValue Hash). a.session) xs ≡ map (λ (o : Open). o.session) (map open_of xs)
  named_alike [] = refl
  named_alike (a ∷ xs) = ap (λ r. a.session ∷ r) (named_alike xs)

  pub numbered_alike : (xs : List (AskerValue Hash)) → numbers xs ≡ map (λ (s : SessionValue). s.number) (map (λ (a : AskerValue Hash). a.session) xs)
  numbered_alike [] = refl
  numbered_alike (a ∷ xs) = ap (λ r. a.session.number ∷ r) (numbered_alike xs)
