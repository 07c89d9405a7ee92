-- Bytes spell one thing at most that was saved, it has one spelling, and that is no message.
use Rattle.std.proofs.Common.{◌≡◌, ◌⊎◌, ℕ, List, [], ◌∷◌, ◌++◌, length, Result, Ok, Err, inl, inr, refl, sym, ap, subst, ◌∙◌, append_assoc}
use Rattle.std.specs.Prelude.{MatchResult, IsErrOf}
use Rattle.dots.specs.declared.refusal.Refusal.{Refusal}
use Rattle.dots.specs.declared.refusal.Refusal.TheVariants.{OutOfMemory, TooLong, ReadOnly, NumbersSpent, SessionsFull, NotAMessage, NoPlace, NameTaken}
use Rattle.dots.specs.declared.refusal.Refusal.TheVariants.{UnknownReplica, UnknownMessage, BadLine, Input, Output}
use Rattle.causal_join.specs.OrMap.{OrMapValue}
use Rattle.wire_form.specs.Parts.{IsName}
use Rattle.wire_form.specs.Spelling.{number, IsNumber, Begins, HasNoSpelling}
use Rattle.wire_form.specs.Message.{Delta, Spells, SpellsDelta, SpellsNone, VERSION}
use Rattle.wire_form.specs.Reading.{RefusesReading, ReadsAll}
use Rattle.wire_form.proofs.Messages.{no_kind, one_delta, one_spelling}
use Rattle.wire_form.proofs.Reading.{refuses_absent, refuses_memory, refuses_weaker}
use Rattle.saved_form.specs.Saved.{SavedValue, SAVED, head, IsHead, SpellsSaved, SpellsNothingSaved, OneSave, OneSpelling, NoMessage}
use Rattle.saved_form.proofs.Heads.{head_unique}

-- what is read off before the second delta
abbrev head_of : ℕ × (ℕ × List ℕ) → ℕ × (ℕ × List ℕ)
head_of h = h

abbrev behind : List ℕ → List ℕ
behind (v ∷ k ∷ rest) = rest
behind other = other

-- two that the same bytes spell have one head, and the same bytes behind it
one_head : (a b : List ℕ) (s t : SavedValue) (p : SpellsSaved a s) (q : SpellsSaved b t) → a ≡ b
    → (head_of (s.name, (s.opened, p.first)) ≡ head_of (t.name, (t.opened, q.first))) × (p.second ≡ q.second)
one_head a b s t p q e =
    head_unique (s.name, (s.opened, p.first)) (t.name, (t.opened, q.first)) p.second q.second p.fits q.fits (ap behind (sym p.spelling ∙ e ∙ q.spelling))

pub one_save : OneSave
one_save bytes s t p q =
    let both = one_head bytes bytes s t p q refl in
    let live = one_delta p.first s.live t.live p.live (subst (λ x. SpellsDelta x t.live) (sym (ap (λ (h : ℕ × (ℕ × List ℕ)). h.1.1) both.0)) q.live) in
    let group = one_delta p.second s.group t.group p.group (subst (λ x. SpellsDelta x t.group) (sym both.1) q.group) in
    λ i. record { name = (both.0 i).0; opened = (both.0 i).1.0; live = live i; group = group i }

pub one_saved_spelling : OneSpelling
one_saved_spelling a b s p q =
    let first = one_spelling p.first q.first (Delta s.live) p.live q.live in
    let second = one_spelling p.second q.second (Delta s.group) p.group q.group in
    p.spelling ∙ (λ i. VERSION ∷ SAVED ∷ head (s.name, (s.opened, first i)) ++ second i) ∙ sym q.spelling

pub no_message : NoMessage
no_message bytes s m p h =
    no_kind SAVED (head (s.name, (s.opened, p.first)) ++ p.second) refl refl refl refl refl refl m (subst (λ x. Spells x m) p.spelling h)

-- ---- what a reader answers

pub read_both : (bytes : List ℕ) (name opened : ℕ) (first second : List ℕ) (live group : OrMapValue) → Begins head IsHead bytes (name, (opened, first)) second
    → SpellsDelta first live → SpellsDelta second group
    → SpellsSaved (VERSION ∷ SAVED ∷ bytes) (record { name = name; opened = opened; live = live; group = group })
read_both bytes name opened first second live group h l g =
    record { first = first; second = second; fits = h.fits; live = l; group = g; spelling = ap (λ x. VERSION ∷ SAVED ∷ x) h.parts }

pub none_headless : (bytes : List ℕ) → HasNoSpelling head IsHead bytes → SpellsNothingSaved (VERSION ∷ SAVED ∷ bytes)
none_headless bytes none s p = none (s.name, (s.opened, p.first)) p.second (record { fits = p.fits; parts = ap behind p.spelling })

module _ (bytes : List ℕ) (name opened : ℕ) (first second : List ℕ) (h : Begins head IsHead bytes (name, (opened, first)) second) where
  parts_are : (s : SavedValue) (p : SpellsSaved (VERSION ∷ SAVED ∷ bytes) s) → (head_of (name, (opened, first)) ≡ head_of (s.name, (s.opened, p.first)))
      × (second ≡ p.second)
  parts_are s p = head_unique (name, (opened, first)) (s.name, (s.opened, p.first)) second p.second h.fits p.fits (sym h.parts ∙ ap behind p.spelling)

  pub none_first : ((d : OrMapValue) → SpellsDelta first d → ⊥) → SpellsNothingSaved (VERSION ∷ SAVED ∷ bytes)
  none_first none s p = none s.live (subst (λ x. SpellsDelta x s.live) (sym (ap (λ (t : ℕ × (ℕ × List ℕ)). t.1.1) (parts_are s p).0)) p.live)

  pub none_second : ((d : OrMapValue) → SpellsDelta second d → ⊥) → SpellsNothingSaved (VERSION ∷ SAVED ∷ bytes)
  none_second none s p = none s.group (subst (λ x. SpellsDelta x s.group) (sym (parts_are s p).1) p.group)

pub reads_saved : {R : Type 0} (show : R → SavedValue) (bytes bytes' : List ℕ) (r : Result R Refusal) → bytes ≡ bytes' → ReadsAll show (SpellsSaved bytes') r
    → ReadsAll show (SpellsSaved bytes) r
reads_saved show bytes bytes' r e h = subst (λ (b : List ℕ). ReadsAll show (SpellsSaved b) r) (sym e) h

pub none_otherwise : (bytes : List ℕ) → ((rest : List ℕ) → bytes ≡ VERSION ∷ SAVED ∷ rest → ⊥) → SpellsNothingSaved bytes
none_otherwise bytes other s p = other (head (s.name, (s.opened, p.first)) ++ p.second) p.spelling

only_memory : (P : Type 0) (e : Refusal) → RefusesReading (P → ⊥) e → P → e ≡ OutOfMemory
only_memory P OutOfMemory h p = refl
only_memory P NotAMessage h p = absurd (h p)
only_memory P TooLong h p = absurd h
only_memory P ReadOnly h p = absurd h
only_memory P NumbersSpent h p = absurd h
only_memory P SessionsFull h p = absurd h
only_memory P NoPlace h p = absurd h
only_memory P NameTaken h p = absurd h
only_memory P UnknownReplica h p = absurd h
only_memory P UnknownMessage h p = absurd h
only_memory P BadLine h p = absurd h
only_memory P Input h p = absurd h
only_memory P Output h p = absurd h

-- what the bytes spell is what was read
pub only_save : {R : Type 0} (show : R → SavedValue) (bytes : List ℕ) (r : Result R Refusal) → ReadsAll show (SpellsSaved bytes) r → (s : SavedValue)
    → SpellsSaved bytes s
    → MatchResult r (λ x. show x ≡ s) (λ e. e ≡ OutOfMemory)
only_save show bytes (Ok x) h s p = one_save bytes (show x) s h p
only_save show bytes (Err e) h s p = only_memory (SpellsSaved bytes s) e
    (refuses_weaker (SpellsNothingSaved bytes) (SpellsSaved bytes s → ⊥) e (λ none. none s) h) p

-- what a writer leaves, piece by piece
pub save_written : (s : SavedValue) (first second : List ℕ) (a b c d e f : List ℕ) → IsName s.name → IsNumber s.opened → IsNumber (length first)
    → SpellsDelta first s.live → SpellsDelta second s.group
    → a ≡ VERSION ∷ SAVED ∷ [] → b ≡ a ++ number s.name → c ≡ b ++ number s.opened → d ≡ c ++ number (length first) → e ≡ d ++ first → f ≡ e ++ second
    → SpellsSaved f s
save_written s first second a b c d e f name opened long live group ha hb hc hd he hf = record {
  first = first;
  second = second;
  fits = (name, (opened, long));
  live = live;
  group = group;
  spelling = hf ∙ ap (λ x. x ++ second)
      (he ∙ ap (λ x. x ++ first) (hd ∙ ap (λ x. x ++ number (length first))
      (hc ∙ ap (λ x. x ++ number s.opened) (hb ∙ ap (λ x. x ++ number s.name) ha)))) ∙ regroup;
}
  where
    regroup : ((((VERSION ∷ SAVED ∷ number s.name) ++ number s.opened) ++ number (length first)) ++ first) ++ second ≡ VERSION ∷ SAVED
        ∷ head (s.name, (s.opened, first)) ++ second
    regroup =
        ap (λ x. x ++ second)
        (append_assoc ((VERSION ∷ SAVED ∷ number s.name) ++ number s.opened) (number (length first)) first
        ∙ append_assoc (VERSION ∷ SAVED ∷ number s.name) (number s.opened) (number (length first) ++ first))

is_err_of : {T : Type 0} (e : Refusal) → e ≡ NotAMessage → IsErrOf {T = T} (Err e) NotAMessage
is_err_of e is = ap Err is

-- what is told of a delta that is not read
pub delta_refused : {T : Type 0} (bytes : List ℕ) (e : Refusal) → (IsErrOf {T = T} (Err e) NotAMessage → SpellsNone bytes) → (e ≡ NotAMessage)
    ⊎ (e ≡ OutOfMemory) → RefusesReading ((d : OrMapValue) → SpellsDelta bytes d → ⊥) e
delta_refused bytes e none (inl is) = refuses_absent ((d : OrMapValue) → SpellsDelta bytes d → ⊥) e is (λ d h. none (is_err_of e is) (Delta d) h)
delta_refused bytes e none (inr is) = refuses_memory ((d : OrMapValue) → SpellsDelta bytes d → ⊥) e is
