-- Whole messages: their versions and kinds, and what stands behind a session.
use Rattle.std.proofs.Common.{◌≡◌, ℕ, Bool, Option, true, false, List, [], ◌∷◌, ◌++◌, Result, Ok, Err, refl, sym, ap, subst, ◌∙◌, arith, eqb, eq-eqb}
use Rattle.std.specs.Prelude.{MatchResult}
use Rattle.dots.specs.declared.refusal.Refusal.{Refusal}
use Rattle.dots.specs.declared.refusal.Refusal.TheVariants.{OutOfMemory, TooLong, ReadOnly, NumbersSpent, SessionsFull, NotAMessage, NoPlace, NameTaken}
use Rattle.dots.specs.declared.refusal.Refusal.TheVariants.{UnknownReplica, UnknownMessage, BadLine, Input, Output}
use Rattle.causal_context.specs.Context.{ContextValue}
use Rattle.causal_join.specs.OrMap.{OrMapValue}
use Rattle.wire_form.specs.Spelling.{IsWhole, Begins, HasNoSpelling}
use Rattle.wire_form.specs.Parts.{context, IsContext}
use Rattle.wire_form.specs.Store.{is_plain_form, store}
use Rattle.wire_form.specs.Session.{SessionValue, session, IsSession}
use Rattle.wire_form.specs.Prefix.{prefix, IsPrefix}
use Rattle.wire_form.specs.Sent.{SentValue, sent, IsSent}
use Rattle.wire_form.specs.Message.{MessageValue, Delta, Hello, Opening, Ask, Page, Gone, version_of, opening, IsOpening, empty_spelling, IsNothing, SpellsBody}
use Rattle.wire_form.specs.Message.{SpellsDelta, SpellsIn, Spells, SpellsNone}
use Rattle.wire_form.specs.Reading.{RefusesReading, ReadsAll}
use Rattle.wire_form.specs.Writing.{Appends}
use Rattle.wire_form.proofs.Reading.{refuses_weaker}
use Rattle.wire_form.proofs.Bodies.{context_unique}
use Rattle.wire_form.proofs.Wholes.{IsOneWhole, one_whole}
use Rattle.wire_form.proofs.Sessions.{session_unique}
use Rattle.wire_form.proofs.Said.{prefix_unique, opening_unique, one_nothing, one_sent}
use Rattle.wire_form.proofs.Deltas.{one_body}

-- the version, the kind, and what stands behind them
abbrev version_in : List ℕ → ℕ
version_in [] = 0
version_in (v ∷ bytes) = v

abbrev kind_in : List ℕ → ℕ
kind_in [] = 0
kind_in (v ∷ []) = 0
kind_in (v ∷ k ∷ body) = k

abbrev body_in : List ℕ → List ℕ
body_in [] = []
body_in (v ∷ []) = []
body_in (v ∷ k ∷ body) = body

-- no bytes have two kinds
two_kinds : (bytes r t : List ℕ) (v w k l : ℕ) → eqb k l ≡ false → bytes ≡ v ∷ k ∷ r → bytes ≡ w ∷ l ∷ t → ⊥
two_kinds bytes r t v w k l differ p q = let same = eq-eqb k l (ap kind_in (sym p ∙ q)) in absurd (cc (same, differ))

-- ---- deltas

same_form : (a b : Bool) → version_of a ≡ version_of b → a ≡ b
same_form true true e = refl
same_form false false e = refl
same_form true false e = absurd (omega (arith, e))
same_form false true e = absurd (omega (arith, e))

-- the delta that a body spells
pub delta_spelled : (plain : Bool) (bytes rest : List ℕ) (d : OrMapValue) → bytes ≡ version_of plain ∷ 1 ∷ rest → SpellsBody plain rest d → SpellsDelta bytes d
delta_spelled plain bytes rest d e h = record {
  lawful = h.lawful;
  spelling = e ∙ ap (λ (r : List ℕ). version_of plain ∷ 1 ∷ r) h.spelling ∙ ap (λ (b : Bool). version_of b ∷ 1 ∷ context d.1 ++ store b d.0) (sym h.form);
}

-- and the body of a delta
body_from : (plain : Bool) (bytes rest : List ℕ) (d : OrMapValue) → bytes ≡ version_of plain ∷ 1 ∷ rest → SpellsDelta bytes d → SpellsBody plain rest d
body_from plain bytes rest d e h =
    let form = same_form (is_plain_form d.0) plain (ap version_in (sym h.spelling ∙ e)) in
    record { lawful = h.lawful; form = form; spelling = ap body_in (sym e ∙ h.spelling) ∙ ap (λ (b : Bool). context d.1 ++ store b d.0) form }

-- ---- messages of a session

module _ {V : Type 0} (k : ℕ) (spell : V → List ℕ) (Fits : V → Type 0) where
  -- the bytes spell no message of this kind
  abbrev pub SpellsNoneIn : List ℕ → Type 0
  SpellsNoneIn bytes = (s : SessionValue) (v : V) → SpellsIn k spell Fits bytes s v → ⊥

  pub in_spelled : (bytes : List ℕ) (s : SessionValue) (rest : List ℕ) (v : V) → Begins session IsSession bytes s rest → IsWhole spell Fits rest v
      → SpellsIn k spell Fits (3 ∷ k ∷ bytes) s v
  in_spelled bytes s rest v first h = record {
    asked = first.fits;
    fits = h.fits;
    spelling = ap (λ (t : List ℕ). 3 ∷ k ∷ t) (first.parts ∙ ap (λ (t : List ℕ). session s ++ t) h.spelling);
  }

  pub none_in_session : (bytes : List ℕ) → HasNoSpelling session IsSession bytes → SpellsNoneIn (3 ∷ k ∷ bytes)
  none_in_session bytes none s v h = none s (spell v) (record { fits = h.asked; parts = ap body_in h.spelling })

  pub none_in_said : (bytes : List ℕ) (s : SessionValue) (rest : List ℕ) → Begins session IsSession bytes s rest → ((v : V) → IsWhole spell Fits rest v → ⊥)
      → SpellsNoneIn (3 ∷ k ∷ bytes)
  none_in_said bytes s rest first none t v h =
      let same = session_unique s t rest (spell v) first.fits h.asked (sym first.parts ∙ ap body_in h.spelling) in
      none v (record { fits = h.fits; spelling = same.1 })

  one_in : IsOneWhole spell Fits → (bytes : List ℕ) (s t : SessionValue) (v w : V) → SpellsIn k spell Fits bytes s v → SpellsIn k spell Fits bytes t w
      → ◌≡◌ {A = SessionValue × V} (s, v) (t, w)
  one_in one bytes s t v w p q =
      let both = session_unique s t (spell v) (spell w) p.asked q.asked (ap body_in (sym p.spelling ∙ q.spelling)) in
      let said = one (spell v) v w (record { fits = p.fits; spelling = refl }) (record { fits = q.fits; spelling = both.1 }) in
      λ i. (both.0 i, said i)

  -- what was written behind the session
  pub in_written : (head bytes : List ℕ) (s : SessionValue) (v : V) → Appends session IsSession (3 ∷ k ∷ []) head s → Appends spell Fits head bytes v
      → SpellsIn k spell Fits bytes s v
  in_written head bytes s v p q = record { asked = p.fits; fits = q.fits; spelling = q.parts ∙ ap (λ (t : List ℕ). t ++ spell v) p.parts }

  -- and of another kind it is no message
  other_kind : (l : ℕ) (bytes : List ℕ) (s : SessionValue) (v : V) → eqb l k ≡ false → SpellsIn k spell Fits (3 ∷ l ∷ bytes) s v → ⊥
  other_kind l bytes s v differ h = two_kinds (3 ∷ l ∷ bytes) bytes (session s ++ spell v) 3 3 l k differ refl h.spelling

not_delta : (l : ℕ) (bytes : List ℕ) (d : OrMapValue) → eqb l 1 ≡ false → SpellsDelta (3 ∷ l ∷ bytes) d → ⊥
not_delta l bytes d differ h = two_kinds (3 ∷ l ∷ bytes) bytes (context d.1 ++ store (is_plain_form d.0) d.0) 3 (version_of (is_plain_form d.0))
    l 1 differ refl h.spelling

pub no_hello : (bytes : List ℕ) → SpellsNoneIn 3 context IsContext (3 ∷ 3 ∷ bytes) → SpellsNone (3 ∷ 3 ∷ bytes)
no_hello bytes none (Delta d) h = not_delta 3 bytes d refl h
no_hello bytes none (Hello s c) h = none s c h
no_hello bytes none (Opening s c r) h = other_kind 4 opening IsOpening 3 bytes s (c, r) refl h
no_hello bytes none (Ask s p) h = other_kind 5 prefix IsPrefix 3 bytes s p refl h
no_hello bytes none (Page s p) h = other_kind 6 sent IsSent 3 bytes s p refl h
no_hello bytes none (Gone s) h = other_kind 7 empty_spelling IsNothing 3 bytes s tt refl h

pub no_opening : (bytes : List ℕ) → SpellsNoneIn 4 opening IsOpening (3 ∷ 4 ∷ bytes) → SpellsNone (3 ∷ 4 ∷ bytes)
no_opening bytes none (Delta d) h = not_delta 4 bytes d refl h
no_opening bytes none (Hello s c) h = other_kind 3 context IsContext 4 bytes s c refl h
no_opening bytes none (Opening s c r) h = none s (c, r) h
no_opening bytes none (Ask s p) h = other_kind 5 prefix IsPrefix 4 bytes s p refl h
no_opening bytes none (Page s p) h = other_kind 6 sent IsSent 4 bytes s p refl h
no_opening bytes none (Gone s) h = other_kind 7 empty_spelling IsNothing 4 bytes s tt refl h

pub no_ask : (bytes : List ℕ) → SpellsNoneIn 5 prefix IsPrefix (3 ∷ 5 ∷ bytes) → SpellsNone (3 ∷ 5 ∷ bytes)
no_ask bytes none (Delta d) h = not_delta 5 bytes d refl h
no_ask bytes none (Hello s c) h = other_kind 3 context IsContext 5 bytes s c refl h
no_ask bytes none (Opening s c r) h = other_kind 4 opening IsOpening 5 bytes s (c, r) refl h
no_ask bytes none (Ask s p) h = none s p h
no_ask bytes none (Page s p) h = other_kind 6 sent IsSent 5 bytes s p refl h
no_ask bytes none (Gone s) h = other_kind 7 empty_spelling IsNothing 5 bytes s tt refl h

pub no_page : (bytes : List ℕ) → SpellsNoneIn 6 sent IsSent (3 ∷ 6 ∷ bytes) → SpellsNone (3 ∷ 6 ∷ bytes)
no_page bytes none (Delta d) h = not_delta 6 bytes d refl h
no_page bytes none (Hello s c) h = other_kind 3 context IsContext 6 bytes s c refl h
no_page bytes none (Opening s c r) h = other_kind 4 opening IsOpening 6 bytes s (c, r) refl h
no_page bytes none (Ask s p) h = other_kind 5 prefix IsPrefix 6 bytes s p refl h
no_page bytes none (Page s p) h = none s p h
no_page bytes none (Gone s) h = other_kind 7 empty_spelling IsNothing 6 bytes s tt refl h

pub no_gone : (bytes : List ℕ) → SpellsNoneIn 7 empty_spelling IsNothing (3 ∷ 7 ∷ bytes) → SpellsNone (3 ∷ 7 ∷ bytes)
no_gone bytes none (Delta d) h = not_delta 7 bytes d refl h
no_gone bytes none (Hello s c) h = other_kind 3 context IsContext 7 bytes s c refl h
no_gone bytes none (Opening s c r) h = other_kind 4 opening IsOpening 7 bytes s (c, r) refl h
no_gone bytes none (Ask s p) h = other_kind 5 prefix IsPrefix 7 bytes s p refl h
no_gone bytes none (Page s p) h = other_kind 6 sent IsSent 7 bytes s p refl h
no_gone bytes none (Gone s) h = none s tt h

-- the kind 1 is a delta, whichever version it has
pub no_delta : (plain : Bool) (bytes rest : List ℕ) → bytes ≡ version_of plain ∷ 1 ∷ rest → ((d : OrMapValue) → SpellsBody plain rest d → ⊥) → SpellsNone bytes
no_delta plain bytes rest e none (Delta d) h = none d (body_from plain bytes rest d e h)
no_delta plain bytes rest e none (Hello s c) h = two_kinds bytes rest (session s ++ context c) (version_of plain) 3 1 3 refl e h.spelling
no_delta plain bytes rest e none (Opening s c r) h = two_kinds bytes rest (session s ++ opening (c, r)) (version_of plain) 3 1 4 refl e h.spelling
no_delta plain bytes rest e none (Ask s p) h = two_kinds bytes rest (session s ++ prefix p) (version_of plain) 3 1 5 refl e h.spelling
no_delta plain bytes rest e none (Page s p) h = two_kinds bytes rest (session s ++ sent p) (version_of plain) 3 1 6 refl e h.spelling
no_delta plain bytes rest e none (Gone s) h = two_kinds bytes rest (session s ++ empty_spelling tt) (version_of plain) 3 1 7 refl e h.spelling

-- and other kinds are none
pub no_kind : (k : ℕ) (bytes : List ℕ) → eqb k 1 ≡ false → eqb k 3 ≡ false → eqb k 4 ≡ false → eqb k 5 ≡ false → eqb k 6 ≡ false → eqb k 7 ≡ false
    → SpellsNone (3 ∷ k ∷ bytes)
no_kind k bytes a b c d e f (Delta x) h = not_delta k bytes x a h
no_kind k bytes a b c d e f (Hello s x) h = other_kind 3 context IsContext k bytes s x b h
no_kind k bytes a b c d e f (Opening s x y) h = other_kind 4 opening IsOpening k bytes s (x, y) c h
no_kind k bytes a b c d e f (Ask s p) h = other_kind 5 prefix IsPrefix k bytes s p d h
no_kind k bytes a b c d e f (Page s p) h = other_kind 6 sent IsSent k bytes s p e h
no_kind k bytes a b c d e f (Gone s) h = other_kind 7 empty_spelling IsNothing k bytes s tt f h

-- ---- messages

-- what reads a message from its bytes
pub reads_message : {R : Type 0} (show : R → MessageValue) (bytes bytes' : List ℕ) (r : Result R Refusal) → bytes ≡ bytes' → ReadsAll show (Spells bytes') r
    → ReadsAll show (Spells bytes) r
reads_message show bytes bytes' r e h = subst (λ (b : List ℕ). ReadsAll show (Spells b) r) (sym e) h

pub no_message_head : (bytes : List ℕ) → ((rest : List ℕ) → bytes ≡ 1 ∷ 1 ∷ rest → ⊥) → ((kind : ℕ) (rest : List ℕ) → bytes ≡ 3 ∷ kind ∷ rest → ⊥)
    → SpellsNone bytes
no_message_head bytes first second (Delta d) h = by_form (is_plain_form d.0) (h.spelling)
  where
    by_form : (b : Bool) → bytes ≡ version_of b ∷ 1 ∷ context d.1 ++ store (is_plain_form d.0) d.0 → ⊥
    by_form true e = first (context d.1 ++ store (is_plain_form d.0) d.0) e
    by_form false e = second 1 (context d.1 ++ store (is_plain_form d.0) d.0) e
no_message_head bytes first second (Hello s c) h = second 3 (session s ++ context c) h.spelling
no_message_head bytes first second (Opening s c r) h = second 4 (session s ++ opening (c, r)) h.spelling
no_message_head bytes first second (Ask s p) h = second 5 (session s ++ prefix p) h.spelling
no_message_head bytes first second (Page s p) h = second 6 (session s ++ sent p) h.spelling
no_message_head bytes first second (Gone s) h = second 7 (session s ++ empty_spelling tt) h.spelling

-- a message that is not of the kind of another has other bytes
no_two : {V W : Type 0} (k l : ℕ) (spell : V → List ℕ) (Fits : V → Type 0) (spell' : W → List ℕ) (Fits' : W → Type 0) (bytes : List ℕ) (s t : SessionValue)
    (v : V) (w : W) → eqb k l ≡ false
    → SpellsIn k spell Fits bytes s v → SpellsIn l spell' Fits' bytes t w → ⊥
no_two k l spell Fits spell' Fits' bytes s t v w differ p q = two_kinds bytes (session s ++ spell v) (session t ++ spell' w)
    3 3 k l differ p.spelling q.spelling

delta_and : {V : Type 0} (k : ℕ) (spell : V → List ℕ) (Fits : V → Type 0) (bytes : List ℕ) (d : OrMapValue) (s : SessionValue) (v : V) → eqb k 1 ≡ false
    → SpellsDelta bytes d → SpellsIn k spell Fits bytes s v → ⊥
delta_and k spell Fits bytes d s v differ p q = two_kinds bytes (session s ++ spell v) (context d.1 ++ store (is_plain_form d.0) d.0) 3
    (version_of (is_plain_form d.0)) k 1 differ q.spelling p.spelling

-- bytes spell one message at most
pub one_message : (bytes : List ℕ) (m n : MessageValue) → Spells bytes m → Spells bytes n → m ≡ n
one_message bytes (Delta d) (Delta e) p q =
    let plain = is_plain_form d.0 in
    let body : List ℕ = context d.1 ++ store plain d.0 in
    ap Delta (one_body plain body d e (body_from plain bytes body d p.spelling p) (body_from plain bytes body e p.spelling q))
one_message bytes (Hello s c) (Hello t k) p q =
    let made : SessionValue × ContextValue → MessageValue = λ x. Hello x.0 x.1 in
    ap made (one_in 3 context IsContext (one_whole context IsContext context_unique) bytes s t c k p q)
one_message bytes (Opening s c r) (Opening t k u) p q =
    let made : SessionValue × (ContextValue × Option (List ℕ)) → MessageValue = λ x. Opening x.0 x.1.0 x.1.1 in
    ap made (one_in 4 opening IsOpening (one_whole opening IsOpening opening_unique) bytes s t (c, r) (k, u) p q)
one_message bytes (Ask s x) (Ask t y) p q =
    let made : SessionValue × List ℕ → MessageValue = λ x. Ask x.0 x.1 in
    ap made (one_in 5 prefix IsPrefix (one_whole prefix IsPrefix prefix_unique) bytes s t x y p q)
one_message bytes (Page s x) (Page t y) p q =
    let made : SessionValue × SentValue → MessageValue = λ x. Page x.0 x.1 in
    ap made (one_in 6 sent IsSent one_sent bytes s t x y p q)
one_message bytes (Gone s) (Gone t) p q =
    let made : SessionValue × Unit {0} → MessageValue = λ x. Gone x.0 in
    ap made (one_in 7 empty_spelling IsNothing one_nothing bytes s t tt tt p q)
one_message bytes (Delta d) (Hello s c) p q = absurd (delta_and 3 context IsContext bytes d s c refl p q)
one_message bytes (Hello s c) (Delta d) p q = absurd (delta_and 3 context IsContext bytes d s c refl q p)
one_message bytes (Delta d) (Opening s c r) p q = absurd (delta_and 4 opening IsOpening bytes d s (c, r) refl p q)
one_message bytes (Opening s c r) (Delta d) p q = absurd (delta_and 4 opening IsOpening bytes d s (c, r) refl q p)
one_message bytes (Delta d) (Ask s x) p q = absurd (delta_and 5 prefix IsPrefix bytes d s x refl p q)
one_message bytes (Ask s x) (Delta d) p q = absurd (delta_and 5 prefix IsPrefix bytes d s x refl q p)
one_message bytes (Delta d) (Page s x) p q = absurd (delta_and 6 sent IsSent bytes d s x refl p q)
one_message bytes (Page s x) (Delta d) p q = absurd (delta_and 6 sent IsSent bytes d s x refl q p)
one_message bytes (Delta d) (Gone s) p q = absurd (delta_and 7 empty_spelling IsNothing bytes d s tt refl p q)
one_message bytes (Gone s) (Delta d) p q = absurd (delta_and 7 empty_spelling IsNothing bytes d s tt refl q p)
one_message bytes (Hello s c) (Opening t k u) p q = absurd (no_two 3 4 context IsContext opening IsOpening bytes s t c (k, u) refl p q)
one_message bytes (Hello s c) (Ask t y) p q = absurd (no_two 3 5 context IsContext prefix IsPrefix bytes s t c y refl p q)
one_message bytes (Hello s c) (Page t y) p q = absurd (no_two 3 6 context IsContext sent IsSent bytes s t c y refl p q)
one_message bytes (Hello s c) (Gone t) p q = absurd (no_two 3 7 context IsContext empty_spelling IsNothing bytes s t c tt refl p q)
one_message bytes (Opening s c r) (Hello t k) p q = absurd (no_two 4 3 opening IsOpening context IsContext bytes s t (c, r) k refl p q)
one_message bytes (Opening s c r) (Ask t y) p q = absurd (no_two 4 5 opening IsOpening prefix IsPrefix bytes s t (c, r) y refl p q)
one_message bytes (Opening s c r) (Page t y) p q = absurd (no_two 4 6 opening IsOpening sent IsSent bytes s t (c, r) y refl p q)
one_message bytes (Opening s c r) (Gone t) p q = absurd (no_two 4 7 opening IsOpening empty_spelling IsNothing bytes s t (c, r) tt refl p q)
one_message bytes (Ask s x) (Hello t k) p q = absurd (no_two 5 3 prefix IsPrefix context IsContext bytes s t x k refl p q)
one_message bytes (Ask s x) (Opening t k u) p q = absurd (no_two 5 4 prefix IsPrefix opening IsOpening bytes s t x (k, u) refl p q)
one_message bytes (Ask s x) (Page t y) p q = absurd (no_two 5 6 prefix IsPrefix sent IsSent bytes s t x y refl p q)
one_message bytes (Ask s x) (Gone t) p q = absurd (no_two 5 7 prefix IsPrefix empty_spelling IsNothing bytes s t x tt refl p q)
one_message bytes (Page s x) (Hello t k) p q = absurd (no_two 6 3 sent IsSent context IsContext bytes s t x k refl p q)
one_message bytes (Page s x) (Opening t k u) p q = absurd (no_two 6 4 sent IsSent opening IsOpening bytes s t x (k, u) refl p q)
one_message bytes (Page s x) (Ask t y) p q = absurd (no_two 6 5 sent IsSent prefix IsPrefix bytes s t x y refl p q)
one_message bytes (Page s x) (Gone t) p q = absurd (no_two 6 7 sent IsSent empty_spelling IsNothing bytes s t x tt refl p q)
one_message bytes (Gone s) (Hello t k) p q = absurd (no_two 7 3 empty_spelling IsNothing context IsContext bytes s t tt k refl p q)
one_message bytes (Gone s) (Opening t k u) p q = absurd (no_two 7 4 empty_spelling IsNothing opening IsOpening bytes s t tt (k, u) refl p q)
one_message bytes (Gone s) (Ask t y) p q = absurd (no_two 7 5 empty_spelling IsNothing prefix IsPrefix bytes s t tt y refl p q)
one_message bytes (Gone s) (Page t y) p q = absurd (no_two 7 6 empty_spelling IsNothing sent IsSent bytes s t tt y refl p q)

pub one_delta : (bytes : List ℕ) (d e : OrMapValue) → SpellsDelta bytes d → SpellsDelta bytes e → d ≡ e
one_delta bytes d e p q = let same = one_message bytes (Delta d) (Delta e) p q in cc

-- a message has one spelling
pub one_spelling : (a b : List ℕ) (m : MessageValue) → Spells a m → Spells b m → a ≡ b
one_spelling a b (Delta d) p q = p.spelling ∙ sym q.spelling
one_spelling a b (Hello s c) p q = p.spelling ∙ sym q.spelling
one_spelling a b (Opening s c r) p q = p.spelling ∙ sym q.spelling
one_spelling a b (Ask s x) p q = p.spelling ∙ sym q.spelling
one_spelling a b (Page s x) p q = p.spelling ∙ sym q.spelling
one_spelling a b (Gone s) p q = p.spelling ∙ sym q.spelling

only_refusal : (P : Type 0) (e : Refusal) → RefusesReading (P → ⊥) e → P → e ≡ OutOfMemory
only_refusal P OutOfMemory h p = refl
only_refusal P NotAMessage h p = absurd (h p)
only_refusal P TooLong h p = absurd h
only_refusal P ReadOnly h p = absurd h
only_refusal P NumbersSpent h p = absurd h
only_refusal P SessionsFull h p = absurd h
only_refusal P NoPlace h p = absurd h
only_refusal P NameTaken h p = absurd h
only_refusal P UnknownReplica h p = absurd h
only_refusal P UnknownMessage h p = absurd h
only_refusal P BadLine h p = absurd h
only_refusal P Input h p = absurd h
only_refusal P Output h p = absurd h

-- what the bytes spell is what was read
pub only_message : {R : Type 0} (show : R → MessageValue) (bytes : List ℕ) (r : Result R Refusal) → ReadsAll show (Spells bytes) r → (m : MessageValue)
    → Spells bytes m
    → MatchResult r (λ x. show x ≡ m) (λ e. e ≡ OutOfMemory)
only_message show bytes (Ok x) h m p = one_message bytes (show x) m h p
only_message show bytes (Err e) h m p = only_refusal (Spells bytes m) e (weaken e h) p
  where
    weaken : (e : Refusal) → RefusesReading ((n : MessageValue) → Spells bytes n → ⊥) e → RefusesReading (Spells bytes m → ⊥) e
    weaken e = refuses_weaker ((n : MessageValue) → Spells bytes n → ⊥) (Spells bytes m → ⊥) e (λ none. none m)
