-- What an opening and a page message say, from all the bytes behind their session.
use Rattle.std.proofs.Common.{◌≡◌, false, true, subst, ℕ, Option, List, ◌++◌, sym, ap, ◌∙◌}
use Rattle.causal_context.specs.Context.{ContextValue}
use Rattle.wire_form.specs.Spelling.{IsWhole, Begins, HasNoSpelling}
use Rattle.wire_form.specs.Parts.{context, IsContext}
use Rattle.wire_form.specs.Spelling.{counted, AreCounted}
use Rattle.wire_form.specs.Parts.{text, IsText}
use Rattle.wire_form.specs.Prefix.{prefix, IsPrefix}
use Rattle.wire_form.specs.Page.{PageValue, spelled, ArePartsOf}
use Rattle.wire_form.specs.Sent.{SentValue, sent, IsSent, CanBeSent}
use Rattle.wire_form.specs.Message.{root, IsRoot, opening, IsOpening}
use Rattle.wire_form.proofs.Bodies.{context_unique}
use Rattle.wire_form.proofs.Said.{prefix_unique, texts_unique, one_page}

-- the bytes spell no opening
abbrev pub SpellsNoOpening : List ℕ → Type 0
SpellsNoOpening bytes = (o : ContextValue × Option (List ℕ)) → IsWhole opening IsOpening bytes o → ⊥

pub no_opening_context : (bytes : List ℕ) → HasNoSpelling context IsContext bytes → SpellsNoOpening bytes
no_opening_context bytes none o h = none o.0 (root o.1) (record { fits = h.fits.0; parts = h.spelling })

pub no_opening_root : (bytes : List ℕ) (c : ContextValue) (rest : List ℕ) → Begins context IsContext bytes c rest
    → ((r : Option (List ℕ)) → IsWhole root IsRoot rest r → ⊥) → SpellsNoOpening bytes
no_opening_root bytes c rest read none o h =
    let same = context_unique c o.0 rest (root o.1) read.fits h.fits.0 (sym read.parts ∙ h.spelling) in
    none o.1 (record { fits = h.fits.1; spelling = same.1 })

pub opening_whole : (bytes : List ℕ) (c : ContextValue) (rest : List ℕ) (r : Option (List ℕ)) → Begins context IsContext bytes c rest
    → IsWhole root IsRoot rest r → IsWhole opening IsOpening bytes (c, r)
opening_whole bytes c rest r read h = record { fits = (read.fits, h.fits); spelling = read.parts ∙ ap (λ (t : List ℕ). context c ++ t) h.spelling }

-- ---- pages as they are sent, behind their prefix

-- the bytes spell no page as it is sent
abbrev pub SpellsNoSent : List ℕ → Type 0
SpellsNoSent bytes = (s : SentValue) → IsWhole sent IsSent bytes s → ⊥

module _ (p bytes : List ℕ) (lawful : IsPrefix p) where
  -- what stands behind the prefix
  behind_prefix : (s : SentValue) → IsWhole sent IsSent (prefix p ++ bytes) s → (p ≡ s.prefix) × (bytes ≡ counted text s.values ++ spelled s.page)
  behind_prefix s h = prefix_unique p s.prefix bytes (counted text s.values ++ spelled s.page) lawful h.fits.prefix h.spelling

  pub no_sent_values : HasNoSpelling (counted text) (AreCounted IsText) bytes → SpellsNoSent (prefix p ++ bytes)
  no_sent_values none s h = none s.values (spelled s.page) (record { fits = h.fits.values; parts = (behind_prefix s h).1 })

  module _ (vs : List (List ℕ)) (rest : List ℕ) (read : Begins (counted text) (AreCounted IsText) bytes vs rest) where
    behind_values : (s : SentValue) → IsWhole sent IsSent (prefix p ++ bytes) s → (vs ≡ s.values) × (rest ≡ spelled s.page)
    behind_values s h = texts_unique vs s.values rest (spelled s.page) read.fits h.fits.values (sym read.parts ∙ (behind_prefix s h).1)

    pub no_sent_page : ((page : PageValue) → IsWhole spelled ArePartsOf rest page → ⊥) → SpellsNoSent (prefix p ++ bytes)
    no_sent_page none s h = none s.page (record { fits = h.fits.parts; spelling = (behind_values s h).1 })

    pub no_sent : (page : PageValue) → IsWhole spelled ArePartsOf rest page → (CanBeSent (record { prefix = p; values = vs; page = page }) → false ≡ true)
        → SpellsNoSent (prefix p ++ bytes)
    no_sent page whole bad s h =
        let values = behind_values s h in
        let same : page ≡ s.page = one_page page s.page whole.fits h.fits.parts (sym whole.spelling ∙ values.1) in
        let all : record { prefix = p; values = vs; page = page } ≡ s = λ i. record { prefix = (behind_prefix s h).0 i; values = values.0 i; page = same i } in
        let t = bad (subst CanBeSent (sym all) h.fits.lawful) in
        absurd (cc t)
