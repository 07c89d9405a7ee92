-- Prefixes at the front of bytes, index by index.
use Rattle.std.proofs.Common.{◌≡◌, ℕ, suc, ◌<◌, ◌≤◌, ◌+◌, List, [], ◌∷◌, ◌++◌, length, sym, ap, subst, ◌∙◌, arith, append_assoc, inl, inr}
use Rattle.std.specs.Prelude.{◌⊎◌}
use Rattle.std.proofs.lemmas.List.{append-nil}
use Rattle.hash_path.specs.Path.{AreIndices, last_index}
use Rattle.wire_form.specs.Spelling.{Begins, HasNoSpelling}
use Rattle.wire_form.specs.Prefix.{prefix, IsPrefix, IsOneLonger}
use Rattle.wire_form.specs.Writing.{Appends}

-- so many indices
abbrev pub IsPrefixOf : ℕ → List ℕ → Type 0
IsPrefixOf depth path = IsPrefix path × (length path ≡ depth)

-- what is left to read of a longer path begins with its next index, which is lawful there
next_index : (at : ℕ) (read path rest end : List ℕ) → length read < length path → path ++ end ≡ read ++ rest → AreIndices at path
    → (index : ℕ) × (more : List ℕ) × (rest ≡ index ∷ more) × (index ≤ last_index (at + length read))
next_index at read [] rest end short e h = absurd (omega arith)
next_index at [] (i ∷ path) rest end short e h = (i, path ++ end, sym e, subst (λ (n : ℕ). i ≤ last_index n) (omega arith) h.0)
next_index at (r ∷ read) (i ∷ path) rest end short e h =
    let behind : path ++ end ≡ read ++ rest = cc in
    let x = next_index (suc at) read path rest end (omega arith) behind h.1 in
    (x.0, x.1, x.2, subst (λ (n : ℕ). x.0 ≤ last_index n) (omega arith) x.3)

-- no index comes next, where none is lawful
pub no_next_index : (bytes : List ℕ) (depth : ℕ) (read rest : List ℕ) → bytes ≡ read ++ rest → length read < depth
    → ((index : ℕ) (more : List ℕ) → rest ≡ index ∷ more → (length read ≡ 7) ⊎ (last_index (length read) < index))
    → HasNoSpelling (λ path. path) (IsPrefixOf depth) bytes
no_next_index bytes depth read rest parts short bad path end h =
    let x = next_index 0 read path rest end (omega (arith, h.fits.1)) (sym h.parts ∙ parts) h.fits.0.indices in
    let least : x.0 ≤ last_index (length read) = subst (λ (n : ℕ). x.0 ≤ last_index n) (omega arith) x.3 in
    let most = h.fits.0.short in
    elim (bad x.0 x.1 x.2) [ inl e ↦ omega (arith, h.fits.1) | inr l ↦ omega arith ]

pub longer_parts : (bytes read rest longer after : List ℕ) → bytes ≡ read ++ rest → IsOneLonger read rest longer after → bytes ≡ longer ++ after
longer_parts bytes read rest longer after e h = e ∙ sym h.moved

pub indices_begin : (bytes : List ℕ) (depth : ℕ) (path rest : List ℕ) → bytes ≡ path ++ rest → length path ≡ depth → length path ≤ 7 → AreIndices 0 path
    → Begins (λ p. p) (IsPrefixOf depth) bytes path rest
indices_begin bytes depth path rest parts long short lawful = record { fits = (record { short = short; indices = lawful }, long); parts = parts }

pub prefix_begins : (bytes : List ℕ) (depth : ℕ) (path rest : List ℕ) → Begins (λ p. p) (IsPrefixOf depth) bytes path rest
    → Begins prefix IsPrefix (depth ∷ bytes) path rest
prefix_begins bytes depth path rest h = record { fits = h.fits.0; parts = let long = sym h.fits.1 in λ i. long i ∷ h.parts i }

pub no_prefix : (bytes : List ℕ) (depth : ℕ) → HasNoSpelling (λ p. p) (IsPrefixOf depth) bytes → HasNoSpelling prefix IsPrefix (depth ∷ bytes)
no_prefix bytes depth none path rest h =
    let long : depth ≡ length path = let e = h.parts in cc in
    let behind : bytes ≡ path ++ rest = let e = h.parts in cc in
    none path rest (record { fits = (h.fits, sym long); parts = behind })

-- ---- writing

pub index_written : (old now new path rest more : List ℕ) (index : ℕ) → now ++ rest ≡ old ++ path → rest ≡ index ∷ more → new ≡ now ++ index ∷ []
    → new ++ more ≡ old ++ path
index_written old now new path rest more index e r w =
    ap (λ (t : List ℕ). t ++ more) w ∙ append_assoc now (index ∷ []) more ∙ ap (λ (t : List ℕ). now ++ t) (sym r) ∙ e

pub indices_written : (old now path rest : List ℕ) → now ++ rest ≡ old ++ path → rest ≡ [] → now ≡ old ++ path
indices_written old now path rest e r = sym (append-nil now) ∙ ap (λ (t : List ℕ). now ++ t) (sym r) ∙ e

pub prefix_written : (old mid new path : List ℕ) (depth : ℕ) → mid ≡ old ++ depth ∷ [] → depth ≡ length path → new ≡ mid ++ path → length path ≤ 7
    → AreIndices 0 path → Appends prefix IsPrefix old new path
prefix_written old mid new path depth m d n short lawful = record {
  fits = record { short = short; indices = lawful };
  parts = n ∙ ap (λ (t : List ℕ). t ++ path) m ∙ append_assoc old (depth ∷ []) path ∙ ap (λ (k : ℕ). old ++ k ∷ path) d;
}
