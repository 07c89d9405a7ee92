-- What a synchronisation by pages comes to, for an asker with one map and a peer with another. Of this project.
use Rattle.std.specs.Prelude.{◌≡◌, ◌≢◌, ◌⊎◌, ◌↔◌, ℕ, Bool, true, List, [], ◌∷◌, ◌++◌, Option, Some, None}
use Rattle.std.specs.List.{Contains}
use Rattle.std.specs.FinMap as finite
use Rattle.std.specs.FinMap.Entries.{find}
use Rattle.dots.specs.Bytes.{bytes_cmp}
use Rattle.dots.specs.Dot.{DotValue}
use Rattle.causal_join.specs.OrMap.{ValuesValue, FieldsValue}
use Rattle.wire_form.specs.Page.{PageValue}
use Rattle.prefix_digest.specs.Page.{page_at, digest_of, digest_at}
use Rattle.prefix_digest.specs.Values.{unknown_at}
use Rattle.sha2.specs.Sha256.{sha256}
use Rattle.sync_model.specs.Opened.{held_in, opened_at}
use Rattle.sync_model.specs.Differ.{Held, Differ, Waits}
use Rattle.sync_model.specs.Fetch.{Fetch, Took, within_fields, take_opening, take_page}

-- the fields of a key as a map holds them: some, each with a value, and each once
pub record IsLawful (fs : FieldsValue) : Type 0 where
  pub some : fs ≢ []
  pub each : (f : List ℕ) (vs : ValuesValue) → Contains fs (f, vs) → (vs ≢ []) × (find bytes_cmp f fs ≡ Some vs)

abbrev pub IsLawfulMap : Held → Type 0
IsLawfulMap m = (key : List ℕ) (fs : FieldsValue) → finite.get m key ≡ Some fs → IsLawful fs

-- a page that was taken, and the values that came with it
pub record Taking : Type 0 where
  pub prefix : List ℕ
  pub page : PageValue
  pub sent : List (List ℕ)

-- of several, one is at this prefix
abbrev pub TakenAt : List Taking → List ℕ → Type 0
TakenAt [] p = ⊥
TakenAt (t ∷ ts) p = TakenAt ts p ⊎ (p ≡ t.prefix)

-- what an asker has after an opening with this root digest and these pages, the last of them first
module _ (hash_of : List ℕ → ℕ) (own : Held) (seen opened : DotValue → Bool) where
  abbrev pub Fetched : Option (List ℕ) → List Taking → Fetch → Type 0
  Fetched root [] f = take_opening hash_of own seen opened root ≡ Took f
  Fetched root (t ∷ ts) f = (g : Fetch) × Fetched root ts g × (take_page hash_of own seen opened g t.prefix t.page t.sent ≡ Took f)

-- ---- what a session meets

-- a value that a map holds
abbrev pub HoldsValue : Held → List ℕ → Type 0
HoldsValue m value = (key : List ℕ) × (fs : FieldsValue) × (finite.get m key ≡ Some fs)
    × ((field : List ℕ) × (vs : ValuesValue) × Contains fs (field, vs) × ((d : DotValue) × Contains vs (d, value)))

module _ (hash_of : List ℕ → ℕ) (own theirs : Held) (ts : List Taking) where
  -- the pages of both maps, and those that were taken
  abbrev pub MetPage : PageValue → Type 0
  MetPage page =
      (((p : List ℕ) × (page_at hash_of own p ≡ Some page)) ⊎ ((p : List ℕ) × (page_at hash_of theirs p ≡ Some page)))
      ⊎ ((t : Taking) × Contains ts t × (t.page ≡ page))

  -- the values of both maps, and those that were sent
  abbrev pub MetValue : List ℕ → Type 0
  MetValue value = (HoldsValue own value ⊎ HoldsValue theirs value) ⊎ ((t : Taking) × Contains ts t × Contains t.sent value)

  -- no two different pages met have one digest, and no two different values
  pub record NoClash : Type 0 where
    pub pages : (a b : PageValue) → MetPage a → MetPage b → digest_of a ≡ digest_of b → a ≡ b
    pub values : (a b : List ℕ) → MetValue a → MetValue b → sha256 a ≡ sha256 b → a ≡ b

-- ---- the law of fetching

-- An asker that held one map took an opening of a peer that held the other, and then these pages, and no two of what was met have one
-- digest. Then each page is that of the peer at its prefix, with just the values that the asker had not seen; what is
-- waited for is just what differs and can be asked for; and once nothing is, the asker has built just what is to be
-- opened, and has taken just the pages where the maps differ, each once.
module _ (hash_of : List ℕ → ℕ) (own theirs : Held) (seen opened : DotValue → Bool) where
  pub record IsFetched (ts : List Taking) (f : Fetch) : Type 0 where
    pub theirs_taken : (t : Taking) → Contains ts t → (page_at hash_of theirs t.prefix ≡ Some t.page) × (t.sent ≡ unknown_at seen hash_of theirs t.prefix)
    pub waits : (p d : List ℕ) → (finite.get f.waiting p ≡ Some d) ↔ Waits hash_of own theirs (TakenAt ts) p d
    pub once : (t : Taking) (older newer : List Taking) → ts ≡ newer ++ t ∷ older → ¬ TakenAt older t.prefix
    pub done : ((p : List ℕ) → finite.get f.waiting p ≡ None)
        → ((key : List ℕ) → finite.get f.built key ≡ opened_at seen (finite.get own key) (finite.get theirs key))
        × ((p d : List ℕ) → Differ hash_of own theirs p d → TakenAt ts p) × ((p : List ℕ) → TakenAt ts p → (d : List ℕ) × Differ hash_of own theirs p d)

  abbrev pub Fetching : Type 0
  Fetching = (ts : List Taking) (f : Fetch) → IsLawfulMap own → NoClash hash_of own theirs ts
      → Fetched hash_of own seen opened (digest_at hash_of theirs []) ts f → IsFetched ts f

-- ---- the law of fitting

-- the opening knows each dot of a map
abbrev pub KnowsEachDot : (DotValue → Bool) → Held → Type 0
KnowsEachDot opened m = (key : List ℕ) (fs : FieldsValue) → finite.get m key ≡ Some fs → within_fields opened fs ≡ true

-- a dot that stands at one place of both maps has one value there
abbrev pub OneValue : Held → Held → Type 0
OneValue own theirs = (key : List ℕ) (gs : FieldsValue) → finite.get theirs key ≡ Some gs → (field : List ℕ) (vs : ValuesValue) → Contains gs (field, vs)
    → (d : DotValue) (o v : List ℕ) → held_in (finite.get own key) field d ≡ Some o → Contains vs (d, v) → o ≡ v

-- Where the opening is one that the peer's map and the dots that it knows gave, it is taken, and so is at each prefix that is waited for
-- the peer's page with the values that the asker had not seen.
module _ (hash_of : List ℕ → ℕ) (own theirs : Held) (seen opened : DotValue → Bool) where
  abbrev pub Fitting : Type 0
  Fitting = (ts : List Taking) (f : Fetch) → IsLawfulMap own → NoClash hash_of own theirs ts → KnowsEachDot opened theirs → OneValue own theirs
      → Fetched hash_of own seen opened (digest_at hash_of theirs []) ts f
      → (p d : List ℕ) → finite.get f.waiting p ≡ Some d
      → (page : PageValue) × (page_at hash_of theirs p ≡ Some page)
      × ((g : Fetch) × (take_page hash_of own seen opened f p page (unknown_at seen hash_of theirs p) ≡ Took g))

  abbrev pub Opening : Type 0
  Opening = IsLawfulMap own → NoClash hash_of own theirs [] → KnowsEachDot opened theirs
      → (f : Fetch) × (take_opening hash_of own seen opened (digest_at hash_of theirs []) ≡ Took f)
