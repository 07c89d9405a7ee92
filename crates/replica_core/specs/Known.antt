-- What a session holds that fetches: where nothing is waited for any more, what is built is known to the opening. Of this project.
use Rattle.std.specs.Prelude.{◌≡◌, ℕ, Bool, true, List, Option, IsSome, Some, None}
use Rattle.std.specs.FinMap as finite
use Rattle.causal_join.specs.OrMap.{FieldsValue}
use Rattle.dots.specs.Dot.{DotValue}
use Rattle.hash_path.specs.Word.{begins}
use Rattle.hash_path.specs.Map.{path}
use Rattle.sync_model.specs.Differ.{Held}
use Rattle.wire_form.specs.Page.{PageValue}
use Rattle.sync_model.specs.Fetch.{Fetch, Waiting, Took, within_fields, take_opening, take_page}
use Rattle.sync_model.specs.Laws.{KnowsEachDot}

module _ (hash_of : List ℕ → ℕ) where
  -- a key is under a prefix that is waited for
  abbrev pub IsUnder : Waiting → List ℕ → List ℕ → Type 0
  IsUnder waiting p key = IsSome (finite.get waiting p) × (begins p (path hash_of key) ≡ true)

  -- No key is under two prefixes that are waited for; what is built there is the own map still; and elsewhere all dots of what is
  -- built are known to the opening.
  pub record IsKnown (own : Held) (opened : DotValue → Bool) (f : Fetch) : Type 0 where
    pub apart : (key p q : List ℕ) → IsUnder f.waiting p key → IsUnder f.waiting q key → p ≡ q
    pub own_still : (key p : List ℕ) → IsUnder f.waiting p key → finite.get f.built key ≡ finite.get own key
    pub known : (key : List ℕ) (fs : FieldsValue) → finite.get f.built key ≡ Some fs → ((p : List ℕ) → IsUnder f.waiting p key → ⊥)
        → within_fields opened fs ≡ true

-- So it is after an opening, and stays so with each page that is taken, whatever the page says; and once nothing is waited for, the
-- opening knows each dot of what is built.
module _ (hash_of : List ℕ → ℕ) (own : Held) (seen opened : DotValue → Bool) where
  pub record KeepsKnown : Type 0 where
    pub opening : (root : Option (List ℕ)) (f : Fetch) → take_opening hash_of own seen opened root ≡ Took f → IsKnown hash_of own opened f
    pub page : (f g : Fetch) (p : List ℕ) (page : PageValue) (sent : List (List ℕ)) → IsKnown hash_of own opened f
        → take_page hash_of own seen opened f p page sent ≡ Took g → IsKnown hash_of own opened g
    pub whole : (f : Fetch) → IsKnown hash_of own opened f → ((p : List ℕ) → finite.get f.waiting p ≡ None) → KnowsEachDot opened f.built

abbrev pub KnownSteps : Type 0
KnownSteps = (hash_of : List ℕ → ℕ) (own : Held) (seen opened : DotValue → Bool) → KeepsKnown hash_of own seen opened
