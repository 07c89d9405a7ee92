-- What a page comes to at an asker, in the words of the step of a session. Of this project.
use Rattle.std.specs.Prelude.{◌≡◌, ℕ, List}
use Rattle.sync_model.specs.Fetch as model
use Rattle.page_fetching.specs.Building.{GoesOn}
use Rattle.page_fetching.specs.Taking.{FetchingValue, fetch_of}
use Rattle.page_fetching.specs.declared.taken.Taken.{Taken}
use Rattle.page_fetching.specs.declared.taken.Taken.TheVariants.{Ignored, Mismatch, Took}

module _ {H A : Type 0} where
  abbrev pub taken_of : Taken H A → model.Taken
  taken_of Ignored = model.Ignored
  taken_of Mismatch = model.Mismatch
  taken_of (Took next asks) = model.Took (fetch_of next)

  -- where it is taken, these are asked for
  abbrev pub asked_of : Taken H A → List (List ℕ) → Type 0
  asked_of Ignored asks = Unit {0}
  asked_of Mismatch asks = Unit {0}
  asked_of (Took next items) asks = items.items ≡ asks

  -- and what is built goes on
  abbrev pub GoesOnTo : FetchingValue H → Taken H A → Type 0
  GoesOnTo old Ignored = Unit {0}
  GoesOnTo old Mismatch = Unit {0}
  GoesOnTo old (Took next asks) = GoesOn old.built next.built
