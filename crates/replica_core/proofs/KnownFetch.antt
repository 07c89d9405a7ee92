-- What a session built of an opening and of pages is known to the opening, but for what stands under a prefix that is waited for still. That each step
-- keeps it so is proved in `replica_model` (`Built.antt`).
use Rattle.std.proofs.Common.{◌≡◌, ℕ, List, Bool, true, false, None, sym, ◌∙◌, ap, eqb-true}
use Rattle.std.specs.Prelude.{Option, is_some, ◌==◌}
use Rattle.std.specs.FinMap as finite
use Rattle.std.specs.FinMap.{get-empty, empty_of_len}
use Rattle.dots.specs.Bytes.{bytes_cmp}
use Rattle.dots.specs.Dot.{DotValue}
use Rattle.wire_form.specs.Page.{PageValue}
use Rattle.sync_model.specs.Differ.{Held}
use Rattle.sync_model.specs.Fetch.{Fetch, Took, take_page, take_opening}
use Rattle.sync_model.specs.Laws.{KnowsEachDot}
use Rattle.replica_model.proofs.Built.{fields_pass, passing_fields, page_known, opening_known}
use Rattle.replica_model.proofs.Built as built
use Rattle.replica_core.specs.Known.{IsKnown, KnownSteps}

module _ (hash_of : List ℕ → ℕ) (own : Held) (seen opened : DotValue → Bool) where
  -- a test of all dots says the same of each
  of_each : (f : Fetch) → IsKnown hash_of own opened f → built.IsKnown hash_of own seen opened f
  of_each f is = record { apart = is.apart; own_still = is.own_still; known = λ key fs e none. fields_pass opened fs (is.known key fs e none) }

  of_all : (f : Fetch) → built.IsKnown hash_of own seen opened f → IsKnown hash_of own opened f
  of_all f is = record { apart = is.apart; own_still = is.own_still; known = λ key fs e none. passing_fields opened fs (is.known key fs e none) }

  pub known_page : (f g : Fetch) (p : List ℕ) (page : PageValue) (sent : List (List ℕ)) → IsKnown hash_of own opened f
      → take_page hash_of own seen opened f p page sent ≡ Took g → IsKnown hash_of own opened g
  known_page f g p page sent is e = of_all g (page_known hash_of own seen opened f g p page sent (of_each f is) e)

  pub known_opening : (root : Option (List ℕ)) (f : Fetch) → take_opening hash_of own seen opened root ≡ Took f
      → IsKnown hash_of own opened f
  known_opening root f e = of_all f (opening_known hash_of own seen opened root f e)

  pub known_whole : (f : Fetch) → IsKnown hash_of own opened f → ((p : List ℕ) → finite.get f.waiting p ≡ None) → KnowsEachDot opened f.built
  known_whole f is none key fs e = is.known key fs e (λ p u. let no : false ≡ true = ap is_some (sym (none p)) ∙ u.0 in cc)

-- nothing is waited for where the map of it has no entry
pub complete_whole : (f : Fetch) → (finite.len f.waiting == 0) ≡ true → (p : List ℕ) → finite.get f.waiting p ≡ None
complete_whole f e p = ap (λ w. finite.get w p) (empty_of_len f.waiting (eqb-true (finite.len f.waiting) 0 e)) ∙ get-empty bytes_cmp p

pub known_steps : KnownSteps
known_steps hash_of own seen opened = record {
  opening = known_opening hash_of own seen opened;
  page = known_page hash_of own seen opened;
  whole = known_whole hash_of own seen opened;
}
