-- What a page that is taken makes is what the definition says.
use Rattle.std.proofs.Common.{◌≡◌, ℕ, List, Bool, true, cond, Some, sym, ◌∙◌, ap}
use Rattle.std.specs.Prelude.{◌&&◌, Option}
use Rattle.std.specs.Str.{bytes_eq}
use Rattle.std.specs.FinMap as finite
use Rattle.dots.specs.Dot.{DotValue}
use Rattle.causal_join.specs.OrMap.{FieldsValue}
use Rattle.wire_form.specs.Page.{PageValue}
use Rattle.prefix_digest.specs.Page.{digest_of}
use Rattle.sync_model.specs.Differ.{Held}
use Rattle.sync_model.specs.Fetch.{Fetch, Mismatch, Took, entries_of, children_of, to_ask, put_children, put_entries, stays, fits, took, promised, take_page}
use Rattle.sync_model.specs.Filled.{filled}

module _ (f : List ℕ → ℕ) (own : Held) (seen opened : DotValue → Bool) (old : Fetch) (p : List ℕ) (page : PageValue) (sent : List (List ℕ)) where
  pub page_took : (told : Option (List ℕ)) (d : List ℕ) (test fit : Bool) (made : Option (List (List ℕ × FieldsValue))) (es : List (List ℕ × FieldsValue))
      (new : Fetch)
      → told ≡ finite.get old.waiting p → told ≡ Some d → test ≡ bytes_eq d (digest_of page) → test ≡ true → fit ≡ fits f own opened p page → fit ≡ true
      → made ≡ filled seen own (entries_of page) sent → made ≡ Some es
      → new.waiting ≡ put_children p (to_ask f own p (children_of page)) (finite.remove old.waiting p)
      → new.built ≡ put_entries es (finite.retain_keys old.built (stays f p page))
      → Took new ≡ take_page f own seen opened old p page sent
  page_took told d test fit made es new there is right on fitting on_fit filling full waits builds =
      ap Took (λ k. record { waiting = waits k; built = builds k })
      ∙ ap (took f own seen opened old p page) (sym full ∙ filling)
      ∙ ap (λ b. cond b (took f own seen opened old p page (filled seen own (entries_of page) sent)) Mismatch)
      (λ k. (sym on ∙ right) k && (sym on_fit ∙ fitting) k)
      ∙ ap (promised f own seen opened old p page sent) (sym is ∙ there)
