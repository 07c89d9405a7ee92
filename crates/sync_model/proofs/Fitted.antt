-- The law of fitting: the peer's pages are taken, and its opening is.
use Rattle.std.proofs.Common.{◌≡◌, ℕ, ◌≤◌, List, [], ◌∷◌, ◌++◌, length, Bool, true, false, cond, not, Some, None, arith, refl, sym, ◌∙◌, ap, subst}
use Rattle.std.specs.Prelude.{Option, ◌&&◌, ◌||◌}
use Rattle.std.specs.Option.{option_map}
use Rattle.std.specs.List.{list_all}
use Rattle.std.specs.Str.{bytes_eq}
use Rattle.std.specs.FinMap as finite
use Rattle.std.proofs.lemmas.Option.{same_Some}
use Rattle.std.proofs.lemmas.Slice.Eq.{bytes_eq-Decides}
use Rattle.dots.specs.Dot.{DotValue}
use Rattle.hash_path.specs.Word.{begins}
use Rattle.hash_path.specs.Map.{path, walk_under}
use Rattle.causal_join.specs.OrMap.{ValuesValue, FieldsValue}
use Rattle.wire_form.specs.Page.{PageValue}
use Rattle.prefix_digest.specs.Page.{named_entries, page_at, digest_of, digest_at}
use Rattle.prefix_digest.specs.Values.{unknown_at}
use Rattle.sync_model.specs.Opened.{held_in}
use Rattle.sync_model.specs.Filled.{filled}
use Rattle.sync_model.specs.Differ.{Held}
use Rattle.sync_model.specs.Fetch.{Fetch, Took, Mismatch, entries_of, is_digest, is_own, fits, took, promised, take_page, take_opening, within_fields, within}
use Rattle.sync_model.specs.Laws.{IsLawfulMap, Taking, NoClash, KnowsEachDot, OneValue, Fitting, Opening}
use Rattle.sync_model.proofs.Prefixes.{length-further}
use Rattle.sync_model.proofs.Members.{In, Contains-In, part_found}
use Rattle.sync_model.proofs.Paged.{in_present}
use Rattle.sync_model.proofs.Alike.{names_at, same_names}
use Rattle.sync_model.proofs.Filling.{open_entries}
use Rattle.sync_model.proofs.Fetching.{Shown, Leaf, Parts, shown}
use Rattle.sync_model.proofs.Fetched.{own_digest}
use Rattle.sync_model.proofs.Fetches.{own_page, page_clash, kept_pages}
use Rattle.sync_model.proofs.Fits.{and_true, fills, entries_fit, children_fit, kept_known, all_pass}

module _ (hash_of : List ℕ → ℕ) (own theirs : Held) (seen opened : DotValue → Bool) (lawful : IsLawfulMap own) (ts : List Taking)
    (no_clash : NoClash hash_of own theirs ts) (known : KnowsEachDot opened theirs) where
  same_below_names : (p : List ℕ) → length p ≤ 7 → digest_at hash_of own p ≡ digest_at hash_of theirs p → (key : List ℕ) → begins p (path hash_of key) ≡ true
      → names_at own key ≡ names_at theirs key
  same_below_names p short e key under =
      same_names hash_of own theirs (λ p q a b x y s. page_clash hash_of own theirs seen opened lawful ts no_clash a b q
      (own_page hash_of own theirs seen opened lawful ts no_clash p a x) y s) p short e key under

  module _ (p : List ℕ) (page : PageValue) (is : page_at hash_of theirs p ≡ Some page) where
    page_fits : fits hash_of own opened p page ≡ true
    page_fits = step (shown hash_of theirs p page is)
      where
        and_again : (a b c : Bool) → a && b ≡ true → c ≡ true → a && (b && c) ≡ true
        and_again true b c s t = (λ k. s k && t k)
        and_again false b c s t = absurd cc

        step : Shown hash_of theirs p page → fits hash_of own opened p page ≡ true
        step (Leaf none es off missing) =
            and_again (list_all (λ e. begins p (path hash_of e.0)) (entries_of page)) (within opened (entries_of page)) _
            (ap (λ l. list_all (λ e. begins p (path hash_of e.0)) l && within opened l) es ∙ entries_fit hash_of own theirs seen opened known p)
            (ap (list_all (λ c. not (is_own hash_of own p c) || within opened (walk_under hash_of (p ++ c.0 ∷ []) own))) none)
        step (Parts less cs same are missing) =
            ap (fits hash_of own opened p) same
            ∙ children_fit hash_of own theirs seen opened known p cs (λ i d h e key under.
            let there = in_present 0 32 (λ i. digest_at hash_of theirs (p ++ i ∷ [])) i d (subst (λ l. In l (i, d)) are h) in
            let long = length-further p i in
            same_below_names (p ++ i ∷ []) (omega (arith, long, less)) (e ∙ sym there.2) key under)

    page_filled : OneValue own theirs → (es : List (List ℕ × FieldsValue)) × (filled seen own (entries_of page) (unknown_at seen hash_of theirs p) ≡ Some es)
    page_filled one = step (shown hash_of theirs p page is)
      where
        ws : List (List ℕ × FieldsValue)
        ws = walk_under hash_of p theirs

        one_there : (key : List ℕ) (gs : FieldsValue) → In ws (key, gs) → (field : List ℕ) (vs : ValuesValue) → In gs (field, vs)
            → (d : DotValue) (o v : List ℕ)
            → held_in (finite.get own key) field d ≡ Some o → In vs (d, v) → o ≡ v
        one_there key gs h field vs g d o v e i = one key gs (part_found hash_of theirs p key gs h).0 field vs (Contains-In gs (field, vs) g) d o v e
            (Contains-In vs (d, v) i)

        step : Shown hash_of theirs p page → (es : List (List ℕ × FieldsValue))
            × (filled seen own (entries_of page) (unknown_at seen hash_of theirs p) ≡ Some es)
        step (Leaf none es off missing) = (
          open_entries seen own ws,
          ap (λ l. filled seen own l (unknown_at seen hash_of theirs p)) es
              ∙ ap (filled seen own (named_entries ws)) (missing seen) ∙ fills seen own ws one_there,
        )
        step (Parts less cs same are missing) = ([], (λ k. filled seen own (entries_of (same k)) (missing seen k)))

    page_taken : OneValue own theirs → (f : Fetch) (d : List ℕ) → finite.get f.waiting p ≡ Some d → digest_at hash_of theirs p ≡ Some d → (g : Fetch)
        × (take_page hash_of own seen opened f p page (unknown_at seen hash_of theirs p) ≡ Took g)
    page_taken one f d w there =
        let made = page_filled one in
        let right : d ≡ digest_of page = same_Some d (digest_of page) (sym there ∙ ap (option_map digest_of) is) in
        let test : bytes_eq d (digest_of page) && fits hash_of own opened p page ≡ true =
        and_true (bytes_eq d (digest_of page)) (fits hash_of own opened p page) ((bytes_eq-Decides d (digest_of page)).1 right) page_fits in (
          _,
          ap (promised hash_of own seen opened f p page (unknown_at seen hash_of theirs p)) w
              ∙ ap (λ b. cond b (took hash_of own seen opened f p page (filled seen own (entries_of page) (unknown_at seen hash_of theirs p))) Mismatch) test
              ∙ ap (took hash_of own seen opened f p page) made.1,
        )

  page_there : (p d : List ℕ) → digest_at hash_of theirs p ≡ Some d → (page : PageValue) × (page_at hash_of theirs p ≡ Some page)
  page_there p d e = step (page_at hash_of theirs p) refl e
    where
      step : (o : Option PageValue) → page_at hash_of theirs p ≡ o → option_map digest_of o ≡ Some d → (page : PageValue)
          × (page_at hash_of theirs p ≡ Some page)
      step None s t = absurd cc
      step (Some page) s t = (page, s)

pub fitting : (hash_of : List ℕ → ℕ) (own theirs : Held) (seen opened : DotValue → Bool) → Fitting hash_of own theirs seen opened
fitting hash_of own theirs seen opened ts f lawful no_clash known one fetched p d w =
    let kept = kept_pages hash_of own theirs seen opened lawful ts no_clash ts f (λ t h. Contains-In ts t h) fetched in
    let there = (kept.waits p d w).0.0.0 in
    let page = page_there hash_of own theirs seen opened lawful ts no_clash known p d there in
    (page.0, page.1, page_taken hash_of own theirs seen opened lawful ts no_clash known p page.0 page.1 one f d w there)

pub opening : (hash_of : List ℕ → ℕ) (own theirs : Held) (seen opened : DotValue → Bool) → Opening hash_of own theirs seen opened
opening hash_of own theirs seen opened lawful no_clash known = by_root (digest_at hash_of theirs []) refl
  where
    kept : (d : List ℕ) → digest_at hash_of theirs [] ≡ Some d → is_digest (digest_at hash_of own []) d ≡ true
        → within opened (walk_under hash_of [] own) ≡ true
    kept d there e =
        all_pass (λ x. within_fields opened x.1) (walk_under hash_of [] own) (λ x g.
        let found = part_found hash_of own [] x.0 x.1 g in
        let same = own_digest (digest_at hash_of own []) d e ∙ sym there in
        kept_known hash_of own theirs seen opened known x.0 x.1 found.0
        (same_below_names hash_of own theirs seen opened lawful [] no_clash known [] (omega arith) same x.0 refl))

    by_own : (d : List ℕ) → digest_at hash_of theirs [] ≡ Some d → (b : Bool) → is_digest (digest_at hash_of own []) d ≡ b → (f : Fetch)
        × (take_opening hash_of own seen opened (Some d) ≡ Took f)
    by_own d there true e = (
      record { waiting = finite.empty; built = own },
      (λ k. cond (e k) (cond (kept d there e k) (Took (record { waiting = finite.empty; built = own })) Mismatch)
          (Took (record { waiting = finite.insert finite.empty [] d; built = own }))),
    )
    by_own d there false e = (
      record { waiting = finite.insert finite.empty [] d; built = own },
      ap (λ b. cond b (cond (within opened (walk_under hash_of [] own)) (Took (record { waiting = finite.empty; built = own })) Mismatch)
          (Took (record { waiting = finite.insert finite.empty [] d; built = own }))) e,
    )

    by_root : (o : Option (List ℕ)) → digest_at hash_of theirs [] ≡ o → (f : Fetch) × (take_opening hash_of own seen opened o ≡ Took f)
    by_root None s = (record { waiting = finite.empty; built = finite.empty }, refl)
    by_root (Some d) s = by_own d s (is_digest (digest_at hash_of own []) d) refl
