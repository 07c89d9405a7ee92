-- One page taken: it is theirs, its values are those that were missing, and what is waited for and what is built stay what they are
-- to be.
use Rattle.std.proofs.Common.{◌≡◌, ◌≢◌, ◌⊎◌, inl, inr, ℕ, ◌<◌, List, [], ◌∷◌, ◌++◌, length, Bool, true, false, cond, Some, None, refl, sym, ◌∙◌, ap}
use Rattle.std.specs.Prelude.{Option, ◌&&◌}
use Rattle.std.specs.Ordering.{eq_by_cmp}
use Rattle.hash_path.proofs.Words.{tied_same, same_tied}
use Rattle.std.specs.Str.{bytes_eq}
use Rattle.std.proofs.lemmas.Option.{same_Some}
use Rattle.std.proofs.lemmas.Slice.Eq.{bytes_eq-Decides}
use Rattle.std.specs.FinMap as finite
use Rattle.dots.specs.Bytes.{bytes_cmp}
use Rattle.dots.specs.Dot.{DotValue}
use Rattle.hash_path.specs.Map.{walk_under}
use Rattle.hash_path.specs.Summary.{present}
use Rattle.causal_join.specs.OrMap.{FieldsValue}
use Rattle.wire_form.specs.Page.{EntryValue, PageValue, OneKey, Keys, Branch}
use Rattle.prefix_digest.specs.Page.{named_entry, named_entries, page_at, digest_of, digest_at}
use Rattle.prefix_digest.specs.Values.{unknown_in, unknown_at}
use Rattle.prefix_digest.proofs.UnknownValues.{values_of_one, values_of_list, values_of_branch}
use Rattle.sync_model.specs.Filled.{filled}
use Rattle.sync_model.specs.Differ.{Held, IsBranchAt}
use Rattle.sync_model.specs.Fetch.{Fetch, Taken, Ignored, Mismatch, Took, entries_of, children_of, to_ask, fits, stays, put_children, put_entries, took}
use Rattle.sync_model.specs.Fetch.{promised, take_page}
use Rattle.sync_model.proofs.Paged.{Paged, Past, Nothing, One, Several, Parted, paged}

-- ---- what a step was made of

abbrev fetch_or : Fetch → Taken → Fetch
fetch_or f Ignored = f
fetch_or f Mismatch = f
fetch_or f (Took g) = g

pub same_fetch : (f g : Fetch) → Took f ≡ Took g → f ≡ g
same_fetch f g e = ap (fetch_or f) e

ignored : (g : Fetch) → Ignored ≡ Took g → ⊥
ignored g e = cc

pub refused : (g : Fetch) → Mismatch ≡ Took g → ⊥
refused g e = cc

pub both_true : (a b : Bool) → a && b ≡ true → (a ≡ true) × (b ≡ true)
both_true true b e = (refl, e)
both_true false b e = absurd cc

module _ (hash_of : List ℕ → ℕ) (own : Held) (seen opened : DotValue → Bool) where
  -- the page was promised, it fits, and it was filled
  pub record Step (f : Fetch) (p : List ℕ) (page : PageValue) (sent : List (List ℕ)) (g : Fetch) : Type 0 where
    pub digest : List ℕ
    pub waited : finite.get f.waiting p ≡ Some digest
    pub right : digest ≡ digest_of page
    pub made : List (List ℕ × FieldsValue)
    pub fill : filled seen own (entries_of page) sent ≡ Some made
    pub waiting : g.waiting ≡ put_children p (to_ask hash_of own p (children_of page)) (finite.remove f.waiting p)
    pub built : g.built ≡ put_entries made (finite.retain_keys f.built (stays hash_of p page))

  pub stepped : (f g : Fetch) (p : List ℕ) (page : PageValue) (sent : List (List ℕ)) → take_page hash_of own seen opened f p page sent ≡ Took g
      → Step f p page sent g
  stepped f g p page sent e = by_digest (finite.get f.waiting p) refl e
    where
      by_entries : (d : List ℕ) → finite.get f.waiting p ≡ Some d → d ≡ digest_of page → (o : Option (List (List ℕ × FieldsValue)))
          → filled seen own (entries_of page) sent ≡ o
          → took hash_of own seen opened f p page o ≡ Took g → Step f p page sent g
      by_entries d w r None s t = absurd (refused g t)
      by_entries d w r (Some es) s t =
          let same = same_fetch _ g t in
          record {
            digest = d;
            waited = w;
            right = r;
            made = es;
            fill = s;
            waiting = sym (ap (λ (f : Fetch). f.waiting) same);
            built = sym (ap (λ (f : Fetch). f.built) same);
          }

      by_test : (d : List ℕ) → finite.get f.waiting p ≡ Some d → (b : Bool) → bytes_eq d (digest_of page) && fits hash_of own opened p page ≡ b
          → cond b (took hash_of own seen opened f p page (filled seen own (entries_of page) sent)) Mismatch ≡ Took g → Step f p page sent g
      by_test d w true s t =
          by_entries d w ((bytes_eq-Decides d (digest_of page)).0 (both_true (bytes_eq d (digest_of page)) (fits hash_of own opened p page) s).0)
          (filled seen own (entries_of page) sent) refl t
      by_test d w false s t = absurd (refused g t)

      by_digest : (o : Option (List ℕ)) → finite.get f.waiting p ≡ o → promised hash_of own seen opened f p page sent o ≡ Took g → Step f p page sent g
      by_digest None w t = absurd (ignored g t)
      by_digest (Some d) w t = by_test d w (bytes_eq d (digest_of page) && fits hash_of own opened p page) refl t

-- ---- what the page at a prefix shows, by what is put of it and by its children

pub same_or_not : (q p : List ℕ) → (q ≡ p) ⊎ (q ≢ p)
same_or_not q p = step (eq_by_cmp bytes_cmp q p) refl
  where
    step : (b : Bool) → eq_by_cmp bytes_cmp q p ≡ b → (q ≡ p) ⊎ (q ≢ p)
    step true e = inl (tied_same q p e)
    step false e = inr (λ s. let on : true ≡ false = sym (same_tied q p s) ∙ e in absurd cc)

module _ (hash_of : List ℕ → ℕ) (theirs : Held) (p : List ℕ) where
  -- entries that stand there, and no children, or children and no entries
  pub data Shown (page : PageValue) : Type 0 where
    Leaf : children_of page ≡ [] → entries_of page ≡ named_entries (walk_under hash_of p theirs) → ¬ IsBranchAt hash_of theirs p
        → ((seen : DotValue → Bool) → unknown_at seen hash_of theirs p ≡ unknown_in seen (walk_under hash_of p theirs)) → Shown page
    Parts : length p < 7 → (cs : List (ℕ × List ℕ)) → page ≡ Branch cs → cs ≡ present 0 32 (λ i. digest_at hash_of theirs (p ++ i ∷ []))
        → ((seen : DotValue → Bool) → unknown_at seen hash_of theirs p ≡ []) → Shown page

  not_branch : (page : PageValue) → page_at hash_of theirs p ≡ Some page → ((cs : List (ℕ × List ℕ)) → page ≡ Branch cs → ⊥) → ¬ IsBranchAt hash_of theirs p
  not_branch page is off branch = off branch.0 (same_Some page (Branch branch.0) (sym is ∙ branch.1))

  one_is_none : (e : EntryValue) (cs : List (ℕ × List ℕ)) → OneKey e ≡ Branch cs → ⊥
  one_is_none e cs s = cc

  keys_are_none : (es : List EntryValue) (cs : List (ℕ × List ℕ)) → Keys es ≡ Branch cs → ⊥
  keys_are_none es cs s = cc

  pub shown : (page : PageValue) → page_at hash_of theirs p ≡ Some page → Shown page
  shown page is = step (paged hash_of theirs p)
    where
      leaf : (other : PageValue) → page_at hash_of theirs p ≡ Some other → children_of other ≡ []
          → entries_of other ≡ named_entries (walk_under hash_of p theirs) → ((cs : List (ℕ × List ℕ)) → other ≡ Branch cs → ⊥)
          → ((seen : DotValue → Bool) → unknown_at seen hash_of theirs p ≡ unknown_in seen (walk_under hash_of p theirs)) → Shown page
      leaf other t none es off sent =
          let same = same_Some page other (sym is ∙ t) in
          Leaf (ap children_of same ∙ none) (ap entries_of same ∙ es) (not_branch other t off) sent

      step : Paged hash_of theirs p → Shown page
      step (Past long e) = absurd (let none : None ≡ Some page = sym e ∙ is in cc)
      step (Nothing short none e) = absurd (let none : None ≡ Some page = sym e ∙ is in cc)
      step (One short e one t) = leaf (OneKey (named_entry e)) t refl (ap named_entries (sym one)) (one_is_none (named_entry e))
          (λ seen. values_of_one seen hash_of theirs p e.0 e.1 short one)
      step (Several deep many t) = leaf (Keys (named_entries (walk_under hash_of p theirs))) t refl refl
          (keys_are_none (named_entries (walk_under hash_of p theirs))) (λ seen. values_of_list seen hash_of theirs p deep many)
      step (Parted less many t) = Parts less (present 0 32 (λ i. digest_at hash_of theirs (p ++ i ∷ []))) (same_Some page _ (sym is ∙ t)) refl
          (λ seen. values_of_branch seen hash_of theirs p less many)
