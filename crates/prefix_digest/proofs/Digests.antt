-- The summary of entries by the three calls is the digest of their page.
use Rattle.std.proofs.Common.{◌≡◌, ℕ, zero, suc, List, [], ◌∷◌, Bool, true, false, cond, nat_eq, get_or, drop, map, Some, None, refl, sym, ap, ◌∙◌}
use Rattle.std.specs.declared.option.Option.{Option}
use Rattle.std.specs.Option.{option_map}
use Rattle.causal_join.specs.OrMap.{FieldsValue}
use Rattle.wire_form.specs.Page.{PageValue, Keys, Branch}
use Rattle.hash_path.specs.Word.{key_in}
use Rattle.hash_path.specs.Map.{by_key}
use Rattle.hash_path.specs.Summary.{under_index, under_prefix, one_present, present, summary_of, summary_at}
use Rattle.prefix_digest.specs.declared.sha_summary.ShaSummary.{ShaSummary}
use Rattle.prefix_digest.specs.Page.{named_fields, named_entries, page, page_under, digest_of}
use Rattle.prefix_digest.specs.Summary.{of_page, sha_calls}
use Rattle.prefix_digest.proofs.Branches.{told}

-- ---- names change no word

pub keyed_named : (height : ℕ) (es : List (List ℕ × FieldsValue)) → by_key height (named_entries es) ≡ named_entries (by_key height es)
keyed_named height [] = refl
keyed_named height (e ∷ es) = ap (λ l. (key_in height e.0, named_fields e.1) ∷ l) (keyed_named height es)

pub index_named : (i : ℕ) (es : List (List ℕ × FieldsValue)) → under_index i (named_entries es) ≡ named_entries (under_index i es)
index_named i [] = refl
index_named i (e ∷ es) = step (nat_eq i (get_or e.0 0 0)) (index_named i es)
  where
    step : (b : Bool) → under_index i (named_entries es) ≡ named_entries (under_index i es)
        → cond b ((drop 1 e.0, named_fields e.1) ∷ under_index i (named_entries es)) (under_index i (named_entries es))
        ≡ named_entries (cond b ((drop 1 e.0, e.1) ∷ under_index i es) (under_index i es))
    step true rest = ap (λ l. (drop 1 e.0, named_fields e.1) ∷ l) rest
    step false rest = rest

pub prefix_named : (p : List ℕ) (es : List (List ℕ × FieldsValue)) → under_prefix p (named_entries es) ≡ named_entries (under_prefix p es)
prefix_named [] es = refl
prefix_named (i ∷ p) es = ap (under_prefix p) (index_named i es) ∙ prefix_named p (under_index i es)

-- ---- the digest of a page

present_told : (i n : ℕ) (pages : ℕ → Option PageValue) (found : ℕ → Option ShaSummary) → ((j : ℕ) → found j ≡ option_map of_page (pages j))
    → map told (present i n found) ≡ present i n (λ j. option_map digest_of (pages j))
present_told i zero pages found h = refl
present_told i (suc n) pages found h =
    ap (λ o. map told (one_present i o (present (suc i) n found))) (h i)
    ∙ step (pages i) (present (suc i) n found) (present (suc i) n (λ j. option_map digest_of (pages j))) (present_told (suc i) n pages found h)
  where
    step : (o : Option PageValue) (rest : List (ℕ × ShaSummary)) (told_rest : List (ℕ × List ℕ)) → map told rest ≡ told_rest
        → map told (one_present i (option_map of_page o) rest) ≡ one_present i (option_map digest_of o) told_rest
    step None rest told_rest e = e
    step (Some page) rest told_rest e = ap (λ l. (i, digest_of page) ∷ l) e

is_digest : (height : ℕ) (es : List (List ℕ × FieldsValue)) → summary_of sha_calls height es ≡ option_map of_page (page height (named_entries es))
is_digest height [] = refl
is_digest height (e ∷ []) = refl
is_digest zero (e ∷ f ∷ es) = ap (λ l. Some (of_page (Keys l))) (sym (keyed_named 0 (e ∷ f ∷ es)))
is_digest (suc below) (e ∷ f ∷ es) =
    ap (λ l. Some (of_page (Branch l)))
    (present_told 0 32 (λ i. page below (under_index i (named_entries (e ∷ f ∷ es)))) (λ i. summary_of sha_calls below (under_index i (e ∷ f ∷ es)))
    (λ i. is_digest below (under_index i (e ∷ f ∷ es)) ∙ ap (λ l. option_map of_page (page below l)) (sym (index_named i (e ∷ f ∷ es)))))

is_digest_under : (prefix : List ℕ) (height : ℕ) (es : List (List ℕ × FieldsValue))
    → summary_at sha_calls prefix height es ≡ option_map of_page (page_under prefix height (named_entries es))
is_digest_under [] height es = is_digest height es
is_digest_under (i ∷ p) zero es = refl
is_digest_under (i ∷ p) (suc below) es = is_digest_under p below (under_index i es)
    ∙ ap (λ l. option_map of_page (page_under p below l)) (sym (index_named i es))

read : (o : Option PageValue) → option_map (λ (s : ShaSummary). s.digest) (option_map of_page o) ≡ option_map digest_of o
read None = refl
read (Some page) = refl

-- so the bytes of the summary are the digest
pub digest_is : (found : Option ShaSummary) (prefix : List ℕ) (height : ℕ) (es : List (List ℕ × FieldsValue)) → found ≡ summary_at sha_calls prefix height es
    → option_map (λ s. s.digest) found ≡ option_map digest_of (page_under prefix height (named_entries es))
digest_is found prefix height es e = ap (option_map (λ s. s.digest)) (e ∙ is_digest_under prefix height es) ∙ read (page_under prefix height (named_entries es))
