-- The peer's page at a prefix that is waited for is taken: it fits, and its names are filled by the values that come with it.
use Rattle.std.proofs.Common.{◌≡◌, inl, inr, ℕ, List, [], ◌∷◌, ◌++◌, map, Bool, true, false, cond, not, Some, None, refl, sym, ◌∙◌, ap, append_assoc}
use Rattle.std.specs.Prelude.{Option, ◌&&◌, ◌||◌, is_some}
use Rattle.std.specs.Option.{option_map}
use Rattle.std.specs.List.{filter, list_all}
use Rattle.std.specs.Str.{bytes_eq}
use Rattle.std.specs.FinMap as finite
use Rattle.std.proofs.lemmas.Option.{same_Some}
use Rattle.std.proofs.lemmas.Slice.Eq.{bytes_eq-Decides}
use Rattle.std.proofs.lemmas.List.{append-nil}
use Rattle.dots.specs.Dot.{DotValue}
use Rattle.hash_path.specs.Word.{begins}
use Rattle.hash_path.specs.Map.{path, walk_under}
use Rattle.sha2.specs.Sha256.{sha256}
use Rattle.causal_join.specs.OrMap.{ValuesValue, FieldsValue}
use Rattle.wire_form.specs.Page.{EntryValue}
use Rattle.prefix_digest.specs.Page.{named_values, named_fields, named_entry, named_entries, digest_at}
use Rattle.prefix_digest.specs.Values.{unknown_in_values, unknown_in_fields, unknown_in}
use Rattle.sync_model.specs.Opened.{held_in, with_values, without_ended, open_fields}
use Rattle.sync_model.specs.Filled.{Made, made_map, checked, fill_unseen, fill_seen, fill_values, then_fields, fill_fields, then_entries, fill_entries}
use Rattle.sync_model.specs.Filled.{all_used, filled}
use Rattle.sync_model.specs.Differ.{Held}
use Rattle.sync_model.specs.Fetch.{is_own, within_values, within_fields, within}
use Rattle.sync_model.specs.Laws.{KnowsEachDot}
use Rattle.sync_model.proofs.Members.{In, In-mapped, part_found}
use Rattle.sync_model.proofs.Alike.{names_at}
use Rattle.sync_model.proofs.Filling.{open_entries}
use Rattle.sync_model.proofs.Fetched.{own_digest}

pub all_pass : {X : Type 0} (t : X → Bool) (xs : List X) → ((x : X) → In xs x → t x ≡ true) → list_all t xs ≡ true
all_pass t [] all = refl
all_pass t (x ∷ xs) all = ap (λ b. b && list_all t xs) (all x (inl refl)) ∙ all_pass t xs (λ y h. all y (inr h))

-- ---- names stand at the dots of the values

module _ (known : DotValue → Bool) where
  values_alike : (vs : ValuesValue) → within_values known (named_values vs) ≡ within_values known vs
  values_alike [] = refl
  values_alike (v ∷ vs) = ap (λ b. known v.0 && b) (values_alike vs)

  fields_alike : (fs : FieldsValue) → within_fields known (named_fields fs) ≡ within_fields known fs
  fields_alike [] = refl
  fields_alike (f ∷ fs) = (λ k. values_alike f.1 k && fields_alike fs k)

-- ---- names are filled by the values that are missing

tested : (v w : List ℕ) → v ≡ w → bytes_eq (sha256 v) (sha256 w) ≡ true
tested v w e = (bytes_eq-Decides (sha256 v) (sha256 w)).1 (ap sha256 e)

checks : (d : DotValue) (name v : List ℕ) (vs : ValuesValue) (rest : List (List ℕ)) (m : Made ValuesValue) → bytes_eq (sha256 v) name ≡ true
    → m ≡ Some (vs, rest) → checked d name v m ≡ Some ((d, v) ∷ vs, rest)
checks d name v vs rest m t e = (λ k. cond (t k) (made_map (λ vs. (d, v) ∷ vs) (e k)) None)

module _ (seen : DotValue → Bool) where
  fills_values : (held : DotValue → Option (List ℕ)) (vs : ValuesValue) (rest : List (List ℕ))
      → ((d : DotValue) (o v : List ℕ) → held d ≡ Some o → In vs (d, v) → o ≡ v)
      → fill_values seen held (named_values vs) (unknown_in_values seen vs ++ rest) ≡ Some (without_ended seen held vs, rest)
  fills_values held [] rest one = refl
  fills_values held ((d, v) ∷ vs) rest one =
      step (seen d) (held d) refl (fills_values held vs rest (λ c o w e h. one c o w e (inr h)))
    where
      step : (b : Bool) (there : Option (List ℕ)) → held d ≡ there → fill_values seen held (named_values vs) (unknown_in_values seen vs ++ rest)
          ≡ Some (without_ended seen held vs, rest)
          → cond b (fill_seen d (sha256 v) there (fill_values seen held (named_values vs))
          (map (λ v. v.1) (cond (not b) ((d, v) ∷ filter (λ v. not (seen v.0)) vs) (filter (λ v. not (seen v.0)) vs)) ++ rest))
          (fill_unseen d (sha256 v) (fill_values seen held (named_values vs))
          (map (λ v. v.1) (cond (not b) ((d, v) ∷ filter (λ v. not (seen v.0)) vs) (filter (λ v. not (seen v.0)) vs)) ++ rest))
          ≡ Some (cond (not b || is_some there) ((d, v) ∷ without_ended seen held vs) (without_ended seen held vs), rest)
      step true None e further = further
      step true (Some o) e further = let same = one d o v e (inl refl) in checks d (sha256 v) o (without_ended seen held vs) rest _ (tested o v same) further
          ∙ (λ k. Some ((d, same k) ∷ without_ended seen held vs, rest))
      step false there e further = checks d (sha256 v) v (without_ended seen held vs) rest _ (tested v v refl) further

  fills_fields : (held : List ℕ → DotValue → Option (List ℕ)) (fs : FieldsValue) (rest : List (List ℕ))
      → ((field : List ℕ) (vs : ValuesValue) → In fs (field, vs) → (d : DotValue) (o v : List ℕ) → held field d ≡ Some o → In vs (d, v) → o ≡ v)
      → fill_fields seen held (named_fields fs) (unknown_in_fields seen fs ++ rest) ≡ Some (open_fields seen held fs, rest)
  fills_fields held [] rest one = refl
  fills_fields held ((f, vs) ∷ fs) rest one =
      ap (λ l. then_fields f (fill_fields seen held (named_fields fs)) (fill_values seen (held f) (named_values vs) l))
      (append_assoc (unknown_in_values seen vs) (unknown_in_fields seen fs) rest)
      ∙ ap (then_fields f (fill_fields seen held (named_fields fs))) (fills_values (held f) vs (unknown_in_fields seen fs ++ rest) (one f vs (inl refl)))
      ∙ ap (made_map (with_values f (without_ended seen (held f) vs))) (fills_fields held fs rest (λ g ws h. one g ws (inr h)))

  fills_entries : (own : Held) (es : List (List ℕ × FieldsValue)) (rest : List (List ℕ))
      → ((key : List ℕ) (fs : FieldsValue) → In es (key, fs) → (field : List ℕ) (vs : ValuesValue) → In fs (field, vs) → (d : DotValue) (o v : List ℕ)
      → held_in (finite.get own key) field d ≡ Some o → In vs (d, v) → o ≡ v)
      → fill_entries seen own (named_entries es) (unknown_in seen es ++ rest) ≡ Some (open_entries seen own es, rest)
  fills_entries own [] rest one = refl
  fills_entries own ((k, fs) ∷ es) rest one =
      ap (λ l. then_entries k (fill_entries seen own (named_entries es)) (fill_fields seen (held_in (finite.get own k)) (named_fields fs) l))
      (append_assoc (unknown_in_fields seen fs) (unknown_in seen es) rest)
      ∙ ap (then_entries k (fill_entries seen own (named_entries es)))
      (fills_fields (held_in (finite.get own k)) fs (unknown_in seen es ++ rest) (one k fs (inl refl)))
      ∙ ap (made_map (λ xs. (k, open_fields seen (held_in (finite.get own k)) fs) ∷ xs)) (fills_entries own es rest (λ q gs h. one q gs (inr h)))

  pub fills : (own : Held) (es : List (List ℕ × FieldsValue))
      → ((key : List ℕ) (fs : FieldsValue) → In es (key, fs) → (field : List ℕ) (vs : ValuesValue) → In fs (field, vs) → (d : DotValue) (o v : List ℕ)
      → held_in (finite.get own key) field d ≡ Some o → In vs (d, v) → o ≡ v)
      → filled seen own (named_entries es) (unknown_in seen es) ≡ Some (open_entries seen own es)
  fills own es one =
      ap all_used (ap (fill_entries seen own (named_entries es)) (sym (append-nil (unknown_in seen es))) ∙ fills_entries own es [] one)

-- ---- the peer's page fits

pub and_true : (a b : Bool) → a ≡ true → b ≡ true → a && b ≡ true
and_true a b s t = (λ k. s k && t k)

module _ (hash_of : List ℕ → ℕ) (own theirs : Held) (seen opened : DotValue → Bool) (known : KnowsEachDot opened theirs) where
  -- what is kept of the own map where digests are equal is known to the opening, as the peer has it too
  pub kept_known : (key : List ℕ) (fs : FieldsValue) → finite.get own key ≡ Some fs → names_at own key ≡ names_at theirs key → within_fields opened fs ≡ true
  kept_known key fs e same = step (finite.get theirs key) refl (sym (ap (option_map named_fields) e) ∙ same)
    where
      step : (o : Option FieldsValue) → finite.get theirs key ≡ o → Some (named_fields fs) ≡ option_map named_fields o → within_fields opened fs ≡ true
      step None t s = absurd cc
      step (Some gs) t s =
          sym (fields_alike opened fs) ∙ ap (within_fields opened) (same_Some (named_fields fs) (named_fields gs) s) ∙ fields_alike opened gs ∙ known key gs t

  -- its entries
  pub entries_fit : (p : List ℕ) → list_all (λ e. begins p (path hash_of e.0)) (named_entries (walk_under hash_of p theirs))
      && within opened (named_entries (walk_under hash_of p theirs)) ≡ true
  entries_fit p =
      and_true (list_all (λ e. begins p (path hash_of e.0)) es) (within opened es)
      (all_pass (λ e. begins p (path hash_of e.0)) es (λ e h. let from = In-mapped named_entry ws e h in
      ap (λ k. begins p (path hash_of k)) (sym (ap (λ x. x.0) from.2)) ∙ (part_found hash_of theirs p from.0.0 from.0.1 from.1).1))
      (all_pass (λ e. within_fields opened e.1) es (λ e h.
      let from = In-mapped named_entry ws e h in
      ap (λ n. within_fields opened n) (sym (ap (λ x. x.1) from.2)) ∙ fields_alike opened from.0.1
      ∙ known from.0.0 from.0.1 (part_found hash_of theirs p from.0.0 from.0.1 from.1).0))
    where
      ws : List (List ℕ × FieldsValue)
      ws = walk_under hash_of p theirs

      es : List EntryValue
      es = named_entries ws

  -- its children, where each that has the own digest has the own names below it
  pub children_fit : (p : List ℕ) (cs : List (ℕ × List ℕ))
      → ((i : ℕ) (d : List ℕ) → In cs (i, d) → digest_at hash_of own (p ++ i ∷ []) ≡ Some d → (key : List ℕ) → begins (p ++ i ∷ []) (path hash_of key) ≡ true
      → names_at own key ≡ names_at theirs key)
      → list_all (λ c. not (is_own hash_of own p c) || within opened (walk_under hash_of (p ++ c.0 ∷ []) own)) cs ≡ true
  children_fit p cs same =
      all_pass (λ c. not (is_own hash_of own p c) || within opened (walk_under hash_of (p ++ c.0 ∷ []) own)) cs (λ c h. step c h (is_own hash_of own p c) refl)
    where
      step : (c : ℕ × List ℕ) → In cs c → (b : Bool) → is_own hash_of own p c ≡ b → not b || within opened (walk_under hash_of (p ++ c.0 ∷ []) own) ≡ true
      step c h false e = refl
      step c h true e =
          all_pass (λ x. within_fields opened x.1) (walk_under hash_of (p ++ c.0 ∷ []) own) (λ x g.
          let there = part_found hash_of own (p ++ c.0 ∷ []) x.0 x.1 g in
          kept_known x.0 x.1 there.0 (same c.0 c.1 h (own_digest (digest_at hash_of own (p ++ c.0 ∷ [])) c.1 e) x.0 there.1))
