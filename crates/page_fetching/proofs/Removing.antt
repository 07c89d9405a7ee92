-- Keys that go out of what is built.
use Rattle.std.proofs.Common.{◌≡◌, ℕ, ◌+◌, ◌<◌, ◌≤◌, List, [], ◌∷◌, ◌++◌, length, get_or, Bool, true, false, cond, nat_eq, nat_lt, Some, None, not, zero, suc}
use Rattle.std.proofs.Common.{◌^◌, ◌⊎◌, arith, eqb-true, eq-eqb, ltb-true, ltb-false, refl, sym, ◌∙◌, ap, subst, inl, inr}
use Rattle.std.specs.Prelude.{◌&&◌, ◌||◌, Option, is_some}
use Rattle.std.specs.List.{list_any}
use Rattle.std.specs.Cmp.Lexicographic.{nat_list_cmp_total}
use Rattle.std.specs.FinMap as finite
use Rattle.std.specs.FinMap.{same_map, get-remove, slice_cmp-IsAntisymmetric, nat_cmp-IsAntisymmetric}
use Rattle.std.specs.Ordering.{eq_by_cmp}
use Rattle.dots.specs.Bytes.{bytes_cmp}
use Rattle.causal_join.specs.OrMap.{FieldsValue}
use Rattle.hash_path.specs.Path.{last_index}
use Rattle.hash_path.specs.Word.{word, begins}
use Rattle.hash_path.specs.Map.{path, walk_under}
use Rattle.hash_path.proofs.Words.{tied_same, same_tied}
use Rattle.sync_model.specs.Differ.{Held}
use Rattle.wire_form.specs.Page.{PageValue}
use Rattle.sync_model.specs.Fetch.{children_of, stays}
use Rattle.sync_model.proofs.Stepping.{if_stays}
use Rattle.sync_model.proofs.Members.{In, part_has, part_found}
use Rattle.sync_model.proofs.Prefixes.{begins_further, next_below}
use Rattle.page_fetching.specs.Building.{remove_all, GoesWhere, next_index, is_unlisted}

pub same_held : (m n : Held) → ((q : List ℕ) → finite.get m q ≡ finite.get n q) → m ≡ n
same_held m n h = same_map nat_list_cmp_total (slice_cmp-IsAntisymmetric nat_cmp-IsAntisymmetric) m n h

gone_from : (m : Held) (k q : List ℕ) → finite.get (finite.remove m k) q ≡ cond (eq_by_cmp bytes_cmp q k) None (finite.get m q)
gone_from m k q = get-remove nat_list_cmp_total m k q

removed_none : (es : List (List ℕ × FieldsValue)) (m : Held) (q : List ℕ) → finite.get m q ≡ None → finite.get (remove_all es m) q ≡ None
removed_none [] m q none = none
removed_none (e ∷ es) m q none = removed_none es (finite.remove m e.0) q (gone_from m e.0 q ∙ step (eq_by_cmp bytes_cmp q e.0))
  where
    step : (b : Bool) → cond b None (finite.get m q) ≡ None
    step true = refl
    step false = none

removed_there : (es : List (List ℕ × FieldsValue)) (m : Held) (q : List ℕ) (fs : FieldsValue) → In es (q, fs) → finite.get (remove_all es m) q ≡ None
removed_there [] m q fs h = absurd h
removed_there (e ∷ es) m q fs (inl here) =
    removed_none es (finite.remove m e.0) q (gone_from m e.0 q ∙ ap (λ b. cond b None (finite.get m q)) (same_tied q e.0 (sym (ap (λ x. x.0) here))))
removed_there (e ∷ es) m q fs (inr there) = removed_there es (finite.remove m e.0) q fs there

removed_else : (es : List (List ℕ × FieldsValue)) (m : Held) (q : List ℕ) → ((fs : FieldsValue) → ¬ In es (q, fs))
    → finite.get (remove_all es m) q ≡ finite.get m q
removed_else [] m q off = refl
removed_else (e ∷ es) m q off = removed_else es (finite.remove m e.0) q (λ fs h. off fs (inr h)) ∙ gone_from m e.0 q ∙ step (eq_by_cmp bytes_cmp q e.0) refl
  where
    step : (b : Bool) → eq_by_cmp bytes_cmp q e.0 ≡ b → cond b None (finite.get m q) ≡ finite.get m q
    step true t = let is = tied_same q e.0 t in absurd (off e.1 (inl (λ k. (sym is k, e.1))))
    step false t = refl

-- the keys under a prefix are gone where they are removed one after the other
pub gone_under : (f : List ℕ → ℕ) (p : List ℕ) (before old : Held)
    → GoesWhere (λ key. begins p (path f key)) before old (remove_all (walk_under f p before) old)
gone_under f p before old key = step (begins p (path f key)) (finite.get before key) refl refl
  where
    es : List (List ℕ × FieldsValue)
    es = walk_under f p before

    step : (b : Bool) (o : Option FieldsValue) → begins p (path f key) ≡ b → finite.get before key ≡ o
        → finite.get (remove_all es old) key ≡ cond (b && is_some o) None (finite.get old key)
    step true (Some fs) under is = removed_there es old key fs (part_has f before p key fs is under)
    step true None under is = removed_else es old key (λ fs h. let there = (part_found f before p key fs h).0 in let no : None ≡ Some fs = sym is
        ∙ there in absurd cc)
    step false o under is = removed_else es old key (λ fs h. let there = (part_found f before p key fs h).1 in let no : false ≡ true = sym under
        ∙ there in absurd cc)

-- ---- several tests after each other

pub goes_by : (s t : List ℕ → Bool) (before old new : Held) → ((key : List ℕ) → s key ≡ t key) → GoesWhere s before old new → GoesWhere t before old new
goes_by s t before old new same h key = h key ∙ ap (λ b. cond (b && is_some (finite.get before key)) None (finite.get old key)) (same key)

pub goes_nowhere : (before old : Held) → GoesWhere (λ key. false) before old old
goes_nowhere before old key = refl

pub goes_both : (s t : List ℕ → Bool) (before old mid new : Held) → GoesWhere s before old mid → GoesWhere t before mid new
    → GoesWhere (λ key. s key || t key) before old new
goes_both s t before old mid new h g key = g key ∙ ap (λ o. cond (t key && is_some (finite.get before key)) None o) (h key)
    ∙ step (s key) (t key) (is_some (finite.get before key))
  where
    step : (a b c : Bool) → cond (b && c) None (cond (a && c) None (finite.get old key)) ≡ cond ((a || b) && c) None (finite.get old key)
    step true true true = refl
    step true true false = refl
    step true false true = refl
    step true false false = refl
    step false true true = refl
    step false true false = refl
    step false false true = refl
    step false false false = refl

-- ---- the children of a prefix

-- a test of the next index and of what is listed
abbrev pub here : (List ℕ → ℕ) → List ℕ → List (ℕ × List ℕ) → ℕ → List ℕ → Bool
here f p cs i key = nat_eq i (next_index f p key) && is_unlisted f p cs key

bounded : (hash d : ℕ) (key : List ℕ) → hash < 2 ^ 32 → d < 7 → get_or (word 7 hash key) d 0 ≤ last_index d
bounded hash zero key h less = omega arith
bounded hash (suc zero) key h less = omega arith
bounded hash (suc (suc zero)) key h less = omega arith
bounded hash (suc (suc (suc zero))) key h less = omega arith
bounded hash (suc (suc (suc (suc zero)))) key h less = omega arith
bounded hash (suc (suc (suc (suc (suc zero))))) key h less = omega arith
bounded hash (suc (suc (suc (suc (suc (suc zero)))))) key h less = omega (arith, h)
bounded hash (suc (suc (suc (suc (suc (suc (suc d))))))) key h less = absurd (omega (arith, less))

module _ (f : List ℕ → ℕ) (p : List ℕ) (cs : List (ℕ × List ℕ)) (i : ℕ) (before old new : Held) where
  -- no key has an index that no child has there
  pub past_child : ((key : List ℕ) → f key < 2 ^ 32) → length p < 7 → (length p ≡ 7) ⊎ (last_index (length p) < i) → old ≡ new
      → GoesWhere (here f p cs i) before old new
  past_child small short (inl deep) same key = absurd (omega (arith, short, deep))
  past_child small short (inr past) same key = ap (λ m. finite.get m key) (sym same) ∙ step (nat_eq i (next_index f p key)) refl
    where
      step : (b : Bool) → nat_eq i (next_index f p key) ≡ b → finite.get old key
          ≡ cond ((b && is_unlisted f p cs key) && is_some (finite.get before key)) None (finite.get old key)
      step true t = let is = eqb-true i (next_index f p key) t in let most = bounded (f key) (length p) key (small key) short in
          absurd (omega (arith, is, most, past))
      step false t = refl

  -- what is listed stays
  pub listed_child : (listed : Bool) → listed ≡ list_any (λ c. nat_eq c.0 i) cs → listed ≡ true → old ≡ new → GoesWhere (here f p cs i) before old new
  listed_child listed is on same key = ap (λ m. finite.get m key) (sym same) ∙ step (nat_eq i (next_index f p key)) refl
    where
      step : (b : Bool) → nat_eq i (next_index f p key) ≡ b → finite.get old key
          ≡ cond ((b && is_unlisted f p cs key) && is_some (finite.get before key)) None (finite.get old key)
      step true t = let there : list_any (λ c. nat_eq c.0 (next_index f p key)) cs ≡ true =
          ap (λ j. list_any (λ c. nat_eq c.0 j) cs) (sym (eqb-true i (next_index f p key) t)) ∙ sym is ∙ on in
          inside (begins p (path f key)) (list_any (λ c. nat_eq c.0 (next_index f p key)) cs) there
        where
          inside : (a b : Bool) → b ≡ true → finite.get old key ≡ cond ((true && (a && not b)) && is_some (finite.get before key)) None (finite.get old key)
          inside true true e = refl
          inside false true e = refl
          inside a false e = absurd cc
      step false t = refl

  -- and what is not goes
  pub gone_child : (listed : Bool) → listed ≡ list_any (λ c. nat_eq c.0 i) cs → listed ≡ false
      → GoesWhere (λ key. begins (p ++ i ∷ []) (path f key)) before old new → GoesWhere (here f p cs i) before old new
  gone_child listed is off h = goes_by (λ key. begins (p ++ i ∷ []) (path f key)) (here f p cs i) before old new
      (λ key. begins_further p (path f key) i ∙ same key (nat_eq i (next_index f p key)) refl) h
    where
      same : (key : List ℕ) (b : Bool) → nat_eq i (next_index f p key) ≡ b → begins p (path f key) && b ≡ b && is_unlisted f p cs key
      same key true t = inside (begins p (path f key)) (list_any (λ c. nat_eq c.0 (next_index f p key)) cs)
          (ap (λ j. list_any (λ c. nat_eq c.0 j) cs) (sym (eqb-true i (next_index f p key) t)) ∙ sym is ∙ off)
        where
          inside : (a b : Bool) → b ≡ false → a && true ≡ true && (a && not b)
          inside true false e = refl
          inside false false e = refl
          inside a true e = absurd cc
      same key false t = inside (begins p (path f key))
        where
          inside : (a : Bool) → a && false ≡ false
          inside true = refl
          inside false = refl

-- the children up to an index
abbrev pub up_to : (List ℕ → ℕ) → List ℕ → List (ℕ × List ℕ) → ℕ → List ℕ → Bool
up_to f p cs i key = nat_lt (next_index f p key) i && is_unlisted f p cs key

module _ (f : List ℕ → ℕ) (p : List ℕ) (cs : List (ℕ × List ℕ)) (before old : Held) where
  pub none_yet : GoesWhere (up_to f p cs 0) before old old
  none_yet = goes_by (λ key. false) (up_to f p cs 0) before old old
      (λ key. none (next_index f p key) (is_unlisted f p cs key) (nat_lt (next_index f p key) 0) refl) (goes_nowhere before old)
    where
      none : (n : ℕ) (u b : Bool) → nat_lt n 0 ≡ b → false ≡ b && u
      none n u false t = refl
      none n u true t = let less = ltb-true n 0 t in absurd (omega (arith, less))

  pub one_further : (i : ℕ) (mid new : Held) → GoesWhere (up_to f p cs i) before old mid → GoesWhere (here f p cs i) before mid new
      → GoesWhere (up_to f p cs (i + 1)) before old new
  one_further i mid new h g = goes_by (λ key. up_to f p cs i key || here f p cs i key) (up_to f p cs (i + 1)) before old new
      (λ key. tests (next_index f p key) (is_unlisted f p cs key) (nat_lt (next_index f p key) i) (nat_eq i (next_index f p key))
      (nat_lt (next_index f p key) (i + 1)) refl refl refl)
      (goes_both (up_to f p cs i) (here f p cs i) before old mid new h g)
    where
      tests : (n : ℕ) (u a b c : Bool) → nat_lt n i ≡ a → nat_eq i n ≡ b → nat_lt n (i + 1) ≡ c → (a && u) || (b && u) ≡ c && u
      tests n u true true c x y z = let less = ltb-true n i x in let is = eqb-true i n y in absurd (omega (arith, less, is))
      tests n true true false true x y z = refl
      tests n false true false true x y z = refl
      tests n u true false false x y z = let less = ltb-true n i x in let past = ltb-false n (i + 1) z in absurd (omega (arith, less, past))
      tests n u false true true x y z = refl
      tests n u false true false x y z = let is = eqb-true i n y in let past = ltb-false n (i + 1) z in absurd (omega (arith, is, past))
      tests n u false false true x y z =
          let past = ltb-false n i x in let less = ltb-true n (i + 1) z in
          let same : i ≡ n = omega (arith, past, less) in
          let on : false ≡ true = sym y ∙ eq-eqb i n same in absurd cc
      tests n u false false false x y z = refl

  pub all_children : (i : ℕ) (new : Held) → length p < 7 → 32 ≤ i → GoesWhere (up_to f p cs i) before old new → GoesWhere (is_unlisted f p cs) before old new
  all_children i new short past h = goes_by (up_to f p cs i) (is_unlisted f p cs) before old new
      (λ key. all (next_index f p key) (is_unlisted f p cs key) (nat_lt (next_index f p key) i) refl (next_below f p key short)) h
    where
      all : (n : ℕ) (u b : Bool) → nat_lt n i ≡ b → n < 32 → b && u ≡ u
      all n u true t less = refl
      all n u false t less = let more = ltb-false n i t in absurd (omega (arith, more, less, past))

-- ---- a page

module _ (f : List ℕ → ℕ) (p : List ℕ) (page : PageValue) (before new : Held) where
  stay : (goes : List ℕ → Bool) → ((key : List ℕ) → not (goes key) ≡ stays f p page key) → GoesWhere goes before before new
      → new ≡ finite.retain_keys before (stays f p page)
  stay goes same h = same_held new (finite.retain_keys before (stays f p page))
      (λ key. h key ∙ step (goes key) (finite.get before key) ∙ ap (λ b. cond b (finite.get before key) None) (same key)
      ∙ sym (if_stays before (stays f p page) key))
    where
      step : (b : Bool) (o : Option FieldsValue) → cond (b && is_some o) None o ≡ cond (not b) o None
      step true None = refl
      step true (Some fs) = refl
      step false o = refl

  pub no_child_stays : children_of page ≡ [] → GoesWhere (λ key. begins p (path f key)) before before new → new ≡ finite.retain_keys before (stays f p page)
  no_child_stays none h = stay (λ key. begins p (path f key))
      (λ key. step (begins p (path f key)) (list_any (λ c. nat_eq c.0 (next_index f p key)) (children_of page))
      (ap (list_any (λ c. nat_eq c.0 (next_index f p key))) none)) h
    where
      step : (a b : Bool) → b ≡ false → not a ≡ not a || b
      step true false e = refl
      step false false e = refl
      step a true e = absurd cc

  pub listed_stays : (cs : List (ℕ × List ℕ)) → children_of page ≡ cs → GoesWhere (is_unlisted f p cs) before before new
      → new ≡ finite.retain_keys before (stays f p page)
  listed_stays cs is h = stay (is_unlisted f p cs) (λ key. step (begins p (path f key)) (list_any (λ c. nat_eq c.0 (next_index f p key)) cs)
      ∙ ap (λ ds. not (begins p (path f key)) || list_any (λ c. nat_eq c.0 (next_index f p key)) ds) (sym is)) h
    where
      step : (a b : Bool) → not (a && not b) ≡ not a || b
      step true true = refl
      step true false = refl
      step false b = refl

-- the same with the parts as they are read
pub no_child_clears : (f : List ℕ → ℕ) (q p : List ℕ) (page : PageValue) (before old new : Held) → q ≡ p → old ≡ before → children_of page ≡ []
    → GoesWhere (λ key. begins q (path f key)) before old new → new ≡ finite.retain_keys old (stays f p page)
no_child_clears f q p page before old new is same none h =
    no_child_stays f p page before new none (subst (λ m. GoesWhere (λ key. begins p (path f key)) before m new) same
    (subst (λ r. GoesWhere (λ key. begins r (path f key)) before old new) is h))
    ∙ ap (λ m. finite.retain_keys m (stays f p page)) (sym same)

pub listed_clears : (f : List ℕ → ℕ) (q p : List ℕ) (page : PageValue) (before old new : Held) (cs : List (ℕ × List ℕ)) → q ≡ p → old ≡ before
    → children_of page ≡ cs
    → GoesWhere (is_unlisted f q cs) before old new → new ≡ finite.retain_keys old (stays f p page)
listed_clears f q p page before old new cs is same listed h =
    listed_stays f p page before new cs listed (subst (λ m. GoesWhere (is_unlisted f p cs) before m new) same
    (subst (λ r. GoesWhere (is_unlisted f r cs) before old new) is h))
    ∙ ap (λ m. finite.retain_keys m (stays f p page)) (sym same)

pub gone_at : (f : List ℕ → ℕ) (q p : List ℕ) (j i : ℕ) (cs : List (ℕ × List ℕ)) (before old new : Held) (listed : Bool) → q ≡ p ++ j ∷ [] → j ≡ i
    → listed ≡ list_any (λ c. nat_eq c.0 i) cs → listed ≡ false
    → GoesWhere (λ key. begins q (path f key)) before old new → GoesWhere (here f p cs i) before old new
gone_at f q p j i cs before old new listed child same is off h =
    gone_child f p cs i before old new listed is off (subst (λ r. GoesWhere (λ key. begins r (path f key)) before old new)
    (child ∙ ap (λ k. p ++ k ∷ []) same) h)
