-- What is kept from page to page: just the prefixes are waited for where the maps differ, which were not taken and all above
-- which were; a key below one of them is built as the asker held it, and any other as it is to be.
use Rattle.std.proofs.Common.{◌≡◌, ◌≢◌, ◌⊎◌, inl, inr, ℕ, ◌<◌, ◌≤◌, List, [], ◌∷◌, ◌++◌, length, get_or, nat_eq, Bool, true, false, cond, not, Some, None}
use Rattle.std.proofs.Common.{arith, refl, sym, ◌∙◌, ap, subst, eqb-true, eq-eqb}
use Rattle.std.specs.Prelude.{Option, ◌&&◌, ◌||◌}
use Rattle.std.specs.Option.{option_map}
use Rattle.std.specs.List.{list_any}
use Rattle.std.proofs.lemmas.Option.{same_Some}
use Rattle.std.proofs.lemmas.Slice.Eq.{bytes_eq-Decides}
use Rattle.std.proofs.lemmas.List.{append-nil, length-append}
use Rattle.std.specs.FinMap as finite
use Rattle.dots.specs.Dot.{DotValue}
use Rattle.hash_path.specs.Word.{begins}
use Rattle.hash_path.specs.Map.{path, walk_under}
use Rattle.sha2.specs.Sha256.{sha256}
use Rattle.causal_join.specs.OrMap.{FieldsValue}
use Rattle.wire_form.specs.Page.{PageValue, Branch}
use Rattle.prefix_digest.specs.Page.{named_fields, named_entries, page_at, digest_of, digest_at}
use Rattle.prefix_digest.specs.Values.{unknown_in, unknown_at}
use Rattle.sync_model.specs.Opened.{held_in, open_fields, opened_at}
use Rattle.sync_model.specs.Filled.{fill_entries, all_used, filled, Made}
use Rattle.sync_model.specs.Differ.{Held, IsAbove, IsBranchAt, HasOther, Differ, Waits}
use Rattle.sync_model.specs.Fetch.{Fetch, entries_of, children_of, is_digest, is_own, to_ask, stays, put_children, put_entries}
use Rattle.sync_model.specs.Laws.{IsLawful}
use Rattle.sync_model.proofs.Prefixes.{begins_further, comparable, length-further, next_below, snoc, above_child, above_further, not_above_itself}
use Rattle.sync_model.proofs.Members.{In, In-filter, filter-In, part_has, part_found}
use Rattle.sync_model.proofs.Paged.{Paged, Past, Nothing, One, Several, Parted, paged, in_present, present_in}
use Rattle.sync_model.proofs.Alike.{none_there, same_names}
use Rattle.sync_model.proofs.Filling.{EachSent, EachField, EachEntry, EachHeld, open_entries, entries_filled}
use Rattle.sync_model.proofs.Stepping.{from_children, child_waits, not_child, no_entry, one_entry, if_stays, removed_there, removed_elsewhere}
use Rattle.sync_model.proofs.Keeping.{fields_same, own_open}
use Rattle.sync_model.proofs.Fetching.{both_true, Step, same_or_not, Shown, Leaf, Parts, shown}

-- the values of all entries of the part of a map were met
each_entry : (P : List ℕ → Type 0) (es : List (List ℕ × FieldsValue)) → ((key : List ℕ) (fs : FieldsValue) → In es (key, fs) → EachField P fs) → EachEntry P es
each_entry P [] all = tt
each_entry P (e ∷ es) all = (all e.0 e.1 (inl refl), each_entry P es (λ key fs h. all key fs (inr h)))

used_from : (m : Made (List (List ℕ × FieldsValue))) (es : List (List ℕ × FieldsValue)) → all_used m ≡ Some es → m ≡ Some (es, [])
used_from None es e = absurd cc
used_from (Some (xs, [])) es e = ap (λ l. Some (l, [])) (same_Some xs es e)
used_from (Some (xs, v ∷ sent)) es e = absurd cc

-- ---- what is open of each entry

module _ (seen : DotValue → Bool) (own : Held) where
  open_has : (es : List (List ℕ × FieldsValue)) (key : List ℕ) (fs : FieldsValue) → In es (key, fs)
      → In (open_entries seen own es) (key, open_fields seen (held_in (finite.get own key)) fs)
  open_has [] key fs h = absurd h
  open_has (e ∷ es) key fs (inl same) = inl (λ k. ((same k).0, open_fields seen (held_in (finite.get own (same k).0)) (same k).1))
  open_has (e ∷ es) key fs (inr h) = inr (open_has es key fs h)

  open_from : (es : List (List ℕ × FieldsValue)) (key : List ℕ) (gs : FieldsValue) → In (open_entries seen own es) (key, gs)
      → (fs : FieldsValue) × In es (key, fs) × (gs ≡ open_fields seen (held_in (finite.get own key)) fs)
  open_from [] key gs h = absurd h
  open_from (e ∷ es) key gs (inl same) =
      let here : e.0 ≡ key = ap (λ x. x.0) same in
      (e.1, inl (λ k. (here k, e.1)), sym (ap (λ x. x.1) same) ∙ ap (λ k. open_fields seen (held_in (finite.get own k)) e.1) here)
  open_from (e ∷ es) key gs (inr h) = let rest = open_from es key gs h in (rest.0, inr rest.1, rest.2)

-- ---- children

pub own_digest : (o : Option (List ℕ)) (d : List ℕ) → is_digest o d ≡ true → o ≡ Some d
own_digest None d e = absurd cc
own_digest (Some c) d e = ap Some ((bytes_eq-Decides c d).0 e)

pub other_digest : (o : Option (List ℕ)) (d : List ℕ) → is_digest o d ≡ false → o ≢ Some d
other_digest None d e s = absurd cc
other_digest (Some c) d e s = let on : true ≡ false = sym ((bytes_eq-Decides c d).1 (same_Some c d s)) ∙ e in absurd cc

is_other : (o : Option (List ℕ)) (d : List ℕ) → o ≢ Some d → is_digest o d ≡ false
is_other o d off = step (is_digest o d) refl
  where
    step : (b : Bool) → is_digest o d ≡ b → b ≡ false
    step true e = absurd (off (own_digest o d e))
    step false e = refl

listed : (cs : List (ℕ × List ℕ)) (i : ℕ) (d : List ℕ) → In cs (i, d) → list_any (λ c. nat_eq c.0 i) cs ≡ true
listed [] i d h = absurd h
listed (c ∷ cs) i d (inl e) = ap (λ b. b || list_any (λ c. nat_eq c.0 i) cs) (eq-eqb c.0 i (ap (λ x. x.0) e))
listed (c ∷ cs) i d (inr h) = step (nat_eq c.0 i) (listed cs i d h)
  where
    step : (b : Bool) → list_any (λ c. nat_eq c.0 i) cs ≡ true → b || list_any (λ c. nat_eq c.0 i) cs ≡ true
    step true e = refl
    step false e = e

unlisted : (cs : List (ℕ × List ℕ)) (i : ℕ) → ((d : List ℕ) → ¬ In cs (i, d)) → list_any (λ c. nat_eq c.0 i) cs ≡ false
unlisted [] i off = refl
unlisted (c ∷ cs) i off = step (nat_eq c.0 i) refl (unlisted cs i (λ d h. off d (inr h)))
  where
    step : (b : Bool) → nat_eq c.0 i ≡ b → list_any (λ c. nat_eq c.0 i) cs ≡ false → b || list_any (λ c. nat_eq c.0 i) cs ≡ false
    step true e rest = let same = eqb-true c.0 i e in absurd (off c.1 (inl (λ k. (same k, c.1))))
    step false e rest = rest

-- an index at which there is a digest is one of 32
index_there : (hash_of : List ℕ → ℕ) (m : Held) (p : List ℕ) (i : ℕ) (d : List ℕ) → length p < 7 → digest_at hash_of m (p ++ i ∷ []) ≡ Some d → i < 32
index_there hash_of m p i d less e =
    step (paged hash_of m (p ++ i ∷ []))
  where
    q : List ℕ
    q = p ++ i ∷ []

    none : page_at hash_of m q ≡ None → i < 32
    none t = absurd (let none : None ≡ Some d = ap (option_map digest_of) (sym t) ∙ e in cc)

    by_key : (key : List ℕ) (fs : FieldsValue) → In (walk_under hash_of q m) (key, fs) → i < 32
    by_key key fs h =
        let under = (part_found hash_of m q key fs h).1 in
        let split = sym (begins_further p (path hash_of key) i) ∙ under in
        let same = eqb-true i (get_or (path hash_of key) (length p) 0)
        (right (begins p (path hash_of key)) (nat_eq i (get_or (path hash_of key) (length p) 0)) split) in
        subst (λ n. n < 32) (sym same) (next_below hash_of p key less)
      where
        right : (a b : Bool) → a && b ≡ true → b ≡ true
        right true b e = e
        right false b e = absurd cc

    some_key : (es : List (List ℕ × FieldsValue)) → walk_under hash_of q m ≡ es → 2 ≤ length es → i < 32
    some_key [] s many = absurd (omega (arith, many))
    some_key (x ∷ es) s many = by_key x.0 x.1 (subst (λ l. In l x) (sym s) (inl refl))

    step : Paged hash_of m q → i < 32
    step (Past long t) = none t
    step (Nothing short s t) = none t
    step (One short x s t) = by_key x.0 x.1 (subst (λ l. In l x) (sym s) (inl refl))
    step (Several deep many t) = some_key (walk_under hash_of q m) refl many
    step (Parted l many t) = some_key (walk_under hash_of q m) refl many

-- ---- the step

module _ (hash_of : List ℕ → ℕ) (own theirs : Held) (seen opened : DotValue → Bool) where
  pub record Kept (TakenAt : List ℕ → Type 0) (f : Fetch) : Type 0 where
    pub waits : (p d : List ℕ) → finite.get f.waiting p ≡ Some d → Waits hash_of own theirs TakenAt p d
    pub waited : (p d : List ℕ) → Waits hash_of own theirs TakenAt p d → finite.get f.waiting p ≡ Some d
    pub closed : (q p : List ℕ) → TakenAt p → IsAbove q p → TakenAt q
    pub differ : (p : List ℕ) → TakenAt p → (d : List ℕ) × Differ hash_of own theirs p d
    pub own_below : (key p d : List ℕ) → finite.get f.waiting p ≡ Some d → begins p (path hash_of key) ≡ true → finite.get f.built key ≡ finite.get own key
    pub opened_else : (key : List ℕ) → ((p d : List ℕ) → finite.get f.waiting p ≡ Some d → begins p (path hash_of key) ≡ true → ⊥)
        → finite.get f.built key ≡ opened_at seen (finite.get own key) (finite.get theirs key)

  module _ (MetPage : PageValue → Type 0) (MetHere MetThere : List ℕ → Type 0)
      (own_pages : (p : List ℕ) (a : PageValue) → page_at hash_of own p ≡ Some a → MetPage a)
      (no_page_clash : (a b : PageValue) (q : List ℕ) → MetPage a → page_at hash_of theirs q ≡ Some b → digest_of a ≡ digest_of b → a ≡ b)
      (no_value_clash : (a b : List ℕ) → MetHere a → MetThere b → sha256 a ≡ sha256 b → a ≡ b)
      (own_met : EachHeld MetHere own) (theirs_met : EachHeld MetThere theirs)
      (lawful : (key : List ℕ) (fs : FieldsValue) → finite.get own key ≡ Some fs → IsLawful fs) where
    -- where digests are equal, what is to be is what the asker held
    pub same_below : (p : List ℕ) → length p ≤ 7 → digest_at hash_of own p ≡ digest_at hash_of theirs p → (key : List ℕ) → begins p (path hash_of key) ≡ true
        → opened_at seen (finite.get own key) (finite.get theirs key) ≡ finite.get own key
    same_below p short e key under =
        step (finite.get own key) (finite.get theirs key) refl refl
        (same_names hash_of own theirs (λ p q a b x y s. no_page_clash a b q (own_pages p a x) y s) p short e key under)
      where
        step : (a b : Option FieldsValue) → finite.get own key ≡ a → finite.get theirs key ≡ b → option_map named_fields a ≡ option_map named_fields b
            → opened_at seen a b ≡ a
        step None None x y s = refl
        step None (Some gs) x y s = absurd cc
        step (Some fs) None x y s = absurd cc
        step (Some fs) (Some gs) x y s =
            let same = fields_same MetHere MetThere no_value_clash fs gs (own_met key fs x) (theirs_met key gs y)
            (same_Some (named_fields fs) (named_fields gs) s) in
            ap (λ o. opened_at seen (Some fs) (Some o)) (sym same) ∙ own_open seen fs (lawful key fs x)

    -- a page of the promised digest is theirs
    page_is : (p d : List ℕ) (page : PageValue) → MetPage page → digest_at hash_of theirs p ≡ Some d → d ≡ digest_of page → page_at hash_of theirs p ≡ Some page
    page_is p d page met e right = step (page_at hash_of theirs p) refl e
      where
        step : (o : Option PageValue) → page_at hash_of theirs p ≡ o → option_map digest_of o ≡ Some d → o ≡ Some page
        step None s t = absurd cc
        step (Some b) s t = ap Some (sym (no_page_clash page b p met s (sym right ∙ sym (same_Some (digest_of b) d t))))

    -- one page taken
    module _ (TakenAt : List ℕ → Type 0) (f g : Fetch) (p : List ℕ) (page : PageValue) (sent : List (List ℕ)) (met : MetPage page)
        (sent_met : EachSent MetHere sent)
        (kept : Kept TakenAt f) (s : Step hash_of own seen opened f p page sent g) where
      here : Waits hash_of own theirs TakenAt p s.digest
      here = kept.waits p s.digest s.waited

      pub theirs_is : page_at hash_of theirs p ≡ Some page
      theirs_is = page_is p s.digest page met here.0.0.0 s.right

      what : Shown hash_of theirs p page
      what = shown hash_of theirs p page theirs_is

      -- its entries, and the values that came for them
      abbrev filled_there : List (List ℕ × FieldsValue) → Type 0
      filled_there es = (s.made ≡ open_entries seen own es) × (sent ≡ unknown_in seen es)

      leaf_filled : entries_of page ≡ named_entries (walk_under hash_of p theirs) → filled_there (walk_under hash_of p theirs)
      leaf_filled is =
          let es = walk_under hash_of p theirs in
          let whole = used_from (fill_entries seen own (named_entries es) sent) s.made (ap (λ l. filled seen own l sent) (sym is) ∙ s.fill) in
          let both = entries_filled MetHere MetThere no_value_clash seen own es sent s.made [] own_met
          (each_entry MetThere es (λ key fs h. theirs_met key fs (part_found hash_of theirs p key fs h).0)) sent_met whole in
          (both.0, both.1 ∙ append-nil (unknown_in seen es))

      none_filled : (cs : List (ℕ × List ℕ)) → page ≡ Branch cs → (s.made ≡ []) × (sent ≡ [])
      none_filled cs is =
          let whole = used_from (Some ([], sent)) s.made (ap (λ q. filled seen own (entries_of q) sent) (sym is) ∙ s.fill) in
          let both = same_Some ([], sent) (s.made, []) whole in
          (sym (ap (λ c. c.0) both), ap (λ c. c.1) both)

      pub sent_is : sent ≡ unknown_at seen hash_of theirs p
      sent_is = step what
        where
          step : Shown hash_of theirs p page → sent ≡ unknown_at seen hash_of theirs p
          step (Leaf none is off missing) = (leaf_filled is).1 ∙ sym (missing seen)
          step (Parts less cs is are missing) = (none_filled cs is).1 ∙ sym (missing seen)

      -- what is put stands under the prefix
      put_under : (key : List ℕ) (gs : FieldsValue) → In s.made (key, gs) → begins p (path hash_of key) ≡ true
      put_under key gs h = step what
        where
          step : Shown hash_of theirs p page → begins p (path hash_of key) ≡ true
          step (Leaf none is off missing) =
              let from = open_from seen own (walk_under hash_of p theirs) key gs (subst (λ l. In l (key, gs)) (leaf_filled is).0 h) in
              (part_found hash_of theirs p key from.0 from.1).1
          step (Parts less cs is are missing) = absurd (subst (λ l. In l (key, gs)) (none_filled cs is).0 h)

      -- a child has a digest of theirs, and is one of a branch
      child_from : (i : ℕ) (d : List ℕ) → In (children_of page) (i, d) → (length p < 7) × (digest_at hash_of theirs (p ++ i ∷ []) ≡ Some d)
          × IsBranchAt hash_of theirs p
      child_from i d h = step what
        where
          step : Shown hash_of theirs p page → (length p < 7) × (digest_at hash_of theirs (p ++ i ∷ []) ≡ Some d) × IsBranchAt hash_of theirs p
          step (Leaf none is off missing) = absurd (subst (λ l. In l (i, d)) none h)
          step (Parts less cs is are missing) =
              let there = subst (λ l. In l (i, d)) (ap children_of is ∙ are) h in
              (less, (in_present 0 32 (λ i. digest_at hash_of theirs (p ++ i ∷ [])) i d there).2, (cs, theirs_is ∙ ap Some is))

      child_of : (i : ℕ) (d : List ℕ) → IsBranchAt hash_of theirs p → digest_at hash_of theirs (p ++ i ∷ []) ≡ Some d → In (children_of page) (i, d)
      child_of i d branch e = step what
        where
          step : Shown hash_of theirs p page → In (children_of page) (i, d)
          step (Leaf none is off missing) = absurd (off branch)
          step (Parts less cs is are missing) =
              subst (λ l. In l (i, d)) (sym (ap children_of is ∙ are))
              (present_in 0 32 (λ i. digest_at hash_of theirs (p ++ i ∷ [])) i d (omega arith)
              (let low = index_there hash_of theirs p i d less e in omega (arith, low)) e)

      asked_from : (i : ℕ) (d : List ℕ) → In (to_ask hash_of own p (children_of page)) (i, d) → In (children_of page) (i, d)
          × (digest_at hash_of own (p ++ i ∷ []) ≢ Some d)
      asked_from i d h =
          let both = In-filter (λ c. not (is_own hash_of own p c)) (children_of page) (i, d) h in
          (both.0, other_digest (digest_at hash_of own (p ++ i ∷ [])) d (turned (is_digest (digest_at hash_of own (p ++ i ∷ [])) d) both.1))
        where
          turned : (b : Bool) → not b ≡ true → b ≡ false
          turned true e = absurd cc
          turned false e = refl

      asked_of : (i : ℕ) (d : List ℕ) → In (children_of page) (i, d) → digest_at hash_of own (p ++ i ∷ []) ≢ Some d
          → In (to_ask hash_of own p (children_of page)) (i, d)
      asked_of i d h off =
          filter-In (λ c. not (is_own hash_of own p c)) (children_of page) (i, d) h (ap not (is_other (digest_at hash_of own (p ++ i ∷ [])) d off))

      -- ---- what is waited for then

      abbrev pub TakenThen : List ℕ → Type 0
      TakenThen q = TakenAt q ⊎ (q ≡ p)

      get_waiting : (q : List ℕ) → finite.get g.waiting q ≡ finite.get (put_children p (to_ask hash_of own p (children_of page)) (finite.remove f.waiting p)) q
      get_waiting q = ap (λ w. finite.get w q) s.waiting

      -- what waited and is another prefix
      other_waited : (q d : List ℕ) → finite.get (finite.remove f.waiting p) q ≡ Some d → (q ≢ p) × (finite.get f.waiting q ≡ Some d)
      other_waited q d e = step (same_or_not q p)
        where
          step : (q ≡ p) ⊎ (q ≢ p) → (q ≢ p) × (finite.get f.waiting q ≡ Some d)
          step (inl same) = absurd (let none : None ≡ Some d = sym (ap (finite.get (finite.remove f.waiting p)) same ∙ removed_there f.waiting p) ∙ e in cc)
          step (inr off) = (off, sym (removed_elsewhere f.waiting p q off) ∙ e)

      not_taken_then : (q : List ℕ) → ¬ TakenAt q → q ≢ p → ¬ TakenThen q
      not_taken_then q a b (inl h) = a h
      not_taken_then q a b (inr h) = b h

      child_waits_there : (i : ℕ) (d : List ℕ) → In (to_ask hash_of own p (children_of page)) (i, d) → Waits hash_of own theirs TakenThen (p ++ i ∷ []) d
      child_waits_there i d h =
          let asked = asked_from i d h in
          let from = child_from i d asked.0 in (
            ((from.1, asked.1), λ q up. above q (above_further q p i up) from.2),
            not_taken_then (p ++ i ∷ []) (λ t. here.1 (kept.closed p (p ++ i ∷ []) t (above_child p i)))
                (λ e. not_above_itself p (subst (IsAbove p) e (above_child p i))),
            λ q up. taken q (above_further q p i up),
          )
        where
          above : (q : List ℕ) → (q ≡ p) ⊎ IsAbove q p → IsBranchAt hash_of theirs p → IsBranchAt hash_of theirs q
              × ((d : List ℕ) × HasOther hash_of own theirs q d)
          above q (inl same) branch = subst (λ r. IsBranchAt hash_of theirs r × ((d : List ℕ) × HasOther hash_of own theirs r d)) (sym same)
              (branch, (s.digest, here.0.0))
          above q (inr up) branch = here.0.1 q up

          taken : (q : List ℕ) → (q ≡ p) ⊎ IsAbove q p → TakenThen q
          taken q (inl same) = inr same
          taken q (inr up) = inl (here.2 q up)

      waits_then : (q d : List ℕ) → finite.get g.waiting q ≡ Some d → Waits hash_of own theirs TakenThen q d
      waits_then q d e =
          step (from_children p (to_ask hash_of own p (children_of page)) (finite.remove f.waiting p) q d (sym (get_waiting q) ∙ e))
        where
          step : ((i : ℕ) × In (to_ask hash_of own p (children_of page)) (i, d) × (q ≡ p ++ i ∷ [])) ⊎ (finite.get (finite.remove f.waiting p) q ≡ Some d)
              → Waits hash_of own theirs TakenThen q d
          step (inl h) = subst (λ r. Waits hash_of own theirs TakenThen r d) (sym h.2) (child_waits_there h.0 d h.1)
          step (inr h) =
              let old = other_waited q d h in
              let w = kept.waits q d old.1 in
              (w.0, not_taken_then q w.1 old.0, λ r up. inl (w.2 r up))

      -- what was not taken and is no child is looked up as before
      as_before : (q : List ℕ) → q ≢ p → ((i : ℕ) → q ≢ p ++ i ∷ []) → finite.get g.waiting q ≡ finite.get f.waiting q
      as_before q off none =
          get_waiting q ∙ not_child p (to_ask hash_of own p (children_of page)) (finite.remove f.waiting p) q (λ i d h. none i)
          ∙ removed_elsewhere f.waiting p q off

      waited_then : (q d : List ℕ) → Waits hash_of own theirs TakenThen q d → finite.get g.waiting q ≡ Some d
      waited_then q d w = step (snoc q)
        where
          not_p : q ≢ p
          not_p e = w.1 (inr e)

          -- where all above it were taken before
          before : ((r : List ℕ) → IsAbove r q → TakenAt r) → finite.get g.waiting q ≡ Some d
          before all =
              as_before q not_p (λ i e. here.1 (all p (subst (IsAbove p) (sym e) (above_child p i))))
              ∙ kept.waited q d (w.0, (λ t. w.1 (inl t)), all)

          child : (i : ℕ) → q ≡ p ++ i ∷ [] → finite.get g.waiting q ≡ Some d
          child i e =
              let branch = (w.0.1 p (subst (IsAbove p) (sym e) (above_child p i))).0 in
              let there = child_of i d branch (ap (digest_at hash_of theirs) (sym e) ∙ w.0.0.0) in
              let asked = asked_of i d there (λ t. w.0.0.1 (ap (digest_at hash_of own) e ∙ t)) in
              get_waiting q ∙ ap (finite.get (put_children p (to_ask hash_of own p (children_of page)) (finite.remove f.waiting p))) e
              ∙ child_waits p (λ j. digest_at hash_of theirs (p ++ j ∷ [])) (to_ask hash_of own p (children_of page)) (finite.remove f.waiting p) i d
              (λ j x h. (child_from j x (asked_from j x h).0).1) asked

          by_parent : (r : List ℕ) (i : ℕ) → q ≡ r ++ i ∷ [] → TakenAt r ⊎ (r ≡ p) → finite.get g.waiting q ≡ Some d
          by_parent r i e (inr same) = child i (e ∙ ap (λ l. l ++ i ∷ []) same)
          by_parent r i e (inl t) = before (λ u up. further u (above_further u r i (subst (IsAbove u) e up)))
            where
              further : (u : List ℕ) → (u ≡ r) ⊎ IsAbove u r → TakenAt u
              further u (inl same) = subst TakenAt (sym same) t
              further u (inr up) = kept.closed u r t up

          step : (q ≡ []) ⊎ ((r : List ℕ) × (i : ℕ) × (q ≡ r ++ i ∷ [])) → finite.get g.waiting q ≡ Some d
          step (inl none) = before (λ r up. absurd (nothing_above r up none))
            where
              nothing_above : (r : List ℕ) → IsAbove r q → q ≡ [] → ⊥
              nothing_above r up none = let long = ap length (sym up.2 ∙ none) in let more = length-append r (up.0 ∷ up.1) in omega (arith, long, more)
          step (inr (r, i, e)) = by_parent r i e (w.2 r (subst (IsAbove r) (sym e) (above_child r i)))

      closed_then : (r q : List ℕ) → TakenThen q → IsAbove r q → TakenThen r
      closed_then r q (inl t) up = inl (kept.closed r q t up)
      closed_then r q (inr same) up = inl (here.2 r (subst (IsAbove r) same up))

      differ_then : (q : List ℕ) → TakenThen q → (d : List ℕ) × Differ hash_of own theirs q d
      differ_then q (inl t) = kept.differ q t
      differ_then q (inr same) = (s.digest, subst (λ r. Differ hash_of own theirs r s.digest) (sym same) here.0)

      -- ---- what is built then

      get_built : (key : List ℕ) → finite.get g.built key ≡ finite.get (put_entries s.made (finite.retain_keys f.built (stays hash_of p page))) key
      get_built key = ap (λ m. finite.get m key) s.built

      retained : (key : List ℕ) (b : Bool) → stays hash_of p page key ≡ b → finite.get (finite.retain_keys f.built (stays hash_of p page)) key
          ≡ cond b (finite.get f.built key) None
      retained key b e = if_stays f.built (stays hash_of p page) key ∙ ap (λ b. cond b (finite.get f.built key) None) e

      -- a key elsewhere stays
      elsewhere : (key : List ℕ) → begins p (path hash_of key) ≡ false → finite.get g.built key ≡ finite.get f.built key
      elsewhere key off =
          get_built key
          ∙ no_entry s.made (finite.retain_keys f.built (stays hash_of p page)) key
          (λ gs h. let on : true ≡ false = sym (put_under key gs h) ∙ off in absurd cc)
          ∙ retained key true (ap (λ b. not b || list_any (λ c. nat_eq c.0 (get_or (path hash_of key) (length p) 0)) (children_of page)) off)

      -- a key below stays where its index goes on, and where nothing is put
      abbrev next : List ℕ → ℕ
      next key = get_or (path hash_of key) (length p) 0

      on_path : (key : List ℕ) → begins p (path hash_of key) ≡ true → begins (p ++ next key ∷ []) (path hash_of key) ≡ true
      on_path key under = begins_further p (path hash_of key) (next key) ∙ (λ t. under t && eq-eqb (next key) (next key) refl t)

      below_listed : (cs : List (ℕ × List ℕ)) → page ≡ Branch cs → (key : List ℕ) (d : List ℕ) → begins p (path hash_of key) ≡ true
          → In (children_of page) (next key, d) → finite.get g.built key ≡ finite.get f.built key
      below_listed cs is key d under h =
          get_built key
          ∙ ap (λ es. finite.get (put_entries es (finite.retain_keys f.built (stays hash_of p page))) key) (none_filled cs is).0
          ∙ retained key true ((λ t. not (under t) || list_any (λ c. nat_eq c.0 (next key)) (children_of page)) ∙ listed (children_of page) (next key) d h)

      below_unlisted : (cs : List (ℕ × List ℕ)) → page ≡ Branch cs → (key : List ℕ) → begins p (path hash_of key) ≡ true
          → ((d : List ℕ) → ¬ In (children_of page) (next key, d)) → finite.get g.built key ≡ None
      below_unlisted cs is key under off =
          get_built key
          ∙ ap (λ es. finite.get (put_entries es (finite.retain_keys f.built (stays hash_of p page))) key) (none_filled cs is).0
          ∙ retained key false ((λ t. not (under t) || list_any (λ c. nat_eq c.0 (next key)) (children_of page)) ∙ unlisted (children_of page) (next key) off)

      -- a key of a page that tells its entries
      leaf_built : children_of page ≡ [] → entries_of page ≡ named_entries (walk_under hash_of p theirs) → (key : List ℕ) → begins p (path hash_of key) ≡ true
          → finite.get g.built key ≡ opened_at seen (finite.get own key) (finite.get theirs key)
      leaf_built none is key under =
          get_built key ∙ ap (λ es. finite.get (put_entries es left) key) (leaf_filled is).0 ∙ by_theirs (finite.get theirs key) refl
        where
          ws : List (List ℕ × FieldsValue)
          ws = walk_under hash_of p theirs

          left : Held
          left = finite.retain_keys f.built (stays hash_of p page)

          gone : finite.get left key ≡ None
          gone = retained key false ((λ t. not (under t) || list_any (λ c. nat_eq c.0 (next key)) (none t)))

          each : (gs : FieldsValue) → In (open_entries seen own ws) (key, gs) → (fs : FieldsValue) × (finite.get theirs key ≡ Some fs)
              × (gs ≡ open_fields seen (held_in (finite.get own key)) fs)
          each gs h = let from = open_from seen own ws key gs h in (from.0, (part_found hash_of theirs p key from.0 from.1).0, from.2)

          by_theirs : (o : Option FieldsValue) → finite.get theirs key ≡ o → finite.get (put_entries (open_entries seen own ws) left) key
              ≡ opened_at seen (finite.get own key) o
          by_theirs None e = no_entry (open_entries seen own ws) left key (λ gs h. let from = each gs h in let some : None ≡ Some from.0 = sym e ∙ from.1 in
              absurd cc) ∙ gone
          by_theirs (Some fs) e =
              one_entry (open_entries seen own ws) left key (open_fields seen (held_in (finite.get own key)) fs)
              (λ gs h. let from = each gs h in from.2 ∙ ap (open_fields seen (held_in (finite.get own key))) (same_Some from.0 fs (sym from.1 ∙ e)))
              (open_has seen own ws key fs (part_has hash_of theirs p key fs e under)) gone

      -- two that wait on one path are one
      one_on_path : (q d key : List ℕ) → finite.get f.waiting q ≡ Some d → q ≢ p → begins q (path hash_of key) ≡ true → begins p (path hash_of key) ≡ false
      one_on_path q d key w off on = step (begins p (path hash_of key)) refl
        where
          either : (p ≡ q) ⊎ (IsAbove p q ⊎ IsAbove q p) → ⊥
          either (inl same) = off (sym same)
          either (inr (inl up)) = here.1 ((kept.waits q d w).2 p up)
          either (inr (inr up)) = (kept.waits q d w).1 (here.2 q up)

          step : (b : Bool) → begins p (path hash_of key) ≡ b → b ≡ false
          step true e = absurd (either (comparable p q (path hash_of key) e on))
          step false e = refl

      own_below_then : (key q d : List ℕ) → finite.get g.waiting q ≡ Some d → begins q (path hash_of key) ≡ true → finite.get g.built key ≡ finite.get own key
      own_below_then key q d e on =
          step (from_children p (to_ask hash_of own p (children_of page)) (finite.remove f.waiting p) q d (sym (get_waiting q) ∙ e))
        where
          child : (i : ℕ) → In (children_of page) (i, d) → begins p (path hash_of key) ≡ true → i ≡ next key → finite.get g.built key ≡ finite.get own key
          child i h under same = by_page what
            where
              by_page : Shown hash_of theirs p page → finite.get g.built key ≡ finite.get own key
              by_page (Leaf none is off missing) = absurd (subst (λ l. In l (i, d)) none h)
              by_page (Parts less cs is are missing) =
                  below_listed cs is key d under (subst (λ i. In (children_of page) (i, d)) same h) ∙ kept.own_below key p s.digest s.waited under

          split : (i : ℕ) → begins (p ++ i ∷ []) (path hash_of key) ≡ true → (begins p (path hash_of key) ≡ true) × (i ≡ next key)
          split i b =
              let both = both_true (begins p (path hash_of key)) (nat_eq i (next key)) (sym (begins_further p (path hash_of key) i) ∙ b) in
              (both.0, eqb-true i (next key) both.1)

          step : ((i : ℕ) × In (to_ask hash_of own p (children_of page)) (i, d) × (q ≡ p ++ i ∷ [])) ⊎ (finite.get (finite.remove f.waiting p) q ≡ Some d)
              → finite.get g.built key ≡ finite.get own key
          step (inl h) = let at = split h.0 (ap (λ r. begins r (path hash_of key)) (sym h.2) ∙ on) in child h.0 (asked_from h.0 d h.1).0 at.0 at.1
          step (inr h) =
              let old = other_waited q d h in
              elsewhere key (one_on_path q d key old.1 old.0 on) ∙ kept.own_below key q d old.1 on

      opened_then : (key : List ℕ) → ((q d : List ℕ) → finite.get g.waiting q ≡ Some d → begins q (path hash_of key) ≡ true → ⊥)
          → finite.get g.built key ≡ opened_at seen (finite.get own key) (finite.get theirs key)
      opened_then key nothing = step (begins p (path hash_of key)) refl
        where
          -- elsewhere what waited still waits
          still : begins p (path hash_of key) ≡ false → (q d : List ℕ) → finite.get f.waiting q ≡ Some d → begins q (path hash_of key) ≡ true → ⊥
          still off q d w on =
              nothing q d
              (as_before q (λ e. let turned : true ≡ false = sym on ∙ ap (λ r. begins r (path hash_of key)) e ∙ off in absurd cc)
              (λ i e. let turned : true ≡ false && nat_eq i (get_or (path hash_of key) (length p) 0) = sym on ∙ ap (λ r. begins r (path hash_of key)) e
              ∙ begins_further p (path hash_of key) i ∙ ap (λ b. b && nat_eq i (get_or (path hash_of key) (length p) 0)) off in absurd cc)
              ∙ w) on

          branch : (cs : List (ℕ × List ℕ)) → page ≡ Branch cs → length p < 7 → begins p (path hash_of key) ≡ true
              → finite.get g.built key ≡ opened_at seen (finite.get own key) (finite.get theirs key)
          branch cs is less under = by_digest (digest_at hash_of theirs (p ++ next key ∷ [])) refl
            where
              q : List ℕ
              q = p ++ next key ∷ []

              short : length q ≤ 7
              short = let long = length-further p (next key) in omega (arith, long, less)

              listed_same : (d : List ℕ) → digest_at hash_of theirs q ≡ Some d → In (children_of page) (next key, d)
                  → finite.get g.built key ≡ opened_at seen (finite.get own key) (finite.get theirs key)
              listed_same d e h = by_own (is_digest (digest_at hash_of own q) d) refl
                where
                  by_own : (b : Bool) → is_digest (digest_at hash_of own q) d ≡ b
                      → finite.get g.built key ≡ opened_at seen (finite.get own key) (finite.get theirs key)
                  by_own true t =
                      below_listed cs is key d under h ∙ kept.own_below key p s.digest s.waited under
                      ∙ sym (same_below q short (own_digest (digest_at hash_of own q) d t ∙ sym e) key (on_path key under))
                  by_own false t =
                      let waits = child_waits p (λ j. digest_at hash_of theirs (p ++ j ∷ [])) (to_ask hash_of own p (children_of page))
                      (finite.remove f.waiting p) (next key) d (λ j x h. (child_from j x (asked_from j x h).0).1)
                      (asked_of (next key) d h (other_digest (digest_at hash_of own q) d t)) in
                      absurd (nothing q d (get_waiting q ∙ waits) (on_path key under))

              by_digest : (o : Option (List ℕ)) → digest_at hash_of theirs q ≡ o
                  → finite.get g.built key ≡ opened_at seen (finite.get own key) (finite.get theirs key)
              by_digest (Some d) e = listed_same d e (child_of (next key) d (cs, theirs_is ∙ ap Some is) e)
              by_digest None e =
                  below_unlisted cs is key under (λ d h. let some : None ≡ Some d = sym e ∙ (child_from (next key) d h).1 in absurd cc)
                  ∙ ap (opened_at seen (finite.get own key))
                  (sym (none_there hash_of theirs q (no_digest (page_at hash_of theirs q) e) short key (on_path key under)))
                where
                  no_digest : (o : Option PageValue) → option_map digest_of o ≡ None → o ≡ None
                  no_digest None e = refl
                  no_digest (Some b) e = absurd cc

          by_page : Shown hash_of theirs p page → begins p (path hash_of key) ≡ true
              → finite.get g.built key ≡ opened_at seen (finite.get own key) (finite.get theirs key)
          by_page (Leaf none is off missing) under = leaf_built none is key under
          by_page (Parts less cs is are missing) under = branch cs is less under

          step : (b : Bool) → begins p (path hash_of key) ≡ b → finite.get g.built key ≡ opened_at seen (finite.get own key) (finite.get theirs key)
          step true under = by_page what under
          step false off = elsewhere key off ∙ kept.opened_else key (still off)

      pub kept_then : Kept TakenThen g
      kept_then = record {
        waits = waits_then;
        waited = waited_then;
        closed = closed_then;
        differ = differ_then;
        own_below = own_below_then;
        opened_else = opened_then;
      }
