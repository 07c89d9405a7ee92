-- The law of fetching: from the opening on, and over all pages taken.
use Rattle.std.proofs.Common.{◌≡◌, ◌≢◌, ◌⊎◌, inl, inr, ℕ, zero, suc, ◌<◌, List, [], ◌∷◌, ◌++◌, length, Bool, true, false, cond, Some, None, arith, refl, sym}
use Rattle.std.proofs.Common.{◌∙◌, ap, subst}
use Rattle.std.specs.Prelude.{Option}
use Rattle.std.specs.Option.{option_map}
use Rattle.std.specs.List.{Contains}
use Rattle.std.specs.Ordering.{eq_by_cmp}
use Rattle.std.specs.Cmp.Lexicographic.{nat_list_cmp_total}
use Rattle.std.specs.FinMap as finite
use Rattle.std.specs.FinMap.{get-insert, get-empty}
use Rattle.std.proofs.lemmas.List.{length-append}
use Rattle.std.proofs.lemmas.Option.{same_Some}
use Rattle.dots.specs.Bytes.{bytes_cmp}
use Rattle.dots.specs.Dot.{DotValue}
use Rattle.hash_path.specs.Path.{prefix_cmp}
use Rattle.hash_path.specs.Map.{walk_under}
use Rattle.hash_path.proofs.Words.{tied_same}
use Rattle.causal_join.specs.OrMap.{ValuesValue, FieldsValue}
use Rattle.wire_form.specs.Page.{PageValue}
use Rattle.prefix_digest.specs.Page.{page_at, digest_of, digest_at}
use Rattle.prefix_digest.specs.Values.{unknown_at}
use Rattle.sync_model.specs.Opened.{opened_at}
use Rattle.sync_model.specs.Differ.{Held, IsAbove, Differ, Waits}
use Rattle.sync_model.specs.Fetch.{Fetch, Mismatch, Took, is_digest, within, take_opening}
use Rattle.sync_model.specs.Laws.{IsLawfulMap, Taking, TakenAt, Fetched, HoldsValue, MetPage, MetValue, NoClash, Fetching}
use Rattle.sync_model.proofs.Prefixes.{above_all}
use Rattle.sync_model.proofs.Members.{In, Contains-In, In-Contains}
use Rattle.sync_model.proofs.Alike.{none_there}
use Rattle.sync_model.proofs.Filling.{EachSent, EachValue, EachField, EachHeld}
use Rattle.sync_model.proofs.Fetching.{same_fetch, refused, stepped, same_or_not}
use Rattle.sync_model.proofs.Fetched.{own_digest, other_digest, Kept, same_below, theirs_is, sent_is, kept_then}

nothing_above : (q : List ℕ) → IsAbove q [] → ⊥
nothing_above q up = let long = ap length up.2 in let more = length-append q (up.0 ∷ up.1) in omega (arith, long, more)

-- ---- what was met, each by each

module _ (P : List ℕ → Type 0) where
  each_value : (vs : ValuesValue) → ((d : DotValue) (v : List ℕ) → Contains vs (d, v) → P v) → EachValue P vs
  each_value [] all = tt
  each_value (x ∷ vs) all = (
    all x.0 x.1 (Contains-In (x ∷ vs) x (inl refl)),
    each_value vs (λ d v h. all d v (Contains-In (x ∷ vs) (d, v) (inr (In-Contains vs (d, v) h)))),
  )

  each_field : (fs : FieldsValue) → ((field : List ℕ) (vs : ValuesValue) → Contains fs (field, vs) → EachValue P vs) → EachField P fs
  each_field [] all = tt
  each_field (x ∷ fs) all = (
    all x.0 x.1 (Contains-In (x ∷ fs) x (inl refl)),
    each_field fs (λ f vs h. all f vs (Contains-In (x ∷ fs) (f, vs) (inr (In-Contains fs (f, vs) h)))),
  )

  each_sent : (vs : List (List ℕ)) → ((v : List ℕ) → Contains vs v → P v) → EachSent P vs
  each_sent [] all = tt
  each_sent (x ∷ vs) all = (all x (Contains-In (x ∷ vs) x (inl refl)), each_sent vs (λ v h. all v (Contains-In (x ∷ vs) v (inr (In-Contains vs v h)))))

each_held : (P : List ℕ → Type 0) (m : Held) → ((v : List ℕ) → HoldsValue m v → P v) → EachHeld P m
each_held P m all key fs e = each_field P fs (λ field vs h. each_value P vs (λ d v g. all v (key, fs, e, (field, vs, h, (d, g)))))

module _ (hash_of : List ℕ → ℕ) (own theirs : Held) (seen opened : DotValue → Bool) (lawful : IsLawfulMap own) where
  abbrev None_taken : List ℕ → Type 0
  None_taken p = ⊥

  -- ---- the opening

  module _ (ts : List Taking) (no_clash : NoClash hash_of own theirs ts) where
    pub own_page : (p : List ℕ) (a : PageValue) → page_at hash_of own p ≡ Some a → MetPage hash_of own theirs ts a
    own_page p a e = inl (inl (p, e))

    pub page_clash : (a b : PageValue) (q : List ℕ) → MetPage hash_of own theirs ts a → page_at hash_of theirs q ≡ Some b → digest_of a ≡ digest_of b → a ≡ b
    page_clash a b q met e d = no_clash.pages a b met (inl (inr (q, e))) d

    own_values : EachHeld (MetValue hash_of own theirs ts) own
    own_values = each_held (MetValue hash_of own theirs ts) own (λ v h. inl (inl h))

    their_values : EachHeld (MetValue hash_of own theirs ts) theirs
    their_values = each_held (MetValue hash_of own theirs ts) theirs (λ v h. inl (inr h))

    -- where all is the same at the root, the maps differ nowhere
    same_root : digest_at hash_of own [] ≡ digest_at hash_of theirs [] → (p d : List ℕ) → Differ hash_of own theirs p d → ⊥
    same_root e [] d differ = differ.0.1 (e ∙ differ.0.0)
    same_root e (i ∷ p) d differ = let root = (differ.1 [] (i, p, refl)).1 in root.1.1 (e ∙ root.1.0)

    no_root : digest_at hash_of theirs [] ≡ None → (p d : List ℕ) → Differ hash_of own theirs p d → ⊥
    no_root e [] d differ = absurd (let some : None ≡ Some d = sym e ∙ differ.0.0 in cc)
    no_root e (i ∷ p) d differ = let root = (differ.1 [] (i, p, refl)).1 in absurd (let some : None ≡ Some root.0 = sym e ∙ root.1.0 in cc)

    -- an asker that waits for nothing, where the maps differ nowhere
    at_once : (f : Fetch) → f.waiting ≡ finite.empty → ((p d : List ℕ) → Differ hash_of own theirs p d → ⊥)
        → ((key : List ℕ) → finite.get f.built key ≡ opened_at seen (finite.get own key) (finite.get theirs key))
        → Kept hash_of own theirs seen opened None_taken f
    at_once f none same built = record {
      waits = λ p d e. absurd (nothing p d e);
      waited = λ p d w. absurd (same p d w.0);
      closed = λ q p t. absurd t;
      differ = λ p t. absurd t;
      own_below = λ key p d e. absurd (nothing p d e);
      opened_else = λ key h. built key;
    }
      where
        nothing : (p d : List ℕ) → finite.get f.waiting p ≡ Some d → ⊥
        nothing p d e = absurd (let some : None ≡ Some d = sym (ap (λ w. finite.get w p) none ∙ get-empty prefix_cmp p) ∙ e in cc)

    no_digest : (o : Option PageValue) → option_map digest_of o ≡ None → o ≡ None
    no_digest None e = refl
    no_digest (Some b) e = absurd cc

    kept_opening : (f : Fetch) → take_opening hash_of own seen opened (digest_at hash_of theirs []) ≡ Took f → Kept hash_of own theirs seen opened None_taken f
    kept_opening f e = by_root (digest_at hash_of theirs []) refl e
      where
        empty : (g : Fetch) → g.waiting ≡ finite.empty → g.built ≡ finite.empty → Took g ≡ Took f → digest_at hash_of theirs [] ≡ None
            → Kept hash_of own theirs seen opened None_taken f
        empty g w b t none =
            let same = same_fetch g f t in
            at_once f (sym (ap (λ (f : Fetch). f.waiting) same) ∙ w) (no_root none)
            (λ key. ap (λ m. finite.get m key) (sym (ap (λ (f : Fetch). f.built) same) ∙ b) ∙ get-empty bytes_cmp key
            ∙ ap (opened_at seen (finite.get own key)) (sym (none_there hash_of theirs [] (no_digest (page_at hash_of theirs []) none) (omega arith) key refl)))

        own_kept : (g : Fetch) (d : List ℕ) → g.waiting ≡ finite.empty → g.built ≡ own → Took g ≡ Took f → digest_at hash_of theirs [] ≡ Some d
            → digest_at hash_of own [] ≡ Some d → Kept hash_of own theirs seen opened None_taken f
        own_kept g d w b t there here =
            let same = same_fetch g f t in
            at_once f (sym (ap (λ (f : Fetch). f.waiting) same) ∙ w) (same_root (here ∙ sym there))
            (λ key. ap (λ m. finite.get m key) (sym (ap (λ (f : Fetch). f.built) same) ∙ b)
            ∙ sym (same_below hash_of own theirs seen opened (MetPage hash_of own theirs ts) (MetValue hash_of own theirs ts) (MetValue hash_of own theirs ts)
            own_page page_clash no_clash.values own_values their_values lawful
            [] (omega arith) (here ∙ sym there) key refl))

        asked : (g : Fetch) (d : List ℕ) → g.waiting ≡ finite.insert finite.empty [] d → g.built ≡ own → Took g ≡ Took f → digest_at hash_of theirs [] ≡ Some d
            → digest_at hash_of own [] ≢ Some d → Kept hash_of own theirs seen opened None_taken f
        asked g d w b t there off = record {
          waits = λ p c e. waits p c (at p c e);
          waited = λ p c w. waited p c w;
          closed = λ q p t. absurd t;
          differ = λ p t. absurd t;
          own_below = λ key p c e on. built key;
          opened_else = λ key h. absurd (h [] d (looked []) refl);
        }
          where
            same : g ≡ f
            same = same_fetch g f t

            built : (key : List ℕ) → finite.get f.built key ≡ finite.get own key
            built key = ap (λ m. finite.get m key) (sym (ap (λ (f : Fetch). f.built) same) ∙ b)

            looked_at : (p : List ℕ) → finite.get f.waiting p ≡ cond (eq_by_cmp prefix_cmp p []) (Some d) None
            looked_at p =
                ap (λ w. finite.get w p) (sym (ap (λ (f : Fetch). f.waiting) same) ∙ w) ∙ get-insert nat_list_cmp_total finite.empty [] d p
                ∙ ap (cond (eq_by_cmp prefix_cmp p []) (Some d)) (get-empty prefix_cmp p)

            looked : (p : List ℕ) → finite.get f.waiting [] ≡ Some d
            looked p = looked_at []

            at : (p c : List ℕ) → finite.get f.waiting p ≡ Some c → (p ≡ []) × (d ≡ c)
            at p c e = step (eq_by_cmp prefix_cmp p []) refl (sym (looked_at p) ∙ e)
              where
                step : (b : Bool) → eq_by_cmp prefix_cmp p [] ≡ b → cond b (Some d) None ≡ Some c → (p ≡ []) × (d ≡ c)
                step true s t = (tied_same p [] s, same_Some d c t)
                step false s t = absurd cc

            root_waits : Waits hash_of own theirs None_taken [] d
            root_waits = (((there, off), λ q up. absurd (nothing_above q up)), (λ t. t), λ q up. absurd (nothing_above q up))

            waits : (p c : List ℕ) → (p ≡ []) × (d ≡ c) → Waits hash_of own theirs None_taken p c
            waits p c h = subst (λ q. Waits hash_of own theirs None_taken q c) (sym h.0) (subst (Waits hash_of own theirs None_taken []) h.1 root_waits)

            waited : (p c : List ℕ) → Waits hash_of own theirs None_taken p c → finite.get f.waiting p ≡ Some c
            waited [] c w = looked [] ∙ sym there ∙ w.0.0.0
            waited (i ∷ p) c w = absurd (w.2 [] (i, p, refl))

        by_own : (d : List ℕ) → digest_at hash_of theirs [] ≡ Some d → (b c : Bool) → is_digest (digest_at hash_of own []) d ≡ b
            → cond b (cond c (Took (record { waiting = finite.empty; built = own })) Mismatch)
            (Took (record { waiting = finite.insert finite.empty [] d; built = own })) ≡ Took f
            → Kept hash_of own theirs seen opened None_taken f
        by_own d there true true s t = own_kept (record { waiting = finite.empty; built = own }) d refl refl t there (own_digest (digest_at hash_of own []) d s)
        by_own d there true false s t = absurd (refused f t)
        by_own d there false c s t = asked (record { waiting = finite.insert finite.empty [] d; built = own }) d refl refl t there
            (other_digest (digest_at hash_of own []) d s)

        by_root : (o : Option (List ℕ)) → digest_at hash_of theirs [] ≡ o → take_opening hash_of own seen opened o ≡ Took f
            → Kept hash_of own theirs seen opened None_taken f
        by_root None s t = empty (record { waiting = finite.empty; built = finite.empty }) refl refl t s
        by_root (Some d) s t = by_own d s (is_digest (digest_at hash_of own []) d) (within opened (walk_under hash_of [] own)) refl t

    -- ---- and each page

    abbrev pub Among : List Taking → Type 0
    Among older = (t : Taking) → In older t → Contains ts t

    met_page : (t : Taking) → Contains ts t → MetPage hash_of own theirs ts t.page
    met_page t h = inr (t, h, refl)

    met_sent : (t : Taking) → Contains ts t → EachSent (MetValue hash_of own theirs ts) t.sent
    met_sent t h = each_sent (MetValue hash_of own theirs ts) t.sent (λ v g. inr (t, h, g))

    pub kept_pages : (older : List Taking) (f : Fetch) → Among older → Fetched hash_of own seen opened (digest_at hash_of theirs []) older f
        → Kept hash_of own theirs seen opened (TakenAt older) f
    kept_pages [] f among e = kept_opening f e
    kept_pages (t ∷ older) f among (g, before, e) =
        kept_then hash_of own theirs seen opened (MetPage hash_of own theirs ts) (MetValue hash_of own theirs ts) (MetValue hash_of own theirs ts)
        own_page page_clash no_clash.values own_values their_values lawful
        (TakenAt older) g f t.prefix t.page t.sent (met_page t (among t (inl refl))) (met_sent t (among t (inl refl)))
        (kept_pages older g (λ u h. among u (inr h)) before) (stepped hash_of own seen opened g f t.prefix t.page t.sent e)

    abbrev IsTheirs : Taking → Type 0
    IsTheirs t = (page_at hash_of theirs t.prefix ≡ Some t.page) × (t.sent ≡ unknown_at seen hash_of theirs t.prefix)

    each_theirs : (older : List Taking) (f : Fetch) → Among older → Fetched hash_of own seen opened (digest_at hash_of theirs []) older f → (t : Taking)
        → In older t → IsTheirs t
    each_theirs [] f among e t h = absurd h
    each_theirs (u ∷ older) f among (g, before, e) t (inl same) =
        subst IsTheirs same (
          theirs_is hash_of own theirs seen opened (MetPage hash_of own theirs ts) (MetValue hash_of own theirs ts) (MetValue hash_of own theirs ts)
              own_page page_clash no_clash.values own_values their_values lawful
              (TakenAt older) g f u.prefix u.page u.sent (met_page u (among u (inl refl))) (met_sent u (among u (inl refl)))
              (kept_pages older g (λ v h. among v (inr h)) before) (stepped hash_of own seen opened g f u.prefix u.page u.sent e),
          sent_is hash_of own theirs seen opened (MetPage hash_of own theirs ts) (MetValue hash_of own theirs ts) (MetValue hash_of own theirs ts)
              own_page page_clash no_clash.values own_values their_values lawful
              (TakenAt older) g f u.prefix u.page u.sent (met_page u (among u (inl refl))) (met_sent u (among u (inl refl)))
              (kept_pages older g (λ v h. among v (inr h)) before) (stepped hash_of own seen opened g f u.prefix u.page u.sent e),
        )
    each_theirs (u ∷ older) f among (g, before, e) t (inr h) = each_theirs older g (λ v h. among v (inr h)) before t h

    -- none is taken twice
    taken_once : (newer older : List Taking) (f : Fetch) (t : Taking) → Among (newer ++ t ∷ older)
        → Fetched hash_of own seen opened (digest_at hash_of theirs []) (newer ++ t ∷ older) f → ¬ TakenAt older t.prefix
    taken_once [] older f t among (g, before, e) =
        let step = stepped hash_of own seen opened g f t.prefix t.page t.sent e in
        ((kept_pages older g (λ v h. among v (inr h)) before).waits t.prefix step.digest step.waited).1
    taken_once (u ∷ newer) older f t among (g, before, e) = taken_once newer older g t (λ v h. among v (inr h)) before

    -- ---- once nothing is waited for

    taken_or_not : (older : List Taking) (p : List ℕ) → TakenAt older p ⊎ (¬ TakenAt older p)
    taken_or_not [] p = inr (λ t. t)
    taken_or_not (t ∷ older) p = step (taken_or_not older p) (same_or_not p t.prefix)
      where
        step : TakenAt older p ⊎ (¬ TakenAt older p) → (p ≡ t.prefix) ⊎ (p ≢ t.prefix) → TakenAt (t ∷ older) p ⊎ (¬ TakenAt (t ∷ older) p)
        step (inl h) s = inl (inl h)
        step (inr off) (inl s) = inl (inr s)
        step (inr off) (inr far) = inr (neither off far)
          where
            neither : ¬ TakenAt older p → p ≢ t.prefix → TakenAt older p ⊎ (p ≡ t.prefix) → ⊥
            neither a b (inl h) = a h
            neither a b (inr h) = b h

    all_taken : (f : Fetch) → Kept hash_of own theirs seen opened (TakenAt ts) f → ((p : List ℕ) → finite.get f.waiting p ≡ None) → (n : ℕ) (p : List ℕ)
        → length p < n → (d : List ℕ) → Differ hash_of own theirs p d → TakenAt ts p
    all_taken f kept none zero p less d differ = absurd (omega (arith, less))
    all_taken f kept none (suc n) p less d differ =
        step (taken_or_not ts p) (λ q up. all_taken f kept none n q (shorter q up) ((differ.1 q up).1).0 (above q up))
      where
        shorter : (q : List ℕ) → IsAbove q p → length q < n
        shorter q up = let long = ap length up.2 in let more = length-append q (up.0 ∷ up.1) in omega (arith, long, more, less)

        above : (q : List ℕ) (up : IsAbove q p) → Differ hash_of own theirs q ((differ.1 q up).1).0
        above q up = (((differ.1 q up).1).1, λ r higher. differ.1 r (above_all r q p higher up))

        step : TakenAt ts p ⊎ (¬ TakenAt ts p) → ((q : List ℕ) → IsAbove q p → TakenAt ts q) → TakenAt ts p
        step (inl h) all = h
        step (inr off) all = absurd (let some : None ≡ Some d = sym (none p) ∙ kept.waited p d (differ, off, all) in cc)

pub fetching : (hash_of : List ℕ → ℕ) (own theirs : Held) (seen opened : DotValue → Bool) → Fetching hash_of own theirs seen opened
fetching hash_of own theirs seen opened ts f lawful no_clash e =
    let kept = kept_pages hash_of own theirs seen opened lawful ts no_clash ts f (λ t h. Contains-In ts t h) e in
    record {
      theirs_taken = λ t h. each_theirs hash_of own theirs seen opened lawful ts no_clash ts f (λ t h. Contains-In ts t h) e t (In-Contains ts t h);
      waits = λ p d. (kept.waits p d, kept.waited p d);
      once = λ t older newer is. taken_once hash_of own theirs seen opened lawful ts no_clash newer older f t
          (λ u h. Contains-In ts u (subst (λ l. In l u) (sym is) h)) (subst (λ l. Fetched hash_of own seen opened (digest_at hash_of theirs []) l f) is e);
      done = λ none. (
        (λ key. kept.opened_else key (λ p d w on. let some : None ≡ Some d = sym (none p) ∙ w in absurd cc)),
        (λ p d differ. all_taken hash_of own theirs seen opened lawful ts no_clash f kept none (suc (length p)) p (omega arith) d differ),
        kept.differ,
      );
    }
