-- What a session has built, whatever it was sent: it is known to the opening, but for what stands under a prefix that is waited for still; and what is so of
-- each name that its pages told is so of each value that it made of them.
use Rattle.std.proofs.Common.{◌≡◌, ◌≢◌, ◌⊎◌, inl, inr, ℕ, List, [], ◌∷◌, ◌++◌, length, get_or, nat_eq, Bool, true, false, cond, not, Some, None, refl, sym, ◌∙◌}
use Rattle.std.proofs.Common.{ap, subst, eqb-true, eq-eqb}
use Rattle.std.specs.Prelude.{Option, IsSome, is_some, ◌&&◌, ◌||◌}
use Rattle.std.specs.List.{list_all, list_any}
use Rattle.std.specs.Ordering.{eq_by_cmp}
use Rattle.std.specs.Str.{bytes_eq}
use Rattle.std.specs.Cmp.Lexicographic.{nat_list_cmp_total}
use Rattle.std.specs.FinMap as finite
use Rattle.std.specs.FinMap.{get-insert, get-empty}
use Rattle.std.proofs.lemmas.Option.{same_Some}
use Rattle.std.proofs.lemmas.Slice.Eq.{bytes_eq-Decides}
use Rattle.dots.specs.Bytes.{bytes_cmp}
use Rattle.dots.specs.Dot.{DotValue}
use Rattle.hash_path.specs.Word.{begins}
use Rattle.hash_path.specs.Map.{path, walk_under}
use Rattle.hash_path.proofs.Words.{tied_same, same_tied}
use Rattle.sha2.specs.Sha256.{sha256}
use Rattle.causal_join.specs.OrMap.{ValuesValue, FieldsValue}
use Rattle.wire_form.specs.Page.{NamesValue, NamedValue, EntryValue, PageValue, OneKey, Keys, Branch}
use Rattle.prefix_digest.specs.Page.{digest_of, digest_at}
use Rattle.sync_model.specs.Opened.{held_in, with_values}
use Rattle.sync_model.specs.Filled.{Made, made_map, checked, fill_unseen, fill_seen, fill_values, then_fields, fill_fields, then_entries, fill_entries}
use Rattle.sync_model.specs.Filled.{all_used, filled}
use Rattle.sync_model.specs.Differ.{Held}
use Rattle.sync_model.specs.Fetch.{Fetch, Waiting, Taken, Ignored, Mismatch, Took, entries_of, children_of, is_digest, is_own, to_ask, within_values}
use Rattle.sync_model.specs.Fetch.{within_fields, within, fits, stays, put_children, put_entry, put_entries, took, promised, take_page, take_opening}
use Rattle.sync_model.specs.Laws.{Taking, Fetched}
use Rattle.sync_model.proofs.Members.{In, In-filter, filter-In, part_has}
use Rattle.sync_model.proofs.Fits.{all_pass}
use Rattle.sync_model.proofs.Prefixes.{begins_further}
use Rattle.sync_model.proofs.Stepping.{from_children, no_entry, if_stays, removed_there, removed_elsewhere}
use Rattle.sync_model.proofs.Fetching.{same_fetch, refused, both_true, Step, stepped, same_or_not}

-- ---- tests of a list

module _ {X : Type 0} (t : X → Bool) where
  one_passes : (xs : List X) (x : X) → list_all t xs ≡ true → In xs x → t x ≡ true
  one_passes [] x all h = absurd h
  one_passes (y ∷ ys) x all h = step (t y) refl all h (one_passes ys x)
    where
      step : (b : Bool) → t y ≡ b → b && list_all t ys ≡ true → In (y ∷ ys) x → (list_all t ys ≡ true → In ys x → t x ≡ true) → t x ≡ true
      step true e rest (inl same) further = ap t (sym same) ∙ e
      step true e rest (inr there) further = further rest there
      step false e rest h further = absurd cc

  pub some_passes : (xs : List X) → list_any t xs ≡ true → (x : X) × In xs x × (t x ≡ true)
  some_passes [] e = absurd cc
  some_passes (x ∷ xs) e = step (t x) refl e (some_passes xs)
    where
      step : (b : Bool) → t x ≡ b → b || list_any t xs ≡ true → (list_any t xs ≡ true → (y : X) × In xs y × (t y ≡ true)) → (y : X) × In (x ∷ xs) y
          × (t y ≡ true)
      step true h s further = (x, inl refl, h)
      step false h s further = let rest = further s in (rest.0, inr rest.1, rest.2)

  pub any_passes : (xs : List X) (x : X) → In xs x → t x ≡ true → list_any t xs ≡ true
  any_passes [] x h e = absurd h
  any_passes (y ∷ ys) x (inl same) e = ap (λ b. b || list_any t ys) (ap t same ∙ e)
  any_passes (y ∷ ys) x (inr h) e = step (t y) (any_passes ys x h e)
    where
      step : (b : Bool) → list_any t ys ≡ true → b || list_any t ys ≡ true
      step true rest = refl
      step false rest = rest

pub some_of : {X : Type 0} (o : Option X) → IsSome o → (x : X) × (o ≡ Some x)
some_of None h = absurd cc
some_of (Some x) h = (x, refl)

-- ---- what is so of each name, and of the name of each value

module _ (P : DotValue → List ℕ → Type 0) where
  abbrev pub EachName : NamesValue → Type 0
  EachName ns = (n : DotValue × List ℕ) → In ns n → P n.0 n.1

  abbrev pub EachNamed : NamedValue → Type 0
  EachNamed fs = (f : List ℕ × NamesValue) → In fs f → EachName f.1

  abbrev pub EachEntry : List EntryValue → Type 0
  EachEntry es = (e : EntryValue) → In es e → EachNamed e.1

  abbrev pub EachValue : ValuesValue → Type 0
  EachValue vs = (v : DotValue × List ℕ) → In vs v → P v.0 (sha256 v.1)

  abbrev pub EachField : FieldsValue → Type 0
  EachField fs = (f : List ℕ × ValuesValue) → In fs f → EachValue f.1

  abbrev pub EachHeld : Held → Type 0
  EachHeld m = (key : List ℕ) (fs : FieldsValue) → finite.get m key ≡ Some fs → EachField fs

-- the dots of these pass the test
pub fields_pass : {N : Type 0} (t : DotValue → Bool) (fs : List (List ℕ × List (DotValue × N))) → within_fields t fs ≡ true → (f : List ℕ × List (DotValue × N))
    → In fs f → (v : DotValue × N) → In f.1 v → t v.0 ≡ true
fields_pass t fs all f h v g = one_passes (λ x. t x.0) f.1 v (one_passes (λ x. within_values t x.1) fs f all h) g

pub passing_fields : {N : Type 0} (t : DotValue → Bool) (fs : List (List ℕ × List (DotValue × N)))
    → ((f : List ℕ × List (DotValue × N)) → In fs f → (v : DotValue × N) → In f.1 v → t v.0 ≡ true) → within_fields t fs ≡ true
passing_fields t fs each = all_pass (λ f. within_values t f.1) fs (λ f h. all_pass (λ v. t v.0) f.1 (each f h))

-- ---- what is made of names

mapped_from : {X Y : Type 0} (f : X → Y) (m : Made X) (y : Y) (rest : List (List ℕ)) → made_map f m ≡ Some (y, rest) → (x : X) × (m ≡ Some (x, rest))
    × (y ≡ f x)
mapped_from f None y rest e = absurd cc
mapped_from f (Some (x, left)) y rest e =
    let both = same_Some (f x, left) (y, rest) e in
    (x, ap (λ c. Some (x, c.1)) both, sym (ap (λ c. c.0) both))

checked_from : (d : DotValue) (name v : List ℕ) (m : Made ValuesValue) (vs : ValuesValue) (rest : List (List ℕ)) → checked d name v m ≡ Some (vs, rest)
    → (ws : ValuesValue) × (m ≡ Some (ws, rest)) × (vs ≡ (d, v) ∷ ws) × (sha256 v ≡ name)
checked_from d name v m vs rest e = step (bytes_eq (sha256 v) name) refl e
  where
    step : (b : Bool) → bytes_eq (sha256 v) name ≡ b → cond b (made_map (λ vs. (d, v) ∷ vs) m) None ≡ Some (vs, rest) → (ws : ValuesValue)
        × (m ≡ Some (ws, rest)) × (vs ≡ (d, v) ∷ ws) × (sha256 v ≡ name)
    step true t s = let from = mapped_from (λ vs. (d, v) ∷ vs) m vs rest s in (from.0, from.1, from.2, (bytes_eq-Decides (sha256 v) name).0 t)
    step false t s = absurd cc

used_from : (m : Made (List (List ℕ × FieldsValue))) (es : List (List ℕ × FieldsValue)) → all_used m ≡ Some es → m ≡ Some (es, [])
used_from None es e = absurd cc
used_from (Some (xs, [])) es e = ap (λ l. Some (l, [])) (same_Some xs es e)
used_from (Some (xs, v ∷ sent)) es e = absurd cc

module _ (P : DotValue → List ℕ → Type 0) (seen : DotValue → Bool) where
  no_value : EachValue P []
  no_value v h = absurd h

  one_value : (d : DotValue) (v : List ℕ) (vs : ValuesValue) → P d (sha256 v) → EachValue P vs → EachValue P ((d, v) ∷ vs)
  one_value d v vs here rest x (inl same) = subst (λ (y : DotValue × List ℕ). P y.0 (sha256 y.1)) same here
  one_value d v vs here rest x (inr h) = rest x h

  no_field : EachField P []
  no_field f h = absurd h

  one_field : (f : List ℕ × ValuesValue) (fs : FieldsValue) → EachValue P f.1 → EachField P fs → EachField P (f ∷ fs)
  one_field f fs here rest g (inl same) = subst (λ (x : List ℕ × ValuesValue). EachValue P x.1) same here
  one_field f fs here rest g (inr h) = rest g h

  values_made : (held : DotValue → Option (List ℕ)) (ns : NamesValue) (sent : List (List ℕ)) (vs : ValuesValue) (rest : List (List ℕ)) → EachName P ns
      → fill_values seen held ns sent ≡ Some (vs, rest) → EachValue P vs
  values_made held [] sent vs rest all e = subst (EachValue P) (ap (λ c. c.0) (same_Some ([], sent) (vs, rest) e)) no_value
  values_made held (n ∷ ns) sent vs rest all e = step (seen n.0) (held n.0) e (λ left made s. values_made held ns left made rest (λ m h. all m (inr h)) s)
    where
      Further : Type 0
      Further = (left : List (List ℕ)) (made : ValuesValue) → fill_values seen held ns left ≡ Some (made, rest) → EachValue P made

      put : (v : List ℕ) (left : List (List ℕ)) → checked n.0 n.1 v (fill_values seen held ns left) ≡ Some (vs, rest) → Further → EachValue P vs
      put v left s further =
          let from = checked_from n.0 n.1 v (fill_values seen held ns left) vs rest s in
          subst (EachValue P) (sym from.2) (one_value n.0 v from.0 (subst (P n.0) (sym from.3) (all n (inl refl))) (further left from.0 from.1))

      unseen : (left : List (List ℕ)) → fill_unseen n.0 n.1 (fill_values seen held ns) left ≡ Some (vs, rest) → Further → EachValue P vs
      unseen [] s further = absurd cc
      unseen (v ∷ left) s further = put v left s further

      step : (b : Bool) (o : Option (List ℕ)) → cond b (fill_seen n.0 n.1 o (fill_values seen held ns) sent)
          (fill_unseen n.0 n.1 (fill_values seen held ns) sent) ≡ Some (vs, rest) → Further → EachValue P vs
      step true None s further = further sent vs s
      step true (Some v) s further = put v sent s further
      step false o s further = unseen sent s further

  with_made : (field : List ℕ) (vs : ValuesValue) (fs : FieldsValue) → EachValue P vs → EachField P fs → EachField P (with_values field vs fs)
  with_made field [] fs here rest = rest
  with_made field (v ∷ vs) fs here rest = one_field (field, v ∷ vs) fs here rest

  fields_made : (held : List ℕ → DotValue → Option (List ℕ)) (ns : NamedValue) (sent : List (List ℕ)) (fs : FieldsValue) (rest : List (List ℕ)) → EachNamed P ns
      → fill_fields seen held ns sent ≡ Some (fs, rest) → EachField P fs
  fields_made held [] sent fs rest all e = subst (EachField P) (ap (λ c. c.0) (same_Some ([], sent) (fs, rest) e)) no_field
  fields_made held (n ∷ ns) sent fs rest all e = step (fill_values seen (held n.0) n.1 sent) refl e
      (λ left made s. fields_made held ns left made rest (λ f h. all f (inr h)) s)
    where
      Further : Type 0
      Further = (left : List (List ℕ)) (made : FieldsValue) → fill_fields seen held ns left ≡ Some (made, rest) → EachField P made

      step : (m : Made ValuesValue) → fill_values seen (held n.0) n.1 sent ≡ m → then_fields n.0 (fill_fields seen held ns) m ≡ Some (fs, rest) → Further
          → EachField P fs
      step None t s further = absurd cc
      step (Some (vs, left)) t s further =
          let from = mapped_from (with_values n.0 vs) (fill_fields seen held ns left) fs rest s in
          subst (EachField P) (sym from.2) (with_made n.0 vs from.0 (values_made (held n.0) n.1 sent vs left (all n (inl refl)) t) (further left from.0 from.1))

  -- each entry that is made is of an entry of the page with its key, and what is so of each of its names is so of each value
  abbrev IsOfEntry : List EntryValue → List ℕ → FieldsValue → Type 0
  IsOfEntry es key fs = (e : EntryValue) × In es e × (e.0 ≡ key) × (EachNamed P e.1 → EachField P fs)

  made_from : (own : Held) (es : List EntryValue) (sent : List (List ℕ)) (made : List (List ℕ × FieldsValue)) (rest : List (List ℕ)) (key : List ℕ)
      (fs : FieldsValue)
      → fill_entries seen own es sent ≡ Some (made, rest) → In made (key, fs) → IsOfEntry es key fs
  made_from own [] sent made rest key fs e h = absurd (subst (λ l. In l (key, fs)) (sym (ap (λ c. c.0) (same_Some ([], sent) (made, rest) e))) h)
  made_from own (x ∷ es) sent made rest key fs e h =
      step (fill_fields seen (held_in (finite.get own x.0)) x.1 sent) refl e (λ left xs s t. made_from own es left xs rest key fs s t)
    where
      here : (gs : FieldsValue) (left : List (List ℕ)) (xs : List (List ℕ × FieldsValue))
          → fill_fields seen (held_in (finite.get own x.0)) x.1 sent ≡ Some (gs, left)
          → In ((x.0, gs) ∷ xs) (key, fs) → (In xs (key, fs) → IsOfEntry es key fs) → IsOfEntry (x ∷ es) key fs
      here gs left xs t (inl same) further =
          (x, inl refl, ap (λ c. c.0) same, λ all. subst (EachField P) (ap (λ c. c.1) same) (fields_made (held_in (finite.get own x.0)) x.1 sent gs left all t))
      here gs left xs t (inr there) further = let rest = further there in (rest.0, inr rest.1, rest.2, rest.3)

      step : (m : Made FieldsValue) → fill_fields seen (held_in (finite.get own x.0)) x.1 sent ≡ m
          → then_entries x.0 (fill_entries seen own es) m ≡ Some (made, rest)
          → ((left : List (List ℕ)) (xs : List (List ℕ × FieldsValue)) → fill_entries seen own es left ≡ Some (xs, rest) → In xs (key, fs)
          → IsOfEntry es key fs)
          → IsOfEntry (x ∷ es) key fs
      step None t s further = absurd cc
      step (Some (gs, left)) t s further =
          let from = mapped_from (λ xs. (x.0, gs) ∷ xs) (fill_entries seen own es left) made rest s in
          here gs left from.0 t (subst (λ l. In l (key, fs)) from.2 h) (further left from.0 from.1)

-- ---- what is looked up

-- what is built at a key is that of an entry that was put, or was there
built_from : (es : List (List ℕ × FieldsValue)) (m : Held) (q : List ℕ) (fs : FieldsValue) → finite.get (put_entries es m) q ≡ Some fs → In es (q, fs)
    ⊎ (finite.get m q ≡ Some fs)
built_from [] m q fs e = inr e
built_from (x ∷ es) m q fs e = step x.1 refl e (built_from es m q fs)
  where
    behind : In es (q, fs) ⊎ (finite.get m q ≡ Some fs) → In (x ∷ es) (q, fs) ⊎ (finite.get m q ≡ Some fs)
    behind (inl h) = inl (inr h)
    behind (inr h) = inr h

    by_key : (gs : FieldsValue) → x.1 ≡ gs → (b : Bool) → eq_by_cmp bytes_cmp q x.0 ≡ b → cond b (Some gs) (finite.get (put_entries es m) q) ≡ Some fs
        → (finite.get (put_entries es m) q ≡ Some fs → In es (q, fs) ⊎ (finite.get m q ≡ Some fs)) → In (x ∷ es) (q, fs) ⊎ (finite.get m q ≡ Some fs)
    by_key gs is true t s further =
        let key = tied_same q x.0 t in
        let fields = is ∙ same_Some gs fs s in
        inl (inl (λ k. (sym key k, fields k)))
    by_key gs is false t s further = behind (further s)

    step : (gs : FieldsValue) → x.1 ≡ gs → finite.get (put_entry x.0 gs (put_entries es m)) q ≡ Some fs
        → (finite.get (put_entries es m) q ≡ Some fs → In es (q, fs) ⊎ (finite.get m q ≡ Some fs)) → In (x ∷ es) (q, fs) ⊎ (finite.get m q ≡ Some fs)
    step [] is s further = behind (further s)
    step (g ∷ gs) is s further = by_key (g ∷ gs) is (eq_by_cmp bytes_cmp q x.0) refl
        (sym (get-insert nat_list_cmp_total (put_entries es m) x.0 (g ∷ gs) q) ∙ s) further

kept_from : (b : Bool) (o : Option FieldsValue) (fs : FieldsValue) → cond b o None ≡ Some fs → (b ≡ true) × (o ≡ Some fs)
kept_from true o fs e = (refl, e)
kept_from false o fs e = absurd cc

module _ (p : List ℕ) where
  -- what was waited for is so where children are put, and each child is
  still_waits : (cs : List (ℕ × List ℕ)) (w : Waiting) (q : List ℕ) → IsSome (finite.get w q) → IsSome (finite.get (put_children p cs w) q)
  still_waits [] w q h = h
  still_waits (c ∷ cs) w q h = ap is_some (get-insert nat_list_cmp_total (put_children p cs w) (p ++ c.0 ∷ []) c.1 q)
      ∙ step (eq_by_cmp bytes_cmp q (p ++ c.0 ∷ [])) (still_waits cs w q h)
    where
      step : (b : Bool) → IsSome (finite.get (put_children p cs w) q) → IsSome (cond b (Some c.1) (finite.get (put_children p cs w) q))
      step true rest = refl
      step false rest = rest

  child_waits : (cs : List (ℕ × List ℕ)) (w : Waiting) (c : ℕ × List ℕ) → In cs c → IsSome (finite.get (put_children p cs w) (p ++ c.0 ∷ []))
  child_waits [] w c h = absurd h
  child_waits (x ∷ cs) w c h =
      ap is_some (get-insert nat_list_cmp_total (put_children p cs w) (p ++ x.0 ∷ []) x.1 (p ++ c.0 ∷ []))
      ∙ step (eq_by_cmp bytes_cmp (p ++ c.0 ∷ []) (p ++ x.0 ∷ [])) refl h (child_waits cs w c)
    where
      step : (b : Bool) → eq_by_cmp bytes_cmp (p ++ c.0 ∷ []) (p ++ x.0 ∷ []) ≡ b → In (x ∷ cs) c
          → (In cs c → IsSome (finite.get (put_children p cs w) (p ++ c.0 ∷ [])))
          → IsSome (cond b (Some x.1) (finite.get (put_children p cs w) (p ++ c.0 ∷ [])))
      step true t g further = refl
      step false t (inl same) further =
          absurd (let on : true ≡ false = sym (same_tied (p ++ c.0 ∷ []) (p ++ x.0 ∷ []) (ap (λ y. p ++ y.0 ∷ []) (sym same))) ∙ t in cc)
      step false t (inr there) further = further there

  -- a child's prefix begins a path that the prefix begins, where its index is the next one
  child_begins : (i : ℕ) (w : List ℕ) → begins (p ++ i ∷ []) w ≡ true → (begins p w ≡ true) × (i ≡ get_or w (length p) 0)
  child_begins i w e =
      let both = both_true (begins p w) (nat_eq i (get_or w (length p) 0)) (sym (begins_further p w i) ∙ e) in
      (both.0, eqb-true i (get_or w (length p) 0) both.1)

  begins_child : (i : ℕ) (w : List ℕ) → begins p w ≡ true → nat_eq i (get_or w (length p) 0) ≡ true → begins (p ++ i ∷ []) w ≡ true
  begins_child i w under next = begins_further p w i ∙ (λ k. under k && next k)

-- a page of entries has no children
not_both : (page : PageValue) (e : EntryValue) (c : ℕ × List ℕ) → In (entries_of page) e → In (children_of page) c → ⊥
not_both (OneKey x) e c h g = g
not_both (Keys es) e c h g = g
not_both (Branch cs) e c h g = h

ignored : (g : Fetch) → Ignored ≡ Took g → ⊥
ignored g e = cc

module _ (hash_of : List ℕ → ℕ) (own : Held) (seen opened : DotValue → Bool) where
  -- ---- values that pages named

  module _ (P : DotValue → List ℕ → Type 0) where
    page_made : (f g : Fetch) (p : List ℕ) (page : PageValue) (sent : List (List ℕ)) → EachEntry P (entries_of page)
        → Step hash_of own seen opened f p page sent g → EachHeld P f.built → EachHeld P g.built
    page_made f g p page sent named s was key fs e =
        step (built_from s.made (finite.retain_keys f.built (stays hash_of p page)) key fs (ap (λ m. finite.get m key) (sym s.built) ∙ e))
      where
        step : In s.made (key, fs) ⊎ (finite.get (finite.retain_keys f.built (stays hash_of p page)) key ≡ Some fs) → EachField P fs
        step (inl put) =
            let from = made_from P seen own (entries_of page) sent s.made [] key fs
            (used_from (fill_entries seen own (entries_of page) sent) s.made s.fill) put in
            from.3 (named from.0 from.1)
        step (inr there) = was key fs (kept_from (stays hash_of p page key) (finite.get f.built key) fs
            (sym (if_stays f.built (stays hash_of p page) key) ∙ there)).1

    opening_made : (root : Option (List ℕ)) (f : Fetch) → EachHeld P own → take_opening hash_of own seen opened root ≡ Took f → EachHeld P f.built
    opening_made None f all e =
        subst (λ (x : Fetch). EachHeld P x.built) (same_fetch (record { waiting = finite.empty; built = finite.empty }) f e)
        (λ key fs t. absurd (let no = sym (get-empty bytes_cmp key) ∙ t in cc))
    opening_made (Some d) f all e = step (is_digest (digest_at hash_of own []) d) (within opened (walk_under hash_of [] own)) e
      where
        step : (a b : Bool) → cond a (cond b (Took (record { waiting = finite.empty; built = own })) Mismatch)
            (Took (record { waiting = finite.insert finite.empty [] d; built = own })) ≡ Took f → EachHeld P f.built
        step true true s = subst (λ (x : Fetch). EachHeld P x.built) (same_fetch (record { waiting = finite.empty; built = own }) f s) all
        step true false s = absurd (refused f s)
        step false b s = subst (λ (x : Fetch). EachHeld P x.built) (same_fetch (record { waiting = finite.insert finite.empty [] d; built = own }) f s) all

    -- what is so of the own values and of each name that the pages told is so of each value that is built
    pub fetched_made : (root : Option (List ℕ)) (ts : List Taking) (f : Fetch) → EachHeld P own → ((t : Taking) → In ts t → EachEntry P (entries_of t.page))
        → Fetched hash_of own seen opened root ts f → EachHeld P f.built
    fetched_made root [] f all named e = opening_made root f all e
    fetched_made root (t ∷ ts) f all named (g, before, e) =
        page_made g f t.prefix t.page t.sent (named t (inl refl)) (stepped hash_of own seen opened g f t.prefix t.page t.sent e)
        (fetched_made root ts g all (λ u h. named u (inr h)) before)

  -- ---- dots that the opening knows

  abbrev pub Known : DotValue → List ℕ → Type 0
  Known d name = opened d ≡ true

  -- a key is under a prefix that is waited for
  abbrev pub IsUnder : Waiting → List ℕ → List ℕ → Type 0
  IsUnder waiting p key = IsSome (finite.get waiting p) × (begins p (path hash_of key) ≡ true)

  -- No key is under two prefixes that are waited for; what is built there is the own map still; and elsewhere the opening knows all dots of
  -- what is built.
  pub record IsKnown (f : Fetch) : Type 0 where
    pub apart : (key p q : List ℕ) → IsUnder f.waiting p key → IsUnder f.waiting q key → p ≡ q
    pub own_still : (key p : List ℕ) → IsUnder f.waiting p key → finite.get f.built key ≡ finite.get own key
    pub known : (key : List ℕ) (fs : FieldsValue) → finite.get f.built key ≡ Some fs → ((p : List ℕ) → IsUnder f.waiting p key → ⊥) → EachField Known fs

  part_known : (q key : List ℕ) (fs : FieldsValue) → within opened (walk_under hash_of q own) ≡ true → finite.get own key ≡ Some fs
      → begins q (path hash_of key) ≡ true → EachField Known fs
  part_known q key fs fine there under =
      fields_pass opened fs (one_passes (λ x. within_fields opened x.1) (walk_under hash_of q own) (key, fs) fine (part_has hash_of own q key fs there under))

  taken_fits : (f g : Fetch) (p : List ℕ) (page : PageValue) (sent : List (List ℕ)) → take_page hash_of own seen opened f p page sent ≡ Took g
      → fits hash_of own opened p page ≡ true
  taken_fits f g p page sent e = by_digest (finite.get f.waiting p) e
    where
      by_test : (a b : Bool) (t : Taken) → cond (a && b) t Mismatch ≡ Took g → b ≡ true
      by_test true true t s = refl
      by_test true false t s = absurd (refused g s)
      by_test false b t s = absurd (refused g s)

      by_digest : (o : Option (List ℕ)) → promised hash_of own seen opened f p page sent o ≡ Took g → fits hash_of own opened p page ≡ true
      by_digest None s = absurd (ignored g s)
      by_digest (Some d) s = by_test (bytes_eq d (digest_of page)) (fits hash_of own opened p page)
          (took hash_of own seen opened f p page (filled seen own (entries_of page) sent)) s

  module _ (f g : Fetch) (p : List ℕ) (page : PageValue) (sent : List (List ℕ)) (is : IsKnown f) (s : Step hash_of own seen opened f p page sent g)
      (fit : fits hash_of own opened p page ≡ true) where
    abbrev asked : List (ℕ × List ℕ)
    asked = to_ask hash_of own p (children_of page)

    abbrev left : Waiting
    left = finite.remove f.waiting p

    abbrev kept : Held
    kept = finite.retain_keys f.built (stays hash_of p page)

    waited : IsSome (finite.get f.waiting p)
    waited = ap is_some s.waited

    -- a child that is not asked for has own keys below it that are known
    abbrev is_fine : ℕ × List ℕ → Bool
    is_fine c = not (is_own hash_of own p c) || within opened (walk_under hash_of (p ++ c.0 ∷ []) own)

    fit_rest : (list_all (λ e. begins p (path hash_of e.0)) (entries_of page) ≡ true)
        × (within opened (entries_of page) && list_all is_fine (children_of page) ≡ true)
    fit_rest = both_true (list_all (λ e. begins p (path hash_of e.0)) (entries_of page))
        (within opened (entries_of page) && list_all is_fine (children_of page)) fit

    fit_below : (within opened (entries_of page) ≡ true) × (list_all is_fine (children_of page) ≡ true)
    fit_below = both_true (within opened (entries_of page)) (list_all is_fine (children_of page)) fit_rest.1

    -- what is put is of an entry of the page, under the prefix and known
    put_from : (key : List ℕ) (fs : FieldsValue) → In s.made (key, fs) → IsOfEntry Known seen (entries_of page) key fs
    put_from key fs h = made_from Known seen own (entries_of page) sent s.made [] key fs
        (used_from (fill_entries seen own (entries_of page) sent) s.made s.fill) h

    put_under : (key : List ℕ) (fs : FieldsValue) → In s.made (key, fs) → begins p (path hash_of key) ≡ true
    put_under key fs h =
        let from = put_from key fs h in
        ap (λ k. begins p (path hash_of k)) (sym from.2) ∙ one_passes (λ e. begins p (path hash_of e.0)) (entries_of page) from.0 fit_rest.0 from.1

    put_known : (key : List ℕ) (fs : FieldsValue) → In s.made (key, fs) → EachField Known fs
    put_known key fs h =
        let from = put_from key fs h in
        from.3 (fields_pass opened from.0.1 (one_passes (λ e. within_fields opened e.1) (entries_of page) from.0 fit_below.0 from.1))

    -- ---- what is waited for then

    -- a child that was asked for, or another prefix that was waited for
    abbrev Waits : List ℕ → Type 0
    Waits q = ((c : ℕ × List ℕ) × In asked c × (q ≡ p ++ c.0 ∷ [])) ⊎ ((q ≢ p) × IsSome (finite.get f.waiting q))

    waits_from : (q : List ℕ) → IsSome (finite.get g.waiting q) → Waits q
    waits_from q h =
        let some = some_of (finite.get (put_children p asked left) q) (ap (λ w. is_some (finite.get w q)) (sym s.waiting) ∙ h) in
        step some.0 (from_children p asked left q some.0 some.1) (same_or_not q p)
      where
        step : (d : List ℕ) → ((i : ℕ) × In asked (i, d) × (q ≡ p ++ i ∷ [])) ⊎ (finite.get left q ≡ Some d) → (q ≡ p) ⊎ (q ≢ p) → Waits q
        step d (inl (i, h, here)) other = inl ((i, d), h, here)
        step d (inr e) (inl same) = absurd (let none : None ≡ Some d = sym (ap (finite.get left) same ∙ removed_there f.waiting p) ∙ e in cc)
        step d (inr e) (inr off) = inr (off, ap is_some (sym (removed_elsewhere f.waiting p q off) ∙ e))

    other_waits : (q : List ℕ) → q ≢ p → IsSome (finite.get f.waiting q) → IsSome (finite.get g.waiting q)
    other_waits q off h = ap (λ w. is_some (finite.get w q)) s.waiting ∙ still_waits p asked left q (ap is_some (removed_elsewhere f.waiting p q off) ∙ h)

    asked_waits : (c : ℕ × List ℕ) → In asked c → IsSome (finite.get g.waiting (p ++ c.0 ∷ []))
    asked_waits c h = ap (λ w. is_some (finite.get w (p ++ c.0 ∷ []))) s.waiting ∙ child_waits p asked left c h

    -- a key under the prefix is under no other
    not_other : (key q : List ℕ) → begins p (path hash_of key) ≡ true → q ≢ p → IsUnder f.waiting q key → ⊥
    not_other key q under off there = off (sym (is.apart key p q (waited, under) there))

    then_apart : (key q r : List ℕ) → IsUnder g.waiting q key → IsUnder g.waiting r key → q ≡ r
    then_apart key q r a b = step (waits_from q a.0) (waits_from r b.0)
      where
        below : (t : List ℕ) (c : ℕ × List ℕ) → t ≡ p ++ c.0 ∷ [] → begins t (path hash_of key) ≡ true → (begins p (path hash_of key) ≡ true)
            × (c.0 ≡ get_or (path hash_of key) (length p) 0)
        below t c is e = child_begins p c.0 (path hash_of key) (ap (λ u. begins u (path hash_of key)) (sym is) ∙ e)

        step : Waits q → Waits r → q ≡ r
        step (inl (c, h, t)) (inl (d, i, u)) = t ∙ ap (λ n. p ++ n ∷ []) ((below q c t a.1).1 ∙ sym (below r d u b.1).1) ∙ sym u
        step (inl (c, h, t)) (inr (off, w)) = absurd (not_other key r (below q c t a.1).0 off (w, b.1))
        step (inr (off, w)) (inl (d, i, u)) = absurd (not_other key q (below r d u b.1).0 off (w, a.1))
        step (inr (off, w)) (inr (away, v)) = is.apart key q r (w, a.1) (v, b.1)

    -- ---- what is built then

    abbrev is_next : List ℕ → ℕ × List ℕ → Bool
    is_next key c = nat_eq c.0 (get_or (path hash_of key) (length p) 0)

    -- what stays where no entry is put is as it was
    stays_there : (key : List ℕ) → ((fs : FieldsValue) → ¬ In s.made (key, fs)) → stays hash_of p page key ≡ true
        → finite.get g.built key ≡ finite.get f.built key
    stays_there key off on =
        ap (λ m. finite.get m key) s.built ∙ no_entry s.made kept key off ∙ if_stays f.built (stays hash_of p page) key
        ∙ ap (λ b. cond b (finite.get f.built key) None) on

    elsewhere_stays : (key : List ℕ) → begins p (path hash_of key) ≡ false → stays hash_of p page key ≡ true
    elsewhere_stays key off = ap (λ b. not b || list_any (is_next key) (children_of page)) off

    listed_stays : (key : List ℕ) → list_any (is_next key) (children_of page) ≡ true → stays hash_of p page key ≡ true
    listed_stays key on = step (not (begins p (path hash_of key))) (list_any (is_next key) (children_of page)) on
      where
        step : (a b : Bool) → b ≡ true → a || b ≡ true
        step true b e = refl
        step false b e = e

    then_own : (key q : List ℕ) → IsUnder g.waiting q key → finite.get g.built key ≡ finite.get own key
    then_own key q u = step (waits_from q u.0)
      where
        by_child : (c : ℕ × List ℕ) → In asked c → begins (p ++ c.0 ∷ []) (path hash_of key) ≡ true → finite.get g.built key ≡ finite.get own key
        by_child c h e =
            let below = child_begins p c.0 (path hash_of key) e in
            let of_page = (In-filter (λ c. not (is_own hash_of own p c)) (children_of page) c h).0 in
            stays_there key (λ fs put. let from = put_from key fs put in not_both page from.0 c from.1 of_page)
            (listed_stays key (any_passes (is_next key) (children_of page) c of_page (eq-eqb c.0 (get_or (path hash_of key) (length p) 0) below.1)))
            ∙ is.own_still key p (waited, below.0)

        by_other : (b : Bool) → begins p (path hash_of key) ≡ b → q ≢ p → IsSome (finite.get f.waiting q) → finite.get g.built key ≡ finite.get own key
        by_other true e off w = absurd (not_other key q e off (w, u.1))
        by_other false e off w =
            stays_there key (λ fs put. let on : true ≡ false = sym (put_under key fs put) ∙ e in cc) (elsewhere_stays key e) ∙ is.own_still key q (w, u.1)

        step : Waits q → finite.get g.built key ≡ finite.get own key
        step (inl (c, h, t)) = by_child c h (ap (λ r. begins r (path hash_of key)) (sym t) ∙ u.1)
        step (inr (off, w)) = by_other (begins p (path hash_of key)) refl off w

    then_known : (key : List ℕ) (fs : FieldsValue) → finite.get g.built key ≡ Some fs → ((q : List ℕ) → IsUnder g.waiting q key → ⊥) → EachField Known fs
    then_known key fs e none = step (built_from s.made kept key fs (ap (λ m. finite.get m key) (sym s.built) ∙ e))
      where
        -- a child that is asked for is waited for, and what is kept for one that is not was found to be known
        by_own : (c : ℕ × List ℕ) → In (children_of page) c → begins (p ++ c.0 ∷ []) (path hash_of key) ≡ true → finite.get own key ≡ Some fs
            → (b : Bool) → is_own hash_of own p c ≡ b → not b || within opened (walk_under hash_of (p ++ c.0 ∷ []) own) ≡ true → EachField Known fs
        by_own c h under there true t fine = part_known (p ++ c.0 ∷ []) key fs fine there under
        by_own c h under there false t fine =
            absurd (none (p ++ c.0 ∷ []) (asked_waits c (filter-In (λ c. not (is_own hash_of own p c)) (children_of page) c h (ap not t)), under))

        stayed : finite.get f.built key ≡ Some fs → (b : Bool) → begins p (path hash_of key) ≡ b → not b || list_any (is_next key) (children_of page) ≡ true
            → EachField Known fs
        stayed there false off on =
            is.known key fs there
            (λ q u. none q (
              other_waits q (λ same. let both : true ≡ false = sym (ap (λ r. begins r (path hash_of key)) (sym same) ∙ u.1) ∙ off in
                  cc) u.0,
              u.1,
            ))
        stayed there true under on =
            let child = some_passes (is_next key) (children_of page) on in
            by_own child.0 child.1 (begins_child p child.0.0 (path hash_of key) under child.2) (sym (is.own_still key p (waited, under)) ∙ there)
            (is_own hash_of own p child.0) refl
            (one_passes is_fine (children_of page) child.0 fit_below.1 child.1)

        step : In s.made (key, fs) ⊎ (finite.get kept key ≡ Some fs) → EachField Known fs
        step (inl put) = put_known key fs put
        step (inr there) =
            let both = kept_from (stays hash_of p page key) (finite.get f.built key) fs (sym (if_stays f.built (stays hash_of p page) key) ∙ there) in
            stayed both.1 (begins p (path hash_of key)) refl both.0

    step_known : IsKnown g
    step_known = record { apart = then_apart; own_still = then_own; known = then_known }

  pub page_known : (f g : Fetch) (p : List ℕ) (page : PageValue) (sent : List (List ℕ)) → IsKnown f → take_page hash_of own seen opened f p page sent ≡ Took g
      → IsKnown g
  page_known f g p page sent is e = step_known f g p page sent is (stepped hash_of own seen opened f g p page sent e) (taken_fits f g p page sent e)

  -- ---- an opening

  abbrev nothing : Waiting
  nothing = finite.empty

  abbrev root_only : List ℕ → Waiting
  root_only d = finite.insert finite.empty [] d

  nothing_waits : (q : List ℕ) → IsSome (finite.get nothing q) → ⊥
  nothing_waits q h = let no : false ≡ true = ap is_some (sym (get-empty bytes_cmp q)) ∙ h in cc

  nothing_known : IsKnown (record { waiting = nothing; built = finite.empty })
  nothing_known = record {
    apart = λ key p q a b. absurd (nothing_waits p a.0);
    own_still = λ key p u. absurd (nothing_waits p u.0);
    known = λ key fs e none. absurd (let no = sym (get-empty bytes_cmp key) ∙ e in cc);
  }

  own_known : within opened (walk_under hash_of [] own) ≡ true → IsKnown (record { waiting = nothing; built = own })
  own_known fine = record {
    apart = λ key p q a b. absurd (nothing_waits p a.0);
    own_still = λ key p u. refl;
    known = λ key fs e none. part_known [] key fs fine e refl;
  }

  root_waits : (d q : List ℕ) → finite.get (root_only d) q ≡ cond (eq_by_cmp bytes_cmp q []) (Some d) (finite.get nothing q)
  root_waits d q = get-insert nat_list_cmp_total nothing [] d q

  just_root : (d q : List ℕ) → IsSome (finite.get (root_only d) q) → q ≡ []
  just_root d q h = step (eq_by_cmp bytes_cmp q []) refl (ap is_some (sym (root_waits d q)) ∙ h)
    where
      step : (b : Bool) → eq_by_cmp bytes_cmp q [] ≡ b → IsSome (cond b (Some d) (finite.get nothing q)) → q ≡ []
      step true t s = tied_same q [] t
      step false t s = absurd (nothing_waits q s)

  root_found : (d : List ℕ) → IsSome (finite.get (root_only d) [])
  root_found d = ap is_some (root_waits d [] ∙ ap (λ b. cond b (Some d) (finite.get nothing [])) (same_tied [] [] refl))

  root_known : (d : List ℕ) → IsKnown (record { waiting = root_only d; built = own })
  root_known d = record {
    apart = λ key p q a b. just_root d p a.0 ∙ sym (just_root d q b.0);
    own_still = λ key p u. refl;
    known = λ key fs e none. absurd (none [] (root_found d, refl));
  }

  pub opening_known : (root : Option (List ℕ)) (f : Fetch) → take_opening hash_of own seen opened root ≡ Took f → IsKnown f
  opening_known None f e = subst IsKnown (same_fetch (record { waiting = nothing; built = finite.empty }) f e) nothing_known
  opening_known (Some d) f e = step (is_digest (digest_at hash_of own []) d) (within opened (walk_under hash_of [] own)) refl e
    where
      step : (a b : Bool) → within opened (walk_under hash_of [] own) ≡ b
          → cond a (cond b (Took (record { waiting = nothing; built = own })) Mismatch) (Took (record { waiting = root_only d; built = own })) ≡ Took f
          → IsKnown f
      step true true fine s = subst IsKnown (same_fetch (record { waiting = nothing; built = own }) f s) (own_known fine)
      step true false off s = absurd (refused f s)
      step false b fine s = subst IsKnown (same_fetch (record { waiting = root_only d; built = own }) f s) (root_known d)

  fetched_known : (root : Option (List ℕ)) (ts : List Taking) (f : Fetch) → Fetched hash_of own seen opened root ts f → IsKnown f
  fetched_known root [] f e = opening_known root f e
  fetched_known root (t ∷ ts) f (g, before, e) = page_known g f t.prefix t.page t.sent (fetched_known root ts g before) e

  -- once nothing is waited for, the opening knows each dot of what is built
  pub whole_known : (root : Option (List ℕ)) (ts : List Taking) (f : Fetch) → Fetched hash_of own seen opened root ts f
      → ((p : List ℕ) → finite.get f.waiting p ≡ None) → EachHeld Known f.built
  whole_known root ts f fetched none key fs e = (fetched_known root ts f fetched).known key fs e
      (λ p u. let no : false ≡ true = ap is_some (sym (none p)) ∙ u.0 in cc)
