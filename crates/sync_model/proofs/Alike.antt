-- Where the digests of two maps are equal at a prefix and no two pages clash, each key there has the same names.
use Rattle.std.proofs.Common.{◌≡◌, ℕ, zero, suc, ◌+◌, ◌-◌, ◌<◌, ◌≤◌, List, [], ◌∷◌, ◌++◌, length, get_or, true, Some, None, arith, refl, sym, ◌∙◌, ap, subst}
use Rattle.std.proofs.Common.{eq-eqb}
use Rattle.std.specs.Prelude.{Option, ◌&&◌}
use Rattle.std.specs.Option.{option_map}
use Rattle.std.specs.FinMap as finite
use Rattle.std.specs.FinMap.Entries.{find}
use Rattle.std.proofs.lemmas.Option.{same_Some}
use Rattle.dots.specs.Bytes.{bytes_cmp}
use Rattle.hash_path.specs.Word.{begins}
use Rattle.hash_path.specs.Map.{path, walk_under}
use Rattle.hash_path.specs.Summary.{present}
use Rattle.causal_join.specs.OrMap.{FieldsValue}
use Rattle.wire_form.specs.Page.{NamedValue, PageValue, OneKey, Keys, Branch}
use Rattle.prefix_digest.specs.Page.{named_fields, named_entry, named_entries, page_at, digest_of, digest_at}
use Rattle.sync_model.specs.Differ.{Held}
use Rattle.sync_model.specs.Fetch.{entries_of}
use Rattle.sync_model.proofs.Prefixes.{begins_further, length-further, next_below}
use Rattle.sync_model.proofs.Members.{In, In-map, In-mapped, part_has, part_found}
use Rattle.sync_model.proofs.Paged.{Paged, Past, Nothing, One, Several, Parted, paged, in_present, present_in}
use Rattle.sync_model.proofs.Found.{find_is}

abbrev pub names_at : Held → List ℕ → Option NamedValue
names_at m key = option_map named_fields (finite.get m key)

-- a page that tells its entries
abbrev pub IsLeaf : PageValue → Type 0
IsLeaf (OneKey e) = Unit {0}
IsLeaf (Keys es) = Unit {0}
IsLeaf (Branch cs) = ⊥

some_named : (o : Option FieldsValue) (n : NamedValue) → option_map named_fields o ≡ Some n → (v : FieldsValue) × (o ≡ Some v) × (named_fields v ≡ n)
some_named None n e = absurd cc
some_named (Some v) n e = (v, refl, same_Some (named_fields v) n e)

module _ (hash_of : List ℕ → ℕ) (m : Held) (p : List ℕ) where
  -- the names of the part of the walk are those of the map
  walk_names : (key : List ℕ) → begins p (path hash_of key) ≡ true → find bytes_cmp key (named_entries (walk_under hash_of p m)) ≡ names_at m key
  walk_names key under = find_is key (named_entries (walk_under hash_of p m)) (names_at m key) each has
    where
      each : (n : NamedValue) → In (named_entries (walk_under hash_of p m)) (key, n) → names_at m key ≡ Some n
      each n h =
          let from = In-mapped named_entry (walk_under hash_of p m) (key, n) h in
          let there = part_found hash_of m p (from.0).0 (from.0).1 from.1 in
          ap (λ q. names_at m q) (sym (ap (λ c. c.0) from.2)) ∙ ap (option_map named_fields) there.0 ∙ ap (λ c. Some c.1) from.2

      has : (n : NamedValue) → names_at m key ≡ Some n → In (named_entries (walk_under hash_of p m)) (key, n)
      has n e =
          let held = some_named (finite.get m key) n e in
          subst (λ x. In (named_entries (walk_under hash_of p m)) (key, x)) held.2
          (In-map named_entry (walk_under hash_of p m) (key, held.0) (part_has hash_of m p key held.0 held.1 under))

  -- so are those of a page that tells its entries
  pub leaf_names : (page : PageValue) → page_at hash_of m p ≡ Some page → IsLeaf page → (key : List ℕ) → begins p (path hash_of key) ≡ true
      → find bytes_cmp key (entries_of page) ≡ names_at m key
  leaf_names page is leaf key under = step (paged hash_of m p)
    where
      told : (es : List (List ℕ × FieldsValue)) (other : PageValue) → walk_under hash_of p m ≡ es → entries_of other ≡ named_entries es
          → page_at hash_of m p ≡ Some other → find bytes_cmp key (entries_of page) ≡ names_at m key
      told es other e s t =
          ap (λ q. find bytes_cmp key (entries_of q)) (same_Some page other (sym is ∙ t)) ∙ ap (find bytes_cmp key) (s ∙ ap named_entries (sym e))
          ∙ walk_names key under

      step : Paged hash_of m p → find bytes_cmp key (entries_of page) ≡ names_at m key
      step (Past long e) = absurd (let none : None ≡ Some page = sym e ∙ is in cc)
      step (Nothing short none e) = absurd (let none : None ≡ Some page = sym e ∙ is in cc)
      step (One short e one t) = told (e ∷ []) (OneKey (named_entry e)) one refl t
      step (Several deep many t) = told (walk_under hash_of p m) (Keys (named_entries (walk_under hash_of p m))) refl refl t
      step (Parted less many t) = absurd (subst IsLeaf (same_Some page _ (sym is ∙ t)) leaf)

  -- no page, no key
  pub none_there : page_at hash_of m p ≡ None → length p ≤ 7 → (key : List ℕ) → begins p (path hash_of key) ≡ true → finite.get m key ≡ None
  none_there is short key under = step (paged hash_of m p)
    where
      empty : walk_under hash_of p m ≡ [] → (o : Option FieldsValue) → finite.get m key ≡ o → o ≡ None
      empty none None e = refl
      empty none (Some v) e = absurd (subst (λ es. In es (key, v)) none (part_has hash_of m p key v e under))

      step : Paged hash_of m p → finite.get m key ≡ None
      step (Past long e) = absurd (omega (arith, long, short))
      step (Nothing s none e) = empty none (finite.get m key) refl
      step (One s e one t) = absurd (let none : None ≡ Some (OneKey (named_entry e)) = sym is ∙ t in cc)
      step (Several deep many t) = absurd (let none : None ≡ Some (Keys (named_entries (walk_under hash_of p m))) = sym is ∙ t in cc)
      step (Parted less many t) = some_apart (sym is ∙ t)
        where
          some_apart : {X : Type 0} {x : X} → None ≡ Some x → finite.get m key ≡ None
          some_apart e = absurd cc

  -- the children of a branch are the digests one index on
  pub children_are : (cs : List (ℕ × List ℕ)) → page_at hash_of m p ≡ Some (Branch cs) → (length p < 7)
      × (cs ≡ present 0 32 (λ i. digest_at hash_of m (p ++ i ∷ [])))
  children_are cs is = step (paged hash_of m p)
    where
      children : PageValue → List (ℕ × List ℕ)
      children (OneKey e) = []
      children (Keys es) = []
      children (Branch ds) = ds

      step : Paged hash_of m p → (length p < 7) × (cs ≡ present 0 32 (λ i. digest_at hash_of m (p ++ i ∷ [])))
      step (Past long e) = absurd (let none : None ≡ Some (Branch cs) = sym e ∙ is in cc)
      step (Nothing short none e) = absurd (let none : None ≡ Some (Branch cs) = sym e ∙ is in cc)
      step (One short e one t) = absurd (same_kind (same_Some (Branch cs) (OneKey (named_entry e)) (sym is ∙ t)))
        where
          same_kind : Branch cs ≡ OneKey (named_entry e) → ⊥
          same_kind q = cc
      step (Several deep many t) =
          absurd (same_kind (walk_under hash_of p m) (same_Some (Branch cs) (Keys (named_entries (walk_under hash_of p m))) (sym is ∙ t)))
        where
          same_kind : (es : List (List ℕ × FieldsValue)) → Branch cs ≡ Keys (named_entries es) → ⊥
          same_kind es q = cc
      step (Parted less many t) = (less, ap children (same_Some (Branch cs) _ (sym is ∙ t)))

digest_apart : (page : PageValue) → None ≡ Some (digest_of page) → ⊥
digest_apart page e = absurd cc

-- ---- equal digests

module _ (hash_of : List ℕ → ℕ) (own theirs : Held)
    (no_clash : (p q : List ℕ) (a b : PageValue) → page_at hash_of own p ≡ Some a → page_at hash_of theirs q ≡ Some b → digest_of a ≡ digest_of b → a ≡ b) where
  pub same_page : (p : List ℕ) → digest_at hash_of own p ≡ digest_at hash_of theirs p → page_at hash_of own p ≡ page_at hash_of theirs p
  same_page p e = step (page_at hash_of own p) (page_at hash_of theirs p) refl refl (sym (ap (option_map digest_of) refl) ∙ e)
    where
      step : (a b : Option PageValue) → page_at hash_of own p ≡ a → page_at hash_of theirs p ≡ b → option_map digest_of a ≡ option_map digest_of b → a ≡ b
      step None None x y s = refl
      step None (Some b) x y s = absurd (digest_apart b s)
      step (Some a) None x y s = absurd (digest_apart a (sym s))
      step (Some a) (Some b) x y s = ap Some (no_clash p p a b x y (same_Some (digest_of a) (digest_of b) s))

  -- so two branches that are one page have the same digests one index on
  one_way : (m n : Held) (p : List ℕ) (cs : List (ℕ × List ℕ)) (i : ℕ) (d : List ℕ) → page_at hash_of m p ≡ Some (Branch cs)
      → page_at hash_of n p ≡ Some (Branch cs) → i < 32
      → digest_at hash_of m (p ++ i ∷ []) ≡ Some d → digest_at hash_of n (p ++ i ∷ []) ≡ Some d
  one_way m n p cs i d x y low e =
      let here = present_in 0 32 (λ i. digest_at hash_of m (p ++ i ∷ [])) i d (omega arith) (omega (arith, low)) e in
      let same : present 0 32 (λ i. digest_at hash_of m (p ++ i ∷ [])) ≡ present 0 32 (λ i. digest_at hash_of n (p ++ i ∷ [])) =
      sym (children_are hash_of m p cs x).1 ∙ (children_are hash_of n p cs y).1 in
      (in_present 0 32 (λ i. digest_at hash_of n (p ++ i ∷ [])) i d (subst (λ l. In l (i, d)) same here)).2

  pub same_child : (p : List ℕ) (cs : List (ℕ × List ℕ)) (i : ℕ) → page_at hash_of own p ≡ Some (Branch cs)
      → page_at hash_of theirs p ≡ Some (Branch cs) → i < 32
      → digest_at hash_of own (p ++ i ∷ []) ≡ digest_at hash_of theirs (p ++ i ∷ [])
  same_child p cs i x y low = step (digest_at hash_of own (p ++ i ∷ [])) (digest_at hash_of theirs (p ++ i ∷ [])) refl refl
    where
      step : (a b : Option (List ℕ)) → digest_at hash_of own (p ++ i ∷ []) ≡ a → digest_at hash_of theirs (p ++ i ∷ []) ≡ b → a ≡ b
      step None None s t = refl
      step None (Some b) s t = sym s ∙ one_way theirs own p cs i b y x low t
      step (Some a) b s t = sym (one_way own theirs p cs i a x y low s) ∙ t

  -- and each key under the prefix has the same names
  by_kind : (p : List ℕ) → length p ≤ 7 → page_at hash_of own p ≡ page_at hash_of theirs p → (key : List ℕ) → begins p (path hash_of key) ≡ true
      → ((cs : List (ℕ × List ℕ)) → page_at hash_of own p ≡ Some (Branch cs) → names_at own key ≡ names_at theirs key) → names_at own key ≡ names_at theirs key
  by_kind p short e key under branch = step (page_at hash_of own p) refl
    where
      leaf : (page : PageValue) → IsLeaf page → page_at hash_of own p ≡ Some page → names_at own key ≡ names_at theirs key
      leaf page is s = sym (leaf_names hash_of own p page s is key under) ∙ leaf_names hash_of theirs p page (sym e ∙ s) is key under

      step : (a : Option PageValue) → page_at hash_of own p ≡ a → names_at own key ≡ names_at theirs key
      step None s = ap (option_map named_fields) (none_there hash_of own p s short key under ∙ sym (none_there hash_of theirs p (sym e ∙ s) short key under))
      step (Some (OneKey x)) s = leaf (OneKey x) tt s
      step (Some (Keys xs)) s = leaf (Keys xs) tt s
      step (Some (Branch cs)) s = branch cs s

  by_page : (n : ℕ) (p : List ℕ) → length p + n ≡ 7 → page_at hash_of own p ≡ page_at hash_of theirs p → (key : List ℕ) → begins p (path hash_of key) ≡ true
      → names_at own key ≡ names_at theirs key
  by_page zero p depth e key under =
      by_kind p (omega (arith, depth)) e key under (λ cs s. let less = (children_are hash_of own p cs s).0 in absurd (omega (arith, less, depth)))
  by_page (suc n) p depth e key under =
      by_kind p (omega (arith, depth)) e key under
      (λ cs s.
      let less = (children_are hash_of own p cs s).0 in
      let next = get_or (path hash_of key) (length p) 0 in
      let long = length-further p next in
      by_page n (p ++ next ∷ []) (omega (arith, long, depth))
      (same_page (p ++ next ∷ []) (same_child p cs next s (sym e ∙ s) (next_below hash_of p key less))) key
      (begins_further p (path hash_of key) next ∙ (λ t. under t && eq-eqb next next refl t)))

  pub same_names : (p : List ℕ) → length p ≤ 7 → digest_at hash_of own p ≡ digest_at hash_of theirs p → (key : List ℕ) → begins p (path hash_of key) ≡ true
      → names_at own key ≡ names_at theirs key
  same_names p short e = by_page (7 - length p) p (omega (arith, short)) (same_page p e)
