-- The page of a map at a prefix, with the values that are missing, is one that can be sent.
use Rattle.std.proofs.Common.{◌≡◌, ◌⊎◌, inl, inr, ℕ, ◌^◌, ◌<◌, ◌≤◌, List, [], ◌∷◌, ◌++◌, length, get_or, Bool, true, Some, None, arith, refl, sym, ◌∙◌, ap}
use Rattle.std.proofs.Common.{subst}
use Rattle.std.specs.Prelude.{Option, ◌&&◌}
use Rattle.std.specs.Option.{option_map}
use Rattle.std.specs.List.{AllByRecursion}
use Rattle.std.specs.List.Sorted.{IsStrictlySortedBy}
use Rattle.std.specs.FinMap as finite
use Rattle.std.proofs.lemmas.Bool.{cases_lt, eq-eqb}
use Rattle.std.proofs.lemmas.List.{length-map}
use Rattle.std.proofs.lemmas.Option.{same_Some}
use Rattle.causal_context.specs.Context.{has}
use Rattle.dots.specs.Bytes.{bytes_cmp}
use Rattle.dots.specs.Dot.{DotValue}
use Rattle.causal_join.specs.OrMap.{FieldsValue}
use Rattle.hash_path.specs.Map.{path, walk_under}
use Rattle.hash_path.specs.Path.{last_index}
use Rattle.hash_path.specs.Summary.{present}
use Rattle.hash_path.specs.Word.{begins}
use Rattle.wire_form.specs.Message.{MessageValue, Page}
use Rattle.wire_form.specs.Page.{EntryValue, PageValue, OneKey, Keys, Branch}
use Rattle.wire_form.specs.Sent.{IsFilled, CanStand, CanBeSent}
use Rattle.wire_form.specs.Session.{SessionValue}
use Rattle.prefix_digest.specs.Page.{named_fields, named_entry, named_entries, page_at, digest_at, digest_of}
use Rattle.prefix_digest.specs.Values.{unknown_at}
use Rattle.prefix_digest.proofs.KeptKeys.{keys_kept}
use Rattle.prefix_digest.proofs.Parted.{digest_past}
use Rattle.prefix_digest.proofs.UnknownValues.{values_of_branch}
use Rattle.sync_model.specs.Differ.{Held}
use Rattle.sync_model.proofs.Alike.{none_there}
use Rattle.sync_model.proofs.Members.{In, In-mapped, part_found}
use Rattle.sync_model.proofs.Paged.{in_present, present_in, Paged, Past, Nothing, One, Several, Parted, paged}
use Rattle.sync_model.proofs.Prefixes.{begins_further, length-further, next_below}
use Rattle.sync_protocol.specs.Answering.{page_for, page_of}
use Rattle.sync_protocol.specs.Snapshot.{SnapshotValue}
use Rattle.sync_protocol.proofs.Sorted.{keys_sorted, present_sorted}

module _ {X : Type 0} where
  each_of : (P : X → Type 0) (xs : List X) → ((x : X) → In xs x → P x) → AllByRecursion P xs
  each_of P [] all = tt
  each_of P (x ∷ xs) all = (all x (inl refl), each_of P xs (λ y h. all y (inr h)))

  some_in : (xs : List X) (x : X) → In xs x → 1 ≤ length xs
  some_in [] x h = absurd h
  some_in (y ∷ xs) x h = omega arith

  first_in : (xs : List X) → 2 ≤ length xs → (x : X) × In xs x
  first_in [] several = absurd (omega (arith, several))
  first_in (x ∷ xs) several = (x, inl refl)

module _ (f : List ℕ → ℕ) (bounded : (key : List ℕ) → f key < 2 ^ 32) (m : Held)
    (filled : (key : List ℕ) (fs : FieldsValue) → finite.get m key ≡ Some fs → IsFilled (named_fields fs)) where
  -- each key of a page is filled
  entries_filled : (p : List ℕ) (e : EntryValue) → In (named_entries (walk_under f p m)) e → IsFilled e.1
  entries_filled p e h =
      let from = In-mapped named_entry (walk_under f p m) e h in
      subst (λ (x : EntryValue). IsFilled x.1) from.2 (filled from.0.0 from.0.1 (part_found f m p from.0.0 from.0.1 from.1).0)

  -- a key that is there is under one of the children
  child_there : (p key : List ℕ) (fs : FieldsValue) → length p < 7 → finite.get m key ≡ Some fs → begins p (path f key) ≡ true
      → (d : List ℕ) × (digest_at f m (p ++ get_or (path f key) (length p) 0 ∷ []) ≡ Some d)
  child_there p key fs less at here = step (page_at f m child) refl
    where
      next : ℕ
      next = get_or (path f key) (length p) 0

      child : List ℕ
      child = p ++ next ∷ []

      under : begins child (path f key) ≡ true
      under = begins_further p (path f key) next ∙ (λ i. here i && eq-eqb next next refl i)

      short : length child ≤ 7
      short = let long = length-further p next in omega (arith, long, less)

      step : (o : Option PageValue) → page_at f m child ≡ o → (d : List ℕ) × (option_map digest_of (page_at f m child) ≡ Some d)
      step None none = absurd (let gone : finite.get m key ≡ None = none_there f m child none short key under in cc)
      step (Some page) is = (digest_of page, ap (option_map digest_of) is)

  -- no child is past the last
  not_past : (p : List ℕ) (i : ℕ) (d : List ℕ) → length p < 7 → digest_at f m (p ++ i ∷ []) ≡ Some d → i ≤ last_index (length p)
  not_past p i d less at = step (cases_lt (last_index (length p)) i)
    where
      step : (last_index (length p) < i) ⊎ (i ≤ last_index (length p)) → i ≤ last_index (length p)
      step (inl past) = absurd (let none : digest_at f m (p ++ i ∷ []) ≡ None = digest_past f m p bounded i less (inr past) in cc)
      step (inr low) = low

  branch_stands : (p : List ℕ) → length p < 7 → 2 ≤ length (walk_under f p m) → CanStand (length p) (Branch (present 0 32 (λ i. digest_at f m (p ++ i ∷ []))))
  branch_stands p less several =
      let one = first_in (walk_under f p m) several in
      let key : List ℕ = one.0.0 in
      let there = part_found f m p key one.0.1 one.1 in
      let child = child_there p key one.0.1 less there.0 there.1 in
      let g : ℕ → Option (List ℕ) = λ i. digest_at f m (p ++ i ∷ []) in
      let next : ℕ = get_or (path f key) (length p) 0 in (
        less,
        some_in (present 0 32 g) (next, child.0) (present_in 0 32 g next child.0 (omega arith) (next_below f p key less) child.1),
        each_of (λ c. c.0 ≤ last_index (length p)) (present 0 32 g) (λ c h. not_past p c.0 c.1 less (in_present 0 32 g c.0 c.1 h).2),
        present_sorted 0 32 g,
      )

  keys_stand : (p : List ℕ) → length p ≡ 7 → 2 ≤ length (walk_under f p m) → CanStand (length p) (Keys (named_entries (walk_under f p m)))
  keys_stand p deep several = (
    deep,
    subst (λ n. 2 ≤ n) (sym (length-map (walk_under f p m) named_entry)) several,
    each_of (λ e. IsFilled e.1) (named_entries (walk_under f p m)) (entries_filled p),
    subst (IsStrictlySortedBy bytes_cmp) (sym (keys_kept named_fields (walk_under f p m))) (keys_sorted f bounded p deep m),
  )

  -- the page that is there, with the values that are missing, can be sent
  module _ (known : DotValue → Bool) (p : List ℕ) where
    abbrev Sends : PageValue → Type 0
    Sends page = CanBeSent (record { prefix = p; values = unknown_at known f m p; page = page })

    of_page : (page there : PageValue) → page_at f m p ≡ Some page → page_at f m p ≡ Some there → Sends there → Sends page
    of_page page there is at sends = subst Sends (same_Some there page (sym at ∙ is)) sends

    none_sent : (page : PageValue) → page_at f m p ≡ Some page → page_at f m p ≡ None → Sends page
    none_sent page is none = absurd (let gone : None ≡ Some page = sym none ∙ is in cc)

    pub can_be_sent : (page : PageValue) → page_at f m p ≡ Some page → CanBeSent (record { prefix = p; values = unknown_at known f m p; page = page })
    can_be_sent page is = step (paged f m p)
      where
        step : Paged f m p → Sends page
        step (Past long none) = none_sent page is none
        step (Nothing short empty none) = none_sent page is none
        step (One short e one at) =
            of_page page (OneKey (named_entry e)) is at
            (record { stands = filled e.0 e.1 (part_found f m p e.0 e.1 (subst (λ es. In es e) (sym one) (inl refl))).0; carries = tt })
        step (Several deep several at) = of_page page (Keys (named_entries (walk_under f p m))) is at
            (record { stands = keys_stand p deep several; carries = tt })
        step (Parted less several at) =
            of_page page _ is at (record { stands = branch_stands p less several; carries = values_of_branch known f m p less several })

    -- the same of a map that is known to be that one, and of values and a page that are known to be these
    pub sendable : (n : Held) (values : List (List ℕ)) (page : PageValue) → n ≡ m → values ≡ unknown_at known f n p → Some page ≡ page_at f n p
        → CanBeSent (record { prefix = p; values = values; page = page })
    sendable n values page same are is =
        subst (λ vs. CanBeSent (record { prefix = p; values = vs; page = page })) (sym (are ∙ ap (λ n. unknown_at known f n p) same))
        (can_be_sent page (sym (is ∙ ap (λ n. page_at f n p) same)))

-- the message of the page of a snapshot's map, with the values that are missing, is the one that is answered
module _ {Hash : Type 0} (hash_of : Hash → List ℕ → ℕ) (k : SnapshotValue Hash) (s : SessionValue) (prefix : List ℕ) where
  pub page_told : (hash : Hash) (n : Held) (values : List (List ℕ)) (page : PageValue) (message : MessageValue) → hash ≡ k.hash → n ≡ k.map
      → message ≡ Page s (record { prefix = prefix; values = values; page = page }) → values ≡ unknown_at (has k.seen) (hash_of hash) n prefix
      → Some page ≡ page_at (hash_of hash) n prefix
      → Some message ≡ page_of hash_of s k prefix
  page_told hash n values page message same those said are is =
      ap Some said ∙ ap (λ vs. Some (Page s (record { prefix = prefix; values = vs; page = page })))
      (are ∙ (λ i. unknown_at (has k.seen) (hash_of (same i)) (those i) prefix))
      ∙ ap (option_map (page_for hash_of s k prefix)) (is ∙ (λ i. page_at (hash_of (same i)) (those i) prefix))
