-- What an account says that a session met is what it met: pages by the bytes that brought them, and maps by what was seen.
use Rattle.std.proofs.Common.{◌≡◌, ◌⊎◌, inl, inr, ℕ, List, [], ◌∷◌, ◌++◌, sym, ap, ◌∙◌, subst}
use Rattle.std.specs.Prelude.{◌↔◌, Contains}
use Rattle.std.proofs.lemmas.List.Elements.{Contains-append_left, Contains-append_right, Contains-append_cases}
use Rattle.op_model.proofs.Members.{nothing_in, at_head, in_tail, head_or_tail, at_same}
use Rattle.prefix_digest.specs.MapOf.{map_of}
use Rattle.wire_form.specs.Message.{MessageValue, Page, PAGE, SpellsIn}
use Rattle.wire_form.specs.Page.{PageValue}
use Rattle.wire_form.specs.Sent.{SentValue, sent, IsSent}
use Rattle.wire_form.specs.Session.{SessionValue}
use Rattle.wire_form.proofs.Messages.{one_message}
use Rattle.sync_model.specs.Differ.{Held}
use Rattle.sync_model.specs.Laws.{Taking, NoClash}
use Rattle.sync_model.specs.Laws as laws
use Rattle.replica_model.specs.World.{taking_of}
use Rattle.replica_model.specs.World as world
use Rattle.replica_model.specs.Seen.{Brought, HasNoClash}
use Rattle.replica_model.specs.Seen as seen
use Rattle.replica_model.proofs.Found.{in_one}

-- the bytes spell the page that was taken
abbrev pub BringsTaking : List ℕ → Taking → Type 0
BringsTaking bytes t = (s : SessionValue) × (page : SentValue) × SpellsIn PAGE sent IsSent bytes s page × (taking_of page ≡ t)

-- each spells the one at its place
abbrev pub ArePages : List (List ℕ) → List Taking → Type 0
ArePages [] [] = Unit {0}
ArePages [] (t ∷ ts) = ⊥
ArePages (b ∷ bs) [] = ⊥
ArePages (b ∷ bs) (t ∷ ts) = BringsTaking b t × ArePages bs ts

-- bytes spell one page at most
one_page : (bytes : List ℕ) (s t : SessionValue) (p q : SentValue) → SpellsIn PAGE sent IsSent bytes s p → SpellsIn PAGE sent IsSent bytes t q → p ≡ q
one_page bytes s t p q h k =
    let one : ◌≡◌ {A = MessageValue} (Page s p) (Page t q) = one_message bytes (Page s p) (Page t q) h k in cc

-- so what is brought was taken, and what was taken is brought
brought_taken : (bs : List (List ℕ)) (ts : List Taking) → ArePages bs ts → (page : SentValue) → Brought bs page → Contains ts (taking_of page)
brought_taken [] ts all page (bytes, s, there, spells) = nothing_in bytes there
brought_taken (b ∷ bs) [] all page brought = absurd all
brought_taken (b ∷ bs) (t ∷ ts) all page (bytes, s, there, spells) =
    by (head_or_tail b bs bytes there) (λ later. brought_taken bs ts all.1 page (bytes, s, later, spells))
  where
    by : (b ≡ bytes) ⊎ Contains bs bytes → (Contains bs bytes → Contains ts (taking_of page)) → Contains (t ∷ ts) (taking_of page)
    by (inl same) rest =
        let first = all.0 in
        let one : first.1 ≡ page =
        one_page bytes first.0 s first.1 page (subst (λ x. SpellsIn PAGE sent IsSent x first.0 first.1) same first.2) spells in
        at_same (t ∷ ts) t (taking_of page) (sym first.3 ∙ ap taking_of one) (at_head t ts)
    by (inr later) rest = in_tail t ts (taking_of page) (rest later)

taken_brought : (bs : List (List ℕ)) (ts : List Taking) → ArePages bs ts → (t : Taking) → Contains ts t → (page : SentValue) × Brought bs page
    × (taking_of page ≡ t)
taken_brought bs [] all t there = nothing_in t there
taken_brought [] (x ∷ ts) all t there = absurd all
taken_brought (b ∷ bs) (x ∷ ts) all t there = by (head_or_tail x ts t there) (taken_brought bs ts all.1 t)
  where
    by : (x ≡ t) ⊎ Contains ts t → (Contains ts t → (page : SentValue) × Brought bs page × (taking_of page ≡ t))
        → (page : SentValue) × Brought (b ∷ bs) page × (taking_of page ≡ t)
    by (inl same) rest = let first = all.0 in (first.1, (b, first.0, at_head b bs, first.2), first.3 ∙ same)
    by (inr later) rest =
        let found = rest later in
        let brought = found.1 in
        (found.0, (brought.0, brought.1, in_tail b bs brought.0 brought.2, brought.3), found.2)

-- ---- one session

module _ (hash_of : List ℕ → ℕ) (m : seen.Met) (ts : List Taking) (all : ArePages m.pages ts) where
  page_met : (page : PageValue) → seen.MetPage hash_of m page → laws.MetPage hash_of (map_of m.own) (map_of m.theirs) ts page
  page_met page (inl held) = inl held
  page_met page (inr (t, brought, is)) = inr (taking_of t, brought_taken m.pages ts all t brought, is)

  page_told : (page : PageValue) → laws.MetPage hash_of (map_of m.own) (map_of m.theirs) ts page → seen.MetPage hash_of m page
  page_told page (inl held) = inl held
  page_told page (inr (t, there, is)) =
      let found = taken_brought m.pages ts all t there in
      inr (found.0, found.1, ap (λ (x : Taking). x.page) found.2 ∙ is)

  value_met : (value : List ℕ) → seen.MetValue hash_of m value → laws.MetValue hash_of (map_of m.own) (map_of m.theirs) ts value
  value_met value (inl held) = inl held
  value_met value (inr (t, brought, has)) = inr (taking_of t, brought_taken m.pages ts all t brought, has)

  value_told : (value : List ℕ) → laws.MetValue hash_of (map_of m.own) (map_of m.theirs) ts value → seen.MetValue hash_of m value
  value_told value (inl held) = inl held
  value_told value (inr (t, there, has)) =
      let found = taken_brought m.pages ts all t there in
      inr (found.0, found.1, subst (λ (x : Taking). Contains x.sent value) (sym found.2) has)

  no_clash_of_maps : HasNoClash hash_of m ↔ NoClash hash_of (map_of m.own) (map_of m.theirs) ts
  no_clash_of_maps = (
    λ none. record {
      pages = λ a b x y. none.pages a b (page_told a x) (page_told b y);
      values = λ a b x y. none.values a b (value_told a x) (value_told b y);
    },
    λ none. record {
      pages = λ a b x y. none.pages a b (page_met a x) (page_met b y);
      values = λ a b x y. none.values a b (value_met a x) (value_met b y);
    },
  )

pub no_clash_told : (hash_of : List ℕ → ℕ) (m : seen.Met) (x : world.Met) → ArePages m.pages x.takings → x.own ≡ map_of m.own → x.theirs ≡ map_of m.theirs
    → HasNoClash hash_of m ↔ NoClash hash_of x.own x.theirs x.takings
no_clash_told hash_of m x all own theirs =
    subst (λ (a : Held). HasNoClash hash_of m ↔ NoClash hash_of a x.theirs x.takings) (sym own)
    (subst (λ (b : Held). HasNoClash hash_of m ↔ NoClash hash_of (map_of m.own) b x.takings) (sym theirs) (no_clash_of_maps hash_of m x.takings all))

-- ---- all sessions that ended

abbrev pub CleanMet : (List ℕ → ℕ) → List seen.Met → Type 0
CleanMet hash_of ms = (m : seen.Met) → Contains ms m → HasNoClash hash_of m

abbrev pub CleanClosed : (List ℕ → ℕ) → List world.Met → Type 0
CleanClosed hash_of xs = (x : world.Met) → Contains xs x → NoClash hash_of x.own x.theirs x.takings

-- one more ended, and where nothing clashed before, it is told as it was
module _ (hash_of : List ℕ → ℕ) (ms : List seen.Met) (xs : List world.Met) (before : CleanMet hash_of ms ↔ CleanClosed hash_of xs) (m : seen.Met)
    (x : world.Met) (last : CleanClosed hash_of xs → HasNoClash hash_of m ↔ NoClash hash_of x.own x.theirs x.takings) where
  clean_closed : CleanMet hash_of (ms ++ m ∷ []) → CleanClosed hash_of (xs ++ x ∷ [])
  clean_closed clean y there = by (Contains-append_cases xs (x ∷ []) y there)
    where
      earlier : CleanClosed hash_of xs
      earlier = before.0 (λ n h. clean n (Contains-append_left ms (m ∷ []) n h))

      by : Contains xs y ⊎ Contains (x ∷ []) y → NoClash hash_of y.own y.theirs y.takings
      by (inl h) = earlier y h
      by (inr h) =
          subst (λ (z : world.Met). NoClash hash_of z.own z.theirs z.takings) (sym (in_one x y h))
          ((last earlier).0 (clean m (Contains-append_right ms (m ∷ []) m (at_head m []))))

  clean_met : CleanClosed hash_of (xs ++ x ∷ []) → CleanMet hash_of (ms ++ m ∷ [])
  clean_met clean n there = by (Contains-append_cases ms (m ∷ []) n there)
    where
      earlier : CleanClosed hash_of xs
      earlier y h = clean y (Contains-append_left xs (x ∷ []) y h)

      by : Contains ms n ⊎ Contains (m ∷ []) n → HasNoClash hash_of n
      by (inl h) = before.1 earlier n h
      by (inr h) = subst (HasNoClash hash_of) (sym (in_one m n h)) ((last earlier).1 (clean x (Contains-append_right xs (x ∷ []) x (at_head x []))))

  pub clean_next : CleanMet hash_of (ms ++ m ∷ []) ↔ CleanClosed hash_of (xs ++ x ∷ [])
  clean_next = (clean_closed, clean_met)
