-- What open sessions fetch and ask for.
use Rattle.std.proofs.Common.{◌≡◌, ◌≢◌, ◌⊎◌, inl, inr, ℕ, zero, suc, ◌<◌, List, [], ◌∷◌, ◌++◌, map, Bool, true, false, not, Option, Some, None, cond, arith}
use Rattle.std.proofs.Common.{refl, sym, ap, ◌∙◌, subst}
use Rattle.std.specs.Prelude.{Contains, ◌↔◌}
use Rattle.std.specs.List.{AllByRecursion, filter}
use Rattle.std.specs.List.Sorted.{IsStrictlySortedBy}
use Rattle.std.specs.Cmp.{nat_cmp_total, tied_itself}
use Rattle.std.specs.Ordering.{ordering_then}
use Rattle.std.specs.declared.cmp.Ordering.TheVariants.{Less, Equal}
use Rattle.std.specs.FinMap as finite
use Rattle.dots.specs.Dot.{DotValue}
use Rattle.hash_path.specs.Map.{walk_under}
use Rattle.hash_path.specs.Path.{prefix_cmp}
use Rattle.hash_path.specs.Summary.{one_present, present}
use Rattle.hash_path.proofs.Orders.{is_less}
use Rattle.wire_form.specs.Page.{PageValue}
use Rattle.wire_form.specs.Sent.{SentValue}
use Rattle.wire_form.specs.Session.{SessionValue}
use Rattle.prefix_digest.specs.Page.{page_at, digest_at}
use Rattle.sync_model.specs.Differ.{Held, IsAbove, IsBranchAt, HasOther, Differ}
use Rattle.sync_model.specs.Fetch.{Fetch, children_of, is_digest, is_own, to_ask, within, take_opening, take_page}
use Rattle.sync_model.specs.Fetch as fetch
use Rattle.sync_model.specs.Laws.{Taking, TakenAt, IsLawfulMap, NoClash, Fetched, IsFetched}
use Rattle.sync_model.proofs.Fetched.{Kept, other_digest}
use Rattle.sync_model.proofs.Fetches.{fetching, kept_pages}
use Rattle.sync_model.proofs.Fetching.{Step, Shown, Leaf, Parts, shown, stepped}
use Rattle.sync_model.proofs.Lawful.{map_lawful}
use Rattle.sync_model.proofs.Members.{In, In-filter, In-map, In-mapped, In-Contains, Contains-In}
use Rattle.sync_model.proofs.Paged.{in_present}
use Rattle.sync_model.proofs.Prefixes.{above_child, above_further, not_above_itself}
use Rattle.sync_model.proofs.Stepping.{from_children, removed_elsewhere}
use Rattle.replica_model.specs.Delivery.{Sent, Done, Turn, turn, ignored, is_complete, asks_of, asks_for, child_prefixes, went_on, opening_taken, page_taken}
use Rattle.replica_model.specs.Delivery.{took_first, took_further, took_opening, took_page, taken, delivered}
use Rattle.replica_model.specs.Differing.{SessionsFetch, AreChildren, asks_at, OpeningsAsk, PagesAsk}
use Rattle.replica_model.specs.Mail.{Mail, Opening, Ask, Page, is_for}
use Rattle.replica_model.specs.Replica.{Replica, Open, Accepted, open_at}
use Rattle.replica_model.specs.Step.{Came}
use Rattle.replica_model.specs.World.{World, Message, message_at, no_snapshot, sent_as, taking_of, takes}
use Rattle.replica_model.proofs.Carried.{same_messages}
use Rattle.replica_model.proofs.Deciding.{came_one}
use Rattle.replica_model.proofs.Found.{found_open}
use Rattle.replica_model.proofs.Waiting.{empty_complete, root_entries}
use Rattle.replica_model.proofs.Fronts.{Delivered, delivery, told}

pub sessions_fetch : SessionsFetch
sessions_fetch hash_of events w runs name o a there accepted clean =
    let tie = (told hash_of events w runs).sessions name o there in
    fetching hash_of o.own (w.accepted o.session).map o.seen a.context (w.taken o.session) a.fetch (map_lawful o.own _ tie.asked.0.own_then) clean
    (tie.fetched a accepted).1

-- ---- the children of a page

module _ (hash_of : List ℕ → ℕ) (own theirs : Held) (p : List ℕ) (page : PageValue) (is : page_at hash_of theirs p ≡ Some page) (digest : List ℕ)
    (here : Differ hash_of own theirs p digest) where
  child_there : (i : ℕ) (d : List ℕ) → In (children_of page) (i, d) → (digest_at hash_of theirs (p ++ i ∷ []) ≡ Some d) × IsBranchAt hash_of theirs p
  child_there i d h = step (shown hash_of theirs p page is)
    where
      step : Shown hash_of theirs p page → (digest_at hash_of theirs (p ++ i ∷ []) ≡ Some d) × IsBranchAt hash_of theirs p
      step (Leaf none entries off values) = absurd (subst (λ l. In l (i, d)) none h)
      step (Parts less cs same are values) = (
        (in_present 0 32 (λ j. digest_at hash_of theirs (p ++ j ∷ [])) i d (subst (λ l. In l (i, d)) (ap children_of same ∙ are) h)).2,
        (cs, is ∙ ap Some same),
      )

  turned : (b : Bool) → not b ≡ true → b ≡ false
  turned true e = absurd cc
  turned false e = refl

  asked_differ : (i : ℕ) (d : List ℕ) → In (to_ask hash_of own p (children_of page)) (i, d) → Differ hash_of own theirs (p ++ i ∷ []) d
  asked_differ i d h =
      let both = In-filter (λ c. not (is_own hash_of own p c)) (children_of page) (i, d) h in
      let there = child_there i d both.0 in (
        (there.0, other_digest (digest_at hash_of own (p ++ i ∷ [])) d (turned (is_digest (digest_at hash_of own (p ++ i ∷ [])) d) both.1)),
        λ q up. above q (above_further q p i up) there.1,
      )
    where
      above : (q : List ℕ) → (q ≡ p) ⊎ IsAbove q p → IsBranchAt hash_of theirs p → IsBranchAt hash_of theirs q
          × ((d : List ℕ) × HasOther hash_of own theirs q d)
      above q (inl same) branch = subst (λ r. IsBranchAt hash_of theirs r × ((d : List ℕ) × HasOther hash_of own theirs r d)) (sym same)
          (branch, (digest, here.0))
      above q (inr up) branch = here.1 q up

-- ---- prefixes one index further ascend by that index

child_below : (p : List ℕ) (i j : ℕ) → i < j → prefix_cmp (p ++ i ∷ []) (p ++ j ∷ []) ≡ Less
child_below [] i j less = ap (λ o. ordering_then o Equal) (is_less i j less)
child_below (x ∷ p) i j less = ap (λ o. ordering_then o (prefix_cmp (p ++ i ∷ []) (p ++ j ∷ []))) (tied_itself nat_cmp_total x) ∙ child_below p i j less

all_in : {X : Type 0} (P : X → Type 0) (xs : List X) → ((x : X) → In xs x → P x) → AllByRecursion P xs
all_in P [] all = tt
all_in P (x ∷ xs) all = (all x (inl refl), all_in P xs (λ y h. all y (inr h)))

-- of the children that are present some are asked for
module _ (p : List ℕ) (asked : ℕ × List ℕ → Bool) (told : ℕ → Option (List ℕ)) where
  abbrev prefixes_of : List (ℕ × List ℕ) → List (List ℕ)
  prefixes_of cs = map (λ c. p ++ c.0 ∷ []) (filter asked cs)

  later_above : (i n : ℕ) (q : List ℕ) → In (prefixes_of (present (suc i) n told)) q → prefix_cmp (p ++ i ∷ []) q ≡ Less
  later_above i n q h =
      let found = In-mapped (λ (c : ℕ × List ℕ). p ++ c.0 ∷ []) (filter asked (present (suc i) n told)) q h in
      let there = (In-filter asked (present (suc i) n told) found.0 found.1).0 in
      let above = (in_present (suc i) n told found.0.0 found.0.1 there).0 in
      subst (λ r. prefix_cmp (p ++ i ∷ []) r ≡ Less) found.2 (child_below p i found.0.0 (omega (arith, above)))

  ascending : (i n : ℕ) → IsStrictlySortedBy prefix_cmp (prefixes_of (present i n told))
  unfolding IsStrictlySortedBy
  ascending i zero = tt
  ascending i (suc n) = by_told (told i) (later_above i n) (ascending (suc i) n)
    where
      later : List (ℕ × List ℕ)
      later = present (suc i) n told

      by_asked : (d : List ℕ) (b : Bool) → ((q : List ℕ) → In (prefixes_of later) q → prefix_cmp (p ++ i ∷ []) q ≡ Less)
          → IsStrictlySortedBy prefix_cmp (prefixes_of later)
          → IsStrictlySortedBy prefix_cmp (map (λ c. p ++ c.0 ∷ []) (cond b ((i, d) ∷ filter asked later) (filter asked later)))
      by_asked d true below rest = (all_in (λ q. prefix_cmp (p ++ i ∷ []) q ≡ Less) (prefixes_of later) below, rest)
      by_asked d false below rest = rest

      by_told : (o : Option (List ℕ)) → ((q : List ℕ) → In (prefixes_of later) q → prefix_cmp (p ++ i ∷ []) q ≡ Less)
          → IsStrictlySortedBy prefix_cmp (prefixes_of later)
          → IsStrictlySortedBy prefix_cmp (prefixes_of (one_present i o later))
      by_told None below rest = rest
      by_told (Some d) below rest = by_asked d (asked (i, d)) below rest

-- so do those that are asked for of a page of a map
asks_ascend : (hash_of : List ℕ → ℕ) (own theirs : Held) (p : List ℕ) (page : PageValue) → page_at hash_of theirs p ≡ Some page
    → IsStrictlySortedBy prefix_cmp (map (λ c. p ++ c.0 ∷ []) (to_ask hash_of own p (children_of page)))
asks_ascend hash_of own theirs p page is = step (shown hash_of theirs p page is)
  where
    asked : ℕ × List ℕ → Bool
    asked c = not (is_own hash_of own p c)

    told_of : ℕ → Option (List ℕ)
    told_of i = digest_at hash_of theirs (p ++ i ∷ [])

    to_children : (cs : List (ℕ × List ℕ)) → children_of page ≡ cs → IsStrictlySortedBy prefix_cmp (prefixes_of p asked told_of cs)
        → IsStrictlySortedBy prefix_cmp (prefixes_of p asked told_of (children_of page))
    to_children cs e sorted = subst (λ l. IsStrictlySortedBy prefix_cmp (prefixes_of p asked told_of l)) (sym e) sorted

    step : Shown hash_of theirs p page → IsStrictlySortedBy prefix_cmp (prefixes_of p asked told_of (children_of page))
    step (Leaf none entries off values) = to_children [] none (ascending p asked told_of 0 0)
    step (Parts less cs same are values) = to_children (present 0 32 told_of) (ap children_of same ∙ are) (ascending p asked told_of 0 32)

last_same : (xs : List ℕ) (i j : ℕ) → xs ++ i ∷ [] ≡ xs ++ j ∷ [] → i ≡ j
last_same [] i j e = cc
last_same (x ∷ xs) i j e = last_same xs i j cc

-- a page that was taken: its prefix waited, and where the maps differ one index further is asked for
module _ (hash_of : List ℕ → ℕ) (own theirs : Held) (seen opened : DotValue → Bool) (lawful : IsLawfulMap own) (t : Taking) (ts : List Taking) (f g : Fetch)
    (clean : NoClash hash_of own theirs (t ∷ ts))
    (before : Fetched hash_of own seen opened (digest_at hash_of theirs []) ts f)
    (took : take_page hash_of own seen opened f t.prefix t.page t.sent ≡ fetch.Took g) where
  then : IsFetched hash_of own theirs seen opened (t ∷ ts) g
  then = fetching hash_of own theirs seen opened (t ∷ ts) g lawful clean (f, before, took)

  kept : Kept hash_of own theirs seen opened (TakenAt ts) f
  kept = kept_pages hash_of own theirs seen opened lawful (t ∷ ts) clean ts f (λ u h. Contains-In (t ∷ ts) u (inr h)) before

  s : Step hash_of own seen opened f t.prefix t.page t.sent g
  s = stepped hash_of own seen opened f g t.prefix t.page t.sent took

  theirs_is : page_at hash_of theirs t.prefix ≡ Some t.page
  theirs_is = (then.theirs_taken t (Contains-In (t ∷ ts) t (inl refl))).0

  here : Differ hash_of own theirs t.prefix s.digest
  here = (kept.waits t.prefix s.digest s.waited).0

  not_taken : ¬ TakenAt ts t.prefix
  not_taken = (kept.waits t.prefix s.digest s.waited).1

  -- a child where they differ waits now, and did not wait before
  differ_asked : (i : ℕ) (d : List ℕ) → Differ hash_of own theirs (t.prefix ++ i ∷ []) d → In (to_ask hash_of own t.prefix (children_of t.page)) (i, d)
  differ_asked i d differ =
      by (from_children t.prefix (to_ask hash_of own t.prefix (children_of t.page)) (finite.remove f.waiting t.prefix) q d
      (sym (ap (λ w. finite.get w q) s.waiting) ∙ waiting))
    where
      q : List ℕ
      q = t.prefix ++ i ∷ []

      off : q ≢ t.prefix
      off e = not_above_itself t.prefix (subst (IsAbove t.prefix) e (above_child t.prefix i))

      untaken : ¬ TakenAt ts q
      untaken h = not_taken (kept.closed t.prefix q h (above_child t.prefix i))

      not_now : TakenAt (t ∷ ts) q → ⊥
      not_now (inl h) = untaken h
      not_now (inr e) = off e

      above : (r : List ℕ) → (r ≡ t.prefix) ⊎ IsAbove r t.prefix → TakenAt (t ∷ ts) r
      above r (inl same) = inr same
      above r (inr up) = inl ((kept.waits t.prefix s.digest s.waited).2 r up)

      waiting : finite.get g.waiting q ≡ Some d
      waiting = (then.waits q d).1 (differ, not_now, λ r up. above r (above_further r t.prefix i up))

      by : ((j : ℕ) × In (to_ask hash_of own t.prefix (children_of t.page)) (j, d) × (q ≡ t.prefix ++ j ∷ []))
          ⊎ (finite.get (finite.remove f.waiting t.prefix) q ≡ Some d)
          → In (to_ask hash_of own t.prefix (children_of t.page)) (i, d)
      by (inl h) = subst (λ j. In (to_ask hash_of own t.prefix (children_of t.page)) (j, d)) (sym (last_same t.prefix i h.0 h.2)) h.1
      by (inr old) = absurd (not_taken ((kept.waits q d (sym (removed_elsewhere f.waiting t.prefix q off) ∙ old)).2 t.prefix (above_child t.prefix i)))

  just_children : (q : List ℕ) → Contains (map (λ c. t.prefix ++ c.0 ∷ []) (to_ask hash_of own t.prefix (children_of t.page))) q
      ↔ ((i : ℕ) × (q ≡ t.prefix ++ i ∷ []) × ((d : List ℕ) × Differ hash_of own theirs q d))
  just_children q = (λ h. there (In-mapped (λ (c : ℕ × List ℕ). t.prefix ++ c.0 ∷ []) asks q (In-Contains _ q h)), λ x. back x.0 x.1 x.2.0 x.2.1)
    where
      asks : List (ℕ × List ℕ)
      asks = to_ask hash_of own t.prefix (children_of t.page)

      there : (c : ℕ × List ℕ) × In asks c × (t.prefix ++ c.0 ∷ [] ≡ q) → (i : ℕ) × (q ≡ t.prefix ++ i ∷ []) × ((d : List ℕ) × Differ hash_of own theirs q d)
      there (c, h, e) = (
        c.0,
        sym e,
        (c.1, subst (λ r. Differ hash_of own theirs r c.1) e (asked_differ hash_of own theirs t.prefix t.page theirs_is s.digest here c.0 c.1 h)),
      )

      back : (i : ℕ) → q ≡ t.prefix ++ i ∷ [] → (d : List ℕ) → Differ hash_of own theirs q d → Contains (map (λ c. t.prefix ++ c.0 ∷ []) asks) q
      back i e d differ =
          let h = differ_asked i d (subst (λ r. Differ hash_of own theirs r d) e differ) in
          subst (Contains (map (λ c. t.prefix ++ c.0 ∷ []) asks)) (sym e) (Contains-In _ _ (In-map (λ (c : ℕ × List ℕ). t.prefix ++ c.0 ∷ []) asks (i, d) h))

  pub children : AreChildren hash_of own theirs t.prefix (map (λ c. t.prefix ++ c.0 ∷ []) (to_ask hash_of own t.prefix (children_of t.page)))
  children = record { just = just_children; ascend = asks_ascend hash_of own theirs t.prefix t.page theirs_is }

-- ---- what is sent

-- the asks of a session that goes on
pub asks_sent : (stored : SessionValue → List Rattle.op_model.specs.Operation.Operation) (ks : List Rattle.replica_model.specs.Replica.Kept) (s : SessionValue)
    (prefixes : List (List ℕ)) → map (sent_as [] stored ks) (asks_for s prefixes) ≡ asks_at s prefixes
asks_sent stored ks s [] = refl
asks_sent stored ks s (p ∷ prefixes) = ap (λ ms. record { mail = Ask s p; of = no_snapshot } ∷ ms) (asks_sent stored ks s prefixes)

-- a turn that goes on was no last one
went_sent : (r : Replica) (o : Open) (c : DotValue → Bool) (f : Fetch) (asks : List Mail) → (went_on r o c f asks).outcome ≡ Sent
    → (went_on r o c f asks).replies ≡ asks
went_sent r o c f asks = by (is_complete f) _ _
  where
    by : (b : Bool) (x y : Replica) → (cond b (turn x Done []) (turn y Sent asks)).outcome ≡ Sent → (cond b (turn x Done []) (turn y Sent asks)).replies ≡ asks
    by true x y e = absurd cc
    by false x y e = refl

went_done : (r : Replica) (o : Open) (c : DotValue → Bool) (f : Fetch) (asks : List Mail) → is_complete f ≡ true → (went_on r o c f asks).outcome ≡ Done
went_done r o c f asks = by (is_complete f) _ _
  where
    by : (b : Bool) (x y : Replica) → b ≡ true → (cond b (turn x Done []) (turn y Sent asks)).outcome ≡ Done
    by true x y e = refl
    by false x y e = absurd cc

-- ---- an opening

module _ (hash_of : List ℕ → ℕ) (r : Replica) (o : Open) (context : DotValue → Bool) where
  -- where nothing waits the session is done
  done_at_once : (f : Fetch) → f.waiting ≡ finite.empty → (opening_taken hash_of r o context (fetch.Took f)).outcome ≡ Sent → ⊥
  done_at_once f none is =
      let outcome = went_done r o context f (asks_of o.session f) (empty_complete f none) in
      let apart = sym outcome ∙ is in absurd cc

  root_asked : (own : Held) (d : List ℕ) → let f : Fetch = record { waiting = finite.insert finite.empty [] d; built = own } in
      (opening_taken hash_of r o context (fetch.Took f)).outcome ≡ Sent → (opening_taken hash_of r o context (fetch.Took f)).replies
      ≡ asks_for o.session ([] ∷ [])
  root_asked own d is =
      let f : Fetch = record { waiting = finite.insert finite.empty [] d; built = own } in
      went_sent r o context f (asks_of o.session f) is ∙ ap (λ es. asks_for o.session (map (λ e. e.0) es)) (root_entries d)

  root_of : (root : Option (List ℕ)) → (opening_taken hash_of r o context (take_opening hash_of o.own o.seen context root)).outcome ≡ Sent
      → (opening_taken hash_of r o context (take_opening hash_of o.own o.seen context root)).replies ≡ asks_for o.session ([] ∷ [])
  root_of None is = absurd (done_at_once (record { waiting = finite.empty; built = finite.empty }) refl is)
  root_of (Some d) is = by (is_digest (digest_at hash_of o.own []) d) (within context (walk_under hash_of [] o.own)) is
    where
      taken_by : Bool → Bool → fetch.Taken
      taken_by b c = cond b (cond c (fetch.Took (record { waiting = finite.empty; built = o.own })) fetch.Mismatch)
          (fetch.Took (record { waiting = finite.insert finite.empty [] d; built = o.own }))

      by : (b c : Bool) → (opening_taken hash_of r o context (taken_by b c)).outcome ≡ Sent
          → (opening_taken hash_of r o context (taken_by b c)).replies ≡ asks_for o.session ([] ∷ [])
      by true true is = absurd (done_at_once (record { waiting = finite.empty; built = o.own }) refl is)
      by true false is = absurd cc
      by false c is = root_asked o.own d is

  first_asked : (root : Option (List ℕ)) (x : Option Accepted) → (took_first hash_of r o context root x).outcome ≡ Sent
      → (took_first hash_of r o context root x).replies ≡ asks_for o.session ([] ∷ [])
  first_asked root (Some a) is = absurd cc
  first_asked root None is = root_of root is

pub opening_asked : (hash_of : List ℕ → ℕ) (r : Replica) (s : SessionValue) (context : DotValue → Bool) (root : Option (List ℕ)) (x : Option Open)
    → ((o : Open) → x ≡ Some o → o.session ≡ s)
    → (took_opening hash_of r context root x).outcome ≡ Sent → (took_opening hash_of r context root x).replies ≡ asks_for s ([] ∷ [])
opening_asked hash_of r s context root None of is = absurd cc
opening_asked hash_of r s context root (Some o) of is = first_asked hash_of r o context root o.accepted is ∙ ap (λ t. asks_for t ([] ∷ [])) (of o refl)

-- a message that is not ignored is for the replica
pub for_it : (hash_of : List ℕ → ℕ) (own : Held) (r : Replica) (mail : Mail) → (delivered hash_of own r mail).outcome ≡ Sent
    → delivered hash_of own r mail ≡ taken hash_of own r mail
for_it hash_of own r mail is = by (is_for r.name mail) refl is
  where
    by : (b : Bool) → is_for r.name mail ≡ b → (cond b (taken hash_of own r mail) (ignored r)).outcome ≡ Sent
        → cond b (taken hash_of own r mail) (ignored r) ≡ taken hash_of own r mail
    by true e is = refl
    by false e is = absurd cc

the_same : {X : Type 0} (o : Option X) (x y : X) → o ≡ Some x → o ≡ Some y → x ≡ y
the_same o x y e f = let same : Some x ≡ Some y = sym e ∙ f in cc

-- what a delivery that goes on adds to the messages
module _ (hash_of : List ℕ → ℕ) (w v : World) (number name : ℕ) (m : Message) (there : message_at w.messages number ≡ Some m) (mail : Mail)
    (is_mail : m.mail ≡ mail) (d : Delivered hash_of w number name (Came Sent) v) where
  sent : d.outcome ≡ Sent
  sent = came_one d.outcome Sent (sym d.answers)

  is_it : d.message.mail ≡ mail
  is_it = ap (λ (x : Message). x.mail) (the_same (message_at w.messages number) d.message m d.there there) ∙ is_mail

  step_of : delivered hash_of d.own (w.replica name) mail ≡ turn d.new d.outcome d.out
  step_of = ap (delivered hash_of d.own (w.replica name)) (sym is_it) ∙ d.step

  outcome_of : (delivered hash_of d.own (w.replica name) mail).outcome ≡ Sent
  outcome_of = ap (λ (t : Turn). t.outcome) step_of ∙ sent

  adds : (s : SessionValue) (prefixes : List (List ℕ)) → (taken hash_of d.own (w.replica name) mail).replies ≡ asks_for s prefixes
      → v.messages ≡ w.messages ++ asks_at s prefixes
  adds s prefixes replies =
      let u = takes name (w.replica name) d.message.mail d.message.of d.outcome w in
      let out : d.out ≡ asks_for s prefixes = ap (λ (t : Turn). t.replies) (sym step_of)
      ∙ ap (λ (t : Turn). t.replies) (for_it hash_of d.own (w.replica name) mail outcome_of) ∙ replies in
      ap (λ (x : World). x.messages) d.after
      ∙ ap (λ ms. ms ++ map (sent_as [] u.kept d.new.kept) d.out) (same_messages w name (w.replica name) d.message.mail d.message.of d.outcome)
      ∙ ap (λ ms. w.messages ++ map (sent_as [] u.kept d.new.kept) ms) out
      ∙ ap (λ ms. w.messages ++ ms) (asks_sent u.kept d.new.kept s prefixes)

  taken_outcome : (taken hash_of d.own (w.replica name) mail).outcome ≡ Sent
  taken_outcome = ap (λ (t : Turn). t.outcome) (sym (for_it hash_of d.own (w.replica name) mail outcome_of)) ∙ outcome_of

pub openings_ask : OpeningsAsk
openings_ask hash_of events w v runs number name m s context root there is_mail happens =
    let d = delivery hash_of w v number name (Came Sent) happens in
    adds hash_of w v number name m there (Opening s context root) is_mail d s ([] ∷ [])
    (opening_asked hash_of (w.replica name) s context root (open_at (w.replica name).sessions s) (λ o e. (found_open (w.replica name).sessions s o e).1)
    (taken_outcome hash_of w v number name m there (Opening s context root) is_mail d))

-- ---- a page

pub record Went (hash_of : List ℕ → ℕ) (o : Open) (sent : SentValue) (t : Turn) : Type 0 where
  pub accepted : Accepted
  pub is_accepted : o.accepted ≡ Some accepted
  pub after : Fetch
  pub took : take_page hash_of o.own o.seen accepted.context accepted.fetch sent.prefix sent.page sent.values ≡ fetch.Took after
  pub replies : t.replies ≡ asks_for o.session (child_prefixes hash_of o sent)

pub page_went : (hash_of : List ℕ → ℕ) (r : Replica) (o : Open) (sent : SentValue) (x : Option Accepted) → o.accepted ≡ x
    → (took_further hash_of r o sent x).outcome ≡ Sent → Went hash_of o sent (took_further hash_of r o sent x)
page_went hash_of r o sent None e is = absurd cc
page_went hash_of r o sent (Some a) e is = by (take_page hash_of o.own o.seen a.context a.fetch sent.prefix sent.page sent.values) refl is
  where
    by : (t : fetch.Taken) → take_page hash_of o.own o.seen a.context a.fetch sent.prefix sent.page sent.values ≡ t
        → (page_taken hash_of r o a.context sent t).outcome ≡ Sent → Went hash_of o sent (page_taken hash_of r o a.context sent t)
    by fetch.Ignored e is = absurd cc
    by fetch.Mismatch e is = absurd cc
    by (fetch.Took f) t is = record {
      accepted = a;
      is_accepted = e;
      after = f;
      took = t;
      replies = went_sent r o a.context f (asks_for o.session (child_prefixes hash_of o sent)) is;
    }

pub pages_ask : PagesAsk
pages_ask hash_of events w v runs number name m s sent o there is_mail open_there clean happens =
    let d = delivery hash_of w v number name (Came Sent) happens in
    let found = found_open (w.replica name).sessions s o open_there in
    let tie = (told hash_of events w runs).sessions name o found.0 in
    let taken_is : taken hash_of d.own (w.replica name) (Page s sent) ≡ took_further hash_of (w.replica name) o sent o.accepted =
    ap (took_page hash_of (w.replica name) sent) open_there in
    let went = page_went hash_of (w.replica name) o sent o.accepted refl
    (ap (λ (t : Turn). t.outcome) (sym taken_is) ∙ taken_outcome hash_of w v number name m there (Page s sent) is_mail d) in
    let before : Fetched hash_of o.own o.seen went.accepted.context (digest_at hash_of (w.accepted s).map []) (w.taken s) went.accepted.fetch =
    subst (λ u. Fetched hash_of o.own o.seen went.accepted.context (digest_at hash_of (w.accepted u).map []) (w.taken u) went.accepted.fetch) found.1
    (tie.fetched went.accepted went.is_accepted).1 in (
      child_prefixes hash_of o sent,
      children hash_of o.own (w.accepted s).map o.seen went.accepted.context (map_lawful o.own _ tie.asked.0.own_then) (taking_of sent) (w.taken s)
          went.accepted.fetch went.after clean before went.took,
      adds hash_of w v number name m there (Page s sent) is_mail d s (child_prefixes hash_of o sent)
          (ap (λ (t : Turn). t.replies) taken_is ∙ went.replies ∙ ap (λ t. asks_for t (child_prefixes hash_of o sent)) found.1),
    )
