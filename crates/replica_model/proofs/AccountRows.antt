-- A delivery goes on with an account as it goes on with the sets, by the rows of the table.
use Rattle.std.proofs.Common.{◌≡◌, ◌≢◌, ℕ, ◌==◌, List, [], ◌∷◌, map, Bool, true, false, Some, None, cond, refl, sym, ap, ◌∙◌, subst}
use Rattle.std.specs.Prelude.{Contains}
use Rattle.std.specs.Option.{unwrap_or}
use Rattle.dots.specs.Dot.{DotValue}
use Rattle.op_model.specs.Operation.{Operation}
use Rattle.op_model.specs.World.{grown}
use Rattle.prefix_digest.specs.MapOf.{map_of}
use Rattle.wire_form.specs.Sent.{SentValue}
use Rattle.wire_form.specs.Session.{SessionValue, same_session}
use Rattle.sync_model.specs.Differ.{Held}
use Rattle.replica_model.specs.Mail.{Mail, Delta, Hello, Opening, Ask, Page, Gone}
use Rattle.replica_model.specs.Replica.{Replica, Open, Accepted, Kept, open_at, kept_at, keeping, keeps}
use Rattle.replica_model.specs.Delivery.{Outcome, Joined, Sent, Ignored, Mismatch, Turn, turn, opening_of, page_for, delivered}
use Rattle.replica_model.specs.World.{World, Snapshot, snapshot_with, first_kept, own_of, taking_of}
use Rattle.replica_model.specs.World as world
use Rattle.replica_model.specs.Seen.{Account, kept_for, opens_with}
use Rattle.replica_model.specs.Seen as seen
use Rattle.replica_model.proofs.Found.{found_open, none_kept, kept_new, answerers_apart, changed_here, changed_elsewhere, changed_to_same}
use Rattle.replica_model.proofs.Rows.{snapshot, each_row}
use Rattle.replica_model.proofs.AccountBytes.{kind_for, session_for, SpellsPage}
use Rattle.replica_model.proofs.AccountMet.{ArePages, CleanClosed, no_clash_told, clean_next}
use Rattle.replica_model.proofs.AccountKept.{kept_as, same_kept, none_for, some_for, told_keeping}
use Rattle.replica_model.proofs.AccountTold.{IsTold, Follows, unmoved, AllCarry, none_carries, one_carries, asks_carry, at_name, at_other}

-- a delta is joined, whoever takes it
abbrev pub JoinsDelta : Mail → Outcome → Type 0
JoinsDelta (Delta d) outcome = outcome ≡ Joined
JoinsDelta (Hello s known) outcome = Unit {0}
JoinsDelta (Opening s context root) outcome = Unit {0}
JoinsDelta (Ask s prefix) outcome = Unit {0}
JoinsDelta (Page s page) outcome = Unit {0}
JoinsDelta (Gone s) outcome = Unit {0}

pub joins_delta : (hash_of : List ℕ → ℕ) (own : Held) (r : Replica) (mail : Mail) → JoinsDelta mail (delivered hash_of own r mail).outcome
joins_delta hash_of own r (Delta d) = refl
joins_delta hash_of own r (Hello s known) = tt
joins_delta hash_of own r (Opening s context root) = tt
joins_delta hash_of own r (Ask s prefix) = tt
joins_delta hash_of own r (Page s page) = tt
joins_delta hash_of own r (Gone s) = tt

-- an opening shows the map of what it carries, where nothing clashed
abbrev pub ShowsMap : Type 0 → Mail → Snapshot → Type 0
ShowsMap Clean (Delta d) of = Unit {0}
ShowsMap Clean (Hello s known) of = Unit {0}
ShowsMap Clean (Opening s context root) of = Clean → of.map ≡ map_of of.seen
ShowsMap Clean (Ask s prefix) of = Unit {0}
ShowsMap Clean (Page s page) of = Unit {0}
ShowsMap Clean (Gone s) of = Unit {0}

-- an opening that is sent carries what is told of the snapshot that is kept
opening_carries : (hash_of : List ℕ → ℕ) (told : List seen.Snapshot) (f : SessionValue → List Operation) (ks : List Kept) (s : SessionValue) (k : Kept)
    → told ≡ map (kept_as f) ks → kept_at ks s ≡ Some k → AllCarry [] f ks (opening_of hash_of k ∷ []) (unwrap_or (kept_for told s) [])
opening_carries hash_of told f ks s k e some =
    one_carries [] f ks (opening_of hash_of k) _ (sym (ap (λ o. unwrap_or o []) (ap (λ l. kept_for l s) e ∙ some_for f ks s k some)))

-- by session, where one changed
by_session : {A B : Type 0} (P : A → B → Type 0) (f : SessionValue → A) (g : SessionValue → B) (s : SessionValue) (x : A) (y : B) → P x y
    → ((t : SessionValue) → P (f t) (g t)) → (t : SessionValue) → P (world.changed f s x t) (world.changed g s y t)
by_session P f g s x y here there t = by (same_session t s)
  where
    by : (b : Bool) → P (cond b x (f t)) (cond b y (g t))
    by true = here
    by false = there t

module _ (hash_of : List ℕ → ℕ) (a : Account) (w : World) (name : ℕ) (told : IsTold hash_of a w) (named : (w.replica name).name ≡ name)
    (answerers : (n : ℕ) (k : Kept) → Contains (w.replica n).kept k → k.session.answerer ≡ n) (of : Snapshot) (bytes : List ℕ) (d : SessionValue) where
  abbrev r : Replica
  r = w.replica name

  abbrev Clean : Type 0
  Clean = CleanClosed hash_of w.closed

  -- the account and the sets after a delivery
  abbrev pub account_after : Mail → Outcome → Account
  account_after mail outcome = seen.takes (kind_for mail) outcome name (session_for d mail) of.seen bytes a

  abbrev pub sets_after : Mail → Outcome → World
  sets_after mail outcome = world.takes name (w.replica name) mail of outcome w

  -- what is told that its replies carry
  abbrev pub carries_after : Mail → Outcome → List Operation
  carries_after mail outcome = opens_with (kind_for mail) (unwrap_or (kept_for ((account_after mail outcome).kept name) (session_for d mail)) [])

  pub record Row (mail : Mail) (t : Turn) : Type 0 where
    pub follows : Follows hash_of (account_after mail t.outcome) (sets_after mail t.outcome) name t.new
    pub asked : (account_after mail t.outcome).asked ≡ a.asked
    pub sent : AllCarry [] (sets_after mail t.outcome).kept t.new.kept t.replies (carries_after mail t.outcome)

  -- what is asked of a message
  abbrev pub Fits : Mail → Outcome → Type 0
  Fits mail outcome = JoinsDelta mail outcome × SpellsPage bytes mail × ShowsMap Clean mail of

  -- nothing learnt, and nothing sent
  ignored_row : (mail : Mail) → JoinsDelta mail Ignored → Row mail (turn r Ignored [])
  ignored_row (Delta x) joined = absurd cc
  ignored_row (Hello s known) joined = record { follows = unmoved hash_of a w name r told refl; asked = refl; sent = none_carries [] w.kept r.kept _ }
  ignored_row (Opening s context root) joined = record { follows = unmoved hash_of a w name r told refl; asked = refl; sent = none_carries [] w.kept r.kept _ }
  ignored_row (Ask s prefix) joined = record { follows = unmoved hash_of a w name r told refl; asked = refl; sent = none_carries [] w.kept r.kept _ }
  ignored_row (Page s page) joined = record { follows = unmoved hash_of a w name r told refl; asked = refl; sent = none_carries [] w.kept r.kept _ }
  ignored_row (Gone s) joined = record { follows = unmoved hash_of a w name r told refl; asked = refl; sent = none_carries [] w.kept r.kept _ }

  mismatch_row : (mail : Mail) → JoinsDelta mail Mismatch → Row mail (turn r Mismatch [])
  mismatch_row (Delta x) joined = absurd cc
  mismatch_row (Hello s known) joined = record { follows = unmoved hash_of a w name r told refl; asked = refl; sent = none_carries [] w.kept r.kept _ }
  mismatch_row (Opening s context root) joined = record { follows = unmoved hash_of a w name r told refl; asked = refl; sent = none_carries [] w.kept r.kept _ }
  mismatch_row (Ask s prefix) joined = record { follows = unmoved hash_of a w name r told refl; asked = refl; sent = none_carries [] w.kept r.kept _ }
  mismatch_row (Page s page) joined = record { follows = unmoved hash_of a w name r told refl; asked = refl; sent = none_carries [] w.kept r.kept _ }
  mismatch_row (Gone s) joined = record { follows = unmoved hash_of a w name r told refl; asked = refl; sent = none_carries [] w.kept r.kept _ }

  learnt : (S : List Operation) (new : Replica) → new.kept ≡ r.kept → Follows hash_of (seen.learns name S a) (world.learns name S w) name new
  learnt S new same = record {
    nodes = told.nodes;
    seen = λ i n. grown (n == name) (told.seen i n) S;
    unsent = told.unsent;
    here = told.kept name ∙ ap (map (kept_as w.kept)) (sym same);
    there = λ n apart. told.kept n;
    opened = told.opened;
    pages = told.pages;
    clean = told.clean;
  }

  -- ---- a hello

  module _ (s : SessionValue) where
    abbrev first : List Operation
    first = first_kept (kept_at r.kept s) (w.kept s) (w.seen name)

    abbrev kept_then : SessionValue → List Operation
    kept_then = world.changed w.kept s first

    abbrev told_then : ℕ → List seen.Snapshot
    told_then n = seen.keeping (a.kept n) s (a.seen n) (kept_for (a.kept n) s)

    kept_follows : (new : Replica) → told_then name ≡ map (kept_as kept_then) new.kept
        → ((n : ℕ) → n ≢ name → map (kept_as w.kept) (w.replica n).kept ≡ map (kept_as kept_then) (w.replica n).kept)
        → Follows hash_of (seen.keeps name s a) (world.keeps name r s w) name new
    kept_follows new here there = record {
      nodes = told.nodes;
      seen = told.seen;
      unsent = told.unsent;
      here = at_name name (told_then name) (a.kept name) ∙ here;
      there = λ n apart. at_other n name (told_then n) (a.kept n) apart ∙ told.kept n ∙ there n apart;
      opened = told.opened;
      pages = told.pages;
      clean = told.clean;
    }

    again_row : (known : DotValue → Bool) (k : Kept) → kept_at r.kept s ≡ Some k
        → Row (Hello s known) (turn r Sent (opening_of hash_of k ∷ []))
    again_row known k e =
        let still : first ≡ w.kept s = ap (λ o. first_kept o (w.kept s) (w.seen name)) e in
        let same : w.kept ≡ kept_then = λ i t. sym (changed_to_same w.kept s first (sym still) t) i in
        let found : kept_for (a.kept name) s ≡ Some (w.kept k.session) = ap (λ l. kept_for l s) (told.kept name) ∙ some_for w.kept r.kept s k e in
        let here : told_then name ≡ map (kept_as kept_then) r.kept =
        ap (seen.keeping (a.kept name) s (a.seen name)) found ∙ told.kept name ∙ ap (λ f. map (kept_as f) r.kept) same in
        record {
          follows = kept_follows r here (λ n apart. ap (λ f. map (kept_as f) (w.replica n).kept) same);
          asked = refl;
          sent = opening_carries hash_of _ kept_then r.kept s k (at_name name (told_then name) (a.kept name) ∙ here) e;
        }

    kept_row : (own : Held) (known : DotValue → Bool) → s.answerer ≡ r.name → kept_at r.kept s ≡ None
        → Row (Hello s known)
        (turn (keeps r (snapshot own r s known)) Sent
        (opening_of hash_of (snapshot own r s known) ∷ []))
    kept_row own known for_it none =
        let k = snapshot own r s known in
        let now : first ≡ w.seen name = ap (λ o. first_kept o (w.kept s) (w.seen name)) none in
        let mine : a.seen name ≡ kept_then s = ap (λ f. f name) told.seen ∙ sym now ∙ sym (changed_here w.kept s first s refl) in
        let others : a.kept name ≡ map (kept_as kept_then) r.kept =
        told.kept name ∙ same_kept w.kept kept_then r.kept (λ j h. sym (changed_elsewhere w.kept s first j.session (none_kept r.kept s j none h))) in
        let found : kept_for (a.kept name) s ≡ None = ap (λ l. kept_for l s) (told.kept name) ∙ none_for w.kept r.kept s none in
        let here : told_then name ≡ map (kept_as kept_then) (keeping k r.kept) =
        (λ i. seen.keeping (others i) s (mine i) (found i)) ∙ told_keeping kept_then r.kept k in
        record {
          follows = kept_follows (keeps r k) here
              (λ n apart. same_kept w.kept kept_then (w.replica n).kept (λ j h. sym (changed_elsewhere w.kept s first j.session
              (answerers_apart j.session s (λ e. apart (sym (answerers n j h) ∙ e ∙ for_it ∙ named))))));
          asked = refl;
          sent = opening_carries hash_of _ kept_then (keeping k r.kept) s k (at_name name (told_then name) (a.kept name) ∙ here)
              (kept_new r.kept k s none refl);
        }

  -- ---- an opening, and a page

  module _ (owns : Clean → (o : Open) → Contains r.sessions o → o.own ≡ map_of (a.asked o.session))
      (accepts : Clean → (o : Open) (x : Accepted) → Contains r.sessions o → o.accepted ≡ Some x
      → (w.accepted o.session).map ≡ map_of (w.accepted o.session).seen) where
    -- the map of an open session is that of what is told that its asker had seen
    own_is : (s : SessionValue) (o : Open) → open_at r.sessions s ≡ Some o → Clean → own_of (open_at r.sessions s) ≡ map_of (a.asked s)
    own_is s o there clean =
        let found = found_open r.sessions s o there in
        ap own_of there ∙ owns clean o found.0 ∙ ap (λ t. map_of (a.asked t)) found.1

    opening_ends : (s : SessionValue) (o : Open) (new : Replica) → open_at r.sessions s ≡ Some o → (Clean → of.map ≡ map_of of.seen) → new.kept ≡ r.kept
        → Follows hash_of (seen.ends name s of.seen [] a) (world.ends name (own_of (open_at r.sessions s)) of [] w) name new
    opening_ends s o new there shown same =
        let m : seen.Met = record { own = a.asked s; theirs = of.seen; pages = [] } in
        let x : world.Met = record { own = own_of (open_at r.sessions s); theirs = of.map; takings = [] } in
        record {
          nodes = told.nodes;
          seen = λ i n. grown (n == name) (told.seen i n) of.seen;
          unsent = told.unsent;
          here = told.kept name ∙ ap (map (kept_as w.kept)) (sym same);
          there = λ n apart. told.kept n;
          opened = told.opened;
          pages = told.pages;
          clean = clean_next hash_of a.met w.closed told.clean m x (λ clean. no_clash_told hash_of m x tt (own_is s o there clean) (shown clean));
        }

    opening_taken : (s : SessionValue) (new : Replica) → new.kept ≡ r.kept
        → Follows hash_of (record a { opened = world.changed a.opened s of.seen; pages = world.changed a.pages s [] }) (world.accepts s of w) name new
    opening_taken s new same = record {
      nodes = told.nodes;
      seen = told.seen;
      unsent = told.unsent;
      here = told.kept name ∙ ap (map (kept_as w.kept)) (sym same);
      there = λ n apart. told.kept n;
      opened = by_session (λ (S : List Operation) (x : Snapshot). S ≡ x.seen) a.opened w.accepted s of.seen of refl told.opened;
      pages = by_session ArePages a.pages w.taken s [] [] tt told.pages;
      clean = told.clean;
    }

    page_ends : (s : SessionValue) (page : SentValue) (o : Open) (x : Accepted) (new : Replica) → open_at r.sessions s ≡ Some o → o.accepted ≡ Some x
        → SpellsPage bytes (Page s page) → new.kept ≡ r.kept
        → Follows hash_of (seen.ends name s (a.opened s) (bytes ∷ a.pages s) a)
        (world.ends name (own_of (open_at r.sessions s)) (w.accepted s) (taking_of page ∷ w.taken s) w) name new
    page_ends s page o x new there accepted spells same =
        let found = found_open r.sessions s o there in
        let m : seen.Met = record { own = a.asked s; theirs = a.opened s; pages = bytes ∷ a.pages s } in
        let y : world.Met =
        record { own = own_of (open_at r.sessions s); theirs = (w.accepted s).map; takings = taking_of page ∷ w.taken s } in
        let theirs : Clean → (w.accepted s).map ≡ map_of (a.opened s) =
        λ clean. subst (λ t. (w.accepted t).map ≡ map_of (w.accepted t).seen) found.1 (accepts clean o x found.0 accepted)
        ∙ ap map_of (sym (told.opened s)) in
        record {
          nodes = told.nodes;
          seen = λ i n. grown (n == name) (told.seen i n) (told.opened s i);
          unsent = told.unsent;
          here = told.kept name ∙ ap (map (kept_as w.kept)) (sym same);
          there = λ n apart. told.kept n;
          opened = told.opened;
          pages = told.pages;
          clean = clean_next hash_of a.met w.closed told.clean m y
              (λ clean. no_clash_told hash_of m y ((s, page, spells, refl), told.pages s) (own_is s o there clean) (theirs clean));
        }

    page_taken : (s : SessionValue) (page : SentValue) (new : Replica) → SpellsPage bytes (Page s page) → new.kept ≡ r.kept
        → Follows hash_of (record a { pages = world.changed a.pages s (bytes ∷ a.pages s) }) (world.takes_page s page w) name new
    page_taken s page new spells same = record {
      nodes = told.nodes;
      seen = told.seen;
      unsent = told.unsent;
      here = told.kept name ∙ ap (map (kept_as w.kept)) (sym same);
      there = λ n apart. told.kept n;
      opened = told.opened;
      pages = by_session ArePages a.pages w.taken s (bytes ∷ a.pages s) (taking_of page ∷ w.taken s) ((s, page, spells, refl), told.pages s) told.pages;
      clean = told.clean;
    }

    pub row : (own : Held) (mail : Mail) → Fits mail (delivered hash_of own r mail).outcome → Row mail (delivered hash_of own r mail)
    row own = each_row hash_of own r (λ mail t. Fits mail t.outcome → Row mail t) (record {
      ignoring = λ mail other fits. ignored_row mail fits.0;
      mismatch = λ mail other fits. mismatch_row mail fits.0;
      delta = λ x fits. record { follows = learnt of.seen _ refl; asked = refl; sent = none_carries [] w.kept r.kept _ };
      told_again = λ s known k e fits. again_row s known k e;
      kept = λ s known here none fits. kept_row s own known here none;
      gone = λ s p fits. record { follows = unmoved hash_of a w name r told refl; asked = refl; sent = one_carries [] w.kept r.kept (Gone s) [] refl };
      page = λ s p k page fits. record {
        follows = unmoved hash_of a w name r told refl;
        asked = refl;
        sent = one_carries [] w.kept r.kept (page_for hash_of s k p page) [] refl;
      };
      opening_done = λ s c root o f there first took complete fits. record {
        follows = opening_ends s o _ there fits.2 refl;
        asked = refl;
        sent = none_carries [] w.kept r.kept _;
      };
      opening_sent = λ s c root o f there first took fits. record {
        follows = opening_taken s _ refl;
        asked = refl;
        sent = asks_carry [] w.kept r.kept o.session _;
      };
      page_done = λ s page o x f there accepted took complete fits. record {
        follows = page_ends s page o x _ there accepted fits.1 refl;
        asked = refl;
        sent = none_carries [] w.kept r.kept _;
      };
      page_sent = λ s page o x f there accepted took fits. record {
        follows = page_taken s page _ fits.1 refl;
        asked = refl;
        sent = asks_carry [] w.kept r.kept o.session _;
      };
      ended = λ s o there fits. record { follows = unmoved hash_of a w name _ told refl; asked = refl; sent = none_carries [] w.kept r.kept _ };
    })
