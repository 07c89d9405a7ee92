-- What a delivery comes to: it learns what a delta carries, it ends a session, or it leaves what was seen and the live state.
use Rattle.std.proofs.Common.{◌≡◌, ◌≢◌, ◌⊎◌, inl, inr, ℕ, List, [], ◌∷◌, length, Bool, true, Option, Some, None, refl, sym, ap, ◌∙◌, subst, arith}
use Rattle.std.specs.Prelude.{Contains, nat_lt}
use Rattle.std.specs.FinMap as finite
use Rattle.std.specs.FinMap.{get-entries}
use Rattle.std.specs.FinMap.Entries.{find}
use Rattle.std.proofs.lemmas.Bool.{ltb-true}
use Rattle.dots.specs.Dot.{DotValue}
use Rattle.hash_path.specs.Path.{prefix_cmp}
use Rattle.op_model.specs.Meaning.{MapState, greater}
use Rattle.op_model.specs.Operation.{Operation}
use Rattle.op_model.specs.State.{join}
use Rattle.wire_form.specs.Sent.{SentValue}
use Rattle.wire_form.specs.Session.{SessionValue}
use Rattle.prefix_digest.specs.Page.{digest_at}
use Rattle.sync_model.specs.Closing.{held_state}
use Rattle.sync_model.specs.Differ.{Held}
use Rattle.sync_model.specs.Fetch.{Fetch, take_opening, take_page}
use Rattle.sync_model.specs.Fetch as fetch
use Rattle.sync_model.specs.Laws.{Taking, Fetched}
use Rattle.replica_model.specs.Mail.{Mail, Delta, Hello, Opening, Ask, Page, Gone, IsTurnOf}
use Rattle.replica_model.specs.Replica.{Replica, Open, Accepted, open_at, closes, joins}
use Rattle.replica_model.specs.Delivery.{Joined, Done, Mismatch, Turn, turn, is_complete, ignored, delivered}
use Rattle.replica_model.specs.Sessions.{shown_by, taken_with}
use Rattle.replica_model.specs.World.{World, Snapshot, learns, own_of, ends, taking_of, takes}
use Rattle.replica_model.proofs.Found.{found_open}
use Rattle.replica_model.proofs.Rows.{IsNoDelta, each_row}
use Rattle.replica_model.proofs.Ties.{MailTie}
use Rattle.replica_model.proofs.Carried.{Ties}

-- a fetch that is complete waits for nothing
pub none_waits : (f : Fetch) → is_complete f ≡ true → (p : List ℕ) → finite.get f.waiting p ≡ None
none_waits f e p = get-entries f.waiting p ∙ step (finite.entries f.waiting) e
  where
    step : (es : List (List ℕ × List ℕ)) → nat_lt (length es) 1 ≡ true → find prefix_cmp p es ≡ None
    step [] e = refl
    step (x ∷ es) e = let less = ltb-true (length (x ∷ es)) 1 e in absurd (omega (arith, less))

module _ (hash_of : List ℕ → ℕ) (Snap : SessionValue → List Operation → Held → (DotValue → Bool) → Type 0)
    (Asked : ℕ → SessionValue → Held → (DotValue → Bool) → Type 0) (Sends : MapState → List Operation → Type 0) (w : World) (name : ℕ) where
  pub record Learns (mail : Mail) (of : Snapshot) (t : Turn) : Type 0 where
    pub joined : t.outcome ≡ Joined
    pub delta : MapState
    pub sends : Sends delta of.seen
    pub live : t.new.live ≡ join greater (w.replica name).live delta
    pub sets : takes name (w.replica name) mail of t.outcome w ≡ learns name of.seen w

  -- a session that ends: it is open and accepted an opening of this snapshot, and what it built waits for nothing more
  pub record Ending (mail : Mail) (of : Snapshot) (t : Turn) : Type 0 where
    pub session : Open
    pub there : Contains (w.replica name).sessions session
    pub of_it : IsTurnOf session.session mail
    pub context : DotValue → Bool
    pub fetched : Fetch
    pub complete : (p : List ℕ) → finite.get fetched.waiting p ≡ None
    pub snapshot : Snapshot
    pub which : (snapshot ≡ of) ⊎ (snapshot ≡ w.accepted session.session)
    pub shown : snapshot ≡ shown_by w of mail
    pub takings : List Taking
    pub pages : takings ≡ taken_with w mail
    pub snap : Snap session.session snapshot.seen snapshot.map context
    pub is_fetched : Fetched hash_of session.own session.seen context (digest_at hash_of snapshot.map []) takings fetched
    pub live : t.new.live ≡ join greater (w.replica name).live (held_state fetched.built context)
    pub sets : takes name (w.replica name) mail of t.outcome w ≡ ends name session.own snapshot takings w

  pub record Stays (mail : Mail) (of : Snapshot) (t : Turn) : Type 0 where
    pub not_done : t.outcome ≢ Done
    pub live : t.new.live ≡ (w.replica name).live
    pub seen : (takes name (w.replica name) mail of t.outcome w).seen ≡ w.seen
    pub closed : (takes name (w.replica name) mail of t.outcome w).closed ≡ w.closed

  abbrev pub Comes : Mail → Snapshot → Turn → Type 0
  Comes mail of t = Learns mail of t ⊎ (Ending mail of t ⊎ Stays mail of t)

  abbrev r : Replica
  r = w.replica name

  unmoved : (mail : Mail) (of : Snapshot) → IsNoDelta mail → Comes mail of (ignored r)
  unmoved (Delta d) of other = absurd other
  unmoved (Hello s seen) of other = inr (inr (record { not_done = λ e. absurd cc; live = refl; seen = refl; closed = refl }))
  unmoved (Opening s c root) of other = inr (inr (record { not_done = λ e. absurd cc; live = refl; seen = refl; closed = refl }))
  unmoved (Ask s p) of other = inr (inr (record { not_done = λ e. absurd cc; live = refl; seen = refl; closed = refl }))
  unmoved (Page s p) of other = inr (inr (record { not_done = λ e. absurd cc; live = refl; seen = refl; closed = refl }))
  unmoved (Gone s) of other = inr (inr (record { not_done = λ e. absurd cc; live = refl; seen = refl; closed = refl }))

  mismatched : (mail : Mail) (of : Snapshot) → IsNoDelta mail → Comes mail of (turn r Mismatch [])
  mismatched (Delta d) of other = absurd other
  mismatched (Hello s seen) of other = inr (inr (record { not_done = λ e. absurd cc; live = refl; seen = refl; closed = refl }))
  mismatched (Opening s c root) of other = inr (inr (record { not_done = λ e. absurd cc; live = refl; seen = refl; closed = refl }))
  mismatched (Ask s p) of other = inr (inr (record { not_done = λ e. absurd cc; live = refl; seen = refl; closed = refl }))
  mismatched (Page s p) of other = inr (inr (record { not_done = λ e. absurd cc; live = refl; seen = refl; closed = refl }))
  mismatched (Gone s) of other = inr (inr (record { not_done = λ e. absurd cc; live = refl; seen = refl; closed = refl }))

  module _ (t : Ties hash_of Snap Asked Sends w) where
    opening_ends : (s : SessionValue) (c : DotValue → Bool) (root : Option (List ℕ)) (o : Open) (f : Fetch) → open_at r.sessions s ≡ Some o
        → take_opening hash_of o.own o.seen c root ≡ fetch.Took f → is_complete f ≡ true
        → (of : Snapshot) → MailTie hash_of Snap Asked Sends (Opening s c root) of
        → Comes (Opening s c root) of (turn (closes (joins r (held_state f.built c)) o.session) Done [])
    opening_ends s c root o f there took complete of tie =
        let found = found_open r.sessions s o there in
        inr (inl (record {
          session = o;
          there = found.0;
          of_it = found.1;
          context = c;
          fetched = f;
          complete = none_waits f complete;
          snapshot = of;
          which = inl refl;
          shown = refl;
          takings = [];
          pages = refl;
          snap = subst (λ u. Snap u of.seen of.map c) (sym found.1) tie.0;
          is_fetched = subst (λ d. take_opening hash_of o.own o.seen c d ≡ fetch.Took f) tie.1 took;
          live = refl;
          sets = ap (λ x. ends name (own_of x) of [] w) there;
        }))

    page_ends : (s : SessionValue) (sent : SentValue) (o : Open) (a : Accepted) (f : Fetch) → open_at r.sessions s ≡ Some o → o.accepted ≡ Some a
        → take_page hash_of o.own o.seen a.context a.fetch sent.prefix sent.page sent.values ≡ fetch.Took f → is_complete f ≡ true
        → (of : Snapshot) → Comes (Page s sent) of (turn (closes (joins r (held_state f.built a.context)) o.session) Done [])
    page_ends s sent o a f there accepted took complete of =
        let found = found_open r.sessions s o there in
        let before = (t.sessions name o found.0).fetched a accepted in
        inr (inl (record {
          session = o;
          there = found.0;
          of_it = found.1;
          context = a.context;
          fetched = f;
          complete = none_waits f complete;
          snapshot = w.accepted o.session;
          which = inr refl;
          shown = ap w.accepted found.1;
          takings = taking_of sent ∷ w.taken o.session;
          pages = ap (λ u. taking_of sent ∷ w.taken u) found.1;
          snap = before.0;
          is_fetched = (a.fetch, before.1, took);
          live = refl;
          sets = ap (λ x. ends name (own_of x) (w.accepted s) (taking_of sent ∷ w.taken s) w) there
              ∙ ap (λ u. ends name o.own (w.accepted u) (taking_of sent ∷ w.taken u) w) (sym found.1);
        }))

    pub comes : (own : Held) (mail : Mail) (of : Snapshot) → MailTie hash_of Snap Asked Sends mail of → Comes mail of (delivered hash_of own r mail)
    comes own = each_row hash_of own r (λ mail x. (of : Snapshot) → MailTie hash_of Snap Asked Sends mail of → Comes mail of x) (record {
      ignoring = λ mail other of tie. unmoved mail of other;
      mismatch = λ mail other of tie. mismatched mail of other;
      delta = λ d of tie. inl (record { joined = refl; delta = d; sends = tie; live = refl; sets = refl });
      told_again = λ s seen k e of tie. inr (inr (record { not_done = λ e. absurd cc; live = refl; seen = refl; closed = refl }));
      kept = λ s seen here none of tie. inr (inr (record { not_done = λ e. absurd cc; live = refl; seen = refl; closed = refl }));
      gone = λ s p of tie. inr (inr (record { not_done = λ e. absurd cc; live = refl; seen = refl; closed = refl }));
      page = λ s p k page of tie. inr (inr (record { not_done = λ e. absurd cc; live = refl; seen = refl; closed = refl }));
      opening_done = λ s c root o f there first took complete of tie. opening_ends s c root o f there took complete of tie;
      opening_sent = λ s c root o f there first took of tie. inr (inr (record { not_done = λ e. absurd cc; live = refl; seen = refl; closed = refl }));
      page_done = λ s sent o a f there accepted took complete of tie. page_ends s sent o a f there accepted took complete of;
      page_sent = λ s sent o a f there accepted took of tie. inr (inr (record { not_done = λ e. absurd cc; live = refl; seen = refl; closed = refl }));
      ended = λ s o there of tie. inr (inr (record { not_done = λ e. absurd cc; live = refl; seen = refl; closed = refl }));
    })
