-- A snapshot that a replica by itself keeps is what it was when it kept it, and an ask is told the page of it.
use Rattle.std.proofs.Common.{◌≡◌, ◌⊎◌, inl, inr, ℕ, List, [], ◌∷◌, ◌++◌, map, Some, None, refl, sym, ap, ◌∙◌, subst, append_assoc, eq-eqb}
use Rattle.std.specs.Prelude.{Contains, Bool}
use Rattle.dots.specs.Dot.{DotValue}
use Rattle.op_model.specs.Operation.{Operation}
use Rattle.op_model.proofs.Members.{nothing_in}
use Rattle.wire_form.specs.Page.{PageValue}
use Rattle.wire_form.specs.Session.{SessionValue}
use Rattle.prefix_digest.specs.MapOf.{IsMapOf}
use Rattle.prefix_digest.specs.Page.{page_at}
use Rattle.sync_model.specs.Differ.{Held}
use Rattle.replica_model.specs.Alone.{Deed, Calls, Comes, Befalls, RunsAlone}
use Rattle.replica_model.specs.Delivery.{Sent, Ignored, Mismatch, Turn, turn, page_for, answered, took_ask, delivered}
use Rattle.replica_model.specs.Mail.{Mail, Delta, Hello, Opening, Page, Gone}
use Rattle.replica_model.specs.Mail as mail
use Rattle.replica_model.specs.Replica.{Replica, Kept, kept_at}
use Rattle.replica_model.specs.Step.{Call, Put, Remove, RemoveField, Clear, Flush, Ask, Retry, Abandon, Restart, Answer, Came}
use Rattle.replica_model.specs.World.{World, Snapshot, no_snapshot, first_kept, changed, nothing, calls, takes, sent_as}
use Rattle.replica_model.proofs.Askers.{call_kept}
use Rattle.replica_model.proofs.Carried.{same_messages}
use Rattle.replica_model.proofs.Found.{found_kept, in_keeping, none_kept, changed_here, changed_elsewhere, changed_to_same}
use Rattle.replica_model.proofs.Rows.{snapshot, each_row}
use Rattle.replica_model.proofs.SessionsAlone.{by_deeds, tied}
use Rattle.replica_model.proofs.Taking.{for_it}
use Rattle.replica_alone.specs.Kept.{IsSnapshotAlone, SnapshotsAreForAlone, TellsPagesAlone}
use Rattle.replica_alone.proofs.Deeds.{CameNow, called_now, came_now}

-- ---- what a delivery does to what is kept

module _ (hash_of : List ℕ → ℕ) (name : ℕ) (w : World) (own : Held) where
  abbrev r : Replica
  r = w.replica name

  -- a snapshot that was kept before, with what had been seen then
  record WasKept (mail : Mail) (t : Turn) (of : Snapshot) (k : Kept) : Type 0 where
    there : Contains r.kept k
    seen : (takes name r mail of t.outcome w).kept k.session ≡ w.kept k.session

  -- one that is kept now, at a hello
  record KeptNow (mail : Mail) (t : Turn) (of : Snapshot) (k : Kept) : Type 0 where
    hello : mail ≡ Hello k.session k.seen
    answerer : k.session.answerer ≡ r.name
    none : kept_at r.kept k.session ≡ None
    map : k.map ≡ own
    context : k.context ≡ r.live.has
    seen : (takes name r mail of t.outcome w).kept k.session ≡ w.seen name

  abbrev Keeps : Mail → Turn → Type 0
  Keeps mail t = (of : Snapshot) (k : Kept) → Contains t.new.kept k → WasKept mail t of k ⊎ KeptNow mail t of k

  unmoved : (mail : Mail) (of : Snapshot) → (takes name r mail of Ignored w).kept ≡ w.kept
  unmoved (Delta d) of = refl
  unmoved (Hello s seen) of = refl
  unmoved (Opening s context root) of = refl
  unmoved (mail.Ask s prefix) of = refl
  unmoved (Page s sent) of = refl
  unmoved (Gone s) of = refl

  mismatched : (mail : Mail) (of : Snapshot) → (takes name r mail of Mismatch w).kept ≡ w.kept
  mismatched (Delta d) of = refl
  mismatched (Hello s seen) of = refl
  mismatched (Opening s context root) of = refl
  mismatched (mail.Ask s prefix) of = refl
  mismatched (Page s sent) of = refl
  mismatched (Gone s) of = refl

  told_again : (s : SessionValue) (k : Kept) → kept_at r.kept s ≡ Some k → (t : SessionValue)
      → changed w.kept s (first_kept (kept_at r.kept s) (w.kept s) (w.seen name)) t ≡ w.kept t
  told_again s k is t =
      changed_to_same w.kept s (first_kept (kept_at r.kept s) (w.kept s) (w.seen name)) (sym (ap (λ o. first_kept o (w.kept s) (w.seen name)) is)) t

  keeps_now : (s : SessionValue) (seen : DotValue → Bool) → s.answerer ≡ r.name → kept_at r.kept s ≡ None → (t : Turn) → t.outcome ≡ Sent → (of : Snapshot)
      (k : Kept) → Contains r.kept k ⊎ (k ≡ snapshot own r s seen) → WasKept (Hello s seen) t of k ⊎ KeptNow (Hello s seen) t of k
  keeps_now s seen here none t sent of k (inl there) =
      inl (record {
        there = there;
        seen = ap (λ o. (takes name r (Hello s seen) of o w).kept k.session) sent
            ∙ changed_elsewhere w.kept s (first_kept (kept_at r.kept s) (w.kept s) (w.seen name)) k.session (none_kept r.kept s k none there);
      })
  keeps_now s seen here none t sent of k (inr e) =
      let session : k.session ≡ s = ap (λ (x : Kept). x.session) e in
      inr (record {
        hello = ap (λ (x : Kept). Hello x.session x.seen) (sym e);
        answerer = ap (λ (x : SessionValue). x.answerer) session ∙ here;
        none = ap (kept_at r.kept) session ∙ none;
        map = ap (λ (x : Kept). x.map) e;
        context = ap (λ (x : Kept). x.context) e;
        seen = ap (λ o. (takes name r (Hello s seen) of o w).kept k.session) sent
            ∙ changed_here w.kept s (first_kept (kept_at r.kept s) (w.kept s) (w.seen name)) k.session session
            ∙ ap (λ o. first_kept o (w.kept s) (w.seen name)) none;
      })

  delivery_keeps : (mail : Mail) → Keeps mail (delivered hash_of own r mail)
  delivery_keeps = each_row hash_of own r Keeps (record {
    ignoring = λ mail other of k h. inl (record { there = h; seen = ap (λ f. f k.session) (unmoved mail of) });
    mismatch = λ mail other of k h. inl (record { there = h; seen = ap (λ f. f k.session) (mismatched mail of) });
    delta = λ d of k h. inl (record { there = h; seen = refl });
    told_again = λ s seen j is of k h. inl (record { there = h; seen = told_again s j is k.session });
    kept = λ s seen here none of k h. keeps_now s seen here none _ refl of k (in_keeping (snapshot own r s seen) r.kept k h);
    gone = λ s p of k h. inl (record { there = h; seen = refl });
    page = λ s p j page of k h. inl (record { there = h; seen = refl });
    opening_done = λ s c root o f there first took complete of k h. inl (record { there = h; seen = refl });
    opening_sent = λ s c root o f there first took of k h. inl (record { there = h; seen = refl });
    page_done = λ s sent o a f there accepted took complete of k h. inl (record { there = h; seen = refl });
    page_sent = λ s sent o a f there accepted took of k h. inl (record { there = h; seen = refl });
    ended = λ s o there of k h. inl (record { there = h; seen = refl });
  })

-- ---- and a call

kept_stays : (name : ℕ) (c : Call) (w : World) → (calls name c w).kept ≡ w.kept
kept_stays name (Put place value) w = refl
kept_stays name (Remove key) w = refl
kept_stays name (RemoveField place) w = refl
kept_stays name Clear w = refl
kept_stays name Flush w = refl
kept_stays name (Ask peer) w = refl
kept_stays name (Retry number) w = refl
kept_stays name (Abandon number) w = refl
kept_stays name Restart w = refl

-- ---- deeds

module _ (hash_of : List ℕ → ℕ) (name : ℕ) where
  abbrev AllKept : List Deed → World → Type 0
  AllKept deeds w = (k : Kept) → Contains (w.replica name).kept k → IsSnapshotAlone hash_of name deeds k.session k.seen (w.kept k.session) k.map k.context

  pub taken_more : (deeds : List Deed) (d : Deed) (s : SessionValue) (told : DotValue → Bool) (S : List Operation) (m : Held) (c : DotValue → Bool)
      → IsSnapshotAlone hash_of name deeds s told S m c → IsSnapshotAlone hash_of name (deeds ++ d ∷ []) s told S m c
  taken_more deeds d s told S m c t = record {
    answerer = t.answerer;
    front = t.front;
    of = t.of;
    later = t.later ++ d ∷ [];
    split = ap (λ x. x ++ d ∷ []) t.split ∙ append_assoc t.front (Comes (Hello s told) t.of ∷ t.later) (d ∷ []);
    before = t.before;
    runs = t.runs;
    none_kept = t.none_kept;
    seen_then = t.seen_then;
    map_then = t.map_then;
    known_then = t.known_then;
  }

  kept_more : (deeds : List Deed) (d : Deed) (w v : World) (k : Kept) → v.kept k.session ≡ w.kept k.session
      → IsSnapshotAlone hash_of name deeds k.session k.seen (w.kept k.session) k.map k.context
      → IsSnapshotAlone hash_of name (deeds ++ d ∷ []) k.session k.seen (v.kept k.session) k.map k.context
  kept_more deeds d w v k same t =
      subst (λ S. IsSnapshotAlone hash_of name (deeds ++ d ∷ []) k.session k.seen S k.map k.context) (sym same)
      (taken_more deeds d k.session k.seen (w.kept k.session) k.map k.context t)

  kept_next : (deeds : List Deed) (w v : World) (d : Deed) (answer : Answer) → RunsAlone hash_of name nothing deeds w → AllKept deeds w
      → Befalls hash_of name w d answer v → AllKept (deeds ++ d ∷ []) v
  kept_next deeds w v (Calls c) answer runs all befalls k h =
      let d = called_now hash_of name w v c answer befalls in
      let there = call_kept (w.replica name) d.new c answer d.out d.step k (subst (λ (x : Replica). Contains x.kept k) d.here h) in
      let same : v.kept ≡ w.kept = ap (λ (x : World). x.kept) d.after ∙ kept_stays name c w in
      kept_more deeds (Calls c) w v k (ap (λ f. f k.session) same) (all k there)
  kept_next deeds w v (Comes mail of) answer runs all befalls k h = by (came_now hash_of name w v mail of answer befalls)
    where
      by : CameNow hash_of name w mail of answer v → IsSnapshotAlone hash_of name (deeds ++ Comes mail of ∷ []) k.session k.seen
          (v.kept k.session) k.map k.context
      by d =
          either (subst (Keeps hash_of name w d.own mail) d.step (delivery_keeps hash_of name w d.own mail) of k
          (subst (λ (x : Replica). Contains x.kept k) d.here h))
        where
          after : v.kept k.session ≡ (takes name (w.replica name) mail of d.outcome w).kept k.session
          after = ap (λ (x : World). x.kept k.session) d.after

          either : WasKept hash_of name w d.own mail (turn d.new d.outcome d.out) of k ⊎ KeptNow hash_of name w d.own mail (turn d.new d.outcome d.out) of k
              → IsSnapshotAlone hash_of name (deeds ++ Comes mail of ∷ []) k.session k.seen (v.kept k.session) k.map k.context
          either (inl was) = kept_more deeds (Comes mail of) w v k (after ∙ was.seen) (all k was.there)
          either (inr now) = record {
            answerer = now.answerer ∙ (tied hash_of name deeds w runs).named;
            front = deeds;
            of = of;
            later = [];
            split = ap (λ m. deeds ++ Comes m of ∷ []) now.hello;
            before = w;
            runs = runs;
            none_kept = now.none;
            seen_then = after ∙ now.seen;
            map_then = subst (λ m. IsMapOf m (w.replica name).live) (sym now.map) d.is_own;
            known_then = now.context;
          }

pub snapshots_alone : SnapshotsAreForAlone
snapshots_alone hash_of name = by_deeds hash_of name (AllKept hash_of name) (λ k h. nothing_in k h) (kept_next hash_of name)

-- ---- an ask

told_by : (hash_of : List ℕ → ℕ) (own : Held) (r : Replica) (s : SessionValue) (p : List ℕ) (k : Kept) (page : PageValue) → s.answerer ≡ r.name
    → kept_at r.kept s ≡ Some k → page_at hash_of k.map p ≡ Some page
    → delivered hash_of own r (mail.Ask s p) ≡ turn r Sent (page_for hash_of s k p page ∷ [])
told_by hash_of own r s p k page here there page_there =
    for_it hash_of own r (mail.Ask s p) (eq-eqb s.answerer r.name here) ∙ ap (took_ask hash_of r s p) there ∙ ap (answered hash_of r s k p) page_there

pub tells_alone : TellsPagesAlone
tells_alone hash_of name deeds w v runs s p k page there page_there of answer befalls = by (came_now hash_of name w v (mail.Ask s p) of answer befalls)
  where
    by : CameNow hash_of name w (mail.Ask s p) of answer v
        → (answer ≡ Came Sent) × (v.messages ≡ w.messages ++ record { mail = page_for hash_of s k p page; of = no_snapshot } ∷ [])
    by d =
        let found = found_kept (w.replica name).kept s k there in
        let here : s.answerer ≡ (w.replica name).name = ap (λ (x : SessionValue). x.answerer) (sym found.1)
        ∙ (snapshots_alone hash_of name deeds w runs k found.0).answerer ∙ sym (tied hash_of name deeds w runs).named in
        let all : turn d.new d.outcome d.out ≡ turn (w.replica name) Sent (page_for hash_of s k p page ∷ []) =
        sym d.step ∙ told_by hash_of d.own (w.replica name) s p k page here there page_there in
        let u = takes name (w.replica name) (mail.Ask s p) of d.outcome w in (
          d.answers ∙ ap (λ (t : Turn). Came t.outcome) all,
          ap (λ (x : World). x.messages) d.after
              ∙ ap (λ (t : Turn). u.messages ++ map (sent_as [] u.kept t.new.kept) t.replies) all
              ∙ ap (λ ms. ms ++ record { mail = page_for hash_of s k p page; of = no_snapshot } ∷ [])
              (same_messages w name (w.replica name) (mail.Ask s p) of d.outcome),
        )
