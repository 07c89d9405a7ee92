-- Each opening that a replica by itself sent is that of a snapshot of what it was.
use Rattle.std.proofs.Common.{◌≡◌, ◌⊎◌, inl, inr, ℕ, List, [], ◌∷◌, ◌++◌, map, Option, Some, None, refl, sym, ap, ◌∙◌, subst}
use Rattle.std.specs.Prelude.{Contains, Bool}
use Rattle.dots.specs.Dot.{DotValue}
use Rattle.op_model.proofs.Members.{nothing_in, from_map}
use Rattle.wire_form.specs.Session.{SessionValue}
use Rattle.prefix_digest.specs.Page.{digest_at}
use Rattle.sync_model.specs.Differ.{Held}
use Rattle.replica_model.specs.Alone.{Deed, Calls, Comes, Befalls, RunsAlone}
use Rattle.replica_model.specs.Delivery.{Turn, asks_for, opening_of, delivered}
use Rattle.replica_model.specs.Mail.{Mail, Opening, Ask}
use Rattle.replica_model.specs.Replica.{Replica, Open, Accepted, Kept, open_numbered, kept_at}
use Rattle.replica_model.specs.Step.{Call, Put, Remove, RemoveField, Clear, Flush, Retry, Abandon, Restart, Answer, IsCall, again, retried}
use Rattle.replica_model.specs.Step as call
use Rattle.replica_model.specs.World.{World, Message, message_at, map_of_kept, nothing, calls, takes, sent_as}
use Rattle.replica_model.proofs.Carried.{at_either, same_messages}
use Rattle.replica_model.proofs.Found.{in_one, found_kept, kept_new}
use Rattle.replica_model.proofs.Fronts.{none_at}
use Rattle.replica_model.proofs.Leaving.{same_calls}
use Rattle.replica_model.proofs.Rows.{snapshot, each_row}
use Rattle.replica_model.proofs.SessionsAlone.{runs_on, by_deeds}
use Rattle.replica_alone.specs.Kept.{IsSnapshotAlone, OpeningsAreAlone}
use Rattle.replica_alone.proofs.Deeds.{CalledNow, CameNow, called_now, came_now}
use Rattle.replica_alone.proofs.Kept.{taken_more, snapshots_alone}

-- ---- what is sent

abbrev IsNoOpening : Mail → Type 0
IsNoOpening x = (s : SessionValue) (context : DotValue → Bool) (root : Option (List ℕ)) → x ≡ Opening s context root → ⊥

none_sent : (x : Mail) → Contains [] x → IsNoOpening x
none_sent x h = nothing_in x h

one_sent : (mail x : Mail) → IsNoOpening mail → Contains (mail ∷ []) x → IsNoOpening x
one_sent mail x is h = subst IsNoOpening (sym (in_one mail x h)) is

asks_sent : (s : SessionValue) (prefixes : List (List ℕ)) (x : Mail) → Contains (asks_for s prefixes) x → IsNoOpening x
asks_sent s prefixes x h = let found = from_map (Ask s) prefixes x h in subst IsNoOpening found.2 (λ t c root e. absurd cc)

again_sent : (o : Open) (a : Option Accepted) (x : Mail) → Contains (again o a) x → IsNoOpening x
again_sent o None x h = one_sent _ x (λ s c root e. absurd cc) h
again_sent o (Some a) x h = asks_sent o.session _ x h

retry_sent : (r : Replica) (o : Option Open) (x : Mail) → Contains (retried r o).replies x → IsNoOpening x
retry_sent r None x h = none_sent x h
retry_sent r (Some o) x h = again_sent o o.accepted x h

sent_as_said : (out ms : List Mail) → out ≡ ms → ((x : Mail) → Contains ms x → IsNoOpening x) → (x : Mail) → Contains out x → IsNoOpening x
sent_as_said out ms e all x h = all x (subst (λ l. Contains l x) e h)

-- a call sends none
call_sends : (old new : Replica) (c : Call) (answer : Answer) (out : List Mail) → IsCall old c new answer out → (x : Mail) → Contains out x → IsNoOpening x
call_sends old new (Put place value) answer out (v, put, few, n, a, o) = sent_as_said out [] o none_sent
call_sends old new (Remove key) answer out (over, just, n, a, o) = sent_as_said out [] o none_sent
call_sends old new (RemoveField place) answer out (over, just, n, a, o) = sent_as_said out [] o none_sent
call_sends old new Clear answer out (over, just, n, a, o) = sent_as_said out [] o none_sent
call_sends old new Flush answer out (a, inl (none, n, o)) = sent_as_said out [] o none_sent
call_sends old new Flush answer out (a, inr (some, n, o)) = sent_as_said out _ o (λ x h. one_sent _ x (λ s c root e. absurd cc) h)
call_sends old new (call.Ask peer) answer out (own, is, few, left, n, a, o) = sent_as_said out _ o (λ x h. one_sent _ x (λ s c root e. absurd cc) h)
call_sends old new (Retry number) answer out (n, a, o) = sent_as_said out _ o (retry_sent old (open_numbered old.sessions number))
call_sends old new (Abandon number) answer out (abandons, o) = sent_as_said out [] o none_sent
call_sends old new Restart answer out (n, a, o) = sent_as_said out [] o none_sent

-- and a delivery none, but the opening of a snapshot that is kept then
module _ (hash_of : List ℕ → ℕ) (own : Held) (r : Replica) where
  record IsOpeningOf (ks : List Kept) (x : Mail) : Type 0 where
    of : Kept
    there : kept_at ks of.session ≡ Some of
    opens : x ≡ opening_of hash_of of

  abbrev Sends : Turn → Type 0
  Sends t = (x : Mail) → Contains t.replies x → IsNoOpening x ⊎ IsOpeningOf t.new.kept x

  nothing_sent : (ks : List Kept) (x : Mail) → Contains [] x → IsNoOpening x ⊎ IsOpeningOf ks x
  nothing_sent ks x h = inl (none_sent x h)

  delivery_sends : (mail : Mail) → Sends (delivered hash_of own r mail)
  delivery_sends = each_row hash_of own r (λ mail t. Sends t) (record {
    ignoring = λ mail other. nothing_sent r.kept;
    mismatch = λ mail other. nothing_sent r.kept;
    delta = λ d. nothing_sent r.kept;
    told_again = λ s seen k e x h.
        inr (record { of = k; there = ap (kept_at r.kept) (found_kept r.kept s k e).1 ∙ e; opens = in_one (opening_of hash_of k) x h });
    kept = λ s seen here none x h.
        let k = snapshot own r s seen in inr (record { of = k; there = kept_new r.kept k s none refl; opens = in_one (opening_of hash_of k) x h });
    gone = λ s p x h. inl (one_sent _ x (λ t c root e. absurd cc) h);
    page = λ s p k page x h. inl (one_sent _ x (λ t c root e. absurd cc) h);
    opening_done = λ s c root o f there first took complete. nothing_sent _;
    opening_sent = λ s c root o f there first took x h. inl (asks_sent o.session _ x h);
    page_done = λ s sent o a f there accepted took complete. nothing_sent _;
    page_sent = λ s sent o a f there accepted took x h. inl (asks_sent o.session _ x h);
    ended = λ s o there. nothing_sent _;
  })

-- ---- deeds

module _ (hash_of : List ℕ → ℕ) (name : ℕ) where
  abbrev Opens : List Deed → Message → Type 0
  Opens deeds m =
      (s : SessionValue) (context : DotValue → Bool) (root : Option (List ℕ)) → m.mail ≡ Opening s context root
      → ((told : DotValue → Bool) × IsSnapshotAlone hash_of name deeds s told m.of.seen m.of.map context) × (root ≡ digest_at hash_of m.of.map [])

  abbrev AllOpen : List Deed → World → Type 0
  AllOpen deeds w = (number : ℕ) (m : Message) → message_at w.messages number ≡ Some m → Opens deeds m

  opens_more : (deeds : List Deed) (d : Deed) (m : Message) → Opens deeds m → Opens (deeds ++ d ∷ []) m
  opens_more deeds d m opens s context root is =
      let t = opens s context root is in
      ((t.0.0, taken_more hash_of name deeds d s t.0.0 m.of.seen m.of.map context t.0.1), t.1)

  -- the opening of a snapshot that the replica keeps then
  opens_now : (deeds : List Deed) (v : World) → RunsAlone hash_of name nothing deeds v → (ks : List Kept) → (v.replica name).kept ≡ ks → (k : Kept)
      → kept_at ks k.session ≡ Some k → Opens deeds (sent_as [] v.kept ks (opening_of hash_of k))
  opens_now deeds v runs ks is k there s context root same =
      let taken = snapshots_alone hash_of name deeds v runs k (subst (λ l. Contains l k) (sym is) (found_kept ks k.session k there).0) in
      let map : map_of_kept (kept_at ks k.session) ≡ k.map = ap map_of_kept there in
      let session : k.session ≡ s = cc in
      let known : k.context ≡ context = cc in
      let digest : digest_at hash_of k.map [] ≡ root = cc in (
        (
          k.seen,
          subst (λ u. IsSnapshotAlone hash_of name deeds u k.seen (v.kept k.session) (map_of_kept (kept_at ks k.session)) context) session
              (subst (λ c. IsSnapshotAlone hash_of name deeds k.session k.seen (v.kept k.session) (map_of_kept (kept_at ks k.session)) c) known
              (subst (λ m. IsSnapshotAlone hash_of name deeds k.session k.seen (v.kept k.session) m k.context) (sym map) taken)),
        ),
        sym digest ∙ ap (λ m. digest_at hash_of m []) (sym map),
      )

  opens_next : (deeds : List Deed) (w v : World) (d : Deed) (answer : Answer) → RunsAlone hash_of name nothing deeds w → AllOpen deeds w
      → Befalls hash_of name w d answer v → AllOpen (deeds ++ d ∷ []) v
  opens_next deeds w v (Calls c) answer runs all befalls number m there = by (called_now hash_of name w v c answer befalls)
    where
      by : CalledNow hash_of name w c answer v → Opens (deeds ++ Calls c ∷ []) m
      by d =
          either
          (at_either (calls name c w).messages (map (sent_as (w.outgoing name) (calls name c w).kept d.new.kept) d.out) number m
          (subst (λ (x : World). message_at x.messages number ≡ Some m) d.after there))
        where
          either : (message_at (calls name c w).messages number ≡ Some m) ⊎ Contains (map (sent_as (w.outgoing name) (calls name c w).kept d.new.kept) d.out) m
              → Opens (deeds ++ Calls c ∷ []) m
          either (inl old) = opens_more deeds (Calls c) m (all number m (subst (λ ms. message_at ms number ≡ Some m) (same_calls w name c).0 old))
          either (inr new) =
              let found = from_map (sent_as (w.outgoing name) (calls name c w).kept d.new.kept) d.out m new in
              λ s context root is.
              absurd (call_sends (w.replica name) d.new c answer d.out d.step found.0 found.1 s context root (ap (λ (x : Message). x.mail) found.2 ∙ is))
  opens_next deeds w v (Comes mail of) answer runs all befalls number m there = by (came_now hash_of name w v mail of answer befalls)
    where
      by : CameNow hash_of name w mail of answer v → Opens (deeds ++ Comes mail of ∷ []) m
      by d =
          either
          (at_either u.messages (map (sent_as [] u.kept d.new.kept) d.out) number m
          (subst (λ (x : World). message_at x.messages number ≡ Some m) d.after there))
        where
          u : World
          u = takes name (w.replica name) mail of d.outcome w

          further : (x : Mail) → sent_as [] u.kept d.new.kept x ≡ m → IsNoOpening x ⊎ IsOpeningOf hash_of d.own (w.replica name) d.new.kept x
              → Opens (deeds ++ Comes mail of ∷ []) m
          further x e (inl other) = λ s context root is. absurd (other s context root (ap (λ (y : Message). y.mail) e ∙ is))
          further x e (inr o) =
              let stored : v.kept ≡ u.kept = ap (λ (y : World). y.kept) d.after in
              subst (Opens (deeds ++ Comes mail of ∷ [])) (ap (sent_as [] u.kept d.new.kept) (sym o.opens) ∙ e)
              (subst (λ f. Opens (deeds ++ Comes mail of ∷ []) (sent_as [] f d.new.kept (opening_of hash_of o.of))) stored
              (opens_now (deeds ++ Comes mail of ∷ []) v (runs_on hash_of name deeds nothing w v (Comes mail of) answer runs befalls) d.new.kept
              (ap (λ (q : Replica). q.kept) d.here) o.of o.there))

          either : (message_at u.messages number ≡ Some m) ⊎ Contains (map (sent_as [] u.kept d.new.kept) d.out) m → Opens (deeds ++ Comes mail of ∷ []) m
          either (inl old) =
              opens_more deeds (Comes mail of) m
              (all number m (subst (λ ms. message_at ms number ≡ Some m) (same_messages w name (w.replica name) mail of d.outcome) old))
          either (inr new) =
              let found = from_map (sent_as [] u.kept d.new.kept) d.out m new in
              further found.0 found.2
              (subst (Sends hash_of d.own (w.replica name)) d.step (delivery_sends hash_of d.own (w.replica name) mail) found.0 found.1)

pub openings_are_alone : OpeningsAreAlone
openings_are_alone hash_of name = by_deeds hash_of name (AllOpen hash_of name) (λ number m there. absurd (none_at number m there)) (opens_next hash_of name)
