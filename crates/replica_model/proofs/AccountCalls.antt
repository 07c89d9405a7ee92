-- A call goes on with an account as it goes on with the sets.
use Rattle.std.proofs.Common.{◌≡◌, ◌≢◌, ◌⊎◌, inl, inr, ℕ, ◌+◌, ◌≤◌, ◌==◌, List, [], map, Bool, true, false, Option, Some, None, refl, sym, ap, ◌∙◌}
use Rattle.std.proofs.Common.{subst, arith}
use Rattle.op_model.specs.Made.{put_at, remove_at, remove_field_at, clear_at}
use Rattle.op_model.specs.Operation.{Operation}
use Rattle.op_model.specs.World.{grown, emptied}
use Rattle.op_model.specs.World as sets
use Rattle.prefix_digest.specs.MapOf.{IsMapOf, map_of}
use Rattle.prefix_digest.proofs.MapsOf.{map_is}
use Rattle.wire_form.specs.Session.{SessionValue, same_session}
use Rattle.sync_model.specs.Differ.{Held}
use Rattle.replica_model.specs.Mail.{Mail, Delta, Hello}
use Rattle.replica_model.specs.Replica.{Replica, Open, Accepted, Kept, open_numbered, next_session}
use Rattle.replica_model.specs.Step.{Call, Put, Remove, RemoveField, Clear, Flush, Retry, Abandon, Restart, Answer, Numbered, IsCall, again, retried}
use Rattle.replica_model.specs.Step as call
use Rattle.replica_model.specs.World.{World, At, snapshot_with}
use Rattle.replica_model.specs.World as world
use Rattle.replica_model.specs.Laws.{IsSound}
use Rattle.replica_model.specs.Seen.{Account, session_of, number_of}
use Rattle.replica_model.specs.Seen as seen
use Rattle.replica_model.proofs.States.{is_same}
use Rattle.replica_model.proofs.Found.{same_is_one, changed_here, changed_elsewhere}
use Rattle.replica_model.proofs.Meant.{Meant, seen_once}
use Rattle.replica_model.proofs.Askers.{call_keeps}
use Rattle.replica_model.proofs.AccountKept.{kept_as}
use Rattle.replica_model.proofs.AccountTold.{IsTold, Follows, unmoved, AllCarry, none_carries, one_carries, asks_carry, at_name, at_other}

module _ (hash_of : List ℕ → ℕ) (a : Account) (w : World) (name : ℕ) (told : IsTold hash_of a w) where
  abbrev r : Replica
  r = w.replica name

  -- ---- the sets, and what is kept

  made : (f : List Operation → List Operation) (new : Replica) → new.kept ≡ r.kept
      → Follows hash_of (seen.makes name (f (a.seen name)) a) (world.with_sets (sets.makes name (f (w.seen name)) (world.sets_of w)) w) name new
  made f new same = record {
    nodes = told.nodes;
    seen = λ i n. grown (n == name) (told.seen i n) (f (told.seen i name));
    unsent = λ i n. grown (n == name) (told.unsent i n) (f (told.seen i name));
    here = told.kept name ∙ ap (map (kept_as w.kept)) (sym same);
    there = λ n apart. told.kept n;
    opened = told.opened;
    pages = told.pages;
    clean = told.clean;
  }

  stays : (c : Call) (new : Replica) (answer : Answer) (out : List Mail) → IsCall r c new answer out → c ≢ Restart → new.kept ≡ r.kept
  stays c new answer out step apart = by (call_keeps r new c answer out step)
    where
      by : (new.kept ≡ r.kept) ⊎ ((c ≡ Restart) × (new.kept ≡ [])) → new.kept ≡ r.kept
      by (inl same) = same
      by (inr (is, none)) = absurd (apart is)

  pub call_follows : (c : Call) (new : Replica) (answer : Answer) (out : List Mail) → IsCall r c new answer out
      → Follows hash_of (seen.calls name c answer a) (world.calls name c w) name new
  call_follows (Put place value) new answer out step =
      made (λ S. put_at S name place value) new (stays (Put place value) new answer out step (λ e. absurd cc))
  call_follows (Remove key) new answer out step = made (λ S. remove_at S key) new (stays (Remove key) new answer out step (λ e. absurd cc))
  call_follows (RemoveField place) new answer out step =
      made (λ S. remove_field_at S place) new (stays (RemoveField place) new answer out step (λ e. absurd cc))
  call_follows Clear new answer out step = made (λ S. clear_at S) new (stays Clear new answer out step (λ e. absurd cc))
  call_follows Flush new answer out step = record {
    nodes = told.nodes;
    seen = told.seen;
    unsent = λ i n. emptied (n == name) (told.unsent i n);
    here = told.kept name ∙ ap (map (kept_as w.kept)) (sym (stays Flush new answer out step (λ e. absurd cc)));
    there = λ n apart. told.kept n;
    opened = told.opened;
    pages = told.pages;
    clean = told.clean;
  }
  call_follows (call.Ask peer) new answer out step = record {
    nodes = told.nodes;
    seen = told.seen;
    unsent = told.unsent;
    here = told.kept name ∙ ap (map (kept_as w.kept)) (sym (stays (call.Ask peer) new answer out step (λ e. absurd cc)));
    there = λ n apart. told.kept n;
    opened = told.opened;
    pages = told.pages;
    clean = told.clean;
  }
  call_follows (Retry number) new answer out step =
      unmoved hash_of a w name new told (stays (Retry number) new answer out step (λ e. absurd cc))
  call_follows (Abandon number) new answer out step =
      unmoved hash_of a w name new told (stays (Abandon number) new answer out step (λ e. absurd cc))
  call_follows Restart new answer out (n, x, z) = record {
    nodes = told.nodes;
    seen = told.seen;
    unsent = told.unsent;
    here = at_name name [] (a.kept name) ∙ sym (ap (λ (q : Replica). map (kept_as w.kept) q.kept) n);
    there = λ n apart. at_other n name [] (a.kept n) apart ∙ told.kept n;
    opened = told.opened;
    pages = told.pages;
    clean = told.clean;
  }

  -- ---- what is sent

  these_sent : (group : List Operation) (ks : List Kept) (out these : List Mail) (S : List Operation) → out ≡ these → AllCarry group w.kept ks these S
      → AllCarry group w.kept ks out S
  these_sent group ks out these S e all = subst (λ l. AllCarry group w.kept ks l S) (sym e) all

  none_sent : (group : List Operation) (ks : List Kept) (out : List Mail) (S : List Operation) → out ≡ [] → AllCarry group w.kept ks out S
  none_sent group ks out S none = these_sent group ks out [] S none (none_carries group w.kept ks S)

  again_sent : (group : List Operation) (ks : List Kept) (o : Open) (x : Option Accepted) → AllCarry group w.kept ks (again o x) []
  again_sent group ks o None = one_carries group w.kept ks (Hello o.session o.seen) [] refl
  again_sent group ks o (Some x) = asks_carry group w.kept ks o.session _

  retry_sent : (group : List Operation) (ks : List Kept) (o : Option Open) → AllCarry group w.kept ks (retried r o).replies []
  retry_sent group ks None = none_carries group w.kept ks []
  retry_sent group ks (Some o) = again_sent group ks o o.accepted

  module _ (messages : List (List ℕ)) where
    pub call_sent : (c : Call) (new : Replica) (answer : Answer) (out : List Mail) → IsCall r c new answer out
        → AllCarry (w.outgoing name) (world.calls name c w).kept new.kept out (seen.carries messages (At name c) a (seen.calls name c answer a))
    call_sent (Put place value) new answer out (v, put, lt, n, x, z) = none_sent _ _ out _ z
    call_sent (Remove key) new answer out (over, just, n, x, z) = none_sent _ _ out _ z
    call_sent (RemoveField place) new answer out (over, just, n, x, z) = none_sent _ _ out _ z
    call_sent Clear new answer out (over, just, n, x, z) = none_sent _ _ out _ z
    call_sent Flush new answer out (x, inl (none, n, z)) = none_sent _ _ out _ z
    call_sent Flush new answer out (x, inr (some, n, z)) =
        these_sent _ _ out _ _ z (one_carries (w.outgoing name) w.kept new.kept (Delta r.group) (a.unsent name) (sym (ap (λ f. f name) told.unsent)))
    call_sent (call.Ask peer) new answer out (own, is, few, left, n, x, z) = these_sent _ _ out _ _ z (one_carries _ w.kept _ (Hello _ _) [] refl)
    call_sent (Retry number) new answer out (n, x, z) = these_sent _ _ out _ _ z (retry_sent _ _ (open_numbered r.sessions number))
    call_sent (Abandon number) new answer out (step, z) = none_sent _ _ out _ z
    call_sent Restart new answer out (n, x, z) = none_sent _ _ out _ z

  -- ---- what was asked

  -- a session whose number was given out before is not the one that is asked for now
  not_now : (s : SessionValue) (peer : ℕ) (answer : Answer) (n : ℕ) → answer ≡ Numbered (r.opened + 1) → s.asker ≡ n → s.number ≤ (w.replica n).opened
      → same_session s (session_of name peer answer) ≡ false
  not_now s peer answer n numbered asker number = by (same_session s (session_of name peer answer)) refl
    where
      by : (b : Bool) → same_session s (session_of name peer answer) ≡ b → same_session s (session_of name peer answer) ≡ false
      by false other = other
      by true same =
          let one = same_is_one s (session_of name peer answer) same in
          let mine : n ≡ name = sym asker ∙ ap (λ (t : SessionValue). t.asker) one in
          let newest : s.number ≡ r.opened + 1 = ap (λ (t : SessionValue). t.number) one ∙ ap number_of numbered in
          let few : s.number ≤ r.opened = subst (λ k. s.number ≤ (w.replica k).opened) mine number in
          absurd (omega (arith, newest, few))

  pub old_asked : (c : Call) (new : Replica) (answer : Answer) (out : List Mail) → IsCall r c new answer out → (n : ℕ) (s : SessionValue) (own : Held)
      → own ≡ map_of (a.asked s)
      → s.asker ≡ n → s.number ≤ (w.replica n).opened → own ≡ map_of ((seen.calls name c answer a).asked s)
  old_asked (Put place value) new answer out step n s own is asker number = is
  old_asked (Remove key) new answer out step n s own is asker number = is
  old_asked (RemoveField place) new answer out step n s own is asker number = is
  old_asked Clear new answer out step n s own is asker number = is
  old_asked Flush new answer out step n s own is asker number = is
  old_asked (call.Ask peer) new answer out (mine, stands, few, left, e, x, z) n s own is asker number =
      is ∙ ap map_of (sym (changed_elsewhere a.asked (session_of name peer answer) (a.seen name) s (not_now s peer answer n x asker number)))
  old_asked (Retry number) new answer out step n s own is asker given = is
  old_asked (Abandon number) new answer out step n s own is asker given = is
  old_asked Restart new answer out step n s own is asker number = is

  module _ (named : r.name ≡ name) (sound : IsSound w) (meant : Meant hash_of w) where
    -- what an ask says of its session
    abbrev pub AskedNow : Call → Replica → Answer → ℕ → Held → Type 0
    AskedNow c new answer peer own = (own ≡ map_of ((seen.calls name c answer a).asked (next_session r peer))) × (r.opened + 1 ≤ new.opened)

    asks_now : (peer : ℕ) (new : Replica) (answer : Answer) (own : Held) → answer ≡ Numbered (r.opened + 1) → r.opened + 1 ≤ new.opened
        → IsMapOf own r.live → AskedNow (call.Ask peer) new answer peer own
    asks_now peer new answer own numbered given stands =
        let session : next_session r peer ≡ session_of name peer answer =
        λ i. record { asker = named i; answerer = peer; number = sym (ap number_of numbered) i } in
        let now : (seen.calls name (call.Ask peer) answer a).asked (next_session r peer) ≡ w.seen name =
        changed_here a.asked (session_of name peer answer) (a.seen name) (next_session r peer) session ∙ ap (λ f. f name) told.seen in
        (map_is (w.seen name) (seen_once w sound name) own r.live stands (is_same _ _ (meant.live name)) ∙ ap map_of (sym now), given)

    pub new_asked : (c : Call) (new : Replica) (answer : Answer) (out : List Mail) → IsCall r c new answer out → (peer : ℕ) (own : Held) → c ≡ call.Ask peer
        → IsMapOf own r.live
        → AskedNow c new answer peer own
    new_asked (Put place value) new answer out step peer own e stands = absurd cc
    new_asked (Remove key) new answer out step peer own e stands = absurd cc
    new_asked (RemoveField place) new answer out step peer own e stands = absurd cc
    new_asked Clear new answer out step peer own e stands = absurd cc
    new_asked Flush new answer out step peer own e stands = absurd cc
    new_asked (call.Ask other) new answer out (mine, is, few, left, n, x, z) peer own e stands =
        let one : peer ≡ other = cc in
        let many : new.opened ≡ r.opened + 1 = ap (λ (q : Replica). q.opened) n in
        let now = asks_now other new answer own x (omega (arith, many)) stands in
        (now.0 ∙ ap (λ p. map_of ((seen.calls name (call.Ask other) answer a).asked (next_session r p))) (sym one), now.1)
    new_asked (Retry number) new answer out step peer own e stands = absurd cc
    new_asked (Abandon number) new answer out step peer own e stands = absurd cc
    new_asked Restart new answer out step peer own e stands = absurd cc
