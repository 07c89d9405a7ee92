-- A session that ends adds what its peer had seen when it opened.
use Rattle.std.proofs.Common.{◌≡◌, inl, inr, ℕ, ◌==◌, List, Bool, cond, refl, sym, ap, ◌∙◌, subst, eq-eqb}
use Rattle.dots.specs.Dot.{DotValue}
use Rattle.op_model.specs.Meaning.{MapState, greater}
use Rattle.op_model.specs.State.{join}
use Rattle.op_model.proofs.Pairs.{grown-here}
use Rattle.prefix_digest.specs.MapOf.{IsMapOf}
use Rattle.sync_model.specs.Closing.{held_state}
use Rattle.sync_model.specs.Differ.{Held}
use Rattle.sync_model.proofs.Closings.{closing}
use Rattle.sync_model.proofs.Fetches.{fetching}
use Rattle.replica_model.specs.Replica.{Replica}
use Rattle.replica_model.specs.Delivery.{Done, turn}
use Rattle.replica_model.specs.Step.{Answer}
use Rattle.replica_model.specs.World.{World, Event, nothing, Runs}
use Rattle.replica_model.specs.Sessions.{IsTakenOf, IsEnd, HasFetched}
use Rattle.replica_model.specs.Laws.{Ends}
use Rattle.replica_model.proofs.Deciding.{came_one}
use Rattle.replica_model.proofs.States.{same_is}
use Rattle.replica_model.proofs.Growing.{map_state}
use Rattle.sync_model.proofs.Lawful.{map_lawful}
use Rattle.replica_model.proofs.Ending.{Ending, Comes, comes}
use Rattle.replica_model.proofs.Fronts.{Delivered, delivery, AskedIn, SendsAny, told}

-- a replica that changed is the new one
pub here_new : (name : ℕ) (new old : Replica) → cond (name == name) new old ≡ new
here_new name new old = ap (λ b. cond b new old) (eq-eqb name name refl)

-- a map that stands for a state, under the dots that it knows, is that state
pub one_state : (m : Held) (c : DotValue → Bool) (p : MapState) → IsMapOf m p → c ≡ p.has → held_state m c ≡ p
one_state m c p is e = ap (held_state m) e ∙ map_state m p is

module _ (hash_of : List ℕ → ℕ) (events : List Event) (w v : World) (number name : ℕ) (runs : Runs hash_of nothing events w) (answer : Answer)
    (d : Delivered hash_of w number name answer v) where
  ending_is : Ending hash_of (IsTakenOf hash_of events) (AskedIn hash_of events w) (SendsAny hash_of) w name d.message.mail d.message.of
      (turn d.new d.outcome d.out) → (end : IsEnd hash_of events w v number name) × HasFetched hash_of events w v number name end
  ending_is e =
      let tie = (told hash_of events w runs).sessions name e.session e.there in (
        record {
          ended = e.session;
          was_open = e.there;
          message = d.message;
          there = d.there;
          turn = e.of_it;
          asker = tie.asker;
          asked = tie.asked.0;
          of = e.snapshot;
          shown = e.shown;
          context = e.context;
          snapshot = e.snap;
          adds = ap (λ (x : World). x.seen name) d.after ∙ ap (λ (x : World). x.seen name) e.sets ∙ grown-here name (w.seen name) e.snapshot.seen;
        },
        record {
          takings = e.takings;
          pages = e.pages;
          met = ap (λ (x : World). x.closed) d.after ∙ ap (λ (x : World). x.closed) e.sets;
          all = λ no_clash.
              let law = fetching hash_of e.session.own e.snapshot.map e.session.seen e.context e.takings e.fetched
              (map_lawful e.session.own _ tie.asked.0.own_then) no_clash e.is_fetched in
              let done = law.done e.complete in record { each = done.1; no_other = done.2; once = law.once; theirs_taken = law.theirs_taken };
          joins = λ no_clash.
              let live = (w.replica name).live in
              let law = fetching hash_of e.session.own e.snapshot.map e.session.seen e.context e.takings e.fetched
              (map_lawful e.session.own _ tie.asked.0.own_then) no_clash e.is_fetched in
              let closed = closing e.session.own e.snapshot.map e.fetched.built e.session.seen e.context live (map_lawful e.snapshot.map _ e.snap.map_then)
              (law.done e.complete).0 tie.asked.1 in
              ap (λ (x : World). (x.replica name).live) d.after ∙ ap (λ (x : Replica). x.live) (here_new name d.new _) ∙ e.live
              ∙ same_is _ _ closed ∙ ap (join greater live) (one_state e.snapshot.map e.context _ e.snap.map_then e.snap.known_then);
        },
      )

pub ends_are : Ends
ends_are hash_of events w v number name runs answer happens is_done =
    let d = delivery hash_of w v number name answer happens in
    let t = told hash_of events w runs in
    let done : d.outcome ≡ Done = came_one d.outcome Done (sym d.answers ∙ is_done) in
    step d done
    (subst (Comes hash_of (IsTakenOf hash_of events) (AskedIn hash_of events w) (SendsAny hash_of) w name d.message.mail d.message.of) d.step
    (comes hash_of (IsTakenOf hash_of events) (AskedIn hash_of events w) (SendsAny hash_of) w name t d.own d.message.mail d.message.of
    (t.messages number d.message d.there)))
  where
    step : (d : Delivered hash_of w number name answer v) → d.outcome ≡ Done
        → Comes hash_of (IsTakenOf hash_of events) (AskedIn hash_of events w) (SendsAny hash_of) w name d.message.mail d.message.of (turn d.new d.outcome d.out)
        → (end : IsEnd hash_of events w v number name) × HasFetched hash_of events w v number name end
    step d done (inl learns) = let apart = sym learns.joined ∙ done in absurd cc
    step d done (inr (inl e)) = ending_is hash_of events w v number name runs answer d e
    step d done (inr (inr stays)) = absurd (stays.not_done done)
