-- What ties a world to what it stands for is kept by each call.
use Rattle.std.proofs.Common.{◌≡◌, ◌⊎◌, inl, inr, ℕ, List, [], ◌∷◌, map, Bool, Option, Some, None, refl, sym, subst}
use Rattle.std.specs.Prelude.{Contains}
use Rattle.std.proofs.lemmas.List.Elements.{Contains-append_cases}
use Rattle.dots.specs.Dot.{DotValue}
use Rattle.op_model.specs.Meaning.{MapState}
use Rattle.op_model.specs.Operation.{Operation}
use Rattle.op_model.proofs.Members.{nothing_in, from_map}
use Rattle.wire_form.specs.Session.{SessionValue}
use Rattle.prefix_digest.specs.MapOf.{IsMapOf}
use Rattle.sync_model.specs.Differ.{Held}
use Rattle.replica_model.specs.Mail.{Mail, Delta, Hello, Opening, Ask, Page, Gone}
use Rattle.replica_model.specs.Replica.{Replica, Open, Accepted, Kept, open_numbered, flushed, next_session, opens, closes, restarts}
use Rattle.replica_model.specs.Delivery.{asks_for}
use Rattle.replica_model.specs.Step.{Call, Put, Remove, RemoveField, Clear, Flush, Retry, Abandon, Restart, Answer, Removes, Abandons, IsCall, again, retried}
use Rattle.replica_model.specs.Step as call
use Rattle.replica_model.specs.World.{World, Message, Snapshot, snapshot_with, sent_as, calls, goes}
use Rattle.replica_model.proofs.Found.{in_one, in_without}
use Rattle.replica_model.proofs.Ties.{MailTie, SessionTie, AllKept, AllOpen, AllSent}
use Rattle.replica_model.proofs.Carried.{Ties, at_either, by_name}

-- ---- what is said of a world may be said in other words

module _ (hash_of : List ℕ → ℕ) (Snap Snap2 : SessionValue → List Operation → Held → (DotValue → Bool) → Type 0)
    (Asked Asked2 : ℕ → SessionValue → Held → (DotValue → Bool) → Type 0) (Sends Sends2 : MapState → List Operation → Type 0)
    (snap : (s : SessionValue) (S : List Operation) (m : Held) (c : DotValue → Bool) → Snap s S m c → Snap2 s S m c)
    (asked : (n : ℕ) (s : SessionValue) (m : Held) (c : DotValue → Bool) → Asked n s m c → Asked2 n s m c)
    (sends : (d : MapState) (S : List Operation) → Sends d S → Sends2 d S) where
  pub mail_more : (mail : Mail) (of : Snapshot) → MailTie hash_of Snap Asked Sends mail of → MailTie hash_of Snap2 Asked2 Sends2 mail of
  mail_more (Delta d) of tie = sends d of.seen tie
  mail_more (Hello s seen) of tie = tt
  mail_more (Opening s c root) of tie = (snap s of.seen of.map c tie.0, tie.1)
  mail_more (Ask s p) of tie = tt
  mail_more (Page s sent) of tie = tt
  mail_more (Gone s) of tie = tt

  pub more_ties : (w : World) → Ties hash_of Snap Asked Sends w → Ties hash_of Snap2 Asked2 Sends2 w
  more_ties w t = record {
    named = t.named;
    kept = λ n k h. record { answerer = (t.kept n k h).answerer; snap = snap k.session (w.kept k.session) k.map k.context (t.kept n k h).snap };
    sessions = λ n o h. record {
      asker = (t.sessions n o h).asker;
      asked = asked n o.session o.own o.seen (t.sessions n o h).asked;
      fetched = λ x is. let f = (t.sessions n o h).fetched x is in (snap o.session (w.accepted o.session).seen (w.accepted o.session).map x.context f.0, f.1);
    };
    messages = λ number m is. mail_more m.mail m.of (t.messages number m is);
  }

-- ---- calls

-- a session that was just opened
abbrev pub asking : Replica → ℕ → Held → Open
asking r peer own = record { session = next_session r peer; own = own; seen = r.live.has; accepted = None }

-- a world whose sets alone changed
abbrev pub with_sets : World → (ℕ → List Operation) → (ℕ → List Operation) → List Operation → World
with_sets w seen outgoing made = record w { seen = seen; outgoing = outgoing; made = made }

module _ (hash_of : List ℕ → ℕ) (Snap : SessionValue → List Operation → Held → (DotValue → Bool) → Type 0)
    (Asked : ℕ → SessionValue → Held → (DotValue → Bool) → Type 0) (Sends : MapState → List Operation → Type 0) where
  module _ (w : World) (name : ℕ) (t : Ties hash_of Snap Asked Sends w) (group : List Operation) where
    -- what is so of the replica after a call and of what it sent
    pub record Goes (new : Replica) (out : List Mail) : Type 0 where
      pub name_stays : new.name ≡ name
      pub kept_here : AllKept hash_of Snap Asked Sends w.kept name new
      pub open_here : AllOpen hash_of Snap Asked Sends w.accepted w.taken name new
      pub sent : AllSent hash_of Snap Asked Sends group w.kept new.kept out

    goes_on : (new : Replica) (out : List Mail) → Goes new out → (seen outgoing : ℕ → List Operation) (made : List Operation)
        → Ties hash_of Snap Asked Sends (goes name new out group (with_sets w seen outgoing made))
    goes_on new out g seen outgoing made = record {
      named = by_name (λ n r. r.name ≡ n) name new w.replica g.name_stays (λ n a. t.named n);
      kept = by_name (λ n r. AllKept hash_of Snap Asked Sends w.kept n r) name new w.replica g.kept_here (λ n a. t.kept n);
      sessions = by_name (λ n r. AllOpen hash_of Snap Asked Sends w.accepted w.taken n r) name new w.replica g.open_here (λ n a. t.sessions n);
      messages = λ k x h. either x (at_either w.messages (map (sent_as group w.kept new.kept) out) k x h) (t.messages k x);
    }
      where
        either : (x : Message) → {A : Type 0} → A ⊎ Contains (map (sent_as group w.kept new.kept) out) x → (A → MailTie hash_of Snap Asked Sends x.mail x.of)
            → MailTie hash_of Snap Asked Sends x.mail x.of
        either x (inl i) old = old i
        either x (inr i) old =
            let found = from_map (sent_as group w.kept new.kept) out x i in
            subst (λ (y : Message). MailTie hash_of Snap Asked Sends y.mail y.of) found.2 (g.sent found.0 found.1)

    to : (new r : Replica) (out ms : List Mail) → new ≡ r → out ≡ ms → Goes r ms → Goes new out
    to new r out ms n o g = subst (λ x. Goes x out) (sym n) (subst (λ x. Goes r x) (sym o) g)

    -- a replica whose live state and group alone changed, and which sends nothing
    as_it_was : (live more : MapState) → Goes (record (w.replica name) { live = live; group = more }) []
    as_it_was live more = record { name_stays = t.named name; kept_here = t.kept name; open_here = t.sessions name; sent = λ mail h. nothing_in mail h }

    removed : (P : Rattle.dots.specs.declared.dot.Dot.Dot → Type 0) (new : Replica) (answer : Answer) (out : List Mail)
        → Removes P (w.replica name) new answer out → Goes new out
    removed P new answer out (over, just, n, a, o) = to new _ out [] n o (as_it_was _ _)

    asks_sent : (ks : List Kept) (s : SessionValue) (prefixes : List (List ℕ)) → AllSent hash_of Snap Asked Sends group w.kept ks (asks_for s prefixes)
    asks_sent ks s prefixes mail h =
        let found = from_map (Ask s) prefixes mail h in
        subst (λ y. MailTie hash_of Snap Asked Sends y (snapshot_with group w.kept ks y)) found.2 tt

    again_sent : (ks : List Kept) (o : Open) (a : Option Accepted) → AllSent hash_of Snap Asked Sends group w.kept ks (again o a)
    again_sent ks o None mail h = subst (λ y. MailTie hash_of Snap Asked Sends y (snapshot_with group w.kept ks y))
        (sym (in_one (Hello o.session o.seen) mail h)) tt
    again_sent ks o (Some a) mail h = asks_sent ks o.session _ mail h

    retried_sent : (ks : List Kept) (o : Option Open) → AllSent hash_of Snap Asked Sends group w.kept ks (retried (w.replica name) o).replies
    retried_sent ks None mail h = nothing_in mail h
    retried_sent ks (Some o) mail h = again_sent ks o o.accepted mail h

    abandoned : (o : Option Open) (new : Replica) (answer : Answer) (out : List Mail) → Abandons (w.replica name) o new answer → out ≡ [] → Goes new out
    abandoned None new answer out (n, a) e = to new (w.replica name) out [] n e (as_it_was (w.replica name).live (w.replica name).group)
    abandoned (Some o) new answer out (n, a) e = to new (closes (w.replica name) o.session) out [] n e (record {
      name_stays = t.named name;
      kept_here = t.kept name;
      open_here = λ x h. t.sessions name x (in_without o.session (w.replica name).sessions x h);
      sent = λ mail h. nothing_in mail h;
    })

    opened : (peer : ℕ) (own : Held) → Asked name (next_session (w.replica name) peer) own (w.replica name).live.has
        → Goes (opens (w.replica name) peer own) (Hello (next_session (w.replica name) peer) (w.replica name).live.has ∷ [])
    opened peer own asked = record {
      name_stays = t.named name;
      kept_here = t.kept name;
      open_here = λ x h. either x (Contains-append_cases (w.replica name).sessions (asking (w.replica name) peer own ∷ []) x h);
      sent = λ mail h. subst (λ y. MailTie hash_of Snap Asked Sends y (snapshot_with group w.kept (w.replica name).kept y))
          (sym (in_one (Hello (next_session (w.replica name) peer) (w.replica name).live.has) mail h)) tt;
    }
      where
        either : (x : Open) → Contains (w.replica name).sessions x ⊎ Contains (asking (w.replica name) peer own ∷ []) x
            → SessionTie hash_of Snap Asked Sends w.accepted w.taken name x
        either x (inl h) = t.sessions name x h
        either x (inr h) = subst (SessionTie hash_of Snap Asked Sends w.accepted w.taken name) (sym (in_one (asking (w.replica name) peer own) x h))
            (record { asker = t.named name; asked = asked; fetched = λ y is. absurd cc })

  -- the premises of a call: what an ask says of its session, and what is sent
  module _ (w : World) (name : ℕ) (t : Ties hash_of Snap Asked Sends w) (sends : Sends (w.replica name).group (w.outgoing name)) where
    flushed_sent : Goes w name t (w.outgoing name) (flushed (w.replica name)) (Delta (w.replica name).group ∷ [])
    flushed_sent = record {
      name_stays = t.named name;
      kept_here = t.kept name;
      open_here = t.sessions name;
      sent = λ mail h. subst (λ y. MailTie hash_of Snap Asked Sends y (snapshot_with (w.outgoing name) w.kept (w.replica name).kept y))
          (sym (in_one (Delta (w.replica name).group) mail h)) sends;
    }

    call_goes : (c : Call) → ((peer : ℕ) (own : Held) → c ≡ call.Ask peer → IsMapOf own (w.replica name).live
        → Asked name (next_session (w.replica name) peer) own (w.replica name).live.has)
        → (new : Replica) (answer : Answer) (out : List Mail) → IsCall (w.replica name) c new answer out → Goes w name t (w.outgoing name) new out
    call_goes (Put place value) asks new answer out (v, put, lt, n, a, o) =
        to w name t (w.outgoing name) new _ out [] n o (as_it_was w name t (w.outgoing name) _ _)
    call_goes (Remove key) asks new answer out step = removed w name t (w.outgoing name) _ new answer out step
    call_goes (RemoveField place) asks new answer out step = removed w name t (w.outgoing name) _ new answer out step
    call_goes Clear asks new answer out step = removed w name t (w.outgoing name) _ new answer out step
    call_goes Flush asks new answer out (a, inl (none, n, o)) = to w name t (w.outgoing name) new (w.replica name) out [] n o
        (as_it_was w name t (w.outgoing name) (w.replica name).live (w.replica name).group)
    call_goes Flush asks new answer out (a, inr (some, n, o)) = to w name t (w.outgoing name) new (flushed (w.replica name)) out _ n o flushed_sent
    call_goes (call.Ask peer) asks new answer out (own, is, few, left, n, a, o) =
        to w name t (w.outgoing name) new (opens (w.replica name) peer own) out _ n o (opened w name t (w.outgoing name) peer own (asks peer own refl is))
    call_goes (Retry number) asks new answer out (n, a, o) =
        to w name t (w.outgoing name) new (w.replica name) out _ n o
        (record {
          name_stays = t.named name;
          kept_here = t.kept name;
          open_here = t.sessions name;
          sent = retried_sent w name t (w.outgoing name) (w.replica name).kept (open_numbered (w.replica name).sessions number);
        })
    call_goes (Abandon number) asks new answer out (step, o) = abandoned w name t (w.outgoing name) (open_numbered (w.replica name).sessions number)
        new answer out step o
    call_goes Restart asks new answer out (n, a, o) =
        to w name t (w.outgoing name) new (restarts (w.replica name)) out [] n o
        (record { name_stays = t.named name; kept_here = λ k h. nothing_in k h; open_here = λ x h. nothing_in x h; sent = λ mail h. nothing_in mail h })

    pub called_ties : (c : Call) → ((peer : ℕ) (own : Held) → c ≡ call.Ask peer → IsMapOf own (w.replica name).live
        → Asked name (next_session (w.replica name) peer) own (w.replica name).live.has)
        → (new : Replica) (answer : Answer) (out : List Mail) → IsCall (w.replica name) c new answer out
        → Ties hash_of Snap Asked Sends (goes name new out (w.outgoing name) (calls name c w))
    called_ties c asks new answer out step = by c (call_goes c asks new answer out step)
      where
        by : (c : Call) → Goes w name t (w.outgoing name) new out → Ties hash_of Snap Asked Sends (goes name new out (w.outgoing name) (calls name c w))
        by (Put place value) g = goes_on w name t (w.outgoing name) new out g _ _ _
        by (Remove key) g = goes_on w name t (w.outgoing name) new out g _ _ _
        by (RemoveField place) g = goes_on w name t (w.outgoing name) new out g _ _ _
        by Clear g = goes_on w name t (w.outgoing name) new out g _ _ _
        by Flush g = goes_on w name t (w.outgoing name) new out g _ _ _
        by (call.Ask peer) g = goes_on w name t (w.outgoing name) new out g _ _ _
        by (Retry number) g = goes_on w name t (w.outgoing name) new out g _ _ _
        by (Abandon number) g = goes_on w name t (w.outgoing name) new out g _ _ _
        by Restart g = goes_on w name t (w.outgoing name) new out g _ _ _
