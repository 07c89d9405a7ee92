-- The account of what happened is that of the world to which it led.
use Rattle.std.proofs.Common.{◌≡◌, ℕ, ◌+◌, ◌≤◌, List, [], ◌∷◌, ◌++◌, map, length, fold, Some, refl, sym, ap, ◌∙◌, subst, arith, append_assoc}
use Rattle.std.specs.Prelude.{Contains}
use Rattle.std.specs.List.{repeat}
use Rattle.std.specs.Option.{unwrap_or}
use Rattle.std.proofs.lemmas.List.{append-nil}
use Rattle.op_model.specs.Operation.{Operation}
use Rattle.op_model.specs.World.{message}
use Rattle.op_model.proofs.Members.{nothing_in}
use Rattle.prefix_digest.specs.MapOf.{map_of}
use Rattle.wire_form.specs.Session.{SessionValue}
use Rattle.replica_model.specs.Mail.{Mail, Delta, Hello, Opening, Ask, Page, Gone}
use Rattle.replica_model.specs.Replica.{Replica, Open, Accepted, Kept}
use Rattle.replica_model.specs.Delivery.{turn}
use Rattle.replica_model.specs.Step.{Call, Answer}
use Rattle.replica_model.specs.World.{World, Event, Node, At, Deliver, Message, Snapshot, message_at, nothing, goes, Happens, Runs, Unclashed}
use Rattle.replica_model.specs.World as world
use Rattle.replica_model.specs.Happened.{Happened, Leads}
use Rattle.replica_model.specs.Seen.{Account, nothing_told, bytes_at, tells, account, opens_with, kept_for, session_in, kind_of, outcome_in}
use Rattle.replica_model.specs.Seen as seen
use Rattle.replica_model.specs.Spelled.{AreSpelled}
use Rattle.replica_model.specs.Accounts.{AccountsAreTold}
use Rattle.replica_model.proofs.Deciding.{goes_on}
use Rattle.replica_model.proofs.Sound.{sound, carried}
use Rattle.replica_model.proofs.Ties.{MailTie}
use Rattle.replica_model.proofs.Carried.{same_messages, delivered_ties}
use Rattle.replica_model.proofs.Calls.{more_ties, called_ties}
use Rattle.replica_model.proofs.Fronts.{Delivered, delivery, SendsAny, none_at}
use Rattle.replica_model.proofs.Fronts as fronts
use Rattle.replica_model.proofs.Ended.{here_new}
use Rattle.replica_model.proofs.Meant.{SnapOf, AskedOf, SendsOf, meant_all, closed_grows, closed_by_call}
use Rattle.replica_model.proofs.Leaving.{same_calls, leaves}
use Rattle.replica_model.proofs.Askers.{stays_at}
use Rattle.replica_model.proofs.Asks.{event_opens}
use Rattle.replica_model.proofs.AccountBytes.{IsRead, read, spelled_at}
use Rattle.replica_model.proofs.AccountMet.{CleanClosed}
use Rattle.replica_model.proofs.AccountTold.{IsTold, AnySnap, AskedAs, AskedTies, told_next}
use Rattle.replica_model.proofs.AccountRows.{ShowsMap, joins_delta, account_after, carries_after, Row, row}
use Rattle.replica_model.proofs.AccountCalls.{call_follows, call_sent, old_asked, new_asked}

module _ (hash_of : List ℕ → ℕ) where
  told_first : IsTold hash_of nothing_told nothing
  told_first = record {
    nodes = refl;
    seen = refl;
    unsent = refl;
    carried = refl;
    kept = λ n. refl;
    opened = λ s. refl;
    pages = λ s. tt;
    asked = λ clean. record {
      named = λ n. refl;
      kept = λ n k h. nothing_in k h;
      sessions = λ n o h. nothing_in o h;
      messages = λ number m is. absurd (none_at number m is);
    };
    clean = (λ c x h. nothing_in x h, λ c x h. nothing_in x h);
  }

  -- as more numbers are given out, what is asked is still so
  more_asked : (asked : SessionValue → List Operation) (w v u : World) → ((n : ℕ) → (w.replica n).opened ≤ (v.replica n).opened) → AskedTies hash_of asked w u
      → AskedTies hash_of asked v u
  more_asked asked w v u grew =
      more_ties hash_of AnySnap AnySnap (AskedAs asked w) (AskedAs asked v) (SendsAny hash_of) (SendsAny hash_of)
      (λ s S m c h. h)
      (λ n s m c p. (p.0, p.1, let few = p.2 in omega (arith, few, grew n)))
      (λ d S h. h)
      u

  module _ (messages : List (List ℕ)) (events : List Event) (a : Account) (w v : World) (runs : Runs hash_of nothing events w) (told : IsTold hash_of a w) where
    -- ---- a replica is there

    node_next : (name sent : ℕ) (answer : Answer) → v ≡ record w { nodes = w.nodes ++ name ∷ [] } → length v.messages ≡ length w.messages + sent
        → IsTold hash_of (tells messages a (record { event = Node name; answer = answer; sent = sent })) v
    node_next name sent answer e count =
        let same : length v.messages ≡ length w.messages = ap (λ (x : World). length x.messages) e in
        let none : sent ≡ 0 = omega (arith, same, count) in
        subst (IsTold hash_of (tells messages a (record { event = Node name; answer = answer; sent = sent }))) (sym e) (record {
          nodes = ap (λ l. l ++ name ∷ []) told.nodes;
          seen = told.seen;
          unsent = told.unsent;
          carried = ap (λ k. a.carried ++ repeat k ([] ∷ [])) none ∙ append-nil a.carried ∙ told.carried;
          kept = told.kept;
          opened = told.opened;
          pages = told.pages;
          asked = λ clean. let t = told.asked clean in record { named = t.named; kept = t.kept; sessions = t.sessions; messages = t.messages };
          clean = told.clean;
        })

    -- ---- a call

    call_next : (name sent : ℕ) (c : Call) (answer : Answer) → Happens hash_of w (At name c) answer v → length v.messages ≡ length w.messages + sent
        → IsTold hash_of (tells messages a (record { event = At name c; answer = answer; sent = sent })) v
    call_next name sent c answer (there, peer, (new, out, step, e)) count =
        told_next hash_of a (seen.calls name c answer a) w (world.calls name c w) name new out (w.outgoing name)
        (seen.carries messages (At name c) a (seen.calls name c answer a)) sent told (same_calls w name c).0
        (call_follows hash_of a w name told c new answer out step)
        (call_sent hash_of a w name told messages c new answer out step) v e count asked
      where
        asked : Unclashed hash_of (goes name new out (w.outgoing name) (world.calls name c w))
            → AskedTies hash_of (seen.calls name c answer a).asked (goes name new out (w.outgoing name) (world.calls name c w))
            (goes name new out (w.outgoing name) (world.calls name c w))
        asked clean =
            let u = world.calls name c w in
            let x = goes name new out (w.outgoing name) u in
            let then = (seen.calls name c answer a).asked in
            let before : Unclashed hash_of w = λ m h. clean m (subst (λ l. Contains l m) (sym (closed_by_call w name c)) h) in
            let t = told.asked before in
            let grew : (n : ℕ) → (w.replica n).opened ≤ (x.replica n).opened =
            event_opens hash_of w x (At name c) answer (there, peer, (new, out, step, refl)) in
            let new_one : (x.replica name).opened ≡ new.opened = ap (λ (q : Replica). q.opened) (here_new name new (u.replica name)) in
            called_ties hash_of AnySnap (AskedAs then x) (SendsAny hash_of) w name
            (more_ties hash_of AnySnap AnySnap (AskedAs a.asked w) (AskedAs then x) (SendsAny hash_of) (SendsAny hash_of)
            (λ s S m k h. h)
            (λ n s m k p. (
              old_asked hash_of a w name told c new answer out step n s m p.0 p.1 p.2,
              p.1,
              let few = p.2 in omega (arith, few, grew n),
            ))
            (λ d S h. h)
            w t)
            tt c
            (λ peer own is_ask is.
            let now = new_asked hash_of a w name told (t.named name) (sound hash_of events w runs) (meant_all hash_of events w runs before)
            c new answer out step peer own is_ask is in
            let few = now.1 in
            (now.0, t.named name, omega (arith, few, new_one)))
            new answer out step

    -- ---- a delivery

    shows_map : (mail : Mail) (of : Snapshot) → (CleanClosed hash_of w.closed → MailTie hash_of SnapOf (AskedOf w) SendsOf mail of)
        → ShowsMap (CleanClosed hash_of w.closed) mail of
    shows_map (Delta d) of tie = tt
    shows_map (Hello s known) of tie = tt
    shows_map (Opening s context root) of tie = λ clean. (tie clean).0.0
    shows_map (Ask s prefix) of tie = tt
    shows_map (Page s page) of tie = tt
    shows_map (Gone s) of tie = tt

    module _ (number name sent : ℕ) (answer : Answer) (happens : Happens hash_of w (Deliver number name) answer v)
        (is_read : IsRead (bytes_at messages number) (delivery hash_of w v number name answer happens).message.mail) where
      abbrev d : Delivered hash_of w number name answer v
      d = delivery hash_of w v number name answer happens

      abbrev bytes : List ℕ
      bytes = bytes_at messages number

      abbrev session : SessionValue
      session = session_in bytes

      abbrev mail : Mail
      mail = d.message.mail

      abbrev of : Snapshot
      of = d.message.of

      abbrev sets : World
      sets = world.takes name (w.replica name) mail of d.outcome w

      abbrev after : World
      after = goes name d.new d.out [] sets

      named : (w.replica name).name ≡ name
      named = (fronts.told hash_of events w runs).named name

      answerers : (n : ℕ) (k : Kept) → Contains (w.replica n).kept k → k.session.answerer ≡ n
      answerers n k there = ((fronts.told hash_of events w runs).kept n k there).answerer

      owns : CleanClosed hash_of w.closed → (o : Open) → Contains (w.replica name).sessions o → o.own ≡ map_of (a.asked o.session)
      owns clean o there = ((told.asked clean).sessions name o there).asked.0

      accepts : CleanClosed hash_of w.closed → (o : Open) (x : Accepted) → Contains (w.replica name).sessions o → o.accepted ≡ Some x
          → (w.accepted o.session).map ≡ map_of (w.accepted o.session).seen
      accepts clean o x there accepted = (((meant_all hash_of events w runs clean).ties.sessions name o there).fetched x accepted).0.0

      the_row : Row hash_of a w name told named answerers of bytes session mail (turn d.new d.outcome d.out)
      the_row =
          subst (Row hash_of a w name told named answerers of bytes session mail) d.step
          (row hash_of a w name told named answerers of bytes session owns accepts d.own mail (
            joins_delta hash_of d.own (w.replica name) mail,
            is_read.page,
            shows_map mail of (λ clean. (meant_all hash_of events w runs clean).ties.messages number d.message d.there),
          ))

      abbrev then : Account
      then = account_after hash_of a w name told named answerers of bytes session mail d.outcome

      abbrev carries : List Operation
      carries = carries_after hash_of a w name told named answerers of bytes session mail d.outcome

      -- the account by the mail is that by the bytes
      read_as : seen.does messages (Deliver number name) answer a ≡ then
      read_as =
          let stands : message a.carried number ≡ of.seen = ap (λ l. message l number) told.carried ∙ carried w.messages number d.message d.there in
          λ i. seen.takes (is_read.kind i) (outcome_in (d.answers i)) name (is_read.session i) (stands i) bytes a

      tells_as : tells messages a (record { event = Deliver number name; answer = answer; sent = sent })
          ≡ record then { carried = a.carried ++ repeat sent (carries ∷ []) }
      tells_as = λ i. record (read_as i) {
        carried = a.carried ++ repeat sent (opens_with (is_read.kind i) (unwrap_or (kept_for ((read_as i).kept name) (is_read.session i)) []) ∷ []);
      }

      asked : Unclashed hash_of after → AskedTies hash_of then.asked after after
      asked clean =
          let before : Unclashed hash_of w = λ m h. clean m (closed_grows w name (w.replica name) mail of d.outcome m h) in
          let opened_in : World → Type 0 = λ x. (n : ℕ) → (w.replica n).opened ≤ (x.replica n).opened in
          let grew : opened_in after = subst opened_in d.after (event_opens hash_of w v (Deliver number name) answer happens) in
          subst (λ f. AskedTies hash_of f after after) (sym the_row.asked)
          (delivered_ties hash_of AnySnap (AskedAs a.asked after) (SendsAny hash_of) w name d.own d.message number
          (more_asked a.asked w after w grew (told.asked before)) d.there (λ s known hello here none. tt) d.new d.outcome d.out d.step)

      delivery_next : length v.messages ≡ length w.messages + sent
          → IsTold hash_of (tells messages a (record { event = Deliver number name; answer = answer; sent = sent })) v
      delivery_next count =
          subst (λ x. IsTold hash_of x v) (sym tells_as)
          (told_next hash_of a then w sets name d.new d.out [] carries sent told (same_messages w name (w.replica name) mail of d.outcome)
          the_row.follows the_row.sent v d.after count asked)

    -- ---- any event

    -- the messages of this world stand in what spells those of a later one
    module _ (last : World) (more : List Message) (longer : last.messages ≡ w.messages ++ more)
        (spelled : AreSpelled messages (map (λ (m : Message). m.mail) last.messages)) where
      read_there : (number : ℕ) (m : Message) → message_at w.messages number ≡ Some m → IsRead (bytes_at messages number) m.mail
      read_there number m there =
          read (bytes_at messages number) m.mail
          (spelled_at messages last.messages spelled number m
          (subst (λ ms. message_at ms number ≡ Some m) (sym longer) (stays_at w.messages more number m there)))

      event_next : (e : Event) (answer : Answer) (sent : ℕ) → Happens hash_of w e answer v → length v.messages ≡ length w.messages + sent
          → IsTold hash_of (tells messages a (record { event = e; answer = answer; sent = sent })) v
      event_next (Node name) answer sent (fresh, x, e) count = node_next name sent answer e count
      event_next (At name c) answer sent happens count = call_next name sent c answer happens count
      event_next (Deliver number name) answer sent happens count =
          let m = (delivery hash_of w v number name answer happens).message in
          delivery_next number name sent answer happens (read_there number m (delivery hash_of w v number name answer happens).there) count

  -- ---- all that happened

  -- messages are only added
  messages_more : (hs : List Happened) (w v : World) → Leads hash_of w hs v → (more : List Message) × (v.messages ≡ w.messages ++ more)
  messages_more [] w v same = ([], ap (λ (x : World). x.messages) same ∙ sym (append-nil w.messages))
  messages_more (h ∷ hs) w v (u, step, count, rest) =
      let first = (leaves hash_of w u h.event h.answer step).messages in
      let later = messages_more hs u v rest in (
        first.0 ++ later.0,
        later.1 ∙ ap (λ ms. ms ++ later.0) first.1 ∙ append_assoc w.messages first.0 later.0,
      )

  told_all : (messages : List (List ℕ)) (hs : List Happened) (done : List Event) (a : Account) (w v : World) → Runs hash_of nothing done w
      → IsTold hash_of a w → Leads hash_of w hs v → AreSpelled messages (map (λ (m : Message). m.mail) v.messages)
      → IsTold hash_of (fold (tells messages) a hs) v
  told_all messages [] done a w v runs told same spelled = subst (IsTold hash_of a) (sym same) told
  told_all messages (h ∷ hs) done a w v runs told (u, step, count, rest) spelled =
      let more = messages_more (h ∷ hs) w v (u, step, count, rest) in
      told_all messages hs (done ++ h.event ∷ []) (tells messages a h) u v (goes_on hash_of done w u h.event h.answer runs step)
      (event_next messages done a w u runs told v more.0 more.1 spelled h.event h.answer h.sent step count) rest spelled

pub accounts_are : AccountsAreTold
accounts_are hash_of messages hs w leads spelled =
    let told = told_all hash_of messages hs [] nothing_told nothing w refl (told_first hash_of) leads spelled in
    record { nodes = told.nodes; seen = λ name. ap (λ f. f name) told.seen; clean = told.clean }
