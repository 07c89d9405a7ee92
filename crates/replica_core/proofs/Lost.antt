-- No message of a world tells of a lost memory: what messages know is part of all that was made, and of that each replica knows its own writes.
use Rattle.std.proofs.Common.{◌≡◌, ◌⊎◌, inl, inr, ℕ, zero, suc, ◌==◌, List, [], ◌∷◌, ◌++◌, map, Bool, true, false, Option, Some, None, cond, refl, sym, ap, ◌∙◌}
use Rattle.std.proofs.Common.{subst}
use Rattle.std.specs.Prelude.{Contains}
use Rattle.std.specs.FinMap as finite
use Rattle.std.proofs.lemmas.Bool.{false≢true}
use Rattle.std.proofs.lemmas.Option.{same_Some}
use Rattle.std.proofs.lemmas.List.Elements.{Contains-append_left, Contains-append_cases}
use Rattle.dots.specs.Dot.{DotValue}
use Rattle.op_model.specs.Made.{put_at, remove_at, remove_field_at, clear_at, erasure}
use Rattle.op_model.specs.Meaning.{MapState, state}
use Rattle.op_model.specs.Operation.{Write, Operation, Wrote, Erased, IsPartOf, has, ids, known, writes, over_of}
use Rattle.op_model.specs.Operation as operation
use Rattle.op_model.specs.Place.{Place}
use Rattle.op_model.specs.Shown.{shown_where, is_on, is_within, is_anywhere}
use Rattle.op_model.proofs.Dots.{from_has}
use Rattle.op_model.proofs.Fresh.{written_known, part_left}
use Rattle.op_model.proofs.Members.{at_head, in_tail, nothing_in, head_or_tail, from_map}
use Rattle.op_model.proofs.SameSets.{from_shown, writes_part, in_writes}
use Rattle.op_model.proofs.Words.{known-Tells}
use Rattle.wire_form.specs.Page.{PageValue}
use Rattle.wire_form.specs.Sent.{SentValue}
use Rattle.wire_form.specs.Session.{SessionValue}
use Rattle.prefix_digest.specs.Page.{page_at}
use Rattle.sync_model.specs.Closing.{held_state}
use Rattle.sync_model.specs.Differ.{Held}
use Rattle.sync_model.specs.Fetch.{Fetch, take_opening, take_page}
use Rattle.sync_model.specs.Fetch as fetch
use Rattle.replica_model.specs.Mail.{Mail, Delta, Hello, Opening, Ask, Page, Gone, is_for}
use Rattle.replica_model.specs.Replica.{Replica, Open, Accepted, Kept, open_at, kept_at, open_numbered, next_session, joins, advances, closes}
use Rattle.replica_model.specs.Delivery.{Outcome, Turn, turn, ignored, Sent, Done, is_complete, asks_for, asks_of, fetching, went_on, took_gone, took_hello}
use Rattle.replica_model.specs.Delivery.{answered, took_ask, opening_taken, took_first, took_opening, child_prefixes, page_taken, took_further, took_page}
use Rattle.replica_model.specs.Delivery.{taken, delivered}
use Rattle.replica_model.specs.Step.{Call, Put, Remove, RemoveField, Clear, Flush, Retry, Abandon, Restart, Answer, IsCall, again, retried}
use Rattle.replica_model.specs.Step as call
use Rattle.replica_model.specs.World.{World, Event, Node, At, Deliver, Message, Snapshot, message_at, nothing, calls, takes, goes, sent_as, Happens, Runs}
use Rattle.replica_model.specs.World.{Unclashed}
use Rattle.replica_model.proofs.Carried.{at_either, same_messages, left_as_is}
use Rattle.replica_model.proofs.Fronts.{by_events, none_at, delivery}
use Rattle.replica_model.proofs.Meant.{SnapOf, AskedOf, SendsOf, Meant, meant_all, closed_by_call, closed_grows}
use Rattle.replica_model.proofs.Sound.{sound, made_stays, carried}
use Rattle.replica_model.proofs.Ties.{MailTie}
use Rattle.replica_core.specs.Guarding.{knows, NoneHasLost}

-- ---- what was observed was written

abbrev OverWrites : List Operation → Type 0
OverWrites S = (o : Operation) → Contains S o → (dot : DotValue) → has (over_of o) dot ≡ true → (v : Write) × Contains (writes S) v × (v.id ≡ dot)

-- the operations observed just what is written in the set
abbrev ObserveIn : List Operation → List Operation → Type 0
ObserveIn S more = (o : Operation) → Contains more o → (dot : DotValue) → has (over_of o) dot ≡ true → (v : Write) × Contains (writes S) v × (v.id ≡ dot)

shown_written : (S : List Operation) (test : Write → Bool) (dot : DotValue) → has (ids (shown_where S test)) dot ≡ true → (v : Write) × Contains (writes S) v
    × (v.id ≡ dot)
shown_written S test dot h =
    let found = from_map (λ (w : Write). w.id) (shown_where S test) dot (from_has (ids (shown_where S test)) dot h) in
    (found.0, (from_shown S test found.0 found.1).0, found.2)

put_observes : (S : List Operation) (name : ℕ) (place : Place) (value : List ℕ) → ObserveIn S (put_at S name place value)
put_observes S name place value o h dot e = elim (head_or_tail _ [] o h) [
  | inl is ↦ shown_written S (is_on place) dot (subst (λ x. has (over_of x) dot ≡ true) (sym is) e)
  | inr none ↦ nothing_in o none
]

erasure_observes : (S : List Operation) (test : Write → Bool) → ObserveIn S (erasure (ids (shown_where S test)))
erasure_observes S test o h dot e = shown_written S test dot (from (ids (shown_where S test)) h)
  where
    from : (ds : List DotValue) → Contains (erasure ds) o → has ds dot ≡ true
    from [] h = nothing_in o h
    from (d ∷ ds) h = elim (head_or_tail (Erased (d ∷ ds)) [] o h) [
      | inl is ↦ subst (λ x. has (over_of x) dot ≡ true) (sym is) e
      | inr none ↦ nothing_in o none
    ]

more_over : (seen made more : List Operation) → IsPartOf seen made → OverWrites made → ObserveIn seen more → OverWrites (made ++ more)
more_over seen made more part before observe o h dot e = elim (Contains-append_cases made more o h) [
  | inl old ↦ let found = before o old dot e in (found.0, writes_part made (made ++ more) (λ x g. Contains-append_left made more x g) found.0 found.1, found.2)
  | inr new ↦ let found = observe o new dot e in (found.0, writes_part seen (made ++ more) (part_left seen made more part) found.0 found.1, found.2)
]

call_over : (w : World) (name : ℕ) (c : Call) → IsPartOf (w.seen name) w.made → OverWrites w.made → OverWrites (calls name c w).made
call_over w name (Put place value) part f = more_over (w.seen name) w.made (put_at (w.seen name) name place value) part f
    (put_observes (w.seen name) name place value)
call_over w name (Remove key) part f = more_over (w.seen name) w.made (remove_at (w.seen name) key) part f (erasure_observes (w.seen name) (is_within key))
call_over w name (RemoveField place) part f = more_over (w.seen name) w.made (remove_field_at (w.seen name) place) part f
    (erasure_observes (w.seen name) (is_on place))
call_over w name Clear part f = more_over (w.seen name) w.made (clear_at (w.seen name)) part f (erasure_observes (w.seen name) is_anywhere)
call_over w name Flush part f = f
call_over w name (call.Ask peer) part f = f
call_over w name (Retry number) part f = f
call_over w name (Abandon number) part f = f
call_over w name Restart part f = f

made_after : (w : World) (name : ℕ) (old : Replica) (mail : Mail) (of : Snapshot) (outcome : Outcome) → (takes name old mail of outcome w).made ≡ w.made
made_after w name = left_as_is name (λ u. u.made) (λ u m. refl) (λ u o s. refl) (λ u s o. refl) (λ u s t. refl) (λ u o f t. refl) w

messages_by_call : (w : World) (name : ℕ) (c : Call) → (calls name c w).messages ≡ w.messages
messages_by_call w name (Put place value) = refl
messages_by_call w name (Remove key) = refl
messages_by_call w name (RemoveField place) = refl
messages_by_call w name Clear = refl
messages_by_call w name Flush = refl
messages_by_call w name (call.Ask peer) = refl
messages_by_call w name (Retry number) = refl
messages_by_call w name (Abandon number) = refl
messages_by_call w name Restart = refl

-- ---- which messages are hellos

abbrev is_hello : Mail → Bool
is_hello (Hello s seen) = true
is_hello other = false

abbrev NoHello : List Mail → Type 0
NoHello [] = Unit {0}
NoHello (mail ∷ out) = (is_hello mail ≡ false) × NoHello out

no_hello_in : (out : List Mail) (mail : Mail) → NoHello out → Contains out mail → is_hello mail ≡ false
no_hello_in [] mail none h = nothing_in mail h
no_hello_in (x ∷ out) mail (here, rest) h = elim (head_or_tail x out mail h) [
  | inl is ↦ ap is_hello (sym is) ∙ here
  | inr tail ↦ no_hello_in out mail rest tail
]

asks_are_none : (s : SessionValue) (prefixes : List (List ℕ)) → NoHello (map (Ask s) prefixes)
asks_are_none s [] = tt
asks_are_none s (p ∷ prefixes) = (refl, asks_are_none s prefixes)

-- a delivery sends no hello
module _ (hash_of : List ℕ → ℕ) (r : Replica) where
  no_hello_if : (b : Bool) (t u : Turn) → NoHello t.replies → NoHello u.replies → NoHello (cond b t u).replies
  no_hello_if true t u f g = f
  no_hello_if false t u f g = g

  went_on_none : (o : Open) (context : DotValue → Bool) (f : Fetch) (asks : List Mail) → NoHello asks → NoHello (went_on r o context f asks).replies
  went_on_none o context f asks none =
      no_hello_if (is_complete f) (turn (closes (joins r (held_state f.built context)) o.session) Done [])
      (turn (advances r (fetching o context f)) Sent asks) tt none

  hello_none : (own : Held) (s : SessionValue) (seen : DotValue → Bool) (k : Option Kept) → NoHello (took_hello hash_of own r s seen k).replies
  hello_none own s seen None = (refl, tt)
  hello_none own s seen (Some k) = (refl, tt)

  ask_none : (s : SessionValue) (prefix : List ℕ) (k : Option Kept) → NoHello (took_ask hash_of r s prefix k).replies
  ask_none s prefix None = (refl, tt)
  ask_none s prefix (Some k) = page (page_at hash_of k.map prefix)
    where
      page : (p : Option PageValue) → NoHello (answered hash_of r s k prefix p).replies
      page None = tt
      page (Some p) = (refl, tt)

  opening_none : (context : DotValue → Bool) (root : Option (List ℕ)) (o : Option Open) → NoHello (took_opening hash_of r context root o).replies
  opening_none context root None = tt
  opening_none context root (Some o) = first o.accepted
    where
      taken_none : (t : fetch.Taken) → NoHello (opening_taken hash_of r o context t).replies
      taken_none fetch.Ignored = tt
      taken_none fetch.Mismatch = tt
      taken_none (fetch.Took f) = went_on_none o context f (asks_of o.session f) (asks_are_none o.session (map (λ e. e.0) (finite.entries f.waiting)))

      first : (a : Option Accepted) → NoHello (took_first hash_of r o context root a).replies
      first (Some a) = tt
      first None = taken_none (take_opening hash_of o.own o.seen context root)

  page_none : (sent : SentValue) (o : Option Open) → NoHello (took_page hash_of r sent o).replies
  page_none sent None = tt
  page_none sent (Some o) = further o.accepted
    where
      taken_none : (a : Accepted) (t : fetch.Taken) → NoHello (page_taken hash_of r o a.context sent t).replies
      taken_none a fetch.Ignored = tt
      taken_none a fetch.Mismatch = tt
      taken_none a (fetch.Took f) = went_on_none o a.context f (asks_for o.session (child_prefixes hash_of o sent))
          (asks_are_none o.session (child_prefixes hash_of o sent))

      further : (a : Option Accepted) → NoHello (took_further hash_of r o sent a).replies
      further None = tt
      further (Some a) = taken_none a (take_page hash_of o.own o.seen a.context a.fetch sent.prefix sent.page sent.values)

  gone_none : (o : Option Open) → NoHello (took_gone r o).replies
  gone_none None = tt
  gone_none (Some o) = tt

  taken_none : (own : Held) (mail : Mail) → NoHello (taken hash_of own r mail).replies
  taken_none own (Delta d) = tt
  taken_none own (Hello s seen) = hello_none own s seen (kept_at r.kept s)
  taken_none own (Ask s prefix) = ask_none s prefix (kept_at r.kept s)
  taken_none own (Opening s context root) = opening_none context root (open_at r.sessions s)
  taken_none own (Page s sent) = page_none sent (open_at r.sessions s)
  taken_none own (Gone s) = gone_none (open_at r.sessions s)

  delivered_none : (own : Held) (mail : Mail) → NoHello (delivered hash_of own r mail).replies
  delivered_none own mail = no_hello_if (is_for r.name mail) (taken hash_of own r mail) (ignored r) (taken_none own mail) tt

-- ---- what hellos know was made

abbrev HellosMade : World → Type 0
HellosMade w =
    (number : ℕ) (m : Message) → message_at w.messages number ≡ Some m → (s : SessionValue) (seen : DotValue → Bool) → m.mail ≡ Hello s seen
    → (S : List Operation) × IsPartOf S w.made × (seen ≡ has (known S))

part_of_more : (made made' : List Operation) (seen : DotValue → Bool) → IsPartOf made made' → (S : List Operation) × IsPartOf S made × (seen ≡ has (known S))
    → (S : List Operation) × IsPartOf S made' × (seen ≡ has (known S))
part_of_more made made' seen grew (S, part, is) = (S, (λ o h. grew o (part o h)), is)

-- what a call says of hellos: each that it sends knows what is part of what was made
abbrev HellosOf : List Operation → List Mail → Type 0
HellosOf made out = (s : SessionValue) (seen : DotValue → Bool) → Contains out (Hello s seen) → (S : List Operation) × IsPartOf S made × (seen ≡ has (known S))

no_hello_of : (made : List Operation) (out : List Mail) → NoHello out → HellosOf made out
no_hello_of made out none s seen h = absurd (false≢true (sym (no_hello_in out (Hello s seen) none h)))

hellos_after : (w : World) (name : ℕ) (new : Replica) (out : List Mail) (group : List Operation) (made : List Operation) → IsPartOf made w.made
    → HellosOf w.made out
    → ((number : ℕ) (m : Message) → message_at w.messages number ≡ Some m → (s : SessionValue) (seen : DotValue → Bool) → m.mail ≡ Hello s seen
    → (S : List Operation) × IsPartOf S made × (seen ≡ has (known S)))
    → HellosMade (goes name new out group w)
hellos_after w name new out group made grew sent before number m at s seen is =
    elim (at_either w.messages (map (sent_as group w.kept new.kept) out) number m at) [
      | inl old ↦ part_of_more made w.made seen grew (before number m old s seen is)
      | inr more ↦
          let from = from_map (sent_as group w.kept new.kept) out m more in
          sent s seen (subst (Contains out) (ap (λ (x : Message). x.mail) from.2 ∙ is) from.1)
    ]

abbrev seen_of_hello : Mail → DotValue → Bool
seen_of_hello (Hello s seen) = seen
seen_of_hello other = λ dot. false

one_hello : (s : SessionValue) (seen : DotValue → Bool) (t : SessionValue) (found : DotValue → Bool) → Contains (Hello s seen ∷ []) (Hello t found)
    → found ≡ seen
one_hello s seen t found h = elim (head_or_tail (Hello s seen) [] (Hello t found) h) [
  | inl is ↦ ap seen_of_hello (sym is)
  | inr none ↦ nothing_in (Hello t found) none
]

numbered_in : (os : List Open) (number : ℕ) (o : Open) → open_numbered os number ≡ Some o → Contains os o
numbered_in [] number o e = absurd cc
numbered_in (x ∷ os) number o e = step (x.session.number == number) e (numbered_in os number o)
  where
    step : (b : Bool) → cond b (Some x) (open_numbered os number) ≡ Some o → (open_numbered os number ≡ Some o → Contains os o) → Contains (x ∷ os) o
    step true e rest = subst (Contains (x ∷ os)) (same_Some x o e) (at_head x os)
    step false e rest = in_tail x os o (rest e)

module _ (hash_of : List ℕ → ℕ) (w : World) (name : ℕ) (meant : Meant hash_of w) (part : IsPartOf (w.seen name) w.made) where
  abbrev old : Replica
  old = w.replica name

  live_known : (seen : DotValue → Bool) → seen ≡ old.live.has → (S : List Operation) × IsPartOf S w.made × (seen ≡ has (known S))
  live_known seen is = (w.seen name, part, is ∙ ap (λ (p : MapState). p.has) (meant.live name))

  retry_hellos : (number : ℕ) (o : Option Open) → open_numbered old.sessions number ≡ o → HellosOf w.made (retried old o).replies
  retry_hellos number None e = λ s seen h. nothing_in (Hello s seen) h
  retry_hellos number (Some o) e = by o.accepted
    where
      by : (a : Option Accepted) → HellosOf w.made (again o a)
      by (Some a) = no_hello_of w.made (asks_of o.session a.fetch) (asks_are_none o.session (map (λ e. e.0) (finite.entries a.fetch.waiting)))
      by None = λ s seen h.
          let asked = (meant.ties.sessions name o (numbered_in old.sessions number o e)).asked in
          (asked.0, (λ x g. part x (asked.1 x g)), one_hello o.session o.seen s seen h ∙ asked.3)

  none_sent : (out : List Mail) → out ≡ [] → HellosOf w.made out
  none_sent out e s seen h = nothing_in (Hello s seen) (subst (λ l. Contains l (Hello s seen)) e h)

  call_hellos : (c : Call) (new : Replica) (answer : Answer) (out : List Mail) → IsCall old c new answer out → HellosOf w.made out
  call_hellos (Put place value) new answer out step = none_sent out step.5
  call_hellos (Remove key) new answer out step = none_sent out step.4
  call_hellos (RemoveField place) new answer out step = none_sent out step.4
  call_hellos Clear new answer out step = none_sent out step.4
  call_hellos Flush new answer out step = elim (step.1) [
    | inl none ↦ none_sent out none.2
    | inr some ↦ no_hello_of w.made out (subst NoHello (sym some.2) (refl, tt))
  ]
  call_hellos (call.Ask peer) new answer out step = λ s seen h.
      let out_is = step.6 in
      live_known seen (one_hello (next_session old peer) old.live.has s seen (subst (λ l. Contains l (Hello s seen)) out_is h))
  call_hellos (Retry number) new answer out step = subst (HellosOf w.made) (sym step.2) (retry_hellos number (open_numbered old.sessions number) refl)
  call_hellos (Abandon number) new answer out step = none_sent out step.1
  call_hellos Restart new answer out step = none_sent out step.2

-- ---- every list of events

record Told (w : World) : Type 0 where
  pub over : OverWrites w.made
  pub hellos : HellosMade w

module _ (hash_of : List ℕ → ℕ) where
  abbrev IfClean : List Event → World → Type 0
  IfClean events w = Unclashed hash_of w → Told w

  nothing_tells : Told nothing
  nothing_tells = record { over = λ o h. nothing_in o h; hellos = λ number m at. absurd (none_at number m at) }

  next_tells : (events : List Event) (w v : World) (e : Event) (answer : Answer) → Runs hash_of nothing events w → IfClean events w
      → Happens hash_of w e answer v → IfClean (events ++ e ∷ []) v
  next_tells events w v (Node name) answer runs t (new, a, e) clean =
      subst Told (sym e) (let before = t (λ x h. clean x (subst (λ (u : World). Contains u.closed x) (sym e) h)) in
      record { over = before.over; hellos = before.hellos })
  next_tells events w v (At name c) answer runs t (there, peer, (new, out, step, e)) clean =
      let before : Unclashed hash_of w =
      λ x h. clean x (subst (λ (u : World). Contains u.closed x) (sym e) (subst (λ l. Contains l x) (sym (closed_by_call w name c)) h)) in
      let s = sound hash_of events w runs in
      let told = t before in
      let grew = made_stays w name c w.made (λ o h. h) in
      let sent = call_hellos hash_of w name (meant_all hash_of events w runs before) (s.sets.seen name) c new answer out step in
      subst Told (sym e) (record {
        over = call_over w name c (s.sets.seen name) told.over;
        hellos = hellos_after (calls name c w) name new out (w.outgoing name) w.made grew
            (λ x seen h. part_of_more w.made (calls name c w).made seen grew (sent x seen h))
            (subst (λ ms. (number : ℕ) (m : Message) → message_at ms number ≡ Some m → (x : SessionValue) (seen : DotValue → Bool) → m.mail ≡ Hello x seen
            → (S : List Operation) × IsPartOf S w.made × (seen ≡ has (known S))) (sym (messages_by_call w name c)) told.hellos);
      })
  next_tells events w v (Deliver number name) answer runs t happens clean =
      let d = delivery hash_of w v number name answer happens in
      let old = w.replica name in
      let after = takes name old d.message.mail d.message.of d.outcome w in
      let same = made_after w name old d.message.mail d.message.of d.outcome in
      let before : Unclashed hash_of w =
      λ x h. clean x (subst (λ (u : World). Contains u.closed x) (sym d.after) (closed_grows w name old d.message.mail d.message.of d.outcome x h)) in
      let told = t before in
      let none = subst (λ (y : Turn). NoHello y.replies) d.step (delivered_none hash_of old d.own d.message.mail) in
      subst Told (sym d.after) (record {
        over = subst OverWrites (sym same) told.over;
        hellos = hellos_after after name d.new d.out [] w.made (subst (IsPartOf w.made) (sym same) (λ o h. h)) (no_hello_of after.made d.out none)
            (subst (λ ms. (k : ℕ) (m : Message) → message_at ms k ≡ Some m → (x : SessionValue) (seen : DotValue → Bool) → m.mail ≡ Hello x seen
            → (S : List Operation) × IsPartOf S w.made × (seen ≡ has (known S))) (sym (same_messages w name old d.message.mail d.message.of d.outcome))
            told.hellos);
      })

  all_tell : (events : List Event) (w : World) → Runs hash_of nothing events w → Unclashed hash_of w → Told w
  all_tell events w runs = by_events hash_of IfClean (λ clean. nothing_tells) next_tells events w runs

-- ---- what messages know, and what their replica does

module _ (hash_of : List ℕ → ℕ) (events : List Event) (w : World) (runs : Runs hash_of nothing events w) (clean : Unclashed hash_of w) where
  meant : Meant hash_of w
  meant = meant_all hash_of events w runs clean

  tells : Told w
  tells = all_tell hash_of events w runs clean

  -- a dot that is known of what was made is known to the replica of its name
  own_known : (S : List Operation) → IsPartOf S w.made → (dot : DotValue) → has (known S) dot ≡ true → (w.replica dot.name).live.has dot ≡ true
  own_known S part dot h =
      ap (λ (p : MapState). p.has dot) (meant.live dot.name) ∙ by ((known-Tells S dot).0 h)
    where
      written : (v : Write) → Contains (writes w.made) v → v.id ≡ dot → has (known (w.seen dot.name)) dot ≡ true
      written v there is =
          subst (λ (d : DotValue). has (known (w.seen d.name)) d ≡ true) is
          (written_known (w.seen v.id.name) v ((sound hash_of events w runs).sets.own v there))

      by : (o : Operation) × Contains S o × operation.Tells o dot → has (known (w.seen dot.name)) dot ≡ true
      by (Wrote v, there, inl is) = written v (in_writes w.made v (part (Wrote v) there)) is
      by (Wrote v, there, inr over) = let found = tells.over (Wrote v) (part (Wrote v) there) dot over in written found.0 found.1 found.2
      by (Erased ds, there, over) = let found = tells.over (Erased ds) (part (Erased ds) there) dot over in written found.0 found.1 found.2

  -- what a message knows is known of what was made
  mail_known : (number : ℕ) (m : Message) → message_at w.messages number ≡ Some m → (dot : DotValue) → knows m.mail dot ≡ true
      → (w.replica dot.name).live.has dot ≡ true
  mail_known number m at dot h = by m.mail refl (meant.ties.messages number m at) h
    where
      part : IsPartOf m.of.seen w.made
      part = subst (λ S. IsPartOf S w.made) (carried w.messages number m at) ((sound hash_of events w runs).sets.messages number)

      by : (mail : Mail) → m.mail ≡ mail → MailTie hash_of SnapOf (AskedOf w) SendsOf mail m.of → knows mail dot ≡ true
          → (w.replica dot.name).live.has dot ≡ true
      by (Delta d) is tie h = own_known m.of.seen part dot (ap (λ (p : MapState). p.has dot) (sym tie) ∙ h)
      by (Hello s seen) is tie h = let known_of = tells.hellos number m at s seen is in
          own_known known_of.0 known_of.1 dot (ap (λ f. f dot) (sym known_of.2) ∙ h)
      by (Opening s context root) is tie h = own_known m.of.seen part dot (ap (λ f. f dot) (sym tie.0.1) ∙ h)
      by (Ask s prefix) is tie h = absurd (false≢true h)
      by (Page s sent) is tie h = absurd (false≢true h)
      by (Gone s) is tie h = absurd (false≢true h)

pub none_has_lost : NoneHasLost
none_has_lost hash_of events w runs clean number name m at (n, knows_it, lacks) =
    let named : (w.replica name).name ≡ name = (meant hash_of events w runs clean).ties.named name in
    let there = mail_known hash_of events w runs clean number m at (record { name = (w.replica name).name; number = n }) knows_it in
    false≢true (sym lacks ∙ subst (λ k. (w.replica k).live.has (record { name = (w.replica name).name; number = n }) ≡ true) named there)
