-- What an event of a system does in its world, and in each world that is the same at its replica.
use Rattle.std.proofs.Common.{◌≡◌, ◌≢◌, ℕ, zero, suc, ◌+◌, ◌==◌, List, [], ◌∷◌, ◌++◌, length, map, Bool, true, false, Some, cond, refl, sym, ap, ◌∙◌, subst, arith}
use Rattle.std.proofs.Common.{eqb-true}
use Rattle.std.specs.Prelude.{slice_get}
use Rattle.std.proofs.lemmas.List.{append-nil, length-append, length-map}
use Rattle.op_model.specs.Operation.{Operation}
use Rattle.op_model.specs.World.{is_among}
use Rattle.wire_form.specs.Session.{SessionValue}
use Rattle.sync_model.specs.Laws.{Taking}
use Rattle.replica_model.specs.Mail.{Mail, Delta, Hello, Opening, Ask, Page, Gone}
use Rattle.replica_model.specs.Replica.{Replica, open_at}
use Rattle.replica_model.specs.Delivery.{Outcome, Joined, Sent, Done, Ignored, Mismatch, Ended}
use Rattle.replica_model.specs.Step.{Call, Put, Remove, RemoveField, Clear, Flush, Retry, Abandon, Restart, Do, Take, Answer, Came, IsStep}
use Rattle.replica_model.specs.Step as call
use Rattle.replica_model.specs.World.{World, Event, Node, At, Deliver, Message, Snapshot, message_at, nothing, calls, takes, keeps, accepts, takes_page}
use Rattle.replica_model.specs.World.{taking_of, own_of, ends, is_sent, is_done, sent_as, goes, is_node, has_peer, Happens}
use Rattle.replica_model.specs.Laws.{replica_of}
use Rattle.replica_model.specs.Crashing as crashing
use Rattle.replica_model.specs.Crashing.{System, mail_at, peer_in, Does}
use Rattle.replica_model.proofs.Carried.{if_both, same_replicas, same_messages, left_as_is}
use Rattle.replica_model.proofs.Fronts.{same_after_calls}
use Rattle.replica_model.proofs.Leaving.{same_calls, leaves}

-- ---- what a world is to all replicas, and what it is at one

pub record Common : Type 0 where
  pub nodes : List ℕ
  pub messages : List Message
  pub kept : SessionValue → List Operation
  pub accepted : SessionValue → Snapshot
  pub taken : SessionValue → List Taking

pub record Own : Type 0 where
  pub replica : Replica
  pub seen : List Operation
  pub outgoing : List Operation

abbrev pub common : World → Common
common w = record { nodes = w.nodes; messages = w.messages; kept = w.kept; accepted = w.accepted; taken = w.taken }

abbrev pub own_at : ℕ → World → Own
own_at n w = record { replica = w.replica n; seen = w.seen n; outgoing = w.outgoing n }

abbrev pub here : ℕ → World → Common × Own
here n w = (common w, own_at n w)

abbrev world_of : Common × Own → World
world_of h = record {
  nodes = h.0.nodes;
  replica = λ n. h.1.replica;
  messages = h.0.messages;
  seen = λ n. h.1.seen;
  outgoing = λ n. h.1.outgoing;
  made = [];
  kept = h.0.kept;
  accepted = h.0.accepted;
  taken = h.0.taken;
  closed = [];
}

-- ---- an event goes by what a world is at its replica

abbrev after_call : ℕ → Call → Replica → List Mail → Common × Own → Common × Own
after_call n c new out h = here n (goes n new out h.1.outgoing (calls n c (world_of h)))

call_here : (w : World) (n : ℕ) (c : Call) (new : Replica) (out : List Mail) → here n (goes n new out (w.outgoing n) (calls n c w))
    ≡ after_call n c new out (here n w)
call_here w n (Put place value) new out = refl
call_here w n (Remove key) new out = refl
call_here w n (RemoveField place) new out = refl
call_here w n Clear new out = refl
call_here w n Flush new out = refl
call_here w n (call.Ask peer) new out = refl
call_here w n (Retry number) new out = refl
call_here w n (Abandon number) new out = refl
call_here w n Restart new out = refl

call_common : (w : World) (n : ℕ) (c : Call) → common (calls n c w) ≡ common w
call_common w n (Put place value) = refl
call_common w n (Remove key) = refl
call_common w n (RemoveField place) = refl
call_common w n Clear = refl
call_common w n Flush = refl
call_common w n (call.Ask peer) = refl
call_common w n (Retry number) = refl
call_common w n (Abandon number) = refl
call_common w n Restart = refl

peer_same : (w : World) (c : Call) → has_peer w c ≡ peer_in w.nodes c
peer_same w (Put place value) = refl
peer_same w (Remove key) = refl
peer_same w (RemoveField place) = refl
peer_same w Clear = refl
peer_same w Flush = refl
peer_same w (call.Ask peer) = refl
peer_same w (Retry number) = refl
peer_same w (Abandon number) = refl
peer_same w Restart = refl

abbrev after_take : ℕ → Replica → Mail → Snapshot → Outcome → Replica → List Mail → Common × Own → Common × Own
after_take n old mail of outcome new out h = here n (goes n new out [] (takes n old mail of outcome (world_of h)))

take_here : (w : World) (n : ℕ) (old : Replica) (mail : Mail) (of : Snapshot) (outcome : Outcome) (new : Replica) (out : List Mail)
    → here n (goes n new out [] (takes n old mail of outcome w)) ≡ after_take n old mail of outcome new out (here n w)
take_here w n old (Delta d) of outcome new out = refl
take_here w n old (Hello s seen) of outcome new out = by (is_sent outcome)
  where
    by : (b : Bool) → here n (goes n new out [] (cond b (keeps n old s w) w))
        ≡ here n (goes n new out [] (cond b (keeps n old s (world_of (here n w))) (world_of (here n w))))
    by true = refl
    by false = refl
take_here w n old (Opening s context root) of outcome new out = by (is_done outcome) (is_sent outcome)
  where
    by : (b d : Bool) → here n (goes n new out [] (cond b (ends n (own_of (open_at old.sessions s)) of [] w) (cond d (accepts s of w) w)))
        ≡ here n (goes n new out [] (cond b (ends n (own_of (open_at old.sessions s)) of [] (world_of (here n w)))
        (cond d (accepts s of (world_of (here n w))) (world_of (here n w)))))
    by true d = refl
    by false true = refl
    by false false = refl
take_here w n old (Ask s prefix) of outcome new out = refl
take_here w n old (Page s sent) of outcome new out = by (is_done outcome) (is_sent outcome)
  where
    ended : World → World
    ended u = ends n (own_of (open_at old.sessions s)) (u.accepted s) (taking_of sent ∷ u.taken s) u

    by : (b d : Bool)
        → here n (goes n new out [] (cond b (ends n (own_of (open_at old.sessions s)) (w.accepted s) (taking_of sent ∷ w.taken s) w)
        (cond d (takes_page s sent w) w)))
        ≡ here n (goes n new out [] (cond b (ends n (own_of (open_at old.sessions s)) (w.accepted s) (taking_of sent ∷ w.taken s) (world_of (here n w)))
        (cond d (takes_page s sent (world_of (here n w))) (world_of (here n w)))))
    by true d = refl
    by false true = refl
    by false false = refl
take_here w n old (Gone s) of outcome new out = refl

not_sent : (o : Outcome) → (o ≡ Sent → ⊥) → is_sent o ≡ false
not_sent Joined apart = refl
not_sent Sent apart = absurd (apart refl)
not_sent Done apart = refl
not_sent Ignored apart = refl
not_sent Mismatch apart = refl
not_sent Ended apart = refl

take_common : (w : World) (n : ℕ) (old : Replica) (mail : Mail) (of : Snapshot) (outcome : Outcome) → (outcome ≡ Sent → ⊥)
    → common (takes n old mail of outcome w) ≡ common w
take_common w n old (Delta d) of outcome apart = refl
take_common w n old (Hello s seen) of outcome apart = ap (λ b. common (cond b (keeps n old s w) w)) (not_sent outcome apart)
take_common w n old (Opening s context root) of outcome apart =
    if_both common (is_done outcome) (ends n (own_of (open_at old.sessions s)) of [] w) (cond (is_sent outcome) (accepts s of w) w) (common w) refl
    (ap (λ b. common (cond b (accepts s of w) w)) (not_sent outcome apart))
take_common w n old (Ask s prefix) of outcome apart = refl
take_common w n old (Page s sent) of outcome apart =
    if_both common (is_done outcome) (ends n (own_of (open_at old.sessions s)) (w.accepted s) (taking_of sent ∷ w.taken s) w)
    (cond (is_sent outcome) (takes_page s sent w) w) (common w) refl
    (ap (λ b. common (cond b (takes_page s sent w) w)) (not_sent outcome apart))
take_common w n old (Gone s) of outcome apart = refl

-- nothing was sent
pub none_sent : (n : ℕ) (new : Replica) (group : List Operation) (w : World) → common (goes n new [] group w) ≡ common w
none_sent n new group w = λ i. record { nodes = w.nodes; messages = append-nil w.messages i; kept = w.kept; accepted = w.accepted; taken = w.taken }

-- ---- messages by what they mean

mails : List Message → List Mail
mails ms = map (λ m. m.mail) ms

mails_on : (ms : List Message) (group : List Operation) (kept : SessionValue → List Operation) (ks : List Rattle.replica_model.specs.Replica.Kept)
    (out : List Mail)
    → map (λ m. m.mail) (ms ++ map (sent_as group kept ks) out) ≡ map (λ m. m.mail) ms ++ out
mails_on [] group kept ks [] = refl
mails_on [] group kept ks (x ∷ out) = ap (λ xs. x ∷ xs) (mails_on [] group kept ks out)
mails_on (m ∷ ms) group kept ks out = ap (λ xs. m.mail ∷ xs) (mails_on ms group kept ks out)

sends_on : (ms : List Message) (group : List Operation) (kept : SessionValue → List Operation) (ks : List Rattle.replica_model.specs.Replica.Kept)
    (out : List Mail)
    → length (ms ++ map (sent_as group kept ks) out) ≡ length ms + length out
sends_on ms group kept ks out = length-append ms (map (sent_as group kept ks) out) ∙ ap (λ k. length ms + k) (length-map out (sent_as group kept ks))

found : (ms : List Message) (number : ℕ) (mail : Mail) → mail_at (map (λ m. m.mail) ms) number ≡ Some mail → (m : Message) × (message_at ms number ≡ Some m)
    × (m.mail ≡ mail)
found ms zero mail e = absurd cc
found ms (suc n) mail e = by ms n e
  where
    by : (ms : List Message) (n : ℕ) → slice_get (map (λ m. m.mail) ms) n ≡ Some mail → (m : Message) × (slice_get ms n ≡ Some m) × (m.mail ≡ mail)
    by [] n e = absurd cc
    by (m ∷ ms) zero e = (m, refl, cc)
    by (m ∷ ms) (suc n) e = by ms n e

-- ---- an event of the system happens in the world, and in each that is the same at its replica

pub record IsWorld (u : World) (s : System) : Type 0 where
  pub nodes : u.nodes ≡ s.nodes
  pub replica : (n : ℕ) → u.replica n ≡ s.replica n
  pub mails_are : map (λ m. m.mail) u.messages ≡ s.messages

abbrev pub IsNoNode : Event → Type 0
IsNoNode (Node name) = ⊥
IsNoNode (At name c) = Unit {0}
IsNoNode (Deliver number name) = Unit {0}

-- as many are sent where the world is the same to all replicas
pub sends_as_many : (u next w v : World) (out : List Mail) (sent : ℕ) → length next.messages ≡ length u.messages + length out → length out ≡ sent
    → common w ≡ common u → common v ≡ common next → length v.messages ≡ length w.messages + sent
sends_as_many u next w v out sent sends counted before after =
    ap (λ (c : Common). length c.messages) after
    ∙ sends
    ∙ ap (λ (c : Common). length c.messages + length out) (sym before)
    ∙ ap (λ k. length w.messages + k) counted

module _ (hash_of : List ℕ → ℕ) where
  pub record Did (u : World) (s : System) (e : Event) (new : Replica) (answer : Answer) (out : List Mail) : Type 0 where
    pub next : World
    pub happens : Happens hash_of u e answer next
    pub is_world : IsWorld next (crashing.goes hash_of s e new out)
    pub sends : length next.messages ≡ length u.messages + length out
    pub again : (w : World) → here (replica_of e) w ≡ here (replica_of e) u → (v : World) × Happens hash_of w e answer v
        × (here (replica_of e) v ≡ here (replica_of e) next)
    pub quiet : out ≡ [] → (answer ≡ Came Sent → ⊥) → IsNoNode e → common next ≡ common u

  pub did_node : (u : World) (s : System) (name : ℕ) (new : Replica) (answer : Answer) (out : List Mail) → IsWorld u s → Does hash_of s (Node name) new answer out
      → Did u s (Node name) new answer out
  did_node u s name new answer out is (absent, n, a, o) = record {
    next = record u { nodes = u.nodes ++ name ∷ [] };
    happens = (ap (λ ns. is_among ns name) is.nodes ∙ absent, a, refl);
    is_world = record {
      nodes = ap (λ ns. ns ++ name ∷ []) is.nodes;
      replica = λ m. is.replica m ∙ unchanged m (m == name) refl;
      mails_are = is.mails_are ∙ sym (append-nil s.messages) ∙ ap (λ ms. s.messages ++ ms) (sym o);
    };
    sends = let none : length out ≡ 0 = ap length o in omega (arith, none);
    again = λ w same. (
      record w { nodes = w.nodes ++ name ∷ [] },
      (ap (λ h. is_among h.0.nodes name) same ∙ ap (λ ns. is_among ns name) is.nodes ∙ absent, a, refl),
      ap (λ (h : Common × Own). (record h.0 { nodes = h.0.nodes ++ name ∷ [] }, h.1)) same,
    );
    quiet = λ none apart node. absurd node;
  }
    where
      unchanged : (m : ℕ) (b : Bool) → (m == name) ≡ b → s.replica m ≡ cond b new (s.replica m)
      unchanged m true e = ap s.replica (eqb-true m name e) ∙ sym n
      unchanged m false e = refl

  did_call : (u : World) (s : System) (name : ℕ) (c : Call) (new : Replica) (answer : Answer) (out : List Mail) → IsWorld u s
      → Does hash_of s (At name c) new answer out → Did u s (At name c) new answer out
  did_call u s name c new answer out is (there, peer, step) =
      let there_now : is_node u name ≡ true = ap (λ ns. is_among ns name) is.nodes ∙ there in
      let peer_now : has_peer u c ≡ true = peer_same u c ∙ ap (λ ns. peer_in ns c) is.nodes ∙ peer in
      let step_now : IsStep hash_of (u.replica name) (Do c) new answer out = subst (λ r. IsStep hash_of r (Do c) new answer out) (sym (is.replica name)) step in
      record {
        next = goes name new out (u.outgoing name) (calls name c u);
        happens = (there_now, peer_now, (new, out, step_now, refl));
        is_world = record {
          nodes = (same_calls u name c).1 ∙ is.nodes;
          replica = λ m. ap (λ f. cond (m == name) new (f m)) (same_after_calls hash_of u name c) ∙ ap (λ r. cond (m == name) new r) (is.replica m);
          mails_are =
              mails_on (calls name c u).messages (u.outgoing name) (calls name c u).kept new.kept out
              ∙ ap (λ ms. map (λ (m : Message). m.mail) ms ++ out) (same_calls u name c).0
              ∙ ap (λ ms. ms ++ out) is.mails_are;
        };
        sends = sends_on (calls name c u).messages (u.outgoing name) (calls name c u).kept new.kept out
            ∙ ap (λ ms. length ms + length out) (same_calls u name c).0;
        again = λ w same. (
          goes name new out (w.outgoing name) (calls name c w),
          (
            ap (λ (h : Common × Own). is_among h.0.nodes name) same ∙ there_now,
            peer_same w c ∙ ap (λ (h : Common × Own). peer_in h.0.nodes c) same ∙ sym (peer_same u c) ∙ peer_now,
            (new, out, subst (λ (h : Common × Own). IsStep hash_of h.1.replica (Do c) new answer out) (sym same) step_now, refl),
          ),
          call_here w name c new out ∙ ap (after_call name c new out) same ∙ sym (call_here u name c new out),
        );
        quiet = λ none apart node.
            subst (λ ms. common (goes name new ms (u.outgoing name) (calls name c u)) ≡ common u) (sym none)
            (none_sent name new (u.outgoing name) (calls name c u) ∙ call_common u name c);
      }

  did_delivery : (u : World) (s : System) (number name : ℕ) (new : Replica) (answer : Answer) (out : List Mail) → IsWorld u s
      → Does hash_of s (Deliver number name) new answer out → Did u s (Deliver number name) new answer out
  did_delivery u s number name new answer out is (there, (mail, at, (outcome, a, by_table))) =
      let x = found u.messages number mail (ap (λ ms. mail_at ms number) is.mails_are ∙ at) in
      let m : Message = x.0 in
      let there_now : is_node u name ≡ true = ap (λ ns. is_among ns name) is.nodes ∙ there in
      let step_now : IsStep hash_of (u.replica name) (Take m.mail) new answer out =
      subst (λ r. IsStep hash_of r (Take m.mail) new answer out) (sym (is.replica name))
      (subst (λ y. IsStep hash_of (s.replica name) (Take y) new answer out) (sym x.2) (outcome, a, by_table)) in
      let old = u.replica name in
      record {
        next = goes name new out [] (takes name old m.mail m.of outcome u);
        happens = (there_now, (m, x.1, (new, outcome, out, a, step_now, refl)));
        is_world = record {
          nodes = left_as_is name (λ y. y.nodes) (λ y z. refl) (λ y o t. refl) (λ y t o. refl) (λ y t z. refl) (λ y o f t. refl) u old m.mail m.of outcome
              ∙ is.nodes;
          replica = λ k. ap (λ f. cond (k == name) new (f k)) (same_replicas u name old m.mail m.of outcome) ∙ ap (λ r. cond (k == name) new r) (is.replica k);
          mails_are =
              mails_on (takes name old m.mail m.of outcome u).messages [] (takes name old m.mail m.of outcome u).kept new.kept out
              ∙ ap (λ ms. map (λ (y : Message). y.mail) ms ++ out) (same_messages u name old m.mail m.of outcome)
              ∙ ap (λ ms. ms ++ out) is.mails_are;
        };
        sends = sends_on (takes name old m.mail m.of outcome u).messages [] (takes name old m.mail m.of outcome u).kept new.kept out
            ∙ ap (λ ms. length ms + length out) (same_messages u name old m.mail m.of outcome);
        again = λ w same. (
          goes name new out [] (takes name (w.replica name) m.mail m.of outcome w),
          (
            ap (λ (h : Common × Own). is_among h.0.nodes name) same ∙ there_now,
            (
              m,
              ap (λ (h : Common × Own). message_at h.0.messages number) same ∙ x.1,
              (new, outcome, out, a, subst (λ (h : Common × Own). IsStep hash_of h.1.replica (Take m.mail) new answer out) (sym same) step_now, refl),
            ),
          ),
          take_here w name (w.replica name) m.mail m.of outcome new out
              ∙ (λ i. after_take name (same i).1.replica m.mail m.of outcome new out (same i))
              ∙ sym (take_here u name old m.mail m.of outcome new out),
        );
        quiet = λ none apart node.
            subst (λ ms. common (goes name new ms [] (takes name old m.mail m.of outcome u)) ≡ common u) (sym none)
            (none_sent name new [] (takes name old m.mail m.of outcome u) ∙ take_common u name old m.mail m.of outcome (λ e. apart (a ∙ ap Came e)));
      }

  pub did : (u : World) (s : System) (e : Event) (new : Replica) (answer : Answer) (out : List Mail) → IsWorld u s → Does hash_of s e new answer out
      → Did u s e new answer out
  did u s (Node name) = did_node u s name
  did u s (At name c) = did_call u s name c
  did u s (Deliver number name) = did_delivery u s number name

  -- an event leaves what the world is at each other name
  pub elsewhere : (u v : World) (e : Event) (answer : Answer) → Happens hash_of u e answer v → (m : ℕ) → m ≢ replica_of e → own_at m v ≡ own_at m u
  elsewhere u v e answer happens m apart =
      let l = leaves hash_of u v e answer happens in
      λ i. record { replica = l.replicas m apart i; seen = l.seen m apart i; outgoing = l.outgoing m apart i }
