-- What ties a world to what it stands for is kept by each event.
use Rattle.std.proofs.Common.{◌≡◌, ◌≢◌, ◌⊎◌, inl, inr, ℕ, zero, suc, List, [], ◌∷◌, ◌++◌, map, Bool, true, false, Some, None, cond, refl, sym, ◌∙◌, subst}
use Rattle.std.proofs.Common.{eqb-true}
use Rattle.std.specs.Prelude.{◌==◌, Contains, slice_get}
use Rattle.std.proofs.lemmas.Bool.{false≢true}
use Rattle.dots.specs.Dot.{DotValue}
use Rattle.op_model.specs.Meaning.{MapState}
use Rattle.op_model.specs.Operation.{Operation}
use Rattle.op_model.proofs.Members.{at_head, in_tail, from_map}
use Rattle.wire_form.specs.Session.{SessionValue}
use Rattle.sync_model.specs.Differ.{Held}
use Rattle.replica_model.specs.Mail.{Mail, Delta, Hello, Opening, Ask, Page, Gone}
use Rattle.replica_model.specs.Replica.{Replica, open_at, kept_at}
use Rattle.wire_form.specs.Sent.{SentValue}
use Rattle.sync_model.specs.Laws.{Taking}
use Rattle.replica_model.specs.Delivery.{Outcome, turn, delivered}
use Rattle.replica_model.specs.World.{World, Message, Snapshot, message_at, sent_as, learns, keeps, accepts, takes_page, taking_of, own_of, ends}
use Rattle.replica_model.specs.World.{is_sent, is_done, takes, goes}
use Rattle.replica_model.proofs.Ties.{MailTie, AllKept, AllOpen, AllSent, GoesOn, delivery_goes}

-- a message that is there was there, or is one of those that were sent
there_in : (ms : List Message) (n : ℕ) (m : Message) → slice_get ms n ≡ Some m → Contains ms m
there_in [] n m e = absurd cc
there_in (x ∷ ms) zero m e = let one : x ≡ m = cc in subst (λ y. Contains (x ∷ ms) y) one (at_head x ms)
there_in (x ∷ ms) (suc n) m e = in_tail x ms m (there_in ms n m e)

either_sent : (ms more : List Message) (n : ℕ) (m : Message) → slice_get (ms ++ more) n ≡ Some m → (slice_get ms n ≡ Some m) ⊎ Contains more m
either_sent [] more n m e = inr (there_in more n m e)
either_sent (x ∷ ms) more zero m e = inl e
either_sent (x ∷ ms) more (suc n) m e = either_sent ms more n m e

pub at_either : (ms more : List Message) (number : ℕ) (m : Message) → message_at (ms ++ more) number ≡ Some m → (message_at ms number ≡ Some m)
    ⊎ Contains more m
at_either ms more zero m e = inl e
at_either ms more (suc n) m e = either_sent ms more n m e

-- the sets that follow a delivery leave the replicas and the messages
pub if_both : {X : Type 0} (f : World → X) (b : Bool) (u w : World) (x : X) → f u ≡ x → f w ≡ x → f (cond b u w) ≡ x
if_both f true u w x e g = e
if_both f false u w x e g = g

pub left_as_is : {X : Type 0} (name : ℕ) (f : World → X) → ((u : World) (more : List Operation) → f (learns name more u) ≡ f u)
    → ((u : World) (old : Replica) (s : SessionValue) → f (keeps name old s u) ≡ f u)
    → ((u : World) (s : SessionValue) (of : Snapshot) → f (accepts s of u) ≡ f u)
    → ((u : World) (s : SessionValue) (sent : SentValue) → f (takes_page s sent u) ≡ f u)
    → ((u : World) (own : Held) (of : Snapshot) (ts : List Taking) → f (ends name own of ts u) ≡ f u)
    → (w : World) (old : Replica) (mail : Mail) (of : Snapshot) (outcome : Outcome) → f (takes name old mail of outcome w) ≡ f w
left_as_is name f l k a t e w old (Delta d) of outcome = l w of.seen
left_as_is name f l k a t e w old (Hello s seen) of outcome = if_both f (is_sent outcome) (keeps name old s w) w (f w) (k w old s) refl
left_as_is name f l k a t e w old (Opening s c root) of outcome =
    if_both f (is_done outcome) (ends name (own_of (open_at old.sessions s)) of [] w) (cond (is_sent outcome) (accepts s of w) w) (f w)
    (e w (own_of (open_at old.sessions s)) of [])
    (if_both f (is_sent outcome) (accepts s of w) w (f w) (a w s of) refl)
left_as_is name f l k a t e w old (Ask s p) of outcome = refl
left_as_is name f l k a t e w old (Page s sent) of outcome =
    if_both f (is_done outcome) (ends name (own_of (open_at old.sessions s)) (w.accepted s) (taking_of sent ∷ w.taken s) w)
    (cond (is_sent outcome) (takes_page s sent w) w) (f w)
    (e w (own_of (open_at old.sessions s)) (w.accepted s) (taking_of sent ∷ w.taken s))
    (if_both f (is_sent outcome) (takes_page s sent w) w (f w) (t w s sent) refl)
left_as_is name f l k a t e w old (Gone s) of outcome = refl

pub same_replicas : (w : World) (name : ℕ) (old : Replica) (mail : Mail) (of : Snapshot) (outcome : Outcome)
    → (takes name old mail of outcome w).replica ≡ w.replica
same_replicas w name = left_as_is name (λ u. u.replica) (λ u m. refl) (λ u o s. refl) (λ u s o. refl) (λ u s t. refl) (λ u o f t. refl) w

pub same_messages : (w : World) (name : ℕ) (old : Replica) (mail : Mail) (of : Snapshot) (outcome : Outcome)
    → (takes name old mail of outcome w).messages ≡ w.messages
same_messages w name = left_as_is name (λ u. u.messages) (λ u m. refl) (λ u o s. refl) (λ u s o. refl) (λ u s t. refl) (λ u o f t. refl) w

-- one replica goes on, and each other stays, where the sets followed
pub by_name : (P : ℕ → Replica → Type 0) (name : ℕ) (new : Replica) (old : ℕ → Replica) → P name new → ((n : ℕ) → n ≢ name → P n (old n)) → (n : ℕ)
    → P n (cond (n == name) new (old n))
by_name P name new old here there n = step (n == name) refl
  where
    step : (b : Bool) → (n == name) ≡ b → P n (cond b new (old n))
    step true e = subst (λ k. P k new) (sym (eqb-true n name e)) here
    step false e = there n (λ same. false≢true (sym e ∙ Rattle.std.proofs.Common.eq-eqb n name same))

module _ (hash_of : List ℕ → ℕ) (Snap : SessionValue → List Operation → Held → (DotValue → Bool) → Type 0)
    (Asked : ℕ → SessionValue → Held → (DotValue → Bool) → Type 0) (Sends : MapState → List Operation → Type 0) where
  pub record Ties (w : World) : Type 0 where
    pub named : (n : ℕ) → (w.replica n).name ≡ n
    pub kept : (n : ℕ) → AllKept hash_of Snap Asked Sends w.kept n (w.replica n)
    pub sessions : (n : ℕ) → AllOpen hash_of Snap Asked Sends w.accepted w.taken n (w.replica n)
    pub messages : (number : ℕ) (m : Message) → message_at w.messages number ≡ Some m → MailTie hash_of Snap Asked Sends m.mail m.of

  -- a message that comes, with what it stands for
  pub taken_ties : (w : World) (name : ℕ) (own : Held) (mail : Mail) (of : Snapshot) → Ties w → MailTie hash_of Snap Asked Sends mail of →
      ((s : SessionValue) (seen : DotValue → Bool) → mail ≡ Hello s seen → s.answerer ≡ name → kept_at (w.replica name).kept s ≡ None
      → Snap s (w.seen name) own (w.replica name).live.has) → (new : Replica) (outcome : Outcome) (out : List Mail)
      → delivered hash_of own (w.replica name) mail ≡ turn new outcome out →
      Ties (goes name new out [] (takes name (w.replica name) mail of outcome w))
  taken_ties w name own mail of t tie fresh new outcome out e =
      let on : GoesOn hash_of Snap Asked Sends w name (t.named name) t.kept t.sessions own mail of (turn new outcome out) =
      subst (GoesOn hash_of Snap Asked Sends w name (t.named name) t.kept t.sessions own mail of) e
      (delivery_goes hash_of Snap Asked Sends w name (t.named name) t.kept t.sessions own mail of tie fresh) in
      let u = takes name (w.replica name) mail of outcome w in
      let replicas : u.replica ≡ w.replica = same_replicas w name (w.replica name) mail of outcome in
      record {
        named = by_name (λ n r. r.name ≡ n) name new u.replica on.name_stays (λ n a. subst (λ f. (f n).name ≡ n) (sym replicas) (t.named n));
        kept = by_name (λ n r. AllKept hash_of Snap Asked Sends u.kept n r) name new u.replica on.kept_here
            (λ n a. subst (λ f. AllKept hash_of Snap Asked Sends u.kept n (f n)) (sym replicas) (on.kept_there n a));
        sessions = by_name (λ n r. AllOpen hash_of Snap Asked Sends u.accepted u.taken n r) name new u.replica on.open_here
            (λ n a. subst (λ f. AllOpen hash_of Snap Asked Sends u.accepted u.taken n (f n)) (sym replicas) (on.open_there n a));
        messages = λ k x h. either u.kept on.replies x (at_either u.messages (map (sent_as [] u.kept new.kept) out) k x h)
            (subst (λ ms. (message_at ms k ≡ Some x) → (message_at w.messages k ≡ Some x)) (sym (same_messages w name (w.replica name) mail of outcome))
            (λ i. i)) (t.messages k x);
      }
    where
      either : (kept : SessionValue → List Operation) → AllSent hash_of Snap Asked Sends [] kept new.kept out → (x : Message) → {A B : Type 0} → A
          ⊎ Contains (map (sent_as [] kept new.kept) out) x → (A → B) → (B → MailTie hash_of Snap Asked Sends x.mail x.of)
          → MailTie hash_of Snap Asked Sends x.mail x.of
      either kept sent x (inl i) back old = old (back i)
      either kept sent x (inr i) back old =
          let found = from_map (sent_as [] kept new.kept) out x i in
          subst (λ (y : Message). MailTie hash_of Snap Asked Sends y.mail y.of) found.2 (sent found.0 found.1)

  -- one of the world's own
  pub delivered_ties : (w : World) (name : ℕ) (own : Held) (m : Message) (number : ℕ) → Ties w → message_at w.messages number ≡ Some m →
      ((s : SessionValue) (seen : DotValue → Bool) → m.mail ≡ Hello s seen → s.answerer ≡ name → kept_at (w.replica name).kept s ≡ None
      → Snap s (w.seen name) own (w.replica name).live.has) → (new : Replica) (outcome : Outcome) (out : List Mail)
      → delivered hash_of own (w.replica name) m.mail ≡ turn new outcome out →
      Ties (goes name new out [] (takes name (w.replica name) m.mail m.of outcome w))
  delivered_ties w name own m number t there = taken_ties w name own m.mail m.of t (t.messages number m there)
