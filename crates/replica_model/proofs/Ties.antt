-- What ties the sessions, the kept snapshots and the messages of a world to what they stand for, whatever is said of a snapshot, of an ask and of a
-- delta: each delivery keeps it.
use Rattle.std.proofs.Common.{◌≡◌, ◌≢◌, ◌⊎◌, inl, inr, ℕ, List, [], ◌∷◌, Bool, false, Option, Some, None, refl, sym, ap, ◌∙◌, subst}
use Rattle.std.specs.Prelude.{Contains}
use Rattle.dots.specs.Dot.{DotValue}
use Rattle.op_model.specs.Meaning.{MapState}
use Rattle.op_model.specs.Operation.{Operation}
use Rattle.op_model.proofs.Members.{nothing_in, from_map}
use Rattle.wire_form.specs.Page.{PageValue}
use Rattle.wire_form.specs.Sent.{SentValue}
use Rattle.wire_form.specs.Session.{SessionValue, same_session}
use Rattle.prefix_digest.specs.Page.{digest_at}
use Rattle.sync_model.specs.Closing.{held_state}
use Rattle.sync_model.specs.Differ.{Held}
use Rattle.sync_model.specs.Fetch.{Fetch, take_opening, take_page}
use Rattle.sync_model.specs.Fetch as fetch
use Rattle.sync_model.specs.Laws.{Taking, Fetched}
use Rattle.replica_model.specs.Mail.{Mail, Delta, Hello, Opening, Ask, Page, Gone}
use Rattle.replica_model.specs.Replica.{Replica, Open, Accepted, Kept, open_at, kept_at, joins, advances, closes, keeps}
use Rattle.replica_model.specs.Delivery.{Turn, turn, ignored, Joined, Sent, Done, Mismatch, Ended, asks_for, asks_of, fetching, opening_of, page_for}
use Rattle.replica_model.specs.Delivery.{child_prefixes, delivered}
use Rattle.replica_model.specs.World.{World, Snapshot, changed, first_kept, takes, taking_of, snapshot_with, map_of_kept}
use Rattle.replica_model.proofs.Found.{askers_apart, answerers_apart, found_open, found_kept, none_kept, in_advanced, in_without, in_one, in_keeping, kept_new}
use Rattle.replica_model.proofs.Found.{changed_here, changed_elsewhere, changed_to_same}
use Rattle.replica_model.proofs.Rows.{snapshot, each_row}

module _ (hash_of : List ℕ → ℕ) (Snap : SessionValue → List Operation → Held → (DotValue → Bool) → Type 0)
    (Asked : ℕ → SessionValue → Held → (DotValue → Bool) → Type 0) (Sends : MapState → List Operation → Type 0) where
  pub record KeptTie (kept : SessionValue → List Operation) (name : ℕ) (k : Kept) : Type 0 where
    pub answerer : k.session.answerer ≡ name
    pub snap : Snap k.session (kept k.session) k.map k.context

  abbrev pub FetchTie : (SessionValue → Snapshot) → (SessionValue → List Taking) → Open → Option Accepted → Type 0
  FetchTie accepted taken o a =
      (x : Accepted) → a ≡ Some x
      → Snap o.session (accepted o.session).seen (accepted o.session).map x.context
      × Fetched hash_of o.own o.seen x.context (digest_at hash_of (accepted o.session).map []) (taken o.session) x.fetch

  pub record SessionTie (accepted : SessionValue → Snapshot) (taken : SessionValue → List Taking) (name : ℕ) (o : Open) : Type 0 where
    pub asker : o.session.asker ≡ name
    pub asked : Asked name o.session o.own o.seen
    pub fetched : FetchTie accepted taken o o.accepted

  abbrev pub MailTie : Mail → Snapshot → Type 0
  MailTie (Delta d) of = Sends d of.seen
  MailTie (Hello s seen) of = Unit {0}
  MailTie (Opening s context root) of = Snap s of.seen of.map context × (root ≡ digest_at hash_of of.map [])
  MailTie (Ask s prefix) of = Unit {0}
  MailTie (Page s sent) of = Unit {0}
  MailTie (Gone s) of = Unit {0}

  abbrev pub AllKept : (SessionValue → List Operation) → ℕ → Replica → Type 0
  AllKept kept name r = (k : Kept) → Contains r.kept k → KeptTie kept name k

  abbrev pub AllOpen : (SessionValue → Snapshot) → (SessionValue → List Taking) → ℕ → Replica → Type 0
  AllOpen accepted taken name r = (o : Open) → Contains r.sessions o → SessionTie accepted taken name o

  abbrev pub AllSent : List Operation → (SessionValue → List Operation) → List Kept → List Mail → Type 0
  AllSent group kept ks out = (mail : Mail) → Contains out mail → MailTie mail (snapshot_with group kept ks mail)

  -- a fact of the keys that a change left
  kept_stays : (f g : SessionValue → List Operation) (name : ℕ) (k : Kept) → g k.session ≡ f k.session → KeptTie f name k → KeptTie g name k
  kept_stays f g name k e t = record { answerer = t.answerer; snap = subst (λ S. Snap k.session S k.map k.context) (sym e) t.snap }

  open_stays : (a b : SessionValue → Snapshot) (t u : SessionValue → List Taking) (name : ℕ) (o : Open) → b o.session ≡ a o.session → u o.session ≡ t o.session
      → SessionTie a t name o → SessionTie b u name o
  open_stays a b t u name o e f tie = record {
    asker = tie.asker;
    asked = tie.asked;
    fetched = λ x is. (
      subst (λ (s : Snapshot). Snap o.session s.seen s.map x.context) (sym e) (tie.fetched x is).0,
      subst (λ (s : Snapshot). Fetched hash_of o.own o.seen x.context (digest_at hash_of s.map []) (u o.session) x.fetch) (sym e)
          (subst (λ ts. Fetched hash_of o.own o.seen x.context (digest_at hash_of (a o.session).map []) ts x.fetch) (sym f) (tie.fetched x is).1),
    );
  }

  module _ (w : World) (name : ℕ) (named : (w.replica name).name ≡ name) (kept : (n : ℕ) → AllKept w.kept n (w.replica n))
      (open_ones : (n : ℕ) → AllOpen w.accepted w.taken n (w.replica n))
      (own : Held) where
    abbrev pub r : Replica
    r = w.replica name

    -- what is so after a delivery, where the sets followed
    pub record GoesOn (mail : Mail) (of : Snapshot) (t : Turn) : Type 0 where
      pub name_stays : t.new.name ≡ name
      pub kept_here : AllKept (takes name (w.replica name) mail of t.outcome w).kept name t.new
      pub kept_there : (n : ℕ) → n ≢ name → AllKept (takes name (w.replica name) mail of t.outcome w).kept n (w.replica n)
      pub open_here : AllOpen (takes name (w.replica name) mail of t.outcome w).accepted (takes name (w.replica name) mail of t.outcome w).taken name t.new
      pub open_there : (n : ℕ) → n ≢ name → AllOpen (takes name (w.replica name) mail of t.outcome w).accepted
          (takes name (w.replica name) mail of t.outcome w).taken n (w.replica n)
      pub replies : AllSent [] (takes name (w.replica name) mail of t.outcome w).kept t.new.kept t.replies

    -- where the message is the hello of a session for this replica, which keeps none for it, what the replica is now is a snapshot for it
    abbrev pub IsFresh : Mail → Type 0
    IsFresh mail = (s : SessionValue) (seen : DotValue → Bool) → mail ≡ Hello s seen → s.answerer ≡ name → kept_at (w.replica name).kept s ≡ None
        → Snap s (w.seen name) own (w.replica name).live.has

    abbrev pub Holds : Mail → Turn → Type 0
    Holds mail t = (of : Snapshot) → MailTie mail of → IsFresh mail → GoesOn mail of t

    nothing_sent : (f : SessionValue → List Operation) (ks : List Kept) → AllSent [] f ks []
    nothing_sent f ks mail h = nothing_in mail h

    unmoved : (mail : Mail) (of : Snapshot) → GoesOn mail of (ignored r)
    unmoved (Delta d) of = record {
      name_stays = named;
      kept_here = kept name;
      kept_there = λ n a. kept n;
      open_here = open_ones name;
      open_there = λ n a. open_ones n;
      replies = nothing_sent w.kept r.kept;
    }
    unmoved (Hello s seen) of = record {
      name_stays = named;
      kept_here = kept name;
      kept_there = λ n a. kept n;
      open_here = open_ones name;
      open_there = λ n a. open_ones n;
      replies = nothing_sent w.kept r.kept;
    }
    unmoved (Opening s c root) of = record {
      name_stays = named;
      kept_here = kept name;
      kept_there = λ n a. kept n;
      open_here = open_ones name;
      open_there = λ n a. open_ones n;
      replies = nothing_sent w.kept r.kept;
    }
    unmoved (Ask s p) of = record {
      name_stays = named;
      kept_here = kept name;
      kept_there = λ n a. kept n;
      open_here = open_ones name;
      open_there = λ n a. open_ones n;
      replies = nothing_sent w.kept r.kept;
    }
    unmoved (Page s p) of = record {
      name_stays = named;
      kept_here = kept name;
      kept_there = λ n a. kept n;
      open_here = open_ones name;
      open_there = λ n a. open_ones n;
      replies = nothing_sent w.kept r.kept;
    }
    unmoved (Gone s) of = record {
      name_stays = named;
      kept_here = kept name;
      kept_there = λ n a. kept n;
      open_here = open_ones name;
      open_there = λ n a. open_ones n;
      replies = nothing_sent w.kept r.kept;
    }

    mismatched : (mail : Mail) (of : Snapshot) → GoesOn mail of (turn r Mismatch [])
    mismatched (Delta d) of = record {
      name_stays = named;
      kept_here = kept name;
      kept_there = λ n a. kept n;
      open_here = open_ones name;
      open_there = λ n a. open_ones n;
      replies = nothing_sent w.kept r.kept;
    }
    mismatched (Hello s seen) of = record {
      name_stays = named;
      kept_here = kept name;
      kept_there = λ n a. kept n;
      open_here = open_ones name;
      open_there = λ n a. open_ones n;
      replies = nothing_sent w.kept r.kept;
    }
    mismatched (Opening s c root) of = record {
      name_stays = named;
      kept_here = kept name;
      kept_there = λ n a. kept n;
      open_here = open_ones name;
      open_there = λ n a. open_ones n;
      replies = nothing_sent w.kept r.kept;
    }
    mismatched (Ask s p) of = record {
      name_stays = named;
      kept_here = kept name;
      kept_there = λ n a. kept n;
      open_here = open_ones name;
      open_there = λ n a. open_ones n;
      replies = nothing_sent w.kept r.kept;
    }
    mismatched (Page s p) of = record {
      name_stays = named;
      kept_here = kept name;
      kept_there = λ n a. kept n;
      open_here = open_ones name;
      open_there = λ n a. open_ones n;
      replies = nothing_sent w.kept r.kept;
    }
    mismatched (Gone s) of = record {
      name_stays = named;
      kept_here = kept name;
      kept_there = λ n a. kept n;
      open_here = open_ones name;
      open_there = λ n a. open_ones n;
      replies = nothing_sent w.kept r.kept;
    }

    -- a delta, an ask that is answered, and a session that closes
    joined : (d : MapState) (of : Snapshot) → GoesOn (Delta d) of (turn (joins r d) Joined [])
    joined d of = record {
      name_stays = named;
      kept_here = kept name;
      kept_there = λ n a. kept n;
      open_here = open_ones name;
      open_there = λ n a. open_ones n;
      replies = nothing_sent w.kept r.kept;
    }

    no_tie : (f : SessionValue → List Operation) (ks : List Kept) (x : Mail) → MailTie x (snapshot_with [] f ks x) → AllSent [] f ks (x ∷ [])
    no_tie f ks x tie mail h = subst (λ y. MailTie y (snapshot_with [] f ks y)) (sym (in_one x mail h)) tie

    told_gone : (s : SessionValue) (p : List ℕ) (of : Snapshot) → GoesOn (Ask s p) of (turn r Sent (Gone s ∷ []))
    told_gone s p of = record {
      name_stays = named;
      kept_here = kept name;
      kept_there = λ n a. kept n;
      open_here = open_ones name;
      open_there = λ n a. open_ones n;
      replies = no_tie w.kept r.kept (Gone s) tt;
    }

    told_page : (s : SessionValue) (p : List ℕ) (k : Kept) (page : PageValue) (of : Snapshot)
        → GoesOn (Ask s p) of (turn r Sent (page_for hash_of s k p page ∷ []))
    told_page s p k page of = record {
      name_stays = named;
      kept_here = kept name;
      kept_there = λ n a. kept n;
      open_here = open_ones name;
      open_there = λ n a. open_ones n;
      replies = no_tie w.kept r.kept (page_for hash_of s k p page) tt;
    }

    open_left : (s : SessionValue) (o : Open) → Contains (closes r s).sessions o → SessionTie w.accepted w.taken name o
    open_left s o h = open_ones name o (in_without s r.sessions o h)

    opening_closes : (s : SessionValue) (c : DotValue → Bool) (root : Option (List ℕ)) (o : Open) (f : Fetch) (of : Snapshot)
        → GoesOn (Opening s c root) of (turn (closes (joins r (held_state f.built c)) o.session) Done [])
    opening_closes s c root o f of = record {
      name_stays = named;
      kept_here = kept name;
      kept_there = λ n a. kept n;
      open_here = open_left o.session;
      open_there = λ n a. open_ones n;
      replies = nothing_sent w.kept r.kept;
    }

    page_closes : (s : SessionValue) (sent : SentValue) (o : Open) (a : Accepted) (f : Fetch) (of : Snapshot)
        → GoesOn (Page s sent) of (turn (closes (joins r (held_state f.built a.context)) o.session) Done [])
    page_closes s sent o a f of = record {
      name_stays = named;
      kept_here = kept name;
      kept_there = λ n a. kept n;
      open_here = open_left o.session;
      open_there = λ n a. open_ones n;
      replies = nothing_sent w.kept r.kept;
    }

    gone_closes : (s : SessionValue) (o : Open) (of : Snapshot) → GoesOn (Gone s) of (turn (closes r o.session) Ended [])
    gone_closes s o of = record {
      name_stays = named;
      kept_here = kept name;
      kept_there = λ n a. kept n;
      open_here = open_left o.session;
      open_there = λ n a. open_ones n;
      replies = nothing_sent w.kept r.kept;
    }

    -- a hello
    opening_tie : (f : SessionValue → List Operation) (ks : List Kept) (k : Kept) → kept_at ks k.session ≡ Some k → Snap k.session (f k.session) k.map k.context
        → MailTie (opening_of hash_of k) (snapshot_with [] f ks (opening_of hash_of k))
    opening_tie f ks k e snap =
        let same : k.map ≡ map_of_kept (kept_at ks k.session) = sym (ap map_of_kept e) in
        (subst (λ m. Snap k.session (f k.session) m k.context) same snap, ap (λ m. digest_at hash_of m []) same)

    hello_again : (s : SessionValue) (seen : DotValue → Bool) (k : Kept) → kept_at r.kept s ≡ Some k → (of : Snapshot)
        → GoesOn (Hello s seen) of (turn r Sent (opening_of hash_of k ∷ []))
    hello_again s seen k e of =
        let x = first_kept (kept_at r.kept s) (w.kept s) (w.seen name) in
        let stays : (t : SessionValue) → changed w.kept s x t ≡ w.kept t =
        changed_to_same w.kept s x (sym (ap (λ o. first_kept o (w.kept s) (w.seen name)) e)) in
        let found = found_kept r.kept s k e in
        record {
          name_stays = named;
          kept_here = λ j h. kept_stays w.kept (changed w.kept s x) name j (stays j.session) (kept name j h);
          kept_there = λ n a j h. kept_stays w.kept (changed w.kept s x) n j (stays j.session) (kept n j h);
          open_here = open_ones name;
          open_there = λ n a. open_ones n;
          replies = no_tie (changed w.kept s x) r.kept (opening_of hash_of k)
              (opening_tie (changed w.kept s x) r.kept k (ap (kept_at r.kept) found.1 ∙ e)
              (kept_stays w.kept (changed w.kept s x) name k (stays k.session) (kept name k found.0)).snap);
        }

    hello_kept : (s : SessionValue) (seen : DotValue → Bool) → s.answerer ≡ r.name → kept_at r.kept s ≡ None → IsFresh (Hello s seen) → (of : Snapshot) →
        GoesOn (Hello s seen) of (turn (keeps r (snapshot own r s seen)) Sent (opening_of hash_of (snapshot own r s seen) ∷ []))
    hello_kept s seen here none fresh of =
        let x = first_kept (kept_at r.kept s) (w.kept s) (w.seen name) in
        let k = snapshot own r s seen in
        let now : changed w.kept s x s ≡ w.seen name = changed_here w.kept s x s refl ∙ ap (λ o. first_kept o (w.kept s) (w.seen name)) none in
        let snap : Snap s (changed w.kept s x s) own r.live.has = subst (λ S. Snap s S own r.live.has) (sym now) (fresh s seen refl (here ∙ named) none) in
        let tie : KeptTie (changed w.kept s x) name k = record { answerer = here ∙ named; snap = snap } in
        record {
          name_stays = named;
          kept_here = λ j h. old_or_new x k tie j none (in_keeping k r.kept j h);
          kept_there = λ n a j h.
              kept_stays w.kept (changed w.kept s x) n j
              (changed_elsewhere w.kept s x j.session (answerers_apart j.session s (λ e. a (sym (kept n j h).answerer ∙ e ∙ here ∙ named)))) (kept n j h);
          open_here = open_ones name;
          open_there = λ n a. open_ones n;
          replies = no_tie (changed w.kept s x) (keeps r k).kept (opening_of hash_of k)
              (opening_tie (changed w.kept s x) (keeps r k).kept k (kept_new r.kept k s none refl) snap);
        }
      where
        old_or_new : (x : List Operation) (k : Kept) → KeptTie (changed w.kept s x) name k → (j : Kept) → kept_at r.kept s ≡ None → Contains r.kept j ⊎ (j ≡ k)
            → KeptTie (changed w.kept s x) name j
        old_or_new x k tie j e (inl there) = kept_stays w.kept (changed w.kept s x) name j
            (changed_elsewhere w.kept s x j.session (none_kept r.kept s j e there)) (kept name j there)
        old_or_new x k tie j e (inr new) = subst (KeptTie (changed w.kept s x) name) (sym new) tie

    -- a session that goes on
    ask_tie : (g : SessionValue → List Operation) (ks : List Kept) (u : SessionValue) (prefixes : List (List ℕ)) → AllSent [] g ks (asks_for u prefixes)
    ask_tie g ks u prefixes mail h =
        let found = from_map (Ask u) prefixes mail h in
        subst (λ y. MailTie y (snapshot_with [] g ks y)) found.2 tt

    accepted_is : (a x : Accepted) (P : Accepted → Type 0) → Some a ≡ Some x → P a → P x
    accepted_is a x P e p = let one : a ≡ x = cc in subst P one p

    opening_goes : (s : SessionValue) (c : DotValue → Bool) (root : Option (List ℕ)) (o : Open) (f : Fetch) → open_at r.sessions s ≡ Some o →
        take_opening hash_of o.own o.seen c root ≡ fetch.Took f → (of : Snapshot) → MailTie (Opening s c root) of
        → GoesOn (Opening s c root) of (turn (advances r (fetching o c f)) Sent (asks_of o.session f))
    opening_goes s c root o f there took of tie =
        let found = found_open r.sessions s o there in
        let old = open_ones name o found.0 in
        let a2 = changed w.accepted s of in
        let t2 = changed w.taken s [] in
        let next = fetching o c f in
        let a : Accepted = record { context = c; fetch = f } in
        let now : a2 o.session ≡ of = changed_here w.accepted s of o.session found.1 in
        let none : t2 o.session ≡ [] = changed_here w.taken s [] o.session found.1 in
        let snap : Snap o.session (a2 o.session).seen (a2 o.session).map c =
        subst (λ (x : Snapshot). Snap o.session x.seen x.map c) (sym now) (subst (λ u. Snap u of.seen of.map c) (sym found.1) tie.0) in
        let got : Fetched hash_of o.own o.seen c (digest_at hash_of (a2 o.session).map []) (t2 o.session) f =
        subst (λ (x : Snapshot). Fetched hash_of o.own o.seen c (digest_at hash_of x.map []) (t2 o.session) f) (sym now)
        (subst (λ ts. Fetched hash_of o.own o.seen c (digest_at hash_of of.map []) ts f) (sym none)
        (subst (λ d. take_opening hash_of o.own o.seen c d ≡ fetch.Took f) tie.1 took)) in
        let tied : SessionTie a2 t2 name next = record {
          asker = old.asker;
          asked = old.asked;
          fetched = λ x is. accepted_is a x (λ y. Snap o.session (a2 o.session).seen (a2 o.session).map y.context
              × Fetched hash_of o.own o.seen y.context (digest_at hash_of (a2 o.session).map []) (t2 o.session) y.fetch) is (snap, got);
        } in
        record {
          name_stays = named;
          kept_here = kept name;
          kept_there = λ n a. kept n;
          open_here = λ x h. went next tied x (in_advanced next r.sessions x h) (ap (λ u. same_session x.session u) found.1);
          open_there = λ n apart x h. other x n apart (open_ones n x h) (sym (ap (λ (u : SessionValue). u.asker) found.1) ∙ old.asker);
          replies = asks_tie w.kept r.kept o.session f;
        }
      where
        asks_tie : (g : SessionValue → List Operation) (ks : List Kept) (u : SessionValue) (f : Fetch) → AllSent [] g ks (asks_of u f)
        asks_tie g ks u f mail h = ask_tie g ks u _ mail h

        went : (next : Open) → SessionTie (changed w.accepted s of) (changed w.taken s []) name next → (x : Open) → (x ≡ next)
            ⊎ (Contains r.sessions x × (same_session x.session next.session ≡ false)) →
            same_session x.session next.session ≡ same_session x.session s → SessionTie (changed w.accepted s of) (changed w.taken s []) name x
        went next tied x (inl e) same = subst (SessionTie (changed w.accepted s of) (changed w.taken s []) name) (sym e) tied
        went next tied x (inr (there, apart)) same =
            let off : same_session x.session s ≡ false = sym same ∙ apart in
            open_stays w.accepted (changed w.accepted s of) w.taken (changed w.taken s []) name x (changed_elsewhere w.accepted s of x.session off)
            (changed_elsewhere w.taken s [] x.session off) (open_ones name x there)

        other : (x : Open) (n : ℕ) → n ≢ name → SessionTie w.accepted w.taken n x → s.asker ≡ name
            → SessionTie (changed w.accepted s of) (changed w.taken s []) n x
        other x n apart tie here =
            let off : same_session x.session s ≡ false = askers_apart x.session s (λ e. apart (sym tie.asker ∙ e ∙ here)) in
            open_stays w.accepted (changed w.accepted s of) w.taken (changed w.taken s []) n x (changed_elsewhere w.accepted s of x.session off)
            (changed_elsewhere w.taken s [] x.session off) tie

    page_goes : (s : SessionValue) (sent : SentValue) (o : Open) (a : Accepted) (f : Fetch) → open_at r.sessions s ≡ Some o → o.accepted ≡ Some a →
        take_page hash_of o.own o.seen a.context a.fetch sent.prefix sent.page sent.values ≡ fetch.Took f → (of : Snapshot) →
        GoesOn (Page s sent) of (turn (advances r (fetching o a.context f)) Sent (asks_for o.session (child_prefixes hash_of o sent)))
    page_goes s sent o a f there is_accepted took of =
        let found = found_open r.sessions s o there in
        let old = open_ones name o found.0 in
        let taken_before = old.fetched a is_accepted in
        let next = fetching o a.context f in
        let b : Accepted = record { context = a.context; fetch = f } in
        let more = taking_of sent ∷ w.taken s in
        let t2 = changed w.taken s more in
        let now : t2 o.session ≡ more = changed_here w.taken s more o.session found.1 in
        let before : Fetched hash_of o.own o.seen a.context (digest_at hash_of (w.accepted o.session).map []) (w.taken s) a.fetch =
        subst (λ u. Fetched hash_of o.own o.seen a.context (digest_at hash_of (w.accepted o.session).map []) (w.taken u) a.fetch) found.1 taken_before.1 in
        let got : Fetched hash_of o.own o.seen a.context (digest_at hash_of (w.accepted o.session).map []) (t2 o.session) f =
        subst (λ ts. Fetched hash_of o.own o.seen a.context (digest_at hash_of (w.accepted o.session).map []) ts f) (sym now) (a.fetch, before, took) in
        let tied : SessionTie w.accepted t2 name next = record {
          asker = old.asker;
          asked = old.asked;
          fetched = λ x is. accepted_is b x (λ y. Snap o.session (w.accepted o.session).seen (w.accepted o.session).map y.context
              × Fetched hash_of o.own o.seen y.context (digest_at hash_of (w.accepted o.session).map []) (t2 o.session) y.fetch) is (taken_before.0, got);
        } in
        record {
          name_stays = named;
          kept_here = kept name;
          kept_there = λ n a. kept n;
          open_here = λ x h. went next tied x (in_advanced next r.sessions x h) (ap (λ u. same_session x.session u) found.1);
          open_there = λ n apart x h. other x n apart (open_ones n x h) (sym (ap (λ (u : SessionValue). u.asker) found.1) ∙ old.asker);
          replies = ask_tie w.kept r.kept o.session (child_prefixes hash_of o sent);
        }
      where
        went : (next : Open) → SessionTie w.accepted (changed w.taken s (taking_of sent ∷ w.taken s)) name next → (x : Open) → (x ≡ next)
            ⊎ (Contains r.sessions x × (same_session x.session next.session ≡ false)) →
            same_session x.session next.session ≡ same_session x.session s → SessionTie w.accepted (changed w.taken s (taking_of sent ∷ w.taken s)) name x
        went next tied x (inl e) same = subst (SessionTie w.accepted (changed w.taken s (taking_of sent ∷ w.taken s)) name) (sym e) tied
        went next tied x (inr (there, apart)) same =
            let off : same_session x.session s ≡ false = sym same ∙ apart in
            open_stays w.accepted w.accepted w.taken (changed w.taken s (taking_of sent ∷ w.taken s)) name x refl
            (changed_elsewhere w.taken s (taking_of sent ∷ w.taken s) x.session off) (open_ones name x there)

        other : (x : Open) (n : ℕ) → n ≢ name → SessionTie w.accepted w.taken n x → s.asker ≡ name
            → SessionTie w.accepted (changed w.taken s (taking_of sent ∷ w.taken s)) n x
        other x n apart tie here =
            let off : same_session x.session s ≡ false = askers_apart x.session s (λ e. apart (sym tie.asker ∙ e ∙ here)) in
            open_stays w.accepted w.accepted w.taken (changed w.taken s (taking_of sent ∷ w.taken s)) n x refl
            (changed_elsewhere w.taken s (taking_of sent ∷ w.taken s) x.session off) tie

    -- so does each delivery
    pub delivery_goes : (mail : Mail) (of : Snapshot) → MailTie mail of → IsFresh mail → GoesOn mail of (delivered hash_of own r mail)
    delivery_goes = each_row hash_of own r Holds (record {
      ignoring = λ mail other of tie fresh. unmoved mail of;
      mismatch = λ mail other of tie fresh. mismatched mail of;
      delta = λ d of tie fresh. joined d of;
      told_again = λ s seen k e of tie fresh. hello_again s seen k e of;
      kept = λ s seen here none of tie fresh. hello_kept s seen here none fresh of;
      gone = λ s p of tie fresh. told_gone s p of;
      page = λ s p k page of tie fresh. told_page s p k page of;
      opening_done = λ s c root o f there first took complete of tie fresh. opening_closes s c root o f of;
      opening_sent = λ s c root o f there first took of tie fresh. opening_goes s c root o f there took of tie;
      page_done = λ s sent o a f there accepted took complete of tie fresh. page_closes s sent o a f of;
      page_sent = λ s sent o a f there accepted took of tie fresh. page_goes s sent o a f there accepted took of;
      ended = λ s o there of tie fresh. gone_closes s o of;
    })
