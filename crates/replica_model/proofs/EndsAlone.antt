-- A session of a replica by itself that ends joins in the map that its opening shows.
use Rattle.std.proofs.Common.{◌≡◌, ◌⊎◌, inl, inr, ℕ, List, [], ◌∷◌, ◌++◌, Bool, true, Option, Some, None, refl, sym, ap, ◌∙◌, subst}
use Rattle.std.specs.Prelude.{Contains}
use Rattle.std.specs.FinMap as finite
use Rattle.dots.specs.Dot.{DotValue}
use Rattle.op_model.specs.Meaning.{greater}
use Rattle.op_model.specs.State.{join}
use Rattle.wire_form.specs.Sent.{SentValue}
use Rattle.wire_form.specs.Session.{SessionValue}
use Rattle.prefix_digest.specs.Page.{digest_at}
use Rattle.sync_model.specs.Closing.{held_state}
use Rattle.sync_model.specs.Differ.{Held}
use Rattle.sync_model.specs.Fetch.{Fetch, take_page}
use Rattle.sync_model.specs.Fetch as fetch
use Rattle.sync_model.specs.Laws.{Fetched, IsFetched, NoClash}
use Rattle.sync_model.proofs.Closings.{closing}
use Rattle.sync_model.proofs.Fetches.{fetching}
use Rattle.sync_model.proofs.Lawful.{map_lawful}
use Rattle.replica_model.specs.Alone.{Deed, Comes, Befalls, RunsAlone}
use Rattle.replica_model.specs.Delivery.{Done, Turn, turn, is_complete, delivered}
use Rattle.replica_model.specs.Mail.{Mail, Opening, Page, IsTurnOf}
use Rattle.replica_model.specs.Replica.{Replica, Open, Accepted, open_at}
use Rattle.replica_model.specs.Sessions.{taken_with}
use Rattle.replica_model.specs.SessionsAlone.{TookOpening, IsEndAlone, EndsAlone}
use Rattle.replica_model.specs.Step.{Answer, Came}
use Rattle.replica_model.specs.World.{World, Snapshot, nothing}
use Rattle.replica_model.proofs.Deciding.{came_one}
use Rattle.replica_model.proofs.Ended.{here_new}
use Rattle.replica_model.proofs.Ending.{none_waits}
use Rattle.replica_model.proofs.Found.{found_open}
use Rattle.replica_model.proofs.Rows.{each_row}
use Rattle.replica_model.proofs.SessionsAlone.{Arrived, arrived, TiedWorld, tied, opening_more, opened_now}
use Rattle.replica_model.proofs.States.{same_is}

module _ (hash_of : List ℕ → ℕ) (name : ℕ) (deeds : List Deed) (w : World) (t : TiedWorld hash_of name deeds w) where
  -- a session that ends: what it built waits for nothing more, and its opening is this message or was taken before
  record Ending (mail : Mail) (to : Turn) : Type 0 where
    session : Open
    there : Contains (w.replica name).sessions session
    of_it : IsTurnOf session.session mail
    context : DotValue → Bool
    root : Option (List ℕ)
    opening : (mail ≡ Opening session.session context root) ⊎ TookOpening hash_of name deeds session.session context root
    built : Fetch
    complete : (p : List ℕ) → finite.get built.waiting p ≡ None
    is_fetched : Fetched hash_of session.own session.seen context root (taken_with w mail) built
    live : to.new.live ≡ join greater (w.replica name).live (held_state built.built context)

  module _ (own : Held) where
    page_ends : (s : SessionValue) (sent : SentValue) (o : Open) (a : Accepted) (f : Fetch) → open_at (w.replica name).sessions s ≡ Some o → o.accepted ≡ Some a
        → take_page hash_of o.own o.seen a.context a.fetch sent.prefix sent.page sent.values ≡ fetch.Took f → is_complete f ≡ true
        → (to : Turn) → to.new.live ≡ join greater (w.replica name).live (held_state f.built a.context) → Ending (Page s sent) to
    page_ends s sent o a f there accepted took complete to live =
        let found = found_open (w.replica name).sessions s o there in
        let was = (t.sessions o found.0).fetched a accepted in
        let got : Fetched hash_of o.own o.seen a.context was.0 (w.taken s) a.fetch =
        subst (λ u. Fetched hash_of o.own o.seen a.context was.0 (w.taken u) a.fetch) found.1 was.2 in
        record {
          session = o;
          there = found.0;
          of_it = found.1;
          context = a.context;
          root = was.0;
          opening = inr was.1;
          built = f;
          complete = none_waits f complete;
          is_fetched = (a.fetch, got, took);
          live = live;
        }

    ending : (mail : Mail) → (delivered hash_of own (w.replica name) mail).outcome ≡ Done → Ending mail (delivered hash_of own (w.replica name) mail)
    ending = each_row hash_of own (w.replica name) (λ mail to. to.outcome ≡ Done → Ending mail to) (record {
      ignoring = λ mail other e. absurd cc;
      mismatch = λ mail other e. absurd cc;
      delta = λ d e. absurd cc;
      told_again = λ s seen k is e. absurd cc;
      kept = λ s seen here none e. absurd cc;
      gone = λ s p e. absurd cc;
      page = λ s p k page e. absurd cc;
      opening_done = λ s c root o f there first took complete e.
          let found = found_open (w.replica name).sessions s o there in
          record {
            session = o;
            there = found.0;
            of_it = found.1;
            context = c;
            root = root;
            opening = inl (ap (λ u. Opening u c root) (sym found.1));
            built = f;
            complete = none_waits f complete;
            is_fetched = took;
            live = refl;
          };
      opening_sent = λ s c root o f there first took e. absurd cc;
      page_done = λ s sent o a f there accepted took complete e. page_ends s sent o a f there accepted took complete _ refl;
      page_sent = λ s sent o a f there accepted took e. absurd cc;
      ended = λ s o there e. absurd cc;
    })

  module _ (mail : Mail) (of : Snapshot) (answer : Answer) (v : World) (runs : RunsAlone hash_of name nothing deeds w)
      (befalls : Befalls hash_of name w (Comes mail of) answer v) (is_done : answer ≡ Came Done)
      (d : Arrived hash_of name w mail of answer v) where
    end_is : Ending mail (turn d.new d.outcome d.out) → IsEndAlone hash_of name deeds w v mail of
    end_is e =
        let tie = t.sessions e.session e.there in
        let law : (theirs : Held) → e.root ≡ digest_at hash_of theirs [] → NoClash hash_of e.session.own theirs (taken_with w mail)
        → IsFetched hash_of e.session.own theirs e.session.seen e.context (taken_with w mail) e.built =
        λ theirs root no_clash.
        fetching hash_of e.session.own theirs e.session.seen e.context (taken_with w mail) e.built (map_lawful e.session.own _ tie.asked.own_then) no_clash
        (subst (λ x. Fetched hash_of e.session.own e.session.seen e.context x (taken_with w mail) e.built) root e.is_fetched) in
        record {
          ended = e.session;
          was_open = e.there;
          turn = e.of_it;
          asked = tie.asked;
          context = e.context;
          root = e.root;
          opening = either e.session.session e.context e.root e.opening;
          all = λ theirs root no_clash. let fetched = law theirs root no_clash in let done = fetched.done e.complete in
              record { each = done.1; no_other = done.2; once = fetched.once; theirs_taken = fetched.theirs_taken };
          joins = λ theirs lawful root no_clash.
              let live = (w.replica name).live in
              let closed = closing e.session.own theirs e.built.built e.session.seen e.context live lawful
              ((law theirs root no_clash).done e.complete).0 tie.below in
              ap (λ (x : World). (x.replica name).live) d.after ∙ ap (λ (x : Replica). x.live) (here_new name d.new _) ∙ e.live ∙ same_is _ _ closed;
        }
      where
        either : (s : SessionValue) (context : DotValue → Bool) (root : Option (List ℕ)) → (mail ≡ Opening s context root)
            ⊎ TookOpening hash_of name deeds s context root → TookOpening hash_of name (deeds ++ Comes mail of ∷ []) s context root
        either s context root (inl now) = opened_now hash_of name deeds w v mail of answer runs befalls (inr is_done) s context root now
        either s context root (inr before) = opening_more hash_of name deeds (Comes mail of) s context root before

pub ends_alone : EndsAlone
ends_alone hash_of name deeds w v mail of runs answer befalls is_done =
    let d = arrived hash_of name w v mail of answer befalls in
    let t = tied hash_of name deeds w runs in
    let done : (delivered hash_of d.own (w.replica name) mail).outcome ≡ Done = ap (λ (x : Turn). x.outcome) d.step
    ∙ came_one d.outcome Done (sym d.answers ∙ is_done) in
    end_is hash_of name deeds w t mail of answer v runs befalls is_done d
    (subst (Ending hash_of name deeds w t mail) d.step (ending hash_of name deeds w t d.own mail done))
