-- What the sessions of a replica by itself ask for.
use Rattle.std.proofs.Common.{◌≡◌, ℕ, List, [], ◌∷◌, ◌++◌, map, refl, sym, ap, ◌∙◌, subst}
use Rattle.wire_form.specs.Session.{SessionValue}
use Rattle.prefix_digest.specs.Page.{digest_at}
use Rattle.sync_model.specs.Laws.{Fetched}
use Rattle.sync_model.proofs.Lawful.{map_lawful}
use Rattle.replica_model.specs.Delivery.{Sent, Turn, asks_for, child_prefixes}
use Rattle.replica_model.specs.Delivery.{took_further, took_page, taken, delivered}
use Rattle.replica_model.specs.Differing.{asks_at}
use Rattle.replica_model.specs.Mail.{Mail, Opening, Page}
use Rattle.replica_model.specs.Replica.{open_at}
use Rattle.replica_model.specs.SessionsAlone.{TookOpening}
use Rattle.replica_model.specs.Step.{Came}
use Rattle.replica_model.specs.World.{World, Snapshot, sent_as, taking_of, takes}
use Rattle.replica_model.proofs.Carried.{same_messages}
use Rattle.replica_model.proofs.Deciding.{came_one}
use Rattle.replica_model.proofs.Differing.{asks_sent, children, for_it, opening_asked, page_went}
use Rattle.replica_model.proofs.Found.{found_open}
use Rattle.replica_model.proofs.OpeningsAlone.{one_opening_alone}
use Rattle.replica_model.proofs.SessionsAlone.{tied}
use Rattle.replica_alone.specs.Asking.{OpeningsAskAlone, PagesAskAlone}
use Rattle.replica_alone.proofs.Deeds.{CameNow, came_now}

-- what a delivery that goes on adds to the messages
module _ (hash_of : List ℕ → ℕ) (name : ℕ) (w v : World) (mail : Mail) (of : Snapshot) (d : CameNow hash_of name w mail of (Came Sent) v) where
  outcome_of : (delivered hash_of d.own (w.replica name) mail).outcome ≡ Sent
  outcome_of = ap (λ (t : Turn). t.outcome) d.step ∙ came_one d.outcome Sent (sym d.answers)

  adds : (s : SessionValue) (prefixes : List (List ℕ)) → (taken hash_of d.own (w.replica name) mail).replies ≡ asks_for s prefixes
      → v.messages ≡ w.messages ++ asks_at s prefixes
  adds s prefixes replies =
      let u = takes name (w.replica name) mail of d.outcome w in
      let out : d.out ≡ asks_for s prefixes = ap (λ (t : Turn). t.replies) (sym d.step)
      ∙ ap (λ (t : Turn). t.replies) (for_it hash_of d.own (w.replica name) mail outcome_of) ∙ replies in
      ap (λ (x : World). x.messages) d.after
      ∙ ap (λ ms. ms ++ map (sent_as [] u.kept d.new.kept) d.out) (same_messages w name (w.replica name) mail of d.outcome)
      ∙ ap (λ ms. w.messages ++ map (sent_as [] u.kept d.new.kept) ms) out
      ∙ ap (λ ms. w.messages ++ ms) (asks_sent u.kept d.new.kept s prefixes)

  taken_outcome : (taken hash_of d.own (w.replica name) mail).outcome ≡ Sent
  taken_outcome = ap (λ (t : Turn). t.outcome) (sym (for_it hash_of d.own (w.replica name) mail outcome_of)) ∙ outcome_of

pub openings_ask_alone : OpeningsAskAlone
openings_ask_alone hash_of name deeds w v runs s context root of befalls =
    let d = came_now hash_of name w v (Opening s context root) of (Came Sent) befalls in
    adds hash_of name w v (Opening s context root) of d s ([] ∷ [])
    (opening_asked hash_of (w.replica name) s context root (open_at (w.replica name).sessions s) (λ o e. (found_open (w.replica name).sessions s o e).1)
    (taken_outcome hash_of name w v (Opening s context root) of d))

-- ---- a page

pub pages_ask_alone : PagesAskAlone
pages_ask_alone hash_of name deeds w v runs s sent of o there befalls =
    let d = came_now hash_of name w v (Page s sent) of (Came Sent) befalls in
    let found = found_open (w.replica name).sessions s o there in
    let tie = (tied hash_of name deeds w runs).sessions o found.0 in
    let taken_is : taken hash_of d.own (w.replica name) (Page s sent) ≡ took_further hash_of (w.replica name) o sent o.accepted =
    ap (took_page hash_of (w.replica name) sent) there in
    let went = page_went hash_of (w.replica name) o sent o.accepted refl
    (ap (λ (t : Turn). t.outcome) (sym taken_is) ∙ taken_outcome hash_of name w v (Page s sent) of d) in
    let was = tie.fetched went.accepted went.is_accepted in (
      child_prefixes hash_of o sent,
      adds hash_of name w v (Page s sent) of d s (child_prefixes hash_of o sent)
          (ap (λ (t : Turn). t.replies) taken_is ∙ went.replies ∙ ap (λ t. asks_for t (child_prefixes hash_of o sent)) found.1),
      λ context theirs took clean.
          let mine : TookOpening hash_of name deeds s went.accepted.context was.0 =
          subst (λ u. TookOpening hash_of name deeds u went.accepted.context was.0) found.1 was.1 in
          let root : was.0 ≡ digest_at hash_of theirs [] =
          (one_opening_alone hash_of name deeds s went.accepted.context context was.0 (digest_at hash_of theirs []) mine took).1 in
          let before : Fetched hash_of o.own o.seen went.accepted.context (digest_at hash_of theirs []) (w.taken s) went.accepted.fetch =
          subst (λ x. Fetched hash_of o.own o.seen went.accepted.context x (w.taken s) went.accepted.fetch) root
          (subst (λ u. Fetched hash_of o.own o.seen went.accepted.context was.0 (w.taken u) went.accepted.fetch) found.1 was.2) in
          children hash_of o.own theirs o.seen went.accepted.context (map_lawful o.own _ tie.asked.own_then) (taking_of sent) (w.taken s)
          went.accepted.fetch went.after clean before went.took,
    )
