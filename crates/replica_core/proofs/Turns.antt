-- What the turn of a session makes of its replica.
use Rattle.std.proofs.Common.{◌≡◌, ◌⊎◌, ◌||◌, ℕ, List, Bool, true, false, Option, Some, None, inl, inr, map, refl, sym, ap, ◌∙◌, subst}
use Rattle.std.proofs.lemmas.Bool.{false≢true}
use Rattle.std.specs.FinMap as finite
use Rattle.std.specs.FinMap.{get-empty}
use Rattle.causal_context.specs.Context.{ContextValue, HasNone, has}
use Rattle.dots.specs.Bytes.{bytes_cmp}
use Rattle.op_model.specs.Meaning.{MapState, greater}
use Rattle.op_model.specs.State.{joined}
use Rattle.sync_model.specs.Closing as closing
use Rattle.sync_model.specs.Closing.{IsBelow}
use Rattle.sync_model.specs.Differ.{Held}
use Rattle.sync_model.specs.Opened.{held_in}
use Rattle.wire_form.specs.Message.{MessageValue}
use Rattle.sync_protocol.specs.Asking.{AskerValue, StageValue, Asked, Fetching, Complete, Over, IsCompleteWithNothing, IsFrom, is_over, stage_with, asker_state}
use Rattle.sync_protocol.specs.Turning as turning
use Rattle.replica_model.specs.Mail.{mail_of}
use Rattle.replica_model.specs.Replica.{Replica, advances, closes, joins}
use Rattle.replica_model.specs.Delivery.{turn, Sent}
use Rattle.replica_core.specs.Meaning.{accepted_of, open_of}
use Rattle.replica_core.specs.Own.{IsOwn, KnowsBuilt}
use Rattle.replica_core.specs.Turned.{advanced_to, closed_with, turned}
use Rattle.replica_core.specs.Turning.{IsGoingOn}

-- ---- it goes on

advanced_open : {Hash : Type 0} (r : Replica) (next : AskerValue Hash) (s : StageValue Hash) → is_over s ≡ false
    → advanced_to r next.session (stage_with next.own next.seen s) ≡ advances r
    (record { session = next.session; own = next.own; seen = has next.seen; accepted = accepted_of s })
advanced_open r next Asked unended = refl
advanced_open r next (Fetching c f) unended = refl
advanced_open r next (Complete c b) unended = absurd (false≢true (sym unended))
advanced_open r next Over unended = absurd (false≢true (sym unended))

pub sent_turned : {Hash : Type 0} (r m : Replica) (next : AskerValue Hash) (messages : List MessageValue) → m ≡ advances r (open_of next)
    → is_over next.stage ≡ false
    → turned r (asker_state next) (turning.Sent messages) ≡ turn m Sent (map mail_of messages)
sent_turned r m next messages is unended = ap (λ x. turn x Sent (map mail_of messages)) (advanced_open r next next.stage unended ∙ sym is)

module _ {Hash : Type 0} (hash_of : Hash → List ℕ → ℕ) (name : ℕ) (hash : Hash) (live : MapState) (a next : AskerValue Hash)
    (own : IsOwn hash_of name hash live a) where
  pub own_next : next.session ≡ a.session → IsFrom a next → IsGoingOn hash_of a next → IsOwn hash_of name hash live next
  own_next session goes_from on = record {
    asker = ap (λ s. s.asker) session ∙ own.asker;
    hash_is = goes_from.hash ∙ own.hash_is;
    is_open = on.is_open;
    below =
        let B : Held → ContextValue → Type 0 = λ m c. IsBelow (closing.held_state m (has c)) live in
        subst (λ m. B m next.seen) (sym on.own) (subst (B a.own) (sym on.seen) own.below);
    built =
        let K : Hash → Held → Type 0 = λ h m. KnowsBuilt hash_of h m next.stage in
        subst (K hash) (sym on.own) (subst (λ h. K h a.own) own.hash_is on.built);
  }

  -- ---- it is closed

  nothing_joined : (x : Option (List ℕ)) (knows : Bool) → joined greater x knows None false ≡ x
  nothing_joined (Some x) knows = refl
  nothing_joined None knows = refl

  or_none : (b : Bool) → (b || false) ≡ b
  or_none true = refl
  or_none false = refl

  nothing_below : (c : ContextValue) → HasNone c → IsBelow (closing.held_state finite.empty (has c)) live
  nothing_below c none = record {
    at = λ place dot.
        (λ i. joined greater (live.at place dot) (live.has dot) (held_in (get-empty bytes_cmp place.key i) place.field dot) (none dot i))
        ∙ nothing_joined (live.at place dot) (live.has dot);
    has = λ dot. (λ i. live.has dot || none dot i) ∙ or_none (live.has dot);
  }

  -- what it was built from is below what the replica holds
  pub base_below : IsFrom a next → IsBelow (closing.held_state next.own (has next.seen)) live
  base_below goes_from = either goes_from.base
    where
      either : (((next.own ≡ a.own) × (next.seen ≡ a.seen)) ⊎ (((next.own ≡ finite.empty) × HasNone next.seen) × IsCompleteWithNothing next.stage))
          → IsBelow (closing.held_state next.own (has next.seen)) live
      either (inl same) =
          let B : Held → ContextValue → Type 0 = λ m c. IsBelow (closing.held_state m (has c)) live in
          subst (λ m. B m next.seen) (sym same.0) (subst (B a.own) (sym same.1) own.below)
      either (inr nothing) =
          subst (λ m. IsBelow (closing.held_state m (has next.seen)) live) (sym nothing.0.0) (nothing_below next.seen nothing.0.1)

-- a whole session is closed with what it built
pub closed_by : {Hash : Type 0} (r : Replica) (asker : AskerValue Hash) (c : ContextValue) (b : _) → asker.stage ≡ Complete c b
    → closed_with r asker.session (stage_with asker.own asker.seen asker.stage) ≡ closes (joins r (closing.held_state b.entries (has c))) asker.session
closed_by r asker c b is = ap (λ s. closed_with r asker.session (stage_with asker.own asker.seen s)) is
