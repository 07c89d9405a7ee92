-- What a session that goes on comes to, by its turn and by the model.
use Rattle.std.proofs.Common.{◌≡◌, ℕ, List, [], ◌∷◌, length, Bool, true, false, Option, Some, None, cond, true≢false, arith, refl, sym, ap, ◌∙◌}
use Rattle.std.specs.Prelude.{map, ◌==◌, nat_lt}
use Rattle.std.proofs.lemmas.Bool.Decides.{nat_tests}
use Rattle.std.specs.FinMap as finite
use Rattle.std.specs.FinMap.{len-entries}
use Rattle.causal_context.specs.Context.{ContextValue, has}
use Rattle.wire_form.specs.Message as message
use Rattle.wire_form.specs.Message.{MessageValue}
use Rattle.wire_form.specs.Sent.{SentValue}
use Rattle.wire_form.specs.Session.{SessionValue}
use Rattle.prefix_digest.specs.Page.{digest_at}
use Rattle.hash_path.specs.Map.{walk_under}
use Rattle.sync_model.specs.Closing.{held_state}
use Rattle.sync_model.specs.Fetch as fetch
use Rattle.sync_model.specs.Fetch.{Fetch, is_digest, within, take_opening, take_page}
use Rattle.page_fetching.specs.Taking.{fetch_of}
use Rattle.sync_protocol.specs.Asking.{AskerValue, StageValue, Asked, Fetching, Complete, Over, is_over, Waits, Fetches, Has, stage_with}
use Rattle.sync_protocol.specs.Turning as turning
use Rattle.sync_protocol.specs.Turning.{StateAndStep, goes_on, comes_to, gone_at, opening_at, page_at_stage}
use Rattle.replica_model.proofs.Waiting.{empty_complete, root_entries}
use Rattle.replica_model.specs.Mail.{Mail, Ask, mail_of}
use Rattle.replica_model.specs.Replica.{Replica, Open, joins, advances, closes}
use Rattle.replica_model.specs.Delivery.{Turn, turn, Sent, Done, is_complete, asks_for, asks_of, fetching, went_on, took_gone, opening_taken, took_first}
use Rattle.replica_model.specs.Delivery.{child_prefixes, page_taken, took_further}
use Rattle.replica_model.specs.Step.{again}
use Rattle.replica_core.specs.Meaning.{accepted_of, open_of}
use Rattle.replica_core.specs.Turned.{turned}
use Rattle.replica_core.specs.Tied.{OpeningsAreTied, PagesAreTied, GonesAreTied, RetriesAreTied}

-- ---- what is waited for

below_one : (n : ℕ) → nat_lt n 1 ≡ (n == 0)
below_one n = grind (arith, nat_tests)

-- nothing, by its number and by its entries
complete_is : (f : Fetch) → is_complete f ≡ (finite.len f.waiting == 0)
complete_is f = below_one (length (finite.entries f.waiting)) ∙ ap (λ n. n == 0) (sym (len-entries f.waiting))

-- ---- asks

asks_mail : (s : SessionValue) (prefixes : List (List ℕ)) → map mail_of (map (message.Ask s) prefixes) ≡ map (Ask s) prefixes
asks_mail s [] = refl
asks_mail s (p ∷ ps) = ap (λ ms. Ask s p ∷ ms) (asks_mail s ps)

-- ---- turns

module _ (hash_of : List ℕ → ℕ) (r : Replica) where
  abbrev by : StateAndStep → Turn
  by t = turned r t.0 t.1

  module _ {Hash : Type 0} (a : AskerValue Hash) (context : ContextValue) where
    -- a session that took what it waited for
    abbrev on : Fetch → Open
    on f = fetching (open_of a) (has context) f

    abbrev ending : Fetch → Turn
    ending f = turn (closes (joins r (held_state f.built (has context))) a.session) Done []

    went : (f : Fetch) (asks : List MessageValue) (mails : List Mail) → (is_complete f ≡ false → mails ≡ map mail_of asks)
        → went_on r (open_of a) (has context) f mails ≡ by (goes_on a.session a.own a.seen context asks f)
    went f asks mails same = ap (λ c. cond c (ending f) (turn (advances r (on f)) Sent mails)) (complete_is f)
        ∙ step (finite.len f.waiting == 0) (complete_is f)
      where
        step : (c : Bool) → is_complete f ≡ c → cond c (ending f) (turn (advances r (on f)) Sent mails)
            ≡ by (cond c (turning.at_stage a.session (Has context f.built), turning.Done)
            (turning.at_stage a.session (Fetches a.own a.seen context f), turning.Sent asks))
        step true e = refl
        step false e = ap (λ ms. turn (advances r (on f)) Sent ms) (same e)

    -- a first opening
    abbrev opens_with : fetch.Taken → StateAndStep
    opens_with t = comes_to a.session a.own a.seen context (Waits a.own a.seen) (message.Ask a.session [] ∷ []) t

    -- where it leaves nothing to be fetched, no ask is sent
    opened_complete : (f : Fetch) → f.waiting ≡ finite.empty → opening_taken hash_of r (open_of a) (has context) (fetch.Took f)
        ≡ by (opens_with (fetch.Took f))
    opened_complete f e = went f (message.Ask a.session [] ∷ []) (asks_of a.session f) (λ no. absurd (true≢false (sym (empty_complete f e) ∙ no)))

    opened_root : (d : List ℕ) (f : Fetch) → f.waiting ≡ finite.insert finite.empty [] d
        → opening_taken hash_of r (open_of a) (has context) (fetch.Took f) ≡ by (opens_with (fetch.Took f))
    opened_root d f e =
        went f (message.Ask a.session [] ∷ []) (asks_of a.session f) (λ _. ap (λ w. map (Ask a.session) (map (λ x. x.0) (finite.entries w))) e
        ∙ ap (λ es. map (Ask a.session) (map (λ x. x.0) es)) (root_entries d))

    abbrev whole : Fetch
    whole = record { waiting = finite.empty; built = a.own }

    abbrev rooted : List ℕ → Fetch
    rooted d = record { waiting = finite.insert finite.empty [] d; built = a.own }

    opened : (root : Option (List ℕ))
        → opening_taken hash_of r (open_of a) (has context) (take_opening hash_of a.own (has a.seen) (has context) root)
        ≡ by (opens_with (take_opening hash_of a.own (has a.seen) (has context) root))
    opened None = opened_complete (record { waiting = finite.empty; built = finite.empty }) refl
    opened (Some d) = step (is_digest (digest_at hash_of a.own []) d) (within (has context) (walk_under hash_of [] a.own))
      where
        step : (same known : Bool)
            → opening_taken hash_of r (open_of a) (has context) (cond same (cond known (fetch.Took whole) fetch.Mismatch) (fetch.Took (rooted d)))
            ≡ by (opens_with (cond same (cond known (fetch.Took whole) fetch.Mismatch) (fetch.Took (rooted d))))
        step true true = opened_complete whole refl
        step true false = refl
        step false known = opened_root d (rooted d) refl

    -- a page
    paged : (sent : SentValue) (f : Fetch) (t : fetch.Taken) → page_taken hash_of r (open_of a) (has context) sent t
        ≡ by (comes_to a.session a.own a.seen context (Fetches a.own a.seen context f) (turning.asks_for hash_of a.session a.own sent) t)
    paged sent f fetch.Ignored = refl
    paged sent f fetch.Mismatch = refl
    paged sent f (fetch.Took g) =
        went g (turning.asks_for hash_of a.session a.own sent) (asks_for a.session (child_prefixes hash_of (open_of a) sent))
        (λ _. sym (asks_mail a.session (child_prefixes hash_of (open_of a) sent)))

pub opening_tied : {Hash : Type 0} → OpeningsAreTied Hash
opening_tied {Hash} hash_of r a going context root t e = step a.stage going ∙ ap (by hash_of r) (sym e)
  where
    step : (stage : StageValue Hash) → is_over stage ≡ false
        → took_first hash_of r (open_of a) (has context) root (accepted_of stage)
        ≡ by hash_of r (opening_at hash_of a.session (stage_with a.own a.seen stage) context root)
    step Asked going = opened hash_of r a context root
    step (Fetching c f) going = refl
    step (Complete c b) going = absurd (true≢false going)
    step Over going = absurd (true≢false going)

pub page_tied : {Hash : Type 0} → PagesAreTied Hash
page_tied {Hash} hash_of r a going sent t e = step a.stage going ∙ ap (by hash_of r) (sym e)
  where
    step : (stage : StageValue Hash) → is_over stage ≡ false
        → took_further hash_of r (open_of a) sent (accepted_of stage)
        ≡ by hash_of r (page_at_stage hash_of a.session (stage_with a.own a.seen stage) sent)
    step Asked going = refl
    step (Fetching c f) going = paged hash_of r a c sent (fetch_of f)
        (take_page hash_of a.own (has a.seen) (has c) (fetch_of f) sent.prefix sent.page sent.values)
    step (Complete c b) going = absurd (true≢false going)
    step Over going = absurd (true≢false going)

pub gone_tied : {Hash : Type 0} → GonesAreTied Hash
gone_tied {Hash} r a going t e = step a.stage going ∙ ap (λ (x : StateAndStep). turned r x.0 x.1) (sym e)
  where
    step : (stage : StageValue Hash) → is_over stage ≡ false
        → took_gone r (Some (open_of a))
        ≡ turned r (gone_at a.session (stage_with a.own a.seen stage)).0 (gone_at a.session (stage_with a.own a.seen stage)).1
    step Asked going = refl
    step (Fetching c f) going = refl
    step (Complete c b) going = absurd (true≢false going)
    step Over going = absurd (true≢false going)

pub again_tied : {Hash : Type 0} → RetriesAreTied Hash
again_tied {Hash} a going = step a.stage going
  where
    step : (stage : StageValue Hash) → is_over stage ≡ false
        → again (open_of a) (accepted_of stage) ≡ map mail_of (turning.again a.session (stage_with a.own a.seen stage))
    step Asked going = refl
    step (Fetching c f) going = sym (asks_mail a.session (map (λ e. e.0) (finite.entries (fetch_of f).waiting)))
    step (Complete c b) going = absurd (true≢false going)
    step Over going = absurd (true≢false going)
