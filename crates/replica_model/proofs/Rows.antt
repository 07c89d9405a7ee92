-- The table of deliveries by its rows: what holds of each row holds of what a delivery comes to.
use Rattle.std.proofs.Common.{◌≡◌, ◌≢◌, ℕ, List, [], ◌∷◌, Bool, true, false, Option, Some, None, cond, refl, sym, eqb-true}
use Rattle.dots.specs.Dot.{DotValue}
use Rattle.op_model.specs.Meaning.{MapState}
use Rattle.wire_form.specs.Page.{PageValue}
use Rattle.wire_form.specs.Sent.{SentValue}
use Rattle.wire_form.specs.Session.{SessionValue}
use Rattle.prefix_digest.specs.Page.{page_at}
use Rattle.sync_model.specs.Closing.{held_state}
use Rattle.sync_model.specs.Differ.{Held}
use Rattle.sync_model.specs.Fetch.{Fetch, take_opening, take_page}
use Rattle.sync_model.specs.Fetch as fetch
use Rattle.replica_model.specs.Mail.{Mail, Delta, Hello, Opening, Ask, Page, Gone, is_for}
use Rattle.replica_model.specs.Replica.{Replica, Open, Accepted, Kept, open_at, kept_at, joins, advances, closes, keeps}
use Rattle.replica_model.specs.Delivery.{Turn, turn, Outcome, ignored, Joined, Sent, Done, Mismatch, Ended, is_complete, asks_for, asks_of, fetching, took_gone}
use Rattle.replica_model.specs.Delivery.{opening_of, took_hello, page_for, answered, took_ask, opening_taken, took_first, took_opening, child_prefixes}
use Rattle.replica_model.specs.Delivery.{page_taken, took_further, took_page, taken, delivered}

-- the snapshot that is kept of a replica
abbrev pub snapshot : Held → Replica → SessionValue → (DotValue → Bool) → Kept
snapshot own r s seen = record { session = s; seen = seen; map = own; context = r.live.has }

-- a delta is for each
abbrev pub IsNoDelta : Mail → Type 0
IsNoDelta (Delta d) = ⊥
IsNoDelta other = Unit {0}

is_other : (name : ℕ) (mail : Mail) → is_for name mail ≡ false → IsNoDelta mail
is_other name (Delta d) e = absurd cc
is_other name (Hello s seen) e = tt
is_other name (Opening s context root) e = tt
is_other name (Ask s prefix) e = tt
is_other name (Page s sent) e = tt
is_other name (Gone s) e = tt

module _ (hash_of : List ℕ → ℕ) (own : Held) (r : Replica) (P : Mail → Turn → Type 0) where
  pub record Rows : Type 0 where
    pub ignoring : (mail : Mail) → IsNoDelta mail → P mail (ignored r)
    pub mismatch : (mail : Mail) → IsNoDelta mail → P mail (turn r Mismatch [])
    pub delta : (d : MapState) → P (Delta d) (turn (joins r d) Joined [])
    pub told_again : (s : SessionValue) (seen : DotValue → Bool) (k : Kept) → kept_at r.kept s ≡ Some k
        → P (Hello s seen) (turn r Sent (opening_of hash_of k ∷ []))
    pub kept : (s : SessionValue) (seen : DotValue → Bool) → s.answerer ≡ r.name → kept_at r.kept s ≡ None →
        P (Hello s seen) (turn (keeps r (snapshot own r s seen)) Sent (opening_of hash_of (snapshot own r s seen) ∷ []))
    pub gone : (s : SessionValue) (prefix : List ℕ) → P (Ask s prefix) (turn r Sent (Gone s ∷ []))
    pub page : (s : SessionValue) (prefix : List ℕ) (k : Kept) (page : PageValue) → P (Ask s prefix) (turn r Sent (page_for hash_of s k prefix page ∷ []))
    pub opening_done : (s : SessionValue) (context : DotValue → Bool) (root : Option (List ℕ)) (o : Open) (f : Fetch) → open_at r.sessions s ≡ Some o
        → o.accepted ≡ None →
        take_opening hash_of o.own o.seen context root ≡ fetch.Took f → is_complete f ≡ true →
        P (Opening s context root) (turn (closes (joins r (held_state f.built context)) o.session) Done [])
    pub opening_sent : (s : SessionValue) (context : DotValue → Bool) (root : Option (List ℕ)) (o : Open) (f : Fetch) → open_at r.sessions s ≡ Some o
        → o.accepted ≡ None →
        take_opening hash_of o.own o.seen context root ≡ fetch.Took f →
        P (Opening s context root) (turn (advances r (fetching o context f)) Sent (asks_of o.session f))
    pub page_done : (s : SessionValue) (sent : SentValue) (o : Open) (a : Accepted) (f : Fetch) → open_at r.sessions s ≡ Some o → o.accepted ≡ Some a →
        take_page hash_of o.own o.seen a.context a.fetch sent.prefix sent.page sent.values ≡ fetch.Took f → is_complete f ≡ true →
        P (Page s sent) (turn (closes (joins r (held_state f.built a.context)) o.session) Done [])
    pub page_sent : (s : SessionValue) (sent : SentValue) (o : Open) (a : Accepted) (f : Fetch) → open_at r.sessions s ≡ Some o → o.accepted ≡ Some a →
        take_page hash_of o.own o.seen a.context a.fetch sent.prefix sent.page sent.values ≡ fetch.Took f →
        P (Page s sent) (turn (advances r (fetching o a.context f)) Sent (asks_for o.session (child_prefixes hash_of o sent)))
    pub ended : (s : SessionValue) (o : Open) → open_at r.sessions s ≡ Some o → P (Gone s) (turn (closes r o.session) Ended [])

  module _ (rows : Rows) where
    hello_row : (s : SessionValue) (seen : DotValue → Bool) → s.answerer ≡ r.name → (k : Option Kept) → kept_at r.kept s ≡ k
        → P (Hello s seen) (took_hello hash_of own r s seen k)
    hello_row s seen here (Some k) e = rows.told_again s seen k e
    hello_row s seen here None e = rows.kept s seen here e

    answered_row : (s : SessionValue) (prefix : List ℕ) (k : Kept) (page : Option PageValue) → P (Ask s prefix) (answered hash_of r s k prefix page)
    answered_row s prefix k None = rows.ignoring (Ask s prefix) tt
    answered_row s prefix k (Some page) = rows.page s prefix k page

    ask_row : (s : SessionValue) (prefix : List ℕ) (k : Option Kept) → P (Ask s prefix) (took_ask hash_of r s prefix k)
    ask_row s prefix None = rows.gone s prefix
    ask_row s prefix (Some k) = answered_row s prefix k (page_at hash_of k.map prefix)

    module _ (s : SessionValue) (context : DotValue → Bool) (root : Option (List ℕ)) (o : Open) (there : open_at r.sessions s ≡ Some o)
        (first : o.accepted ≡ None) where
      opening_went : (f : Fetch) → take_opening hash_of o.own o.seen context root ≡ fetch.Took f → (b : Bool) → is_complete f ≡ b →
          P (Opening s context root) (cond b (turn (closes (joins r (held_state f.built context)) o.session) Done [])
          (turn (advances r (fetching o context f)) Sent (asks_of o.session f)))
      opening_went f took true complete = rows.opening_done s context root o f there first took complete
      opening_went f took false complete = rows.opening_sent s context root o f there first took

      taken_opening_row : (t : fetch.Taken) → take_opening hash_of o.own o.seen context root ≡ t
          → P (Opening s context root) (opening_taken hash_of r o context t)
      taken_opening_row fetch.Ignored e = rows.ignoring (Opening s context root) tt
      taken_opening_row fetch.Mismatch e = rows.mismatch (Opening s context root) tt
      taken_opening_row (fetch.Took f) e = opening_went f e (is_complete f) refl

    first_row : (s : SessionValue) (context : DotValue → Bool) (root : Option (List ℕ)) (o : Open) → open_at r.sessions s ≡ Some o → (a : Option Accepted)
        → o.accepted ≡ a →
        P (Opening s context root) (took_first hash_of r o context root a)
    first_row s context root o there (Some a) e = rows.ignoring (Opening s context root) tt
    first_row s context root o there None e = taken_opening_row s context root o there e (take_opening hash_of o.own o.seen context root) refl

    opening_row : (s : SessionValue) (context : DotValue → Bool) (root : Option (List ℕ)) (o : Option Open) → open_at r.sessions s ≡ o
        → P (Opening s context root) (took_opening hash_of r context root o)
    opening_row s context root None e = rows.ignoring (Opening s context root) tt
    opening_row s context root (Some o) e = first_row s context root o e o.accepted refl

    module _ (s : SessionValue) (sent : SentValue) (o : Open) (there : open_at r.sessions s ≡ Some o) (a : Accepted) (accepted : o.accepted ≡ Some a) where
      page_went : (f : Fetch) → take_page hash_of o.own o.seen a.context a.fetch sent.prefix sent.page sent.values ≡ fetch.Took f → (b : Bool)
          → is_complete f ≡ b →
          P (Page s sent) (cond b (turn (closes (joins r (held_state f.built a.context)) o.session) Done [])
          (turn (advances r (fetching o a.context f)) Sent (asks_for o.session (child_prefixes hash_of o sent))))
      page_went f took true complete = rows.page_done s sent o a f there accepted took complete
      page_went f took false complete = rows.page_sent s sent o a f there accepted took

      taken_page_row : (t : fetch.Taken) → take_page hash_of o.own o.seen a.context a.fetch sent.prefix sent.page sent.values ≡ t
          → P (Page s sent) (page_taken hash_of r o a.context sent t)
      taken_page_row fetch.Ignored e = rows.ignoring (Page s sent) tt
      taken_page_row fetch.Mismatch e = rows.mismatch (Page s sent) tt
      taken_page_row (fetch.Took f) e = page_went f e (is_complete f) refl

    further_row : (s : SessionValue) (sent : SentValue) (o : Open) → open_at r.sessions s ≡ Some o → (a : Option Accepted) → o.accepted ≡ a
        → P (Page s sent) (took_further hash_of r o sent a)
    further_row s sent o there None e = rows.ignoring (Page s sent) tt
    further_row s sent o there (Some a) e = taken_page_row s sent o there a e
        (take_page hash_of o.own o.seen a.context a.fetch sent.prefix sent.page sent.values) refl

    page_row : (s : SessionValue) (sent : SentValue) (o : Option Open) → open_at r.sessions s ≡ o → P (Page s sent) (took_page hash_of r sent o)
    page_row s sent None e = rows.ignoring (Page s sent) tt
    page_row s sent (Some o) e = further_row s sent o e o.accepted refl

    gone_row : (s : SessionValue) (o : Option Open) → open_at r.sessions s ≡ o → P (Gone s) (took_gone r o)
    gone_row s None e = rows.ignoring (Gone s) tt
    gone_row s (Some o) e = rows.ended s o e

    taken_row : (mail : Mail) → is_for r.name mail ≡ true → P mail (taken hash_of own r mail)
    taken_row (Delta d) e = rows.delta d
    taken_row (Hello s seen) e = hello_row s seen (eqb-true s.answerer r.name e) (kept_at r.kept s) refl
    taken_row (Opening s context root) e = opening_row s context root (open_at r.sessions s) refl
    taken_row (Ask s prefix) e = ask_row s prefix (kept_at r.kept s)
    taken_row (Page s sent) e = page_row s sent (open_at r.sessions s) refl
    taken_row (Gone s) e = gone_row s (open_at r.sessions s) refl

    either_row : (mail : Mail) (b : Bool) → is_for r.name mail ≡ b → P mail (cond b (taken hash_of own r mail) (ignored r))
    either_row mail true e = taken_row mail e
    either_row mail false e = rows.ignoring mail (is_other r.name mail e)

    pub each_row : (mail : Mail) → P mail (delivered hash_of own r mail)
    each_row mail = either_row mail (is_for r.name mail) refl

-- a delta is joined
pub other_unless_joined : (hash_of : List ℕ → ℕ) (own : Held) (r : Replica) (mail : Mail) (outcome : Outcome)
    → (delivered hash_of own r mail).outcome ≡ outcome → outcome ≢ Joined → IsNoDelta mail
other_unless_joined hash_of own r (Delta d) outcome is apart = absurd (apart (sym is))
other_unless_joined hash_of own r (Hello s seen) outcome is apart = tt
other_unless_joined hash_of own r (Opening s context root) outcome is apart = tt
other_unless_joined hash_of own r (Ask s prefix) outcome is apart = tt
other_unless_joined hash_of own r (Page s sent) outcome is apart = tt
other_unless_joined hash_of own r (Gone s) outcome is apart = tt
