-- Messages and their bytes. Of this project.
--
-- A message is a version byte, a kind byte and a body, and nothing after it. The kind 1 is a delta, whose body is a
-- causal context and a store, each dot of the store being in the context. Its version is 1 where the store is plain, and
-- 3 where it is not. Each other kind has the version 3, and a body that begins with a session. Behind it stands in a hello
-- (3) the causal context of the replica that asks; in an opening (4) that of the replica that answers, and 00, or 01 and
-- the digest of its map; in an ask (5) the prefix that is asked for; in a page (6) that prefix, the values that the
-- replica which asks does not have, and the page up to the end; and in a gone (7) nothing. Other versions and kinds are
-- no messages.
use Rattle.std.specs.Prelude.{◌≡◌, ℕ, Bool, true, false, List, [], ◌∷◌, ◌++◌, Option, Some, None}
use Rattle.causal_context.specs.Context.{ContextValue}
use Rattle.op_model.specs.State.{IsInside}
use Rattle.causal_join.specs.Causal.{state_of}
use Rattle.causal_join.specs.OrMap.{OrMapValue, or_map_at}
use Rattle.wire_form.specs.declared.message.Message.{Message}
use Rattle.wire_form.specs.declared.message.Message.TheVariants as variants
use Rattle.wire_form.specs.Spelling.{pair, IsPair}
use Rattle.wire_form.specs.Parts.{context, IsContext}
use Rattle.wire_form.specs.Store.{is_plain_form, store, IsStore}
use Rattle.wire_form.specs.Session.{SessionValue, session, IsSession}
use Rattle.wire_form.specs.Prefix.{prefix, IsPrefix}
use Rattle.wire_form.specs.Page.{digest, IsDigest}
use Rattle.wire_form.specs.Sent.{SentValue, sent, IsSent}

-- a message, by its kind
pub data MessageValue : Type 0 where
  Delta : OrMapValue → MessageValue
  Hello : SessionValue → ContextValue → MessageValue
  Opening : SessionValue → ContextValue → Option (List ℕ) → MessageValue
  Ask : SessionValue → List ℕ → MessageValue
  Page : SessionValue → SentValue → MessageValue
  Gone : SessionValue → MessageValue

-- what a message says, wherever it lies in memory
abbrev pub message_of : {A : Type 0} → Message A → MessageValue
message_of (variants.Delta d) = Delta d
message_of (variants.Hello s c) = Hello s c
message_of (variants.Opening s c r) = Opening s c r
message_of (variants.Ask s p) = Ask s p
message_of (variants.Page s p) = Page s p
message_of (variants.Gone s) = Gone s

-- the session that a message belongs to, if any
abbrev pub session_of : MessageValue → Option SessionValue
session_of (Delta d) = None
session_of (Hello s c) = Some s
session_of (Opening s c r) = Some s
session_of (Ask s p) = Some s
session_of (Page s p) = Some s
session_of (Gone s) = Some s

-- whom a message is for: a hello and an ask are for the replica that answers, what answers them for the one that asks, and a delta for everyone
abbrev pub addressee_of : MessageValue → Option ℕ
addressee_of (Delta d) = None
addressee_of (Hello s c) = Some s.answerer
addressee_of (Opening s c r) = Some s.asker
addressee_of (Ask s p) = Some s.answerer
addressee_of (Page s p) = Some s.asker
addressee_of (Gone s) = Some s.asker

-- the version of the format, and that of a delta whose store is plain
abbrev pub VERSION : ℕ
VERSION = 3

abbrev pub PLAIN_VERSION : ℕ
PLAIN_VERSION = 1

abbrev pub version_of : Bool → ℕ
version_of true = PLAIN_VERSION
version_of false = VERSION

-- the kinds
abbrev pub DELTA : ℕ
DELTA = 1

abbrev pub HELLO : ℕ
HELLO = 3

abbrev pub OPENING : ℕ
OPENING = 4

abbrev pub ASK : ℕ
ASK = 5

abbrev pub PAGE : ℕ
PAGE = 6

abbrev pub GONE : ℕ
GONE = 7

-- which deltas have a spelling
pub record IsDelta (d : OrMapValue) : Type 0 where
  pub context : IsContext d.1
  pub store : IsStore d.0
  pub inside : IsInside (state_of or_map_at d)

-- the bytes spell the body of the delta, whose store is of this form
pub record SpellsBody (plain : Bool) (bytes : List ℕ) (d : OrMapValue) : Type 0 where
  pub lawful : IsDelta d
  pub form : is_plain_form d.0 ≡ plain
  pub spelling : bytes ≡ context d.1 ++ store plain d.0

-- the bytes spell the delta
pub record SpellsDelta (bytes : List ℕ) (d : OrMapValue) : Type 0 where
  pub lawful : IsDelta d
  pub spelling : bytes ≡ version_of (is_plain_form d.0) ∷ DELTA ∷ context d.1 ++ store (is_plain_form d.0) d.0

-- the digest of a map, where the map has a key: 00 for none, and else 01 and the digest
abbrev pub root : Option (List ℕ) → List ℕ
root None = 0 ∷ []
root (Some d) = 1 ∷ digest d

abbrev pub IsRoot : Option (List ℕ) → Type 0
IsRoot None = Unit {0}
IsRoot (Some d) = IsDigest d

-- what an opening says behind its session, and what a gone says there
abbrev pub opening : ContextValue × Option (List ℕ) → List ℕ
opening = pair context root

abbrev pub IsOpening : ContextValue × Option (List ℕ) → Type 0
IsOpening = IsPair IsContext IsRoot

abbrev pub empty_spelling : Unit {0} → List ℕ
empty_spelling u = []

abbrev pub IsNothing : Unit {0} → Type 0
IsNothing u = Unit {0}

-- the bytes spell the message of this kind and this session that says the value behind its session
pub record SpellsIn (kind : ℕ) {V : Type 0} (spell : V → List ℕ) (Fits : V → Type 0) (bytes : List ℕ) (s : SessionValue) (value : V) : Type 0 where
  pub asked : IsSession s
  pub fits : Fits value
  pub spelling : bytes ≡ VERSION ∷ kind ∷ session s ++ spell value

-- the bytes spell the message
abbrev pub Spells : List ℕ → MessageValue → Type 0
Spells bytes (Delta d) = SpellsDelta bytes d
Spells bytes (Hello s c) = SpellsIn HELLO context IsContext bytes s c
Spells bytes (Opening s c r) = SpellsIn OPENING opening IsOpening bytes s (c, r)
Spells bytes (Ask s p) = SpellsIn ASK prefix IsPrefix bytes s p
Spells bytes (Page s p) = SpellsIn PAGE sent IsSent bytes s p
Spells bytes (Gone s) = SpellsIn GONE empty_spelling IsNothing bytes s tt

-- the bytes spell no message
abbrev pub SpellsNone : List ℕ → Type 0
SpellsNone bytes = (message : MessageValue) → Spells bytes message → ⊥
