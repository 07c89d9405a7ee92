-- What an asker has of a session. Of this project.
use Rattle.std.specs.Prelude.{◌≡◌, ◌⊎◌, Bool, true, false, refl}
use Rattle.std.proofs.Common.{inl, inr}
use Rattle.std.specs.Coded.{Coded, code_by, coded×, coded_list, coded_ℕ}
use base.Stored.{coded⊎, coded_unit}
use Rattle.std.specs.FinMap as finite
use Rattle.causal_context.specs.Code.{context_code}
use Rattle.causal_context.specs.Context.{ContextValue, has, HasNone}
use Rattle.causal_join.specs.Code.{fields_code}
use Rattle.wire_form.specs.Session.{SessionValue}
use Rattle.sync_model.specs.Differ.{Held}
use Rattle.sync_model.specs.Fetch.{Fetch}
use Rattle.sync_model.specs.Laws.{KnowsEachDot}
use Rattle.page_fetching.specs.Building.{BuiltValue, built_code, GoesOn}
use Rattle.page_fetching.specs.Taking.{FetchingValue, fetching_code, fetch_of}
use Rattle.sync_protocol.specs.Snapshot.{session_code}

-- how far it is: it asked; it accepted an opening, which knows these dots, and fetches; all is there, under these dots; or it ended
-- with nothing
pub data StageValue (Hash : Type 0) : Type 0 where
  Asked : StageValue Hash
  Fetching : ContextValue → FetchingValue Hash → StageValue Hash
  Complete : ContextValue → BuiltValue Hash → StageValue Hash
  Over : StageValue Hash

-- whether it asked, and accepted no opening; whether it fetches; whether all is there; whether no message changes it any more
abbrev pub is_asked : {Hash : Type 0} → StageValue Hash → Bool
is_asked Asked = true
is_asked other = false

abbrev pub is_fetching : {Hash : Type 0} → StageValue Hash → Bool
is_fetching (Fetching c f) = true
is_fetching other = false

abbrev pub has_completed : {Hash : Type 0} → StageValue Hash → Bool
has_completed (Complete c b) = true
has_completed other = false

abbrev pub is_over : {Hash : Type 0} → StageValue Hash → Bool
is_over (Complete c b) = true
is_over Over = true
is_over other = false

-- the session, the own map with the hash of its keys' paths and the dots that had been seen with it when it was asked, and how far it is
pub record AskerValue (Hash : Type 0) : Type 0 where
  pub session : SessionValue
  pub hash : Hash
  pub own : Held
  pub seen : ContextValue
  pub stage : StageValue Hash

-- a stage is stored as one of its parts, and an asker as its parts
abbrev pub Stored : Type 0 → Type 0
Stored Hash = (Unit {0} ⊎ Unit {0}) ⊎ ((ContextValue × FetchingValue Hash) ⊎ (ContextValue × BuiltValue Hash))

module _ {Hash : Type 0} where
  abbrev pub stored : StageValue Hash → Stored Hash
  stored Asked = inl (inl tt)
  stored Over = inl (inr tt)
  stored (Fetching c f) = inr (inl (c, f))
  stored (Complete c b) = inr (inr (c, b))

  abbrev pub unstored : Stored Hash → StageValue Hash
  unstored (inl (inl u)) = Asked
  unstored (inl (inr u)) = Over
  unstored (inr (inl p)) = Fetching p.0 p.1
  unstored (inr (inr p)) = Complete p.0 p.1

  pub stored_back : (s : StageValue Hash) → unstored (stored s) ≡ s
  stored_back Asked = refl
  stored_back Over = refl
  stored_back (Fetching c f) = refl
  stored_back (Complete c b) = refl

  abbrev pub stage_code : Coded Hash → Coded (StageValue Hash)
  stage_code hash =
      code_by (Stored Hash) (coded⊎ (coded⊎ coded_unit coded_unit)
      (coded⊎ (coded× context_code (fetching_code hash)) (coded× context_code (built_code hash)))) stored unstored stored_back

  abbrev pub asker_code : Coded Hash → Coded (AskerValue Hash)
  asker_code hash =
      code_by (SessionValue × (Hash × (Held × (ContextValue × StageValue Hash))))
      (coded× session_code (coded× hash (coded× (finite.code (coded_list coded_ℕ) fields_code) (coded× context_code (stage_code hash)))))
      (λ a. (a.session, (a.hash, (a.own, (a.seen, a.stage)))))
      (λ p. record { session = p.0; hash = p.1.0; own = p.1.1.0; seen = p.1.1.1.0; stage = p.1.1.1.1 })
      (λ _. refl)

  -- what is built goes on from the own map
  abbrev pub start : AskerValue Hash → BuiltValue Hash
  start a = record { hash = a.hash; entries = a.own; touched = finite.empty }

  abbrev pub GoesOnFrom : AskerValue Hash → StageValue Hash → Type 0
  GoesOnFrom a Asked = Unit {0}
  GoesOnFrom a Over = Unit {0}
  GoesOnFrom a (Fetching c f) = GoesOn (start a) f.built
  GoesOnFrom a (Complete c b) = GoesOn (start a) b

  -- all dots of the own map had been seen, and what is built goes on from it
  abbrev pub IsAsker : AskerValue Hash → Type 0
  IsAsker a = KnowsEachDot (has a.seen) a.own × GoesOnFrom a a.stage

-- all is there, and it is the empty map
abbrev pub IsCompleteWithNothing : {Hash : Type 0} → StageValue Hash → Type 0
IsCompleteWithNothing Asked = ⊥
IsCompleteWithNothing Over = ⊥
IsCompleteWithNothing (Fetching c f) = ⊥
IsCompleteWithNothing (Complete c b) = b.entries ≡ finite.empty

-- An asker after a message: it goes on from the own map of the first with the dots seen with it; or, where its peer had no key, it has all with
-- the empty map, and went on from the empty map with none seen.
pub record IsFrom {Hash : Type 0} (old new : AskerValue Hash) : Type 0 where
  pub hash : new.hash ≡ old.hash
  pub base : ((new.own ≡ old.own) × (new.seen ≡ old.seen)) ⊎ (((new.own ≡ finite.empty) × HasNone new.seen) × IsCompleteWithNothing new.stage)

-- A session in the words of its step: the own map and the dots seen with it count until all is there, and then what was built, with the
-- dots that the opening knows.
pub data Stage : Type 0 where
  Waits : Held → ContextValue → Stage
  Fetches : Held → ContextValue → ContextValue → Fetch → Stage
  Has : ContextValue → Held → Stage
  Ended : Stage

pub record AskerState : Type 0 where
  pub session : SessionValue
  pub stage : Stage

abbrev pub stage_with : {Hash : Type 0} → Held → ContextValue → StageValue Hash → Stage
stage_with own seen Asked = Waits own seen
stage_with own seen (Fetching c f) = Fetches own seen c (fetch_of f)
stage_with own seen (Complete c b) = Has c b.entries
stage_with own seen Over = Ended

abbrev pub asker_state : {Hash : Type 0} → AskerValue Hash → AskerState
asker_state a = record { session = a.session; stage = stage_with a.own a.seen a.stage }
