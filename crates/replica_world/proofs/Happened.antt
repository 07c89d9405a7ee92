-- Events of a world, one by one: over plain variables.
use Rattle.std.proofs.Common.{◌≡◌, ◌≢◌, inl, inr, ℕ, ◌+◌, ◌-◌, ◌==◌, ◌||◌, nat_lt, zero, suc, Bool, true, false, cond, List, [], ◌∷◌, ◌++◌, map, length, Option}
use Rattle.std.proofs.Common.{Some, None, is_some, Bor, IfSome, refl, sym, ap, ◌∙◌, subst, arith}
use Rattle.std.proofs.lemmas.Bool.{cond-true}
use Rattle.std.proofs.lemmas.Bool.Decides.{nat_tests}
use Rattle.std.proofs.lemmas.List.{length-map}
use Rattle.std.proofs.lemmas.Option.{same_Some}
use Rattle.std.specs.List.{slice_get}
use Rattle.std.specs.Option.{option_copied, unwrap_or}
use Rattle.std.specs.Prelude.{IsNone}
use Rattle.std.specs.BTreeMap.{BTreeMap, get, is_at, Updates}
use Rattle.std.specs.Ordering.{nat_cmp}
use Rattle.dots.specs.declared.refusal.Refusal.{Refusal}
use Rattle.dots.specs.declared.refusal.Refusal.TheVariants.{OutOfMemory}
use Rattle.op_model.specs.Meaning.{state}
use Rattle.op_model.specs.World.{is_among}
use Rattle.replica_model.specs.Accounts.{IsAccountOf}
use Rattle.replica_model.specs.Happened.{Happened, events_in}
use Rattle.replica_model.specs.Laws.{MeansMail}
use Rattle.replica_model.specs.Mail.{Mail}
use Rattle.replica_model.specs.Replica.{Replica, fresh}
use Rattle.replica_model.specs.Seen.{account}
use Rattle.replica_model.specs.Seen as told
use Rattle.replica_model.specs.Step.{Answer, Nothing}
use Rattle.replica_model.specs.World.{World, Message, Event, Node, is_node, message_at, nothing, Happens, Runs, Unclashed}
use Rattle.replica_model.proofs.Accounts.{accounts_are}
use Rattle.replica_model.proofs.Deciding.{worlds_one}
use Rattle.replica_model.proofs.Meant.{headline}
use Rattle.replica_model.proofs.Telling.{leads_run, leads_go_on}
use Rattle.replica_core.specs.Meaning.{ReplicaValue, hash_in, meaning}
use Rattle.replica_world.specs.Accepting.{IsTold}
use Rattle.replica_world.specs.Keeping.{Keeps, IsWorld, Makes, LeavesWorld, IsRefusedEvent, ForetellsEvent}
use Rattle.replica_world.specs.Reading.{IsThere}
use Rattle.replica_world.specs.Refused.{IsRefusedIn}
use Rattle.replica_world.specs.Replaces.{Replaces}
use Rattle.replica_core.specs.Showing.{ShowsOperations}
use Rattle.replica_model.specs.Spelled.{IsSpelled}
use Rattle.replica_world.proofs.Shown.{worlds_show}
use Rattle.replica_world.proofs.Spelt.{as_many, spelled_at, spelled_past, map_back, map_past}

pub at_other : (name other : ℕ) → other ≢ name → is_at (nat_cmp name) other ≡ false
at_other name other apart = grind (arith, nat_tests)

pub replaces_from : {R : Type 0} (old new : BTreeMap ℕ R) (name : ℕ) (before after : R) → Some before ≡ get nat_cmp old name
    → Updates nat_cmp old new name (Some after) → Replaces old new name before after
replaces_from old new name before after was updates = record {
  was = sym was;
  becomes = updates.1;
  others = λ other apart. updates.2 other (at_other name other apart);
}

pub absent_from : {X : Type 0} (o : Option X) → false ≡ is_some o → o ≡ None
absent_from None is = refl
absent_from (Some x) is = absurd cc

or_false : (b : Bool) → (b || false) ≡ b
or_false true = refl
or_false false = refl

or_true : (b : Bool) → (b || true) ≡ true
or_true true = refl
or_true false = refl

left_false : (a b : Bool) → (a || b) ≡ false → a ≡ false
left_false true b e = e
left_false false b e = refl

none_some : {X : Type 0} (x : X) → None ≡ Some x → ⊥
none_some x e = absurd cc

or_more : (b c d e : Bool) → c ≡ (d || e) → (b || c) ≡ ((b || d) || e)
or_more true c d e is = refl
or_more false c d e is = is

among_more : (names : List ℕ) (name n : ℕ) → is_among (names ++ name ∷ []) n ≡ (is_among names n || (name == n))
among_more [] name n = or_false (name == n)
among_more (m ∷ names) name n = or_more (m == n) (is_among (names ++ name ∷ []) n) (is_among names n) (name == n) (among_more names name n)

-- what stands at a number, counted from 1
at_number : {X : Type 0} (xs : List X) (n : ℕ) {found : Option X} → found ≡ cond (nat_lt 0 (suc n)) (slice_get xs (suc n - 1)) None → found ≡ slice_get xs n
at_number xs n is =
    let less : nat_lt 0 (suc n) ≡ true = grind (arith, nat_tests) in
    let same : suc n - 1 ≡ n = omega arith in
    is ∙ cond-true (nat_lt 0 (suc n)) (slice_get xs (suc n - 1)) None less ∙ ap (slice_get xs) same

module _ {Hash : Type 0} (hash : Hash) (old new : BTreeMap ℕ (ReplicaValue Hash)) (messages : List (List ℕ)) (w : World)
    (keeps : Keeps hash old messages w) where
  -- a new replica
  module _ (name : ℕ) (r : ReplicaValue Hash) (none : get nat_cmp old name ≡ None) (updates : Updates nat_cmp old new name (Some r))
      (is_fresh : meaning r ≡ fresh name) (hashed : hash_in r ≡ hash) where
    abbrev v : World
    v = record w { nodes = w.nodes ++ name ∷ [] }

    not_there : is_node w name ≡ false
    not_there = sym (keeps.there name) ∙ ap is_some none

    there_at : (n : ℕ) (b : Bool) → (name == n) ≡ b → is_some (get nat_cmp new n) ≡ (is_node w n || b)
    there_at n true is =
        let named : name ≡ n = grind (arith, nat_tests) in
        let found : is_some (get nat_cmp new n) ≡ true = subst (λ m. is_some (get nat_cmp new m) ≡ true) named (ap is_some updates.1) in
        found ∙ sym (or_true (is_node w n))
    there_at n false is =
        let apart : n ≢ name = grind (arith, nat_tests) in
        ap is_some (updates.2 n (at_other name n apart)) ∙ keeps.there n ∙ sym (or_false (is_node w n))

    means_at : (n : ℕ) (q : ReplicaValue Hash) → get nat_cmp new n ≡ Some q → (b : Bool) → (name == n) ≡ b → (meaning q ≡ w.replica n) × (hash_in q ≡ hash)
    means_at n q is true eqn =
        let named : name ≡ n = grind (arith, nat_tests) in
        let same : q ≡ r = same_Some _ _ (sym is ∙ ap (get nat_cmp new) (sym named) ∙ updates.1) in
        (ap meaning same ∙ is_fresh ∙ ap fresh named ∙ sym (keeps.absent n (ap (is_node w) (sym named) ∙ not_there)), ap hash_in same ∙ hashed)
    means_at n q is false eqn =
        let apart : n ≢ name = grind (arith, nat_tests) in
        let was = sym (updates.2 n (at_other name n apart)) ∙ is in
        (keeps.means n q was, keeps.hashed n q was)

    absent_at : (n : ℕ) → is_node v n ≡ false → w.replica n ≡ fresh n
    absent_at n out = keeps.absent n (left_false (is_node w n) (name == n) (sym (among_more w.nodes name n) ∙ out))

    pub node_keeps : (hash_of : Hash → List ℕ → ℕ) → (v : World) × Happens (hash_of hash) w (Node name) Nothing v × Keeps hash new messages v
    node_keeps hash_of = (
      v,
      (not_there, refl, refl),
      record {
        there = λ n. there_at n (name == n) refl ∙ sym (among_more w.nodes name n);
        means = λ n q is. (means_at n q is (name == n) refl).0;
        hashed = λ n q is. (means_at n q is (name == n) refl).1;
        absent = absent_at;
        spelled = keeps.spelled;
      },
    )

module _ {Hash : Type 0} (hash : Hash) (replicas : BTreeMap ℕ (ReplicaValue Hash)) (messages : List (List ℕ)) (w : World)
    (keeps : Keeps hash replicas messages w) where
  -- the message of a number
  pub found_message : (number : ℕ) (bytes : List ℕ) → Some bytes ≡ cond (nat_lt 0 number) (slice_get messages (number - 1)) None
      → (m : Message) × (message_at w.messages number ≡ Some m) × IsSpelled bytes m.mail
  found_message zero bytes is = absurd (none_some bytes (sym is))
  found_message (suc n) bytes is =
      let at = spelled_at messages (map (λ (m : Message). m.mail) w.messages) keeps.spelled n bytes (sym (at_number messages n is)) in
      let m = map_back (λ (m : Message). m.mail) w.messages n at.0 at.1 in
      (m.0, m.1, subst (IsSpelled bytes) (sym m.2) at.2)

  pub no_message : (number : ℕ) → None ≡ cond (nat_lt 0 number) (slice_get messages (number - 1)) None → message_at w.messages number ≡ None
  no_message zero is = refl
  no_message (suc n) is = map_past (λ (m : Message). m.mail) w.messages n
      (spelled_past messages (map (λ (m : Message). m.mail) w.messages) keeps.spelled n (sym (at_number messages n is)))

  pub count : length messages ≡ length w.messages
  count = as_many messages (map (λ (m : Message). m.mail) w.messages) keeps.spelled ∙ length-map w.messages (λ (m : Message). m.mail)

module _ {Hash : Type 0} (hash_of : Hash → List ℕ → ℕ) (hash : Hash) (old : BTreeMap ℕ (ReplicaValue Hash)) (messages : List (List ℕ)) (hs : List Happened)
    (is : IsWorld hash_of hash old messages hs) where
  pub runs_so : Runs (hash_of hash) nothing (events_in hs) is.world
  runs_so = leads_run (hash_of hash) hs nothing is.world is.leads

  -- of any world after this past
  pub of_any : (P : World → Type 0) → P is.world → (w : World) → Runs (hash_of hash) nothing (events_in hs) w → P w
  of_any P now w runs = subst P (worlds_one (hash_of hash) (events_in hs) is.world w runs_so runs) now

  pub keeps_any : (w : World) → Runs (hash_of hash) nothing (events_in hs) w → Keeps hash old messages w
  keeps_any = of_any (Keeps hash old messages) is.keeps

  module _ (new : BTreeMap ℕ (ReplicaValue Hash)) (more : List (List ℕ)) (e : Event) where
    pub event_kept : (answer : Answer) (sent : ℕ) → Makes hash_of hash old messages e answer new more → length more ≡ length messages + sent
        → IsWorld hash_of hash new more (hs ++ record { event = e; answer = answer; sent = sent } ∷ [])
    event_kept answer sent makes counted =
        let after = makes is.world is.keeps in
        let h : Happened = record { event = e; answer = answer; sent = sent } in
        let grown : length after.0.messages ≡ length is.world.messages + sent =
        sym (count hash new more after.0 after.2) ∙ counted ∙ ap (λ n. n + sent) (count hash old messages is.world is.keeps) in
        record { world = after.0; leads = leads_go_on (hash_of hash) hs is.world after.0 h is.leads after.1 grown; keeps = after.2 }

    pub event_told : (answer : Answer) → Makes hash_of hash old messages e answer new more → (first end : ℕ) → first ≡ length messages + 1
        → end ≡ length more + 1
        → (w : World) → Runs (hash_of hash) nothing (events_in hs) w → IsTold (hash_of hash) w e answer first end
    event_told answer makes first end from to w runs =
        let keeps = keeps_any w runs in
        let after = makes w keeps in
        record {
          after = after.0;
          happens = after.1;
          begins = from ∙ ap (λ n. n + 1) (count hash old messages w keeps);
          stops = to ∙ ap (λ n. n + 1) (count hash new more after.0 after.2);
        }

    pub event_left : LeavesWorld hash old messages new more → IsWorld hash_of hash new more hs
    event_left leaves = record { world = is.world; leads = is.leads; keeps = leaves is.world is.keeps }

  pub event_refused : (e : Event) (refusal : Refusal) → IsRefusedEvent hash old messages e refusal → (w : World) → Runs (hash_of hash) nothing (events_in hs) w
      → IsRefusedIn w e refusal
  event_refused e refusal refused w runs = refused w (keeps_any w runs)

  -- where there is no room for it, what was foreseen comes first
  pub event_unkept : (e : Event) (told : Option Refusal) → ForetellsEvent hash old messages e told → (w : World) → Runs (hash_of hash) nothing (events_in hs) w
      → IsRefusedIn w e (unwrap_or told OutOfMemory)
  event_unkept e None unrefused w runs = inl (refl, unrefused w (keeps_any w runs))
  event_unkept e (Some refusal) refuses w runs = inr (refuses w (keeps_any w runs))

  -- what is read of it
  pub replica_shown : (name : ℕ) (o : Option (Bor (ReplicaValue Hash))) → option_copied o ≡ get nat_cmp old name
      → IfSome o (λ r. (w : World) → Runs (hash_of hash) nothing (events_in hs) w → (is_node w name ≡ true) × (meaning r.now ≡ w.replica name) × (hash_in r.now ≡ hash))
  replica_shown name None found = tt
  replica_shown name (Some r) found =
      λ w runs. let keeps = keeps_any w runs in (
        sym (keeps.there name) ∙ ap is_some (sym found),
        keeps.means name r.now (sym found),
        keeps.hashed name r.now (sym found),
      )

  pub replica_missing : (name : ℕ) (o : Option (Bor (ReplicaValue Hash))) → option_copied o ≡ get nat_cmp old name → IsNone o → (w : World)
      → Runs (hash_of hash) nothing (events_in hs) w → is_node w name ≡ false
  replica_missing name None found none w runs = let keeps = keeps_any w runs in sym (keeps.there name) ∙ ap is_some (sym found)
  replica_missing name (Some r) found none w runs = absurd cc

  pub replica_holds : (name : ℕ) (o : Option (Bor (ReplicaValue Hash))) → option_copied o ≡ get nat_cmp old name
      → IfSome o (λ r. (w : World) → Runs (hash_of hash) nothing (events_in hs) w → Unclashed (hash_of hash) w
      → ShowsOperations (hash_of hash) (meaning r.now).live (w.seen name))
  replica_holds name None found = tt
  replica_holds name (Some r) found =
      λ w runs unclashed. let keeps = keeps_any w runs in
      subst (λ (q : Replica). ShowsOperations (hash_of hash) q.live (w.seen name)) (sym (keeps.means name r.now (sym found)))
      (worlds_show (hash_of hash) (events_in hs) w runs unclashed name)

  -- the account is that of the world
  pub account_is : IsAccountOf (hash_of hash) (account messages hs) is.world
  account_is = accounts_are (hash_of hash) messages hs is.world is.leads is.keeps.spelled

  pub account_any : (w : World) → Runs (hash_of hash) nothing (events_in hs) w → IsAccountOf (hash_of hash) (account messages hs) w
  account_any = of_any (IsAccountOf (hash_of hash) (account messages hs)) account_is

  pub replica_told : (name : ℕ) (o : Option (Bor (ReplicaValue Hash))) → option_copied o ≡ get nat_cmp old name
      → IfSome o (λ r. IsThere (account messages hs) name true × (hash_in r.now ≡ hash) × (told.Unclashed (hash_of hash) (account messages hs)
      → ShowsOperations (hash_of hash) (meaning r.now).live ((account messages hs).seen name)))
  replica_told name None found = tt
  replica_told name (Some r) found = (
    ap (λ ns. is_among ns name) account_is.nodes ∙ sym (is.keeps.there name) ∙ ap is_some (sym found),
    is.keeps.hashed name r.now (sym found),
    λ clean. subst (λ (q : Replica). ShowsOperations (hash_of hash) q.live ((account messages hs).seen name)) (sym (is.keeps.means name r.now (sym found)))
        (subst (ShowsOperations (hash_of hash) (is.world.replica name).live) (sym (account_is.seen name))
        (worlds_show (hash_of hash) (events_in hs) is.world runs_so (account_is.clean.0 clean) name)),
  )

  known_by : (name : ℕ) (b : Bool) → b ≡ is_some (get nat_cmp old name) → IsThere (account messages hs) name b
  known_by name b at = ap (λ ns. is_among ns name) account_is.nodes ∙ sym (is.keeps.there name) ∙ sym at

  pub replica_unknown : (name : ℕ) (o : Option (Bor (ReplicaValue Hash))) → option_copied o ≡ get nat_cmp old name → IsNone o
      → IsThere (account messages hs) name false
  replica_unknown name None found none = known_by name false (ap is_some found)
  replica_unknown name (Some r) found none = absurd cc

  pub replica_meant : (name : ℕ) (o : Option (Bor (ReplicaValue Hash))) → option_copied o ≡ get nat_cmp old name
      → IfSome o (λ r. (w : World) → Runs (hash_of hash) nothing (events_in hs) w → Unclashed (hash_of hash) w → ((meaning r.now).live ≡ state (w.seen name))
      × ((meaning r.now).group ≡ state (w.outgoing name)))
  replica_meant name None found = tt
  replica_meant name (Some r) found =
      λ w runs unclashed. let is = (keeps_any w runs).means name r.now (sym found) in
      let meant = headline (hash_of hash) (events_in hs) w runs unclashed in
      (ap (λ (q : Replica). q.live) is ∙ meant.live name, ap (λ (q : Replica). q.group) is ∙ meant.group name)

  pub message_meant : (number : ℕ) (o : Option (Bor (List ℕ))) → option_copied o ≡ cond (nat_lt 0 number) (slice_get messages (number - 1)) None
      → IfSome o (λ b. (w : World) → Runs (hash_of hash) nothing (events_in hs) w → Unclashed (hash_of hash) w
      → (m : Message) × (message_at w.messages number ≡ Some m) × MeansMail (hash_of hash) m.mail m.of.seen)
  message_meant number None found = tt
  message_meant number (Some b) found =
      λ w runs unclashed. let at = found_message hash old messages w (keeps_any w runs) number b.now found in
      (at.0, at.1, (headline (hash_of hash) (events_in hs) w runs unclashed).messages number at.0 at.1)

  pub message_shown : (number : ℕ) (o : Option (Bor (List ℕ))) → option_copied o ≡ cond (nat_lt 0 number) (slice_get messages (number - 1)) None
      → IfSome o (λ b. (w : World) → Runs (hash_of hash) nothing (events_in hs) w → (m : Message) × (message_at w.messages number ≡ Some m) × IsSpelled b.now m.mail)
  message_shown number None found = tt
  message_shown number (Some b) found = λ w runs. found_message hash old messages w (keeps_any w runs) number b.now found

  pub message_missing : (number : ℕ) (o : Option (Bor (List ℕ))) → option_copied o ≡ cond (nat_lt 0 number) (slice_get messages (number - 1)) None → IsNone o
      → (w : World) → Runs (hash_of hash) nothing (events_in hs) w → message_at w.messages number ≡ None
  message_missing number None found none w runs = no_message hash old messages w (keeps_any w runs) number found
  message_missing number (Some b) found none w runs = absurd cc

-- mail that is the mail of a message carries what that message does
pub mail_carries : (hash_of : List ℕ → ℕ) (ms : List Message) (number : ℕ) (mail : Mail) → (m : Message) × (message_at ms number ≡ Some m) × (mail ≡ m.mail)
    → (m : Message) × (message_at ms number ≡ Some m) × MeansMail hash_of m.mail m.of.seen → (m : Message) × (message_at ms number ≡ Some m)
    × MeansMail hash_of mail m.of.seen
mail_carries hash_of ms number mail (m, at, is) (n, found, means) =
    let same : m ≡ n = same_Some _ _ (sym at ∙ found) in
    (n, found, subst (λ l. MeansMail hash_of l n.of.seen) (sym (is ∙ ap (λ (x : Message). x.mail) same)) means)
