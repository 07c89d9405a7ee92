-- What is kept of replicas for when they crash, as more occurs.
use Rattle.std.proofs.Common.{◌≡◌, ◌≢◌, ◌⊎◌, inl, inr, ◌≤◌, ℕ, ◌+◌, ◌==◌, ◌||◌, nat_lt, Bool, true, false, cond, List, [], ◌∷◌, ◌++◌, map, length, Option, Some, None}
use Rattle.std.proofs.Common.{refl, sym, ap, ◌∙◌, subst, arith}
use Rattle.std.proofs.lemmas.Bool.Decides.{nat_tests}
use Rattle.std.proofs.lemmas.List.{map-append}
use Rattle.std.proofs.lemmas.Option.{same_Some}
use Rattle.std.specs.Prelude.{not, filter, ◌&&◌}
use Rattle.std.specs.List.{fold}
use Rattle.op_model.specs.World.{is_among}
use Rattle.replica_model.specs.Crashing.{Occurrence, Saving, Passing, Saves, Crashes, System, Does, Occurs, Goes, Shows, put, may_be_lost, restarted, started, survivors}
use Rattle.replica_model.specs.Crashing as crashing
use Rattle.replica_model.specs.Delivery.{Sent}
use Rattle.replica_model.specs.Happened.{Happened, events_in, Leads}
use Rattle.replica_model.specs.Laws.{replica_of}
use Rattle.replica_model.specs.Replica.{Replica, restarts}
use Rattle.replica_model.specs.Step.{Answer, Came}
use Rattle.replica_model.specs.World.{World, Message, Event, Node, At, Deliver, nothing, Runs}
use Rattle.replica_model.proofs.Crashing.{take_back}
use Rattle.replica_model.proofs.Deciding.{worlds_one}
use Rattle.replica_model.proofs.Telling.{leads_run}
use Rattle.replica_world.specs.Held.{Held, happened_in, events_of, is_act, save_at, is_left, after, held_after, goes_further, is_saved_with, occurrence, held_by, held_in}
use Rattle.replica_world.specs.Held.{saves_at, AreBefore, IsKept}
use Rattle.replica_world.proofs.Held.{held_survives}
use Rattle.replica_world.proofs.Systems.{Did}

clash : true ≡ false → ⊥
clash e = absurd cc

none_some : {X : Type 0} (x : X) → None ≡ Some x → ⊥
none_some x e = absurd cc

-- ---- one more occurs

pub goes_more : (hash_of : List ℕ → ℕ) (s : System) (xs : List Occurrence) (u : System) (x : Occurrence) (t : System) → Goes hash_of s xs u → Occurs hash_of u x t
    → Goes hash_of s (xs ++ x ∷ []) t
goes_more hash_of s [] u x t is occurs = (t, subst (λ r. Occurs hash_of r x t) is occurs, refl)
goes_more hash_of s (y ∷ xs) u x t (r, first, rest) occurs = (r, first, goes_more hash_of r xs u x t rest occurs)

pub held_more : (hs : List Held) (xs : List Occurrence) (x : Occurrence) → fold after hs (xs ++ x ∷ []) ≡ after (fold after hs xs) x
held_more hs [] x = refl
held_more hs (y ∷ xs) x = held_more (after hs y) xs x

-- what happens comes behind what is held
pub saving_keeps : (name : ℕ) (hs : List Held) → happened_in (map (save_at name) hs) ≡ happened_in hs
saving_keeps name [] = refl
saving_keeps name (h ∷ hs) = ap (λ xs. h.happened ∷ xs) (saving_keeps name hs)

pub happened_after : (hs : List Held) (x : Happened) → happened_in (after hs (occurrence x)) ≡ happened_in hs ++ x ∷ []
happened_after hs x = by (is_saved_with x)
  where
    by : (b : Bool) → happened_in (after hs (cond b (Saving x) (Passing x))) ≡ happened_in hs ++ x ∷ []
    by true = map-append (λ (h : Held). h.happened) (map (save_at (replica_of x.event)) hs) (record { happened = x; is_saved = true } ∷ [])
        ∙ ap (λ xs. xs ++ x ∷ []) (saving_keeps (replica_of x.event) hs)
    by false = map-append (λ (h : Held). h.happened) hs (record { happened = x; is_saved = false } ∷ [])

-- ---- an event with which its replica is not saved

not_sent : (answer : Answer) → goes_further answer ≡ false → answer ≢ Came Sent
not_sent answer none sent = clash (sym (ap goes_further sent) ∙ none)

or_none : (a b : Bool) → (a || b) ≡ false → (a ≡ false) × (b ≡ false)
or_none true b none = absurd (clash none)
or_none false b none = (refl, none)

none_sent : (n : ℕ) → not (n == 0) ≡ false → n ≡ 0
none_sent n none = grind (arith, nat_tests)

pub passes : (x : Happened) → is_saved_with x ≡ false → (x.sent ≡ 0) × (x.answer ≢ Came Sent)
passes x none =
    let both = or_none (not (x.sent == 0)) (goes_further x.answer) (or_none (not (may_be_lost x.event)) _ none).1 in
    (none_sent x.sent both.0, not_sent x.answer both.1)

pub none_out : {X : Type 0} (xs : List X) → length xs ≡ 0 → xs ≡ []
none_out [] e = refl
none_out (x ∷ xs) e = absurd cc

-- ---- what is held, by how often replicas were saved

pub happened_held : (saves : ℕ → ℕ) (rows : List (Happened × ℕ)) → happened_in (held_in saves rows) ≡ map (λ a. a.0) rows
happened_held saves [] = refl
happened_held saves (a ∷ rest) = ap (λ hs. a.0 ∷ hs) (happened_held saves rest)

pub held_same : (saves now : ℕ → ℕ) → ((n : ℕ) → now n ≡ saves n) → (rows : List (Happened × ℕ)) → held_in now rows ≡ held_in saves rows
held_same saves now same [] = refl
held_same saves now same (a ∷ rest) = λ i. record { happened = a.0; is_saved = nat_lt a.1 (same (replica_of a.0.event) i) } ∷ held_same saves now same rest i

before_same : (saves now : ℕ → ℕ) → ((n : ℕ) → saves n ≤ now n) → (rows : List (Happened × ℕ)) → AreBefore saves rows → AreBefore now rows
before_same saves now more [] before = tt
before_same saves now more (a ∷ rest) (first, before) = (omega (arith, first, more (replica_of a.0.event)), before_same saves now more rest before)

before_on : (saves : ℕ → ℕ) (rows : List (Happened × ℕ)) (a : Happened × ℕ) → AreBefore saves rows
    → saves_at a.0.event a.1 ≤ saves (replica_of a.0.event)
    → AreBefore saves (rows ++ a ∷ [])
before_on saves [] a before last = (last, tt)
before_on saves (b ∷ rest) a (first, before) last = (first, before_on saves rest a before last)

before_filter : (saves : ℕ → ℕ) (p : Happened × ℕ → Bool) (rows : List (Happened × ℕ)) → AreBefore saves rows → AreBefore saves (filter p rows)
before_filter saves p [] before = tt
before_filter saves p (a ∷ rest) (first, before) = by (p a) (before_filter saves p rest before)
  where
    by : (b : Bool) → AreBefore saves (filter p rest) → AreBefore saves (cond b (a ∷ filter p rest) (filter p rest))
    by true all = (first, all)
    by false all = all

plain : (e : Event) (k : ℕ) → k ≤ saves_at e k
plain (Node name) k = omega arith
plain (At name c) k = omega arith
plain (Deliver number name) k = omega arith

next : (e : Event) (k : ℕ) → saves_at e k ≤ k + 1
next (Node name) k = omega arith
next (At name c) k = omega arith
next (Deliver number name) k = omega arith

or_true : (b : Bool) → (b || true) ≡ true
or_true true = refl
or_true false = refl

or_false : (b : Bool) → (b || false) ≡ b
or_false true = refl
or_false false = refl

less_next : (k n : ℕ) → k ≤ n → nat_lt k (n + 1) ≡ true
less_next k n is = grind (arith, nat_tests)

-- whether it stays where the replica of this name crashes, which was saved so often
abbrev pub stays : (ℕ → ℕ) → ℕ → Happened × ℕ → Bool
stays saves name a = not (is_act name a.0.event && not (nat_lt a.1 (saves name)))

-- where a replica was saved once more
module _ (saves now : ℕ → ℕ) (name : ℕ) (once : (n : ℕ) → now n ≡ cond (n == name) (saves n + 1) (saves n)) where
  more : (n : ℕ) → saves n ≤ now n
  more n = by (n == name) (once n)
    where
      by : (b : Bool) → now n ≡ cond b (saves n + 1) (saves n) → saves n ≤ now n
      by true is = omega (arith, is)
      by false is = omega (arith, is)

  here : now name ≡ saves name + 1
  here = let itself : (name == name) ≡ true = grind (arith, nat_tests) in once name ∙ ap (λ b. cond b (saves name + 1) (saves name)) itself

  flag : (m k : ℕ) → k ≤ saves m → (b : Bool) → (m == name) ≡ b → nat_lt k (now m) ≡ (nat_lt k (saves m) || b)
  flag m k less true is = ap (nat_lt k) (once m ∙ ap (λ b. cond b (saves m + 1) (saves m)) is) ∙ less_next k (saves m) less ∙ sym (or_true (nat_lt k (saves m)))
  flag m k less false is = ap (nat_lt k) (once m ∙ ap (λ b. cond b (saves m + 1) (saves m)) is) ∙ sym (or_false (nat_lt k (saves m)))

  pub held_saved : (rows : List (Happened × ℕ)) → AreBefore saves rows → held_in now rows ≡ map (save_at name) (held_in saves rows)
  held_saved [] before = refl
  held_saved (a ∷ rest) (first, before) =
      let least = plain a.0.event a.1 in
      let less : a.1 ≤ saves (replica_of a.0.event) = omega (arith, first, least) in
      λ i. record { happened = a.0; is_saved = flag (replica_of a.0.event) a.1 less (replica_of a.0.event == name) refl i } ∷ held_saved rest before i

  -- ---- and what it did before is lost
  left_bool : (s b : Bool) → not (b && not s) ≡ (s || not b)
  left_bool true true = refl
  left_bool true false = refl
  left_bool false true = refl
  left_bool false false = refl

  act_of : (e : Event) → is_act name e ≡ true → replica_of e ≡ name
  act_of (Node n) is = absurd (clash (sym is))
  act_of (At n c) is = grind (arith, nat_tests)
  act_of (Deliver number n) is = grind (arith, nat_tests)

  is_left_by : (a : Happened × ℕ) (b : Bool) → is_act name a.0.event ≡ b → stays saves name a ≡ is_left name (held_by saves a)
  is_left_by a true is = left_bool (nat_lt a.1 (saves name)) (is_act name a.0.event) ∙ ap (λ m. nat_lt a.1 (saves m) || not (is_act name a.0.event)) (sym (act_of a.0.event is))
  is_left_by a false is =
      ap (λ b. not (b && not (nat_lt a.1 (saves name)))) is ∙ sym (or_true (nat_lt a.1 (saves (replica_of a.0.event))))
      ∙ ap (λ b. nat_lt a.1 (saves (replica_of a.0.event)) || not b) (sym is)

  not_not : (b : Bool) → not (true && not b) ≡ true → b ≡ true
  not_not true e = refl
  not_not false e = e

  -- an act of the replica that stays is told to be saved as before
  act_stays : (n k : ℕ) → k ≤ saves n → not ((n == name) && not (nat_lt k (saves name))) ≡ true → (n == name) ≡ true
      → nat_lt k (now n) ≡ nat_lt k (saves n)
  act_stays n k before left is =
      let named : n ≡ name = grind (arith, nat_tests) in
      let told : (not (true && not (nat_lt k (saves name)))) ≡ true = ap (λ b. not (b && not (nat_lt k (saves name)))) (sym is) ∙ left in
      flag n k before true is ∙ or_true (nat_lt k (saves n)) ∙ sym (ap (λ m. nat_lt k (saves m)) named ∙ not_not (nat_lt k (saves name)) told)

  -- one that stays is told to be saved as before
  one_stays : (e : Event) (k : ℕ) → saves_at e k ≤ saves (replica_of e) → not (is_act name e && not (nat_lt k (saves name))) ≡ true
      → (b : Bool) → (replica_of e == name) ≡ b
      → nat_lt k (now (replica_of e)) ≡ nat_lt k (saves (replica_of e))
  one_stays e k before left false is = flag (replica_of e) k (let least = plain e k in omega (arith, before, least)) false is
      ∙ or_false (nat_lt k (saves (replica_of e)))
  one_stays (Node n) k before left true is =
      let less : nat_lt k (saves n) ≡ true = grind (arith, nat_tests) in
      let least : k ≤ saves n = omega (arith, before) in
      flag n k least true is ∙ or_true (nat_lt k (saves n)) ∙ sym less
  one_stays (At n c) k before left true is = act_stays n k before left is
  one_stays (Deliver number n) k before left true is = act_stays n k before left is

  pub held_left : (rows : List (Happened × ℕ)) → AreBefore saves rows → held_in now (filter (stays saves name) rows) ≡ filter (is_left name) (held_in saves rows)
  held_left [] before = refl
  held_left (a ∷ rest) (first, before) =
      by (stays saves name a) refl (held_left rest before)
      ∙ ap (λ b. cond b (held_by saves a ∷ filter (is_left name) (held_in saves rest)) (filter (is_left name) (held_in saves rest)))
      (is_left_by a (is_act name a.0.event) refl)
    where
      by : (b : Bool) → stays saves name a ≡ b → held_in now (filter (stays saves name) rest) ≡ filter (is_left name) (held_in saves rest)
          → held_in now (cond b (a ∷ filter (stays saves name) rest) (filter (stays saves name) rest))
          ≡ cond b (held_by saves a ∷ filter (is_left name) (held_in saves rest)) (filter (is_left name) (held_in saves rest))
      by true is same = λ i. record { happened = a.0; is_saved = one_stays a.0.event a.1 first is (replica_of a.0.event == name) refl i } ∷ same i
      by false is same = same

-- ---- what is kept

module _ (hash_of : List ℕ → ℕ) where
  -- before anything happened
  pub kept_begins : (back : ℕ → Option Replica) → ((n : ℕ) → back n ≡ None) → (saves : ℕ → ℕ) → IsKept hash_of saves back []
  kept_begins back none saves = record {
    occurred = [];
    system = started;
    goes = refl;
    holds = refl;
    saved = λ n r is. absurd (none_some r (sym (none n) ∙ is));
    clean = λ n is. refl;
    before = tt;
  }

  module _ (saves : ℕ → ℕ) (back : ℕ → Option Replica) (accepted : List (Happened × ℕ)) (is : IsKept hash_of saves back accepted) where
    s : System
    s = is.system

    -- the world shows the system
    pub shown : (w : World) → Runs hash_of nothing (events_of (held_in saves accepted)) w → Shows w is.system
    shown w runs =
        let after_all = take_back hash_of is.occurred is.system is.goes in
        let same : survivors is.occurred ≡ happened_in (held_in saves accepted) = sym (held_survives is.occurred) ∙ ap happened_in (sym is.holds) in
        subst (λ u. Shows u is.system) (worlds_one hash_of (events_of (held_in saves accepted)) after_all.0 w
        (subst (λ hs. Runs hash_of nothing (events_in hs) after_all.0) same (leads_run hash_of (survivors is.occurred) nothing after_all.0 after_all.1)) runs)
        after_all.2

    -- it is kept now what some are to come back from
    pub noted : (now : ℕ → ℕ) (later : ℕ → Option Replica) (w : World) → Shows w is.system → ((n : ℕ) → now n ≡ saves n)
        → ((n : ℕ) → (later n ≡ back n) ⊎ ((back n ≡ None) × (later n ≡ Some (restarts (w.replica n))))) → IsKept hash_of now later accepted
    noted now later w shows same notes = record {
      occurred = is.occurred;
      system = is.system;
      goes = is.goes;
      holds = held_same saves now same accepted ∙ is.holds;
      saved = λ n r found. saved_by n r found (notes n);
      clean = λ n none. clean_by n none (notes n);
      before = before_same saves now (λ n. let e = same n in omega (arith, e)) accepted is.before;
    }
      where
        saved_by : (n : ℕ) (r : Replica) → later n ≡ Some r → (later n ≡ back n) ⊎ ((back n ≡ None) × (later n ≡ Some (restarts (w.replica n))))
            → r ≡ restarts (is.system.saved n)
        saved_by n r found (inl stayed) = is.saved n r (sym stayed ∙ found)
        saved_by n r found (inr (none, some)) = same_Some _ _ (sym found ∙ some) ∙ ap restarts (shows.replica n ∙ sym (is.clean n none))

        clean_by : (n : ℕ) → later n ≡ None → (later n ≡ back n) ⊎ ((back n ≡ None) × (later n ≡ Some (restarts (w.replica n))))
            → is.system.saved n ≡ is.system.replica n
        clean_by n none (inl stayed) = is.clean n (sym stayed ∙ none)
        clean_by n none (inr (before, some)) = absurd (none_some _ (sym none ∙ some))

    -- a replica is saved, or comes back; and its system is this
    module _ (now : ℕ → ℕ) (later : ℕ → Option Replica) (name : ℕ)
        (once : (n : ℕ) → (now n ≡ cond (n == name) (saves n + 1) (saves n)) × (later n ≡ cond (n == name) None (back n))) where
      by_saves : (n : ℕ) → now n ≡ cond (n == name) (saves n + 1) (saves n)
      by_saves n = (once n).0

      saved_now : (t : System) (new : Replica) → ((n : ℕ) → t.saved n ≡ cond (n == name) new (is.system.saved n)) → (n : ℕ) (r : Replica) → later n ≡ Some r
          → r ≡ restarts (t.saved n)
      saved_now t new saved n r found = by (n == name) ((once n).1) (saved n)
        where
          by : (b : Bool) → later n ≡ cond b None (back n) → t.saved n ≡ cond b new (is.system.saved n) → r ≡ restarts (t.saved n)
          by true none at = absurd (none_some r (sym none ∙ found))
          by false stayed at = is.saved n r (sym stayed ∙ found) ∙ ap restarts (sym at)

      clean_now : (t : System) (new : Replica) → ((n : ℕ) → t.saved n ≡ cond (n == name) new (is.system.saved n))
          → ((n : ℕ) → t.replica n ≡ cond (n == name) new (is.system.replica n))
          → (n : ℕ) → later n ≡ None → t.saved n ≡ t.replica n
      clean_now t new saved replica n none = by (n == name) ((once n).1) (saved n) (replica n)
        where
          by : (b : Bool) → later n ≡ cond b None (back n) → t.saved n ≡ cond b new (is.system.saved n) → t.replica n ≡ cond b new (is.system.replica n)
              → t.saved n ≡ t.replica n
          by true gone at there = at ∙ sym there
          by false stayed at there = at ∙ is.clean n (sym stayed ∙ none) ∙ sym there

      -- with an event
      pub held_saving : (x : Happened) → replica_of x.event ≡ name → held_in now (accepted ++ (x, saves name) ∷ []) ≡ after (held_in saves accepted) (Saving x)
      held_saving x named =
          map-append (held_by now) accepted ((x, saves name) ∷ [])
          ∙ (λ i. held_saved saves now name by_saves accepted is.before i ++ record { happened = x; is_saved = last_flag i } ∷ [])
          ∙ ap (λ n. map (save_at n) (held_in saves accepted) ++ record { happened = x; is_saved = true } ∷ []) (sym named)
        where
          last_flag : nat_lt (saves name) (now (replica_of x.event)) ≡ true
          last_flag = ap (λ m. nat_lt (saves name) (now m)) named ∙ ap (nat_lt (saves name)) (here saves now name by_saves)
              ∙ less_next (saves name) (saves name) (omega arith)

      pub kept_saving : (x : Happened) (v : World) → replica_of x.event ≡ name → (did : Did hash_of is.system x.event x.answer v) → length did.out ≡ x.sent
          → IsKept hash_of now later (accepted ++ (x, saves name) ∷ [])
      kept_saving x v named did counted =
          let t : System = record (crashing.goes hash_of is.system x.event did.new did.out) { saved = put is.system.saved (replica_of x.event) did.new } in
          let last : saves_at x.event (saves name) ≤ now (replica_of x.event) = let bound = next x.event (saves name) in let least =
          here saves now name by_saves in let at = ap now named in omega (arith, bound, least, at) in
          record {
            occurred = is.occurred ++ Saving x ∷ [];
            system = t;
            goes = goes_more hash_of started is.occurred is.system (Saving x) t is.goes (did.new, did.out, did.does, counted, refl);
            holds = held_saving x named ∙ ap (λ hs. after hs (Saving x)) is.holds ∙ sym (held_more [] is.occurred (Saving x));
            saved = saved_now t did.new (λ n. ap (λ m. cond (n == m) did.new (is.system.saved n)) named);
            clean = clean_now t did.new (λ n. ap (λ m. cond (n == m) did.new (is.system.saved n)) named)
                (λ n. ap (λ m. cond (n == m) did.new (is.system.replica n)) named);
            before = before_on now accepted (x, saves name) (before_same saves now (more saves now name by_saves) accepted is.before) last;
          }

      -- by itself
      pub kept_saved : IsKept hash_of now later accepted
      kept_saved =
          let t : System = record is.system { saved = put is.system.saved name (is.system.replica name) } in
          record {
            occurred = is.occurred ++ Saves name ∷ [];
            system = t;
            goes = goes_more hash_of started is.occurred is.system (Saves name) t is.goes refl;
            holds = held_saved saves now name by_saves accepted is.before ∙ ap (map (save_at name)) is.holds ∙ sym (held_more [] is.occurred (Saves name));
            saved = saved_now t (is.system.replica name) (λ n. refl);
            clean = clean_now t (is.system.replica name) (λ n. refl) (λ n. itself n (n == name) refl);
            before = before_same saves now (more saves now name by_saves) accepted is.before;
          }
        where
          itself : (n : ℕ) (b : Bool) → (n == name) ≡ b → is.system.replica n ≡ cond b (is.system.replica name) (is.system.replica n)
          itself n true eqn = let named : n ≡ name = grind (arith, nat_tests) in ap is.system.replica named
          itself n false eqn = refl

      pub held_saves : held_in now accepted ≡ after (held_in saves accepted) (Saves name)
      held_saves = held_saved saves now name by_saves accepted is.before

      -- ---- it crashes, and comes back
      back_again : System
      back_again = record is.system {
        replica = put is.system.replica name (restarts (is.system.saved name));
        saved = put is.system.saved name (restarts (is.system.saved name));
      }

      pub held_crashes : held_in now (filter (stays saves name) accepted ++ (restarted name, saves name) ∷ []) ≡ after (held_in saves accepted) (Crashes name)
      held_crashes =
          map-append (held_by now) (filter (stays saves name) accepted) ((restarted name, saves name) ∷ [])
          ∙ (λ i. held_left saves now name by_saves accepted is.before i ++ record { happened = restarted name; is_saved = last_flag i } ∷ [])
        where
          last_flag : nat_lt (saves name) (now name) ≡ true
          last_flag = ap (nat_lt (saves name)) (here saves now name by_saves) ∙ less_next (saves name) (saves name) (omega arith)

      module _ (there : is_among is.system.nodes name ≡ true) where
        goes_back : Goes hash_of started (is.occurred ++ Crashes name ∷ []) back_again
        unfolding back_again
        goes_back = goes_more hash_of started is.occurred is.system (Crashes name) back_again is.goes (there, refl)

        held_back : held_in now (filter (stays saves name) accepted ++ (restarted name, saves name) ∷ []) ≡ held_after (is.occurred ++ Crashes name ∷ [])
        held_back = held_crashes ∙ ap (λ hs. after hs (Crashes name)) is.holds ∙ sym (held_more [] is.occurred (Crashes name))

        pub kept_crashed : IsKept hash_of now later (filter (stays saves name) accepted ++ (restarted name, saves name) ∷ [])
        unfolding back_again
        kept_crashed = record {
          occurred = is.occurred ++ Crashes name ∷ [];
          system = back_again;
          goes = goes_back;
          holds = held_back;
          saved = saved_now back_again (restarts (is.system.saved name)) (λ n. refl);
          clean = clean_now back_again (restarts (is.system.saved name)) (λ n. refl) (λ n. refl);
          before = before_on now (filter (stays saves name) accepted) (restarted name, saves name)
              (before_filter now (stays saves name) accepted (before_same saves now (more saves now name by_saves) accepted is.before))
              (more saves now name by_saves name);
        }

        -- the world that it leads to is as before, but for this replica
        pub world_crashed : (w : World) → Shows w is.system → (u : World)
            × Leads hash_of nothing (happened_in (held_in now (filter (stays saves name) accepted ++ (restarted name, saves name) ∷ []))) u
            × (u.nodes ≡ w.nodes) × ((n : ℕ) → u.replica n ≡ cond (n == name) (restarts (is.system.saved name)) (w.replica n))
            × (map (λ (m : Message). m.mail) u.messages ≡ map (λ (m : Message). m.mail) w.messages)
        unfolding back_again
        world_crashed w shows =
            let after_all = take_back hash_of (is.occurred ++ Crashes name ∷ []) back_again goes_back in
            let all : List Occurrence = is.occurred ++ Crashes name ∷ [] in
            let same : survivors all ≡ happened_in (held_in now (filter (stays saves name) accepted ++ (restarted name, saves name) ∷ [])) =
            sym (held_survives all) ∙ ap happened_in (sym held_back) in
            let told = after_all.2 in (
              after_all.0,
              subst (λ hs. Leads hash_of nothing hs after_all.0) same after_all.1,
              told.nodes ∙ sym shows.nodes,
              (λ n. told.replica n ∙ ap (cond (n == name) (restarts (is.system.saved name))) (sym (shows.replica n))),
              told.messages ∙ sym shows.messages,
            )

    -- an event with which its replica is not saved
    no_node : (e : Event) (k : ℕ) → not (may_be_lost e) ≡ false → saves_at e k ≡ k
    no_node (Node name) k none = absurd (clash none)
    no_node (At name c) k none = refl
    no_node (Deliver number name) k none = refl

    pub held_passing : (x : Happened) → held_in saves (accepted ++ (x, saves (replica_of x.event)) ∷ []) ≡ after (held_in saves accepted) (Passing x)
    held_passing x = map-append (held_by saves) accepted ((x, saves (replica_of x.event)) ∷ [])
        ∙ (λ i. held_in saves accepted ++ record { happened = x; is_saved = last_flag i } ∷ [])
      where
        last_flag : nat_lt (saves (replica_of x.event)) (saves (replica_of x.event)) ≡ false
        last_flag = grind (arith, nat_tests)

    pub kept_passing : (x : Happened) (v : World) → is_saved_with x ≡ false → (did : Did hash_of is.system x.event x.answer v) → length did.out ≡ x.sent
        → (r : Replica) → back (replica_of x.event) ≡ Some r → IsKept hash_of saves back (accepted ++ (x, saves (replica_of x.event)) ∷ [])
    kept_passing x v none did counted r kept =
        let t : System = crashing.goes hash_of is.system x.event did.new [] in
        let both = passes x none in
        let does = subst (Does hash_of is.system x.event did.new x.answer) (none_out did.out (counted ∙ both.0)) did.does in
        record {
          occurred = is.occurred ++ Passing x ∷ [];
          system = t;
          goes = goes_more hash_of started is.occurred is.system (Passing x) t is.goes (did.new, does, both.0, both.1, refl);
          holds = held_passing x ∙ ap (λ hs. after hs (Passing x)) is.holds ∙ sym (held_more [] is.occurred (Passing x));
          saved = is.saved;
          clean = λ n gone. clean_by n gone (n == replica_of x.event) refl;
          before = before_on saves accepted (x, saves (replica_of x.event)) is.before
              (let same = no_node x.event (saves (replica_of x.event)) (or_none (not (may_be_lost x.event)) _ none).0 in omega (arith, same));
        }
      where
        clean_by : (n : ℕ) → back n ≡ None → (b : Bool) → (n == replica_of x.event) ≡ b → is.system.saved n ≡ cond b did.new (is.system.replica n)
        clean_by n gone true eqn = let named : n ≡ replica_of x.event = grind (arith, nat_tests) in absurd (none_some r (sym gone ∙ ap back named ∙ kept))
        clean_by n gone false eqn = is.clean n gone
