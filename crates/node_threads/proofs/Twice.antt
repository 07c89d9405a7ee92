-- What comes but once in a history.
use Rattle.std.proofs.Common.{◌≡◌, ℕ, zero, suc, ◌+◌, ◌<◌, ◌≤◌, Bool, ltb, List, [], ◌∷◌, true, false, ◌||◌, Option, Some, None, refl, sym, ap, ◌∙◌, subst}
use Rattle.std.proofs.Common.{arith}
use Rattle.std.specs.List.{slice_get}
use Rattle.std.proofs.Math.Bool.{or-true}
use Rattle.std.proofs.lemmas.Bool.Decides.{nat_tests}
use Rattle.dots.specs.declared.dot.Dot.{Dot}
use Rattle.dots.specs.Dot.{same_dot}
use Rattle.op_model.specs.Meaning.{MapState}
use Rattle.op_model.specs.Operation.{has}
use Rattle.op_model.proofs.Dots.{same_dot-self}
use Rattle.op_model.proofs.Making.{has-write}
use Rattle.sync_model.specs.Closing.{IsBelow}
use Rattle.replica_model.specs.History.{Entry, Runs}
use Rattle.replica_model.specs.Mail.{Mail}
use Rattle.replica_model.specs.Replica.{Replica, Open, open_numbered}
use Rattle.replica_model.specs.Step.{Act, Do, Take, Answer, Made, Numbered, Abandons, Put, Remove, RemoveField, Clear, Flush, Ask, Retry, Abandon, Restart}
use Rattle.replica_model.specs.Step.{IsStep}
use Rattle.replica_model.proofs.Asks.{delivery_opens, call_opens}
use Rattle.replica_model.proofs.Growing.{call_grows, delivery_grows}
use Rattle.node_threads.specs.Twice.{ComesOnce, DotsDiffer, NumbersDiffer}

empty_at : {X : Type 0} (i : ℕ) (x : X) → slice_get [] i ≡ Some x → ⊥
empty_at i x there = absurd cc

-- What is used by an answer of a kind, and stays used, comes but once.
module _ (hash_of : List ℕ → ℕ) {X : Type 0} (kind : X → Answer) (used : Replica → X → Type 0)
    (stays : (old new : Replica) (act : Act) (answer : Answer) (out : List Mail) (x : X) → IsStep hash_of old act new answer out → used old x → used new x)
    (begins : (old new : Replica) (act : Act) (out : List Mail) (x : X) → IsStep hash_of old act new (kind x) out → (used old x → ⊥) × used new x) where
  begun : (old new : Replica) (act : Act) (answer : Answer) (out : List Mail) (x : X) → IsStep hash_of old act new answer out → Some answer ≡ Some (kind x)
      → (used old x → ⊥) × used new x
  begun old new act answer out x step there = let same : answer ≡ kind x = cc in
      begins old new act out x (subst (λ a. IsStep hash_of old act new a out) same step)

  pub not_again : (r s : Replica) (es : List Entry) (answers : List Answer) → Runs hash_of r es answers s → (i : ℕ) (x : X)
      → slice_get answers i ≡ Some (kind x) → used r x → ⊥
  not_again r s [] answers (none, same) i x there was = empty_at i (kind x) (subst (λ l. slice_get l i ≡ Some (kind x)) none there)
  not_again r s (e ∷ es) answers (answer, more, a, (next, out, step, rest)) zero x there was =
      (begun r next e.act answer out x step (subst (λ l. slice_get l zero ≡ Some (kind x)) a there)).0 was
  not_again r s (e ∷ es) answers (answer, more, a, (next, out, step, rest)) (suc i) x there was =
      not_again next s es more rest i x (subst (λ l. slice_get l (suc i) ≡ Some (kind x)) a there) (stays r next e.act answer out x step was)

  pub comes_once : (r s : Replica) (es : List Entry) (answers : List Answer) → Runs hash_of r es answers s → ComesOnce kind answers
  comes_once r s [] answers (none, same) i j x h t = absurd (empty_at i (kind x) (subst (λ l. slice_get l i ≡ Some (kind x)) none h))
  comes_once r s (e ∷ es) answers (answer, more, a, (next, out, step, rest)) zero zero x h t = refl
  comes_once r s (e ∷ es) answers (answer, more, a, (next, out, step, rest)) zero (suc j) x h t =
      absurd (not_again next s es more rest j x (subst (λ l. slice_get l (suc j) ≡ Some (kind x)) a t)
      (begun r next e.act answer out x step (subst (λ l. slice_get l zero ≡ Some (kind x)) a h)).1)
  comes_once r s (e ∷ es) answers (answer, more, a, (next, out, step, rest)) (suc i) zero x h t =
      absurd (not_again next s es more rest i x (subst (λ l. slice_get l (suc i) ≡ Some (kind x)) a h)
      (begun r next e.act answer out x step (subst (λ l. slice_get l zero ≡ Some (kind x)) a t)).1)
  comes_once r s (e ∷ es) answers (answer, more, a, (next, out, step, rest)) (suc i) (suc j) x h t =
      ap suc (comes_once next s es more rest i j x (subst (λ l. slice_get l (suc i) ≡ Some (kind x)) a h)
      (subst (λ l. slice_get l (suc j) ≡ Some (kind x)) a t))

-- ---- dots: a dot is used where it is known

still_known : (p q : MapState) (dot : Dot) → IsBelow p q → p.has dot ≡ true → q.has dot ≡ true
still_known p q dot below known = sym (below.has dot) ∙ (ap (λ b. q.has dot || b) known ∙ or-true (q.has dot))

module _ (hash_of : List ℕ → ℕ) where
  step_grows : (old new : Replica) (act : Act) (answer : Answer) (out : List Mail) → IsStep hash_of old act new answer out → IsBelow old.live new.live
  step_grows old new (Do call) answer out step = call_grows old new call answer out step
  step_grows old new (Take mail) answer out (outcome, a, (own, map, is)) = subst (λ t. IsBelow old.live t.new.live) is (delivery_grows hash_of own old mail)

  abbrev knows : Replica → Dot → Type 0
  knows r dot = r.live.has dot ≡ true

  dot_stays : (old new : Replica) (act : Act) (answer : Answer) (out : List Mail) (dot : Dot) → IsStep hash_of old act new answer out → knows old dot
      → knows new dot
  dot_stays old new act answer out dot step was = still_known old.live new.live dot (step_grows old new act answer out step) was

  no_dot_abandoned : (old new : Replica) (o : Option Open) (dot : Dot) → Abandons old o new (Made dot) → ⊥
  no_dot_abandoned old new None dot (n, a) = absurd cc
  no_dot_abandoned old new (Some o) dot (n, a) = absurd cc

  dot_begins : (old new : Replica) (act : Act) (out : List Mail) (dot : Dot) → IsStep hash_of old act new (Made dot) out → (knows old dot → ⊥) × knows new dot
  dot_begins old new (Do (Put place value)) out dot (w, put, lt, n, a, o) =
      let same : dot ≡ w.id = cc in (
        (λ was. let below = put.id.above w.id put.id.named (ap old.live.has (sym same) ∙ was) in absurd (omega (arith, below))),
        subst (λ (r : Replica). r.live.has dot ≡ true) (sym n)
            (ap (λ b. old.live.has dot || b) (has-write w dot ∙ ap (λ d. same_dot w.id d || has w.over dot) same
            ∙ ap (λ b. b || has w.over dot) (same_dot-self w.id)) ∙ or-true (old.live.has dot)),
      )
  dot_begins old new (Do (Remove key)) out dot (over, just, n, (k, counts, a), o) = absurd cc
  dot_begins old new (Do (RemoveField place)) out dot (over, just, n, (k, counts, a), o) = absurd cc
  dot_begins old new (Do Clear) out dot (over, just, n, (k, counts, a), o) = absurd cc
  dot_begins old new (Do Flush) out dot (a, sent) = absurd cc
  dot_begins old new (Do (Ask peer)) out dot (own, is, few, left, n, a, o) = absurd cc
  dot_begins old new (Do (Retry number)) out dot (n, a, o) = absurd cc
  dot_begins old new (Do (Abandon number)) out dot (abandons, o) = absurd (no_dot_abandoned old new (open_numbered old.sessions number) dot abandons)
  dot_begins old new (Do Restart) out dot (n, a, o) = absurd cc
  dot_begins old new (Take mail) out dot (outcome, a, is) = absurd cc

  -- ---- numbers: a number is used where it is not above that of the last own synchronisation

  opened_is : (old new r : Replica) (n : ℕ) → new ≡ r → n ≤ r.opened → n ≤ new.opened
  opened_is old new r n e le = subst (λ (x : Replica). n ≤ x.opened) (sym e) le

  abbrev is_used : Replica → ℕ → Type 0
  is_used r n = n ≤ r.opened

  number_stays : (old new : Replica) (act : Act) (answer : Answer) (out : List Mail) (n : ℕ) → IsStep hash_of old act new answer out → is_used old n
      → is_used new n
  number_stays old new (Do call) answer out n step le = let few = call_opens old new call answer out step in omega (arith, few, le)
  number_stays old new (Take mail) answer out n (outcome, a, (own, map, is)) le =
      subst (λ t. n ≤ t.new.opened) is (let few = delivery_opens hash_of own old mail in omega (arith, few, le))

  no_number_abandoned : (old new : Replica) (o : Option Open) (n : ℕ) → Abandons old o new (Numbered n) → ⊥
  no_number_abandoned old new None n (e, a) = absurd cc
  no_number_abandoned old new (Some o) n (e, a) = absurd cc

  number_begins : (old new : Replica) (act : Act) (out : List Mail) (n : ℕ) → IsStep hash_of old act new (Numbered n) out → (is_used old n → ⊥) × is_used new n
  number_begins old new (Do (Put place value)) out n (w, put, lt, e, a, o) = absurd cc
  number_begins old new (Do (Remove key)) out n (over, just, e, (k, counts, a), o) = absurd cc
  number_begins old new (Do (RemoveField place)) out n (over, just, e, (k, counts, a), o) = absurd cc
  number_begins old new (Do Clear) out n (over, just, e, (k, counts, a), o) = absurd cc
  number_begins old new (Do Flush) out n (a, sent) = absurd cc
  number_begins old new (Do (Ask peer)) out n (own, is, few, left, e, a, o) =
      let same : n ≡ old.opened + 1 = cc in
      ((λ was. absurd (omega (arith, same, was))), opened_is old new _ n e (omega (arith, same)))
  number_begins old new (Do (Retry number)) out n (e, a, o) = absurd cc
  number_begins old new (Do (Abandon number)) out n (abandons, o) = absurd (no_number_abandoned old new (open_numbered old.sessions number) n abandons)
  number_begins old new (Do Restart) out n (e, a, o) = absurd cc
  number_begins old new (Take mail) out n (outcome, a, is) = absurd cc

-- a dot that was known at first is not made, and a number that was used at first is not given
unknown_at_first : (hash_of : List ℕ → ℕ) (first r : Replica) (es : List Entry) (answers : List Answer) → Runs hash_of first es answers r
    → (i : ℕ) (dot : Dot) → slice_get answers i ≡ Some (Made dot) → first.live.has dot ≡ false
unknown_at_first hash_of first r es answers runs i dot there = go (first.live.has dot) refl
  where
    go : (b : Bool) → first.live.has dot ≡ b → b ≡ false
    go true known = absurd (not_again hash_of Made (knows hash_of) (dot_stays hash_of) (dot_begins hash_of) first r es answers runs i dot there known)
    go false unknown = refl

unused_at_first : (hash_of : List ℕ → ℕ) (first r : Replica) (es : List Entry) (answers : List Answer) → Runs hash_of first es answers r
    → (i n : ℕ) → slice_get answers i ≡ Some (Numbered n) → first.opened < n
unused_at_first hash_of first r es answers runs i n there = go (ltb first.opened n) refl
  where
    go : (b : Bool) → ltb first.opened n ≡ b → first.opened < n
    go true less = grind (arith, nat_tests)
    go false isnt =
        let used : n ≤ first.opened = grind (arith, nat_tests) in
        absurd (not_again hash_of Numbered (is_used hash_of) (number_stays hash_of) (number_begins hash_of) first r es answers runs i n there used)

pub dots_differ : DotsDiffer
dots_differ hash_of first history answers r runs = (
  comes_once hash_of Made (knows hash_of) (dot_stays hash_of) (dot_begins hash_of) first r history answers runs,
  unknown_at_first hash_of first r history answers runs,
)

pub numbers_differ : NumbersDiffer
numbers_differ hash_of first history answers r runs = (
  comes_once hash_of Numbered (is_used hash_of) (number_stays hash_of) (number_begins hash_of) first r history answers runs,
  unused_at_first hash_of first r history answers runs,
)
