-- What an own write and the flush of it come to.
use Rattle.std.proofs.Common.{◌≡◌, ◌⊎◌, inl, inr, ℕ, ◌≤◌, Bool, true, false, ◌||◌, Option, Some, None, List, [], ◌∷◌, ◌++◌, map, refl, sym, ap, subst, ◌∙◌}
use Rattle.std.proofs.Common.{arith}
use Rattle.causal_context.specs.Context.{HasNone}
use Rattle.causal_join.specs.OrMap.{OrMapValue, or_map_at, or_map_state, path_of}
use Rattle.dot_store.specs.Store.{HasNothing}
use Rattle.dots.specs.declared.dot.Dot.{Dot}
use Rattle.op_model.specs.Made.{erasure}
use Rattle.op_model.specs.Meaning.{MapState, greater, state}
use Rattle.op_model.specs.Operation.{Write, Wrote}
use Rattle.op_model.specs.State.{Same, join, joined}
use Rattle.op_model.proofs.Dots.{same_dot-self}
use Rattle.replica_model.specs.Mail.{Mail, Delta}
use Rattle.replica_model.specs.Replica.{Replica, makes, flushed, restarts}
use Rattle.replica_model.specs.Step.{Call, Put, Remove, RemoveField, Clear, Flush, Ask, Retry, Abandon, Restart, Do, Answer, Nothing, KnowsNone, Removes}
use Rattle.replica_model.specs.Step.{IsCall}
use Rattle.replica_model.proofs.States.{same_is}
use Rattle.replica_store.specs.Behind.{IsBehind}
use Rattle.replica_store.specs.Systems.{IsWrite}
use Rattle.replica_store.specs.Writes.{MakesAll}
use Rattle.replica_core.specs.Meaning.{ReplicaValue, meaning}
use Rattle.replica_core.specs.Stepping.{Steps}
use Rattle.op_model.proofs.Joins.{join-assoc}
use Rattle.op_model.proofs.Greater.{greater-assoc}
use Rattle.std.proofs.lemmas.Bool.{or_parts}

-- it made this, and where that knows no dot it is nothing
pub record Made (old new : Replica) : Type 0 where
  pub delta : MapState
  pub is : new ≡ makes old delta
  pub nothing : KnowsNone delta → delta ≡ state []

removal : (P : Dot → Type 0) (old new : Replica) (answer : Answer) (out : List Mail) → Removes P old new answer out → Made old new
removal P old new answer out h = record { delta = state (erasure h.0); is = h.2; nothing = none h.0 }
  where
    none : (over : List Dot) → KnowsNone (state (erasure over)) → state (erasure over) ≡ state []
    none [] knows = refl
    none (d ∷ ds) knows = absurd (let e = knows d in let f = same_dot-self d in cc)

put_made : (old new : Replica) (place : _) (value : List ℕ) (answer : Answer) → IsCall old (Put place value) new answer [] → Made old new
put_made old new place value answer h = record {
  delta = state (Wrote h.0 ∷ []);
  is = h.3;
  nothing = λ knows. absurd (let e = knows h.0.id in let f = same_dot-self h.0.id in cc);
}

remove_made : (old new : Replica) (key : List ℕ) (answer : Answer) → IsCall old (Remove key) new answer [] → Made old new
remove_made old new key answer h = removal _ old new answer [] h

remove_field_made : (old new : Replica) (place : _) (answer : Answer) → IsCall old (RemoveField place) new answer [] → Made old new
remove_field_made old new place answer h = removal _ old new answer [] h

clear_made : (old new : Replica) (answer : Answer) → IsCall old Clear new answer [] → Made old new
clear_made old new answer h = removal _ old new answer [] h

-- each of the calls that write
pub write_made : (old new : Replica) (call : Call) (answer : Answer) → IsWrite call → IsCall old call new answer [] → Made old new
write_made old new (Put place value) answer is h = put_made old new place value answer h
write_made old new (Remove key) answer is h = remove_made old new key answer h
write_made old new (RemoveField place) answer is h = remove_field_made old new place answer h
write_made old new Clear answer is h = clear_made old new answer h
write_made old new Flush answer is h = absurd is
write_made old new (Ask peer) answer is h = absurd is
write_made old new (Retry number) answer is h = absurd is
write_made old new (Abandon number) answer is h = absurd is
write_made old new Restart answer is h = absurd is

-- nothing joined into a state, and into nothing
pub join_none : (p : MapState) → join greater p (state []) ≡ p
join_none p = same_is (join greater p (state [])) p (record { at = λ place dot. by (p.at place dot) (p.has dot); has = λ dot. or_false (p.has dot) })
  where
    by : (o : Option (List ℕ)) (b : Bool) → joined greater o b None false ≡ o
    by None b = refl
    by (Some y) b = refl

    or_false : (b : Bool) → (b || false) ≡ b
    or_false true = refl
    or_false false = refl

pub none_join : (p : MapState) → join greater (state []) p ≡ p
none_join p = same_is (join greater (state []) p) p (record { at = λ place dot. by (p.at place dot) (p.has dot); has = λ dot. refl })
  where
    by : (o : Option (List ℕ)) (b : Bool) → joined greater None false o b ≡ o
    by None b = refl
    by (Some y) b = refl

grouped : (p q r : MapState) → join greater (join greater p q) r ≡ join greater p (join greater q r)
grouped p q r = same_is (join greater (join greater p q) r) (join greater p (join greater q r)) (join-assoc greater greater-assoc p q r)

pub behind : (old mid : Replica) → old.group ≡ state [] → Made old mid → IsBehind old mid
behind old mid sent made =
    let group : mid.group ≡ made.delta = ap (λ (r : Replica). r.group) made.is ∙ ap (λ g. join greater g made.delta) sent ∙ none_join made.delta in
    record {
      sent = sent;
      is = ap restarts made.is ∙ ap (λ d. restarts (makes old d)) (sym group);
      nothing = λ knows. group ∙ made.nothing (subst KnowsNone group knows);
    }

-- nothing was made since
pub behind_none : (r : Replica) → r.group ≡ state [] → IsBehind r r
behind_none r sent = record {
  sent = sent;
  is = λ i. restarts (record r {
    live = (sym (join_none r.live) ∙ ap (join greater r.live) (sym sent)) i;
    group = (sym (join_none r.group) ∙ ap (join greater r.group) (sym sent)) i;
  });
  nothing = λ knows. sent;
}

-- one write more
pub behind_more : (kept mid new : Replica) → IsBehind kept mid → Made mid new → IsBehind kept new
behind_more kept mid new behind made =
    let group : new.group ≡ join greater mid.group made.delta = ap (λ (r : Replica). r.group) made.is in
    let two : restarts (makes mid made.delta) ≡ restarts (makes (makes kept mid.group) made.delta) = ap (λ (r : Replica). makes r made.delta) behind.is in
    let one : restarts (makes (makes kept mid.group) made.delta) ≡ restarts (makes kept (join greater mid.group made.delta)) =
    λ i. restarts (record kept { live = grouped kept.live mid.group made.delta i; group = grouped kept.group mid.group made.delta i }) in
    record {
      sent = behind.sent;
      is = ap restarts made.is ∙ two ∙ one ∙ ap (λ d. restarts (makes kept d)) (sym group);
      nothing = λ knows.
          let both : KnowsNone (join greater mid.group made.delta) = subst KnowsNone group knows in
          let first : mid.group ≡ state [] = behind.nothing (λ dot. (or_parts _ _ (both dot)).0) in
          let second : made.delta ≡ state [] = made.nothing (λ dot. (or_parts _ _ (both dot)).1) in
          group ∙ (λ i. join greater (first i) (second i)) ∙ join_none (state []);
    }

-- the writes, one after the other
module _ {Hash W A : Type 0} (hash_of : Hash → List ℕ → ℕ) (call : W → Call) (answered : A → Answer) where
  pub all_more : (old mid new : ReplicaValue Hash) (calls : List Call) (answers : List Answer) (one : Call) (answer : Answer)
      → MakesAll hash_of old mid calls answers → Steps hash_of mid new (Do one) answer []
      → MakesAll hash_of old new (calls ++ one ∷ []) (answers ++ answer ∷ [])
  all_more old mid new [] [] one answer all step = (new, subst (λ m. Steps hash_of m new (Do one) answer []) all step, refl)
  all_more old mid new [] (a ∷ answers) one answer all step = absurd all
  all_more old mid new (c ∷ calls) [] one answer all step = absurd all
  all_more old mid new (c ∷ calls) (a ∷ answers) one answer all step = (all.0, all.1, all_more all.0 mid new calls answers one answer all.2 step)

  pub behind_all : ((write : W) → IsWrite (call write)) → (kept : Replica) (old new : ReplicaValue Hash) (writes : List W) (answers : List A)
      → IsBehind kept (meaning old)
      → MakesAll hash_of old new (map call writes) (map answered answers) → IsBehind kept (meaning new)
  behind_all are kept old new [] [] behind all = subst (λ r. IsBehind kept (meaning r)) (sym all) behind
  behind_all are kept old new [] (a ∷ answers) behind all = absurd all
  behind_all are kept old new (w ∷ writes) [] behind all = absurd all
  behind_all are kept old new (w ∷ writes) (a ∷ answers) behind all =
      behind_all are kept all.0 new writes answers (behind_more kept (meaning old) (meaning all.0) behind
      (write_made (meaning old) (meaning all.0) (call w) (answered a) (are w) all.1.step)) all.2

-- the flush sends the one delta, or there was none to send
pub flush_sends : (kept mid new : Replica) (answer : Answer) (out : List Mail) → IsBehind kept mid → IsCall mid Flush new answer out
    → ((out ≡ []) × (restarts new ≡ restarts kept)) ⊎ ((out ≡ Delta mid.group ∷ [])
    × (restarts new ≡ record (restarts kept) { live = join greater kept.live mid.group }))
flush_sends kept mid new answer out behind h = elim h.1 [
  | inl none ↦ (
      let group = behind.nothing none.0 in
      inl (
        none.2,
        ap restarts none.1 ∙ behind.is
            ∙ (λ i. restarts (record kept {
              live = (ap (join greater kept.live) group ∙ join_none kept.live) i;
              group = (ap (join greater kept.group) group ∙ join_none kept.group) i;
            })),
      ))
  | inr some ↦ inr (
    some.2,
    ap restarts some.1 ∙ (λ i. record (behind.is i) { group = state [] })
        ∙ (λ i. record (restarts kept) { live = join greater kept.live mid.group; group = sym behind.sent i }),
  )
]

-- a pair that holds nothing and knows no dot
pub nothing_in : (pair : OrMapValue) → HasNothing (or_map_at pair.0) → HasNone pair.1 → or_map_state pair ≡ state []
nothing_in pair nothing none = same_is (or_map_state pair) (state []) (record { at = λ place dot. nothing (path_of place) dot; has = λ dot. none dot })
