-- The live state of a replica only grows, and what is below it stays below it.
use Rattle.std.proofs.Common.{◌≡◌, inl, inr, ℕ, List, refl, sym, ap, ◌∙◌, subst, Option, Some, None}
use Rattle.op_model.specs.Meaning.{MapState, greater}
use Rattle.op_model.specs.State.{join}
use Rattle.op_model.proofs.Greater.{greater-comm, greater-idem, greater-assoc}
use Rattle.op_model.proofs.Joins.{join-comm, join-assoc, join-idem}
use Rattle.prefix_digest.specs.MapOf.{IsMapOf}
use Rattle.sync_model.specs.Closing.{held_state, IsBelow}
use Rattle.sync_model.specs.Differ.{Held}
use Rattle.replica_model.specs.Mail.{Mail}
use Rattle.replica_model.specs.Replica.{Replica, Open, open_numbered}
use Rattle.replica_model.specs.Delivery.{delivered}
use Rattle.replica_model.specs.Step.{Call, Put, Remove, RemoveField, Clear, Flush, Ask, Retry, Abandon, Restart, Answer, Abandons, IsCall}
use Rattle.replica_model.proofs.Rows.{each_row}
use Rattle.replica_model.proofs.States.{same_is, is_same}

one_order : (p q : MapState) → join greater p q ≡ join greater q p
one_order p q = same_is (join greater p q) (join greater q p) (join-comm greater greater-comm p q)

grouped : (p q r : MapState) → join greater (join greater p q) r ≡ join greater p (join greater q r)
grouped p q r = same_is (join greater (join greater p q) r) (join greater p (join greater q r)) (join-assoc greater greater-assoc p q r)

twice : (p : MapState) → join greater p p ≡ p
twice p = same_is (join greater p p) p (join-idem greater greater-idem p)

pub below_itself : (p : MapState) → IsBelow p p
below_itself p = join-idem greater greater-idem p

pub below_join : (p d : MapState) → IsBelow p (join greater p d)
below_join p d =
    let most = join greater p d in
    is_same (join greater most p) most (one_order most p ∙ sym (grouped p p d) ∙ ap (λ x. join greater x d) (twice p))

pub below_below : (p q r : MapState) → IsBelow p q → IsBelow q r → IsBelow p r
below_below p q r first second =
    let f : join greater q p ≡ q = same_is (join greater q p) q first in
    let g : join greater r q ≡ r = same_is (join greater r q) r second in
    is_same (join greater r p) r (ap (λ x. join greater x p) (sym g) ∙ grouped r q p ∙ ap (join greater r) f ∙ g)

-- a map that stands for a state is one with it
pub map_state : (m : Held) (p : MapState) → IsMapOf m p → held_state m p.has ≡ p
map_state m p is = same_is (held_state m p.has) p (record { at = λ place dot. is.at place dot; has = λ dot. refl })

pub map_below : (m : Held) (p : MapState) → IsMapOf m p → IsBelow (held_state m p.has) p
map_below m p is = subst (λ q. IsBelow q p) (sym (map_state m p is)) (below_itself p)

-- a delivery joins, or leaves the live state
pub delivery_grows : (hash_of : List ℕ → ℕ) (own : Held) (r : Replica) (mail : Mail) → IsBelow r.live (delivered hash_of own r mail).new.live
delivery_grows hash_of own r = each_row hash_of own r (λ mail t. IsBelow r.live t.new.live) (record {
  ignoring = λ mail other. below_itself r.live;
  mismatch = λ mail other. below_itself r.live;
  delta = λ d. below_join r.live d;
  told_again = λ s seen k e. below_itself r.live;
  kept = λ s seen here none. below_itself r.live;
  gone = λ s p. below_itself r.live;
  page = λ s p k page. below_itself r.live;
  opening_done = λ s c root o f there first took complete. below_join r.live (held_state f.built c);
  opening_sent = λ s c root o f there first took. below_itself r.live;
  page_done = λ s sent o a f there accepted took complete. below_join r.live (held_state f.built a.context);
  page_sent = λ s sent o a f there accepted took. below_itself r.live;
  ended = λ s o there. below_itself r.live;
})

-- so does a call
to_one : (old new r : Replica) → new ≡ r → IsBelow old.live r.live → IsBelow old.live new.live
to_one old new r e below = subst (λ (x : Replica). IsBelow old.live x.live) (sym e) below

abandon_grows : (old new : Replica) (o : Option Open) (answer : Answer) → Abandons old o new answer → IsBelow old.live new.live
abandon_grows old new None answer (n, a) = to_one old new _ n (below_itself old.live)
abandon_grows old new (Some o) answer (n, a) = to_one old new _ n (below_itself old.live)

pub call_grows : (old new : Replica) (c : Call) (answer : Answer) (out : List Mail) → IsCall old c new answer out → IsBelow old.live new.live
call_grows old new (Put place value) answer out (w, put, lt, n, a, o) = to_one old new _ n (below_join old.live _)
call_grows old new (Remove key) answer out (over, just, n, a, o) = to_one old new _ n (below_join old.live _)
call_grows old new (RemoveField place) answer out (over, just, n, a, o) = to_one old new _ n (below_join old.live _)
call_grows old new Clear answer out (over, just, n, a, o) = to_one old new _ n (below_join old.live _)
call_grows old new Flush answer out (a, inl (none, n, o)) = to_one old new _ n (below_itself old.live)
call_grows old new Flush answer out (a, inr (some, n, o)) = to_one old new _ n (below_itself old.live)
call_grows old new (Ask peer) answer out (own, is, few, left, n, a, o) = to_one old new _ n (below_itself old.live)
call_grows old new (Retry number) answer out (n, a, o) = to_one old new _ n (below_itself old.live)
call_grows old new (Abandon number) answer out (abandons, o) = abandon_grows old new (open_numbered old.sessions number) answer abandons
call_grows old new Restart answer out (n, a, o) = to_one old new _ n (below_itself old.live)
