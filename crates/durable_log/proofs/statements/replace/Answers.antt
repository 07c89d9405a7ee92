use Rattle.std.proofs.Common.{ℕ, List, [], ◌∷◌, arith, w64, to_z, of_z, to_z-of_z, rules, Contains}
use Rattle.sqlite.specs.Held.{state}
use Rattle.sqlite.specs.State.{HasCleanDisk}
use Rattle.durable_log.specs.Log.{IsReady, IsAt}
use Rattle.op_model.proofs.Members.{at_head, in_tail}
use Rattle.durable_log.proofs.ReadLemmas.{ok_both}
use Rattle.durable_log.proofs.ReplaceLemmas.{replaced, first_of, next_of, last_of, Came, came_first, came_next, three_places}
use Rattle.durable_log.proofs.statements.replace.Goals as goal
use Rattle.durable_log.proofs.statements.replace.Given as given

abbrev in_a : (a b c : List ℕ) → Contains (a ∷ b ∷ c ∷ []) a
in_a a b c = at_head a (b ∷ c ∷ [])

abbrev in_b : (a b c : List ℕ) → Contains (a ∷ b ∷ c ∷ []) b
in_b a b c = in_tail a (b ∷ c ∷ []) b (at_head b (c ∷ []))

abbrev in_c : (a b c : List ℕ) → Contains (a ∷ b ∷ c ∷ []) c
in_c a b c = in_tail a (b ∷ c ∷ []) c (in_tail b (c ∷ []) c (at_head c []))

pub returns-in_err-a-clause-any_moment : goal.returns-in_err-a-clause-any_moment
returns-in_err-a-clause-any_moment g c =
    let x = c.args.first.now in
    let y = c.args.second.now in
    let z = c.args.third.now in
    first_of (state g.S.Store c.args.conn.now) (x ∷ y ∷ z ∷ []) (state g.S.Store c.insert.new.conn) x (in_a x y z) c.insert.ensures.any_moment

pub returns-in_err-b-clause-any_moment : goal.returns-in_err-b-clause-any_moment
returns-in_err-b-clause-any_moment g c =
    let x = c.args.first.now in
    let y = c.args.second.now in
    let z = c.args.third.now in
    let start = state g.S.Store c.args.conn.now in
    let one = state g.S.Store c.insert.new.conn in
    let two = state g.S.Store c.insert-2.new.conn in
    let news = x ∷ y ∷ z ∷ [] in
    let came_one = came_first start news one x (in_a x y z) c.insert.ensures.any_moment (λ clean. (c.in_ok-a.ensures.acknowledged clean).gains) in
    next_of start news one two y (in_b x y z) came_one.0 came_one.1 c.insert-2.ensures.any_moment

pub returns-in_err-c-clause-any_moment : goal.returns-in_err-c-clause-any_moment
returns-in_err-c-clause-any_moment g c =
    let x = c.args.first.now in
    let y = c.args.second.now in
    let z = c.args.third.now in
    let start = state g.S.Store c.args.conn.now in
    let one = state g.S.Store c.insert.new.conn in
    let two = state g.S.Store c.insert-2.new.conn in
    let three = state g.S.Store c.insert-3.new.conn in
    let news = x ∷ y ∷ z ∷ [] in
    let came_one = came_first start news one x (in_a x y z) c.insert.ensures.any_moment (λ clean. (c.in_ok-a.ensures.acknowledged clean).gains) in
    let came_two = came_next start news one two y (in_b x y z) came_one c.insert-2.ensures.any_moment (λ clean. (c.in_ok-b.ensures.acknowledged clean).gains) in
    next_of start news two three z (in_c x y z) came_two.0 came_two.1 c.insert-3.ensures.any_moment

-- what came by the three additions, and where it stands
abbrev news : (g : given.Over) (c : goal.After-delete_others g) → List (List ℕ)
news g c = c.args.first.now ∷ c.args.second.now ∷ c.args.third.now ∷ []

came : (g : given.Over) (c : goal.After-delete_others g) → Came (state g.S.Store c.args.conn.now) (news g c) (state g.S.Store c.insert-3.new.conn)
came g c =
    let x = c.args.first.now in
    let y = c.args.second.now in
    let z = c.args.third.now in
    let start = state g.S.Store c.args.conn.now in
    let one = state g.S.Store c.insert.new.conn in
    let two = state g.S.Store c.insert-2.new.conn in
    let came_one = came_first start (news g c) one x (in_a x y z) c.insert.ensures.any_moment (λ clean. (c.in_ok-a.ensures.acknowledged clean).gains) in
    let came_two = came_next start (news g c) one two y (in_b x y z) came_one c.insert-2.ensures.any_moment
    (λ clean. (c.in_ok-b.ensures.acknowledged clean).gains) in
    came_next start (news g c) two (state g.S.Store c.insert-3.new.conn) z (in_c x y z) came_two c.insert-3.ensures.any_moment
    (λ clean. (c.in_ok-c.ensures.acknowledged clean).gains)

stands : (g : given.Over) (c : goal.After-delete_others g) → HasCleanDisk (state g.S.Store c.insert-3.new.conn)
    → IsAt (state g.S.Store c.insert-3.new.conn).now.trees (to_z w64 (of_z w64 c.in_ok-a.a)) c.args.first.now
    × IsAt (state g.S.Store c.insert-3.new.conn).now.trees (to_z w64 (of_z w64 c.in_ok-b.b)) c.args.second.now
    × IsAt (state g.S.Store c.insert-3.new.conn).now.trees (to_z w64 (of_z w64 c.in_ok-c.c)) c.args.third.now
stands g c =
    three_places (state g.S.Store c.insert.new.conn) (state g.S.Store c.insert-2.new.conn) (state g.S.Store c.insert-3.new.conn)
    c.args.first.now c.args.second.now c.args.third.now
    c.in_ok-a.a c.in_ok-b.b c.in_ok-c.c (to_z w64 (of_z w64 c.in_ok-a.a)) (to_z w64 (of_z w64 c.in_ok-b.b)) (to_z w64 (of_z w64 c.in_ok-c.c))
    (search (rules, to_z-of_z)) (search (rules, to_z-of_z)) (search (rules, to_z-of_z)) (λ clean. omega (arith, c.insert-2.ensures.any_moment.clean))
    (λ clean. omega (arith, c.insert-3.ensures.any_moment.clean)) (λ clean. (c.in_ok-a.ensures.placed clean).0)
    c.in_ok-b.ensures.placed c.in_ok-c.ensures.placed

pub returns-clause-any_moment : goal.returns-clause-any_moment
returns-clause-any_moment g c =
    last_of (state g.S.Store c.args.conn.now) (state g.S.Store c.insert-3.new.conn) (state g.S.Store c.delete_others.new.conn)
    c.args.first.now c.args.second.now c.args.third.now
    (to_z w64 (of_z w64 c.in_ok-a.a)) (to_z w64 (of_z w64 c.in_ok-b.b)) (to_z w64 (of_z w64 c.in_ok-c.c)) (came g c).1 (stands g c)
    (came g c).0 c.delete_others.ensures.any_moment

pub returns-clause-replaced : goal.returns-clause-replaced
returns-clause-replaced g c clean =
    let last = state g.S.Store c.delete_others.new.conn in
    let was : HasCleanDisk (state g.S.Store c.insert-3.new.conn) = omega (arith, c.delete_others.ensures.any_moment.clean) in
    let there = stands g c was in
    ok_both (IsReady last) c.delete_others.result
    (λ leaves. replaced (state g.S.Store c.args.conn.now).now.trees (state g.S.Store c.insert-3.new.conn).now.trees last.now.trees c.args.first.now
    c.args.second.now c.args.third.now
    (to_z w64 (of_z w64 c.in_ok-a.a)) (to_z w64 (of_z w64 c.in_ok-b.b)) (to_z w64 (of_z w64 c.in_ok-c.c)) ((came g c).1 was) there.0 there.1 there.2 leaves)
    (c.delete_others.ensures.left clean)
