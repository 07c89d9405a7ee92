use Rattle.std.proofs.Common.{◌∙◌}
use Rattle.std.specs.Prelude.{IsTrue}
use Rattle.std.specs.FinMap as finite
use Rattle.live_map.specs.Index.{has_key}
use Rattle.trie_map.proofs.Visits.{visits_none, visits_more, visits_all}
use Rattle.live_map.proofs.Unchanged.{given_some}
use Rattle.live_map.proofs.closing.add_touched.Goals as goal

pub loop-key-init : goal.loop-key-init
loop-key-init g c =
    visits_none c.args.touched.now.map (g.H.PathHash.hash_of c.args.touched.now.hash) c.into_iter-key-iterator.result (λ q. IsTrue (has_key c.args.keys.now q))
    (c.into_iter-key-iterator.ensures.into_iter_gives ∙ c.iter-key-items.ensures)

pub loop-key-preserved : goal.loop-key-preserved
loop-key-preserved g c =
    visits_more c.args.touched.now.map c.loop-key.key-iterator c.next.new.self c.in-Some.key.now _
    (λ q. IsTrue (has_key c.loop-key.keys q)) (λ q. IsTrue (has_key c.add.new.self q)) c.loop-key.invariant c.in-Some.ensures.steps
    c.in_ok-add.ensures.there
    (λ q apart was. c.in_ok-add.ensures.kept q was)

pub returns-clause-there : goal.returns-clause-there
returns-clause-there g c = λ q h.
    given_some (finite.get c.args.touched.now.map q) h (λ v is. visits_all c.args.touched.now.map c.loop-key.key-iterator
    (λ k. IsTrue (has_key c.loop-key.keys k)) c.loop-key.invariant c.in-None.ensures.steps.0 q v is)
