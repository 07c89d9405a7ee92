use Rattle.std.proofs.Common.{◌||◌, ◌∙◌, refl, sym}
use Rattle.std.proofs.Math.Bool.{or-false}
use Rattle.ordered_list.specs.Items.{is_among}
use Rattle.ordered_list.proofs.Items.{taken_more}
use Rattle.ordered_list.proofs.ordered_set.OrderedSet.union.Goals as goal

-- src/ordered_set.rt
pub loop-item-init : goal.loop-item-init
loop-item-init g c = λ q. rw (c.in_ok-both.ensures.ok, c.new-merge.ensures, c.items.ensures.all, c.items-2.ensures.all) refl

pub loop-item-preserved : goal.loop-item-preserved
loop-item-preserved g c =
    let among = is_among g.T.Ord.cmp in
    taken_more g.T.Ord.cmp g.met.T.Ord.total c.loop-item.both c.insert.new.self c.in-Some.item.now
    (λ q. among c.loop-item.merge.0 q || among c.loop-item.merge.1 q)
    (λ q. among c.next.new.self.0 q || among c.next.new.self.1 q) (λ q. among c.args.self.now q || among c.args.other.now q)
    c.loop-item.invariant c.in-Some.ensures.turn.others c.in_ok-insert.ensures.updates

pub returns-clause-ok : goal.returns-clause-ok
returns-clause-ok g c = λ q. sym (or-false (is_among g.T.Ord.cmp c.loop-item.both q)) ∙ rw c.in_default.ensures.end at (c.loop-item.invariant q)
