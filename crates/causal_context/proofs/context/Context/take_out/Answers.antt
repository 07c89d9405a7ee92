use Rattle.std.proofs.Common.{◌+◌, ◌&&◌, not, ap, ◌∙◌}
use Rattle.dots.specs.Dot.{same_dot}
use Rattle.causal_context.specs.Context.{has}
use Rattle.causal_context.proofs.Taken.{added_taken}
use Rattle.causal_context.proofs.context.Context.take_out.Goals as goal

pub take_from-requires-clause-there : goal.take_from-requires-clause-there
unfolding has
take_from-requires-clause-there g c = ap (λ x. has x c.args.dot) c.self.view_is ∙ c.requires.there

pub take_from-requires-clause-last : goal.take_from-requires-clause-last
unfolding has
take_from-requires-clause-last g c = ap (λ x. has x (record { name = c.args.dot.name; number = c.args.dot.number + 1 })) c.self.view_is ∙ c.requires.last

pub returns-clause-taken : goal.returns-clause-taken
unfolding has
returns-clause-taken g c = λ d. c.take_from.ensures.taken d ∙ ap (λ x. has x d && not (same_dot c.args.dot d)) c.self.view_is

pub returns-clause-restored : goal.returns-clause-restored
returns-clause-restored g c = λ context canonical absent adds.
    added_taken context c.args.self.now (record { vector = c.take_from.new.vector; cloud = c.take_from.new.cloud })
    c.args.dot canonical c.take_from.ensures.canonical absent adds (returns-clause-taken g c)
