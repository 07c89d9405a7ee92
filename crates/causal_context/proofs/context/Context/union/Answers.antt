use Rattle.std.proofs.Common.{◌≡◌, ◌||◌, sym, ap, ◌∙◌}
use Rattle.causal_context.specs.Context.{has, is_known, known_up_to, in_cloud}
use Rattle.ordered_list.specs.Items.{is_among}
use Rattle.causal_context.specs.Dots.{dot_cmp}
use Rattle.causal_context.proofs.Dots.{list_any-dot_cmp}
use Rattle.causal_context.proofs.Known.{known-union}
use Rattle.causal_context.proofs.context.Context.union.Goals as goal

pub returns-clause-ok : goal.returns-clause-ok
unfolding has
returns-clause-ok g c = λ d.
    let mine = known_up_to c.self.inside.vector in
    let yours = known_up_to c.other.inside.vector in
    let here = in_cloud c.self.inside.cloud in
    let there = in_cloud c.other.inside.cloud in
    let dots : in_cloud c.in_ok-dots.dots d ≡ (here d || there d) =
    sym (list_any-dot_cmp d c.in_ok-dots.dots) ∙ c.in_ok-dots.ensures.ok d
    ∙ ap (λ b. b || is_among dot_cmp c.other.inside.cloud d) (list_any-dot_cmp d c.self.inside.cloud)
    ∙ ap (λ b. here d || b) (list_any-dot_cmp d c.other.inside.cloud) in
    c.in_default.ensures.ok d ∙ ap (λ b. has c.in_ok-both.both d || b) dots ∙ ap (λ b. b || (here d || there d)) (c.in_ok-both.ensures.ok d)
    ∙ known-union mine yours here there c.self.invariant.apart c.other.invariant.apart d
    ∙ ap (λ x. has x d || is_known c.other.inside.vector c.other.inside.cloud d) c.self.view_is ∙ ap (λ x. has c.args.self.now d || has x d) c.other.view_is

pub returns-in-Err-clause-err : goal.returns-in-Err-clause-err
returns-in-Err-clause-err g c = c.in-Err.ensures.err
