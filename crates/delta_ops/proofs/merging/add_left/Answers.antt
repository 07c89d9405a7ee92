use Rattle.std.proofs.Common.{None, cond, ap, subst, ◌∙◌}
use Rattle.std.specs.Option.{option_or}
use Rattle.std.proofs.lemmas.Result.{IfOk-weaker}
use Rattle.causal_context.specs.Context.{ContextValue, Includes, has}
use Rattle.causal_join.specs.OrMap.{or_map_at}
use Rattle.delta_ops.proofs.Merged.{nothing_left}
use Rattle.delta_ops.proofs.merging.add_left.Goals as goal

pub returns-then-includes-clause-ok : goal.returns-then-includes-clause-ok
returns-then-includes-clause-ok g c = λ _ place d.
    let all = subst (λ (more : ContextValue). Includes c.args.gone.now more) c.context.ensures.value (c.includes.ensures.0 c.if-includes.true) in
    nothing_left (has c.args.gone.now d) (has c.args.delta.now.1 d) (or_map_at c.args.stores.now.entries place d) (or_map_at c.args.delta.now.0 place d)
    (all d) (c.context.ensures.inside place d)

pub returns-clause-ok : goal.returns-clause-ok
returns-clause-ok g c =
    IfOk-weaker c.put_all.result _ _ (λ is put t place d. put t place d ∙ ap (λ came. option_or (or_map_at c.args.stores.now.entries place d) came)
    (ap (λ items. or_map_at items place d) c.into_entries.ensures.all ∙ c.in_ok-left.ensures.ok place d
    ∙ ap (λ held. cond (has c.args.gone.now d) None (or_map_at held place d)) c.store.ensures.value)) c.put_all.ensures.ok
