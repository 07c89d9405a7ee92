use Rattle.std.proofs.Common.{sym, ap, ◌∙◌}
use Rattle.std.specs.Option.{option_or}
use Rattle.std.proofs.lemmas.List.{nil_from_length}
use Rattle.causal_join.specs.OrMap.{or_map_at}
use Rattle.delta_ops.proofs.ByKeys.{came_all, came_more, none_from, put_at, put_more, put_none}
use Rattle.delta_ops.proofs.merging.put_all.Goals as goal

pub loop-key-init : goal.loop-key-init
loop-key-init g c = (c.into_iter-key-iterator.ensures.into_iter_gives.0, put_none c.args.stores.now.entries)

pub loop-key-preserved : goal.loop-key-preserved
loop-key-preserved g c = (
  came_more c.loop-key.yielded _ _ _ _ c.loop-key.invariant.0 c.in-Some.ensures.steps.0,
  put_more c.args.stores.now.entries c.loop-key.yielded c.loop-key.stores.entries c.insert.new.self.entries c.in-Some.key c.in-Some.fields
      c.in_ok-insert.ensures.updates.0
      (sym c.in_ok-insert.ensures.old ∙ none_from c.in_ok-insert.field-0 c.is_some.result c.is_some.ensures c.if-is_some.false) c.loop-key.invariant.1,
)

pub returns-clause-ok : goal.returns-clause-ok
returns-clause-ok g c = λ _ place d.
    put_at c.args.stores.now.entries c.loop-key.yielded c.loop-key.stores.entries c.loop-key.invariant.1 place d
    ∙ ap (λ came. option_or (or_map_at c.args.stores.now.entries place d) (or_map_at came place d))
    (came_all c.loop-key.yielded _ _ c.loop-key.invariant.0 (nil_from_length _ (sym c.loop-key.key-iterator.rest.ok.0 ∙ c.in-None.ensures.steps.0)))
