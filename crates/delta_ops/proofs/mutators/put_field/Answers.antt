use Rattle.std.proofs.Common.{◌≡◌, ◌∙◌, ap, ◌||◌, refl, subst, sym, Err}
use Rattle.std.proofs.lemmas.Result.{err_from_is_err_and}
use Rattle.std.specs.Option.{ok_or}
use Rattle.causal_context.specs.Context.{has, IsGreatest}
use Rattle.dots.specs.declared.refusal.Refusal.TheVariants.{NumbersSpent}
use Rattle.dots.specs.Dot.{same_dot}
use Rattle.op_model.specs.Place.{place_of}
use Rattle.delta_ops.proofs.Puts.{IsDelta, delta_inside, delta_state, put_at_pair, write_of}
use Rattle.delta_ops.proofs.Stores.{there_from}
use Rattle.delta_ops.specs.LiveMap.{as_or_map}
use Rattle.delta_ops.proofs.AsOrMap.{inside_as}
use Rattle.delta_ops.proofs.mutators.put_field.Goals as goal

pub unwrap-requires : goal.unwrap-requires
unwrap-requires g c =
    let delta : IsDelta (as_or_map c.args.live.now.0) (place_of c.args.key.now c.args.field.now)
    c.args.value.now c.in_ok-dot.dot c.in-Ok.store c.add.new.self = record {
      held = c.in-Ok.ensures.ok;
      known = λ d. c.in_default.ensures.ok d ∙ ap (λ b. same_dot c.in_ok-dot.dot d || b) (c.in_ok-context.ensures.ok d);
    } in
    there_from c.from_parts.result c.from_parts.ensures.outside.0 (delta_inside _ _ _ _ _ _ delta)

pub returns-in-Ok-clause-ok : goal.returns-in-Ok-clause-ok
returns-in-Ok-clause-ok g c =
    let live = as_or_map c.args.live.now.0 in
    let delta : IsDelta (as_or_map c.args.live.now.0) (place_of c.args.key.now c.args.field.now)
    c.args.value.now c.in_ok-dot.dot c.in-Ok.store c.add.new.self = record {
      held = c.in-Ok.ensures.ok;
      known = λ d. c.in_default.ensures.ok d ∙ ap (λ b. same_dot c.in_ok-dot.dot d || b) (c.in_ok-context.ensures.ok d);
    } in
    let next = rw (c.in_ok-dot.ensures.ok_part, c.context.ensures.value) at c.next.ensures.next in
    let unknown = rw (c.in_ok-dot.ensures.ok_part, c.context.ensures.value) at c.next.ensures.unknown in
    let made = rw c.unwrap.ensures at c.from_parts.ensures.pair in (
      write_of live c.in_ok-dot.dot (place_of c.args.key.now c.args.field.now) c.args.value.now,
      put_at_pair live c.args.name (place_of c.args.key.now c.args.field.now) c.args.value.now c.in_ok-dot.dot next,
      rw made (delta_state _ _ _ _ _ _ delta (inside_as c.args.live.now.0 c.context.ensures.inside) unknown),
      refl,
    )

pub returns-in_err-dot-clause-spent : goal.returns-in_err-dot-clause-spent
returns-in_err-dot-clause-spent g c =
    let refusal = c.in_err-dot.field-0.0 in
    let made : Err refusal ≡ Err NumbersSpent = c.in_err-dot.ensures.value ∙ ap (λ dot. ok_or dot NumbersSpent) c.in_err-dot.ensures.ok_part in
    let told = err_from_is_err_and c.from_residual.result c.from_residual.ensures.1 in (
      λ is. subst (λ context. IsGreatest c.args.name (has context) 18446744073709551615) c.context.ensures.value
          (c.next.ensures.spent.0 (sym c.in_err-dot.ensures.variant)),
      λ most. rw (told.1, told.2) (cc made),
    )
