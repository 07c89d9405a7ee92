use Rattle.std.proofs.Common.{◌≤◌, ◌<◌, arith, subst, inl}
use Rattle.causal_context.specs.Context.{known_up_to}
use Rattle.live_map.proofs.Unchanged.{above_seen}
use Rattle.live_map.proofs.unknown.add_run.Goals as goal

-- up to the entry of its name each dot is known
pub loop-number-init : goal.loop-number-init
loop-number-init g c = (
  λ d name one up there fresh.
      let vector = c.args.known.now.vector in
      let above : known_up_to vector c.args.name < d.number = subst (λ n. known_up_to vector n < d.number) name (above_seen c.args.known.now d one fresh) in
      let below : d.number ≤ known_up_to vector c.args.name = subst (λ n. d.number ≤ n) c.entry-number.ensures up in
      absurd (omega (arith, above, below)),
  λ d h. h,
  λ d h. inl h,
)
