use Rattle.std.proofs.Common.{◌≡◌, ◌∙◌, ap, length, arith}
use Rattle.std.specs.Prelude.{min, ◌-◌}
use Rattle.delta_ops.proofs.Groups.{rest_is}
use Rattle.delta_ops.proofs.outgoing.Outgoing.cut.Goals as goal

pub returns : goal.returns
returns g c =
    let many : c.len.result ≡ length c.self.inside.deltas.items = omega (arith, c.len.ensures, c.self.inside.deltas.ok.0) in
    let again : c.len-2.result ≡ length c.self.inside.deltas.items = omega (arith, c.len-2.ensures, c.self.inside.deltas.ok.0) in
    let least = c.min-number.ensures ∙ ap (min c.args.number) many in
    rest_is c.self.inside.deltas.items c.rotate_left.new.self.items c.truncate.new.self.items c.args.self.now c.min-number.result
    (c.len-2.result - c.min-number.result) c.args.number c.self.view_is least (ap (λ n. n - c.min-number.result) again)
    c.rotate_left.ensures.items c.truncate.ensures.items
