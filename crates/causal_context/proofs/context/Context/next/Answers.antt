use Rattle.std.proofs.Common.{◌≡◌, ◌+◌, false, arith, ap, subst, sym}
use Rattle.std.proofs.lemmas.Bool.{false_from_ne_true}
use Rattle.std.proofs.lemmas.Option.{IfSome_then}
use Rattle.causal_context.specs.Context.{has}
use Rattle.causal_context.proofs.context.Context.next.Goals as goal

-- src/context.rt
pub returns-clause-next : goal.returns-clause-next
returns-clause-next g c =
    IfSome_then c.new.result c.new.ensures.value
    (λ dot is. record {
      name = ap (λ d. d.name) is;
      greatest = c.greatest-greatest.result;
      is_greatest = c.greatest-greatest.ensures;
      number = ap (λ d. d.number) is;
    })

pub returns-clause-unknown : goal.returns-clause-unknown
returns-clause-unknown g c =
    let greatest = c.greatest-greatest.result in
    IfSome_then c.new.result c.new.ensures.value
    (λ dot is. subst (λ d. has c.args.self.now d ≡ false) (sym is)
    (false_from_ne_true (has c.args.self.now (record { name = c.args.name; number = greatest + 1 }))
    (λ h. absurd (omega (arith, c.greatest-greatest.ensures.bound (greatest + 1) h)))))

pub returns-clause-spent : goal.returns-clause-spent
returns-clause-spent g c = (
  λ none. absurd (cc (none, c.new.ensures.found.1 (λ e. absurd (omega (arith, e))))),
  λ most. let most_known = c.greatest-greatest.ensures.bound 18446744073709551615 (most.known (omega arith)) in
      absurd (omega (arith, most_known)),
)
