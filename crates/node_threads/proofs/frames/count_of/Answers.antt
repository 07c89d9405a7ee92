use Rattle.std.proofs.Common.{◌≡◌, ◌∙◌, List, ℕ, [], ◌∷◌, ap, length, rules, sym, subst}
use Rattle.std.specs.Io.KnownBytes.{Consumes}
use Rattle.node_threads.proofs.Streams.{consumes_then, of_three}
use Rattle.node_threads.proofs.frames.count_of.Goals as goal

pub returns : goal.returns
returns g c =
    let remaining = g.I.Read.remaining in
    let first = c.in_ok-first.first in
    let rest = c.in_ok-second.field-0 in
    let long : length rest ≡ 3 = search rules in
    subst (λ (xs : List ℕ). Consumes (remaining c.args.input.now) (remaining c.rest_of.new.input) xs)
    (ap (λ xs. first ∷ xs) (of_three rest long) ∙ sym c.number_of.ensures)
    (consumes_then (remaining c.args.input.now) (remaining c.first_of.new.input) (remaining c.rest_of.new.input) (first ∷ [])
    rest c.in_ok-first.ensures c.in_ok-second.ensures)
