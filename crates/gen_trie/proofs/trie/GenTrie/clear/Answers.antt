use Rattle.std.proofs.Common.{ap, refl, true, arith}
use Rattle.std.specs.FinMap as finite
use Rattle.gen_trie.specs.Shown.{Shown}
use Rattle.gen_trie.proofs.trie.GenTrie.clear.Goals as goal

pub returns : goal.returns
returns g c =
    let emptied : Shown g.row.H.Denot g.row.V.Denot → Shown g.row.H.Denot g.row.V.Denot = λ trie. record trie { map = finite.empty; sealed = true } in
    ap emptied c.self.view_is

pub invariant_of-self : goal.invariant_of-self
invariant_of-self g c = (record { root_is = record { stands = tt; sorted = tt; counted = refl }; hashed = tt }, omega arith)
