use Rattle.std.proofs.Common.{sym, subst}
use Rattle.std.proofs.lemmas.Result.{IfOk-weaker}
use Rattle.std.specs.Prelude.{IsSome}
use Rattle.trie_map.proofs.Written.{holds_found, nothing_at}
use Rattle.live_map.proofs.Changing.{none_stands}
use Rattle.live_map.proofs.touching.standing_at.Goals as goal

pub returns-in-Some-clause-all : goal.returns-in-Some-clause-all
returns-in-Some-clause-all g c =
    IfOk-weaker c.dots.result _ _
    (λ dots all place d h. all place d
    (subst IsSome (holds_found g.S.DotStore.at c.args.store.now c.args.key.now c.in-Some.found.now (sym c.in-Some.ensures.store) place d) h))
    c.dots.ensures.all

pub returns-in-None-clause-all : goal.returns-in-None-clause-all
returns-in-None-clause-all g c = λ place d. none_stands _ _ (nothing_at g.S.DotStore.at c.args.store.now c.args.key.now place d (sym c.in-None.ensures.store))
