use Rattle.std.proofs.Common.{rules, ◌≡◌, length, sym, subst, arith}
use Rattle.gen_trie.specs.Left.{RootFits}
use Rattle.gen_trie.proofs.Iters.{past_less, root_first}
use Rattle.gen_trie.proofs.iter.first_entry.Goals as goal

pub enter-requires : goal.enter-requires
enter-requires g c = (
  omega arith,
  (
    subst (RootFits c.args.rest.now.height) (sym c.in-Some.ensures.value) c.requires.stands.1,
    (
      (c.requires.stands.0, subst (RootFits c.args.rest.now.height) (sym c.in-Some.ensures.after) tt, c.requires.stands.2),
      (c.requires.past.0, past_less c.args.rest.now.height 7 c.args.rest.now.levels c.requires.stands.2 c.requires.past.1),
    ),
  ),
)

pub returns-in-Some-clause-first : goal.returns-in-Some-clause-first
returns-in-Some-clause-first g c =
    let seven : length c.args.rest.now.levels ≡ 7 = search rules in
    root_first c.args.rest.now.height c.args.rest.now.list.now c.args.rest.now.levels c.requires.past.0 seven c.requires.past.1 c.args.rest.now.root
    c.take.new.self c.in-Some.slot _ _ (sym c.in-Some.ensures.value) c.in-Some.ensures.after c.enter.ensures.first
