use Rattle.std.proofs.Common.{rules, ◌≡◌, suc, ◌-◌, ◌≤◌, arith, ap, ◌∙◌}
use Rattle.hash_path.specs.Word.{digit}
use Rattle.gen_trie.specs.Shapes.{unsealed}
use Rattle.gen_trie.proofs.Puts.{single_is}
use Rattle.gen_trie.proofs.node.Node.single.Goals as goal

pub invariant_of-result-2 : goal.invariant_of-result-2
invariant_of-result-2 g c =
    let low : c.args.height - 1 ≤ 6 = omega arith in
    let up : c.args.height ≡ suc (c.args.height - 1) = omega arith in (
      (single_is (c.args.height - 1) c.args.height c.digit_of-index.result c.args.entry c.new-slots.result.items c.push-2.new.self.items up low
          (c.digit_of-index.ensures.value ∙ ap (λ e. digit (c.args.height - 1) e.hash) c.deref.ensures) c.digit_of-index.ensures.bound
          c.new-slots.ensures.items c.in_ok-push-2.ensures.items).0,
      tt,
      search rules,
    )

pub returns-clause-ok : goal.returns-clause-ok
returns-clause-ok g c =
    let low : c.args.height - 1 ≤ 6 = omega arith in
    let up : c.args.height ≡ suc (c.args.height - 1) = omega arith in
    ap (unsealed c.args.generation)
    (single_is (c.args.height - 1) c.args.height c.digit_of-index.result c.args.entry c.new-slots.result.items c.push-2.new.self.items up low
    (c.digit_of-index.ensures.value ∙ ap (λ e. digit (c.args.height - 1) e.hash) c.deref.ensures) c.digit_of-index.ensures.bound
    c.new-slots.ensures.items c.in_ok-push-2.ensures.items).1
