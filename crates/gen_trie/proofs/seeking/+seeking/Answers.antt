use Rattle.std.proofs.Common.{◌≡◌, [], ◌-◌, suc, length, arith, sym, ◌∙◌, ap, subst}
use Rattle.hash_path.specs.Word.{digit}
use Rattle.hash_path.specs.Summary.{under_prefix}
use Rattle.hash_path.proofs.Summaries.{under_none}
use Rattle.gen_trie.specs.Shapes.{child, StandsBelow, height_and_entries, stands_for, IsCanonical}
use Rattle.gen_trie.proofs.Seeks.{one_away, one_there, branch_there, finds_same}
use Rattle.gen_trie.proofs.seeking.+seeking.Goals as goal

pub slot_below-returns-then-digit_of-parts : goal.slot_below-returns-then-digit_of-parts
slot_below-returns-then-digit_of-parts g t c =
    let long : length c.args.prefix ≡ suc (length c.in-Some.parts.1) = ap length c.in-Some.ensures.parts in
    let short = c.requires.short in
    let up : c.args.height ≡ suc (c.args.height - 1) = omega (arith, long, short) in
    (λ k. under_prefix (c.in-Some.ensures.parts k) (child c.args.height (c.in-One.is k)).1)
    ∙ one_away c.in-Some.parts.0 c.in-Some.parts.1 (c.args.height - 1) c.args.height c.in-One.entry.value.hash c.in-One.entry.value.key
    c.in-One.entry.value.value up
    (λ q. c.if-digit_of-parts.true (c.digit_of.ensures.value ∙ ap (λ e. digit (c.args.height - 1) e.hash) c.deref.ensures ∙ sym q))

pub slot_below-returns-else-digit_of-parts : goal.slot_below-returns-else-digit_of-parts
slot_below-returns-else-digit_of-parts g t c =
    let long : length c.args.prefix ≡ suc (length c.in-Some.parts.1) = ap length c.in-Some.ensures.parts in
    let short = c.requires.short in
    let up : c.args.height ≡ suc (c.args.height - 1) = omega (arith, long, short) in
    let there = one_there c.in-Some.parts.0 c.in-Some.parts.1 (c.args.height - 1)
    c.args.height c.in-One.entry.value.hash c.in-One.entry.value.key c.in-One.entry.value.value up
    (sym c.if-digit_of-parts.false ∙ c.digit_of.ensures.value ∙ ap (λ e. digit (c.args.height - 1) e.hash) c.deref.ensures) in
    finds_same (λ x. x.now) _ _ _ _ c.slot_below.result
    (sym ((λ k. under_prefix (c.in-Some.ensures.parts k) (child c.args.height (c.in-One.is k)).1) ∙ there
    ∙ (λ k. under_prefix c.in-Some.parts.1 (child (c.args.height - 1) (sym c.in-One.is k)).1)))
    (omega (arith, long, short)) c.slot_below.ensures

pub slot_below-slot_below-requires : goal.slot_below-slot_below-requires
slot_below-slot_below-requires g t c κs within =
    let long : length c.args.prefix ≡ suc (length c.in-Some.parts.1) = ap length c.in-Some.ensures.parts in
    let short = c.requires.short in
    let low = c.requires.height in (
      omega (arith, long, short, c.decreases),
      (within.0, (within.1.0, (within.1.1, (subst (StandsBelow (c.args.height - 1)) (sym c.in-One.is) tt, (omega arith, omega (arith, long, short)))))),
    )

pub slot_under-returns-in-None : goal.slot_under-returns-in-None
slot_under-returns-in-None g t c =
    let e = ap stands_for (sym c.node.view_is) ∙ ap height_and_entries c.in-Branch.is in
    let b = subst IsCanonical c.in-Branch.is c.node.invariant.0 in
    branch_there (stands_for c.args.node.now) c.args.index c.args.rest c.in-Branch.below _ [] e b.rise c.in-None.ensures ∙ under_none c.args.rest

pub slot_under-returns-in-Some : goal.slot_under-returns-in-Some
slot_under-returns-in-Some g t c =
    let e = ap stands_for (sym c.node.view_is) ∙ ap height_and_entries c.in-Branch.is in
    let b = subst IsCanonical c.in-Branch.is c.node.invariant.0 in
    let up = ap (λ n. n.0) e in
    finds_same (λ x. x.now) _ _ _ _ c.slot_below.result
    (sym (branch_there (stands_for c.args.node.now) c.args.index c.args.rest c.in-Branch.below _ (child c.in-Branch.below c.in-Some.slot.now).1 e b.rise
    (sym (ap (λ k. k.1) c.in-Some.ensures.0))))
    (omega (arith, up)) c.slot_below.ensures
