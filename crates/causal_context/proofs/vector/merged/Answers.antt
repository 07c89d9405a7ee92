use Rattle.std.proofs.Common.{◌≡◌, ℕ, None, Some, sym, ◌∙◌, subst}
use Rattle.std.specs.Option.{option_copied}
use Rattle.std.specs.Ordering.{nat_cmp}
use Rattle.std.specs.Cmp.{nat_cmp_total}
use Rattle.std.proofs.lemmas.Map.Lookups.{exact_unsigned}
use Rattle.ordered_list.specs.Places.{value_at}
use Rattle.ordered_list.proofs.Places.{Ascends, ascends_insert}
use Rattle.ordered_list.proofs.Walked.{walked_here, walked_more, walked_all, put_here, put_apart}
use Rattle.causal_context.proofs.Vectors.{IsMergedAt, merged_here, merged_kept, merged_nowhere}
use Rattle.causal_context.proofs.vector.merged.Given as given
use Rattle.causal_context.proofs.vector.merged.Goals as goal

pub loop-name-preserved : goal.loop-name-preserved
loop-name-preserved g c =
    let mine = c.args.mine.now in
    let yours = c.args.yours.now in
    let key = c.in-Some.name.now in
    let number = c.greater_of.result in
    let x = option_copied c.in-Some.x in
    let y = option_copied c.in-Some.y in
    let old = c.loop-name.both in
    let new = c.insert.new.self in
    let updates = c.in_ok-insert.ensures.updates in
    let turn = c.in-Some.ensures.turn in
    let here = walked_here nat_cmp mine yours (λ (q : ℕ). value_at nat_cmp old q ≡ None) (λ (q : ℕ). IsMergedAt mine yours old q)
    c.loop-name.merge.0 c.loop-name.merge.1 c.next.new.self.0 c.next.new.self.1 key x y
    c.loop-name.invariant.walked turn in
    let found : value_at nat_cmp new key ≡ Some number = put_here nat_cmp key (Some number) (value_at nat_cmp old) (value_at nat_cmp new)
    updates nat_cmp_total here.2 in
    record {
      walked = walked_more nat_cmp mine yours exact_unsigned (λ (q : ℕ). value_at nat_cmp old q ≡ None) (λ (q : ℕ). IsMergedAt mine yours old q)
          (λ (q : ℕ). value_at nat_cmp new q ≡ None) (λ (q : ℕ). IsMergedAt mine yours new q)
          c.loop-name.merge.0 c.loop-name.merge.1 c.next.new.self.0 c.next.new.self.1 key x y c.loop-name.invariant.walked turn
          (merged_here mine yours new key number x y here.0 here.1 turn.somewhere c.greater_of.ensures found c.requires.mine c.requires.yours)
          (λ q apart e. put_apart nat_cmp key (Some number) (value_at nat_cmp old) (value_at nat_cmp new) updates q apart ∙ e)
          (λ q apart e. merged_kept mine yours old new q (put_apart nat_cmp key (Some number) (value_at nat_cmp old) (value_at nat_cmp new) updates q apart) e);
      ascend = subst (Ascends nat_cmp) (sym c.in_ok-insert.ensures.ok) (ascends_insert nat_cmp nat_cmp_total old key number c.loop-name.invariant.ascend);
    }

at_end : (g : given.Over) (c : goal.In_default g) → (q : ℕ) → IsMergedAt c.args.mine.now c.args.yours.now c.loop-name.both q
at_end g c q =
    walked_all nat_cmp c.args.mine.now c.args.yours.now (λ (q : ℕ). value_at nat_cmp c.loop-name.both q ≡ None)
    (λ (q : ℕ). IsMergedAt c.args.mine.now c.args.yours.now c.loop-name.both q)
    c.loop-name.merge c.loop-name.invariant.walked c.in_default.ensures.end q (merged_nowhere c.args.mine.now c.args.yours.now c.loop-name.both q)

pub returns-clause-ok : goal.returns-clause-ok
returns-clause-ok g c = λ q. (at_end g c q).entry

pub returns-clause-no_zero : goal.returns-clause-no_zero
returns-clause-no_zero g c = λ q. (at_end g c q).no_zero
