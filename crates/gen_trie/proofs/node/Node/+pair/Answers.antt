use Rattle.std.proofs.Common.{[], ◌∷◌, suc, sym, ◌∙◌, ap, subst}
use Rattle.hash_path.specs.Fan.{fan}
use Rattle.gen_trie.specs.Shapes.{children, height_and_entries, stands_for, IsBranch, IsCanonical}
use Rattle.gen_trie.proofs.Pairs.{only_item, two_items, pair_none, pair_empty, pair_many, pair_two}
use Rattle.gen_trie.proofs.node.Node.+pair.Goals as goal

pub returns-in-Many : goal.returns-in-Many
returns-in-Many g t c =
    let e = ap stands_for (sym c.self.view_is) ∙ ap height_and_entries c.in-Branch.is
    ∙ ap (λ l. (suc c.in-Branch.field-0, fan (children c.in-Branch.field-0 l))) (sym c.as_slice.ensures.value) in
    let b = subst (IsBranch c.in-Branch.field-0 c.in-Branch.field-1) (sym c.as_slice.ensures.value) (subst IsCanonical c.in-Branch.is c.self.invariant.0) in
    pair_many c.in-Branch.field-0 (λ x. x.0.now.value) (λ x. x.1.now.value) c.in-Branch.field-1 c.as_slice.result.now c.in-Many.field-0 c.in-Many.node
    (stands_for c.args.self.now) c.pair.result e b
    (only_item c.as_slice.result.now c.only-item.result c.in-len1.len_at_least c.in-len1.len_below c.only-item.is ∙ ap (λ s. s ∷ []) c.in-Many.is)
    (rw c.deref.ensures at c.pair.ensures)

pub returns-in-len2 : goal.returns-in-len2
returns-in-len2 g t c =
    let e = ap stands_for (sym c.self.view_is) ∙ ap height_and_entries c.in-Branch.is
    ∙ ap (λ l. (suc c.in-Branch.field-0, fan (children c.in-Branch.field-0 l))) (sym c.as_slice.ensures.value) in
    let b = subst (IsBranch c.in-Branch.field-0 c.in-Branch.field-1) (sym c.as_slice.ensures.value) (subst IsCanonical c.in-Branch.is c.self.invariant.0) in
    pair_two c.in-Branch.field-0 (λ x. x.0.now.value) (λ x. x.1.now.value) c.in-Branch.field-1 c.as_slice.result.now c.first-item.result c.second-item.result
    (stands_for c.args.self.now) c.two_of.result e b
    (two_items c.as_slice.result.now c.first-item.result c.second-item.result c.in-len2.len_at_least c.in-len2.len_below c.first-item.is c.second-item.is)
    (c.two_of.ensures c.in-Branch.field-0)

pub returns-in-empty : goal.returns-in-empty
returns-in-empty g t c =
    let e = ap stands_for (sym c.self.view_is) ∙ ap height_and_entries c.in-Branch.is
    ∙ ap (λ l. (suc c.in-Branch.field-0, fan (children c.in-Branch.field-0 l))) (sym c.as_slice.ensures.value) in
    pair_empty c.in-Branch.field-0 c.as_slice.result.now (stands_for c.args.self.now) e c.in-empty.len_below

pub returns-in-len3-up : goal.returns-in-len3-up
returns-in-len3-up g t c =
    let e = ap stands_for (sym c.self.view_is) ∙ ap height_and_entries c.in-Branch.is
    ∙ ap (λ l. (suc c.in-Branch.field-0, fan (children c.in-Branch.field-0 l))) (sym c.as_slice.ensures.value) in
    let b = subst (IsBranch c.in-Branch.field-0 c.in-Branch.field-1) (sym c.as_slice.ensures.value) (subst IsCanonical c.in-Branch.is c.self.invariant.0) in
    pair_none c.in-Branch.field-0 c.in-Branch.field-1 c.as_slice.result.now (stands_for c.args.self.now) e b c.in-len3-up.len_at_least
