use Rattle.std.proofs.Common.{◌≡◌, ◌++◌, ◌∷◌, [], sym, ◌∙◌, rules, of_calls}
use Rattle.std.specs.declared.cmp.Ordering.TheVariants.{Less}
use Rattle.std.proofs.lemmas.Fn.{always_returns_same}
use Rattle.ordered_list.proofs.Places.{gap_at_end, searched_Ok, searched_Err, less_from_test}
use Rattle.ordered_list.proofs.ordered_list.place_of.Goals as goal

pub returns-in-Some-clause-absent : goal.returns-in-Some-clause-absent
returns-in-Some-clause-absent g c =
    let parts : c.args.entries.now ≡ c.in-Some.field-0-1.now ++ c.in-Some.last.now ∷ [] = c.in-Some.ensures.cases.0 in
    let less : g.K.Ord.cmp c.in-Some.last.now.0 c.args.key.now ≡ Less = sym c.cmp.ensures
    ∙ less_from_test c.cmp.result (sym c.is_lt.ensures ∙ c.if-is_lt.true) in
    let ascends = c.requires in
    rw parts (gap_at_end g.K.Ord.cmp g.met.K.Ord.total c.args.key.now c.in-Some.field-0-1.now c.in-Some.last.now (rw parts at ascends) less)

pub returns-in_default-clause-found : goal.returns-in_default-clause-found
returns-in_default-clause-found g c =
    searched_Ok g.K.Ord.cmp g.met.K.Ord.total c.args.key.now c.args.entries.now c.binary_search_by.result c.requires c.binary_search_by.ensures.bound
    (c.binary_search_by.ensures.position (λ e. g.K.Ord.cmp e.0 c.args.key.now) (always_returns_same _ _ _ (λ a r f k. search (rules, of_calls))))

pub returns-in_default-clause-absent : goal.returns-in_default-clause-absent
returns-in_default-clause-absent g c =
    searched_Err g.K.Ord.cmp g.met.K.Ord.total c.args.key.now c.args.entries.now c.binary_search_by.result c.requires c.binary_search_by.ensures.bound
    (c.binary_search_by.ensures.position (λ e. g.K.Ord.cmp e.0 c.args.key.now) (always_returns_same _ _ _ (λ a r f k. search (rules, of_calls))))
