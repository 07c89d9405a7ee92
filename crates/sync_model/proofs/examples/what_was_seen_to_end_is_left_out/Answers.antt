use Rattle.std.proofs.Common.{◌≡◌, ℕ, [], ◌∷◌, length, Option, Some, None, refl, ap, arith}
use Rattle.causal_join.specs.OrMap.{FieldsValue}
use Rattle.dot_store.specs.Stores.{at_values, at_stores}
use Rattle.sync_model.proofs.examples.what_was_seen_to_end_is_left_out.Goals as goal

pub returns-clause-left_out : goal.returns-clause-left_out
unfolding at_values at_stores
returns-clause-left_out c = refl

pub returns-clause-nothing_left : goal.returns-clause-nothing_left
unfolding at_values at_stores
returns-clause-nothing_left c = refl

pub returns-clause-gone : goal.returns-clause-gone
unfolding at_values at_stores
returns-clause-gone c = refl

pub returns-clause-new : goal.returns-clause-new
unfolding at_values at_stores
returns-clause-new c = refl

-- how many values the first field has
abbrev count : Option FieldsValue → ℕ
count None = 0
count (Some []) = 0
count (Some (f ∷ fs)) = length f.1

pub returns-clause-not_taken_back : goal.returns-clause-not_taken_back
unfolding at_values at_stores
returns-clause-not_taken_back c = λ e. let many : 2 ≡ 3 = ap count e in absurd (omega (arith, many))

pub returns-clause-not_kept : goal.returns-clause-not_kept
unfolding at_values at_stores
returns-clause-not_kept c = λ e. absurd cc
