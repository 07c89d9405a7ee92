use Rattle.std.proofs.Common.{map}
use Rattle.op_model.specs.Shown.{shown, shown_within, shown_anywhere}
use Rattle.op_model.proofs.Ascending.{ascending-ascends}
use Rattle.op_model.proofs.Words.{shown-IsShown, values-IsShown, values_of_key-IsShown, fields-IsShown, keys-IsShown, known-Tells}
use Rattle.op_model.proofs.sets.what_is_shown.Goals as goal

pub returns-clause-writes : goal.returns-clause-writes
returns-clause-writes c = shown-IsShown

pub returns-clause-values : goal.returns-clause-values
returns-clause-values c = values-IsShown

pub returns-clause-values_ascend : goal.returns-clause-values_ascend
returns-clause-values_ascend c = λ S place. ascending-ascends (map (λ w. w.value) (shown S place))

pub returns-clause-fields : goal.returns-clause-fields
returns-clause-fields c = fields-IsShown

pub returns-clause-fields_ascend : goal.returns-clause-fields_ascend
returns-clause-fields_ascend c = λ S key. ascending-ascends (map (λ w. w.place.field) (shown_within S key))

pub returns-clause-values_of_key : goal.returns-clause-values_of_key
returns-clause-values_of_key c = values_of_key-IsShown

pub returns-clause-values_of_key_ascend : goal.returns-clause-values_of_key_ascend
returns-clause-values_of_key_ascend c = λ S key. ascending-ascends (map (λ w. w.value) (shown_within S key))

pub returns-clause-keys : goal.returns-clause-keys
returns-clause-keys c = keys-IsShown

pub returns-clause-keys_ascend : goal.returns-clause-keys_ascend
returns-clause-keys_ascend c = λ S. ascending-ascends (map (λ w. w.place.key) (shown_anywhere S))

pub returns-clause-known : goal.returns-clause-known
returns-clause-known c = known-Tells
