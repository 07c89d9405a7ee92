use Rattle.op_model.proofs.Making.{put_made, remove_made, field_remove_made, clear_made, put_dot, remove_count, field_remove_count, clear_count, put_there}
use Rattle.op_model.proofs.Making.{remove_there, field_remove_there, clear_there}
use Rattle.op_model.proofs.sets.made_at_a_state.Goals as goal

pub returns-clause-put : goal.returns-clause-put
returns-clause-put c = λ S p name place value w same. put_made S p same name place value w

pub returns-clause-remove : goal.returns-clause-remove
returns-clause-remove c = λ S p key over same. remove_made S p same key over

pub returns-clause-remove_field : goal.returns-clause-remove_field
returns-clause-remove_field c = λ S p place over same. field_remove_made S p same place over

pub returns-clause-clear : goal.returns-clause-clear
returns-clause-clear c = λ S p over same. clear_made S p same over

pub returns-clause-dot : goal.returns-clause-dot
returns-clause-dot c = λ S p name dot same. put_dot S p same name dot

pub returns-clause-removed : goal.returns-clause-removed
returns-clause-removed c = λ S p key n same. remove_count S p same key n

pub returns-clause-field_removed : goal.returns-clause-field_removed
returns-clause-field_removed c = λ S p place n same. field_remove_count S p same place n

pub returns-clause-cleared : goal.returns-clause-cleared
returns-clause-cleared c = λ S p n same. clear_count S p same n

pub returns-clause-put_there : goal.returns-clause-put_there
returns-clause-put_there c = λ S p name place value same. put_there S p same name place value

pub returns-clause-remove_there : goal.returns-clause-remove_there
returns-clause-remove_there c = λ S p key same. remove_there S p same key

pub returns-clause-remove_field_there : goal.returns-clause-remove_field_there
returns-clause-remove_field_there c = λ S p place same. field_remove_there S p same place

pub returns-clause-clear_there : goal.returns-clause-clear_there
returns-clause-clear_there c = λ S p same. clear_there S p same
