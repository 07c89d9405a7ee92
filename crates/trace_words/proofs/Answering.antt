-- What follows from two clauses.
use Rattle.std.proofs.Common.{Result, Ok, Err, OnOk}

-- what follows from two clauses on one `Ok`
pub OnOk-both : {T E P Q R : Type 0} (result : Result T E) → (P → Q → R) → OnOk result P → OnOk result Q → OnOk result R
OnOk-both (Ok value) both first then = both first then
OnOk-both (Err refusal) both first then = tt
