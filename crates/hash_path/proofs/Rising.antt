-- Indices that ascend and are below 32.
use Rattle.std.proofs.Common.{ℕ, suc, ◌+◌, ◌≤◌, List, [], ◌∷◌, length, Some, None, arith}
use Rattle.std.specs.declared.option.Option.{Option}
use Rattle.hash_path.specs.Fan.{Rise}
use Rattle.hash_path.specs.Summary.{sums, one_present}

pub Rise-weaken : {X : Type 0} (low high : ℕ) (cs : List (ℕ × X)) → low ≤ high → Rise high cs → Rise low cs
Rise-weaken low high [] h r = tt
Rise-weaken low high (c ∷ cs) h r = (let k = r.0 in omega arith, r.1, r.2)

-- there are 32 at most
pub rise_short : {X : Type 0} (low : ℕ) (cs : List (ℕ × X)) → low ≤ 32 → Rise low cs → length cs + low ≤ 32
rise_short low [] short rise = omega (arith, short)
rise_short low (c ∷ cs) short rise =
    let from = rise.0 in
    let bound = rise.1 in
    let rest = rise_short (suc c.0) cs (omega (arith, bound)) rise.2 in
    omega (arith, rest, from)

-- those that have a summary rise too
module _ {V M : Type 0} (s : List (List ℕ × V) → Option M) where
  pub Rise-sums : (low : ℕ) (cs : List (ℕ × List (List ℕ × V))) → Rise low cs → Rise low (sums s cs)
  Rise-sums low [] rise = tt
  Rise-sums low (c ∷ cs) rise = step (s c.1) (Rise-sums (suc c.0) cs rise.2)
    where
      step : (o : Option M) → Rise (suc c.0) (sums s cs) → Rise low (one_present c.0 o (sums s cs))
      step None rest = Rise-weaken low (suc c.0) (sums s cs) (let from = rise.0 in omega (arith, from)) rest
      step (Some m) rest = (rise.0, rise.1, rest)
