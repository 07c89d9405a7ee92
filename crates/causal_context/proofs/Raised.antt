-- An entry that is raised by one, by the entry of its name and the test of the cloud.
use Rattle.std.proofs.Common.{◌≡◌, ℕ, ◌+◌, ◌≤◌, ◌<◌, Bool, true, false, ◌||◌, ◌&&◌, not, cond, refl, sym, ap, ◌∙◌, arith, eqb, leb, ltb}
use Rattle.std.specs.Prelude.{IsTrue}
use Rattle.std.proofs.lemmas.Bool.Decides.{nat_tests}
use Rattle.dots.specs.Dot.{DotValue, same_dot}
use Rattle.causal_context.specs.Run.{is_in_run, IsRunEnd}
use Rattle.causal_context.proofs.Known.{known}

known_in : (n : ℕ) (a : Bool) → (leb 1 (n + 1) && (a || true)) ≡ true
known_in n a = grind (arith, nat_tests)

-- where the dot above is not known, the run above the dot ends at it
pub run_alone : (entry : ℕ → ℕ) (test : DotValue → Bool) (dot : DotValue) → known entry test (record { name = dot.name; number = dot.number + 1 }) ≡ false
    → IsRunEnd test dot dot.number
run_alone entry test dot last = record {
  from = omega arith;
  run = λ m above up. absurd (omega (arith, above, up));
  stops = stop (test (record { name = dot.name; number = dot.number + 1 })) refl;
}
  where
    stop : (b : Bool) → test (record { name = dot.name; number = dot.number + 1 }) ≡ b → b ≡ false
    stop false e = refl
    stop true e =
        absurd (cc (sym (ap (λ t. leb 1 (dot.number + 1) && (leb (dot.number + 1) (entry dot.name) || t)) e
        ∙ known_in dot.number (leb (dot.number + 1) (entry dot.name))) ∙ last))

none_between : (a t : Bool) (n m : ℕ) → t ≡ (t && not (a && (ltb n m && leb m n)))
none_between a true n m = grind (arith, nat_tests)
none_between a false n m = refl

-- so no dot of the cloud goes to the vector
pub none_in_run : (test : DotValue → Bool) (dot d : DotValue) → test d ≡ (test d && not (is_in_run dot dot.number d))
none_in_run test dot d = none_between (eqb dot.name d.name) (test d) dot.number d.number
