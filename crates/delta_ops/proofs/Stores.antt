-- What small stores and contexts hold: over plain variables.
use Rattle.std.proofs.Common.{◌≡◌, Bool, true, false, cond, ◌&&◌, Option, Some, None, is_some, IsSome, IsNone, IsTrue, ◌⊎◌, inl, inr, refl, sym, ◌∙◌}

-- a value put at a key and a dot of an empty store stands there alone
pub held_alone : {X : Type 0} (a b : Bool) (new at below elsewhere : Option X) (v : X) → new ≡ cond a at elsewhere → at ≡ cond b (Some v) below
    → below ≡ None → elsewhere ≡ None → new ≡ cond (a && b) (Some v) None
held_alone true true new at below elsewhere v stored held nothing empty = stored ∙ held
held_alone true false new at below elsewhere v stored held nothing empty = stored ∙ (held ∙ nothing)
held_alone false b new at below elsewhere v stored held nothing empty = stored ∙ empty

-- the same, two keys deep
pub held_alone_deep : {X : Type 0} (a b c : Bool) (new at held below within elsewhere : Option X) (v : X) → new ≡ cond a at elsewhere → at ≡ cond b held within
    → held ≡ cond c (Some v) below → below ≡ None → within ≡ None → elsewhere ≡ None → new ≡ cond ((a && b) && c) (Some v) None
held_alone_deep true b c new at held below within elsewhere v outer inner least nothing empty clear = outer
    ∙ held_alone b c at held below within v inner least nothing empty
held_alone_deep false b c new at held below within elsewhere v outer inner least nothing empty clear = outer ∙ clear

-- a test that passes just where something is held
pub test_of : {X : Type 0} (test : Bool) (held : Option X) → (IsSome held → IsTrue test) → (IsTrue test → IsSome held) → test ≡ is_some held
test_of true (Some x) to back = refl
test_of true None to back = sym (back refl)
test_of false (Some x) to back = to refl
test_of false None to back = refl

-- what is not so by the first is so by the second
pub second_of : {P : Type 0} (first : Bool) → first ≡ false → IsTrue first ⊎ P → P
second_of first not_so (inl passes) = absurd (let turned : false ≡ true = sym not_so ∙ passes in cc)
second_of first not_so (inr p) = p

-- an option is there that cannot be missing
pub there_from : {X P : Type 0} (o : Option X) → (IsNone o → P → ⊥) → P → IsSome o
there_from None missing p = absurd (missing refl p)
there_from (Some x) missing p = refl
