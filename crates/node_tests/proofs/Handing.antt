-- What a test hands to another thread. No test is named here: this file is read also where the crate is checked without its tests.
use mathlib.Core.List.{[], ◌∷◌}
use mir.Syntax.{Sym, Ty}
use Prim.Native.Nat.{ℕ}
use denote.Exit.{no}
use denote.RattleType.{RattleType}
use denote.Param.{param, arg}
use denote.Param.Send.{IsSend}
use denote.Struct.Tuple.{TupleAt}
use Rattle.node_threads.proofs.Crossing.{closure_send}

-- a closure, by what it takes along
module _ (name : Sym) (i : ℕ) (δ : Ty) (A B C : RattleType) where
  pub of_three : IsSend A → IsSend B → IsSend C → IsSend (param i (arg δ no (TupleAt name (A ∷ B ∷ C ∷ []))))
  of_three a b c = closure_send name (A ∷ B ∷ C ∷ []) i δ no (a, (b, (c, tt)))
