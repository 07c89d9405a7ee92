-- What a write leaves of the stamps of a branch's children.
use Rattle.std.proofs.Common.{◌≡◌, ℕ, suc, ◌≤◌, List, take, drop, arith, sym, subst}
use Rattle.std.specs.List.{All, insert, remove}
use Rattle.std.proofs.lemmas.List.Elements.{All-append, All-cons, All-take, All-drop}
use Rattle.gen_trie.specs.declared.node.Slot.{Slot}
use Rattle.gen_trie.specs.Shapes.{IsNoNewer}

module _ {V M A : Type 0} where
  -- what is no newer than a generation is no newer than a later one
  pub later : (generation after : ℕ) (slots : List (Slot V M A)) → generation ≤ after → All (IsNoNewer generation) slots → All (IsNoNewer after) slots
  later generation after slots le all = λ k d less. let here = all k d less in omega (arith, le, here)

module _ {V M A : Type 0} (generation n : ℕ) (slots now : List (Slot V M A)) where
  -- one child more
  pub stamps_insert : (slot : Slot V M A) → IsNoNewer generation slot → now ≡ insert slots n slot → All (IsNoNewer generation) slots
      → All (IsNoNewer generation) now
  stamps_insert slot here is all =
      subst (All (IsNoNewer generation)) (sym is)
      (All-append (IsNoNewer generation) (take n slots) _ (All-take (IsNoNewer generation) n slots all)
      (All-cons (IsNoNewer generation) slot (drop n slots) here (All-drop (IsNoNewer generation) n slots all)))

  -- one fewer
  pub stamps_remove : now ≡ remove slots n → All (IsNoNewer generation) slots → All (IsNoNewer generation) now
  stamps_remove is all =
      subst (All (IsNoNewer generation)) (sym is)
      (All-append (IsNoNewer generation) (take n slots) (drop (suc n) slots) (All-take (IsNoNewer generation) n slots all)
      (All-drop (IsNoNewer generation) (suc n) slots all))
