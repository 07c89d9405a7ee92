-- Three strings in the place of all others.
use Rattle.std.proofs.Common.{◌≡◌, ◌⊎◌, inl, inr, ℕ, ℤ, List, [], ◌∷◌, refl, subst, Contains, arith}
use Rattle.std.specs.List.Sorted.{IsPermutation}
use Rattle.std.proofs.lemmas.List.Sorted.{IsPermutation-sym, Contains-permutation}
use Rattle.sqlite.specs.Order.{Row, column, bytes}
use Rattle.sqlite_trees.specs.Tree.{Trees}
use Rattle.sqlite.specs.State.{State, HasCleanDisk, Survives}
use Rattle.sqlite.proofs.StateLemmas.{survives_then, survives_weaker}
use Rattle.durable_log.specs.Log.{strings, Gains, IsAt, KeepsPlaces, LeavesOnly, IsOfEither, IsBetween, IsReplaced}
use Rattle.op_model.proofs.Members.{nothing_in, at_head, in_tail, head_or_tail, at_same, in_map}

-- only strings of these came, and none went
pub record IsGrown (old new : Trees) (news : List (List ℕ)) : Type 0 where
  pub known : IsOfEither old new news
  pub all : (string : List ℕ) → Contains (strings old) string → Contains (strings new) string

pub grown_none : (old : Trees) (news : List (List ℕ)) → IsGrown old old news
grown_none old news = record { known = λ string there. inl there; all = λ string there. there }

pub grown_more : (old mid new : Trees) (news : List (List ℕ)) (string : List ℕ) → IsGrown old mid news → Contains news string → Gains mid new string
    → IsGrown old new news
grown_more old mid new news string grown is gains = record {
  known = λ other there.
      elim (head_or_tail string (strings mid) other (Contains-permutation (strings new) (string ∷ strings mid) other
      (IsPermutation-sym (string ∷ strings mid) (strings new) gains) there)) [
        | inl same ↦ inr (at_same news string other same is)
        | inr before ↦ grown.known other before
      ];
  all = λ other there. Contains-permutation (string ∷ strings mid) (strings new) other gains (in_tail string (strings mid) other (grown.all other there));
}

pub grown_between : (old new : Trees) (news : List (List ℕ)) → IsGrown old new news → IsBetween old new news
grown_between old new news grown = record { known = grown.known; whole = inl grown.all }

holds_at : (db : Trees) (place : ℤ) (string : List ℕ) → IsAt db place string → Contains (strings db) string
holds_at db place string at = at_same (strings db) _ string at.1.3 (in_map (λ (r : Row). bytes (column r 2)) (db 0) at.1.0 at.1.1)

module _ (old mid new : Trees) (a b c : List ℕ) (i j k : ℤ) where
  pub replaced : IsGrown old mid (a ∷ b ∷ c ∷ []) → IsAt mid i a → IsAt mid j b → IsAt mid k c → LeavesOnly mid new (i ∷ j ∷ k ∷ [])
      → IsReplaced old new (a ∷ b ∷ c ∷ [])
  replaced grown first second third leaves = record {
    known = λ string there. grown.known string (leaves.known string there);
    whole = λ string is. elim (head_or_tail a (b ∷ c ∷ []) string is) [
      | inl e ↦ at_same (strings new) a string e (holds_at new i a (leaves.left i a (at_head i (j ∷ k ∷ [])) first))
      | inr more ↦ elim (head_or_tail b (c ∷ []) string more) [
        | inl e ↦ at_same (strings new) b string e (holds_at new j b (leaves.left j b (in_tail i (j ∷ k ∷ []) j (at_head j (k ∷ []))) second))
        | inr last ↦ elim (head_or_tail c [] string last) [
          | inl e ↦ at_same (strings new) c string e (holds_at new k c (leaves.left k c (in_tail i (j ∷ k ∷ []) k (in_tail j (k ∷ []) k (at_head k []))) third))
          | inr none ↦ nothing_in string none
        ]
      ]
    ];
    few = (i ∷ j ∷ k ∷ [], refl, λ row place there is. leaves.gone row place there is);
  }

pub replaced_between : (old new : Trees) (news : List (List ℕ)) → IsReplaced old new news → IsBetween old new news
replaced_between old new news is = record { known = is.known; whole = inr is.whole }

-- ---- one statement after the other

module _ (start : State) (news : List (List ℕ)) where
  abbrev pub Between : Trees → Type 0
  Between db = IsBetween start.now.trees db news

  abbrev pub Grows : State → Type 0
  Grows s = IsGrown start.now.trees s.now.trees news

  pub first_of : (s : State) (string : List ℕ) → Contains news string → Survives start s (λ db. Gains start.now.trees db string) → Survives start s Between
  first_of s string is survives =
      survives_weaker start s (λ db. Gains start.now.trees db string) Between
      (λ clean db gains. grown_between start.now.trees db news
      (grown_more start.now.trees start.now.trees db news string (grown_none start.now.trees news) is gains)) survives

  pub next_of : (s t : State) (string : List ℕ) → Contains news string → Survives start s Between → (HasCleanDisk s → Grows s)
      → Survives s t (λ db. Gains s.now.trees db string) → Survives start t Between
  next_of s t string is before grows survives =
      survives_then start s t Between (λ db. Gains s.now.trees db string) Between (λ clean db between. between)
      (λ clean db gains. grown_between start.now.trees db news
      (grown_more start.now.trees s.now.trees db news string (grows (omega (arith, survives.clean))) is gains)) before survives

  -- the strings that came are some of these, now and at any moment
  abbrev pub Came : State → Type 0
  Came s = Survives start s Between × (HasCleanDisk s → Grows s)

  pub came_first : (s : State) (string : List ℕ) → Contains news string → Survives start s (λ db. Gains start.now.trees db string)
      → (HasCleanDisk s → Gains start.now.trees s.now.trees string) → Came s
  came_first s string is survives gains = (
    first_of s string is survives,
    λ clean. grown_more start.now.trees start.now.trees s.now.trees news string (grown_none start.now.trees news) is (gains clean),
  )

  pub came_next : (s t : State) (string : List ℕ) → Contains news string → Came s → Survives s t (λ db. Gains s.now.trees db string)
      → (HasCleanDisk t → Gains s.now.trees t.now.trees string) → Came t
  came_next s t string is before survives gains = (
    next_of s t string is before.0 before.1 survives,
    λ clean. grown_more start.now.trees s.now.trees t.now.trees news string (before.1 (omega (arith, survives.clean))) is (gains clean),
  )

-- three strings that were added one after the other stand in their rows
module _ (one two three : State) (x y z : List ℕ) (a b c i j k : ℤ) where
  pub three_places : a ≡ i → b ≡ j → c ≡ k → (HasCleanDisk two → HasCleanDisk one) → (HasCleanDisk three → HasCleanDisk two)
      → (HasCleanDisk one → IsAt one.now.trees a x) → (HasCleanDisk two → IsAt two.now.trees b y × KeepsPlaces one.now.trees two.now.trees)
      → (HasCleanDisk three → IsAt three.now.trees c z × KeepsPlaces two.now.trees three.now.trees)
      → HasCleanDisk three → IsAt three.now.trees i x × IsAt three.now.trees j y × IsAt three.now.trees k z
  three_places is_i is_j is_k clean_one clean_two first second third clean =
      let last = third clean in
      let middle = second (clean_two clean) in (
        subst (λ (p : ℤ). IsAt three.now.trees p x) is_i (last.1 a x (middle.1 a x (first (clean_one (clean_two clean))))),
        subst (λ (p : ℤ). IsAt three.now.trees p y) is_j (last.1 b y middle.0),
        subst (λ (p : ℤ). IsAt three.now.trees p z) is_k last.0,
      )

module _ (start s t : State) (a b c : List ℕ) (i j k : ℤ) where
  pub last_of : (HasCleanDisk s → IsGrown start.now.trees s.now.trees (a ∷ b ∷ c ∷ []))
      → (HasCleanDisk s → IsAt s.now.trees i a × IsAt s.now.trees j b × IsAt s.now.trees k c) → Survives start s (Between start (a ∷ b ∷ c ∷ []))
      → Survives s t (λ db. LeavesOnly s.now.trees db (i ∷ j ∷ k ∷ [])) → Survives start t (Between start (a ∷ b ∷ c ∷ []))
  last_of grown at before survives =
      survives_then start s t (Between start (a ∷ b ∷ c ∷ [])) (λ db. LeavesOnly s.now.trees db (i ∷ j ∷ k ∷ [])) (Between start (a ∷ b ∷ c ∷ []))
      (λ clean db between. between)
      (λ clean db leaves.
      let there = at (omega (arith, survives.clean)) in
      replaced_between start.now.trees db (a ∷ b ∷ c ∷ [])
      (replaced start.now.trees s.now.trees db a b c i j k (grown (omega (arith, survives.clean))) there.0 there.1 there.2 leaves)) before survives
