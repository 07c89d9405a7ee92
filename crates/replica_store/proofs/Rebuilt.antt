-- What a string more does to the replica that is rebuilt.
use Rattle.std.proofs.Common.{◌≡◌, ◌⊎◌, inl, inr, ℕ, ◌≤◌, Bool, true, false, ◌||◌, Option, Some, None, List, [], ◌∷◌, refl, sym, ap, subst, ◌∙◌, arith}
use Rattle.std.proofs.Common.{Contains}
use Rattle.std.specs.List.Sorted.{IsPermutation}
use Rattle.std.proofs.lemmas.List.Sorted.{Contains-permutation, IsPermutation-sym}
use Rattle.op_model.specs.Meaning.{MapState, greater, state}
use Rattle.op_model.specs.State.{Same, join, joined}
use Rattle.op_model.proofs.Greater.{greater-comm, greater-idem, greater-assoc}
use Rattle.op_model.proofs.Members.{nothing_in, at_head, in_tail, head_or_tail}
use Rattle.op_model.proofs.Joins.{join-comm, join-assoc, join-idem}
use Rattle.sync_model.specs.Closing.{IsBelow}
use Rattle.replica_model.specs.Replica.{Replica, fresh, restarts}
use Rattle.replica_model.proofs.Growing.{below_itself, below_join, below_below}
use Rattle.replica_model.proofs.States.{same_is, is_same}
use Rattle.replica_store.specs.Entry.{Entry, Named, Opened, Changed, NAMED, OPENED, CHANGED, SaysNumber, SaysDelta, IsEntry}
use Rattle.replica_store.specs.Rebuilt.{Says, AreBelow, IsRebuilt, OneReplica}
use Rattle.replica_store.proofs.Entries.{one_number, one_state, one_kind}

-- ---- states by order

one_order : (p q : MapState) → join greater p q ≡ join greater q p
one_order p q = same_is (join greater p q) (join greater q p) (join-comm greater greater-comm p q)

grouped : (p q r : MapState) → join greater (join greater p q) r ≡ join greater p (join greater q r)
grouped p q r = same_is (join greater (join greater p q) r) (join greater p (join greater q r)) (join-assoc greater greater-assoc p q r)

pub below_other : (p d : MapState) → IsBelow d (join greater p d)
below_other p d = subst (IsBelow d) (one_order d p) (below_join d p)

-- the join is the least above both
pub join_below : (p d q : MapState) → IsBelow p q → IsBelow d q → IsBelow (join greater p d) q
join_below p d q first second =
    is_same (join greater q (join greater p d)) q
    (sym (grouped q p d) ∙ ap (λ x. join greater x d) (same_is (join greater q p) q first) ∙ same_is (join greater q d) q second)

pub below_both : (p q : MapState) → IsBelow p q → IsBelow q p → p ≡ q
below_both p q first second = sym (same_is (join greater p q) p second) ∙ one_order p q ∙ same_is (join greater q p) q first

-- a state that is below one is joined in for nothing
pub join_above : (p q : MapState) → IsBelow p q → join greater p q ≡ q
join_above p q below = one_order p q ∙ same_is (join greater q p) q below

-- ---- in whatever order

module _ (xs ys : List (List ℕ)) (there : (string : List ℕ) → Contains xs string → Contains ys string)
    (back : (string : List ℕ) → Contains ys string → Contains xs string) where
  says_there : (e : Entry) → Says xs e → Says ys e
  says_there e says = (says.0, there says.0 says.1, says.2)

  says_back : (e : Entry) → Says ys e → Says xs e
  says_back e says = (says.0, back says.0 says.1, says.2)

  pub rebuilt_same : (r : Replica) → IsRebuilt xs r → IsRebuilt ys r
  rebuilt_same r is = record {
    named = says_there (Named r.name) is.named;
    alone = λ name says. is.alone name (says_back (Named name) says);
    above = λ d says. is.above d (says_back (Changed d) says);
    least = λ p below. is.least p (λ d says. below d (says_there (Changed d) says));
    numbers = λ n says. is.numbers n (says_back (Opened n) says);
    newest = elim is.newest [ inl none ↦ inl none | inr says ↦ inr (says_there (Opened r.opened) says) ];
    group = is.group;
    sessions = is.sessions;
    kept = is.kept;
  }

pub rebuilt_any : (xs ys : List (List ℕ)) (r : Replica) → IsPermutation xs ys → IsRebuilt xs r → IsRebuilt ys r
rebuilt_any xs ys r moved is =
    rebuilt_same xs ys (λ s h. Contains-permutation xs ys s moved h) (λ s h. Contains-permutation ys xs s (IsPermutation-sym xs ys moved) h) r is

-- and it is one replica
pub one_rebuilt : (xs : List (List ℕ)) (r s : Replica) → IsRebuilt xs r → IsRebuilt xs s → r ≡ s
one_rebuilt xs r s p q =
    let name : r.name ≡ s.name = q.alone r.name p.named in
    let live : r.live ≡ s.live = below_both r.live s.live (p.least s.live q.above) (q.least r.live p.above) in
    let opened : r.opened ≡ s.opened = one_newest p q in
    λ i. record {
      name = name i;
      live = live i;
      group = (p.group ∙ sym q.group) i;
      opened = opened i;
      sessions = (p.sessions ∙ sym q.sessions) i;
      kept = (p.kept ∙ sym q.kept) i;
    }
  where
    up : (a b : Replica) → IsRebuilt xs a → IsRebuilt xs b → a.opened ≤ b.opened
    up a b p q = elim p.newest [ inl none ↦ omega (arith, none) | inr says ↦ q.numbers a.opened says ]

    one_newest : IsRebuilt xs r → IsRebuilt xs s → r.opened ≡ s.opened
    one_newest p q = omega (arith, up r s p q, up s r q p)

pub one_replica : OneReplica
one_replica xs ys r s same p q = one_rebuilt ys r s (rebuilt_same xs ys (λ string. (same string).0) (λ string. (same string).1) r p) q

-- ---- one string more

module _ (string : List ℕ) (strings : List (List ℕ)) where
  more : (e : Entry) → Says strings e → Says (string ∷ strings) e
  more e says = (says.0, in_tail string strings says.0 says.1, says.2)

  said : (e : Entry) → IsEntry string e → Says (string ∷ strings) e
  said e is = (string, at_head string strings, is)

  -- what is said is said by the new one or was said
  either : (e : Entry) → Says (string ∷ strings) e → IsEntry string e ⊎ Says strings e
  either e says = elim (head_or_tail string strings says.0 says.1)
      [ inl new ↦ inl (subst (λ s. IsEntry s e) (sym new) says.2) | inr old ↦ inr (says.0, old, says.2) ]

  apart : (k l : ℕ) (a b : List ℕ) → string ≡ k ∷ a → string ≡ l ∷ b → k ≡ l
  apart k l a b p q = one_kind string a b k l p q

  pub rebuilt_delta : (r : Replica) (d : MapState) → SaysDelta string d → IsRebuilt strings r
      → IsRebuilt (string ∷ strings) (record r { live = join greater r.live d })
  rebuilt_delta r d says is = record {
    named = more (Named r.name) is.named;
    alone = λ name named. elim (either (Named name) named)
        [ inl new ↦ absurd (omega (arith, apart NAMED CHANGED new.bytes says.bytes new.is says.is)) | inr old ↦ is.alone name old ];
    above = λ e changed. elim (either (Changed e) changed) [
      | inl new ↦ subst (λ x. IsBelow x (join greater r.live d)) (one_state string d e says new) (below_other r.live d)
      | inr old ↦ below_below e r.live (join greater r.live d) (is.above e old) (below_join r.live d)
    ];
    least = λ p below. join_below r.live d p (is.least p (λ e old. below e (more (Changed e) old))) (below d (said (Changed d) says));
    numbers = λ n opened. elim (either (Opened n) opened)
        [ inl new ↦ absurd (omega (arith, apart OPENED CHANGED new.bytes says.bytes new.is says.is)) | inr old ↦ is.numbers n old ];
    newest = elim is.newest [ inl none ↦ inl none | inr old ↦ inr (more (Opened r.opened) old) ];
    group = is.group;
    sessions = is.sessions;
    kept = is.kept;
  }

  pub rebuilt_number : (r : Replica) (n : ℕ) → SaysNumber OPENED string n → r.opened ≤ n → IsRebuilt strings r
      → IsRebuilt (string ∷ strings) (record r { opened = n })
  rebuilt_number r n says after is = record {
    named = more (Named r.name) is.named;
    alone = λ name named. elim (either (Named name) named)
        [ inl new ↦ absurd (omega (arith, apart NAMED OPENED new.bytes says.bytes new.is says.is)) | inr old ↦ is.alone name old ];
    above = λ e changed. elim (either (Changed e) changed)
        [ inl new ↦ absurd (omega (arith, apart CHANGED OPENED new.bytes says.bytes new.is says.is)) | inr old ↦ is.above e old ];
    least = λ p below. is.least p (λ e old. below e (more (Changed e) old));
    numbers = λ m opened. elim (either (Opened m) opened) [
      | inl new ↦ (let e = one_number OPENED string m n new says in omega (arith, e))
      | inr old ↦ (let e = is.numbers m old in omega (arith, e, after))
    ];
    newest = inr (said (Opened n) says);
    group = is.group;
    sessions = is.sessions;
    kept = is.kept;
  }

  pub rebuilt_name : (r : Replica) → SaysNumber NAMED string r.name → IsRebuilt strings r → IsRebuilt (string ∷ strings) r
  rebuilt_name r says is = record {
    named = more (Named r.name) is.named;
    alone = λ name named. elim (either (Named name) named) [ inl new ↦ one_number NAMED string name r.name new says | inr old ↦ is.alone name old ];
    above = λ e changed. elim (either (Changed e) changed)
        [ inl new ↦ absurd (omega (arith, apart CHANGED NAMED new.bytes says.bytes new.is says.is)) | inr old ↦ is.above e old ];
    least = λ p below. is.least p (λ e old. below e (more (Changed e) old));
    numbers = λ m opened. elim (either (Opened m) opened)
        [ inl new ↦ absurd (omega (arith, apart OPENED NAMED new.bytes says.bytes new.is says.is)) | inr old ↦ is.numbers m old ];
    newest = elim is.newest [ inl none ↦ inl none | inr old ↦ inr (more (Opened r.opened) old) ];
    group = is.group;
    sessions = is.sessions;
    kept = is.kept;
  }

-- the first string of all is the name
pub nothing_below : (p : MapState) → IsBelow (state []) p
nothing_below p = record { at = λ place dot. by (p.at place dot) (p.has dot); has = λ dot. or_false (p.has dot) }
  where
    by : (o : Option (List ℕ)) (b : Bool) → joined greater o b None false ≡ o
    by None b = refl
    by (Some y) b = refl

    or_false : (b : Bool) → (b || false) ≡ b
    or_false true = refl
    or_false false = refl

pub rebuilt_first : (string : List ℕ) (name : ℕ) → SaysNumber NAMED string name → IsRebuilt (string ∷ []) (fresh name)
rebuilt_first string name says = record {
  named = (string, at_head string [], says);
  alone = λ other named. one_number NAMED string other name (by (Named other) named) says;
  above = λ d changed. absurd (let new = by (Changed d) changed in omega (arith, one_kind string new.bytes says.bytes CHANGED NAMED new.is says.is));
  least = λ p below. nothing_below p;
  numbers = λ n opened. absurd (let new = by (Opened n) opened in omega (arith, one_kind string new.bytes says.bytes OPENED NAMED new.is says.is));
  newest = inl refl;
  group = refl;
  sessions = refl;
  kept = refl;
}
  where
    by : (e : Entry) → Says (string ∷ []) e → IsEntry string e
    by e says = elim (head_or_tail string [] says.0 says.1) [ inl new ↦ subst (λ s. IsEntry s e) (sym new) says.2 | inr none ↦ absurd (nothing_in says.0 none) ]
