-- Groups of deltas, to which one is added, or which are joined part by part: over plain variables.
use Rattle.std.proofs.Common.{◌≡◌, ℕ, ◌+◌, ◌<◌, ◌≤◌, drop, min, take, length, zero, suc, List, [], ◌∷◌, ◌++◌, fold, sym, ◌∙◌, ap, subst, refl, arith, get_or}
use Rattle.std.specs.Prelude.{◌↔◌, ◌-◌, Bool, false, Result, Ok, Err, IfOk, IfSome, IfNone, IsTrue, is_some, Option, Some, None, IsSome, option_to_list, slice_get}
use Rattle.std.proofs.lemmas.Bool.{or_from, or_parts}
use Rattle.std.proofs.lemmas.List.Sums.{fold-append}
use Rattle.std.proofs.lemmas.List.{drop-map, drop_min, get_or-take, length-drop, length-map, length-take-le, map-append, take-map, take_at, take_min}
use Rattle.std.proofs.Math.Seq.{take-add, take-length}
use Rattle.std.specs.declared.sync.Arc.{Arc}
use Rattle.causal_context.specs.Context.{HasNone, has}
use Rattle.dots.specs.Dot.{DotValue}
use Rattle.delta_ops.specs.Group.{group_state}
use Rattle.causal_join.specs.Causal.{state_of}
use Rattle.causal_join.specs.OrMap.{OrMapValue, or_map_at, or_map_state, path_of}
use Rattle.delta_ops.specs.Log.{deltas_of}
use Rattle.op_model.specs.Meaning.{MapState, greater, state}
use Rattle.op_model.specs.State.{Same, join, joined}
use Rattle.op_model.proofs.Greater.{greater-assoc}
use Rattle.op_model.proofs.Joins.{join-assoc, join-same, same-itself, same-back, same-chain, or_comm}

-- the join of pairs is that of their states
pub join-states : (both p q : OrMapValue) → Same (state_of or_map_at both) (join greater (state_of or_map_at p) (state_of or_map_at q))
    → Same (or_map_state both) (join greater (or_map_state p) (or_map_state q))
join-states both p q same = record { at = λ place dot. same.at (path_of place) dot; has = same.has }

pub copy-states : (copy p : OrMapValue) → Same (state_of or_map_at copy) (state_of or_map_at p) → Same (or_map_state copy) (or_map_state p)
copy-states copy p same = record { at = λ place dot. same.at (path_of place) dot; has = same.has }

-- the same of what a call answers
pub both-joined : {E : Type 0} (r : Result OrMapValue E) (p q : OrMapValue)
    → IfOk r (λ both. Same (state_of or_map_at both) (join greater (state_of or_map_at p) (state_of or_map_at q)))
    → IfOk r (λ whole. Same (or_map_state whole) (join greater (or_map_state p) (or_map_state q)))
both-joined (Ok both) p q same = join-states both p q same
both-joined (Err e) p q same = tt

-- and of a copy
pub copied-state : {E : Type 0} (r : Result OrMapValue E) (p : OrMapValue) → IfOk r (λ copy. Same (state_of or_map_at copy) (state_of or_map_at p))
    → IfOk r (λ copy. Same (or_map_state copy) (or_map_state p))
copied-state (Ok copy) p same = copy-states copy p same
copied-state (Err e) p same = tt

pub copied-group : {E : Type 0} (r : Result OrMapValue E) (p : OrMapValue) (group : MapState) → Same (or_map_state p) group
    → IfOk r (λ copy. Same (or_map_state copy) (or_map_state p)) → IfOk r (λ copy. Same (or_map_state copy) group)
copied-group (Ok copy) p group is same = same-chain _ _ _ same is
copied-group (Err e) p group is same = tt

-- the state of no operation changes nothing
joined-none : {H : Type 0} (top : H → H → H) (b : Option H) (t : Bool) → joined top None false b t ≡ b
joined-none top None t = refl
joined-none top (Some v) t = refl

joined-with_none : {H : Type 0} (top : H → H → H) (b : Option H) (t : Bool) → joined top b t None false ≡ b
joined-with_none top None t = refl
joined-with_none top (Some v) t = refl

pub none-join : (p : MapState) → Same (join greater (state []) p) p
none-join p = record { at = λ place dot. joined-none greater (p.at place dot) (p.has dot); has = λ dot. refl }

pub join-none : (p : MapState) → Same (join greater p (state [])) p
join-none p = record { at = λ place dot. joined-with_none greater (p.at place dot) (p.has dot); has = λ dot. or_comm (p.has dot) false }

pub group-push : (pairs : List OrMapValue) (pair : OrMapValue) → group_state (pairs ++ pair ∷ []) ≡ join greater (group_state pairs) (or_map_state pair)
group-push pairs pair = fold-append (λ group pair. join greater group (or_map_state pair)) (state []) pairs (pair ∷ [])

-- the pairs joined on to a state: the join with their group
group-from : (start : MapState) (pairs : List OrMapValue) → Same (fold (λ group pair. join greater group (or_map_state pair)) start pairs)
    (join greater start (group_state pairs))
group-from start [] = same-back _ _ (join-none start)
group-from start (pair ∷ pairs) =
    let first = or_map_state pair in
    let rest = group_state pairs in
    same-chain _ _ _ (group-from (join greater start first) pairs)
    (same-chain _ _ _ (join-assoc greater greater-assoc start first rest)
    (join-same greater start (join greater first rest) start (group_state (pair ∷ pairs)) (same-itself start)
    (same-back _ _ (same-chain _ _ _ (group-from (join greater (state []) first) pairs)
    (join-same greater (join greater (state []) first) rest first rest (none-join first) (same-itself rest))))))

pub group-append : (older newer : List OrMapValue) → Same (group_state (older ++ newer)) (join greater (group_state older) (group_state newer))
group-append older newer = rw (fold-append (λ group pair. join greater group (or_map_state pair)) (state []) older newer) (group-from (group_state older) newer)

-- the group of one and of two
pub group-of_one : (whole pair : OrMapValue) → Same (or_map_state whole) (or_map_state pair) → Same (or_map_state whole) (group_state (pair ∷ []))
group-of_one whole pair is = same-chain _ _ _ is (same-back _ _ (none-join (or_map_state pair)))

pub group-of_two : (whole older newer : OrMapValue) → Same (or_map_state whole) (join greater (or_map_state older) (or_map_state newer))
    → Same (or_map_state whole) (group_state (older ∷ newer ∷ []))
group-of_two whole older newer is =
    same-chain _ _ _ is (join-same greater (or_map_state older) (or_map_state newer) (group_state (older ∷ [])) (or_map_state newer)
    (same-back _ _ (none-join (or_map_state older))) (same-itself (or_map_state newer)))

-- ---- lists that are written out
pub list_of_none : {X : Type 0} (xs : List X) → length xs ≡ 0 → xs ≡ []
list_of_none [] n = refl
list_of_none (x ∷ xs) n = absurd (omega arith)

pub list_of_one : {X : Type 0} (xs : List X) (a : X) → length xs ≡ 1 → a ≡ get_or xs 0 a → xs ≡ a ∷ []
list_of_one [] a n at = absurd (omega arith)
list_of_one (x ∷ xs) a n at = let none = list_of_none xs (omega arith) in λ i. sym at i ∷ none i

pub list_of_two : {X : Type 0} (xs : List X) (a b : X) → length xs ≡ 2 → a ≡ get_or xs 0 a → b ≡ get_or xs 1 b → xs ≡ a ∷ b ∷ []
list_of_two [] a b n at next = absurd (omega arith)
list_of_two (x ∷ xs) a b n at next = let rest = list_of_one xs b (omega arith) next in λ i. sym at i ∷ rest i

-- a list whose last item is taken out
snoc_same : {X : Type 0} (xs ys : List X) (x y : X) → xs ++ x ∷ [] ≡ ys ++ y ∷ [] → xs ≡ ys
snoc_same [] [] x y e = refl
snoc_same [] (b ∷ []) x y e = absurd (cc e)
snoc_same [] (b ∷ c ∷ ys) x y e = absurd (cc e)
snoc_same (a ∷ []) [] x y e = absurd (cc e)
snoc_same (a ∷ c ∷ xs) [] x y e = absurd (cc e)
snoc_same (a ∷ xs) (b ∷ ys) x y e =
    let head : a ≡ b = cc in
    let tail : xs ++ x ∷ [] ≡ ys ++ y ∷ [] = cc in
    let rest = snoc_same xs ys x y tail in
    (λ i. head i ∷ rest i)

no_snoc : {X : Type 0} (ys : List X) (y : X) → [] ≡ ys ++ y ∷ [] → ⊥
no_snoc [] y e = absurd (cc e)
no_snoc (b ∷ ys) y e = absurd (cc e)

-- the state that pairs are joined on to knows no more than the group
known_less : (start : MapState) (pairs : List OrMapValue) (d : DotValue)
    → (fold (λ group pair. join greater group (or_map_state pair)) start pairs).has d ≡ false → start.has d ≡ false
known_less start [] d none = none
known_less start (pair ∷ pairs) d none =
    (or_parts (start.has d) (has pair.1 d) (known_less (join greater start (or_map_state pair)) pairs d none)).0

-- what more of the oldest do not know, fewer do not
pub known_front : (pairs : List OrMapValue) (n m : ℕ) → n ≤ m → (d : DotValue) → (group_state (take m pairs)).has d ≡ false
    → (group_state (take n pairs)).has d ≡ false
known_front pairs n m less d none =
    let more = take (m - n) (drop n pairs) in
    let parts : take m pairs ≡ take n pairs ++ more = ap (λ k. take k pairs) (omega (arith, less)) ∙ take-add n (m - n) pairs in
    known_less (group_state (take n pairs)) more d
    (sym (ap (λ (s : MapState). s.has d) (fold-append (λ group pair. join greater group (or_map_state pair)) (state []) (take n pairs) more))
    ∙ sym (ap (λ (ps : List OrMapValue). (group_state ps).has d) parts) ∙ none)

-- whether any delta knows a dot is told by the first that does
pub knows_first : (pairs : List OrMapValue) (found : Option ℕ) (is : Bool) → is ≡ is_some found
    → IfSome found (λ n. (0 < n) × (n ≤ length pairs) × ((d : DotValue) → (group_state (take (n - 1) pairs)).has d ≡ false)
    × (((d : DotValue) → (group_state (take n pairs)).has d ≡ false) → ⊥))
    → IfNone found ((d : DotValue) → (group_state pairs).has d ≡ false) → IsTrue is ↔ (((d : DotValue) → (group_state pairs).has d ≡ false) → ⊥)
knows_first pairs (Some n) is same some none = (
  (λ t all. some.3 (λ d. known_front pairs n (length pairs) some.1 d
      (ap (λ (ps : List OrMapValue). (group_state ps).has d) (take-length pairs) ∙ all d))),
  (λ h. same),
)
knows_first pairs None is same some none = ((λ t. absurd (cc (t, same))), (λ h. absurd (h none)))

module _ {A : Type 0} where
  -- the log with one more delta at the end
  pub deltas_of-push : (log : List (Arc OrMapValue A)) (delta : Arc OrMapValue A) → deltas_of (log ++ delta ∷ []) ≡ deltas_of log ++ delta.value ∷ []
  deltas_of-push log delta = map-append (λ delta. delta.value) log (delta ∷ [])

  pub deltas_of-append : (older newer : List (Arc OrMapValue A)) → deltas_of (older ++ newer) ≡ deltas_of older ++ deltas_of newer
  deltas_of-append older newer = map-append (λ delta. delta.value) older newer

  -- what a push leaves
  pub log-pushed : (old new : List (Arc OrMapValue A)) (delta : Arc OrMapValue A) → new ≡ old ++ delta ∷ [] → deltas_of new ≡ deltas_of old ++ delta.value ∷ []
  log-pushed old new delta is = ap deltas_of is ∙ deltas_of-push old delta

  -- the oldest of a log, and the others
  pub front_is : (log items : List (Arc OrMapValue A)) (now : List OrMapValue) (n m number : ℕ) → items ≡ log → deltas_of log ≡ now → m ≡ min number (length log)
      → n ≡ m → deltas_of (take n items) ≡ take number now
  front_is log items now n m number same is least eq =
      sym (take-map (λ (delta : Arc OrMapValue A). delta.value) n items) ∙ ap (λ l. take n (deltas_of l)) same ∙ ap (take n) is
      ∙ ap (λ k. take k now) (eq ∙ least ∙ ap (min number) (sym (length-map log (λ delta. delta.value)) ∙ ap length is)) ∙ take_min number now

  pub rest_is : (log turned new : List (Arc OrMapValue A)) (now : List OrMapValue) (n left number : ℕ) → deltas_of log ≡ now → n ≡ min number (length log)
      → left ≡ length log - n → turned ≡ drop n log ++ take n log → new ≡ take left turned → deltas_of new ≡ drop number now
  rest_is log turned new now n left number is least rest rotated cut =
      ap deltas_of (cut ∙ ap (take left) rotated ∙ take_at (drop n log) (take n log) left (length-drop n log ∙ sym rest))
      ∙ sym (drop-map (λ (delta : Arc OrMapValue A). delta.value) n log) ∙ ap (drop n) is
      ∙ ap (λ k. drop k now) (least ∙ ap (min number) (sym (length-map log (λ delta. delta.value)) ∙ ap length is)) ∙ drop_min number now

  -- ---- whether a log knows a dot
  none_from : (start : MapState) (log : List (Arc OrMapValue A)) (i : ℕ) (x : Arc OrMapValue A) → i < length log → x ≡ get_or log i x
      → ((d : DotValue) → (fold (λ group pair. join greater group (or_map_state pair)) start (deltas_of log)).has d ≡ false) → HasNone x.value.1
  none_from start [] i x less is none d = absurd (omega arith)
  none_from start (y ∷ log) zero x less is none d =
      let here = known_less (join greater start (or_map_state y.value)) (deltas_of log) d (none d) in
      subst (λ (z : Arc OrMapValue A). has z.value.1 d ≡ false) (sym is) (or_parts (start.has d) (has y.value.1 d) here).1
  none_from start (y ∷ log) (suc i) x less is none d = none_from (join greater start (or_map_state y.value)) log i x (omega arith) is none d

  -- where the whole log knows none, no delta of it does; and one more that knows none leaves it so
  pub none_at : (log : List (Arc OrMapValue A)) (i : ℕ) (x : Arc OrMapValue A) → i < length log → x ≡ get_or log i x
      → ((d : DotValue) → (group_state (deltas_of log)).has d ≡ false) → HasNone x.value.1
  none_at = none_from (state [])

  pub none_next : (log next : List (Arc OrMapValue A)) (x : Arc OrMapValue A) → next ≡ log ++ x ∷ []
      → ((d : DotValue) → (group_state (deltas_of log)).has d ≡ false) → HasNone x.value.1
      → (d : DotValue) → (group_state (deltas_of next)).has d ≡ false
  none_next log next x is none here d =
      ap (λ (p : List OrMapValue). (group_state p).has d) (log-pushed log next x is)
      ∙ ap (λ (p : MapState). p.has d) (group-push (deltas_of log) x.value)
      ∙ or_from ((group_state (deltas_of log)).has d) (has x.value.1 d) (none d) (here d)

  -- as many of the oldest know none, and with the next one more of them do
  pub none_before : (log : List (Arc OrMapValue A)) (now : List OrMapValue) (i n : ℕ) → deltas_of log ≡ now → n ≡ i
      → ((d : DotValue) → (group_state (deltas_of (take i log))).has d ≡ false) → (d : DotValue) → (group_state (take n now)).has d ≡ false
  none_before log now i n same is none d =
      ap (λ (ps : List OrMapValue). (group_state ps).has d)
      (ap (λ k. take k now) is ∙ ap (take i) (sym same) ∙ take-map (λ (delta : Arc OrMapValue A). delta.value) i log) ∙ none d

  pub known_at : (log : List (Arc OrMapValue A)) (now : List OrMapValue) (i : ℕ) (x : Arc OrMapValue A) (n : ℕ) → deltas_of log ≡ now → n ≡ i + 1
      → i < length log → x ≡ get_or log i x → ((d : DotValue) → (group_state (take n now)).has d ≡ false) → HasNone x.value.1
  known_at log now i x n same is less at none =
      let room = length-take-le (i + 1) log (omega (arith, less)) in
      none_at (take (i + 1) log) i x (omega (arith, room)) (at ∙ sym (get_or-take (i + 1) log i x (omega arith)))
      (λ d. ap (λ (ps : List OrMapValue). (group_state ps).has d)
      (sym (take-map (λ (delta : Arc OrMapValue A). delta.value) (i + 1) log) ∙ ap (take (i + 1)) same ∙ ap (λ k. take k now) (sym is)) ∙ none d)

  -- ---- the join of a log, part by part
  pub joined-one : {E : Type 0} (r : Result OrMapValue E) (log : List (Arc OrMapValue A)) (only : Arc OrMapValue A) → log ≡ only ∷ []
      → IfOk r (λ copy. Same (or_map_state copy) (or_map_state only.value))
      → IfOk r (λ whole. Same (or_map_state whole) (group_state (deltas_of log)))
  joined-one (Ok copy) log only is same =
      subst (λ (l : List (Arc OrMapValue A)). Same (or_map_state copy) (group_state (deltas_of l))) (sym is) (group-of_one copy only.value same)
  joined-one (Err e) log only is same = tt

  pub joined-two : {E : Type 0} (r : Result OrMapValue E) (log : List (Arc OrMapValue A)) (older newer : Arc OrMapValue A) → log ≡ older ∷ newer ∷ []
      → IfOk r (λ both. Same (state_of or_map_at both) (join greater (state_of or_map_at older.value) (state_of or_map_at newer.value)))
      → IfOk r (λ whole. Same (or_map_state whole) (group_state (deltas_of log)))
  joined-two (Ok both) log older newer is same =
      subst (λ (l : List (Arc OrMapValue A)). Same (or_map_state both) (group_state (deltas_of l))) (sym is)
      (group-of_two both older.value newer.value (join-states both older.value newer.value same))
  joined-two (Err e) log older newer is same = tt

  pub joined-halves : {E : Type 0} (r : Result OrMapValue E) (log first second : List (Arc OrMapValue A)) (older newer : OrMapValue) → log ≡ first ++ second
      → Same (or_map_state older) (group_state (deltas_of first))
      → Same (or_map_state newer) (group_state (deltas_of second))
      → IfOk r (λ whole. Same (or_map_state whole) (join greater (or_map_state older) (or_map_state newer)))
      → IfOk r (λ whole. Same (or_map_state whole) (group_state (deltas_of log)))
  joined-halves (Ok whole) log first second older newer parts left right is =
      subst (λ (pairs : List OrMapValue). Same (or_map_state whole) (group_state pairs)) (sym (ap deltas_of parts ∙ deltas_of-append first second))
      (same-chain _ _ _ is
      (same-chain _ _ _ (join-same greater (or_map_state older) (or_map_state newer) (group_state (deltas_of first)) (group_state (deltas_of second))
      left right)
      (same-back _ _ (group-append (deltas_of first) (deltas_of second)))))
  joined-halves (Err e) log first second older newer parts left right is = tt

  -- a log that became one delta
  pub log-settled : (log emptied new : List (Arc OrMapValue A)) (group : Arc OrMapValue A) (whole : OrMapValue) (old : List OrMapValue) → deltas_of log ≡ old
      → Same (or_map_state whole) (group_state (deltas_of log)) → group.value ≡ whole
      → emptied ≡ [] → new ≡ emptied ++ group ∷ [] → Same (group_state (deltas_of new)) (group_state old)
  log-settled log emptied new group whole old was is value none becomes =
      let only : deltas_of new ≡ whole ∷ [] = ap deltas_of (becomes ∙ ap (λ l. l ++ group ∷ []) none) ∙ ap (λ pair. pair ∷ []) value in
      let before : Same (or_map_state whole) (group_state old) = subst (λ (pairs : List OrMapValue). Same (or_map_state whole) (group_state pairs)) was is in
      subst (λ (pairs : List OrMapValue). Same (group_state pairs) (group_state old)) (sym only)
      (same-chain _ _ _ (same-back _ _ (group-of_one whole whole (same-itself (or_map_state whole)))) before)

  -- the delta that stands last is the newest, and goes where it is taken back
  pub taken_back : (old new : List (Arc OrMapValue A)) (r : Option (Arc OrMapValue A)) → old ≡ new ++ option_to_list r → (IsSome r ↔ (0 < length old))
      → (rest : List OrMapValue) (pair : OrMapValue) → deltas_of old ≡ rest ++ pair ∷ [] → deltas_of new ≡ rest
  taken_back old new (Some delta) items some rest pair is = snoc_same (deltas_of new) rest delta.value pair
      (sym (deltas_of-push new delta) ∙ sym (ap deltas_of items) ∙ is)
  taken_back [] new None items some rest pair is = absurd (no_snoc rest pair is)
  taken_back (x ∷ old) new None items some rest pair is = absurd (cc (some.1 (omega arith)))

  pub last_delta : (log : List (Arc OrMapValue A)) (rest : List OrMapValue) (pair : OrMapValue) (delta : Arc OrMapValue A) → deltas_of log ≡ rest ++ pair ∷ []
      → slice_get log (length log - 1) ≡ Some delta → delta.value ≡ pair
  last_delta [] rest pair delta is found = absurd (no_snoc rest pair is)
  last_delta (x ∷ []) [] pair delta is found =
      let same : x ≡ delta = cc in
      let value : x.value ≡ pair = cc in
      subst (λ r. r.value ≡ pair) same value
  last_delta (x ∷ []) (b ∷ rest) pair delta is found = let e : [] ≡ rest ++ pair ∷ [] = cc in absurd (no_snoc rest pair e)
  last_delta (x ∷ y ∷ log) [] pair delta is found = absurd (cc is)
  last_delta (x ∷ y ∷ log) (b ∷ rest) pair delta is found =
      let tail : deltas_of (y ∷ log) ≡ rest ++ pair ∷ [] = cc in
      let n : length (x ∷ y ∷ log) - 1 ≡ suc (length (y ∷ log) - 1) = omega arith in
      last_delta (y ∷ log) rest pair delta tail (ap (slice_get (x ∷ y ∷ log)) (sym n) ∙ found)

  pub last_there : (log : List (Arc OrMapValue A)) (rest : List OrMapValue) (pair : OrMapValue) → deltas_of log ≡ rest ++ pair ∷ []
      → slice_get log (length log - 1) ≡ None → ⊥
  last_there [] rest pair is none = no_snoc rest pair is
  last_there (x ∷ []) rest pair is none = absurd (cc none)
  last_there (x ∷ y ∷ log) [] pair is none = absurd (cc is)
  last_there (x ∷ y ∷ log) (b ∷ rest) pair is none =
      let tail : deltas_of (y ∷ log) ≡ rest ++ pair ∷ [] = cc in
      let n : length (x ∷ y ∷ log) - 1 ≡ suc (length (y ∷ log) - 1) = omega arith in
      last_there (y ∷ log) rest pair tail (ap (slice_get (x ∷ y ∷ log)) (sym n) ∙ none)

  pub no_last : (log : List (Arc OrMapValue A)) (delta : Arc OrMapValue A) → deltas_of log ≡ [] → slice_get log (length log - 1) ≡ Some delta → ⊥
  no_last [] delta is found = absurd (cc found)
  no_last (x ∷ log) delta is found = absurd (cc is)
