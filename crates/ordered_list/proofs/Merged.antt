-- Two lists of entries whose keys ascend, gone through together.
use Rattle.std.proofs.Common.{◌≡◌, Bool, true, false, cond, ◌||◌, IsTrue, is_some, List, [], ◌∷◌, length, Option, Some, None, refl, sym, ap, ◌∙◌, arith}
use Rattle.std.specs.declared.cmp.Ordering.{Ordering}
use Rattle.std.specs.declared.cmp.Ordering.TheVariants.{Less, Equal, Greater}
use Rattle.std.specs.Ordering.{is_eq, is_gt}
use Rattle.std.specs.Cmp.{IsTotalOrder, eq_by_cmp_equiv}
use Rattle.std.specs.Map.{lookup, keys_of}
use Rattle.std.specs.BTreeMap.{is_at}
use Rattle.std.proofs.lemmas.Cmp.{tied_itself}
use Rattle.ordered_list.specs.Places.{value_at}
use Rattle.ordered_list.specs.Merged.{IsTurn}
use Rattle.ordered_list.proofs.Places.{Ascends, IsBelow, ascends_head, below_all, less_from_greater, not_found_below}

module _ {K V : Type 0} (cmp : K → K → Ordering) (total : IsTotalOrder cmp) where
  -- keys that are equal find the same
  lookup_along : (x q : K) (es : List (K × V)) → is_eq (cmp x q) ≡ true → lookup (is_at (cmp q)) es ≡ lookup (is_at (cmp x)) es
  lookup_along x q [] h = refl
  lookup_along x q (e ∷ es) h = rw ((eq_by_cmp_equiv total).congr x q e.0 h, lookup_along x q es h) refl

  untouched_by : (b : Bool) (o : Option V) → (b ≡ true → o ≡ None) → o ≡ cond b None o
  untouched_by true o h = h refl
  untouched_by false o h = refl

  -- a list with no key that is equal to x is what it was at the other keys
  untouched : (x : K) (es : List (K × V)) → lookup (is_at (cmp x)) es ≡ None → (q : K)
      → lookup (is_at (cmp q)) es ≡ cond (is_eq (cmp x q)) None (lookup (is_at (cmp q)) es)
  untouched x es none q = untouched_by (is_eq (cmp x q)) (lookup (is_at (cmp q)) es) (λ h. lookup_along x q es h ∙ none)

  first_by : (b : Bool) (v : V) (o : Option V) → (b ≡ true → o ≡ None) → o ≡ cond b None (cond b (Some v) o)
  first_by true v o h = h refl
  first_by false v o h = refl

  -- so is one without its first entry
  without_first : (e : K × V) (es : List (K × V)) → lookup (is_at (cmp e.0)) es ≡ None → (q : K)
      → lookup (is_at (cmp q)) es ≡ cond (is_eq (cmp e.0 q)) None (lookup (is_at (cmp q)) (e ∷ es))
  without_first e es none q =
      rw ((eq_by_cmp_equiv total).symm q e.0) (first_by (is_eq (cmp e.0 q)) e.1 (lookup (is_at (cmp q)) es) (λ h. lookup_along e.0 q es h ∙ none))

  found_first : (x : K) (e : K × V) (es : List (K × V)) → cmp x e.0 ≡ Equal → lookup (is_at (cmp x)) (e ∷ es) ≡ Some e.1
  found_first x e es h = rw h refl

  -- a key that x is above stands in no list whose keys x is below
  absent_below : (x q : K) (es : List (K × V)) → IsBelow cmp x es → cmp x q ≡ Greater → value_at cmp es q ≡ None
  absent_below x q es below h = not_found_below cmp q es (below_all cmp total q x (keys_of es) (less_from_greater cmp total x q h) below)

  -- nor in one whose first key is x
  absent_before : (e : K × V) (es : List (K × V)) (q : K) → Ascends cmp (e ∷ es) → cmp e.0 q ≡ Greater → value_at cmp (e ∷ es) q ≡ None
  absent_before e es q s h =
      let less = less_from_greater cmp total e.0 q h in
      not_found_below cmp q (e ∷ es) (less, below_all cmp total q e.0 (keys_of es) less (ascends_head cmp e es s))

  least_by : (o : Ordering) (mine yours : Option V) → (o ≡ Greater → mine ≡ None) → (o ≡ Greater → yours ≡ None) → IsTrue (is_some mine || is_some yours)
      → is_gt o ≡ false
  least_by Less mine yours h k found = refl
  least_by Equal mine yours h k found = refl
  least_by Greater mine yours h k found = absurd (cc (h refl, k refl, found))

  -- ---- the turns, where each list is empty or has a first entry
  pub turn_mine : (e : K × V) (es yours : List (K × V)) → Ascends cmp (e ∷ es) → IsBelow cmp e.0 yours → IsTurn cmp (e ∷ es) yours es yours e.0 (Some e.1) None
  turn_mine e es yours s below =
      let none = not_found_below cmp e.0 es (ascends_head cmp e es s) in
      let absent = not_found_below cmp e.0 yours below in
      record {
        mine_at = found_first e.0 e es (tied_itself total e.0);
        yours_at = absent;
        somewhere = refl;
        least = λ q. least_by (cmp e.0 q) (value_at cmp (e ∷ es) q) (value_at cmp yours q) (absent_before e es q s) (absent_below e.0 q yours below);
        mine_past = without_first e es none;
        yours_past = untouched e.0 yours absent;
        fewer = omega arith;
      }

  pub turn_yours : (f : K × V) (fs mine : List (K × V)) → Ascends cmp (f ∷ fs) → IsBelow cmp f.0 mine → IsTurn cmp mine (f ∷ fs) mine fs f.0 None (Some f.1)
  turn_yours f fs mine s below =
      let none = not_found_below cmp f.0 fs (ascends_head cmp f fs s) in
      let absent = not_found_below cmp f.0 mine below in
      record {
        mine_at = absent;
        yours_at = found_first f.0 f fs (tied_itself total f.0);
        somewhere = refl;
        least = λ q. least_by (cmp f.0 q) (value_at cmp mine q) (value_at cmp (f ∷ fs) q) (absent_below f.0 q mine below) (absent_before f fs q s);
        mine_past = untouched f.0 mine absent;
        yours_past = without_first f fs none;
        fewer = omega arith;
      }

  pub turn_both : (e f : K × V) (es fs : List (K × V)) → Ascends cmp (e ∷ es) → Ascends cmp (f ∷ fs) → cmp e.0 f.0 ≡ Equal
      → IsTurn cmp (e ∷ es) (f ∷ fs) es fs e.0 (Some e.1) (Some f.1)
  turn_both e f es fs s t h =
      let none = not_found_below cmp e.0 es (ascends_head cmp e es s) in
      let absent = not_found_below cmp f.0 fs (ascends_head cmp f fs t) in
      record {
        mine_at = found_first e.0 e es (tied_itself total e.0);
        yours_at = found_first e.0 f fs h;
        somewhere = refl;
        least = λ q. least_by (cmp e.0 q) (value_at cmp (e ∷ es) q) (value_at cmp (f ∷ fs) q) (absent_before e es q s)
            (λ above. absent_before f fs q t (sym (total.congr e.0 f.0 q h) ∙ above));
        mine_past = without_first e es none;
        yours_past = λ q. without_first f fs absent q ∙ ap (λ b. cond b None (lookup (is_at (cmp q)) (f ∷ fs)))
            (sym ((eq_by_cmp_equiv total).congr e.0 f.0 q (ap is_eq h)));
        fewer = omega arith;
      }

  -- the lesser of two first keys is below all keys of the other list
  pub below_other : (x : K) (f : K × V) (fs : List (K × V)) → cmp x f.0 ≡ Less → Ascends cmp (f ∷ fs) → IsBelow cmp x (f ∷ fs)
  below_other x f fs h s = (h, below_all cmp total x f.0 (keys_of fs) h (ascends_head cmp f fs s))

pub nil_from_length : {X : Type 0} (xs : List X) → length xs ≡ 0 → xs ≡ []
nil_from_length [] h = refl
nil_from_length (x ∷ xs) h = absurd (omega arith)
