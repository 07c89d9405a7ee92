-- What stands in a state, in a map and on a page, by the writes that were put: it is known, and it is the value of a write, or one with the same SHA-256.
use Rattle.std.proofs.Common.{◌≡◌, ◌⊎◌, inl, inr, ℕ, List, [], ◌∷◌, Bool, true, false, cond, Some, None, refl, sym, ◌∙◌, ap, subst}
use Rattle.std.specs.Prelude.{Option, Contains, IsTrue, is_some, ◌||◌}
use Rattle.std.specs.List.{filter}
use Rattle.std.specs.Ordering.{eq_by_cmp}
use Rattle.std.specs.FinMap as finite
use Rattle.std.specs.FinMap.Entries.{find}
use Rattle.std.proofs.lemmas.Bool.{or_left, or_right}
use Rattle.std.proofs.lemmas.Option.{same_Some}
use Rattle.dots.specs.Bytes.{bytes_cmp}
use Rattle.dots.specs.Dot.{DotValue}
use Rattle.dots.specs.declared.dot.Dot.{Dot}
use Rattle.causal_context.specs.Dots.{dot_cmp}
use Rattle.causal_context.proofs.Dots.{is_eq-dot_cmp, same_from_test}
use Rattle.hash_path.specs.Map.{walk_under}
use Rattle.hash_path.proofs.Words.{tied_same, same_tied}
use Rattle.sha2.specs.Sha256.{sha256}
use Rattle.causal_join.specs.OrMap.{ValuesValue, FieldsValue}
use Rattle.op_model.specs.Meaning.{MapState, greater, state, value_under}
use Rattle.op_model.specs.Made.{erasure}
use Rattle.op_model.specs.Operation.{Write, Wrote, has, observed, writes}
use Rattle.op_model.specs.Place.{Place, place_of}
use Rattle.op_model.specs.Shown.{is_on}
use Rattle.op_model.specs.State.{IsInside, joined, join}
use Rattle.op_model.proofs.Making.{at-erasure, state-inside}
use Rattle.op_model.proofs.Members.{from_filter}
use Rattle.op_model.proofs.Union.{at-state, found_under}
use Rattle.wire_form.specs.Page.{NamesValue, EntryValue, PageValue}
use Rattle.prefix_digest.specs.MapOf.{IsMapOf}
use Rattle.prefix_digest.specs.Page.{named_values, named_fields, named_entry, page_at}
use Rattle.sync_model.specs.Closing.{held_state}
use Rattle.sync_model.specs.Opened.{held_in}
use Rattle.sync_model.specs.Differ.{Held}
use Rattle.sync_model.specs.Fetch.{entries_of, within_values}
use Rattle.sync_model.specs.Laws.{IsLawfulMap, Taking, HoldsValue, NoClash, KnowsEachDot, OneValue}
use Rattle.sync_model.proofs.Fetching.{Shown, Leaf, Parts, shown}
use Rattle.sync_model.proofs.Fits.{all_pass}
use Rattle.sync_model.proofs.Found.{find_in}
use Rattle.sync_model.proofs.Held.{values_or_none, there, held_there}
use Rattle.sync_model.proofs.Keeping.{dot_tied}
use Rattle.sync_model.proofs.Lawful.{map_lawful, found}
use Rattle.sync_model.proofs.Members.{In, In-Contains, Contains-In, In-mapped, part_found}
use Rattle.replica_model.proofs.Built.{EachNamed, EachEntry, EachHeld, some_of}
use Rattle.replica_model.proofs.Finite.{IsFinite, dots_exact, state_finite, from_either, join_finite, held_finite}

-- a dot has one value among the writes that were put
abbrev pub AreOne : List Write → Type 0
AreOne puts = (u v : Write) → Contains puts u → Contains puts v → u.id ≡ v.id → u.value ≡ v.value

-- the name is that of the value of a write under this dot
abbrev pub IsNamed : List Write → DotValue → List ℕ → Type 0
IsNamed puts dot name = (w : Write) × Contains puts w × (w.id ≡ dot) × (sha256 w.value ≡ name)

-- a state is finite, and what stands in it is known, and has the name of what was put under its dot
pub record IsOf (puts : List Write) (p : MapState) : Type 0 where
  pub is_finite : IsFinite p
  pub inside : IsInside p
  pub named : (place : Place) (dot : Dot) (v : List ℕ) → p.at place dot ≡ Some v → IsNamed puts dot (sha256 v)

-- and what a map holds, and the dots that are known with it, are those of such a state
pub record IsHeldOf (puts : List Write) (m : Held) (known : DotValue → Bool) : Type 0 where
  pub of : MapState
  pub is_map : IsMapOf m of
  pub knows : known ≡ of.has
  pub is_of : IsOf puts of

-- ---- more was put

module _ (puts more : List Write) (grew : (w : Write) → Contains puts w → Contains more w) where
  pub named_more : (dot : DotValue) (name : List ℕ) → IsNamed puts dot name → IsNamed more dot name
  named_more dot name h = (h.0, grew h.0 h.1, h.2, h.3)

  pub of_more : (p : MapState) → IsOf puts p → IsOf more p
  of_more p f = record { is_finite = f.is_finite; inside = f.inside; named = λ place dot v e. named_more dot (sha256 v) (f.named place dot v e) }

  pub held_more : (m : Held) (known : DotValue → Bool) → IsHeldOf puts m known → IsHeldOf more m known
  held_more m known h = record { of = h.of; is_map = h.is_map; knows = h.knows; is_of = of_more h.of h.is_of }

  pub entries_more : (es : List EntryValue) → EachEntry (IsNamed puts) es → EachEntry (IsNamed more) es
  entries_more es all e h f g n i = named_more n.0 n.1 (all e h f g n i)

-- ---- states that are joined

pub join_of : (puts : List Write) (p q : MapState) → IsOf puts p → IsOf puts q → IsOf puts (join greater p q)
join_of puts p q f g = record {
  is_finite = join_finite p q f.is_finite g.is_finite;
  inside = λ place dot some.
      let there = some_of (joined greater (p.at place dot) (p.has dot) (q.at place dot) (q.has dot)) some in
      known place dot there.0 (from_either (p.at place dot) (p.has dot) (q.at place dot) (q.has dot) there.0 there.1);
  named = λ place dot v e. name place dot v (from_either (p.at place dot) (p.has dot) (q.at place dot) (q.has dot) v e);
}
  where
    known : (place : Place) (dot : Dot) (v : List ℕ) → (p.at place dot ≡ Some v) ⊎ (q.at place dot ≡ Some v) → IsTrue (p.has dot || q.has dot)
    known place dot v (inl e) = or_left (p.has dot) (q.has dot) (f.inside place dot (ap is_some e))
    known place dot v (inr e) = or_right (p.has dot) (q.has dot) (g.inside place dot (ap is_some e))

    name : (place : Place) (dot : Dot) (v : List ℕ) → (p.at place dot ≡ Some v) ⊎ (q.at place dot ≡ Some v) → IsNamed puts dot (sha256 v)
    name place dot v (inl e) = f.named place dot v e
    name place dot v (inr e) = g.named place dot v e

-- ---- the states of which all are made: nothing, an erasure, and a write that was put

pub erasure_of : (puts : List Write) (over : List Dot) → IsOf puts (state (erasure over))
erasure_of puts over = record {
  is_finite = state_finite (erasure over);
  inside = state-inside (erasure over);
  named = λ place dot v e. absurd (let none : None ≡ Some v = sym (at-erasure over place dot) ∙ e in cc);
}

pub nothing_of : (puts : List Write) → IsOf puts (state [])
nothing_of puts = erasure_of puts []

pub write_of : (puts : List Write) (w : Write) → Contains puts w → IsOf puts (state (Wrote w ∷ []))
write_of puts w there = record {
  is_finite = state_finite (Wrote w ∷ []);
  inside = state-inside (Wrote w ∷ []);
  named = λ place dot v e. by place dot v (has (observed (Wrote w ∷ [])) dot) (sym (at-state (Wrote w ∷ []) place dot) ∙ e);
}
  where
    is_it : (u : Write) → Contains (w ∷ []) u → w ≡ u
    is_it u h = only (In-Contains (w ∷ []) u h)
      where
        only : In (w ∷ []) u → w ≡ u
        only (inl e) = e
        only (inr h) = absurd h

    by : (place : Place) (dot : Dot) (v : List ℕ) (b : Bool) → cond b None (value_under dot (filter (is_on place) (writes (Wrote w ∷ [])))) ≡ Some v
        → IsNamed puts dot (sha256 v)
    by place dot v true e = absurd cc
    by place dot v false e =
        let under = found_under dot (filter (is_on place) (w ∷ [])) v e in
        let same = is_it under.0 (from_filter (is_on place) (w ∷ []) under.0 under.1).0 in
        (w, there, ap (λ (u : Write). u.id) same ∙ under.2, ap (λ (u : Write). sha256 u.value) same ∙ ap sha256 under.3)

-- ---- what a map holds

pub found_dot : (vs : ValuesValue) (d : DotValue) (v : List ℕ) → find dot_cmp d vs ≡ Some v → In vs (d, v)
found_dot [] d v e = absurd cc
found_dot (x ∷ vs) d v e = step (eq_by_cmp dot_cmp d x.0) refl e (found_dot vs d v)
  where
    step : (b : Bool) → eq_by_cmp dot_cmp d x.0 ≡ b → cond b (Some x.1) (find dot_cmp d vs) ≡ Some v → (find dot_cmp d vs ≡ Some v → In vs (d, v))
        → In (x ∷ vs) (d, v)
    step true t s further = let dots = same_from_test d x.0 (sym (is_eq-dot_cmp d x.0) ∙ t) in let value = same_Some x.1 v s in inl (λ k. (sym dots k, value k))
    step false t s further = inr (further s)

-- what stands at a field of a key and at a dot is there
in_map : (m : Held) (key field : List ℕ) (d : DotValue) (v : List ℕ) → held_in (finite.get m key) field d ≡ Some v → (fs : FieldsValue)
    × (finite.get m key ≡ Some fs) × ((vs : ValuesValue) × In fs (field, vs) × In vs (d, v))
in_map m key field d v e = by_key (finite.get m key) refl (sym (held_there (finite.get m key) field d) ∙ e)
  where
    by_field : (fs : FieldsValue) (y : Option ValuesValue) → find bytes_cmp field fs ≡ y → find dot_cmp d (values_or_none y) ≡ Some v → (vs : ValuesValue)
        × In fs (field, vs) × In vs (d, v)
    by_field fs None u r = absurd cc
    by_field fs (Some vs) u r = (vs, find_in field fs vs u, found_dot vs d v r)

    by_key : (x : Option FieldsValue) → finite.get m key ≡ x → there x field d ≡ Some v → (fs : FieldsValue) × (finite.get m key ≡ Some fs)
        × ((vs : ValuesValue) × In fs (field, vs) × In vs (d, v))
    by_key None t s = absurd cc
    by_key (Some fs) t s = (fs, t, by_field fs (find bytes_cmp field fs) refl s)

-- what a map holds is such a state, where just these dots are known, each dot of the map among them, and each value has the name of what was put
pub map_of_puts : (puts : List Write) (m : Held) (known : DotValue → Bool) (dots : List Dot) → ((dot : Dot) → known dot ≡ has dots dot)
    → EachHeld (λ d name. known d ≡ true) m → EachHeld (IsNamed puts) m → IsOf puts (held_state m known)
map_of_puts puts m known dots just all named = record {
  is_finite = held_finite m known dots just;
  inside = λ place dot some.
      let there = some_of (held_in (finite.get m place.key) place.field dot) some in
      let held = in_map m place.key place.field dot there.0 there.1 in
      all place.key held.0 held.1 (place.field, held.2.0) held.2.1 (dot, there.0) held.2.2;
  named = λ place dot v e.
      let held = in_map m place.key place.field dot v e in
      named place.key held.0 held.1 (place.field, held.2.0) held.2.1 (dot, v) held.2.2;
}

module _ (puts : List Write) (m : Held) (known : DotValue → Bool) (is : IsHeldOf puts m known) where
  pub held_lawful : IsLawfulMap m
  held_lawful = map_lawful m is.of is.is_map

  stands : (key : List ℕ) (fs : FieldsValue) → finite.get m key ≡ Some fs → (field : List ℕ) (vs : ValuesValue) → In fs (field, vs) → (d : Dot) (v : List ℕ)
      → In vs (d, v) → is.of.at (place_of key field) d ≡ Some v
  stands key fs e field vs h d v i =
      let order = is.is_map.ordered key fs e in
      let at_field = found bytes_cmp tied_same (λ f. same_tied f f refl) fs field vs order.ordered h in
      let at_dot = found dot_cmp dots_exact dot_tied vs d v (order.each field vs (Contains-In fs (field, vs) h)) i in
      sym (is.is_map.at (place_of key field) d) ∙ ap (λ o. held_in o field d) e ∙ held_there (Some fs) field d
      ∙ ap (λ o. find dot_cmp d (values_or_none o)) at_field ∙ at_dot

  pub held_named : EachHeld (IsNamed puts) m
  held_named key fs e f h v i = is.is_of.named (place_of key f.0) v.0 v.1 (stands key fs e f.0 f.1 h v.0 v.1 i)

  pub held_known : KnowsEachDot known m
  held_known key fs e =
      all_pass (λ f. within_values known f.1) fs (λ f h.
      all_pass (λ v. known v.0) f.1 (λ v i.
      ap (λ k. k v.0) is.knows ∙ is.is_of.inside (place_of key f.0) v.0 (ap is_some (stands key fs e f.0 f.1 h v.0 v.1 i))))

  -- so each name on its pages is that of what was put
  part_named : (key : List ℕ) (fs : FieldsValue) → finite.get m key ≡ Some fs → EachNamed (IsNamed puts) (named_fields fs)
  part_named key fs e f h n i =
      let field = In-mapped (λ (x : List ℕ × ValuesValue). (x.0, named_values x.1)) fs f h in
      let value = In-mapped (λ (x : DotValue × List ℕ). (x.0, sha256 x.1)) field.0.1 n
      (subst (λ (x : NamesValue). In x n) (sym (ap (λ (x : List ℕ × NamesValue). x.1) field.2)) i) in
      subst (λ (x : DotValue × List ℕ). IsNamed puts x.0 x.1) value.2 (held_named key fs e field.0 field.1 value.0 value.1)

  pub page_named : (hash_of : List ℕ → ℕ) (p : List ℕ) (page : PageValue) → page_at hash_of m p ≡ Some page → EachEntry (IsNamed puts) (entries_of page)
  page_named hash_of p page e = step (shown hash_of m p page e)
    where
      step : Shown hash_of m p page → EachEntry (IsNamed puts) (entries_of page)
      step (Leaf none entries off values) x h =
          let from = In-mapped named_entry (walk_under hash_of p m) x (subst (λ l. In l x) entries h) in
          subst (λ (y : EntryValue). EachNamed (IsNamed puts) y.1) from.2 (part_named from.0.0 from.0.1 (part_found hash_of m p from.0.0 from.0.1 from.1).0)
      step (Parts less cs same are values) x h = absurd (subst (λ (y : PageValue). In (entries_of y) x) same h)

-- two such maps have one value under a dot, unless values of theirs clash
pub one_value : (puts : List Write) → AreOne puts → (own theirs : Held) (known context : DotValue → Bool) → IsHeldOf puts own known
    → IsHeldOf puts theirs context
    → (hash_of : List ℕ → ℕ) (ts : List Taking) → NoClash hash_of own theirs ts → OneValue own theirs
one_value puts one own theirs known context mine yours hash_of ts clean key gs e field vs h d o v held i =
    let a = mine.is_of.named (place_of key field) d o (sym (mine.is_map.at (place_of key field) d) ∙ held) in
    let b = held_named puts theirs context yours key gs e (field, vs) (In-Contains gs (field, vs) h) (d, v) (In-Contains vs (d, v) i) in
    let at = in_map own key field d o held in
    let here : HoldsValue own o = (key, at.0, at.1, (field, at.2.0, Contains-In at.0 (field, at.2.0) at.2.1, (d, Contains-In at.2.0 (d, o) at.2.2))) in
    clean.values o v (inl (inl here)) (inl (inr (key, gs, e, (field, vs, h, (d, i))))) (sym a.3 ∙ ap sha256 (one a.0 b.0 a.1 b.1 (a.2 ∙ sym b.2)) ∙ b.3)
