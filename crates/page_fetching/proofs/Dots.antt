-- What is made of the dots of a field, and of the fields of a key.
use Rattle.std.proofs.Common.{◌≡◌, ◌≢◌, inl, inr, ℕ, List, [], ◌∷◌, Bool, true, false, cond, Some, None, refl, sym, ap}
use Rattle.std.specs.Prelude.{Option}
use Rattle.std.specs.Str.{bytes_eq}
use Rattle.std.specs.List.Sorted.{IsStrictlySortedBy}
use Rattle.std.specs.Map.{keys_of}
use Rattle.std.proofs.lemmas.Option.{same_Some}
use Rattle.dots.specs.Bytes.{bytes_cmp}
use Rattle.dots.specs.Dot.{DotValue}
use Rattle.causal_context.specs.Dots.{dot_cmp}
use Rattle.sha2.specs.Sha256.{sha256}
use Rattle.causal_join.specs.OrMap.{ValuesValue, FieldsValue}
use Rattle.wire_form.specs.Page.{NamesValue, NamedValue}
use Rattle.sync_model.specs.Filled.{Made, made_map, checked, fill_seen, fill_unseen, fill_values, then_fields, fill_fields}
use Rattle.sync_model.specs.Opened.{with_values}
use Rattle.page_fetching.proofs.Picks.{Picked, keys_ascend, Each, each_good}

abbrev Anything : List ℕ → Type 0
Anything v = Unit {0}

module _ {X Y : Type 0} where
  pub mapped_from : (f : X → Y) (m : Made X) (y : Y) (rest : List (List ℕ)) → made_map f m ≡ Some (y, rest) → (x : X) × (m ≡ Some (x, rest)) × (y ≡ f x)
  mapped_from f None y rest e = absurd cc
  mapped_from f (Some (x, left)) y rest e =
      let both = same_Some (f x, left) (y, rest) e in
      (x, ap (λ c. Some (x, c.1)) both, sym (ap (λ c. c.0) both))

module _ (seen : DotValue → Bool) (held : DotValue → Option (List ℕ)) where
  abbrev fill : NamesValue → List (List ℕ) → Made ValuesValue
  fill = fill_values seen held

  of_checked : (n : DotValue × List ℕ) (ns : NamesValue) (v : List ℕ) (mid left : List (List ℕ)) (xs : ValuesValue)
      → checked n.0 n.1 v (fill ns mid) ≡ Some (xs, left) → Picked Anything fill n ns xs left
  of_checked n ns v mid left xs e = step (bytes_eq (sha256 v) n.1) e
    where
      step : (b : Bool) → cond b (made_map (λ vs. (n.0, v) ∷ vs) (fill ns mid)) None ≡ Some (xs, left) → Picked Anything fill n ns xs left
      step true s = let h = mapped_from (λ vs. (n.0, v) ∷ vs) (fill ns mid) xs left s in (mid, h.0, h.1, inr (v, tt, h.2))
      step false s = absurd cc

  of_dot : (n : DotValue × List ℕ) (ns : NamesValue) (sent left : List (List ℕ)) (xs : ValuesValue) → fill (n ∷ ns) sent ≡ Some (xs, left)
      → Picked Anything fill n ns xs left
  of_dot n ns sent left xs e = step (seen n.0) e
    where
      of_held : (o : Option (List ℕ)) → fill_seen n.0 n.1 o (fill ns) sent ≡ Some (xs, left) → Picked Anything fill n ns xs left
      of_held None s = (sent, xs, s, inl refl)
      of_held (Some v) s = of_checked n ns v sent left xs s

      of_sent : (vs : List (List ℕ)) → fill_unseen n.0 n.1 (fill ns) vs ≡ Some (xs, left) → Picked Anything fill n ns xs left
      of_sent [] s = absurd cc
      of_sent (v ∷ vs) s = of_checked n ns v vs left xs s

      step : (b : Bool) → cond b (fill_seen n.0 n.1 (held n.0) (fill ns) sent) (fill_unseen n.0 n.1 (fill ns) sent) ≡ Some (xs, left)
          → Picked Anything fill n ns xs left
      step true s = of_held (held n.0) s
      step false s = of_sent sent s

  no_dots : (sent left : List (List ℕ)) (xs : ValuesValue) → fill [] sent ≡ Some (xs, left) → xs ≡ []
  no_dots sent left xs e = sym (ap (λ c. c.0) (same_Some ([], sent) (xs, left) e))

  -- the dots ascend
  pub values_ascend : (ns : NamesValue) (sent left : List (List ℕ)) (xs : ValuesValue) → IsStrictlySortedBy dot_cmp (keys_of ns)
      → fill_values seen held ns sent ≡ Some (xs, left) → IsStrictlySortedBy dot_cmp (keys_of xs)
  values_ascend = keys_ascend Anything fill no_dots of_dot dot_cmp

abbrev pub IsSome : ValuesValue → Type 0
IsSome vs = vs ≢ []

module _ (seen : DotValue → Bool) (held : List ℕ → DotValue → Option (List ℕ)) where
  abbrev fill_all : NamedValue → List (List ℕ) → Made FieldsValue
  fill_all = fill_fields seen held

  of_values : (field : List ℕ) (names : NamesValue) (vs : ValuesValue) (ns : NamedValue) (mid left : List (List ℕ)) (ws xs : FieldsValue)
      → fill_all ns mid ≡ Some (ws, left)
      → xs ≡ with_values field vs ws → Picked IsSome fill_all (field, names) ns xs left
  of_values field names [] ns mid left ws xs e is = (mid, ws, e, inl is)
  of_values field names (v ∷ vs) ns mid left ws xs e is = (mid, ws, e, inr (v ∷ vs, (λ no. absurd cc), is))

  of_field : (n : List ℕ × NamesValue) (ns : NamedValue) (sent left : List (List ℕ)) (xs : FieldsValue) → fill_all (n ∷ ns) sent ≡ Some (xs, left)
      → Picked IsSome fill_all n ns xs left
  of_field n ns sent left xs e = step (fill_values seen (held n.0) n.1 sent) e
    where
      step : (m : Made ValuesValue) → then_fields n.0 (fill_all ns) m ≡ Some (xs, left) → Picked IsSome fill_all n ns xs left
      step None s = absurd cc
      step (Some m) s = let h = mapped_from (with_values n.0 m.0) (fill_all ns m.1) xs left s in of_values n.0 n.1 m.0 ns m.1 left h.0 xs h.1 h.2

  no_fields : (sent left : List (List ℕ)) (xs : FieldsValue) → fill_all [] sent ≡ Some (xs, left) → xs ≡ []
  no_fields sent left xs e = sym (ap (λ c. c.0) (same_Some ([], sent) (xs, left) e))

  -- the fields ascend, and each holds a value
  pub fields_ascend : (ns : NamedValue) (sent left : List (List ℕ)) (xs : FieldsValue) → IsStrictlySortedBy bytes_cmp (keys_of ns)
      → fill_fields seen held ns sent ≡ Some (xs, left) → IsStrictlySortedBy bytes_cmp (keys_of xs)
  fields_ascend = keys_ascend IsSome fill_all no_fields of_field bytes_cmp

  pub fields_filled : (ns : NamedValue) (sent left : List (List ℕ)) (xs : FieldsValue) → fill_fields seen held ns sent ≡ Some (xs, left) → Each IsSome xs
  fields_filled = each_good IsSome fill_all no_fields of_field
