-- What the names of their entries are filled to: just the values that are left open, from just the values that were missing.
use Rattle.std.proofs.Common.{◌≡◌, ℕ, List, [], ◌∷◌, ◌++◌, map, Bool, true, false, cond, not, Some, None, refl, sym, ◌∙◌, ap, subst, append_assoc}
use Rattle.std.specs.Prelude.{Option, ◌||◌, is_some}
use Rattle.std.specs.List.{filter}
use Rattle.std.specs.Ordering.{eq_by_cmp}
use Rattle.std.specs.Str.{bytes_eq}
use Rattle.std.specs.FinMap as finite
use Rattle.std.specs.FinMap.Entries.{find}
use Rattle.std.proofs.lemmas.Option.{same_Some}
use Rattle.std.proofs.lemmas.Slice.Eq.{bytes_eq-Decides}
use Rattle.dots.specs.Bytes.{bytes_cmp}
use Rattle.dots.specs.Dot.{DotValue}
use Rattle.causal_context.specs.Dots.{dot_cmp}
use Rattle.sha2.specs.Sha256.{sha256}
use Rattle.causal_join.specs.OrMap.{ValuesValue, FieldsValue}
use Rattle.prefix_digest.specs.Page.{named_values, named_fields, named_entries}
use Rattle.prefix_digest.specs.Values.{unknown_in_values, unknown_in_fields, unknown_in}
use Rattle.sync_model.specs.Opened.{held_in, with_values, without_ended, open_fields}
use Rattle.sync_model.proofs.Held.{values_or_none, values_of_field, there, held_there}
use Rattle.sync_model.specs.Filled.{Made, made_map, checked, fill_unseen, fill_seen, fill_values, then_fields, fill_fields, then_entries, fill_entries}
use Rattle.sync_model.specs.Differ.{Held}

-- ---- what a step was made of

module _ {X Y : Type 0} where
  mapped_from : (f : X → Y) (m : Made X) (y : Y) (rest : List (List ℕ)) → made_map f m ≡ Some (y, rest) → (x : X) × (m ≡ Some (x, rest)) × (y ≡ f x)
  mapped_from f None y rest e = absurd cc
  mapped_from f (Some (x, left)) y rest e =
      let both = same_Some (f x, left) (y, rest) e in
      (x, ap (λ c. Some (x, c.1)) both, sym (ap (λ c. c.0) both))

checked_from : (d : DotValue) (name v : List ℕ) (m : Made ValuesValue) (vs : ValuesValue) (rest : List (List ℕ)) → checked d name v m ≡ Some (vs, rest)
    → (bytes_eq (sha256 v) name ≡ true) × ((ws : ValuesValue) × (m ≡ Some (ws, rest)) × (vs ≡ (d, v) ∷ ws))
checked_from d name v m vs rest e = step (bytes_eq (sha256 v) name) refl e
  where
    step : (b : Bool) → bytes_eq (sha256 v) name ≡ b → cond b (made_map (λ vs. (d, v) ∷ vs) m) None ≡ Some (vs, rest)
        → (bytes_eq (sha256 v) name ≡ true) × ((ws : ValuesValue) × (m ≡ Some (ws, rest)) × (vs ≡ (d, v) ∷ ws))
    step true t s = (t, mapped_from (λ vs. (d, v) ∷ vs) m vs rest s)
    step false t s = absurd cc

-- ---- a fact of each value of a list, a field, a key

module _ (P : List ℕ → Type 0) where
  abbrev pub EachSent : List (List ℕ) → Type 0
  EachSent [] = Unit {0}
  EachSent (v ∷ vs) = P v × EachSent vs

  abbrev pub EachValue : ValuesValue → Type 0
  EachValue [] = Unit {0}
  EachValue (v ∷ vs) = P v.1 × EachValue vs

  abbrev pub EachField : FieldsValue → Type 0
  EachField [] = Unit {0}
  EachField (f ∷ fs) = EachValue f.1 × EachField fs

  abbrev pub EachEntry : List (List ℕ × FieldsValue) → Type 0
  EachEntry [] = Unit {0}
  EachEntry (e ∷ es) = EachField e.1 × EachEntry es

  abbrev pub EachHeld : Held → Type 0
  EachHeld m = (key : List ℕ) (fields : FieldsValue) → finite.get m key ≡ Some fields → EachField fields

  value_found : (vs : ValuesValue) (d : DotValue) (v : List ℕ) → EachValue vs → find dot_cmp d vs ≡ Some v → P v
  value_found [] d v all e = absurd cc
  value_found (x ∷ vs) d v all e = step (eq_by_cmp dot_cmp d x.0) e (value_found vs d v all.1)
    where
      step : (b : Bool) → cond b (Some x.1) (find dot_cmp d vs) ≡ Some v → (find dot_cmp d vs ≡ Some v → P v) → P v
      step true s further = subst P (same_Some x.1 v s) all.0
      step false s further = further s

  field_found : (fs : FieldsValue) (field : List ℕ) → EachField fs → EachValue (values_of_field fs field)
  field_found [] field all = tt
  field_found (x ∷ fs) field all = step (eq_by_cmp bytes_cmp field x.0) (field_found fs field all.1)
    where
      step : (b : Bool) → EachValue (values_or_none (find bytes_cmp field fs)) → EachValue (values_or_none (cond b (Some x.1) (find bytes_cmp field fs)))
      step true further = all.0
      step false further = further

  held_met : (o : Option FieldsValue) → ((fs : FieldsValue) → o ≡ Some fs → EachField fs) → (f : List ℕ) (d : DotValue) (v : List ℕ)
      → held_in o f d ≡ Some v → P v
  held_met None all f d v e = absurd (let none : None ≡ Some v = sym (held_there None f d) ∙ e in cc)
  held_met (Some fs) all f d v e = value_found (values_of_field fs f) d v (field_found fs f (all fs refl)) (sym (held_there (Some fs) f d) ∙ e)

  -- what stands at a dot was met
  abbrev pub MetAt : (DotValue → Option (List ℕ)) → Type 0
  MetAt held = (d : DotValue) (v : List ℕ) → held d ≡ Some v → P v

-- what is open of each entry
abbrev pub open_entries : (DotValue → Bool) → Held → List (List ℕ × FieldsValue) → List (List ℕ × FieldsValue)
open_entries seen own [] = []
open_entries seen own (e ∷ es) = (e.0, open_fields seen (held_in (finite.get own e.0)) e.1) ∷ open_entries seen own es

abbrev behind_first : List (List ℕ) → List (List ℕ)
behind_first [] = []
behind_first (x ∷ xs) = xs

module _ (MetHere MetThere : List ℕ → Type 0) (no_clash : (a b : List ℕ) → MetHere a → MetThere b → sha256 a ≡ sha256 b → a ≡ b) where
  same_value : (v w : List ℕ) → bytes_eq (sha256 v) (sha256 w) ≡ true → MetHere v → MetThere w → v ≡ w
  same_value v w e here there = no_clash v w here there ((bytes_eq-Decides (sha256 v) (sha256 w)).0 e)

  module _ (seen : DotValue → Bool) where
    -- what is left of the values sent was met too
    left_met : (old more new : List (List ℕ)) → old ≡ more ++ new → EachSent MetHere old → EachSent MetHere new
    left_met old [] new e met = subst (EachSent MetHere) e met
    left_met [] (v ∷ more) new e met = absurd cc
    left_met (u ∷ old) (v ∷ more) new e met = left_met old more new (ap behind_first e) met.1

    abbrev pub IsFilled : {X : Type 0} → X → X → List (List ℕ) → List (List ℕ) → List (List ℕ) → Type 0
    IsFilled made opened sent missing rest = (made ≡ opened) × (sent ≡ missing ++ rest)

    -- one value is left out, is the own one, or is sent
    ended : (d : DotValue) (v : List ℕ) (held : DotValue → Option (List ℕ)) (vs made : ValuesValue) (sent rest : List (List ℕ)) → seen d ≡ true → held d ≡ None
        → IsFilled made (without_ended seen held vs) sent (unknown_in_values seen vs) rest
        → IsFilled made (without_ended seen held ((d, v) ∷ vs)) sent (unknown_in_values seen ((d, v) ∷ vs)) rest
    ended d v held vs made sent rest s none h = (
      h.0 ∙ (λ t. cond (not (sym s t) || is_some (sym none t)) ((d, v) ∷ without_ended seen held vs) (without_ended seen held vs)),
      h.1 ∙ (λ t. map (λ v. v.1) (cond (not (sym s t)) ((d, v) ∷ filter (λ v. not (seen v.0)) vs) (filter (λ v. not (seen v.0)) vs)) ++ rest),
    )

    kept : (d : DotValue) (v o : List ℕ) (held : DotValue → Option (List ℕ)) (vs made : ValuesValue) (sent rest : List (List ℕ)) → seen d ≡ true
        → held d ≡ Some o → o ≡ v
        → IsFilled made (without_ended seen held vs) sent (unknown_in_values seen vs) rest
        → IsFilled ((d, o) ∷ made) (without_ended seen held ((d, v) ∷ vs)) sent (unknown_in_values seen ((d, v) ∷ vs)) rest
    kept d v o held vs made sent rest s some same h = (
      (λ t. (d, same t) ∷ h.0 t) ∙ (λ t. cond (not (sym s t) || is_some (sym some t)) ((d, v) ∷ without_ended seen held vs) (without_ended seen held vs)),
      h.1 ∙ (λ t. map (λ v. v.1) (cond (not (sym s t)) ((d, v) ∷ filter (λ v. not (seen v.0)) vs) (filter (λ v. not (seen v.0)) vs)) ++ rest),
    )

    fresh : (d : DotValue) (v o : List ℕ) (held : DotValue → Option (List ℕ)) (vs made : ValuesValue) (sent rest : List (List ℕ)) → seen d ≡ false → o ≡ v
        → IsFilled made (without_ended seen held vs) sent (unknown_in_values seen vs) rest
        → IsFilled ((d, o) ∷ made) (without_ended seen held ((d, v) ∷ vs)) (o ∷ sent) (unknown_in_values seen ((d, v) ∷ vs)) rest
    fresh d v o held vs made sent rest s same h = (
      (λ t. (d, same t) ∷ h.0 t) ∙ (λ t. cond (not (sym s t) || is_some (held d)) ((d, v) ∷ without_ended seen held vs) (without_ended seen held vs)),
      (λ t. same t ∷ h.1 t) ∙ (λ t. map (λ v. v.1) (cond (not (sym s t)) ((d, v) ∷ filter (λ v. not (seen v.0)) vs) (filter (λ v. not (seen v.0)) vs)) ++ rest),
    )

    pub values_filled : (held : DotValue → Option (List ℕ)) (vs : ValuesValue) (sent : List (List ℕ)) (made : ValuesValue) (rest : List (List ℕ))
        → MetAt MetHere held → EachValue MetThere vs → EachSent MetHere sent
        → fill_values seen held (named_values vs) sent ≡ Some (made, rest) → IsFilled made (without_ended seen held vs) sent (unknown_in_values seen vs) rest
    values_filled held [] sent made rest own_met met sent_met e =
        let both = same_Some ([], sent) (made, rest) e in
        (sym (ap (λ c. c.0) both), ap (λ c. c.1) both)
    values_filled held ((d, v) ∷ vs) sent made rest own_met met sent_met e =
        step (seen d) (held d) refl refl e (λ sent made. values_filled held vs sent made rest own_met met.1)
      where
        Further : Type 0
        Further = (sent : List (List ℕ)) (made : ValuesValue) → EachSent MetHere sent → fill_values seen held (named_values vs) sent ≡ Some (made, rest)
            → IsFilled made (without_ended seen held vs) sent (unknown_in_values seen vs) rest

        unseen : (sent : List (List ℕ)) → EachSent MetHere sent → seen d ≡ false
            → fill_unseen d (sha256 v) (fill_values seen held (named_values vs)) sent ≡ Some (made, rest) → Further
            → IsFilled made (without_ended seen held ((d, v) ∷ vs)) sent (unknown_in_values seen ((d, v) ∷ vs)) rest
        unseen [] m s f further = absurd cc
        unseen (o ∷ sent) m s f further =
            let from = checked_from d (sha256 v) o (fill_values seen held (named_values vs) sent) made rest f in
            let same = same_value o v from.0 m.0 met.0 in
            subst (λ x. IsFilled x (without_ended seen held ((d, v) ∷ vs)) (o ∷ sent) (unknown_in_values seen ((d, v) ∷ vs)) rest) (sym from.1.2)
            (fresh d v o held vs from.1.0 sent rest s same (further sent from.1.0 m.1 from.1.1))

        step : (b : Bool) (there : Option (List ℕ)) → seen d ≡ b → held d ≡ there
            → cond b (fill_seen d (sha256 v) there (fill_values seen held (named_values vs)) sent)
            (fill_unseen d (sha256 v) (fill_values seen held (named_values vs)) sent) ≡ Some (made, rest) → Further
            → IsFilled made (without_ended seen held ((d, v) ∷ vs)) sent (unknown_in_values seen ((d, v) ∷ vs)) rest
        step true None s t f further = ended d v held vs made sent rest s t (further sent made sent_met f)
        step true (Some o) s t f further =
            let from = checked_from d (sha256 v) o (fill_values seen held (named_values vs) sent) made rest f in
            let same = same_value o v from.0 (own_met d o t) met.0 in
            subst (λ x. IsFilled x (without_ended seen held ((d, v) ∷ vs)) sent (unknown_in_values seen ((d, v) ∷ vs)) rest) (sym from.1.2)
            (kept d v o held vs from.1.0 sent rest s t same (further sent from.1.0 sent_met from.1.1))
        step false there s t f further = unseen sent sent_met s f further

    -- ---- fields, and entries

    then_from : {X Y Z : Type 0} (f : X → Y → Z) (m : Made X) (rest_of : List (List ℕ) → Made Y) (join : Made X → Made Z) → join None ≡ None
        → ((x : X) (left : List (List ℕ)) → join (Some (x, left)) ≡ made_map (f x) (rest_of left))
        → (z : Z) (rest : List (List ℕ)) → join m ≡ Some (z, rest)
        → (x : X) × (left : List (List ℕ)) × (y : Y) × (m ≡ Some (x, left)) × (rest_of left ≡ Some (y, rest)) × (z ≡ f x y)
    then_from f None rest_of join n s z rest e = absurd (let none : None ≡ Some (z, rest) = sym n ∙ e in cc)
    then_from f (Some (x, left)) rest_of join n s z rest e =
        let from = mapped_from (f x) (rest_of left) z rest (sym (s x left) ∙ e) in
        (x, left, from.0, refl, from.1, from.2)

    pub fields_filled : (held : List ℕ → DotValue → Option (List ℕ)) (fs : FieldsValue) (sent : List (List ℕ)) (made : FieldsValue) (rest : List (List ℕ))
        → ((field : List ℕ) → MetAt MetHere (held field)) → EachField MetThere fs → EachSent MetHere sent
        → fill_fields seen held (named_fields fs) sent ≡ Some (made, rest) → IsFilled made (open_fields seen held fs) sent (unknown_in_fields seen fs) rest
    fields_filled held [] sent made rest own_met met sent_met e =
        let both = same_Some ([], sent) (made, rest) e in
        (sym (ap (λ c. c.0) both), ap (λ c. c.1) both)
    fields_filled held ((f, vs) ∷ fs) sent made rest own_met met sent_met e =
        let from = then_from (with_values f) (fill_values seen (held f) (named_values vs) sent) (fill_fields seen held (named_fields fs))
        (then_fields f (fill_fields seen held (named_fields fs))) refl (λ x left. refl) made rest e in
        let here = values_filled (held f) vs sent from.0 from.1 (own_met f) met.0 sent_met from.3 in
        let further = fields_filled held fs from.1 from.2 rest own_met met.1 (left_met sent (unknown_in_values seen vs) from.1 here.1 sent_met) from.4 in (
          from.5 ∙ (λ t. with_values f (here.0 t) (further.0 t)),
          here.1 ∙ ap (λ l. unknown_in_values seen vs ++ l) further.1 ∙ sym (append_assoc (unknown_in_values seen vs) (unknown_in_fields seen fs) rest),
        )

    pub entries_filled : (own : Held) (es : List (List ℕ × FieldsValue)) (sent : List (List ℕ)) (made : List (List ℕ × FieldsValue)) (rest : List (List ℕ))
        → EachHeld MetHere own → EachEntry MetThere es → EachSent MetHere sent
        → fill_entries seen own (named_entries es) sent ≡ Some (made, rest) → IsFilled made (open_entries seen own es) sent (unknown_in seen es) rest
    entries_filled own [] sent made rest own_met met sent_met e =
        let both = same_Some ([], sent) (made, rest) e in
        (sym (ap (λ c. c.0) both), ap (λ c. c.1) both)
    entries_filled own ((k, fs) ∷ es) sent made rest own_met met sent_met e =
        let held = held_in (finite.get own k) in
        let from = then_from (λ fs es. (k, fs) ∷ es) (fill_fields seen held (named_fields fs) sent) (fill_entries seen own (named_entries es))
        (then_entries k (fill_entries seen own (named_entries es))) refl (λ x left. refl) made rest e in
        let here = fields_filled held fs sent from.0 from.1 (λ f d v. held_met MetHere (finite.get own k) (own_met k) f d v) met.0 sent_met from.3 in
        let further = entries_filled own es from.1 from.2 rest own_met met.1 (left_met sent (unknown_in_fields seen fs) from.1 here.1 sent_met) from.4 in (
          from.5 ∙ (λ t. (k, here.0 t) ∷ further.0 t),
          here.1 ∙ ap (λ l. unknown_in_fields seen fs ++ l) further.1 ∙ sym (append_assoc (unknown_in_fields seen fs) (unknown_in seen es) rest),
        )
