-- Whole bodies of deltas, with a store in either form.
use Rattle.std.proofs.Common.{◌≡◌, ◌↔◌, ℕ, Bool, true, false, Option, Some, None, IsNone, List, [], ◌∷◌, ◌++◌, length, refl, sym, ap, subst, ◌∙◌, arith, eqb}
use Rattle.std.specs.Prelude.{IfSome}
use Rattle.std.specs.Option.{ok_or}
use Rattle.std.proofs.lemmas.Bool.{eqb-true}
use Rattle.std.proofs.lemmas.List.{append-nil}
use Rattle.dots.specs.declared.refusal.Refusal.TheVariants.{NotAMessage}
use Rattle.causal_context.specs.Context.{ContextValue}
use Rattle.op_model.specs.State.{State, IsInside}
use Rattle.causal_join.specs.Causal.{state_of}
use Rattle.causal_join.specs.OrMap.{OrMapStoreValue, OrMapValue, or_map_at}
use Rattle.wire_form.specs.Spelling.{pair, IsPair, Begins, HasNoSpelling}
use Rattle.wire_form.specs.Parts.{context, IsContext}
use Rattle.wire_form.specs.Store.{is_plain_form, store, IsStore, IsStoreOf}
use Rattle.wire_form.specs.Message.{SpellsBody, SpellsDelta, version_of}
use Rattle.wire_form.specs.Reading.{ReadsAll}
use Rattle.wire_form.specs.Unique.{pair_unique}
use Rattle.wire_form.specs.Writing.{Appends}
use Rattle.wire_form.proofs.Pairs.{pair_begins, none_first, none_second}
use Rattle.wire_form.proofs.Bodies.{context_unique}
use Rattle.wire_form.proofs.Stores.{store_unique}

-- a state whose dots are not outside has them inside
inside_from_not_outside : {P H : Type 0} (p : State P H) → (¬ IsInside p → true ≡ false) → IsInside p
inside_from_not_outside p f place dot h = by_test (p.has dot) refl
  where
    by_test : (b : Bool) → p.has dot ≡ b → p.has dot ≡ true
    by_test true e = e
    by_test false e = absurd (cc (f (λ inside. absurd (cc (e, inside place dot h)))))

-- ---- bodies

module _ (plain : Bool) (bytes : List ℕ) where
  no_body : HasNoSpelling (pair context (store plain)) (IsPair IsContext (IsStoreOf plain)) bytes → (d : OrMapValue) → SpellsBody plain bytes d → ⊥
  no_body none d h = none (d.1, d.0) [] (record {
    fits = (h.lawful.context, record { lawful = h.lawful.store; form = h.form });
    parts = h.spelling ∙ sym (append-nil (context d.1 ++ store plain d.0));
  })

  pub no_body_context : HasNoSpelling context IsContext bytes → (d : OrMapValue) → SpellsBody plain bytes d → ⊥
  no_body_context none = no_body (none_first context IsContext (store plain) (IsStoreOf plain) bytes none)

  module _ (c : ContextValue) (rest : List ℕ) (first : Begins context IsContext bytes c rest) where
    pub no_body_store : HasNoSpelling (store plain) (IsStoreOf plain) rest → (d : OrMapValue) → SpellsBody plain bytes d → ⊥
    no_body_store none = no_body (none_second context IsContext (store plain) (IsStoreOf plain) context_unique bytes c rest first none)

    module _ (s : OrMapStoreValue) (end : List ℕ) (second : Begins (store plain) (IsStoreOf plain) rest s end) where
      -- a body is what was read, and nothing stands behind it
      body_is : (d : OrMapValue) → SpellsBody plain bytes d → (◌≡◌ {A = ContextValue × OrMapStoreValue} (c, s) (d.1, d.0)) × (end ≡ [])
      body_is d h =
          let read = pair_begins context IsContext (store plain) (IsStoreOf plain) bytes c rest s end first second in
          pair_unique context IsContext (store plain) (IsStoreOf plain) context_unique (store_unique plain) (c, s) (d.1, d.0) end [] read.fits
          (h.lawful.context, record { lawful = h.lawful.store; form = h.form })
          (sym read.parts ∙ h.spelling ∙ sym (append-nil (context d.1 ++ store plain d.0)))

      pub no_body_end : false ≡ eqb (length end) 0 → (d : OrMapValue) → SpellsBody plain bytes d → ⊥
      no_body_end more d h =
          let nothing : eqb (length end) 0 ≡ true = ap (λ (r : List ℕ). eqb (length r) 0) (body_is d h).1 in
          absurd (cc (more, nothing))

      pub no_body_inside : ¬ IsInside (state_of or_map_at (s, c)) → (d : OrMapValue) → SpellsBody plain bytes d → ⊥
      no_body_inside bad d h =
          let same = (body_is d h).0 in
          bad (subst (λ (p : ContextValue × OrMapStoreValue). IsInside (state_of or_map_at (p.1, p.0))) (sym same) h.lawful.inside)

no_rest : (xs : List ℕ) → true ≡ eqb (length xs) 0 → xs ≡ []
no_rest [] e = refl
no_rest (x ∷ xs) e = absurd (omega (arith, eqb-true (length (x ∷ xs)) 0 (sym e)))

pub body_spelled : (plain : Bool) (bytes : List ℕ) (c : ContextValue) (rest : List ℕ) (s : OrMapStoreValue) (end : List ℕ) (made : OrMapValue)
    → Begins context IsContext bytes c rest → Begins (store plain) (IsStoreOf plain) rest s end
    → true ≡ eqb (length end) 0 → made ≡ (s, c) → (¬ IsInside (state_of or_map_at (s, c)) → true ≡ false) → SpellsBody plain bytes made
body_spelled plain bytes c rest s end made first second e is inside =
    let read = pair_begins context IsContext (store plain) (IsStoreOf plain) bytes c rest s end first second in
    subst (λ (d : OrMapValue). SpellsBody plain bytes d) (sym is)
    (record {
      lawful = record { context = first.fits; store = second.fits.lawful; inside = inside_from_not_outside (state_of or_map_at (s, c)) inside };
      form = second.fits.form;
      spelling = read.parts ∙ ap (λ (t : List ℕ). (context c ++ store plain s) ++ t) (no_rest end e) ∙ append-nil (context c ++ store plain s);
    })

-- the pair of what was read, or none where its store is outside its context
pub delta_read : (plain : Bool) (bytes : List ℕ) (c : ContextValue) (rest : List ℕ) (s : OrMapStoreValue) (end : List ℕ) → Begins context IsContext bytes c rest
    → Begins (store plain) (IsStoreOf plain) rest s end → true ≡ eqb (length end) 0
    → (made : Option OrMapValue) → IfSome made (λ d. d ≡ (s, c)) → IsNone made ↔ ¬ IsInside (state_of or_map_at (s, c))
    → ReadsAll (λ d. d) (SpellsBody plain bytes) (ok_or made NotAMessage)
delta_read plain bytes c rest s end first second e (Some made) is outside = body_spelled plain bytes c rest s end made first second e is outside.1
delta_read plain bytes c rest s end first second e None is outside = no_body_inside plain bytes c rest first s end second (outside.0 refl)

-- bytes spell the body of one delta at most
pub one_body : (plain : Bool) (bytes : List ℕ) (d e : OrMapValue) → SpellsBody plain bytes d → SpellsBody plain bytes e → d ≡ e
one_body plain bytes d e p q =
    let same = pair_unique context IsContext (store plain) (IsStoreOf plain) context_unique (store_unique plain) (d.1, d.0) (e.1, e.0) [] []
    (p.lawful.context, record { lawful = p.lawful.store; form = p.form }) (q.lawful.context, record { lawful = q.lawful.store; form = q.form })
    (append-nil (context d.1 ++ store plain d.0) ∙ sym p.spelling ∙ q.spelling ∙ sym (append-nil (context e.1 ++ store plain e.0))) in
    ap (λ (x : ContextValue × OrMapStoreValue). (x.1, x.0)) same.0

-- a context and a store behind the version and the kind
pub delta_written : (plain : Bool) (head mid bytes : List ℕ) (d : OrMapValue) → head ≡ version_of plain ∷ 1 ∷ [] → Appends context IsContext head mid d.1
    → Appends (store plain) IsStore mid bytes d.0
    → IsInside (state_of or_map_at d) → is_plain_form d.0 ≡ plain → SpellsDelta bytes d
delta_written plain head mid bytes d is p q inside form = record {
  lawful = record { context = p.fits; store = q.fits; inside = inside };
  spelling = q.parts ∙ ap (λ (t : List ℕ). t ++ store plain d.0) (p.parts ∙ ap (λ (t : List ℕ). t ++ context d.1) is)
      ∙ ap (λ (b : Bool). version_of b ∷ 1 ∷ context d.1 ++ store b d.0) (sym form);
}
