-- What is looked up in the two maps of a step: in what is waited for, and in what is built.
use Rattle.std.proofs.Common.{◌≡◌, ◌≢◌, ◌⊎◌, inl, inr, ℕ, List, [], ◌∷◌, ◌++◌, Bool, true, false, cond, Some, None, refl, sym, ◌∙◌, ap}
use Rattle.std.specs.Prelude.{Option}
use Rattle.std.specs.Ordering.{is_eq, eq_by_cmp}
use Rattle.std.specs.Cmp.Lexicographic.{nat_list_cmp_total}
use Rattle.std.specs.FinMap as finite
use Rattle.std.specs.FinMap.{get-insert, get-remove, get-retain_keys}
use Rattle.std.proofs.lemmas.Option.{same_Some}
use Rattle.dots.specs.Bytes.{bytes_cmp}
use Rattle.hash_path.proofs.Words.{tied_same, same_tied}
use Rattle.causal_join.specs.OrMap.{ValuesValue, FieldsValue}
use Rattle.sync_model.specs.Opened.{some_if_any}
use Rattle.sync_model.specs.Differ.{Held}
use Rattle.sync_model.specs.Fetch.{Waiting, put_children, put_entry, put_entries}
use Rattle.sync_model.proofs.Members.{In}

apart : (q k : List ℕ) → q ≢ k → eq_by_cmp bytes_cmp q k ≡ false
apart q k off = step (eq_by_cmp bytes_cmp q k) refl
  where
    step : (b : Bool) → eq_by_cmp bytes_cmp q k ≡ b → b ≡ false
    step true e = absurd (off (tied_same q k e))
    step false e = refl

last_of : List ℕ → ℕ
last_of [] = 0
last_of (x ∷ []) = x
last_of (x ∷ y ∷ ys) = last_of (y ∷ ys)

last-further : (p : List ℕ) (i : ℕ) → last_of (p ++ i ∷ []) ≡ i
unfolding last_of
last-further [] i = refl
last-further (x ∷ []) i = refl
last-further (x ∷ y ∷ p) i = last-further (y ∷ p) i

pub same_last : (p : List ℕ) (i j : ℕ) → p ++ i ∷ [] ≡ p ++ j ∷ [] → i ≡ j
same_last p i j e = sym (last-further p i) ∙ ap last_of e ∙ last-further p j

-- ---- what is waited for

module _ (p : List ℕ) where
  -- what is waited for was waited for, or is a child
  pub from_children : (cs : List (ℕ × List ℕ)) (w : Waiting) (q d : List ℕ) → finite.get (put_children p cs w) q ≡ Some d
      → ((i : ℕ) × In cs (i, d) × (q ≡ p ++ i ∷ [])) ⊎ (finite.get w q ≡ Some d)
  from_children [] w q d e = inr e
  from_children (c ∷ cs) w q d e =
      step (eq_by_cmp bytes_cmp q (p ++ c.0 ∷ [])) refl (sym (get-insert nat_list_cmp_total (put_children p cs w) (p ++ c.0 ∷ []) c.1 q) ∙ e)
      (from_children cs w q d)
    where
      behind : ((i : ℕ) × In cs (i, d) × (q ≡ p ++ i ∷ [])) ⊎ (finite.get w q ≡ Some d) → ((i : ℕ) × In (c ∷ cs) (i, d) × (q ≡ p ++ i ∷ []))
          ⊎ (finite.get w q ≡ Some d)
      behind (inl h) = inl (h.0, inr h.1, h.2)
      behind (inr h) = inr h

      step : (b : Bool) → eq_by_cmp bytes_cmp q (p ++ c.0 ∷ []) ≡ b → cond b (Some c.1) (finite.get (put_children p cs w) q) ≡ Some d
          → (finite.get (put_children p cs w) q ≡ Some d → ((i : ℕ) × In cs (i, d) × (q ≡ p ++ i ∷ [])) ⊎ (finite.get w q ≡ Some d))
          → ((i : ℕ) × In (c ∷ cs) (i, d) × (q ≡ p ++ i ∷ [])) ⊎ (finite.get w q ≡ Some d)
      step true t s further = let value = same_Some c.1 d s in inl (c.0, inl (λ k. (c.0, value k)), tied_same q (p ++ c.0 ∷ []) t)
      step false t s further = behind (further s)

  -- each child is waited for by its digest, where one index has one digest
  pub child_waits : (told : ℕ → Option (List ℕ)) (cs : List (ℕ × List ℕ)) (w : Waiting) (i : ℕ) (d : List ℕ)
      → ((j : ℕ) (x : List ℕ) → In cs (j, x) → told j ≡ Some x) → In cs (i, d)
      → finite.get (put_children p cs w) (p ++ i ∷ []) ≡ Some d
  child_waits told [] w i d one h = absurd h
  child_waits told (c ∷ cs) w i d one h =
      get-insert nat_list_cmp_total (put_children p cs w) (p ++ c.0 ∷ []) c.1 (p ++ i ∷ [])
      ∙ step (eq_by_cmp bytes_cmp (p ++ i ∷ []) (p ++ c.0 ∷ [])) refl h (child_waits told cs w i d (λ j x g. one j x (inr g)))
    where
      step : (b : Bool) → eq_by_cmp bytes_cmp (p ++ i ∷ []) (p ++ c.0 ∷ []) ≡ b → In (c ∷ cs) (i, d)
          → (In cs (i, d) → finite.get (put_children p cs w) (p ++ i ∷ []) ≡ Some d)
          → cond b (Some c.1) (finite.get (put_children p cs w) (p ++ i ∷ [])) ≡ Some d
      step true t g further =
          let same = same_last p i c.0 (tied_same (p ++ i ∷ []) (p ++ c.0 ∷ []) t) in
          ap Some (same_Some c.1 d (sym (one c.0 c.1 (inl refl)) ∙ ap told (sym same) ∙ one i d g))
      step false t (inl here) further =
          absurd (let on : true ≡ false = sym (same_tied (p ++ i ∷ []) (p ++ c.0 ∷ []) (ap (λ x. p ++ x ∷ []) (sym (ap (λ x. x.0) here)))) ∙ t in cc)
      step false t (inr there) further = further there

  -- and what is no child is as it was
  pub not_child : (cs : List (ℕ × List ℕ)) (w : Waiting) (q : List ℕ) → ((i : ℕ) (d : List ℕ) → In cs (i, d) → q ≢ p ++ i ∷ [])
      → finite.get (put_children p cs w) q ≡ finite.get w q
  not_child [] w q off = refl
  not_child (c ∷ cs) w q off =
      get-insert nat_list_cmp_total (put_children p cs w) (p ++ c.0 ∷ []) c.1 q
      ∙ ap (λ b. cond b (Some c.1) (finite.get (put_children p cs w) q)) (apart q (p ++ c.0 ∷ []) (off c.0 c.1 (inl refl)))
      ∙ not_child cs w q (λ i d h. off i d (inr h))

-- ---- what is built

fields_put : (key : List ℕ) (fs : FieldsValue) (m : Held) (q : List ℕ) → q ≢ key → finite.get (put_entry key fs m) q ≡ finite.get m q
fields_put key [] m q off = refl
fields_put key (f ∷ fs) m q off = get-insert nat_list_cmp_total m key (f ∷ fs) q ∙ ap (λ b. cond b (Some (f ∷ fs)) (finite.get m q)) (apart q key off)

-- a key of no entry is as it was
pub no_entry : (es : List (List ℕ × FieldsValue)) (m : Held) (q : List ℕ) → ((fs : FieldsValue) → ¬ In es (q, fs))
    → finite.get (put_entries es m) q ≡ finite.get m q
no_entry [] m q off = refl
no_entry (e ∷ es) m q off = fields_put e.0 e.1 (put_entries es m) q (λ s. off e.1 (inl (λ k. (sym s k, e.1)))) ∙ no_entry es m q (λ fs h. off fs (inr h))

-- entries that hold nothing put nothing
empty_entry : (es : List (List ℕ × FieldsValue)) (m : Held) (q : List ℕ) → ((gs : FieldsValue) → In es (q, gs) → gs ≡ [])
    → finite.get (put_entries es m) q ≡ finite.get m q
empty_entry [] m q one = refl
empty_entry (e ∷ es) m q one = step (eq_by_cmp bytes_cmp q e.0) refl ∙ empty_entry es m q (λ gs g. one gs (inr g))
  where
    step : (b : Bool) → eq_by_cmp bytes_cmp q e.0 ≡ b → finite.get (put_entry e.0 e.1 (put_entries es m)) q ≡ finite.get (put_entries es m) q
    step true t = let key = tied_same q e.0 t in ap (λ gs. finite.get (put_entry e.0 gs (put_entries es m)) q) (one e.1 (inl (λ k. (sym key k, e.1))))
    step false t = fields_put e.0 e.1 (put_entries es m) q (λ s. let on : true ≡ false = sym (same_tied q e.0 s) ∙ t in absurd cc)

full_entry : (es : List (List ℕ × FieldsValue)) (m : Held) (q : List ℕ) (f : List ℕ × ValuesValue) (fs : FieldsValue)
    → ((gs : FieldsValue) → In es (q, gs) → gs ≡ f ∷ fs) → In es (q, f ∷ fs)
    → finite.get (put_entries es m) q ≡ Some (f ∷ fs)
full_entry [] m q f fs one h = absurd h
full_entry (e ∷ es) m q f fs one h = step (eq_by_cmp bytes_cmp q e.0) refl h (full_entry es m q f fs (λ gs g. one gs (inr g)))
  where
    step : (b : Bool) → eq_by_cmp bytes_cmp q e.0 ≡ b → In (e ∷ es) (q, f ∷ fs) → (In es (q, f ∷ fs) → finite.get (put_entries es m) q ≡ Some (f ∷ fs))
        → finite.get (put_entry e.0 e.1 (put_entries es m)) q ≡ Some (f ∷ fs)
    step true t g further =
        let key = tied_same q e.0 t in
        ap (λ gs. finite.get (put_entry e.0 gs (put_entries es m)) q) (one e.1 (inl (λ k. (sym key k, e.1))))
        ∙ get-insert nat_list_cmp_total (put_entries es m) e.0 (f ∷ fs) q ∙ ap (λ b. cond b (Some (f ∷ fs)) (finite.get (put_entries es m) q)) t
    step false t (inl here) further = let on : true ≡ false = sym (same_tied q e.0 (sym (ap (λ x. x.0) here))) ∙ t in absurd cc
    step false t (inr there) further = fields_put e.0 e.1 (put_entries es m) q (λ s. let on : true ≡ false = sym (same_tied q e.0 s) ∙ t in absurd cc)
        ∙ further there

-- and that of an entry is what the entry says, where the key was not there
pub one_entry : (es : List (List ℕ × FieldsValue)) (m : Held) (q : List ℕ) (fs : FieldsValue) → ((gs : FieldsValue) → In es (q, gs) → gs ≡ fs) → In es (q, fs)
    → finite.get m q ≡ None
    → finite.get (put_entries es m) q ≡ some_if_any fs
one_entry es m q [] one h none = empty_entry es m q one ∙ none
one_entry es m q (f ∷ fs) one h none = full_entry es m q f fs one h

-- ---- what stays

pub if_stays : (m : Held) (keep : List ℕ → Bool) (q : List ℕ) → finite.get (finite.retain_keys m keep) q ≡ cond (keep q) (finite.get m q) None
if_stays m keep q = get-retain_keys m keep q (λ x t. ap keep (sym (tied_same q x (ap is_eq t))))

pub removed_there : (w : Waiting) (p : List ℕ) → finite.get (finite.remove w p) p ≡ None
removed_there w p = get-remove nat_list_cmp_total w p p ∙ ap (λ b. cond b None (finite.get w p)) (same_tied p p refl)

pub removed_elsewhere : (w : Waiting) (p q : List ℕ) → q ≢ p → finite.get (finite.remove w p) q ≡ finite.get w q
removed_elsewhere w p q off = get-remove nat_list_cmp_total w p q ∙ ap (λ b. cond b None (finite.get w q)) (apart q p off)
