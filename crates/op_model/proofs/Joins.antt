-- The causal join at one place and dot, by its table.
use Rattle.std.proofs.Common.{◌≡◌, refl, sym, ap, ◌∙◌, Bool, true, false, ◌||◌, Option, Some, None}
use Rattle.op_model.specs.State.{State, joined, join, Same}

module _ {H : Type 0} (greater : H → H → H) where
  pub joined-comm : ((x y : H) → greater x y ≡ greater y x) → (a : Option H) (s : Bool) (b : Option H) (t : Bool)
      → joined greater a s b t ≡ joined greater b t a s
  joined-comm comm (Some x) s (Some y) t = ap Some (comm x y)
  joined-comm comm (Some x) s None t = refl
  joined-comm comm None s (Some y) t = refl
  joined-comm comm None s None t = refl

  pub joined-idem : ((x : H) → greater x x ≡ x) → (a : Option H) (s : Bool) → joined greater a s a s ≡ a
  joined-idem idem (Some x) s = ap Some (idem x)
  joined-idem idem None s = refl

  pub joined-assoc : ((x y z : H) → greater (greater x y) z ≡ greater x (greater y z))
      → (a : Option H) (s : Bool) (b : Option H) (t : Bool) (c : Option H) (u : Bool) →
      joined greater (joined greater a s b t) (s || t) c u ≡ joined greater a s (joined greater b t c u) (t || u)
  joined-assoc assoc (Some x) s (Some y) t (Some z) u = ap Some (assoc x y z)
  joined-assoc assoc (Some x) s (Some y) true None true = refl
  joined-assoc assoc (Some x) s (Some y) false None true = refl
  joined-assoc assoc (Some x) s (Some y) t None false = refl
  joined-assoc assoc (Some x) true None true (Some z) u = refl
  joined-assoc assoc (Some x) false None true (Some z) u = refl
  joined-assoc assoc (Some x) s None false (Some z) u = refl
  joined-assoc assoc (Some x) s None true None u = refl
  joined-assoc assoc (Some x) s None false None u = refl
  joined-assoc assoc None true (Some y) t (Some z) u = refl
  joined-assoc assoc None false (Some y) t (Some z) u = refl
  joined-assoc assoc None true (Some y) t None true = refl
  joined-assoc assoc None true (Some y) t None false = refl
  joined-assoc assoc None false (Some y) t None true = refl
  joined-assoc assoc None false (Some y) t None false = refl
  joined-assoc assoc None true None true (Some z) u = refl
  joined-assoc assoc None false None true (Some z) u = refl
  joined-assoc assoc None true None false (Some z) u = refl
  joined-assoc assoc None false None false (Some z) u = refl
  joined-assoc assoc None s None t None u = refl

pub or_comm : (s t : Bool) → (s || t) ≡ (t || s)
or_comm true true = refl
or_comm true false = refl
or_comm false true = refl
or_comm false false = refl

pub or_assoc : (s t u : Bool) → ((s || t) || u) ≡ (s || (t || u))
or_assoc true t u = refl
or_assoc false t u = refl

pub or_idem : (s : Bool) → (s || s) ≡ s
or_idem true = refl
or_idem false = refl

module _ {P H : Type 0} (greater : H → H → H) where
  pub join-comm : ((x y : H) → greater x y ≡ greater y x) → (p q : State P H) → Same (join greater p q) (join greater q p)
  join-comm comm p q = record {
    at = λ place dot. joined-comm greater comm (p.at place dot) (p.has dot) (q.at place dot) (q.has dot);
    has = λ dot. or_comm (p.has dot) (q.has dot);
  }

  pub join-assoc : ((x y z : H) → greater (greater x y) z ≡ greater x (greater y z)) → (p q r : State P H)
      → Same (join greater (join greater p q) r) (join greater p (join greater q r))
  join-assoc assoc p q r = record {
    at = λ place dot. joined-assoc greater assoc (p.at place dot) (p.has dot) (q.at place dot) (q.has dot) (r.at place dot) (r.has dot);
    has = λ dot. or_assoc (p.has dot) (q.has dot) (r.has dot);
  }

  pub join-idem : ((x : H) → greater x x ≡ x) → (p : State P H) → Same (join greater p p) p
  join-idem idem p = record {
    at = λ place dot. joined-idem greater idem (p.at place dot) (p.has dot);
    has = λ dot. or_idem (p.has dot);
  }

  -- states that are the same have the same join
  pub join-same : (p q r s : State P H) → Same p r → Same q s → Same (join greater p q) (join greater r s)
  join-same p q r s here there = record {
    at = λ place dot. λ i. joined greater (here.at place dot i) (here.has dot i) (there.at place dot i) (there.has dot i);
    has = λ dot. λ i. here.has dot i || there.has dot i;
  }

module _ {P H : Type 0} where
  pub same-itself : (p : State P H) → Same p p
  same-itself p = record { at = λ place dot. refl; has = λ dot. refl }

  pub same-back : (p q : State P H) → Same p q → Same q p
  same-back p q e = record { at = λ place dot. sym (e.at place dot); has = λ dot. sym (e.has dot) }

  pub same-chain : (p q r : State P H) → Same p q → Same q r → Same p r
  same-chain p q r e f = record { at = λ place dot. e.at place dot ∙ f.at place dot; has = λ dot. e.has dot ∙ f.has dot }
