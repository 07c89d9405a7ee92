-- No dot is used twice: what the moves of a world keep.
use Rattle.std.proofs.Common.{◌≡◌, ℕ, zero, suc, ◌≤◌, max, List, [], ◌∷◌, ◌++◌, fold, refl, sym, ap, ◌∙◌, subst, inl, inr, Bool, true, false, cond, arith}
use Rattle.std.proofs.Common.{eq-eqb}
use Rattle.std.specs.Prelude.{Contains, ◌==◌}
use Rattle.std.proofs.lemmas.Bool.{false≢true, cases_Bool, or_left}
use Rattle.std.proofs.lemmas.List.Elements.{Contains-append_left, Contains-append_right, Contains-append_cases}
use Rattle.dots.specs.declared.dot.Dot.{Dot}
use Rattle.op_model.specs.Operation.{Write, Operation, Wrote, Erased, writes, observed, ids, has, known, NoReuse, IsPartOf}
use Rattle.op_model.specs.Place.{Place}
use Rattle.op_model.specs.Shown.{is_on, shown, shown_where, shown_within, shown_anywhere}
use Rattle.op_model.specs.Made.{greatest_number, next, put_at, erasure, remove_at, remove_field_at, clear_at}
use Rattle.op_model.specs.World.{AbstractWorld, IsSound, AbstractEvent, Node, Put, Remove, RemoveField, Clear, Flush, Deliver, nothing, message, grown, emptied}
use Rattle.op_model.specs.World.{group_messages, makes, sends, learns, happens, after}
use Rattle.op_model.proofs.Dots.{has-append, in_has, from_has}
use Rattle.op_model.proofs.Members.{nothing_in, head_or_tail, at_same, in_map, from_map}
use Rattle.op_model.proofs.Union.{in_writes_left, in_writes_right, in_writes_either}
use Rattle.op_model.proofs.SameSets.{from_shown, writes_part}

-- the greatest number of a name is not passed, and is reached unless it is 0
step_above : (b : Bool) (n m k : ℕ) → k ≤ m → k ≤ cond b (max n m) m
step_above true n m k h = omega arith
step_above false n m k h = h

step_here : (b : Bool) (n m : ℕ) → b ≡ true → n ≤ cond b (max n m) m
step_here true n m e = omega arith
step_here false n m e = absurd (false≢true e)

pub greatest_number-above : (name : ℕ) (ds : List Dot) (d : Dot) → Contains ds d → d.name ≡ name → d.number ≤ greatest_number name ds
greatest_number-above name [] d h e = nothing_in d h
greatest_number-above name (c ∷ ds) d h e =
    elim (head_or_tail c ds d h) [
      | inl same ↦
          let here : d.name == name ≡ true = eq-eqb d.name name e in
          let there : c.name == name ≡ true = ap (λ x. x.name == name) same ∙ here in
          let known_there : c.number ≤ cond (c.name == name) (max c.number (greatest_number name ds)) (greatest_number name ds) =
          step_here (c.name == name) c.number (greatest_number name ds) there in
          subst (λ x. x.number ≤ greatest_number name (c ∷ ds)) same known_there
      | inr t ↦ step_above (c.name == name) c.number (greatest_number name ds) d.number (greatest_number-above name ds d t e)
    ]

-- so the next dot is not among these
pub next-fresh : (name : ℕ) (ds : List Dot) → has ds (next name ds) ≡ false
next-fresh name ds =
    elim (cases_Bool (has ds (next name ds))) [
      | inl e ↦ let bound = greatest_number-above name ds (next name ds) (from_has ds (next name ds) e) refl in absurd (omega arith)
      | inr e ↦ e
    ]

-- what is shown is known
pub shown_known : (S : List Operation) (test : Write → Bool) (dot : Dot) → has (ids (shown_where S test)) dot ≡ true → has (known S) dot ≡ true
shown_known S test dot e =
    let found = from_map (λ w. w.id) (shown_where S test) dot (from_has (ids (shown_where S test)) dot e) in
    let written = (from_shown S test found.0 found.1).0 in
    has-append (ids (writes S)) (observed S) dot
    ∙ or_left (has (ids (writes S)) dot) (has (observed S) dot)
    (in_has (ids (writes S)) dot (at_same (ids (writes S)) found.0.id dot found.2 (in_map (λ w. w.id) (writes S) found.0 written)))

pub written_known : (S : List Operation) (w : Write) → Contains (writes S) w → has (known S) w.id ≡ true
written_known S w h =
    has-append (ids (writes S)) (observed S) w.id
    ∙ or_left (has (ids (writes S)) w.id) (has (observed S) w.id) (in_has (ids (writes S)) w.id (in_map (λ v. v.id) (writes S) w h))

-- operations that a replica that has seen S may make: their writes have new dots of its name
pub record IsNew (S : List Operation) (name : ℕ) (more : List Operation) : Type 0 where
  pub named : (v : Write) → Contains (writes more) v → v.id.name ≡ name
  pub fresh : (v : Write) → Contains (writes more) v → has (known S) v.id ≡ false
  pub not_itself : (v : Write) → Contains (writes more) v → has v.over v.id ≡ false
  pub one_write : (u v : Write) → Contains (writes more) u → Contains (writes more) v → u.id ≡ v.id → u ≡ v
  pub told : Contains more (Erased []) → ⊥

only : (w v : Write) → Contains (w ∷ []) v → w ≡ v
only w v h = elim (head_or_tail w [] v h) [ inl e ↦ e | inr t ↦ nothing_in v t ]

-- an own dot that is not known was not observed
put_not_itself : (S : List Operation) (name : ℕ) (place : Place) → has (ids (shown S place)) (next name (known S)) ≡ false
put_not_itself S name place =
    elim (cases_Bool (has (ids (shown S place)) (next name (known S)))) [
      | inl e ↦ absurd (false≢true (sym (next-fresh name (known S)) ∙ shown_known S (is_on place) (next name (known S)) e))
      | inr e ↦ e
    ]

pub put-new : (S : List Operation) (name : ℕ) (place : Place) (value : List ℕ) → IsNew S name (put_at S name place value)
put-new S name place value =
    let w : Write = record { id = next name (known S); place = place; value = value; over = ids (shown S place) } in
    record {
      named = λ v h. ap (λ x. x.id.name) (sym (only w v h));
      fresh = λ v h. ap (λ x. has (known S) x.id) (sym (only w v h)) ∙ next-fresh name (known S);
      not_itself = λ v h. ap (λ x. has x.over x.id) (sym (only w v h)) ∙ put_not_itself S name place;
      one_write = λ u v h g e. sym (only w u h) ∙ only w v g;
      told = λ h. elim (head_or_tail (Wrote w) [] (Erased []) h) [ inl e ↦ absurd (cc) | inr t ↦ nothing_in (Erased []) t ];
    }

pub erasure-new : (S : List Operation) (name : ℕ) (ds : List Dot) → IsNew S name (erasure ds)
erasure-new S name [] = record {
  named = λ v h. nothing_in v h;
  fresh = λ v h. nothing_in v h;
  not_itself = λ v h. nothing_in v h;
  one_write = λ u v h g e. nothing_in u h;
  told = λ h. nothing_in (Erased []) h;
}
erasure-new S name (d ∷ ds) = record {
  named = λ v h. nothing_in v h;
  fresh = λ v h. nothing_in v h;
  not_itself = λ v h. nothing_in v h;
  one_write = λ u v h g e. nothing_in u h;
  told = λ h. elim (head_or_tail (Erased (d ∷ ds)) [] (Erased []) h) [ inl e ↦ absurd (cc) | inr t ↦ nothing_in (Erased []) t ];
}

-- parts of sets
pub part_left : (S T more : List Operation) → IsPartOf S T → IsPartOf S (T ++ more)
part_left S T more part = λ o h. Contains-append_left T more o (part o h)

pub part_both : (S more T : List Operation) → IsPartOf S T → IsPartOf more T → IsPartOf (S ++ more) T
part_both S more T f g = λ o h. elim (Contains-append_cases S more o h) [ inl here ↦ f o here | inr there ↦ g o there ]

pub nothing_part : (T : List Operation) → IsPartOf [] T
nothing_part T = λ o h. nothing_in o h

pub itself_part : (T : List Operation) → IsPartOf T T
itself_part T = λ o h. h

pub NoReuse-part : (S T : List Operation) → IsPartOf S T → NoReuse T → NoReuse S
NoReuse-part S T part r = record {
  one_write = λ v w h g e. r.one_write v w (writes_part S T part v h) (writes_part S T part w g) e;
  not_itself = λ w h. r.not_itself w (writes_part S T part w h);
}

grown_part : (b : Bool) (S more T : List Operation) → IsPartOf S T → IsPartOf more T → IsPartOf (grown b S more) T
grown_part true S more T f g = part_both S more T f g
grown_part false S more T f g = f

emptied_part : (b : Bool) (S T : List Operation) → IsPartOf S T → IsPartOf (emptied b S) T
emptied_part true S T f = nothing_part T
emptied_part false S T f = f

grown_writes : (b : Bool) (S more : List Operation) (w : Write) → Contains (writes S) w → Contains (writes (grown b S more)) w
grown_writes true S more w h = in_writes_left S more w h
grown_writes false S more w h = h

grown_more : (b : Bool) (S more : List Operation) (w : Write) → b ≡ true → Contains (writes more) w → Contains (writes (grown b S more)) w
grown_more true S more w e h = in_writes_right S more w h
grown_more false S more w e h = absurd (false≢true e)

-- messages, each a part of what was made
pub message-append : (ms more : List (List Operation)) (T : List Operation) → ((number : ℕ) → IsPartOf (message ms number) T)
    → ((number : ℕ) → IsPartOf (message more number) T) →
    (number : ℕ) → IsPartOf (message (ms ++ more) number) T
message-append ms more T f g zero = nothing_part T
message-append [] more T f g (suc n) = g (suc n)
message-append (m ∷ ms) more T f g (suc zero) = f 1
message-append (m ∷ ms) more T f g (suc (suc n)) = message-append ms more T (λ k. shifted k) g (suc n)
  where
    shifted : (k : ℕ) → IsPartOf (message ms k) T
    shifted zero = nothing_part T
    shifted (suc k) = f (suc (suc k))

one_message : (S T : List Operation) → IsPartOf S T → (number : ℕ) → IsPartOf (message (S ∷ []) number) T
one_message S T f zero = nothing_part T
one_message S T f (suc zero) = f
one_message S T f (suc (suc n)) = nothing_part T

sent_message : (S T : List Operation) → IsPartOf S T → (number : ℕ) → IsPartOf (message (group_messages S) number) T
sent_message [] T f zero = nothing_part T
sent_message [] T f (suc n) = nothing_part T
sent_message (o ∷ S) T f number = one_message (o ∷ S) T f number

-- what was made has no reuse, also with new operations
makes_no_reuse : (w : AbstractWorld) (name : ℕ) (more : List Operation) → IsSound w → IsNew (w.seen name) name more → NoReuse (w.made ++ more)
makes_no_reuse w name more s n = record {
  one_write = λ u v h g e.
      elim (in_writes_either w.made more u h) [
        | inl a ↦ elim (in_writes_either w.made more v g) [ inl b ↦ s.no_reuse.one_write u v a b e | inr b ↦ absurd (apart u v a b e) ]
        | inr a ↦ elim (in_writes_either w.made more v g) [ inl b ↦ absurd (apart v u b a (sym e)) | inr b ↦ n.one_write u v a b e ]
      ];
  not_itself = λ u h. elim (in_writes_either w.made more u h) [ inl a ↦ s.no_reuse.not_itself u a | inr a ↦ n.not_itself u a ];
}
  where
    apart : (u v : Write) → Contains (writes w.made) u → Contains (writes more) v → u.id ≡ v.id → ⊥
    apart u v a b e =
        let named : u.id.name ≡ name = ap (λ d. d.name) e ∙ n.named v b in
        let here : Contains (writes (w.seen name)) u = subst (λ k. Contains (writes (w.seen k)) u) named (s.own u a) in
        false≢true (sym (n.fresh v b) ∙ sym (ap (has (known (w.seen name))) e) ∙ written_known (w.seen name) u here)

pub sound-makes : (w : AbstractWorld) (name : ℕ) (more : List Operation) → IsSound w → IsNew (w.seen name) name more → IsSound (makes name more w)
sound-makes w name more s n =
    let added : IsPartOf more (w.made ++ more) = λ o h. Contains-append_right w.made more o h in
    record {
      seen = λ k. grown_part (k == name) (w.seen k) more (w.made ++ more) (part_left (w.seen k) w.made more (s.seen k)) added;
      outgoing = λ k. grown_part (k == name) (w.outgoing k) more (w.made ++ more) (part_left (w.outgoing k) w.made more (s.outgoing k)) added;
      messages = λ k. part_left (message w.messages k) w.made more (s.messages k);
      own = λ v h.
          elim (in_writes_either w.made more v h) [
            | inl a ↦ grown_writes (v.id.name == name) (w.seen v.id.name) more v (s.own v a)
            | inr a ↦ grown_more (v.id.name == name) (w.seen v.id.name) more v (eq-eqb v.id.name name (n.named v a)) a
          ];
      told = λ h. elim (Contains-append_cases w.made more (Erased []) h) [ inl a ↦ s.told a | inr a ↦ n.told a ];
      no_reuse = makes_no_reuse w name more s n;
    }

pub sound-sends : (w : AbstractWorld) (name : ℕ) → IsSound w → IsSound (sends name w)
sound-sends w name s = record {
  seen = s.seen;
  outgoing = λ k. emptied_part (k == name) (w.outgoing k) w.made (s.outgoing k);
  messages = message-append w.messages (group_messages (w.outgoing name)) w.made s.messages (sent_message (w.outgoing name) w.made (s.outgoing name));
  own = s.own;
  told = s.told;
  no_reuse = s.no_reuse;
}

pub sound-learns : (w : AbstractWorld) (name : ℕ) (more : List Operation) → IsSound w → IsPartOf more w.made → IsSound (learns name more w)
sound-learns w name more s part = record {
  seen = λ k. grown_part (k == name) (w.seen k) more w.made (s.seen k) part;
  outgoing = s.outgoing;
  messages = s.messages;
  own = λ v h. grown_writes (v.id.name == name) (w.seen v.id.name) more v (s.own v h);
  told = s.told;
  no_reuse = s.no_reuse;
}

pub sound-nothing : IsSound nothing
sound-nothing = record {
  seen = λ k. nothing_part [];
  outgoing = λ k. nothing_part [];
  messages = λ k. none_there k;
  own = λ v h. nothing_in v h;
  told = λ h. nothing_in (Erased []) h;
  no_reuse = record { one_write = λ v w h g e. nothing_in v h; not_itself = λ w h. nothing_in w h };
}
  where
    none_there : (k : ℕ) → IsPartOf (message [] k) []
    none_there zero = nothing_part []
    none_there (suc k) = nothing_part []

pub sound-happens : (w : AbstractWorld) (e : AbstractEvent) → IsSound w → IsSound (happens w e)
sound-happens w (Node name) s = record { seen = s.seen; outgoing = s.outgoing; messages = s.messages; own = s.own; told = s.told; no_reuse = s.no_reuse }
sound-happens w (Put name place value) s = sound-makes w name (put_at (w.seen name) name place value) s (put-new (w.seen name) name place value)
sound-happens w (Remove name key) s = sound-makes w name (remove_at (w.seen name) key) s (erasure-new (w.seen name) name (ids (shown_within (w.seen name) key)))
sound-happens w (RemoveField name place) s = sound-makes w name (remove_field_at (w.seen name) place) s
    (erasure-new (w.seen name) name (ids (shown (w.seen name) place)))
sound-happens w (Clear name) s = sound-makes w name (clear_at (w.seen name)) s (erasure-new (w.seen name) name (ids (shown_anywhere (w.seen name))))
sound-happens w (Flush name) s = sound-sends w name s
sound-happens w (Deliver number name) s = sound-learns w name (message w.messages number) s (s.messages number)

sound-fold : (events : List AbstractEvent) (w : AbstractWorld) → IsSound w → IsSound (fold happens w events)
sound-fold [] w s = s
sound-fold (e ∷ events) w s = sound-fold events (happens w e) (sound-happens w e s)

pub sound-after : (events : List AbstractEvent) → IsSound (after events)
sound-after events = sound-fold events nothing sound-nothing

pub fold-push : (events : List AbstractEvent) (e : AbstractEvent) (w : AbstractWorld) → fold happens w (events ++ e ∷ []) ≡ happens (fold happens w events) e
fold-push [] e w = refl
fold-push (f ∷ events) e w = fold-push events e (happens w f)

pub after-push : (events : List AbstractEvent) (e : AbstractEvent) → after (events ++ e ∷ []) ≡ happens (after events) e
after-push events e = fold-push events e nothing

pub seen-NoReuse : (events : List AbstractEvent) (name : ℕ) → NoReuse ((after events).seen name)
seen-NoReuse events name = NoReuse-part ((after events).seen name) (after events).made ((sound-after events).seen name) (sound-after events).no_reuse
