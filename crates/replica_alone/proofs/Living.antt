-- The live state of a replica by itself is finite after deeds whose messages were finite, whatever clashed.
use Rattle.std.proofs.Common.{◌≡◌, ◌⊎◌, inl, inr, ℕ, List, [], ◌∷◌, ◌++◌, Bool, true, Option, Some, None, refl, sym, ◌∙◌, ap, subst}
use Rattle.std.specs.Prelude.{IsTrue, is_some, ◌||◌}
use Rattle.std.specs.FinMap as finite
use Rattle.std.specs.FinMap.Entries.{find}
use Rattle.std.proofs.lemmas.Bool.{or_left, or_right}
use Rattle.dots.specs.Bytes.{bytes_cmp}
use Rattle.dots.specs.Dot.{DotValue}
use Rattle.dots.specs.declared.dot.Dot.{Dot}
use Rattle.causal_context.specs.Dots.{dot_cmp}
use Rattle.causal_join.specs.OrMap.{ValuesValue, FieldsValue}
use Rattle.op_model.specs.Meaning.{MapState, greater, state}
use Rattle.op_model.specs.Made.{erasure}
use Rattle.op_model.specs.Operation.{Operation, Wrote}
use Rattle.op_model.specs.Place.{Place}
use Rattle.op_model.specs.State.{IsInside, joined, join}
use Rattle.op_model.proofs.Making.{state-inside}
use Rattle.sync_model.specs.Closing.{held_state}
use Rattle.sync_model.specs.Differ.{Held}
use Rattle.sync_model.specs.Fetch.{Fetch, take_page}
use Rattle.sync_model.specs.Fetch as fetch
use Rattle.sync_model.specs.Laws.{Taking, Fetched}
use Rattle.sync_model.specs.Opened.{held_in}
use Rattle.sync_model.proofs.Found.{find_in}
use Rattle.sync_model.proofs.Held.{values_or_none, there, held_there}
use Rattle.wire_form.specs.Session.{SessionValue}
use Rattle.replica_model.specs.Alone.{Deed, Calls, Comes, Befalls, RunsAlone}
use Rattle.replica_model.specs.Delivery.{Turn, is_complete, delivered}
use Rattle.replica_model.specs.Mail.{Mail, Opening}
use Rattle.replica_model.specs.Replica.{Replica, Open, Accepted, open_at, open_numbered, makes}
use Rattle.replica_model.specs.SessionsAlone.{TookOpening}
use Rattle.replica_model.specs.Step.{Call, Put, Remove, RemoveField, Clear, Flush, Ask, Retry, Abandon, Restart, Answer, Abandons, IsCall}
use Rattle.replica_model.specs.World.{World, nothing, taking_of}
use Rattle.replica_model.proofs.Built.{EachHeld, some_of, whole_known}
use Rattle.replica_model.proofs.Ending.{none_waits}
use Rattle.replica_model.proofs.Finite.{IsFinite, state_finite, from_either, join_finite, held_finite}
use Rattle.replica_model.proofs.Found.{found_open}
use Rattle.replica_model.proofs.Rows.{each_row}
use Rattle.replica_model.proofs.SessionsAlone.{TiedWorld, by_deeds, tied}
use Rattle.replica_model.proofs.Standing.{found_dot}
use Rattle.replica_model.proofs.Unchanged.{unchanged}
use Rattle.replica_alone.specs.Finite.{KnowsFew, IsFiniteState, IsFiniteMail, CameFinite}
use Rattle.replica_alone.proofs.Deeds.{called_now, came_now}

-- ---- states that are finite, and know what stands in them

abbrev pub IsWhole : MapState → Type 0
IsWhole p = IsFinite p × IsInside p

whole_state : (S : List Operation) → IsWhole (state S)
whole_state S = (state_finite S, state-inside S)

whole_delta : (p : MapState) → IsFiniteState p → IsWhole p
whole_delta p is = (record { places = is.places; at = is.at; dots = is.dots.0; knows = is.dots.1 }, is.inside)

whole_join : (p q : MapState) → IsWhole p → IsWhole q → IsWhole (join greater p q)
whole_join p q f g = (
  join_finite p q f.0 g.0,
  λ place dot some.
      let stands = some_of (joined greater (p.at place dot) (p.has dot) (q.at place dot) (q.has dot)) some in
      known place dot stands.0 (from_either (p.at place dot) (p.has dot) (q.at place dot) (q.has dot) stands.0 stands.1),
)
  where
    known : (place : Place) (dot : Dot) (v : List ℕ) → (p.at place dot ≡ Some v) ⊎ (q.at place dot ≡ Some v) → IsTrue (p.has dot || q.has dot)
    known place dot v (inl e) = or_left (p.has dot) (q.has dot) (f.1 place dot (ap is_some e))
    known place dot v (inr e) = or_right (p.has dot) (q.has dot) (g.1 place dot (ap is_some e))

-- ---- what a map holds

module _ (m : Held) (known : DotValue → Bool) (all : EachHeld (λ d name. known d ≡ true) m) where
  -- a dot at which something stands is known
  held_known : (key field : List ℕ) (d : DotValue) (v : List ℕ) → held_in (finite.get m key) field d ≡ Some v → known d ≡ true
  held_known key field d v e = by_key (finite.get m key) refl (sym (held_there (finite.get m key) field d) ∙ e)
    where
      by_field : (fs : FieldsValue) → finite.get m key ≡ Some fs → (y : Option ValuesValue) → find bytes_cmp field fs ≡ y
          → find dot_cmp d (values_or_none y) ≡ Some v → known d ≡ true
      by_field fs t None u r = absurd cc
      by_field fs t (Some vs) u r = all key fs t (field, vs) (find_in field fs vs u) (d, v) (found_dot vs d v r)

      by_key : (x : Option FieldsValue) → finite.get m key ≡ x → there x field d ≡ Some v → known d ≡ true
      by_key None t s = absurd cc
      by_key (Some fs) t s = by_field fs t (find bytes_cmp field fs) refl s

  whole_held : KnowsFew known → IsWhole (held_state m known)
  whole_held few = (
    held_finite m known few.0 few.1,
    λ place dot some. let stands = some_of (held_in (finite.get m place.key) place.field dot) some in held_known place.key place.field dot stands.0 stands.1,
  )

-- ---- messages that came

came_first : (deeds more : List Deed) → CameFinite (deeds ++ more) → CameFinite deeds
came_first [] more came = tt
came_first (Calls c ∷ deeds) more came = came_first deeds more came
came_first (Comes mail of ∷ deeds) more came = (came.0, came_first deeds more came.1)

came_last : (deeds more : List Deed) → CameFinite (deeds ++ more) → CameFinite more
came_last [] more came = came
came_last (Calls c ∷ deeds) more came = came_last deeds more came
came_last (Comes mail of ∷ deeds) more came = came_last deeds more came.1

-- ---- a call

pub record IsLiving (r : Replica) : Type 0 where
  pub live : IsWhole r.live
  pub group : IsFinite r.group

to : (new r : Replica) → new ≡ r → IsLiving r → IsLiving new
to new r e l = subst IsLiving (sym e) l

made : (r : Replica) (S : List Operation) → IsLiving r → IsLiving (makes r (state S))
made r S l = record { live = whole_join r.live (state S) l.live (whole_state S); group = join_finite r.group (state S) l.group (state_finite S) }

abandon_lives : (r new : Replica) (o : Option Open) (answer : Answer) → IsLiving r → Abandons r o new answer → IsLiving new
abandon_lives r new None answer l (n, a) = to new r n l
abandon_lives r new (Some o) answer l (n, a) = to new _ n (record { live = l.live; group = l.group })

call_lives : (r new : Replica) (c : Call) (answer : Answer) (out : List Mail) → IsLiving r → IsCall r c new answer out → IsLiving new
call_lives r new (Put place value) answer out l (w, put, lt, n, a, o) = to new _ n (made r (Wrote w ∷ []) l)
call_lives r new (Remove key) answer out l (over, just, n, a, o) = to new _ n (made r (erasure over) l)
call_lives r new (RemoveField place) answer out l (over, just, n, a, o) = to new _ n (made r (erasure over) l)
call_lives r new Clear answer out l (over, just, n, a, o) = to new _ n (made r (erasure over) l)
call_lives r new Flush answer out l (a, inl (none, n, o)) = to new r n l
call_lives r new Flush answer out l (a, inr (some, n, o)) = to new _ n (record { live = l.live; group = state_finite [] })
call_lives r new (Ask peer) answer out l (own, is, few, left, n, a, o) = to new _ n (record { live = l.live; group = l.group })
call_lives r new (Retry number) answer out l (n, a, o) = to new r n l
call_lives r new (Abandon number) answer out l (step, o) = abandon_lives r new (open_numbered r.sessions number) answer l step
call_lives r new Restart answer out l (n, a, o) = to new _ n (record { live = l.live; group = l.group })

-- ---- a delivery

module _ (hash_of : List ℕ → ℕ) (name : ℕ) where
  module _ (deeds : List Deed) (w : World) (t : TiedWorld hash_of name deeds w) (came : CameFinite deeds) (whole : IsWhole (w.replica name).live) where
    abbrev r : Replica
    r = w.replica name

    -- the opening that a session took was finite
    few_opened : (s : SessionValue) (context : DotValue → Bool) (root : Option (List ℕ)) → TookOpening hash_of name deeds s context root → KnowsFew context
    few_opened s context root took =
        (came_last took.front (Comes (Opening s context root) took.of ∷ took.later) (subst CameFinite took.split came)).0

    page_lives : (o : Open) (a : Accepted) (f : Fetch) (taking : Taking) → (s : SessionValue) → open_at r.sessions s ≡ Some o → o.accepted ≡ Some a
        → take_page hash_of o.own o.seen a.context a.fetch taking.prefix taking.page taking.sent ≡ fetch.Took f → is_complete f ≡ true
        → IsWhole (join greater r.live (held_state f.built a.context))
    page_lives o a f taking s there accepted took complete =
        let was = (t.sessions o (found_open r.sessions s o there).0).fetched a accepted in
        let got : Fetched hash_of o.own o.seen a.context was.0 (taking ∷ w.taken o.session) f = (a.fetch, was.2, took) in
        whole_join r.live (held_state f.built a.context) whole
        (whole_held f.built a.context (whole_known hash_of o.own o.seen a.context was.0 (taking ∷ w.taken o.session) f got (none_waits f complete))
        (few_opened o.session a.context was.0 was.1))

    delivery_lives : (own : Held) (mail : Mail) → IsFiniteMail mail → IsWhole (delivered hash_of own r mail).new.live
    delivery_lives own = each_row hash_of own r (λ mail to. IsFiniteMail mail → IsWhole to.new.live) (record {
      ignoring = λ mail other fine. whole;
      mismatch = λ mail other fine. whole;
      delta = λ d fine. whole_join r.live d whole (whole_delta d fine);
      told_again = λ s seen k e fine. whole;
      kept = λ s seen here none fine. whole;
      gone = λ s p fine. whole;
      page = λ s p k page fine. whole;
      opening_done = λ s c root o f there first took complete fine.
          whole_join r.live (held_state f.built c) whole
          (whole_held f.built c (whole_known hash_of o.own o.seen c root [] f took (none_waits f complete)) fine);
      opening_sent = λ s c root o f there first took fine. whole;
      page_done = λ s sent o a f there accepted took complete fine. page_lives o a f (taking_of sent) s there accepted took complete;
      page_sent = λ s sent o a f there accepted took fine. whole;
      ended = λ s o there fine. whole;
    })

  -- ---- deeds

  abbrev Lives : List Deed → World → Type 0
  Lives deeds w = CameFinite deeds → IsLiving (w.replica name)

  lives_next : (deeds : List Deed) (w v : World) (d : Deed) (answer : Answer) → RunsAlone hash_of name nothing deeds w → Lives deeds w
      → Befalls hash_of name w d answer v → Lives (deeds ++ d ∷ []) v
  lives_next deeds w v (Calls c) answer runs l befalls came =
      let d = called_now hash_of name w v c answer befalls in
      to (v.replica name) d.new d.here
      (call_lives (w.replica name) d.new c answer d.out (l (came_first deeds (Calls c ∷ []) came)) d.step)
  lives_next deeds w v (Comes mail of) answer runs l befalls came =
      let d = came_now hash_of name w v mail of answer befalls in
      let first = came_first deeds (Comes mail of ∷ []) came in
      let last = came_last deeds (Comes mail of ∷ []) came in
      let before = l first in
      let after = delivery_lives deeds w (tied hash_of name deeds w runs) first before.live d.own mail last.0 in
      to (v.replica name) d.new d.here (record {
        live = subst (λ (t : Turn). IsWhole t.new.live) d.step after;
        group = subst IsFinite (sym (ap (λ (t : Turn). t.new.group) (sym d.step) ∙ (unchanged hash_of d.own (w.replica name) mail).1)) before.group;
      })

  pub living : (deeds : List Deed) (w : World) → RunsAlone hash_of name nothing deeds w → CameFinite deeds → IsLiving (w.replica name)
  living = by_deeds hash_of name Lives (λ came. record { live = whole_state []; group = state_finite [] }) lives_next
