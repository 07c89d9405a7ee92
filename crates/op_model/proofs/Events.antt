-- How a pair that means what a replica has seen keeps its meaning over each event of a world.
use Rattle.std.proofs.Common.{◌≡◌, ◌≢◌, ℕ, List, [], ◌∷◌, ◌++◌, refl, sym, ap, ◌∙◌, subst, Bool, true, false, ◌||◌}
use Rattle.std.specs.Prelude.{Contains, ◌↔◌, ◌==◌}
use Rattle.std.proofs.lemmas.Bool.{false≢true, or_left, or_right}
use Rattle.dots.specs.declared.dot.Dot.{Dot}
use Rattle.dots.specs.Dot.{same_dot}
use Rattle.op_model.specs.Place.{Place}
use Rattle.op_model.specs.State.{join, Same}
use Rattle.op_model.specs.Operation.{Write, Operation, Wrote, Erased, has, ids, known, writes, observed}
use Rattle.op_model.specs.Shown.{shown, shown_within, shown_anywhere}
use Rattle.op_model.specs.Meaning.{MapState, greater, state}
use Rattle.op_model.specs.Made.{put_at, erasure, remove_at, remove_field_at, clear_at, IsPutAt, IsRemoveAt, IsFieldRemoveAt, IsClearAt}
use Rattle.op_model.specs.World.{AbstractWorld, Means, IsUntouched, replica_of, AbstractEvent, Node, Put, Remove, RemoveField, Clear, Flush, Deliver, is_among}
use Rattle.op_model.specs.World.{is_node, message, makes, happens, after}
use Rattle.op_model.proofs.Joins.{same-chain, or_assoc}
use Rattle.op_model.proofs.Dots.{same_dot-self, has-append}
use Rattle.op_model.proofs.Making.{put_made, remove_made, field_remove_made, clear_made}
use Rattle.op_model.proofs.Members.{at_head}
use Rattle.op_model.proofs.Fresh.{IsNew, put-new, erasure-new, sound-after, after-push}
use Rattle.op_model.proofs.Pairs.{grown-there, emptied-here, emptied-there, makes_live, makes_group, learns_live}

then_after : (events : List AbstractEvent) (e : AbstractEvent) (p g : MapState) (name : ℕ) → Means p g (happens (after events) e) name
    → Means p g (after (events ++ e ∷ [])) name
then_after events e p g name h = let P : AbstractWorld → Type 0 = λ w. Means p g w name in subst P (sym (after-push events e)) h

module _ (events : List AbstractEvent) (name : ℕ) (p g : MapState) (means : Means p g (after events) name) where
  makes_means : (more : List Operation) → IsNew ((after events).seen name) name more → (d : MapState) → Same d (state more) →
      Means (join greater p d) (join greater g d) (makes name more (after events)) name
  makes_means more new d delta = record {
    seen = makes_live (after events) (sound-after events) name more new p d means.seen delta;
    outgoing = makes_group (after events) (sound-after events) name more new g d means.outgoing delta;
  }

  -- a put, the removes and a clear, with the delta that means the operation made at the set
  pub after_put : (place : Place) (value : List ℕ) (d : MapState) → Same d (state (put_at ((after events).seen name) name place value)) →
      Means (join greater p d) (join greater g d) (after (events ++ Put name place value ∷ [])) name
  after_put place value d delta =
      then_after events (Put name place value) (join greater p d) (join greater g d) name
      (makes_means (put_at ((after events).seen name) name place value) (put-new ((after events).seen name) name place value) d delta)

  pub after_remove : (key : List ℕ) (d : MapState) → Same d (state (remove_at ((after events).seen name) key)) →
      Means (join greater p d) (join greater g d) (after (events ++ Remove name key ∷ [])) name
  after_remove key d delta =
      then_after events (Remove name key) (join greater p d) (join greater g d) name
      (makes_means (remove_at ((after events).seen name) key)
      (erasure-new ((after events).seen name) name (ids (shown_within ((after events).seen name) key))) d delta)

  pub after_remove_field : (place : Place) (d : MapState) → Same d (state (remove_field_at ((after events).seen name) place)) →
      Means (join greater p d) (join greater g d) (after (events ++ RemoveField name place ∷ [])) name
  after_remove_field place d delta =
      then_after events (RemoveField name place) (join greater p d) (join greater g d) name
      (makes_means (remove_field_at ((after events).seen name) place)
      (erasure-new ((after events).seen name) name (ids (shown ((after events).seen name) place))) d delta)

  pub after_clear : (d : MapState) → Same d (state (clear_at ((after events).seen name))) →
      Means (join greater p d) (join greater g d) (after (events ++ Clear name ∷ [])) name
  after_clear d delta =
      then_after events (Clear name) (join greater p d) (join greater g d) name
      (makes_means (clear_at ((after events).seen name)) (erasure-new ((after events).seen name) name
      (ids (shown_anywhere ((after events).seen name)))) d delta)

  -- the same with the delta of the operation made at the pair
  pub after_put_at : (place : Place) (value : List ℕ) (w : Write) (d : MapState) → IsPutAt p name place value w → Same d (state (Wrote w ∷ [])) →
      Means (join greater p d) (join greater g d) (after (events ++ Put name place value ∷ [])) name
  after_put_at place value w d made delta =
      after_put place value d (same-chain d (state (Wrote w ∷ [])) (state (put_at ((after events).seen name) name place value)) delta
      (put_made ((after events).seen name) p means.seen name place value w made))

  pub after_remove_at : (key : List ℕ) (over : List Dot) (d : MapState) → IsRemoveAt p key over → Same d (state (erasure over)) →
      Means (join greater p d) (join greater g d) (after (events ++ Remove name key ∷ [])) name
  after_remove_at key over d made delta =
      after_remove key d (same-chain d (state (erasure over)) (state (remove_at ((after events).seen name) key)) delta
      (remove_made ((after events).seen name) p means.seen key over made))

  pub after_remove_field_at : (place : Place) (over : List Dot) (d : MapState) → IsFieldRemoveAt p place over → Same d (state (erasure over)) →
      Means (join greater p d) (join greater g d) (after (events ++ RemoveField name place ∷ [])) name
  after_remove_field_at place over d made delta =
      after_remove_field place d (same-chain d (state (erasure over)) (state (remove_field_at ((after events).seen name) place)) delta
      (field_remove_made ((after events).seen name) p means.seen place over made))

  pub after_clear_at : (over : List Dot) (d : MapState) → IsClearAt p over → Same d (state (erasure over)) →
      Means (join greater p d) (join greater g d) (after (events ++ Clear name ∷ [])) name
  after_clear_at over d made delta =
      after_clear d (same-chain d (state (erasure over)) (state (clear_at ((after events).seen name))) delta
      (clear_made ((after events).seen name) p means.seen over made))

  -- a flush leaves the live pair, and an empty group
  pub after_flush : (e : MapState) → Same e (state []) → Means p e (after (events ++ Flush name ∷ [])) name
  after_flush e empty =
      then_after events (Flush name) p e name
      (record { seen = means.seen; outgoing = subst (λ S. Same e (state S)) (sym (emptied-here name ((after events).outgoing name))) empty })

  -- a group that knows no dot is to send nothing
  pub group_empty : ((dot : Dot) → g.has dot ≡ false) ↔ ((after events).outgoing name ≡ [])
  group_empty = (λ h. by ((after events).outgoing name) refl h, λ e dot. means.outgoing.has dot ∙ ap (λ S. has (known S) dot) e)
    where
      by : (S : List Operation) → (after events).outgoing name ≡ S → ((dot : Dot) → g.has dot ≡ false) → (after events).outgoing name ≡ []
      by [] e h = e
      by (Wrote w ∷ S) e h =
          absurd (false≢true (sym (h w.id) ∙ means.outgoing.has w.id ∙ ap (λ T. has (known T) w.id) e
          ∙ or_left (same_dot w.id w.id) (has (ids (writes S) ++ observed (Wrote w ∷ S)) w.id) (same_dot-self w.id)))
      by (Erased [] ∷ S) e h =
          absurd ((sound-after events).told ((sound-after events).outgoing name (Erased [])
          (subst (λ T. Contains T (Erased [])) (sym e) (at_head (Erased []) S))))
      by (Erased (d ∷ ds) ∷ S) e h =
          let there : has (known (Erased (d ∷ ds) ∷ S)) d ≡ true =
          has-append (ids (writes S)) ((d ∷ ds) ++ observed S) d
          ∙ or_right (has (ids (writes S)) d) (has ((d ∷ ds) ++ observed S) d) (or_left (same_dot d d) (has (ds ++ observed S) d) (same_dot-self d)) in
          absurd (false≢true (sym (h d) ∙ means.outgoing.has d ∙ ap (λ T. has (known T) d) e ∙ there))

  -- a delivery leaves the group
  pub after_deliver : (number : ℕ) (d : MapState) → Same d (state (message (after events).messages number)) →
      Means (join greater p d) g (after (events ++ Deliver number name ∷ [])) name
  after_deliver number d delta =
      then_after events (Deliver number name) (join greater p d) g name
      (record {
        seen = learns_live (after events) (sound-after events) name (message (after events).messages number) ((sound-after events).messages number)
            p d means.seen delta;
        outgoing = means.outgoing;
      })

-- an event leaves every other replica as it was
pub untouched : (w : AbstractWorld) (e : AbstractEvent) (n : ℕ) → n ≢ replica_of e → IsUntouched w (happens w e) n
untouched w (Node name) n apart = record { seen = refl; outgoing = refl }
untouched w (Put name place value) n apart = record {
  seen = grown-there n name (w.seen n) (put_at (w.seen name) name place value) apart;
  outgoing = grown-there n name (w.outgoing n) (put_at (w.seen name) name place value) apart;
}
untouched w (Remove name key) n apart = record {
  seen = grown-there n name (w.seen n) (remove_at (w.seen name) key) apart;
  outgoing = grown-there n name (w.outgoing n) (remove_at (w.seen name) key) apart;
}
untouched w (RemoveField name place) n apart = record {
  seen = grown-there n name (w.seen n) (remove_field_at (w.seen name) place) apart;
  outgoing = grown-there n name (w.outgoing n) (remove_field_at (w.seen name) place) apart;
}
untouched w (Clear name) n apart = record {
  seen = grown-there n name (w.seen n) (clear_at (w.seen name)) apart;
  outgoing = grown-there n name (w.outgoing n) (clear_at (w.seen name)) apart;
}
untouched w (Flush name) n apart = record { seen = refl; outgoing = emptied-there n name (w.outgoing n) apart }
untouched w (Deliver number name) n apart = record { seen = grown-there n name (w.seen n) (message w.messages number) apart; outgoing = refl }

pub after_elsewhere : (events : List AbstractEvent) (e : AbstractEvent) (n : ℕ) → n ≢ replica_of e → IsUntouched (after events) (after (events ++ e ∷ [])) n
after_elsewhere events e n apart = let P : AbstractWorld → Type 0 = λ w. IsUntouched (after events) w n in
    subst P (sym (after-push events e)) (untouched (after events) e n apart)

-- and what another replica's pairs meant they mean
pub means_elsewhere : (events : List AbstractEvent) (e : AbstractEvent) (n : ℕ) (p g : MapState) → n ≢ replica_of e → Means p g (after events) n
    → Means p g (after (events ++ e ∷ [])) n
means_elsewhere events e n p g apart means =
    let still = after_elsewhere events e n apart in
    record {
      seen = subst (λ S. Same p (state S)) (sym still.seen) means.seen;
      outgoing = subst (λ S. Same g (state S)) (sym still.outgoing) means.outgoing;
    }

-- what the messages carry: a flush adds the group, if there is anything in it, and no other event adds any
pub messages_after : (events : List AbstractEvent) (e : AbstractEvent) → (after (events ++ e ∷ [])).messages ≡ (happens (after events) e).messages
messages_after events e = ap (λ w. w.messages) (after-push events e)

-- a new replica's name is there, and the pairs mean what they meant
among-append : (ns ms : List ℕ) (name : ℕ) → is_among (ns ++ ms) name ≡ (is_among ns name || is_among ms name)
among-append [] ms name = refl
among-append (n ∷ ns) ms name = ap (λ b. (n == name) || b) (among-append ns ms name) ∙ sym (or_assoc (n == name) (is_among ns name) (is_among ms name))

or_false : (b : Bool) → (b || false) ≡ b
or_false true = refl
or_false false = refl

pub node_there : (events : List AbstractEvent) (name n : ℕ) → is_node (after (events ++ Node name ∷ [])) n ≡ (is_node (after events) n || name == n)
node_there events name n =
    ap (λ w. is_node w n) (after-push events (Node name)) ∙ among-append (after events).nodes (name ∷ []) n
    ∙ ap (λ b. is_node (after events) n || b) (or_false (name == n))

pub node_means : (events : List AbstractEvent) (name n : ℕ) (p g : MapState) → Means p g (after events) n → Means p g (after (events ++ Node name ∷ [])) n
node_means events name n p g means = then_after events (Node name) p g n (record { seen = means.seen; outgoing = means.outgoing })
