-- A client that only takes messages in.
use Rattle.std.proofs.Common.{◌≡◌, ℕ, zero, suc, ◌≤◌, List, [], ◌∷◌, ◌++◌, length, take, refl, sym, ap, ◌∙◌, arith, length-append}
use Rattle.std.proofs.lemmas.List.{append-nil, append_assoc, take_all}
use Rattle.std.proofs.lemmas.List.Elements.{All-nil, All-push, All-append}
use Rattle.root_cell.proofs.Prefixes.{prefix_trans}
use Rattle.shared_object.proofs.Calls.{calls_more}
use Rattle.shared_object.specs.Calling.{HasNotCalled, IsAccepted}
use Rattle.shared_object.specs.History.{Seat, calls_by, made}
use Rattle.node_threads.specs.declared.node_event.NodeEvent.{NodeEvent}
use Rattle.node_threads.specs.Serving.{IsDelivery, TookIn}

pub short : {X : Type 0} (n : ℕ) (xs : List X) → length (take n xs) ≤ n
short zero xs = omega arith
short (suc n) [] = omega arith
short (suc n) (x ∷ xs) = omega (arith, short n xs)

module _ {A : Type 0} where
  abbrev place : NodeEvent A → ℕ
  place e = e.place

  pub took_nothing : (Comes : List ℕ → Type 0) (s : Seat (NodeEvent A)) → TookIn Comes s s
  took_nothing Comes s = record {
    seat = refl;
    seen = ([], append-nil s.front);
    calls = ([], sym (append-nil (made place s)), All-nil (IsDelivery Comes), omega arith);
  }

  pub took_as_nothing : (Comes : List ℕ → Type 0) (old new : Seat (NodeEvent A)) → HasNotCalled place old new → TookIn Comes old new
  took_as_nothing Comes old new h = record {
    seat = h.seat;
    seen = h.seen;
    calls = ([], h.made ∙ sym (append-nil (made place old)), All-nil (IsDelivery Comes), omega (arith, h.operations));
  }

  -- the calls of an accepted call: those before and this one
  made_more : (old new : Seat (NodeEvent A)) (history : List (NodeEvent A)) (e : NodeEvent A) → IsAccepted place old new history e → e.place ≡ old.place
      → made place new ≡ made place old ++ e ∷ []
  made_more old new history e h at_place =
      let calls : calls_by place old.place (history ++ e ∷ []) ≡ made place old ++ e ∷ [] = calls_more place old.place history e at_place
      ∙ ap (λ (xs : List (NodeEvent A)). xs ++ e ∷ []) h.own in
      let same : calls_by place new.place new.front ≡ made place old ++ e ∷ [] = ap (λ (p : ℕ). calls_by place p new.front) h.seat
      ∙ (ap (calls_by place old.place) h.front ∙ calls) in
      let few : length (made place old) ≤ old.operations = short old.operations (calls_by place old.place old.front) in
      ap (take new.operations) same ∙ take_all new.operations (made place old ++ e ∷ [])
      (omega (arith, length-append (made place old) (e ∷ []), few, h.operations))

  pub took_one : (Comes : List ℕ → Type 0) (old new : Seat (NodeEvent A)) (history : List (NodeEvent A)) (e : NodeEvent A) → IsAccepted place old new history e
      → e.place ≡ old.place → IsDelivery Comes e → TookIn Comes old new
  took_one Comes old new history e h at_place delivery = record {
    seat = h.seat;
    seen = prefix_trans old.front history new.front h.seen (e ∷ [], sym h.front);
    calls = (
      e ∷ [],
      made_more old new history e h at_place,
      All-push (IsDelivery Comes) [] e (All-nil (IsDelivery Comes)) delivery,
      omega (arith, h.operations),
    );
  }

  pub took_then : (Comes : List ℕ → Type 0) (old mid new : Seat (NodeEvent A)) → TookIn Comes old mid → TookIn Comes mid new → TookIn Comes old new
  took_then Comes old mid new f g = record {
    seat = g.seat ∙ f.seat;
    seen = prefix_trans old.front mid.front new.front f.seen g.seen;
    calls = (
      f.calls.0 ++ g.calls.0,
      g.calls.1 ∙ (ap (λ (xs : List (NodeEvent A)). xs ++ g.calls.0) f.calls.1 ∙ append_assoc (made place old) f.calls.0 g.calls.0),
      All-append (IsDelivery Comes) f.calls.0 g.calls.0 f.calls.2 g.calls.2,
      omega (arith, g.calls.3, f.calls.3, length-append f.calls.0 g.calls.0),
    );
  }

  -- a client that called nothing, and saw nothing more
  pub not_called : (s : Seat (NodeEvent A)) → HasNotCalled place s s
  not_called s = record { seat = refl; operations = refl; made = refl; seen = ([], append-nil s.front) }
