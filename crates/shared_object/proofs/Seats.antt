-- What a client knows, before a call and after it.
use Rattle.std.proofs.Common.{◌≡◌, ℕ, ◌+◌, ◌-◌, ◌<◌, ◌≤◌, ◌^◌, List, [], ◌∷◌, ◌++◌, length, take, refl, sym, ap, ◌∙◌, arith, length-append}
use Rattle.std.proofs.lemmas.List.{take_all}
use mathlib.Core.List.{IsPrefix}
use Rattle.std.specs.List.{sum_by}
use Rattle.shared_object.specs.History.{Seat, calls_by}
use Rattle.shared_object.specs.Calling.{HasNotCalled, IsAccepted}
use Rattle.shared_object.specs.Finishing.{IsOwn, NothingHappened}
use Rattle.shared_object.proofs.Calls.{calls_kept, calls_own, calls_more, calls_length, none_of}

module _ {E : Type 0} (place : E → ℕ) where
  -- it has seen more
  pub seen_more : (p n : ℕ) (front now : List E) → n ≤ length (calls_by place p front) → IsPrefix front now
      → HasNotCalled place (record { place = p; operations = n; front = front }) (record { place = p; operations = n; front = now })
  seen_more p n front now le pre = record { seat = refl; operations = refl; made = calls_kept place p front now n pre le; seen = pre }

  -- its call was accepted
  pub accepted : (p n : ℕ) (front history : List E) (e : E) → n ≤ length (calls_by place p front) → IsPrefix front history
      → length (calls_by place p history) ≡ n
      → IsAccepted place (record { place = p; operations = n; front = front }) (record { place = p; operations = n + 1; front = history ++ e ∷ [] }) history e
  accepted p n front history e le pre own = record {
    seen = pre;
    own = calls_own place p front history n pre le own;
    seat = refl;
    operations = refl;
    front = refl;
  }

  -- its calls are all that its place has
  pub own_calls : (p n : ℕ) (front history : List E) → n ≤ length (calls_by place p front) → IsPrefix front history → length (calls_by place p history) ≡ n
      → IsOwn place history (record { place = p; operations = n; front = front })
  own_calls p n front history le pre own = record { seen = pre; calls = calls_own place p front history n pre le own }

  -- and there are enough of its calls in what it has seen then
  pub accepted_within : (p n : ℕ) (history : List E) (e : E) → place e ≡ p → length (calls_by place p history) ≡ n
      → n + 1 ≤ length (calls_by place p (history ++ e ∷ []))
  accepted_within p n history e is own =
      omega (arith, ap length (calls_more place p history e is), length-append (calls_by place p history) (e ∷ []), own)

  -- so there is a number for one call more
  pub counted_room : (p n : ℕ) (history : List E) → length (calls_by place p history) ≡ n → length history < 2 ^ 64 - 1 → n + 1 < 2 ^ 64
  counted_room p n history own room = let most = calls_length place p history in omega (arith, most, own, room)

  -- where there are as many calls of its place as it made, these are all that it made
  pub own_all : (p n : ℕ) (front : List E) → length (calls_by place p front) ≡ n → calls_by place p front ≡ take n (calls_by place p front)
  own_all p n front own = sym (take_all n (calls_by place p front) (omega (arith, own)))

  -- where no place was taken nothing has happened
  pub nothing_at_first : NothingHappened place 0
  nothing_at_first history clients all = none_of history (sym all.sum ∙ ap (sum_by (λ (s : Seat E). s.operations)) (none_of clients all.count))
