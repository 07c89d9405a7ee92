-- A string says one thing.
use Rattle.std.proofs.Common.{◌≡◌, ℕ, List, [], ◌∷◌, length, refl, sym, ap, subst, ◌∙◌}
use Rattle.std.specs.Int.{w64, from_be_bytes}
use Rattle.causal_join.specs.OrMap.{or_map_state}
use Rattle.op_model.specs.Meaning.{MapState}
use Rattle.wire_form.specs.Message.{Spells, Delta, MessageValue}
use Rattle.wire_form.specs.Laws.{OneDelta}
use Rattle.wire_form.proofs.Messages.{one_delta}
use Rattle.replica_store.specs.Entry.{Entry, Named, Opened, Changed, NAMED, OPENED, CHANGED, SaysNumber, SaysDelta, IsEntry}

abbrev rest_of : List ℕ → List ℕ
rest_of [] = []
rest_of (b ∷ bs) = bs

abbrev kind_of : List ℕ → ℕ
kind_of [] = 0
kind_of (b ∷ bs) = b

pub one_number : (kind : ℕ) (string : List ℕ) (m n : ℕ) → SaysNumber kind string m → SaysNumber kind string n → m ≡ n
one_number kind string m n p q = sym p.number ∙ ap (from_be_bytes w64) (ap rest_of (sym p.is ∙ q.is)) ∙ q.number

pub one_state : (string : List ℕ) (d e : MapState) → SaysDelta string d → SaysDelta string e → d ≡ e
one_state string d e p q =
    let same : p.bytes ≡ q.bytes = ap rest_of (sym p.is ∙ q.is) in
    sym p.means ∙ ap or_map_state (one_delta q.bytes p.pair q.pair (subst (λ b. Spells b (Delta p.pair)) same p.spelled) q.spelled) ∙ q.means

pub one_kind : (string a b : List ℕ) (k l : ℕ) → string ≡ k ∷ a → string ≡ l ∷ b → k ≡ l
one_kind string a b k l p q = ap kind_of (sym p ∙ q)
