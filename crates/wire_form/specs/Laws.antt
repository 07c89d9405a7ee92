-- The laws of the format.
use Rattle.std.specs.Prelude.{◌≡◌, ℕ, List}
use Rattle.causal_join.specs.OrMap.{OrMapValue}
use Rattle.wire_form.specs.Message.{MessageValue, Spells, SpellsDelta}

-- bytes spell one message at most
abbrev pub OneMessage : Type 0
OneMessage = (bytes : List ℕ) (m n : MessageValue) → Spells bytes m → Spells bytes n → m ≡ n

-- a message has one spelling
abbrev pub OneSpelling : Type 0
OneSpelling = (a b : List ℕ) (m : MessageValue) → Spells a m → Spells b m → a ≡ b

-- bytes spell one delta at most: what stands for a state in the one stands for it in the other
abbrev pub OneDelta : Type 0
OneDelta = (bytes : List ℕ) (d e : OrMapValue) → SpellsDelta bytes d → SpellsDelta bytes e → d ≡ e
