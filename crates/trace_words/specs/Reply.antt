-- What a reply of the machine says, and which refusals end a trace.
use Rattle.std.specs.Prelude.{◌≡◌, true}
use Rattle.trace_words.specs.declared.reply.Reply.{Reply}
use Rattle.trace_words.specs.declared.reply.Reply.TheVariants as reply
use Rattle.trace_words.specs.Fault.{is_fault}
use Rattle.trace_words.specs.Answer.{LineAnswer, Silent, Told, Faulted}

-- the answer that a reply holds
abbrev pub answer_of : {A : Type 0} → Reply A → LineAnswer
answer_of reply.Silent = Silent
answer_of (reply.Told text) = Told text.items
answer_of (reply.Faulted refusal) = Faulted refusal

-- a reply that is a fault tells one of the refusals that end a trace
abbrev pub TellsFaults : {A : Type 0} → Reply A → Type 0
TellsFaults (reply.Faulted refusal) = is_fault refusal ≡ true
TellsFaults other = Unit {0}

-- an answer after which the trace goes on
abbrev pub TraceGoesOn : LineAnswer → Type 0
TraceGoesOn (Faulted refusal) = ⊥
TraceGoesOn other = Unit {0}
