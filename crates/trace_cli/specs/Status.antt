-- The status that a program ends with which runs a trace. Of this project.
use Rattle.std.specs.Prelude.{ℕ, Result, Ok, Err}
use Rattle.dots.specs.declared.refusal.Refusal.{Refusal}
use Rattle.dots.specs.declared.refusal.Refusal.TheVariants.{OutOfMemory, TooLong, ReadOnly, NumbersSpent, SessionsFull, NotAMessage}
use Rattle.dots.specs.declared.refusal.Refusal.TheVariants.{NoPlace, NameTaken, UnknownReplica, UnknownMessage, BadLine, Input, Output}

-- by why the run ended early
abbrev pub status_by : Refusal → ℕ
status_by OutOfMemory = 3
status_by Input = 2
status_by Output = 2
status_by TooLong = 1
status_by ReadOnly = 1
status_by NumbersSpent = 1
status_by SessionsFull = 1
status_by NotAMessage = 1
status_by NoPlace = 1
status_by NameTaken = 1
status_by UnknownReplica = 1
status_by UnknownMessage = 1
status_by BadLine = 1

-- 0 where the whole trace ran
abbrev pub status_of : Result (Unit {0}) Refusal → ℕ
status_of (Ok done) = 0
status_of (Err refusal) = status_by refusal
