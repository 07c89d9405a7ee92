-- The thirteen refusals of this project, by number and by word.
use Rattle.std.specs.Prelude.{ℕ, List, codes}
use Rattle.dots.specs.declared.refusal.Refusal.{Refusal}
use Rattle.dots.specs.declared.refusal.Refusal.TheVariants.{OutOfMemory, TooLong, ReadOnly, NumbersSpent, SessionsFull, NotAMessage}
use Rattle.dots.specs.declared.refusal.Refusal.TheVariants.{NoPlace, NameTaken, UnknownReplica, UnknownMessage, BadLine, Input, Output}

abbrev pub number_of : Refusal → ℕ
number_of OutOfMemory = 1
number_of TooLong = 2
number_of ReadOnly = 3
number_of NumbersSpent = 4
number_of SessionsFull = 5
number_of NotAMessage = 6
number_of NoPlace = 7
number_of NameTaken = 8
number_of UnknownReplica = 9
number_of UnknownMessage = 10
number_of BadLine = 11
number_of Input = 12
number_of Output = 13

abbrev pub word_of : Refusal → List ℕ
word_of OutOfMemory = codes "OutOfMemory"
word_of TooLong = codes "TooLong"
word_of ReadOnly = codes "ReadOnly"
word_of NumbersSpent = codes "NumbersSpent"
word_of SessionsFull = codes "SessionsFull"
word_of NotAMessage = codes "NotAMessage"
word_of NoPlace = codes "NoPlace"
word_of NameTaken = codes "NameTaken"
word_of UnknownReplica = codes "UnknownReplica"
word_of UnknownMessage = codes "UnknownMessage"
word_of BadLine = codes "BadLine"
word_of Input = codes "Input"
word_of Output = codes "Output"
