-- The commands of the trace language. Of this project.
use Rattle.std.specs.Prelude.{ℕ, cond, List, [], ◌∷◌, Option, Some, None, codes}
use Rattle.std.specs.Str.{bytes_eq}
use Rattle.trace_words.specs.Word.{words_of, numeral_value, text_of}

-- what a contract sees of a command: names and numbers of messages are numbers, keys, fields and values are bytes. A command
-- that names no field is one at the empty field, but a remove, which is of the key with all its fields
pub data CommandValue : Type 0 where
  Node : ℕ → CommandValue
  Put : ℕ → List ℕ → List ℕ → List ℕ → CommandValue
  Get : ℕ → List ℕ → List ℕ → CommandValue
  Flush : ℕ → CommandValue
  Deliver : ℕ → ℕ → CommandValue
  Sync : ℕ → ℕ → CommandValue
  Retry : ℕ → ℕ → CommandValue
  Abandon : ℕ → ℕ → CommandValue
  Remove : ℕ → List ℕ → CommandValue
  RemoveField : ℕ → List ℕ → List ℕ → CommandValue
  Clear : ℕ → CommandValue
  Fields : ℕ → List ℕ → CommandValue
  Show : ℕ → CommandValue
  Size : ℕ → CommandValue
  Context : ℕ → CommandValue
  Pin : ℕ → CommandValue
  Digest : ℕ → CommandValue
  Save : ℕ → CommandValue
  Crash : ℕ → CommandValue
  Look : ℕ → List ℕ → CommandValue

-- the command that takes one number, where the word is one
abbrev pub with_number : (ℕ → CommandValue) → Option ℕ → Option CommandValue
with_number command (Some number) = Some (command number)
with_number command None = None

-- the command that takes two numbers
abbrev pub with_numbers : (ℕ → ℕ → CommandValue) → Option ℕ → Option ℕ → Option CommandValue
with_numbers command (Some first) (Some second) = Some (command first second)
with_numbers command first second = None

-- the command that takes a number and a text
abbrev pub with_text : (ℕ → List ℕ → CommandValue) → Option ℕ → Option (List ℕ) → Option CommandValue
with_text command (Some number) (Some text) = Some (command number text)
with_text command number text = None

-- the command that takes a number and two texts
abbrev pub with_texts : (ℕ → List ℕ → List ℕ → CommandValue) → Option ℕ → Option (List ℕ) → Option (List ℕ) → Option CommandValue
with_texts command (Some number) (Some first) (Some second) = Some (command number first second)
with_texts command number first second = None

-- the command that takes a number and three texts
abbrev pub with_three_texts : (ℕ → List ℕ → List ℕ → List ℕ → CommandValue)
    → Option ℕ → Option (List ℕ) → Option (List ℕ) → Option (List ℕ) → Option CommandValue
with_three_texts command (Some number) (Some first) (Some second) (Some third) = Some (command number first second third)
with_three_texts command number first second third = None

-- the commands by how many words follow the first
abbrev pub crash_command : List ℕ → List ℕ → Option CommandValue
crash_command verb first =
    cond (bytes_eq verb (codes "save")) (with_number Save (numeral_value first))
    (cond (bytes_eq verb (codes "crash")) (with_number Crash (numeral_value first)) None)

abbrev pub one_word_command : List ℕ → List ℕ → Option CommandValue
one_word_command verb first =
    cond (bytes_eq verb (codes "node")) (with_number Node (numeral_value first))
    (cond (bytes_eq verb (codes "flush")) (with_number Flush (numeral_value first))
    (cond (bytes_eq verb (codes "clear")) (with_number Clear (numeral_value first))
    (cond (bytes_eq verb (codes "show")) (with_number Show (numeral_value first))
    (cond (bytes_eq verb (codes "size")) (with_number Size (numeral_value first))
    (cond (bytes_eq verb (codes "context")) (with_number Context (numeral_value first))
    (cond (bytes_eq verb (codes "pin")) (with_number Pin (numeral_value first))
    (cond (bytes_eq verb (codes "digest")) (with_number Digest (numeral_value first)) (crash_command verb first))))))))

abbrev pub session_command : List ℕ → List ℕ → List ℕ → Option CommandValue
session_command verb first second =
    cond (bytes_eq verb (codes "sync")) (with_numbers Sync (numeral_value first) (numeral_value second))
    (cond (bytes_eq verb (codes "retry")) (with_numbers Retry (numeral_value first) (numeral_value second))
    (cond (bytes_eq verb (codes "abandon")) (with_numbers Abandon (numeral_value first) (numeral_value second)) None))

abbrev pub two_word_command : List ℕ → List ℕ → List ℕ → Option CommandValue
two_word_command verb first second =
    cond (bytes_eq verb (codes "get")) (with_text (λ name key. Get name key []) (numeral_value first) (text_of second))
    (cond (bytes_eq verb (codes "remove")) (with_text Remove (numeral_value first) (text_of second))
    (cond (bytes_eq verb (codes "deliver")) (with_numbers Deliver (numeral_value first) (numeral_value second))
    (cond (bytes_eq verb (codes "look")) (with_text Look (numeral_value first) (text_of second))
    (cond (bytes_eq verb (codes "fields")) (with_text Fields (numeral_value first) (text_of second))
    (session_command verb first second)))))

abbrev pub three_word_command : List ℕ → List ℕ → List ℕ → List ℕ → Option CommandValue
three_word_command verb first second third =
    cond (bytes_eq verb (codes "put")) (with_texts (λ name key value. Put name key [] value) (numeral_value first) (text_of second) (text_of third))
    (cond (bytes_eq verb (codes "getf")) (with_texts Get (numeral_value first) (text_of second) (text_of third))
    (cond (bytes_eq verb (codes "removef")) (with_texts RemoveField (numeral_value first) (text_of second) (text_of third)) None))

abbrev pub four_word_command : List ℕ → List ℕ → List ℕ → List ℕ → List ℕ → Option CommandValue
four_word_command verb first second third fourth =
    cond (bytes_eq verb (codes "putf")) (with_three_texts Put (numeral_value first) (text_of second) (text_of third) (text_of fourth)) None

-- the command that these words are, if they are one
abbrev pub command_of_words : List (List ℕ) → Option CommandValue
command_of_words (verb ∷ first ∷ []) = one_word_command verb first
command_of_words (verb ∷ first ∷ second ∷ []) = two_word_command verb first second
command_of_words (verb ∷ first ∷ second ∷ third ∷ []) = three_word_command verb first second third
command_of_words (verb ∷ first ∷ second ∷ third ∷ fourth ∷ []) = four_word_command verb first second third fourth
command_of_words words = None

-- the command that a line is, if it is one
abbrev pub command_of : List ℕ → Option CommandValue
command_of line = command_of_words (words_of line)
