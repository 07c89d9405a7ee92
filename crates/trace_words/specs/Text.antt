-- What is written of each answer. Of this project.
use Rattle.std.specs.Prelude.{ℕ, List, [], ◌∷◌, ◌++◌, length, Option, Some, None, codes}
use Rattle.std.specs.Fmt.{decimal}
use Rattle.std.specs.List.{flat_map}
use Rattle.dots.specs.declared.dot.Dot.{Dot}
use Rattle.hex.specs.Hex.{encode_lower}
use Rattle.trace_words.specs.Word.{shown_as}
use Rattle.trace_words.specs.declared.kind.Kind.{Kind}
use Rattle.trace_words.specs.declared.kind.Kind.TheVariants as kind

-- "<name>:<number>"
abbrev pub dot_text : ℕ → ℕ → List ℕ
dot_text name number = decimal name ++ (codes ":" ++ decimal number)

-- "ok <name>:<number>", of the dot of a put
abbrev pub put_text : Dot → List ℕ
put_text dot = codes "ok " ++ dot_text dot.name dot.number

-- "ok <number>", of the writes that a remove or a clear observed
abbrev pub erased_text : ℕ → List ℕ
erased_text number = codes "ok " ++ decimal number

-- a space and the value for each value
abbrev pub listed_text : List (List ℕ) → List ℕ
listed_text found = flat_map (λ value. 32 ∷ shown_as value) found

-- "=", then the values
abbrev pub values_text : List (List ℕ) → List ℕ
values_text found = codes "=" ++ listed_text found

-- "size <number>", of the keys
abbrev pub size_text : ℕ → List ℕ
size_text number = codes "size " ++ decimal number

-- a space and a key or a field, a space and the number of its values, then the values
abbrev pub entry_text : List ℕ → List (List ℕ) → List ℕ
entry_text label found = 32 ∷ (shown_as label ++ (32 ∷ (decimal (length found) ++ listed_text found)))

abbrev pub entries_text : List (List ℕ × List (List ℕ)) → List ℕ
entries_text entries = flat_map (λ entry. entry_text entry.0 entry.1) entries

-- "map <number of keys>", then each key with its values
abbrev pub map_text : List (List ℕ × List (List ℕ)) → List ℕ
map_text entries = (codes "map " ++ decimal (length entries)) ++ entries_text entries

-- "fields <number of fields>", then each field with its values
abbrev pub fields_text : List (List ℕ × List (List ℕ)) → List ℕ
fields_text entries = (codes "fields " ++ decimal (length entries)) ++ entries_text entries

-- "context", then a space and each entry of the version vector, then a space, a plus and each dot of the cloud
abbrev pub context_text : List (ℕ × ℕ) → List Dot → List ℕ
context_text vector cloud =
    (codes "context" ++ flat_map (λ entry. codes " " ++ dot_text entry.0 entry.1) vector) ++ flat_map (λ dot. codes " +" ++ dot_text dot.name dot.number) cloud

-- the digest in lower-case hexadecimal, or "-" where there is none
abbrev pub digest_text : Option (List ℕ) → List ℕ
digest_text None = codes "-"
digest_text (Some digest) = encode_lower digest

-- "pin <number>"
abbrev pub pin_text : ℕ → List ℕ
pin_text number = codes "pin " ++ decimal number

-- a slash and the index for each index of a prefix, and a slash for the root
abbrev pub prefix_text : List ℕ → List ℕ
prefix_text [] = codes "/"
prefix_text (index ∷ indices) = flat_map (λ i. 47 ∷ decimal i) (index ∷ indices)

-- the kind of a message, of an ask and a page with its prefix
abbrev pub kind_text : Kind → List ℕ
kind_text kind.Delta = codes "delta"
kind_text kind.Hello = codes "hello"
kind_text kind.Opening = codes "opening"
kind_text (kind.Ask prefix) = codes "ask" ++ prefix_text prefix
kind_text (kind.Page prefix) = codes "page" ++ prefix_text prefix
kind_text kind.Gone = codes "gone"

-- a space, the number of a message, a colon and its kind
abbrev pub message_text : ℕ → Kind → List ℕ
message_text number k = 32 ∷ (decimal number ++ (58 ∷ kind_text k))

-- "session <number> sent", of a synchronisation that was opened
abbrev pub session_text : ℕ → List ℕ
session_text number = codes "session " ++ (decimal number ++ codes " sent")
