-- The rule of a cell: what is published in it, and what its seats have seen. Of this project.
use Rattle.std.specs.Prelude.{◌≡◌, ◌<◌, ℕ, List, length}
use Rattle.std.specs.List.{fold}
use mathlib.Core.Option.{some}
use mathlib.Core.List.{IsPrefix}
use lib.ListN.{get_elem?}
use Rattle.logbook.specs.Pages.{Book}

-- The root stands for the front that it goes out for, which is of this book. `p` has the root, the front and the front's book.
abbrev pub StandsIn : {R E : Type 0} → Book → (R → List E → Type 0) → R × List E × Book → Type 0
StandsIn book stands p = stands p.0 p.1 × (p.2 ≡ book)

-- The second front goes on where the first ends. A front of two events goes on where one of its first event ends, and no front does
-- where it ends itself.
abbrev pub IsLonger : {E : Type 0} → List E → List E → Type 0
IsLonger seen front = IsPrefix seen front × (length seen < length front)

-- The front begins with what each seat has seen. With a front of two events a seat has seen the first, both, or none.
abbrev pub BeginsWithAll : {E : Type 0} → List E → List (List E) → Type 0
BeginsWithAll front views = (seat : ℕ) (seen : List _) → get_elem? views seat ≡ some seen → IsPrefix seen front

-- The rule: the root that is published stands for its front, which begins with all that any seat has seen of it.
abbrev pub Holds : {R E : Type 0} → Book → (R → List E → Type 0) → R × List E × Book → List (List E) → Type 0
Holds book stands p views = StandsIn book stands p × BeginsWithAll p.1 views

-- What an enter or a publish shows: the seat has then seen the front that is published, which begins with what it had seen; and the
-- root that is published stands for it.
abbrev pub Shows : {R E : Type 0} → Book → (R → List E → Type 0) → List E → R × List E × Book → R × List E × Book → List E → Type 0
Shows book stands before old new after = (after ≡ new.1) × IsPrefix before new.1 × StandsIn book stands new

-- What will be published once all that pends is taken in: the last of it replaces what was there.
abbrev pub due : {P : Type 0} → P → List P → P
due shown pending = fold (λ before p. p) shown pending
