-- Where the bytes of a text stand. Of this project.
use Rattle.std.specs.Prelude.{ℕ, ◌≤◌, List, take}
use Rattle.dots.specs.declared.store.Store.{Store}
use Rattle.dots.specs.declared.store.Store.TheVariants.{Short, Long}

module _ {A : Type 0} where
  -- the bytes, wherever they stand
  abbrev pub bytes_in : Store A → List ℕ
  bytes_in (Short count bytes) = take count bytes
  bytes_in (Long bytes) = bytes.value.items

  -- no more bytes are told of than can stand in place
  abbrev pub IsInPlace : Store A → Type 0
  IsInPlace (Short count bytes) = count ≤ 22
  IsInPlace (Long bytes) = Unit {0}
