-- What a change of the value at a key leaves. Of this project.
use Rattle.std.specs.Prelude.{◌≡◌, ℕ, List, Some}
use Rattle.std.specs.FinMap as finite
use Rattle.std.specs.FinMap.Entries.{find, put}
use Rattle.dots.specs.Bytes.{bytes_cmp}
use Rattle.gen_trie.specs.Shown.{Shown}

-- of entries by word, the value at the word became another, and the other entries stayed
pub record IsChanged {V : Type 0} (becomes : V → V → Type 0) (word : List ℕ) (before after : List (List ℕ × V)) : Type 0 where
  pub old : V
  pub value : V
  pub found : find bytes_cmp word before ≡ Some old
  pub change : becomes old value
  pub put_in : after ≡ put bytes_cmp word value before

-- of a map, the value at the key became another, and the other keys have what they had
pub record ChangesValue {H V : Type 0} (becomes : V → V → Type 0) (key : List ℕ) (before after : Shown H V) (old : V) : Type 0 where
  pub value : V
  pub change : becomes old value
  pub rest : after ≡ record before { map = finite.insert before.map key value; sealed = after.sealed }
