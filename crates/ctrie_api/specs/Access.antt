-- What a trie that can be written, and one that is only read, stand for.
use Rattle.std.specs.Prelude.{true, false}
use Rattle.ctrie_api.specs.Trie.{Trie}
use Rattle.ctrie_api.specs.declared.ctrie.Access.{Access}
use Rattle.ctrie_api.specs.declared.ctrie.Access.TheVariants.{Writable, ReadOnly}

abbrev pub trie_of : {V H M A : Type 0} → Access V H M A → Trie H V
trie_of (Writable trie) = record { read_only = false; hash = trie.hash; map = trie.map }
trie_of (ReadOnly frozen) = record { read_only = true; hash = frozen.hash; map = frozen.map }
