-- What a write makes of a map. Of this project.
use Rattle.std.specs.FinMap as finite
use Rattle.dots.specs.Bytes.{bytes_cmp}
use Rattle.ctrie_api.specs.declared.write.Write.{Write}
use Rattle.ctrie_api.specs.declared.write.Write.TheVariants.{Insert, Remove, Clear}

abbrev pub map_after : {V A : Type 0} → Write V A → finite.FinMap bytes_cmp V → finite.FinMap bytes_cmp V
map_after (Insert key value) map = finite.insert map key value
map_after (Remove key) map = finite.remove map key
map_after Clear map = finite.empty
