-- The order of dots: by name, then by number. This project's own choice.
use Rattle.std.specs.declared.cmp.Ordering.{Ordering}
use Rattle.std.specs.Ordering.{nat_cmp, ordering_then}
use Rattle.dots.specs.Dot.{DotValue}

abbrev pub dot_cmp : DotValue → DotValue → Ordering
dot_cmp d e = ordering_then (nat_cmp d.name e.name) (nat_cmp d.number e.number)
