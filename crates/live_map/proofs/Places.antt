-- The order of places: it is total, and only equal places tie.
use Rattle.std.specs.Cmp.{IsTotalOrder, then_total, on_total}
use Rattle.std.specs.Cmp.Lexicographic.{nat_list_cmp_total}
use Rattle.std.proofs.lemmas.Map.Lookups.{CmpEqualImpliesEq, exact_bytes, exact_pairs}
use Rattle.causal_context.specs.Dots.{dot_cmp}
use Rattle.causal_context.proofs.Dots.{dot_exact, dot_cmp_total}
use Rattle.dots.specs.Bytes.{bytes_cmp}
use Rattle.live_map.specs.Index.{PlaceValue, place_cmp}

pub place_total : IsTotalOrder place_cmp
place_total = then_total (on_total (λ (p : PlaceValue). p.0) dot_cmp_total) (on_total (λ (p : PlaceValue). p.1) nat_list_cmp_total)

pub place_exact : CmpEqualImpliesEq place_cmp
place_exact = exact_pairs dot_cmp bytes_cmp dot_exact exact_bytes
