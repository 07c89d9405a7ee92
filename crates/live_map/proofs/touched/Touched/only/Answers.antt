use Rattle.std.proofs.Common.{◌∙◌, sym, subst}
use Rattle.std.specs.Prelude.{IsTrue}
use Rattle.std.proofs.lemmas.Map.Lookups.{exact_bytes}
use Rattle.dots.specs.Bytes.{bytes_cmp}
use Rattle.live_map.specs.Index.{has_key}
use Rattle.live_map.proofs.Members.{among_exact, one_among}
use Rattle.live_map.proofs.touched.Touched.only.Goals as goal

pub returns : goal.returns
returns g c = λ q h.
    one_among c.as_slice.result.now c.key-item.result q c.in-len1.len_below c.key-item.is
    (among_exact bytes_cmp exact_bytes c.as_slice.result.now q (subst (λ ks. IsTrue (has_key ks q)) (sym (c.as_slice.ensures.value ∙ c.self.view_is)) h))
