use Rattle.std.proofs.Common.{◌∙◌, cond}
use Rattle.std.proofs.lemmas.Result.{on_ok_weaker}
use Rattle.std.specs.Ordering.{is_eq}
use Rattle.dot_store.specs.Stores.{at_stores}
use Rattle.dots.specs.Bytes.{bytes_cmp}
use Rattle.live_map.proofs.bringing.put_copy.Goals as goal

pub returns-in-Ok-clause-ok : goal.returns-in-Ok-clause-ok
returns-in-Ok-clause-ok g c =
    let held = at_stores g.S.DotStore.at bytes_cmp c.args.held.now in
    on_ok_weaker c.insert.result
    (λ put place d. put place d ∙ (λ i. cond (is_eq (bytes_cmp (c.in_ok-key.ensures.ok i) place.0)) (c.in-Ok.ensures.ok place.1 d i) (held place d)))
    c.insert.ensures.ok
