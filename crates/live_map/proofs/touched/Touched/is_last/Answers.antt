use Rattle.std.proofs.Common.{◌∙◌, ap, sym, subst}
use Rattle.std.specs.Prelude.{IsTrue}
use Rattle.std.specs.Option.{option_copied}
use Rattle.live_map.specs.Index.{has_key}
use Rattle.live_map.proofs.Members.{has_last}
use Rattle.live_map.proofs.touched.Touched.is_last.Goals as goal

pub returns : goal.returns
returns g c = λ t.
    let key = c.args.key.now in
    let there = has_last c.deref.result.now _ (option_copied c.last.result) c.in-Some.last.now key c.last.ensures.value (ap option_copied c.in-Some.is)
    (sym c.eq.ensures ∙ t) in
    subst (λ keys. IsTrue (has_key keys key)) (c.deref.ensures.value ∙ c.self.view_is) there
