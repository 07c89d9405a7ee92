use Rattle.std.proofs.Common.{◌∙◌, ap, sym, subst}
use Rattle.std.specs.Prelude.{IsTrue}
use Rattle.std.specs.Cmp.{eq_by_cmp_equiv}
use Rattle.std.specs.Cmp.Lexicographic.{nat_list_cmp_total}
use Rattle.std.specs.Ordering.{is_eq}
use Rattle.dots.specs.Bytes.{bytes_cmp}
use Rattle.live_map.specs.Index.{has_key}
use Rattle.live_map.proofs.Members.{any_more, any_pushed}
use Rattle.live_map.proofs.touched.Touched.push.Goals as goal

pub returns-clause-there : goal.returns-clause-there
returns-clause-there g c =
    let key = c.args.key.now in
    subst (λ keys. IsTrue (has_key keys key)) (sym c.in_ok-push.ensures.items)
    (any_pushed (λ k. is_eq (bytes_cmp key k)) c.self.inside.keys.items c.in_ok-copy.field-0
    (ap (λ k. is_eq (bytes_cmp key k)) c.in_ok-copy.ensures.ok ∙ (eq_by_cmp_equiv nat_list_cmp_total).refl key))

pub returns-clause-kept : goal.returns-clause-kept
returns-clause-kept g c = λ q h.
    subst (λ keys. IsTrue (has_key keys q)) (sym c.in_ok-push.ensures.items)
    (any_more (λ k. is_eq (bytes_cmp q k)) _ _ (subst (λ keys. IsTrue (has_key keys q)) (sym c.self.view_is) h))
