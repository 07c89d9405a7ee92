use Rattle.std.proofs.Common.{◌∙◌, ap, cond, true, subst, inl}
use Rattle.std.specs.Prelude.{IsTrue}
use Rattle.std.specs.Cmp.{eq_by_cmp_equiv}
use Rattle.std.specs.Cmp.Lexicographic.{nat_list_cmp_total}
use Rattle.live_map.specs.Index.{has_key}
use Rattle.live_map.proofs.Members.{kept_by}
use Rattle.live_map.proofs.bringing.add_changed.Goals as goal

pub returns-clause-there : goal.returns-clause-there
returns-clause-there g c = inl (
    subst (λ k. IsTrue (has_key c.insert.new.self.keys k)) c.in_ok-copy.ensures.ok (c.in_ok-insert.ensures.updates.0 c.in_ok-copy.field-0
    ∙ ap (λ b. cond b true (has_key c.args.changed.now.keys c.in_ok-copy.field-0)) ((eq_by_cmp_equiv nat_list_cmp_total).refl c.in_ok-copy.field-0)))

pub returns-clause-kept : goal.returns-clause-kept
returns-clause-kept g c = λ q h. c.in_ok-insert.ensures.updates.0 q ∙ kept_by _ _ h
