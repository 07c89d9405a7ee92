use Rattle.std.proofs.Common.{◌++◌, ◌∙◌, ap, sym, refl, arith, length, length-append}
use Rattle.shared_object.proofs.Handed.{same_of_all}
use Rattle.shared_object.proofs.finishing.Owner+J+Shared+J+G+W+A+A.finish.Goals as goal

-- not all clients are there
pub returns-then-not-are_of_all-clause-refused : goal.returns-then-not-are_of_all-clause-refused
returns-then-not-are_of_all-clause-refused g c all =
    let none = rw c.if-not-are_of_all.true at c.are_of_all.ensures in
    let back = sym c.back.ensures in
    let clients = sym c.deref.ensures.value in
    none (same_of_all _ _ _ _ (sym c.taken-taken.ensures) (λ i. back i ++ clients i) all)

-- there is room for as many clients as places were taken
pub gathered-all-requires : goal.gathered-all-requires
gathered-all-requires g c =
    let all = rw c.if-not-are_of_all.false at c.are_of_all.ensures in
    omega (
      arith,
      all.0,
      length-append c.back.result.now c.deref.result.now,
      ap length c.back.ensures,
      ap length c.deref.ensures.value,
      ap length c.into_parts-shared.ensures.back,
      c.into_parts-shared.ensures.room,
      c.into_parts-shared.result.2.ok.0,
      c.args.clients.ok.0,
      c.taken-taken.ensures,
    )

pub take_out-guarded-requires : goal.take_out-guarded-requires
take_out-guarded-requires g c =
    let all = rw c.if-not-are_of_all.false at c.are_of_all.ensures in
    let back = c.into_parts-shared.ensures.back ∙ sym c.back.ensures in
    let clients = sym c.deref.ensures.value in
    same_of_all _ _ _ _ refl (sym (c.deref_mut.ensures.value ∙ (c.gathered-all.ensures ∙ (λ i. back i ++ clients i)))) all
