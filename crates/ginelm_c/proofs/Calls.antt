-- What a handle held and holds, by what was taken out of it and given back: over plain variables.
use Rattle.std.proofs.Common.{◌≡◌, Some, subst}
use Rattle.std.specs.Prelude.{IsOk, OnOk, Result, Ok, Err}
use Rattle.std.proofs.lemmas.Option.{same_Some}
use Rattle.ginelm_c.specs.declared.held.Held.{Held}

pub given_back : (P : Held → Held → Type 0) (a b x y : Held) → Some a ≡ Some x → Some b ≡ Some y → P a b → P x y
given_back P a b x y was is so = subst (P x) (same_Some _ _ is) (subst (λ h. P h b) (same_Some _ _ was) so)

-- what stands where a call was done
pub done_so : {T E : Type 0} (r : Result T E) (P : Type 0) → IsOk r → OnOk r P → P
done_so (Ok x) P is so = so
done_so (Err e) P is so = absurd cc
