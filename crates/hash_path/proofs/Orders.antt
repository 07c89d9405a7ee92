-- Answers of `cmp` at numbers.
use Rattle.std.proofs.Common.{◌≡◌, ℕ, ◌<◌, sym}
use Rattle.std.specs.declared.cmp.Ordering.TheVariants.{Less, Equal, Greater}
use Rattle.std.specs.Ordering.{nat_cmp}
use Rattle.std.specs.Cmp.{ranked, nat_cmp_is}

pub less : (i j : ℕ) → nat_cmp i j ≡ Less → i < j
less i j e = ranked i j Less (sym e)

pub same : (i j : ℕ) → nat_cmp i j ≡ Equal → i ≡ j
same i j e = ranked i j Equal (sym e)

pub more : (i j : ℕ) → nat_cmp i j ≡ Greater → j < i
more i j e = ranked i j Greater (sym e)

pub is_less : (i j : ℕ) → i < j → nat_cmp i j ≡ Less
is_less i j h = sym (nat_cmp_is i j Less h)

pub is_more : (i j : ℕ) → j < i → nat_cmp i j ≡ Greater
is_more i j h = sym (nat_cmp_is i j Greater h)
