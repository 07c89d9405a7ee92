-- What is known of a trie but for whether it is sealed.
use Rattle.std.proofs.Common.{◌≡◌, Bool, sym, ap, ◌∙◌}
use Rattle.gen_trie.specs.Shown.{Shown}

pub marked : {H V : Type 0} (new old : Shown H V) (mark : Bool) → new ≡ record old { sealed = mark } → new ≡ record old { sealed = new.sealed }
marked new old mark e = e ∙ ap (λ other. record old { sealed = other }) (sym (ap (λ trie. trie.sealed) e))
