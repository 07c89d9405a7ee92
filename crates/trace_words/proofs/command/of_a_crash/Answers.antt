use Rattle.std.proofs.Common.{◌≡◌, Bool, true, false, List, ℕ, Option, None, refl}
use Rattle.std.specs.Prelude.{codes, cond}
use Rattle.std.specs.Str.{bytes_eq}
use Rattle.trace_words.proofs.command.of_a_crash.Goals as goal

told : {r b : Bool} (verb : List ℕ) {slice word : List ℕ} → r ≡ bytes_eq verb slice → slice ≡ word → r ≡ b → bytes_eq verb word ≡ b
told verb is same test = rw (← same, ← is) test

-- where the word names no replica, no verb makes it a command
none_else : {T : Type 0} (b : Bool) {rest : Option T} → None ≡ rest → None ≡ cond b None rest
none_else true h = refl
none_else false h = h

pub returns-then-eq : goal.returns-then-eq
returns-then-eq g c = rw (told c.args.verb.now c.eq.ensures c.as_slice.ensures c.if-eq.true, ← c.in_ok-replica.ensures) refl

pub returns-then-eq-2 : goal.returns-then-eq-2
returns-then-eq-2 g c =
    rw (
      told c.args.verb.now c.eq.ensures c.as_slice.ensures c.if-eq.false,
      told c.args.verb.now c.eq-2.ensures c.as_slice-2.ensures c.if-eq-2.true,
      ← c.in_ok-replica.ensures,
    ) refl

pub returns : goal.returns
returns g c =
    rw (told c.args.verb.now c.eq.ensures c.as_slice.ensures c.if-eq.false, told c.args.verb.now c.eq-2.ensures c.as_slice-2.ensures c.if-eq-2.false) refl

pub returns-in_err-replica : goal.returns-in_err-replica
returns-in_err-replica g c =
    let is = bytes_eq c.args.verb.now in
    rw (c.from_residual.ensures, ← c.in_err-replica.ensures) (none_else (is (codes "save")) (none_else (is (codes "crash")) refl))
