use Rattle.std.proofs.Common.{◌≡◌, Bool, true, false, List, ℕ, Option, None, refl}
use Rattle.std.specs.Prelude.{codes, cond}
use Rattle.std.specs.Str.{bytes_eq}
use Rattle.trace_words.proofs.command.with_one_word.Goals as goal

told : {r b : Bool} (verb : List ℕ) {slice word : List ℕ} → r ≡ bytes_eq verb slice → slice ≡ word → r ≡ b → bytes_eq verb word ≡ b
told verb is same test = rw (← same, ← is) test

-- where the word names no replica, no verb makes it a command
none_else : {T : Type 0} (b : Bool) {rest : Option T} → None ≡ rest → None ≡ cond b None rest
none_else true h = refl
none_else false h = h

pub returns-then-eq : goal.returns-then-eq
returns-then-eq g c = rw (told c.args.verb.now c.eq.ensures c.as_slice.ensures c.if-eq.true, ← c.in_ok-replica.ensures) refl

pub returns-then-eq-2 : goal.returns-then-eq-2
returns-then-eq-2 g c = rw (
  told c.args.verb.now c.eq.ensures c.as_slice.ensures c.if-eq.false,
  told c.args.verb.now c.eq-2.ensures c.as_slice-2.ensures c.if-eq-2.true,
  ← c.in_ok-replica.ensures,
) refl

pub returns-then-eq-3 : goal.returns-then-eq-3
returns-then-eq-3 g c = rw (
  told c.args.verb.now c.eq.ensures c.as_slice.ensures c.if-eq.false,
  told c.args.verb.now c.eq-2.ensures c.as_slice-2.ensures c.if-eq-2.false,
  told c.args.verb.now c.eq-3.ensures c.as_slice-3.ensures c.if-eq-3.true,
  ← c.in_ok-replica.ensures,
) refl

pub returns-then-eq-4 : goal.returns-then-eq-4
returns-then-eq-4 g c = rw (
  told c.args.verb.now c.eq.ensures c.as_slice.ensures c.if-eq.false,
  told c.args.verb.now c.eq-2.ensures c.as_slice-2.ensures c.if-eq-2.false,
  told c.args.verb.now c.eq-3.ensures c.as_slice-3.ensures c.if-eq-3.false,
  told c.args.verb.now c.eq-4.ensures c.as_slice-4.ensures c.if-eq-4.true,
  ← c.in_ok-replica.ensures,
) refl

pub returns-then-eq-5 : goal.returns-then-eq-5
returns-then-eq-5 g c = rw (
  told c.args.verb.now c.eq.ensures c.as_slice.ensures c.if-eq.false,
  told c.args.verb.now c.eq-2.ensures c.as_slice-2.ensures c.if-eq-2.false,
  told c.args.verb.now c.eq-3.ensures c.as_slice-3.ensures c.if-eq-3.false,
  told c.args.verb.now c.eq-4.ensures c.as_slice-4.ensures c.if-eq-4.false,
  told c.args.verb.now c.eq-5.ensures c.as_slice-5.ensures c.if-eq-5.true,
  ← c.in_ok-replica.ensures,
) refl

pub returns-then-eq-6 : goal.returns-then-eq-6
returns-then-eq-6 g c = rw (
  told c.args.verb.now c.eq.ensures c.as_slice.ensures c.if-eq.false,
  told c.args.verb.now c.eq-2.ensures c.as_slice-2.ensures c.if-eq-2.false,
  told c.args.verb.now c.eq-3.ensures c.as_slice-3.ensures c.if-eq-3.false,
  told c.args.verb.now c.eq-4.ensures c.as_slice-4.ensures c.if-eq-4.false,
  told c.args.verb.now c.eq-5.ensures c.as_slice-5.ensures c.if-eq-5.false,
  told c.args.verb.now c.eq-6.ensures c.as_slice-6.ensures c.if-eq-6.true,
  ← c.in_ok-replica.ensures,
) refl

pub returns-then-eq-7 : goal.returns-then-eq-7
returns-then-eq-7 g c = rw (
  told c.args.verb.now c.eq.ensures c.as_slice.ensures c.if-eq.false,
  told c.args.verb.now c.eq-2.ensures c.as_slice-2.ensures c.if-eq-2.false,
  told c.args.verb.now c.eq-3.ensures c.as_slice-3.ensures c.if-eq-3.false,
  told c.args.verb.now c.eq-4.ensures c.as_slice-4.ensures c.if-eq-4.false,
  told c.args.verb.now c.eq-5.ensures c.as_slice-5.ensures c.if-eq-5.false,
  told c.args.verb.now c.eq-6.ensures c.as_slice-6.ensures c.if-eq-6.false,
  told c.args.verb.now c.eq-7.ensures c.as_slice-7.ensures c.if-eq-7.true,
  ← c.in_ok-replica.ensures,
) refl

pub returns-then-eq-8 : goal.returns-then-eq-8
returns-then-eq-8 g c = rw (
  told c.args.verb.now c.eq.ensures c.as_slice.ensures c.if-eq.false,
  told c.args.verb.now c.eq-2.ensures c.as_slice-2.ensures c.if-eq-2.false,
  told c.args.verb.now c.eq-3.ensures c.as_slice-3.ensures c.if-eq-3.false,
  told c.args.verb.now c.eq-4.ensures c.as_slice-4.ensures c.if-eq-4.false,
  told c.args.verb.now c.eq-5.ensures c.as_slice-5.ensures c.if-eq-5.false,
  told c.args.verb.now c.eq-6.ensures c.as_slice-6.ensures c.if-eq-6.false,
  told c.args.verb.now c.eq-7.ensures c.as_slice-7.ensures c.if-eq-7.false,
  told c.args.verb.now c.eq-8.ensures c.as_slice-8.ensures c.if-eq-8.true,
  ← c.in_ok-replica.ensures,
) refl

pub returns : goal.returns
returns g c = rw (
  told c.args.verb.now c.eq.ensures c.as_slice.ensures c.if-eq.false,
  told c.args.verb.now c.eq-2.ensures c.as_slice-2.ensures c.if-eq-2.false,
  told c.args.verb.now c.eq-3.ensures c.as_slice-3.ensures c.if-eq-3.false,
  told c.args.verb.now c.eq-4.ensures c.as_slice-4.ensures c.if-eq-4.false,
  told c.args.verb.now c.eq-5.ensures c.as_slice-5.ensures c.if-eq-5.false,
  told c.args.verb.now c.eq-6.ensures c.as_slice-6.ensures c.if-eq-6.false,
  told c.args.verb.now c.eq-7.ensures c.as_slice-7.ensures c.if-eq-7.false,
  told c.args.verb.now c.eq-8.ensures c.as_slice-8.ensures c.if-eq-8.false,
)
    c.of_a_crash.ensures

pub returns-in_err-replica : goal.returns-in_err-replica
returns-in_err-replica g c =
    let is = bytes_eq c.args.verb.now in
    rw (c.from_residual.ensures, ← c.in_err-replica.ensures)
    (none_else (is (codes "node"))
    (none_else (is (codes "flush"))
    (none_else (is (codes "clear"))
    (none_else (is (codes "show"))
    (none_else (is (codes "size")) (none_else (is (codes "context")) (none_else (is (codes "pin")) (none_else (is (codes "digest"))
    (none_else (is (codes "save")) (none_else (is (codes "crash")) refl))))))))))
