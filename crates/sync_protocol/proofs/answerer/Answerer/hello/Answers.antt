use Rattle.std.proofs.Common.{◌≡◌, ◌∙◌, ◌≤◌, IfOk, Some, length, ap, sym, subst}
use Rattle.std.specs.Option.{option_copied}
use Rattle.wire_form.specs.Message.{message_of}
use Rattle.sync_protocol.specs.Answering.{LIMIT, snapshot_of, opening_of}
use Rattle.sync_protocol.proofs.Kept.{few_kept, told_is}
use Rattle.sync_protocol.proofs.answerer.Answerer.hello.Goals as goal

pub returns-in-Some-clause-opening : goal.returns-in-Some-clause-opening
returns-in-Some-clause-opening g c =
    let s = c.args.session in
    let found : snapshot_of c.args.self.now s ≡ Some c.in-Some.snapshot.now =
    ap (λ kept. snapshot_of kept s) (sym c.self.view_is) ∙ sym c.get.ensures.value ∙ ap option_copied c.in-Some.is in
    told_is (λ k. IfOk c.post_opening.result (λ m. message_of m ≡ opening_of g.H.PathHash.hash_of s k)) c.args.self.now s
    (record { seen = c.args.seen.now; hash = c.args.store.now.0; map = c.args.store.now.1; context = c.args.context.now })
    c.in-Some.snapshot.now found c.post_opening.ensures.opening

pub returns-in_err-reserve-clause-few : goal.returns-in_err-reserve-clause-few
returns-in_err-reserve-clause-few g c = subst (λ kept. length kept ≤ LIMIT) (sym c.in_err-reserve.ensures.entries) c.self.invariant

pub returns-in_err-snapshot-clause-few : goal.returns-in_err-snapshot-clause-few
returns-in_err-snapshot-clause-few g c = subst (λ kept. length kept ≤ LIMIT) (sym c.reserve.ensures.entries) c.self.invariant

pub returns-in-Err-clause-few : goal.returns-in-Err-clause-few
returns-in-Err-clause-few g c = subst (λ kept. length kept ≤ LIMIT) (sym c.reserve.ensures.entries) c.self.invariant

pub invariant_of-self-2 : goal.invariant_of-self-2
invariant_of-self-2 g c =
    let few = subst (λ kept. length kept ≤ LIMIT) (sym c.reserve.ensures.entries) c.self.invariant in
    subst (λ kept. length kept ≤ LIMIT) (sym c.keep.ensures) (few_kept c.reserve.new.self.entries c.args.session c.in_ok-snapshot.snapshot few)

pub returns-clause-few : goal.returns-clause-few
returns-clause-few g c =
    let few = subst (λ kept. length kept ≤ LIMIT) (sym c.reserve.ensures.entries) c.self.invariant in
    subst (λ kept. length kept ≤ LIMIT) (sym c.keep.ensures) (few_kept c.reserve.new.self.entries c.args.session c.in_ok-snapshot.snapshot few)
