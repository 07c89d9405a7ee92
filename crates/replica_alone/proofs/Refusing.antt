-- What an open session of a replica by itself does not take.
use Rattle.std.proofs.Common.{◌≡◌, [], sym, ap, ◌∙◌, eq-eqb}
use Rattle.wire_form.specs.Session.{SessionValue}
use Rattle.sync_model.specs.Fetch.{took}
use Rattle.sync_model.proofs.Lawful.{map_lawful}
use Rattle.replica_model.specs.Delivery.{Mismatch, Turn, turn, page_taken, took_further, took_page, delivered}
use Rattle.replica_model.specs.Mail.{Page}
use Rattle.replica_model.specs.Step.{Came}
use Rattle.replica_model.specs.World.{takes, goes}
use Rattle.replica_model.proofs.Found.{found_open}
use Rattle.replica_model.proofs.Refusing.{mismatches}
use Rattle.replica_model.proofs.SessionsAlone.{tied}
use Rattle.replica_model.proofs.Taking.{for_it}
use Rattle.replica_alone.specs.Taking.{OtherPagesMismatchAlone}
use Rattle.replica_alone.proofs.Deeds.{came_now, as_it_was}
use Rattle.replica_alone.proofs.Taking.{fetched_of}

pub others_mismatch_alone : OtherPagesMismatchAlone
others_mismatch_alone hash_of name deeds w v runs s o a there accepted sent digest waits theirs took no_clash other of answer befalls =
    let d = came_now hash_of name w v (Page s sent) of answer befalls in
    let all = tied hash_of name deeds w runs in
    let r = w.replica name in
    let found = found_open r.sessions s o there in
    let tie = all.sessions o found.0 in
    let got = fetched_of hash_of name deeds w runs s o a there accepted a.context theirs took in
    let here : s.asker ≡ r.name = ap (λ (x : SessionValue). x.asker) (sym found.1) ∙ tie.asked.asker ∙ sym all.named in
    let mismatch = mismatches hash_of o a theirs (w.taken s) sent digest waits (map_lawful o.own _ tie.asked.own_then) no_clash got other in
    let comes : delivered hash_of d.own r (Page s sent) ≡ turn r Mismatch [] =
    for_it hash_of d.own r (Page s sent) (eq-eqb s.asker r.name here)
    ∙ ap (took_page hash_of r sent) there
    ∙ ap (took_further hash_of r o sent) accepted
    ∙ ap (page_taken hash_of r o a.context sent) mismatch in
    let same : turn d.new d.outcome d.out ≡ turn r Mismatch [] = sym d.step ∙ comes in (
      d.answers ∙ ap (λ (t : Turn). Came t.outcome) same,
      d.after ∙ ap (λ (t : Turn). goes name t.new t.replies [] (takes name r (Page s sent) of t.outcome w)) same ∙ as_it_was name w,
    )
