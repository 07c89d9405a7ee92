use Rattle.std.proofs.Common.{ℕ, ◌%◌, [], ◌∷◌, sym, ap, ◌∙◌}
use Rattle.std.specs.List.{flat_map}
use Rattle.std.proofs.lemmas.Map.Iter.{iter_end}
use Rattle.prefix_digest.specs.declared.sha_summary.ShaSummary.{ShaSummary}
use Rattle.sha2.specs.Sha256.{sha256}
use Rattle.prefix_digest.proofs.Branches.{child_bytes, bytes_are, map_itself}
use Rattle.prefix_digest.proofs.Taken.{takes_both, item_held}
use Rattle.prefix_digest.proofs.sha_summary.ShaSummarySummaryFields.branch.Goals as goal

pub loop-index-init : goal.loop-index-init
loop-index-init g c = c.new_with_prefix-hasher.ensures

pub loop-index-preserved : goal.loop-index-preserved
loop-index-preserved g c =
    item_held child_bytes c.loop-index.hasher c.update-in-loop-index.new.self (2 ∷ []) c.loop-index.yielded (c.in-Some.index, c.in-Some.summary)
    c.loop-index.invariant
    (takes_both c.loop-index.hasher c.update.new.self c.update-in-loop-index.new.self (c.in-Some.index % 256 ∷ [])
    c.in-Some.summary.digest c.update.ensures c.update-in-loop-index.ensures)

pub returns : goal.returns
returns g c =
    let all = (iter_end (λ (child : ℕ × ShaSummary). child) c.args.children c.loop-index.yielded _ _ _ _ c.into_iter-index-iterator.ensures.into_iter_gives
    c.loop-index.yielded_by c.in-None.is c.next.ensures.steps).0 in
    let bytes = ap (flat_map child_bytes) (sym (map_itself c.loop-index.yielded) ∙ all) ∙ bytes_are 0 c.args.children c.requires in
    ap (λ d. record { digest = d }) (c.finalize.ensures (2 ∷ flat_map child_bytes c.loop-index.yielded) c.loop-index.invariant)
    ∙ ap (λ l. record { digest = sha256 (2 ∷ l) }) bytes
