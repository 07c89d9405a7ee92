use Rattle.std.proofs.Common.{◌≡◌, length}
use Rattle.sync_model.specs.Fetch.{put_entries}
use Rattle.page_fetching.specs.Building.{GoesOn}
use Rattle.page_fetching.proofs.putting.put_all.Given as goal

abbrev pub invariant-loop-key : goal.invariant-loop-key
invariant-loop-key g l = (put_entries l.left.items l.draft.entries ≡ put_entries l.fn.entries.items l.fn.draft.entries) × GoesOn l.fn.draft l.draft

abbrev pub decreases-loop-key : goal.decreases-loop-key
decreases-loop-key g l = length l.left.items
