-- What waits at first: nothing, or the root alone.
use Rattle.std.proofs.Common.{◌≡◌, ℕ, List, [], ◌∷◌, length, true, sym, ap, ◌∙◌}
use Rattle.std.specs.Prelude.{nat_lt}
use Rattle.std.proofs.lemmas.Cmp.{nat_list_cmp_total}
use Rattle.std.proofs.lemmas.List.{nil_from_length}
use Rattle.std.specs.FinMap as finite
use Rattle.std.specs.FinMap.{entries-insert, len-empty, len-entries}
use Rattle.std.specs.FinMap.Entries.{put}
use Rattle.hash_path.specs.Path.{prefix_cmp}
use Rattle.sync_model.specs.Fetch.{Fetch}
use Rattle.replica_model.specs.Delivery.{is_complete}

entries_none : finite.entries (finite.empty {X = List ℕ} {R = prefix_cmp}) ≡ []
entries_none = nil_from_length _ (sym (len-entries (finite.empty {X = List ℕ} {R = prefix_cmp})) ∙ len-empty prefix_cmp (List ℕ))

pub empty_complete : (f : Fetch) → f.waiting ≡ finite.empty → is_complete f ≡ true
empty_complete f none = ap (λ w. nat_lt (length (finite.entries w)) 1) none ∙ ap (λ es. nat_lt (length es) 1) entries_none

pub root_entries : (d : List ℕ) → finite.entries (finite.insert (finite.empty {X = List ℕ} {R = prefix_cmp}) [] d) ≡ ([], d) ∷ []
root_entries d = entries-insert nat_list_cmp_total finite.empty [] d ∙ ap (λ es. put prefix_cmp [] d es) entries_none
