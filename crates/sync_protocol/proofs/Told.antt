-- What is answered is taken.
use Rattle.std.proofs.Common.{ℕ, List, ◌∙◌, ap}
use Rattle.std.specs.Option.{option_map}
use Rattle.std.specs.FinMap as finite
use Rattle.causal_context.specs.Context.{has}
use Rattle.sync_model.proofs.Fitted.{fitting, opening}
use Rattle.sync_protocol.specs.Snapshot.{SnapshotValue}
use Rattle.sync_protocol.specs.Answering.{told_of, page_for, answer_with}
use Rattle.sync_protocol.specs.Laws.{HellosAreTaken, AsksAreTaken}

module _ {Hash : Type 0} (hash_of : Hash → List ℕ → ℕ) where
  pub hellos_taken : HellosAreTaken hash_of
  hellos_taken kept s new own lawful apart within =
      let k : SnapshotValue Hash = told_of kept s new in
      opening (hash_of k.hash) own k.map (has k.seen) (has k.context) lawful apart within

  pub asks_taken : AsksAreTaken hash_of
  asks_taken kept s k own ts f found lawful apart within one fetched p d waits =
      let fit = fitting (hash_of k.hash) own k.map (has k.seen) (has k.context) ts f lawful apart within one fetched p d waits in
      (page_for hash_of s k p fit.0, ap (answer_with hash_of s p) found ∙ ap (option_map (page_for hash_of s k p)) fit.1, fit.2)
