-- A replica that was told a hello, and keeps what it keeps after it.
use Rattle.std.proofs.Common.{◌≡◌, ℕ, List, map, sym, ap, subst}
use Rattle.delta_ops.specs.Group.{group_state}
use Rattle.delta_ops.specs.LiveMap.{live_state}
use Rattle.sync_protocol.specs.Answering.{kept_after}
use Rattle.sync_protocol.specs.Laws.{AreHashedBy}
use Rattle.sync_protocol.specs.Snapshot.{SnapshotValue}
use Rattle.sync_protocol.proofs.Kept.{all_after}
use Rattle.wire_form.specs.Session.{SessionValue}
use Rattle.replica_core.specs.Meaning.{ReplicaValue, hash_in, open_of, kept_of, meaning}
use Rattle.replica_core.specs.Own.{IsReplica}
use Rattle.replica_core.proofs.Growth.{same_grown}
use Rattle.replica_core.proofs.Meant.{meaning_by}

module _ {Hash : Type 0} (hash_of : Hash → List ℕ → ℕ) (old new : ReplicaValue Hash) (name : new.name ≡ old.name) (live : new.live.0 ≡ old.live.0)
    (opened : new.opened ≡ old.opened) (sessions : new.sessions ≡ old.sessions)
    (s : SessionValue) (k : SnapshotValue Hash) (kept : new.kept ≡ kept_after old.kept s k) where
  pub kept_is : IsReplica hash_of old → k.hash ≡ hash_in old → IsReplica hash_of new
  kept_is is hashed =
      let mid : ReplicaValue Hash = record new { kept = old.kept } in
      let grown = same_grown hash_of old mid is name opened sessions Rattle.std.proofs.Common.refl live in
      record {
        own = grown.own;
        ascend = grown.ascend;
        numbered = grown.numbered;
        kept = subst (λ h. AreHashedBy Hash h new.kept) (sym (ap (λ p. p.0.0) live))
            (subst (AreHashedBy Hash (hash_in old)) (sym kept) (all_after (λ x. x.hash ≡ hash_in old) old.kept s k is.kept hashed).0);
      }

  pub kept_meaning : new.group ≡ old.group → meaning new ≡ record (meaning old) { kept = map kept_of (kept_after old.kept s k) }
  kept_meaning group =
      meaning_by new (record (meaning old) { kept = map kept_of (kept_after old.kept s k) }) name (ap live_state live) (ap group_state group) opened
      (ap (map open_of) sessions) (ap (map kept_of) kept)
