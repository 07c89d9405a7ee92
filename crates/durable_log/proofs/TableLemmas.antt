-- A table that has each part of the log's is the log's.
use Rattle.std.proofs.Common.{◌≡◌, [], ◌∷◌, Some, codes}
use Rattle.sqlite.specs.Table.{Table}
use Rattle.durable_log.specs.Log.{seq_column, bytes_column, log_table, IsPlainTable}

pub is_log_by : (t : Table) → (t.name ≡ codes "log") × (t.tree ≡ 0) → (t.key ≡ Some 0) × (t.primary ≡ 0 ∷ []) → t.columns ≡ seq_column ∷ bytes_column ∷ []
    → IsPlainTable t → t ≡ log_table
is_log_by t name key columns plain = λ i. record {
  name = name.0 i;
  tree = name.1 i;
  columns = columns i;
  key = key.0 i;
  primary = key.1 i;
  uniques = plain.uniques i;
  orders = plain.orders i;
  checks = plain.checks i;
  references = plain.references i;
  computed = plain.computed i;
  stamps = record { places = plain.places i; terms = plain.terms i; formats = plain.formats i };
  is_counted = plain.uncounted i;
}
