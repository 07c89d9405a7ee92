-- A log of byte strings as a table of SQL.
use Rattle.std.specs.Prelude.{◌≡◌, ◌≢◌, ◌⊎◌, ℕ, ℤ, pos, Bool, true, false, List, [], ◌∷◌, map, Some, codes, refl, IsPermutation, Contains, length}
use Rattle.std.specs.Coded.{Coded, code_by, coded×, coded_bool}
use Rattle.sqlite.specs.Collation.TheVariants.{Binary}
use Rattle.sqlite.specs.declared.types.Value.TheVariants.{Null, Int}
use Rattle.sqlite.specs.Order.{Row, column, bytes}
use Rattle.sqlite.specs.Table.{Table}
use Rattle.sqlite_schema.specs.declared.schema.Column.{Column}
use Rattle.sqlite.specs.Schema.{Schema}
use Rattle.sqlite.specs.Kind.TheVariants.{Integer, Blob}
use Rattle.sqlite_trees.specs.Tree.{Trees, rowid}
use Rattle.sqlite.specs.State.{State}
use Rattle.sqlite_wal.specs.Recovery.{Image}
use Rattle.sqlite.specs.Start.{FindsIn}
use Rattle.sqlite.specs.Files.{AreFoundIn, image_of}
use Rattle.sqlite.specs.Closing.{HoldsAlone}
use Rattle.sqlite_wal.specs.Files.{outcomes}
use Rattle.sqlite_disk.specs.declared.Disk as disk
use Rattle.sqlite_disk.specs.declared.Files.{Files}
use Rattle.sqlite_catalog.specs.Listing.{IsSound}
use Rattle.sqlite.specs.Held.{Held, held_code, state}
use Rattle.sqlite_trees.specs.declared.store.Store.{Ghosts}

abbrev pub seq_column : Column
seq_column = record { name = codes "seq"; kind = Integer; is_strict = true; not_null = false; default = Null; collation = Binary }

abbrev pub bytes_column : Column
bytes_column = record { name = codes "bytes"; kind = Blob; is_strict = true; not_null = true; default = Null; collation = Binary }

-- no rule, no index and no default
pub record IsPlainTable (t : Table) : Type 0 where
  pub uniques : t.uniques ≡ []
  pub orders : t.orders ≡ []
  pub checks : t.checks ≡ []
  pub references : t.references ≡ []
  pub computed : t.computed ≡ []
  pub places : t.stamps.places ≡ []
  pub terms : t.stamps.terms ≡ []
  pub formats : t.stamps.formats ≡ []
  pub uncounted : t.is_counted ≡ false

abbrev pub log_table : Table
log_table = record {
  name = codes "log";
  tree = 0;
  columns = seq_column ∷ bytes_column ∷ [];
  key = Some 0;
  primary = 0 ∷ [];
  uniques = [];
  orders = [];
  checks = [];
  references = [];
  computed = [];
  stamps = record { places = []; terms = []; formats = [] };
  is_counted = false;
}

abbrev pub log_schema : Schema
log_schema = record { tables = log_table ∷ []; indexes = []; views = [] }

abbrev pub no_schema : Schema
no_schema = record { tables = []; indexes = []; views = [] }

-- the strings that a database holds, the first one first
abbrev pub strings : Trees → List (List ℕ)
strings db = map (λ (r : Row). bytes (column r 2)) (db 0)

-- the string is one more; in which order they come back is not told, and does not matter where they are joined
abbrev pub Gains : Trees → Trees → List ℕ → Type 0
Gains old new string = IsPermutation (string ∷ strings old) (strings new)

-- the string stands in the row of this number
abbrev pub IsAt : Trees → ℤ → List ℕ → Type 0
IsAt db place string = (place ≢ pos 0) × ((r : Row) × Contains (db 0) r × (rowid r ≡ Int place) × (bytes (column r 2) ≡ string))

-- what stood in a row stands there
abbrev pub KeepsPlaces : Trees → Trees → Type 0
KeepsPlaces old new = (place : ℤ) (string : List ℕ) → IsAt old place string → IsAt new place string

-- what stood in the rows of these numbers stays, no row of another number does, and no string came
pub record LeavesOnly (old new : Trees) (places : List ℤ) : Type 0 where
  pub left : (place : ℤ) (string : List ℕ) → Contains places place → IsAt old place string → IsAt new place string
  pub gone : (row : Row) (place : ℤ) → Contains (new 0) row → rowid row ≡ Int place → Contains places place
  pub known : (string : List ℕ) → Contains (strings new) string → Contains (strings old) string

-- each string was there or is one of these
abbrev pub IsOfEither : Trees → Trees → List (List ℕ) → Type 0
IsOfEither old new news = (string : List ℕ) → Contains (strings new) string → Contains (strings old) string ⊎ Contains news string

-- all that were there are, or all of these are
pub record IsBetween (old new : Trees) (news : List (List ℕ)) : Type 0 where
  pub known : IsOfEither old new news
  pub whole : ((string : List ℕ) → Contains (strings old) string → Contains (strings new) string)
      ⊎ ((string : List ℕ) → Contains news string → Contains (strings new) string)

-- all of these are there, in as many rows
pub record IsReplaced (old new : Trees) (news : List (List ℕ)) : Type 0 where
  pub known : IsOfEither old new news
  pub whole : (string : List ℕ) → Contains news string → Contains (strings new) string
  pub few : (places : List ℤ) × (length places ≡ length news) × ((row : Row) (place : ℤ) → Contains (new 0) row → rowid row ≡ Int place → Contains places place)

-- the database is a log, outside a transaction, and a crash leaves the strings that are there now and nothing else
pub record IsReady (s : State) : Type 0 where
  pub schema : s.now.schema ≡ log_schema
  pub autocommit : s.in_transaction ≡ false
  pub committed : s.committed ≡ s.now
  pub crash : (db : Trees) → s.may_leave db → db ≡ s.now.trees

-- the string is one more now, also after a crash
pub record IsKept (old new : State) (string : List ℕ) : Type 0 where
  pub ready : IsReady new
  pub gains : Gains old.now.trees new.now.trees string

pub record IsEmptyLog (new : State) : Type 0 where
  pub ready : IsReady new
  pub empty : strings new.now.trees ≡ []

-- the log that the database held, or an empty one where it held no table
pub record IsBegun (old new : State) : Type 0 where
  pub ready : IsReady new
  pub found : ((old.now.schema ≡ log_schema) × (new.now ≡ old.committed)) ⊎ ((old.now.schema ≡ no_schema) × (strings new.now.trees ≡ []))

-- the log that the files held, or an empty one where they held no table
pub record IsOpenLog (start : Image) (s : State) : Type 0 where
  pub ready : IsReady s
  pub found : FindsIn start (record s { committed = s.now }) ⊎ ((db : Trees) × AreFoundIn start db × IsSound no_schema db × (strings s.now.trees ≡ []))

-- what a contract sees of a log: its connection, and whether a call failed
pub record LogValue (S : Type 0) : Type 0 where
  pub conn : Held S
  pub is_failed : Bool

abbrev pub log_code : {S : Type 0} → Coded S → Coded (LogValue S)
log_code {S} store = code_by (Held S × Bool) (coded× (held_code store) coded_bool)
    (λ l. (l.conn, l.is_failed)) (λ p. record { conn = p.0; is_failed = p.1 }) (λ _. refl)

abbrev pub log_state : {S : Type 0} → Ghosts S → LogValue S → State
log_state g l = state g l.conn

-- the files hold this database, as they read now and after a crash, and so does the database file with nothing beside it
pub record IsInFiles {D : Type 0} (g : disk.Ghosts D) (files : Files D) (db : Trees) : Type 0 where
  pub seen : HoldsAlone (image_of g files) db
  pub left : (image : Image) → outcomes g files.log files.db image → HoldsAlone image db
