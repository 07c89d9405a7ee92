-- What the one statement does.
use Rattle.std.proofs.Common.{◌≡◌, ◌≢◌, ◌⊎◌, inl, inr, ℕ, suc, ℤ, pos, negsuc, List, [], ◌∷◌, ◌++◌, map, fold, codes, slice_get, unwrap_or, Contains, Bool}
use Rattle.std.proofs.Common.{true, false, not, cond, Some, None, Ok, Err, Result, OnOk, IsTrue, refl, sym, ap, subst, ◌∙◌, append-nil, arith}
use Rattle.std.specs.Ordering.{is_eq, match_ordering}
use Rattle.std.specs.declared.cmp.Ordering.{Ordering}
use Rattle.std.specs.declared.cmp.Ordering.TheVariants.{Less, Equal, Greater}
use Rattle.std.specs.List.Sorted.{IsPermutation}
use Rattle.std.proofs.lemmas.List.Sorted.{IsPermutation-refl, IsPermutation-trans, IsPermutation-cons, IsPermutation-map, IsPermutation-append_left}
use Rattle.std.proofs.lemmas.List.Sorted.{IsPermutation-append_comm, Contains-permutation}
use Rattle.std.proofs.lemmas.Bool.{or_parts, and_parts}
use Rattle.sqlite.specs.declared.types.Value.{Value}
use Rattle.sqlite.specs.declared.types.Value.TheVariants.{Null, Int, Blob}
use Rattle.sqlite.specs.Order.{Row, column, bytes}
use Rattle.sqlite_value.specs.Order.{value_cmp}
use Rattle.sqlite.specs.Term.{Term, lit, col}
use Rattle.sqlite.specs.Ops.{unary}
use Rattle.sqlite.specs.Kind.TheVariants.{Integer}
use Rattle.sqlite.specs.Source.TheVariants.{Values}
use Rattle.sqlite.specs.Command.TheVariants.{Insert, CreateTable}
use Rattle.sqlite.specs.Command.{Command}
use Rattle.sqlite.specs.Edit.{Edit, edit_of, edited}
use Rattle.sqlite_rules.specs.Edit.{next_rowid, is_taken, are_fresh}
use Rattle.sqlite.specs.Compile.{table_defined_by}
use Rattle.sqlite.specs.Change.{created, next_tree}
use Rattle.sqlite.specs.Cast.{cast}
use Rattle.sqlite.specs.Rowids.TheVariants.{Chosen}
use Rattle.sqlite.specs.Does.{Tally, Does, lacks_sequence}
use Rattle.sqlite.specs.Rows.{Written, last_id}
use Rattle.sqlite_trees.specs.Tree.{Trees, rowid, put_row}
use Rattle.sqlite_tied.specs.Compute.{everything}
use Rattle.sqlite.specs.declared.error.Error.{Error}
use Rattle.sqlite.specs.Listing.{understood}
use Rattle.sqlite.specs.Effect.{Database}
use Rattle.sqlite.specs.State.{State, Opens, IsLive, IsUnchanged, mode_of, Writes, Executes, CommitsBy, MayCommit, MayWrite, text_of}
use Rattle.sqlite_wal.specs.Recovery.{Image}
use Rattle.sqlite.specs.Start.{FindsIn}
use Rattle.sqlite.specs.Files.{AreFoundIn, image_of, file_state}
use Rattle.sqlite.specs.Closing.{HoldsAlone, IsCopied}
use Rattle.sqlite.specs.Held.{Held}
use Rattle.sqlite_disk.specs.declared.Disk as disk
use Rattle.sqlite_disk.specs.declared.Files.{Files}
use Rattle.sqlite_store.specs.declared.store.FileStore.{FileStore}
use Rattle.sqlite_catalog.specs.Listing.{IsSound}
use Rattle.sqlite.proofs.Callers.{IsPlain, command_of, statement_of, runs_as, one_step}
use Rattle.durable_log.specs.Log.{log_table, log_schema, no_schema, strings, Gains, IsReady, IsAt, KeepsPlaces, IsKept, IsEmptyLog, IsBegun, IsOpenLog}
use Rattle.durable_log.specs.Log.{IsInFiles}

-- ---- the rows

false_from_not : (b : Bool) → not b ≡ true → b ≡ false
false_from_not true h = absurd (let e = h in cc)
false_from_not false h = refl

abbrev new_row : List Row → List ℕ → Row
new_row rows string = Int (next_rowid rows) ∷ Null ∷ Blob string ∷ []

-- a row whose number is free is one more
put_free : (new : Row) (rows : List Row) → is_taken rows new ≡ false → IsPermutation (new ∷ rows) (put_row new rows)
put_free new [] free = IsPermutation-refl (new ∷ [])
put_free new (r ∷ rows) free = go (value_cmp (rowid r) (rowid new)) (or_parts _ _ free).0 (put_free new rows (or_parts _ _ free).1)
  where
    go : (o : Ordering) → is_eq o ≡ false → IsPermutation (new ∷ rows) (put_row new rows)
        → IsPermutation (new ∷ r ∷ rows) (match_ordering o (r ∷ put_row new rows) (new ∷ rows) (new ∷ r ∷ rows))
    go Less other more = IsPermutation-trans _ _ _ (IsPermutation-append_left rows (new ∷ r ∷ []) (r ∷ new ∷ [])
        (IsPermutation-append_comm (new ∷ []) (r ∷ []))) (IsPermutation-cons r _ _ more)
    go Equal other more = absurd (let e = other in cc)
    go Greater other more = IsPermutation-refl (new ∷ r ∷ rows)

pub gains_row : (old new : Trees) (string : List ℕ) → (is_taken (old 0) (new_row (old 0) string) ≡ false) × (new 0 ≡ put_row (new_row (old 0) string) (old 0))
    → Gains old new string
gains_row old new string h =
    let string_of = λ (r : Row). bytes (column r 2) in
    subst (λ rows. IsPermutation (string ∷ strings old) (map string_of rows)) (sym h.1)
    (IsPermutation-map string_of _ _ (put_free (new_row (old 0) string) (old 0) h.0))

-- ---- the statement

abbrev pub insert_text : List ℕ
insert_text = codes "INSERT INTO log (bytes) VALUES (?1)"

abbrev terms : List Term
terms = lit Null ∷ lit Null ∷ col 0 0 ∷ []

abbrev pub insert : Command
insert = Insert 0 (Values terms 3)

insert_is : command_of (understood log_schema insert_text) ≡ insert
unfolding understood everything
insert_is = refl

pub insert_plain : IsPlain (understood log_schema insert_text)
unfolding understood everything
insert_plain = (refl, refl)

either : (b : Bool) (x : Value) → cond b x x ≡ x
either true x = refl
either false x = refl

cast_null : cast Integer Null ≡ Null
unfolding unary
cast_null = either _ Null

pub went : {B E R : Type 0} {b : B} {Stops : E → Type 0} → ((stop : E) × Stops stop × (Ok b ≡ Err stop)) ⊎ R → R
went (inl stopped) = absurd (let e = stopped.2 in cc)
went (inr on) = on

pub same_value : {B E : Type 0} {a b : B} → ◌≡◌ {A = Result B E} (Ok a) (Ok b) → a ≡ b
same_value e = cc

-- the row is put in
pub adds : (old : State) (string text : List ℕ) (tally : Tally) (after : Database) → old.now.schema ≡ log_schema
    → Does old.step_limit (mode_of old) (Blob string ∷ []) old.now text None insert (Ok (tally, after))
    → (after.schema ≡ log_schema) × (is_taken (old.now.trees 0) (new_row (old.now.trees 0) string) ≡ false)
    × (after.trees 0 ≡ put_row (new_row (old.now.trees 0) string) (old.now.trees 0)) × (tally.last ≡ Some (next_rowid (old.now.trees 0)))
adds old string text tally after has h =
    let params = Blob string ∷ [] in
    let db = old.now.trees in
    let done = went (subst (λ s. Does old.step_limit (mode_of old) params (record old.now { schema = s }) text None insert (Ok (tally, after))) has h) in
    let now = ap (λ (p : Tally × Database). p.1) (same_value (went (went done.2).2).2) in
    let given = went done.1 in
    let written = went (went given.2).2 in
    let counted = went written.2 in
    let trees : done.0.trees ≡ written.0 = ap (λ (it : Written). it.trees) (same_value counted.2) ∙ same_value counted.1 in
    let applied = one_step log_schema _ db written.0 (edit_of db log_table [] Chosen 0 given.0) refl written.1 in
    let news : (edit_of db log_table [] Chosen 0 given.0).news ≡ new_row (db 0) string ∷ [] = ap (λ all. (edit_of db log_table [] Chosen 0 all).news) given.1.1
    ∙ rw cast_null in
    let fresh : are_fresh (db 0) (new_row (db 0) string ∷ []) ≡ true = subst (λ n. are_fresh (db 0) n ≡ true) news applied.fresh in
    let edit : edited db (edit_of db log_table [] Chosen 0 given.0) ≡ put_row (new_row (db 0) string) (db 0) =
    ap (λ all. edited db (edit_of db log_table [] Chosen 0 all)) given.1.1 ∙ rw cast_null in
    let last : tally.last ≡ Some (next_rowid (db 0)) =
    ap (λ (p : Tally × Database). p.0.last) (same_value (went (went done.2).2).2) ∙ ap (λ (it : Written). it.last) (same_value counted.2) ∙ ap last_id news in (
      ap (λ (d : Database). d.schema) now,
      false_from_not _ (and_parts _ _ fresh).0,
      ap (λ (d : Database). d.trees 0) now ∙ ap (λ (t : Trees). t 0) trees
          ∙ applied.rows ∙ edit,
      last,
    )

-- ---- what `keep` promises

module _ (old new : State) (string : List ℕ) (has : old.now.schema ≡ log_schema) (auto : old.in_transaction ≡ false) where
  pub kept : (settled : (db : Trees) → IsTrue new.is_open → new.may_leave db → db ≡ new.committed.trees) (r : Result ℕ Error)
      → Executes insert_text (Blob string ∷ []) old new r
      → OnOk r (IsKept old new string)
  kept settled (Err e) h = tt
  kept settled (Ok count) h =
      let w : Writes old new None insert (statement_of insert_text (understood log_schema insert_text)) (Blob string ∷ []) count =
      runs_as insert_text (Blob string ∷ []) old new log_schema has insert insert_is insert_plain count h in
      let row = adds old string (statement_of insert_text (understood log_schema insert_text)) w.tally new.now has w.changed in
      let is : new.committed ≡ new.now = rw auto at w.shown.committed_is in
      record {
        ready = record {
          schema = row.0;
          autocommit = w.shown.mode ∙ auto;
          committed = is;
          crash = λ db may. settled db w.shown.is_open may
              ∙ ap (λ (d : Database). d.trees) is;
        };
        gains = gains_row old.now.trees new.now.trees string (row.1, row.2);
      }

  -- the row's number is the one that the connection tells, and no row is lost
  placed : (place : ℤ) → place ≢ pos 0 → place ≡ new.last_rowid → (count : ℕ) → Executes insert_text (Blob string ∷ []) old new (Ok count)
      → IsAt new.now.trees place string × KeepsPlaces old.now.trees new.now.trees
  placed place apart told count h =
      let w : Writes old new None insert (statement_of insert_text (understood log_schema insert_text)) (Blob string ∷ []) count =
      runs_as insert_text (Blob string ∷ []) old new log_schema has insert insert_is insert_plain count h in
      let made = adds old string (statement_of insert_text (understood log_schema insert_text)) w.tally new.now has w.changed in
      let rows = old.now.trees 0 in
      let row = new_row rows string in
      let there : (r : Row) → Contains (row ∷ rows) r → Contains (new.now.trees 0) r =
      λ r h. subst (λ rs. Contains rs r) (sym made.2) (Contains-permutation (row ∷ rows) (put_row row rows) r (put_free row rows made.1) h) in
      let number : next_rowid rows ≡ place = sym (ap (λ o. unwrap_or o old.last_rowid) made.3) ∙ sym w.last_rowid ∙ sym told in (
        (apart, (row, there row (0, omega arith, refl), ap Int number, refl)),
        λ p s at. (at.0, (at.1.0, there at.1.0 (suc at.1.1.0, omega (arith, at.1.1.1), at.1.1.2), at.1.2, at.1.3)),
      )

  pub placed_or : (r : Result ℕ Error) → Executes insert_text (Blob string ∷ []) old new r
      → OnOk r ((place : ℤ) → place ≢ pos 0 → place ≡ new.last_rowid → IsAt new.now.trees place string × KeepsPlaces old.now.trees new.now.trees)
  placed_or (Err e) h = tt
  placed_or (Ok count) h = λ place apart told. placed place apart told count h

  pub commits : (db : Trees) → CommitsBy insert_text (Blob string ∷ []) old db → Gains old.now.trees db string
  unfolding CommitsBy
  commits db h =
      let known = sym h.1.is ∙ ap (λ s. understood s insert_text) has in
      let bare = subst IsPlain (sym known) insert_plain in
      let command : h.0.command ≡ insert = ap command_of known ∙ insert_is in
      let may : MayCommit old None insert (text_of insert_text h.0) (Blob string ∷ []) db =
      rw (bare.0, bare.1, append-nil (Blob string ∷ []), command) at h.2 in
      elim may [
        | inl ends ↦ absurd (elim ends.0 [ inl is ↦ (let e = is in cc) | inr some ↦ (let e = some.2 in cc) ])
        | inr writes ↦
            let row = adds old string (text_of insert_text h.0) writes.1 writes.2 has writes.3 in
            gains_row old.now.trees db string (row.1, ap (λ (t : Trees). t 0) writes.5 ∙ row.2)
      ]

-- ---- the table is made

abbrev pub create_text : List ℕ
create_text = codes "CREATE TABLE log (seq INTEGER PRIMARY KEY, bytes BLOB NOT NULL) STRICT"

create_is : (command_of (understood no_schema create_text) ≡ CreateTable) × (statement_of create_text (understood no_schema create_text) ≡ create_text)
    × (table_defined_by create_text ≡ Ok log_table)
unfolding understood everything
create_is = (refl, refl, refl)

create_plain : IsPlain (understood no_schema create_text)
unfolding understood everything
create_plain = (refl, refl)

pub makes : (old : State) (tally : Tally) (after : Database) → old.now.schema ≡ no_schema
    → Does old.step_limit (mode_of old) [] old.now create_text None CreateTable (Ok (tally, after))
    → (after.schema ≡ log_schema) × (strings after.trees ≡ [])
makes old tally after has h =
    let all = went h in
    let first = went all.1 in
    let made = first.1 in
    let both : Ok made.table ≡ Ok log_table = sym made.defined ∙ create_is.2 in
    let same : made.table ≡ log_table = cc in
    let schema : first.0.schema ≡ log_schema = made.is ∙ ap (λ s. created s made.table) has ∙ ap (created no_schema) same in
    let plain : lacks_sequence first.0.schema ≡ false = ap lacks_sequence schema in
    let now : after ≡ first.0 = ap (λ (p : Tally × Database). p.1) (same_value all.2) ∙ same_value (rw plain at first.2) in
    let none : after.trees 0 ≡ [] = ap (λ (d : Database). d.trees 0) now ∙ subst (λ s. first.0.trees (next_tree s) ≡ []) has made.empty in
    (ap (λ (d : Database). d.schema) now ∙ schema, ap (map (λ (r : Row). bytes (column r 2))) none)

pub creates : (old new : State) (settled : (db : Trees) → IsTrue new.is_open → new.may_leave db → db ≡ new.committed.trees) (r : Result ℕ Error)
    → old.now.schema ≡ no_schema → old.in_transaction ≡ false → Executes create_text [] old new r → OnOk r (IsEmptyLog new)
creates old new settled (Err e) has auto h = tt
creates old new settled (Ok count) has auto h =
    let w = subst (λ t. Writes old new None CreateTable t [] count) create_is.1
    (runs_as create_text [] old new no_schema has CreateTable create_is.0 create_plain count h) in
    let made = makes old w.tally new.now has w.changed in
    let is : new.committed ≡ new.now = rw auto at w.shown.committed_is in
    record {
      ready = record {
        schema = made.0;
        autocommit = w.shown.mode ∙ auto;
        committed = is;
        crash = λ db may. settled db w.shown.is_open may
            ∙ ap (λ (d : Database). d.trees) is;
      };
      empty = made.1;
    }

pub commits_none : (old : State) (db : Trees) → old.now.schema ≡ no_schema → CommitsBy create_text [] old db → strings db ≡ []
unfolding CommitsBy
commits_none old db has h =
    let known = sym h.1.is ∙ ap (λ s. understood s create_text) has in
    let bare = subst IsPlain (sym known) create_plain in
    let command : h.0.command ≡ CreateTable = ap command_of known ∙ create_is.0 in
    let text : text_of create_text h.0 ≡ create_text = ap (statement_of create_text) known ∙ create_is.1 in
    let may : MayCommit old None CreateTable (text_of create_text h.0) [] db = rw (bare.0, bare.1, command) at h.2 in
    elim may [
      | inl ends ↦ absurd (elim ends.0 [ inl is ↦ (let e = is in cc) | inr some ↦ (let e = some.2 in cc) ])
      | inr writes ↦ ap strings writes.5
          ∙ (makes old writes.1 writes.2 has (subst (λ t. Does old.step_limit (mode_of old) [] old.now t None CreateTable (Ok (writes.1, writes.2)))
          text writes.3)).1
    ]

pub found_none : (start : Image) (s : State) → Opens s → IsLive s → FindsIn start s → s.now.schema ≡ no_schema → (db : Trees) × AreFoundIn start db
    × IsSound no_schema db
found_none start s opens live found none =
    (s.committed.trees, found.reads, subst (λ k. IsSound k s.committed.trees) (sym (ap (λ (d : Database). d.schema) opens.clean) ∙ none) (live opens.is_open).1)

-- what was opened, as a log
pub opened_as : (start : Image) (old new : State) → Opens old → IsLive old → FindsIn start old → IsBegun old new → IsOpenLog start new
opened_as start old new opens live finds begun = record {
  ready = begun.ready;
  found = elim begun.found [
    | inl held ↦ inl (record {
      holds = λ db holds. ap (λ (d : Database). d.trees) held.1 ∙ finds.holds db holds;
      reads = subst (AreFoundIn start) (sym (ap (λ (d : Database). d.trees) held.1)) finds.reads;
    })
    | inr none ↦ (let it = found_none start old opens live finds none.0 in inr (it.0, it.1, it.2, none.1))
  ];
}

-- a statement that changes nothing leaves the log as it is
pub still_ready : (old new : State) → IsReady old → IsUnchanged old new → ((db : Trees) → new.may_leave db → old.may_leave db ⊎ ⊥) → IsReady new
still_ready old new ready same crash = record {
  schema = ap (λ (d : Database). d.schema) same.0.now_is ∙ ready.schema;
  autocommit = same.0.mode ∙ ready.autocommit;
  committed = same.0.committed_is ∙ ready.committed ∙ sym same.0.now_is;
  crash = λ db may. elim (crash db may) [
    | inl was ↦ ready.crash db was ∙ sym (ap (λ (d : Database). d.trees) same.0.now_is)
    | inr none ↦ absurd none
  ];
}

-- what a close leaves, by what the connection showed
pub in_files : {D : Type 0} {g : disk.Ghosts D} (c : Held (FileStore D g)) (files : Files D) → IsReady (file_state c) → IsCopied c files
    → IsInFiles g files (file_state c).now.trees
in_files {g = g} c files ready copied =
    let is = ap (λ (d : Database). d.trees) ready.committed in
    record { seen = subst (HoldsAlone (image_of g files)) is copied.seen; left = λ image may. subst (HoldsAlone image) is (copied.left image may) }
