-- What the deletion leaves.
use Rattle.std.proofs.Common.{◌≡◌, ◌≢◌, ◌⊎◌, inl, inr, ℕ, suc, zero, ℤ, pos, negsuc, List, [], ◌∷◌, ◌++◌, map, flat_map, fold, codes, Bool, true, false, not}
use Rattle.std.proofs.Common.{◌&&◌, cond, Some, None, Ok, Err, Result, OnOk, IsTrue, refl, sym, ap, subst, subst₂, ◌∙◌, arith, append-nil, Contains, filter}
use Rattle.std.specs.List.{list_all}
use Rattle.std.specs.Ordering.{is_eq, is_ne, int_cmp}
use Rattle.std.specs.declared.cmp.Ordering.{Ordering}
use Rattle.std.specs.declared.cmp.Ordering.TheVariants.{Less, Equal, Greater}
use Rattle.std.specs.List.Sorted.{IsPermutation}
use Rattle.std.proofs.lemmas.List.Sorted.{IsPermutation-map, IsPermutation-sym, Contains-permutation}
use Rattle.std.proofs.lemmas.Bool.{and_parts, false≢true, cases_Bool}
use Rattle.std.proofs.lemmas.Cmp.{int_cmp_total, tied_itself}
use Rattle.std.proofs.lemmas.Map.Lookups.{exact_signed}
use Rattle.std.specs.Cmp.{Equal-is}
use Rattle.sqlite.specs.declared.types.Value.{Value}
use Rattle.sqlite.specs.declared.types.Value.TheVariants.{Null, Int, Real, Text, Blob}
use Rattle.sqlite.specs.declared.error.Error.{Error}
use Rattle.sqlite.specs.Order.{Row, column, bytes}
use Rattle.sqlite_value.specs.Order.{value_cmp}
use Rattle.sqlite_value.proofs.OrderLemmas.{value_cmp-Int}
use Rattle.sqlite.specs.Term.{Term, lit, col, op2, Env, eval}
use Rattle.sqlite_sql.specs.Term.{holds}
use Rattle.sqlite_sql.specs.Ops.{binary, is_true, from_truth}
use Rattle.sqlite.specs.Query.{Query, inner, end, IsAnswer, output, Output}
use Rattle.sqlite.specs.Program.{overlay}
use Rattle.sqlite.specs.Command.TheVariants.{Delete}
use Rattle.sqlite.specs.Command.{Command}
use Rattle.sqlite.specs.Listing.{understood}
use Rattle.sqlite_rules.specs.Edit.{id_in, without_all, edit_of}
use Rattle.sqlite_rules.specs.Calls.{ids_of}
use Rattle.sqlite_rules.specs.declared.error.Rowids.TheVariants.{Given}
use Rattle.sqlite_trees.specs.Tree.{Trees, rowid, has_rowid, without_rowid}
use Rattle.sqlite_tied.specs.Compute.{everything}
use Rattle.sqlite_sql.specs.declared.ops.BinaryOp.TheVariants.{Compare}
use Rattle.sqlite_sql.specs.declared.ops.CompareOp.TheVariants.{Ne}
use Rattle.sqlite_value.specs.declared.keys.Collation.TheVariants.{Binary}
use Rattle.sqlite.specs.Effect.{Database}
use Rattle.sqlite.specs.Does.{Tally, Does}
use Rattle.sqlite.specs.Rows.{Written}
use Rattle.sqlite.specs.State.{State, mode_of, Writes, Executes, CommitsBy, MayCommit, text_of}
use Rattle.sqlite.proofs.Callers.{IsPlain, command_of, statement_of, runs_as, one_step}
use Rattle.durable_log.specs.Log.{log_table, log_schema, strings, IsReady, IsAt, LeavesOnly}
use Rattle.durable_log.proofs.LogLemmas.{went, same_value}
use Rattle.op_model.proofs.Members.{nothing_in, at_head, in_tail, head_or_tail, at_same, in_map, from_map, from_filter, in_filter}

-- ---- the rows without those of some numbers

not_true : (b : Bool) → not b ≡ true → b ≡ false
not_true true e = absurd (let f = e in cc)
not_true false e = refl

not_false : (b : Bool) → b ≡ false → not b ≡ true
not_false true e = absurd (let f = e in cc)
not_false false e = refl

was_there : (ids : List ℤ) (rows : List Row) (r : Row) → Contains (without_all rows ids) r → Contains rows r
was_there [] rows r h = h
was_there (id ∷ ids) rows r h = (from_filter (λ r. not (has_rowid id r)) rows r (was_there ids (without_rowid id rows) r h)).0

not_among : (ids : List ℤ) (rows : List Row) (r : Row) (id : ℤ) → Contains (without_all rows ids) r → Contains ids id → has_rowid id r ≡ false
not_among [] rows r id h there = nothing_in id there
not_among (i ∷ ids) rows r id h there =
    elim (head_or_tail i ids id there) [
      | inl same ↦ (
          let kept = (from_filter (λ r. not (has_rowid i r)) rows r (was_there ids (without_rowid i rows) r h)).1 in
          subst (λ j. has_rowid j r ≡ false) same (not_true (has_rowid i r) kept))
      | inr t ↦ not_among ids (without_rowid i rows) r id h t
    ]

is_left : (ids : List ℤ) (rows : List Row) (r : Row) → Contains rows r → ((id : ℤ) → Contains ids id → has_rowid id r ≡ false)
    → Contains (without_all rows ids) r
is_left [] rows r h none = h
is_left (id ∷ ids) rows r h none =
    is_left ids (without_rowid id rows) r (in_filter (λ r. not (has_rowid id r)) rows r h (not_false (has_rowid id r) (none id (at_head id ids))))
    (λ i there. none i (in_tail id ids i there))

-- ---- the test of a row

abbrev pub drop_text : List ℕ
drop_text = codes "DELETE FROM log WHERE seq <> ?1 AND seq <> ?2 AND seq <> ?3"

abbrev other : ℕ → Term
other at = op2 (Compare Ne Binary) (col 1 0) (col 0 at)

abbrev query : Query
query = record {
  from = inner 0 end;
  filter = other 0 ∷ other 1 ∷ other 2 ∷ [];
  group = None;
  project = col 1 0 ∷ [];
  distinct = false;
  collations = [];
  order = [];
  limit = lit (Int (negsuc 0));
  offset = lit (Int (pos 0));
}

abbrev pub drop : Command
drop = Delete 0 (record { lets = []; body = query })

drop_is : command_of (understood log_schema drop_text) ≡ drop
unfolding understood everything
drop_is = refl

pub drop_plain : IsPlain (understood log_schema drop_text)
unfolding understood everything
drop_plain = (refl, refl)

abbrev differs : Value → ℤ → Bool
differs v a = is_true (binary (Compare Ne Binary) v (Int a))

differs_is : (n a : ℤ) → differs (Int n) a ≡ is_true (from_truth (Some (is_ne (int_cmp n a))))
unfolding binary
differs_is n a = rw (value_cmp-Int n a)

not_itself : (a : ℤ) → differs (Int a) a ≡ false
not_itself a = differs_is a a ∙ ap (λ o. is_true (from_truth (Some (is_ne o)))) (tied_itself int_cmp_total a)

equal_by : (o : Ordering) → is_true (from_truth (Some (is_ne o))) ≡ false → o ≡ Equal
equal_by Less e = absurd (let f = e in cc)
equal_by Equal e = refl
equal_by Greater e = absurd (let f = e in cc)

same_number : (n a : ℤ) → differs (Int n) a ≡ false → n ≡ a
same_number n a h = exact_signed n a (equal_by (int_cmp n a) (sym (differs_is n a) ∙ h))

has_number : (n id : ℤ) (r : Row) → rowid r ≡ Int n → has_rowid id r ≡ true → n ≡ id
has_number n id r is h = exact_signed n id ((Equal-is (int_cmp n id)).0 (ap is_eq (sym (value_cmp-Int n id))
    ∙ ap (λ v. is_eq (value_cmp v (Int id))) (sym is) ∙ h))

has_its_number : (n : ℤ) (r : Row) → rowid r ≡ Int n → has_rowid n r ≡ true
has_its_number n r is = ap (λ v. is_eq (value_cmp v (Int n))) is ∙ ap is_eq (value_cmp-Int n n ∙ tied_itself int_cmp_total n)

-- what is read as a number other than 0 is one
is_number : (v : Value) (id : ℤ) → id_in v ≡ id → id ≢ pos 0 → v ≡ Int id
is_number Null id e apart = absurd (apart (sym e))
is_number (Int n) id e apart = ap Int e
is_number (Real x) id e apart = absurd (apart (sym e))
is_number (Text t) id e apart = absurd (apart (sym e))
is_number (Blob b) id e apart = absurd (apart (sym e))

module _ (first second third : ℤ) where
  abbrev places : List ℤ
  places = first ∷ second ∷ third ∷ []

  abbrev params : Row
  params = Int first ∷ Int second ∷ Int third ∷ []

  abbrev env_of : Row → Env
  env_of r = params ∷ r ∷ []

  abbrev passes : Row → Bool
  passes r = list_all (holds (env_of r)) query.filter

  passes_each : (r : Row) → passes r ≡ true → (differs (column r 0) first ≡ true) × (differs (column r 0) second ≡ true) × (differs (column r 0) third ≡ true)
  passes_each r e = let one = and_parts _ _ e in let two = and_parts _ _ one.1 in let three = and_parts _ _ two.1 in (one.0, two.0, three.0)

  -- no row of one of the places passes
  never : (r : Row) (n : ℤ) → rowid r ≡ Int n → Contains places n → passes r ≡ true → ⊥
  never r n is there e =
      let each = passes_each r e in
      let at : (a : ℤ) → a ≡ n → differs (column r 0) a ≡ true → ⊥ = λ a same h.
      false≢true (sym (not_itself a) ∙ ap (λ m. differs (Int m) a) same ∙ ap (λ v. differs v a) (sym is) ∙ h) in
      elim (head_or_tail first (second ∷ third ∷ []) n there) [
        | inl e ↦ at first e each.0
        | inr more ↦ elim (head_or_tail second (third ∷ []) n more) [
          | inl e ↦ at second e each.1
          | inr last ↦ elim (head_or_tail third [] n last) [ inl e ↦ at third e each.2 | inr none ↦ nothing_in n none ]
        ]
      ]

  all_three : (a b c : Bool) → a ≡ true → b ≡ true → c ≡ true → (a && (b && (c && true))) ≡ true
  all_three a b c p q r = rw (p, q, r)

  -- a row of another number passes
  passes_or : (r : Row) (n : ℤ) → rowid r ≡ Int n → Contains places n ⊎ (passes r ≡ true)
  passes_or r n is =
      elim (either n first) [
        | inl e ↦ inl (at_same places first n (sym e) (at_head first (second ∷ third ∷ [])))
        | inr one ↦ elim (either n second) [
          | inl e ↦ inl (in_tail first (second ∷ third ∷ []) n (at_same (second ∷ third ∷ []) second n (sym e) (at_head second (third ∷ []))))
          | inr two ↦ elim (either n third) [
            | inl e ↦ inl (in_tail first (second ∷ third ∷ []) n (in_tail second (third ∷ []) n (at_same (third ∷ []) third n (sym e) (at_head third []))))
            | inr three ↦ inr (all_three _ _ _ (of first one) (of second two) (of third three))
          ]
        ]
      ]
    where
      either : (m a : ℤ) → (m ≡ a) ⊎ (differs (Int m) a ≡ true)
      either m a = elim (cases_Bool (differs (Int m) a)) [ inl e ↦ inr e | inr e ↦ inl (same_number m a e) ]

      of : (a : ℤ) → differs (Int n) a ≡ true → differs (column r 0) a ≡ true
      of a h = ap (λ v. differs v a) is ∙ h

  picked : (rows : List Row) → flat_map (λ r. cond (passes r) (env_of r ∷ []) []) rows ≡ map env_of (filter passes rows)
  picked [] = refl
  picked (r ∷ rows) = by (passes r) _ (picked rows)
    where
      by : (b : Bool) (envs : List Env) → envs ≡ map env_of (filter passes rows)
          → cond b (env_of r ∷ []) [] ++ envs ≡ map env_of (cond b (r ∷ filter passes rows) (filter passes rows))
      by true envs e = ap (λ more. env_of r ∷ more) e
      by false envs e = e

  abbrev id_of : Row → ℤ
  id_of r = id_in (rowid r)

  shown_ids : (rows : List Row) → map (λ (o : Output). id_in (rowid o.1)) (map (output query) (map env_of rows)) ≡ map id_of rows
  shown_ids [] = refl
  shown_ids (r ∷ rows) = ap (λ ids. id_of r ∷ ids) (shown_ids rows)

  of_rows : (os : List Output) → ids_of (map (λ (o : Output). o.1) os) ≡ map (λ (o : Output). id_in (rowid o.1)) os
  of_rows [] = refl
  of_rows (o ∷ os) = ap (λ ids. id_in (rowid o.1) ∷ ids) (of_rows os)

  picks : (db : Trees) (rows : List Row) → IsAnswer query (overlay db []) params rows → IsPermutation (map id_of (filter passes (db 0))) (ids_of rows)
  picks db rows a =
      let staged : a.staged ≡ map env_of (filter passes (db 0)) = a.grouped ∙ picked (db 0) in
      let kept : map (λ (o : Output). id_in (rowid o.1)) a.kept ≡ map id_of (filter passes (db 0)) =
      ap (map (λ (o : Output). id_in (rowid o.1))) (a.distinct ∙ ap (map (output query)) staged) ∙ shown_ids (filter passes (db 0)) in
      let given : ids_of rows ≡ map (λ (o : Output). id_in (rowid o.1)) a.ordered = ap ids_of a.shown ∙ of_rows a.ordered in
      subst₂ IsPermutation kept (sym given) (IsPermutation-map (λ (o : Output). id_in (rowid o.1)) _ _ a.same)

  module _ (old new : Trees) (ids : List ℤ) (are : IsPermutation (map id_of (filter passes (old 0))) ids) (rows : new 0 ≡ without_all (old 0) ids) where
    from_ids : (id : ℤ) → Contains ids id → (r : Row) × (passes r ≡ true) × (id_of r ≡ id)
    from_ids id there =
        let found = from_map id_of (filter passes (old 0)) id (Contains-permutation ids _ id (IsPermutation-sym _ ids are) there) in
        (found.0, (from_filter passes (old 0) found.0 found.1).1, found.2)

    into_ids : (r : Row) → Contains (old 0) r → passes r ≡ true → Contains ids (id_of r)
    into_ids r there e = Contains-permutation _ ids (id_of r) are (in_map id_of (filter passes (old 0)) r (in_filter passes (old 0) r there e))

    in_new : (r : Row) → Contains (without_all (old 0) ids) r → Contains (new 0) r
    in_new r h = subst (λ rs. Contains rs r) (sym rows) h

    in_left : (r : Row) → Contains (new 0) r → Contains (without_all (old 0) ids) r
    in_left r h = subst (λ rs. Contains rs r) rows h

    stays_at : (place : ℤ) (r : Row) → place ≢ pos 0 → rowid r ≡ Int place → Contains places place → (id : ℤ) → Contains ids id → has_rowid id r ≡ false
    stays_at place r apart is there id taken = elim (cases_Bool (has_rowid id r)) [
      | inl has ↦ absurd (
          let same : place ≡ id = has_number place id r is has in
          let it = from_ids id taken in
          never it.0 place (is_number (rowid it.0) place (it.2 ∙ sym same) apart) there it.1)
      | inr e ↦ e
    ]

    pub leaves : LeavesOnly old new places
    leaves = record {
      left = λ place string there at.
          (at.0, (at.1.0, in_new at.1.0 (is_left ids (old 0) at.1.0 at.1.1 (stays_at place at.1.0 at.0 at.1.2 there)), at.1.2, at.1.3));
      gone = λ row place there is.
          let was = in_left row there in
          elim (passes_or row place is) [
            | inl one ↦ one
            | inr e ↦ absurd (
                let taken = at_same ids (id_of row) place (ap id_in is) (into_ids row (was_there ids (old 0) row was) e) in
                false≢true (sym (not_among ids (old 0) row place was taken) ∙ has_its_number place row is))
          ];
      known = λ string there.
          let found = from_map (λ (r : Row). bytes (column r 2)) (new 0) string there in
          at_same (strings old) _ string found.2 (in_map (λ (r : Row). bytes (column r 2)) (old 0) found.0
          (was_there ids (old 0) found.0 (in_left found.0 found.1)));
    }

  -- ---- the statement

  pub deletes : (old : State) (text : List ℕ) (tally : Tally) (after : Database) → old.now.schema ≡ log_schema
      → Does old.step_limit (mode_of old) params old.now text None drop (Ok (tally, after))
      → (after.schema ≡ log_schema) × LeavesOnly old.now.trees after.trees places
  deletes old text tally after has h =
      let db = old.now.trees in
      let done = went (subst (λ s. Does old.step_limit (mode_of old) params (record old.now { schema = s }) text None drop (Ok (tally, after))) has h) in
      let now = ap (λ (p : Tally × Database). p.1) (same_value (went (went done.2).2).2) in
      let queried = went done.1 in
      let written = went queried.2 in
      let trees : done.0.trees ≡ written.0 = ap (λ (it : Written). it.trees) (same_value written.2) in
      let applied = one_step log_schema _ db written.0 (edit_of db log_table (ids_of queried.0) Given 0 []) refl written.1 in
      let rows : after.trees 0 ≡ without_all (db 0) (ids_of queried.0) = ap (λ (d : Database). d.trees 0) now ∙ ap (λ (t : Trees). t 0) trees ∙ applied.rows in
      (ap (λ (d : Database). d.schema) now, leaves db after.trees (ids_of queried.0) (picks db queried.0 (queried.1.answer Null)) rows)

  module _ (old new : State) (ready : IsReady old) where
    pub dropped : (settled : (db : Trees) → IsTrue new.is_open → new.may_leave db → db ≡ new.committed.trees) (r : Result ℕ Error)
        → Executes drop_text params old new r
        → OnOk r (IsReady new × LeavesOnly old.now.trees new.now.trees places)
    dropped settled (Err e) h = tt
    dropped settled (Ok count) h =
        let w : Writes old new None drop (statement_of drop_text (understood log_schema drop_text)) params count =
        runs_as drop_text params old new log_schema ready.schema drop drop_is drop_plain count h in
        let made = deletes old (statement_of drop_text (understood log_schema drop_text)) w.tally new.now ready.schema w.changed in
        let is : new.committed ≡ new.now = rw ready.autocommit at w.shown.committed_is in (
          record {
            schema = made.0;
            autocommit = w.shown.mode ∙ ready.autocommit;
            committed = is;
            crash = λ db may. settled db w.shown.is_open may
                ∙ ap (λ (d : Database). d.trees) is;
          },
          made.1,
        )

    pub drop_commits : (db : Trees) → CommitsBy drop_text params old db → LeavesOnly old.now.trees db places
    unfolding CommitsBy
    drop_commits db h =
        let known = sym h.1.is ∙ ap (λ s. understood s drop_text) ready.schema in
        let bare = subst IsPlain (sym known) drop_plain in
        let command : h.0.command ≡ drop = ap command_of known ∙ drop_is in
        let may : MayCommit old None drop (text_of drop_text h.0) params db = rw (bare.0, bare.1, append-nil params, command) at h.2 in
        elim may [
          | inl ends ↦ absurd (elim ends.0 [ inl is ↦ (let e = is in cc) | inr some ↦ (let e = some.2 in cc) ])
          | inr writes ↦ (
              let made = deletes old (text_of drop_text h.0) writes.1 writes.2 ready.schema writes.3 in
              subst (λ t. LeavesOnly old.now.trees t places) (sym writes.5) made.1)
        ]
