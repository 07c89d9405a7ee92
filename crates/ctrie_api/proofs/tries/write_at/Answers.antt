use Rattle.std.proofs.Common.{◌<◌, Bool, length, arith}
use Rattle.std.proofs.lemmas.Result.{err_from_is_err_and}
use Rattle.ctrie_api.proofs.Writes.{changed_past, write_done, writable_there, ok_clause, err_clause}
use Rattle.ctrie_api.proofs.tries.write_at.Goals as goal

pub returns-then-index-len-clause-ok : goal.returns-then-index-len-clause-ok
returns-then-index-len-clause-ok g c = changed_past _ _ _ (omega arith)

pub returns-in_err-carry_out-clause-read_only : goal.returns-in_err-carry_out-clause-read_only
returns-in_err-carry_out-clause-read_only g c =
    let within : c.args.index < length c.args.tries.now.items = omega arith in
    let p = err_from_is_err_and c.from_residual.result c.from_residual.ensures.1 in
    rw (p.1, p.2) (err_clause Bool _ _ c.index_mut.result.now c.index_mut.ensures.value within _ c.in_err-carry_out.ensures.read_only)

pub returns-clause-read_only : goal.returns-clause-read_only
returns-clause-read_only g c =
    let within : c.args.index < length c.args.tries.now.items = omega arith in
    ok_clause Bool _ _ c.index_mut.result.now c.index_mut.ensures.value within c.in_ok-carry_out.field-0 _ c.in_ok-carry_out.ensures.read_only

pub returns-clause-ok : goal.returns-clause-ok
returns-clause-ok g c =
    let within : c.args.index < length c.args.tries.now.items = omega arith in
    write_done _ _ c.index_mut.result.now c.index_mut.ensures.value within _ c.carry_out.new.trie
    (writable_there _ c.in_ok-carry_out.field-0 c.in_ok-carry_out.ensures.read_only) c.in_ok-carry_out.ensures.ok
