use Rattle.std.proofs.Common.{◌≡◌, rules, sym, subst, List, ℕ, length, ap, ◌∙◌}
use Rattle.std.specs.Io.KnownBytes.{Consumes}
use Rattle.shared_object.proofs.Meeting.{written_back}
use Rattle.node_threads.proofs.frames.bytes_of.Goals as goal

-- what was read is all of the vector
pub returns-in-Ok-clause-bytes : goal.returns-in-Ok-clause-bytes
returns-in-Ok-clause-bytes g c =
    let same : length c.read_exact.new.buf ≡ length c.resize.new.self.items = search rules in
    let whole = written_back c.read_exact.new.buf c.resize.new.self.items c.resize.new.self.len same c.resize.new.self.ok.0 in
    subst (λ (xs : List ℕ). Consumes (g.I.Read.remaining c.args.input.now) (g.I.Read.remaining c.read_exact.new.self) xs) (sym whole) c.in-Ok.ensures.bytes

pub returns-in-Ok-clause-count : goal.returns-in-Ok-clause-count
returns-in-Ok-clause-count g c =
    let same : length c.read_exact.new.buf ≡ length c.resize.new.self.items = search rules in
    let count : c.resize.new.self.len ≡ c.args.count = search rules in
    let whole = written_back c.read_exact.new.buf c.resize.new.self.items c.resize.new.self.len same c.resize.new.self.ok.0 in
    ap length whole ∙ (same ∙ (sym c.resize.new.self.ok.0 ∙ count))
