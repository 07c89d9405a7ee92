use Rattle.root_cell.proofs.writer.Writer.publish.Goals as goal

pub invariant_of-writer : goal.invariant_of-writer
invariant_of-writer g c = c.self.invariant
