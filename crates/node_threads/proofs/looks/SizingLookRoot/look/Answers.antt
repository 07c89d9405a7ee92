use Rattle.node_threads.proofs.looks.SizingLookRoot.look.Goals as goal

-- the number of the keys that are listed
pub returns : goal.returns
returns g c = (c.size.ensures.0, record { ascending = c.size.ensures.1; just = c.size.ensures.2 }, c.size.ensures.3)
