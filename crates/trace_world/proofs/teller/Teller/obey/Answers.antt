use Rattle.trace_world.proofs.teller.Teller.obey.Goals as goal

pub returns-in-Put : goal.returns-in-Put
returns-in-Put g c = rw (c.in-Put.is, ← c.as_slice.ensures.value, ← c.as_slice-in-Put.ensures.value, ← c.as_slice-in-Put-2.ensures.value) c.put.ensures

pub returns-in-Flush : goal.returns-in-Flush
returns-in-Flush g c = rw c.in-Flush.is c.call.ensures

pub returns-in-Deliver : goal.returns-in-Deliver
returns-in-Deliver g c = rw c.in-Deliver.is c.deliver.ensures

pub returns-in-Sync : goal.returns-in-Sync
returns-in-Sync g c = rw c.in-Sync.is c.call-in-Sync.ensures

pub returns-in-Retry : goal.returns-in-Retry
returns-in-Retry g c = rw c.in-Retry.is c.call-in-Retry.ensures

pub returns-in-Abandon : goal.returns-in-Abandon
returns-in-Abandon g c = rw c.in-Abandon.is c.call-in-Abandon.ensures

pub returns-in-Clear : goal.returns-in-Clear
returns-in-Clear g c = rw c.in-Clear.is c.call-in-Clear.ensures

pub returns-in-Remove : goal.returns-in-Remove
returns-in-Remove g c = rw (c.in-Remove.is, ← c.as_slice-in-Remove.ensures.value) c.remove.ensures

pub returns-in-RemoveField : goal.returns-in-RemoveField
returns-in-RemoveField g c = rw (c.in-RemoveField.is, ← c.as_slice-in-RemoveField.ensures.value, ← c.as_slice-in-RemoveField-2.ensures.value)
    c.remove_field.ensures

pub returns-in-Fields : goal.returns-in-Fields
returns-in-Fields g c = rw (c.in-Fields.is, ← c.as_slice-in-Fields.ensures.value) c.fields.ensures
