-- What a handle owns may go to another thread, as what stands behind it may.
use mir.Raw.{raw}
use base.Shift.{Keyless}
use denote.Memory.{lone}
use denote.Param.Send.{IsSend}
use denote.RattleType.{RattleType}
use denote.RawPtr.{Ptr}
use Rattle.std_alloc.proofs.SendSync.{lies}
use Rattle.std.proofs.Crossing.{frees}
use Rattle.std.specs.declared.alloc.Global.{Global}
use Rattle.std.specs.declared.option.Option.{Option}
use Rattle.std.specs.declared.option.Option.TheVariants.{None, Some}
use Rattle.ginelm_c.specs.Owning.{owns_held}

pub owned_crosses : (R : RattleType) → IsSend R → (a : Global) (p : Ptr) (o : Option R.Denot) → Keyless (owns_held R a p o)
owned_crosses R send a p None = tt
owned_crosses R send a p (Some x) = (lies R send p x, frees.frees a (raw (lone R.mir)) p)
