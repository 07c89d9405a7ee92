use Rattle.op_model.specs.Made.{put_at, erasure}
use Rattle.op_model.proofs.Fresh.{put-new, erasure-new, sound-makes, sound-sends, sound-learns}
use Rattle.op_model.proofs.worlds.moves_are_sound.Goals as goal

pub returns-clause-makes_a_write : goal.returns-clause-makes_a_write
returns-clause-makes_a_write c = λ w name place value sound. sound-makes w name (put_at (w.seen name) name place value) sound
    (put-new (w.seen name) name place value)

pub returns-clause-makes_an_erasure : goal.returns-clause-makes_an_erasure
returns-clause-makes_an_erasure c = λ w name over sound. sound-makes w name (erasure over) sound (erasure-new (w.seen name) name over)

pub returns-clause-sends : goal.returns-clause-sends
returns-clause-sends c = sound-sends

pub returns-clause-learns : goal.returns-clause-learns
returns-clause-learns c = sound-learns
