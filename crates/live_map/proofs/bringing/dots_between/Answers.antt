use Rattle.std.proofs.lemmas.Result.{IfOk-weaker}
use Rattle.live_map.proofs.bringing.dots_between.Goals as goal

pub returns-clause-both : goal.returns-clause-both
returns-clause-both g c =
    IfOk-weaker c.with_dots-dots.result _ _ (λ dots more place d h. more d (c.in_ok-later.ensures.stand place d h)) c.with_dots-dots.ensures.more
