-- How far a session is, wherever it lies in memory. Of this project.
use Rattle.sync_protocol.specs.Asking as asking
use Rattle.sync_protocol.specs.Asking.{StageValue}
use Rattle.sync_protocol.specs.declared.stage.Stage.{Stage}
use Rattle.sync_protocol.specs.declared.stage.Stage.TheVariants.{Asked, Fetching, Complete, Over}

abbrev pub staged : {H A : Type 0} → Stage H A → StageValue H
staged Asked = asking.Asked
staged (Fetching context fetching) = asking.Fetching context fetching
staged (Complete context built) = asking.Complete context built
staged Over = asking.Over
