-- What the laws of the log say, in one.
use Rattle.replica_log.specs.Models.{IndicesAreTheModels, NewestAreTheModels, ConfigsAreTheModels}

-- the indices and the configurations that a log tells are those of each model replica for whose log it stands
pub record LogsAreTheModels : Type 0 where
  pub indices : IndicesAreTheModels
  pub newest : NewestAreTheModels
  pub configs : ConfigsAreTheModels
