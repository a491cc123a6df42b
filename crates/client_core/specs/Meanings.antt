-- What an answer means to a client.
use Rattle.std.specs.Prelude.{⊤, Option, Some, None}
use Rattle.values.specs.declared.message.Answer.{Answer}
use Rattle.values.specs.declared.message.Request.TheVariants as request
use Rattle.schedule_model.specs.Client.{Flight, Meaning, Nothing, GoesOn, Reports, answer_meaning}
use Rattle.client_core.specs.declared.stage.Stage.{Stage}
use Rattle.client_core.specs.declared.stage.Stage.TheVariants as stage
use Rattle.client_core.specs.declared.meaning.Meaning.{Meaning as MeaningOf}
use Rattle.client_core.specs.declared.meaning.Meaning.TheVariants as code

abbrev pub meaning_of : MeaningOf → Meaning
meaning_of code.Nothing = Nothing
meaning_of code.Backed = GoesOn
meaning_of (code.Ends report) = Reports report

-- with nothing in flight an answer means nothing
abbrev pub meaning_in : Option Flight → Answer → Meaning
meaning_in None answer = Nothing
meaning_in (Some flight) answer = answer_meaning flight answer

-- a backup was in flight, where that is done
abbrev pub IsOfBackup : Stage → MeaningOf → Type 0
IsOfBackup (stage.First (request.Backup secret pin tries)) meaning = ⊤
IsOfBackup other code.Backed = ⊥
IsOfBackup other meaning = ⊤
