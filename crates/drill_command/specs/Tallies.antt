-- What a tally says of a world, and its lines.
use Rattle.std.specs.Prelude.{ℕ, ◌≡◌, List, [], ◌∷◌, length, codes, decimal}
use Rattle.std.specs.Borrow.{Bor}
use Rattle.schedule_model.specs.Lines.{Line, bound_word, hex}
use Rattle.group_model.specs.Group.{is_within}
use Rattle.group_model.specs.Run.{World}
use Rattle.trace_model.specs.Summary.{halts, is_deleted, is_recovered, is_stored, is_wrong_pin, number_line, reported}
use Rattle.drill_command.specs.declared.tally.Tally.{Tally}

-- its numbers are those of this world
pub record Counts (tally : Tally) (w : World) : Type 0 where
  pub events : tally.events ≡ length w.past
  pub messages : tally.messages ≡ length w.messages
  pub answers : tally.answers ≡ length w.answers
  pub stored : tally.stored ≡ reported is_stored w
  pub recovered : tally.recovered ≡ reported is_recovered w
  pub wrongpin : tally.wrongpin ≡ reported is_wrong_pin w
  pub deleted : tally.deleted ≡ reported is_deleted w
  pub halts : tally.halts ≡ halts w
  pub log : tally.log ≡ w.committed
  pub within : tally.within ≡ is_within w

-- the line of a word and a number
abbrev pub named_line : Bor (List ℕ) × ℕ → Line
named_line named = number_line named.0.now named.1

-- its lines, where it is that of the drill of this seed and number of clients
abbrev pub tally_lines : ℕ → ℕ → Tally → List Line
tally_lines seed clients tally =
    (codes "drill" ∷ decimal seed ∷ decimal clients ∷ [])
    ∷ number_line (codes "events") tally.events
    ∷ number_line (codes "messages") tally.messages
    ∷ number_line (codes "answers") tally.answers
    ∷ number_line (codes "stored") tally.stored
    ∷ number_line (codes "recovered") tally.recovered
    ∷ number_line (codes "wrongpin") tally.wrongpin
    ∷ number_line (codes "deleted") tally.deleted
    ∷ number_line (codes "halts") tally.halts
    ∷ number_line (codes "log") tally.log
    ∷ (codes "rollbacks" ∷ bound_word tally.within ∷ [])
    ∷ (codes "trace" ∷ hex tally.trace.0 ∷ [])
    ∷ []
