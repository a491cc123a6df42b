-- The closing lines of a world.
use Rattle.std.specs.Prelude.{ℕ, List, length}
use Rattle.std.specs.List.{list_all}
use Rattle.schedule_model.specs.Lines.{closing_lines, lines_text}
use Rattle.group_model.specs.Group.{bears}
use Rattle.group_world.specs.declared.told.Told.{Told}
use Rattle.group_world.specs.declared.world.World.{World}
use Rattle.group_world.specs.Standing.{conf_in}

abbrev pub closing_of : World → List ℕ
closing_of w =
    lines_text (closing_lines w.committed (list_all (λ (told : Told). bears w.rolled.items (conf_in told)) w.confs.items) w.events (length w.post) (length w.answers.items))
