-- The laws of a player of a driven schedule before any record.
use Rattle.std.specs.Prelude.{◌≡◌, [], None, true, false}
use Rattle.written_course.specs.Openings.{all_taken, none_stopped, nothing_written}
use Rattle.drive_command.specs.Course.{Drives, course, steps}

pub nothing_from : (d : Drives) → (course d).text false [] ≡ []
nothing_from d = nothing_written steps d

pub unstopped_from : (d : Drives) → (course d).reason [] ≡ None
unstopped_from d = none_stopped steps d

pub spent_from : (d : Drives) → (course d).takes_all [] ≡ true
spent_from d = all_taken steps d
