-- Without any record and without the closing line nothing is written, nothing stops and nothing is asked for.
use Rattle.std.specs.Prelude.{◌≡◌, refl, [], None, true, false}
use Rattle.schedule_model.specs.Written.{all_written}
use Rattle.table_model.specs.TableText.{Applied}
use Rattle.table_command.specs.Course.{course_from}

pub nothing_from : (s : Applied) → (course_from s).text false [] ≡ []
unfolding all_written
nothing_from s = refl

pub unstopped_from : (s : Applied) → (course_from s).reason [] ≡ None
unfolding all_written
unstopped_from s = refl

pub spent_from : (s : Applied) → (course_from s).takes_all [] ≡ true
spent_from s = refl
