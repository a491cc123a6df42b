-- Without any record nothing is written but the closing lines, and nothing stops.
use Rattle.std.specs.Prelude.{◌≡◌, refl, [], None, true, false}
use Rattle.schedule_model.specs.Written.{all_written}
use Rattle.written_course.specs.Steps.{Steps, course_from}

module _ {P R : Type 0} (s : Steps P R) (p : P) where
  pub nothing_written : (course_from s p).text false [] ≡ []
  unfolding all_written
  nothing_written = refl

  pub closing_written : (course_from s p).text true [] ≡ s.closing p
  unfolding all_written
  closing_written = refl

  pub none_stopped : (course_from s p).reason [] ≡ None
  unfolding all_written
  none_stopped = refl

  pub all_taken : (course_from s p).takes_all [] ≡ s.takes_all None p
  unfolding all_written
  all_taken = refl

  pub holds_here : (course_from s p).holds [] → s.holds p
  unfolding all_written
  holds_here here = here
