-- Where nothing was read and nothing was written.
use Rattle.std.proofs.Common.{arith, refl, sym, ◌∙◌, ◌≡◌, ℕ, List, [], take, Option, Some, None, IfSome, append-nil, inl}
use Rattle.std.proofs.KnownBytes.{Appends-nil}
use Rattle.record_cutting.specs.Lines.{whole_lines}
use Rattle.record_stream.specs.Ends.{limit}
use Rattle.schedule_model.specs.Written.{all_written}
use Rattle.svr2_run.specs.Run.{CutOff, IsNoFrame, lines_of}
use Rattle.svr2_run.specs.Words.{play_in}
use Rattle.svr2_run.specs.declared.words.Command.{Command}
use Rattle.svr2_run.specs.declared.words.Command.TheVariants as command
use Rattle.svr2_run.specs.declared.exit.Status.TheVariants as status
use Rattle.svr2_run.specs.declared.words.Play.{Play}
use Rattle.svr2_run.specs.declared.words.Play.TheVariants.{Drive, Replay, Table}

no_lines : (play : Play) → lines_of play [] ≡ []
unfolding whole_lines all_written
no_lines Replay = refl
no_lines Drive = refl
no_lines (Table rows) = refl

cut_before : (play : Play) (all : List ℕ) (x : Option (List ℕ)) → CutOff play all (Some all) x x
cut_before play all x = record {
  read = [];
  consumed = refl;
  written = [];
  of_read = inl (λ holds. (lines_of play (take limit []), refl));
  before = [];
  piece = [];
  rest = [];
  parts = refl;
  short = omega arith;
  lines = λ holds. sym (append-nil (lines_of play []) ∙ no_lines play);
  gained = Appends-nil x;
}

pub unread_run : (play : Option Play) (left x : Option (List ℕ)) → IfSome play (λ play. IfSome left (λ all. CutOff play all left x x))
unread_run None left x = tt
unread_run (Some play) None x = tt
unread_run (Some play) (Some all) x = cut_before play all x

pub memory_is_no_frame : (play : Option Play) → IfSome play (λ play. IsNoFrame play status.Memory)
memory_is_no_frame None = tt
memory_is_no_frame (Some Replay) = tt
memory_is_no_frame (Some Drive) = tt
memory_is_no_frame (Some (Table rows)) = λ e. cc e

-- the words play this
pub command_plays : (o : Option Command) (play : Play) (P : Play → Type 0) → o ≡ Some (command.Play play) → P play → IfSome (play_in o) P
command_plays o play P is h = rw is h
