-- What the end of a table's playing says of a run.
use Rattle.std.proofs.Common.{refl, sym, ap, subst, ◌∙◌, ◌≡◌, ◌≢◌, ◌≤◌, ℕ, List, length, Option, Some, None, IfSome, inr}
use Rattle.record_stream.specs.Alone.{none_asked, one_way}
use Rattle.record_stream.specs.Course.{Course}
use Rattle.record_cutting.specs.Lines.{records_of}
use Rattle.record_stream.specs.Ends.{CanDecide, EndsOver, PlayedOver, ended_for, limit}
use Rattle.record_stream.specs.declared.source.Ended.{Ended}
use Rattle.record_stream.specs.declared.source.Ended.TheVariants as ended
use Rattle.schedule_model.specs.Written.{Off, On, Written, all_written, text_with}
use Rattle.schedule_text.specs.declared.fault.Stopped.{Stopped}
use Rattle.schedule_text.specs.declared.fault.Stopped.TheVariants as stopped
use Rattle.table_model.specs.TableText.{Applied, rows_line, table_played}
use Rattle.table_command.specs.Course as table
use Rattle.table_command.specs.Text.{start as empty}
use Rattle.svr2_run.specs.Run.{EndsStopped, RunsOver, StoppedBy, status_of, table_status_by, table_status_for}
use Rattle.svr2_run.specs.declared.exit.Status.{Status}
use Rattle.svr2_run.specs.declared.exit.Status.TheVariants as status
use Rattle.svr2_run.specs.declared.words.Play.TheVariants.{Table}
use Rattle.svr2_run.proofs.Ended.{IsCourseOf, Said}

-- a text that ends before its records ends with the line that says why
off_ends : (why : Stopped) (w : Written Applied) → table.cause_in w ≡ Some why → EndsStopped (text_with rows_line w)
off_ends why (On text s) e = cc e
off_ends why (Off text stop s) e = record { before = text; stop = stop; parts = refl }

module _ (rows : ℕ) where
  abbrev pub course : Course Stopped
  course = table.course_from (empty rows)

  ends : (why : Stopped) (all : List ℕ) (left x y : Option (List ℕ)) → StoppedBy (Table rows) (table_status_for why) all x y → RunsOver (Table rows) all left x y (table_status_for why)
  ends stopped.AtRecord all left x y said = said
  ends stopped.AtLimit all left x y said = inr said

  pub is_table : IsCourseOf (Table rows) course table_status_for
  is_table = record {
    named = λ rs any. tt;
    text = λ bytes. refl;
    lines = λ bytes. refl;
    whole = λ bytes unstopped. ap table_status_by unstopped.0;
    done = λ bytes unstopped. ap table_status_by unstopped.0;
    stopped = λ bytes why e. (ap table_status_by e, off_ends why (all_written table_played (empty rows) (records_of bytes)) e);
    ends = ends;
  }

  -- what is said of a player that asks for nothing itself
  abbrev SaidOn : Course Stopped → List ℕ → (left x y : Option (List ℕ)) → Ended Stopped → Type 0
  SaidOn a all left x y e = EndsOver a all left x y e × (a.holds (records_of all) → length all ≤ limit → CanDecide e → e ≡ ended_for (a.reason (records_of all)))

  pub one_ends : (p q : Applied) (left left' x y : Option (List ℕ)) (e : Ended Stopped) → p ≡ empty rows
      → IfSome left (λ all. PlayedOver none_asked one_way table.course_from table.after_record p q all left' x y e) → IfSome left (λ all. Said (Table rows) course table_status_for is_table all left' x y e)
  one_ends p q None left' x y e is h = tt
  one_ends p q (Some all) left' x y e is h = subst (λ (s : Applied). SaidOn (table.course_from s) all left' x y e) is (h.ends p refl, h.reason p refl)

pub means_no_field : (why : Stopped) → table_status_for why ≢ status.FieldFault
means_no_field stopped.AtRecord f = cc f
means_no_field stopped.AtLimit f = cc f

pub means_no_refusal : (why : Stopped) → table_status_for why ≢ status.Refused
means_no_refusal stopped.AtRecord f = cc f
means_no_refusal stopped.AtLimit f = cc f

pub never_frame : (e : Ended Stopped) (s : Status) → s ≡ status_of e → s ≢ status.Frame
never_frame ended.Done s is f = cc (sym is ∙ f)
never_frame (ended.Stopped stopped.AtRecord) s is f = cc (sym is ∙ f)
never_frame (ended.Stopped stopped.AtLimit) s is f = cc (sym is ∙ f)
never_frame ended.ReadFault s is f = cc (sym is ∙ f)
never_frame ended.Limit s is f = cc (sym is ∙ f)
never_frame ended.Memory s is f = cc (sym is ∙ f)
never_frame ended.WriteFault s is f = cc (sym is ∙ f)
never_frame ended.Failed s is f = cc (sym is ∙ f)
