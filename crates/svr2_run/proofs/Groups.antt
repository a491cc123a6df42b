-- What the end of a group's playing over a field says of a run.
use Rattle.std.proofs.Common.{arith, refl, sym, ap, ◌∙◌, ◌≡◌, ◌≢◌, ◌≤◌, ℕ, List, [], append-nil, inl, length, take, Option, Some, None, IfSome, IsSome}
use Rattle.std.proofs.KnownBytes.{Appends-nil}
use Rattle.record_cutting.specs.Lines.{whole_lines, whole_records}
use Rattle.record_stream.specs.Ends.{limit}
use Rattle.schedule_model.specs.Written.{all_written}
use Rattle.replica_model.specs.Linked.{sha_link}
use Rattle.group_model.specs.Field.{Field}
use Rattle.group_model.specs.Run.{enclaves, no_enclaves}
use Rattle.trace_model.specs.Contents.{contents}
use Rattle.enclave_host.specs.Fields.{Map}
use Rattle.group_world.specs.Meanings.{batch_of}
use Rattle.group_world.specs.Runs as world
use Rattle.group_world.specs.Runs.{DecidedOver, FailedOver, IsWithoutCollision, OverContents, OverEnclaves, RunsAfter, any}
use Rattle.group_world.specs.declared.schedule.Played.{Played}
use Rattle.group_world.specs.declared.schedule.Played.TheVariants as end
use Rattle.svr2_run.specs.Groups.{GroupDecides, GroupsOver}
use Rattle.svr2_run.specs.Run.{status_played}
use Rattle.svr2_run.specs.declared.exit.Status.{Status}
use Rattle.svr2_run.specs.declared.exit.Status.TheVariants as status

pub told_groups : (map map' : Option Map) (told told' : Option (List (List ℕ))) (left left' x y : Option (List ℕ)) (r : Played) (s : Status) → s ≡ status_played r
    → IfSome left (λ all. IsSome map → OverEnclaves all left' x y r)
    → (r ≡ end.FieldFault → IfSome left (λ all. IsSome map → FailedOver told told' all x y))
    → (r ≡ end.Done → IfSome left (λ all. IsSome map → RunsAfter all map'))
    → IfSome left (λ all. OverContents told told' all left' x y r)
    → IfSome left (λ all. GroupsOver map map' told told' all left' x y s)
told_groups map map' told told' None left' x y r s is trace failed replicas given = tt
told_groups map map' told told' (Some all) left' x y r s is trace failed replicas given = record {
  played = r;
  status = is;
  enclaves = trace;
  failed = λ tells fault. failed fault tells;
  replicas = λ tells done. replicas done tells;
  contents = given;
}

pub told_decides : (map : Option Map) (told told' : Option (List (List ℕ))) (left : Option (List ℕ)) (r : Played) (s : Status) (A B C : Type 0) → s ≡ status_played r
    → IfSome left (λ all. length all ≤ limit → r ≢ end.Memory → (A → ⊥) → (B → ⊥) → (C → ⊥) → DecidedOver map told told' all r)
    → IfSome left (λ all. length all ≤ limit → (A → ⊥) → (B → ⊥) → (C → ⊥) → s ≢ status.Memory → GroupDecides map told told' all s)
told_decides map told told' None r s A B C is h = tt
told_decides map told told' (Some all) r s A B C is h = λ small na nb nc nm.
    record { played = r; status = is; decided = h small (λ e. nm (is ∙ ap status_played e)) na nb nc }

-- ---- nothing was read

module _ {M F : Type 0} (field : Field M F) (f : F) (named spent : F → Type 0) where
  no_lines : world.lines_of field f named spent (whole_records []) ≡ []
  unfolding whole_lines all_written
  no_lines = refl

  cut_before : (all : List ℕ) (x : Option (List ℕ)) → world.CutOff field f named spent all (Some all) x x
  cut_before all x = record {
    read = [];
    consumed = refl;
    written = [];
    of_read = inl (λ holds. (world.lines_of field f named spent (whole_records (take limit [])), refl));
    before = [];
    piece = [];
    rest = [];
    parts = refl;
    short = omega arith;
    lines = λ holds. sym (append-nil (world.lines_of field f named spent (whole_records [])) ∙ no_lines);
    gained = Appends-nil x;
  }

none_given : (told : Option (List (List ℕ))) (all : List ℕ) (x : Option (List ℕ)) → OverContents told told all (Some all) x x end.Memory
none_given None all x = tt
none_given (Some was) all x = ([], ap Some (sym (append-nil was)), cut_before (contents batch_of) [] any (λ later. later ≡ []) all x)

pub unread_group : (map : Option Map) (told : Option (List (List ℕ))) (left x : Option (List ℕ)) → IfSome left (λ all. GroupsOver map map told told all left x x status.Memory)
unread_group map told None x = tt
unread_group map told (Some all) x = record {
  played = end.Memory;
  status = refl;
  enclaves = λ tells. cut_before (enclaves sha_link) no_enclaves IsWithoutCollision any all x;
  failed = λ tells fault. cc fault;
  replicas = λ tells done. cc done;
  contents = none_given told all x;
}

pub unread_decides : (map : Option Map) (told : Option (List (List ℕ))) (left : Option (List ℕ)) (A B C : Type 0)
    → IfSome left (λ all. length all ≤ limit → (A → ⊥) → (B → ⊥) → (C → ⊥) → status.Memory ≢ status.Memory → GroupDecides map told told all status.Memory)
unread_decides map told None A B C = tt
unread_decides map told (Some all) A B C = λ small na nb nc nm. absurd (nm refl)
