-- What one turn of serving comes to.
use Rattle.std.proofs.Common.{◌≡◌, ℕ, ◌+◌, ◌<◌, Option, Some, None, Result, Ok, Err, List, [], ◌++◌, length, take, drop, refl, sym, ap, subst, ◌∙◌, arith, append-nil}
use Rattle.std.specs.Io.KnownBytes.{Appends, Consumes}
use Rattle.std.proofs.KnownBytes.{Appends-nil}
use Rattle.byte_streams.specs.Streams.{AppendsPrefix}
use Rattle.values.specs.declared.entry.Point.{Point}
use Rattle.values.specs.declared.limits.TheConstants.{MAX_FRAMES}
use Rattle.replica_model.specs.Replica.{Named}
use Rattle.group_model.specs.Enclave.{Enclave}
use Rattle.trace_model.specs.Session.{Tagging}
use Rattle.enclave_host.specs.declared.running.Running.{Running}
use Rattle.replica_server.specs.declared.answer.Unanswered.{Unanswered}
use Rattle.replica_server.specs.declared.frame.Unread.{Unread}
use Rattle.replica_server.specs.declared.frame.Unread.TheVariants as frame_fault
use Rattle.replica_server.specs.declared.served.Served.{Served}
use Rattle.replica_server.specs.declared.served.Served.TheVariants as served
use Rattle.replica_server.specs.declared.served.FrameCause.TheVariants as cause
use Rattle.replica_server.specs.Answering.{Answers}
use Rattle.replica_server.specs.Reading.{IsFrame, ReadsFrame}
use Rattle.replica_server.specs.Served.{unread, unanswered}
use Rattle.replica_server.specs.Standing.{Stands, IfByMap}
use Rattle.replica_server.specs.Turning.{Spot, SoFar, EndsSo, TurnsFrom}
use Rattle.replica_server.proofs.Turned.{Answered, turn_done, turn_cut, turn_length, turn_memory, turn_read_fault, turn_unanswered, turn_write_fault, turn_on}

module _ (tagging : Tagging) (read written : List ℕ) (s : Spot) (so_far : SoFar tagging read written s) (few : s.number < MAX_FRAMES) (a b taken : Option (List ℕ)) (size : ℕ) (is_size : size ≡ tagging.size) where
  -- it ended, and nothing more was written
  unwritten : (next : Spot) (more : List ℕ) (r : Served) → Consumes a b more → EndsSo tagging (read ++ more) written b r → TurnsFrom tagging read written next a b taken taken (Err r)
  unwritten next more r consumed ends = (more, consumed, [], Appends-nil taken, subst (λ w. EndsSo tagging (read ++ more) w b r) (sym (append-nil written)) ends)

  pub turns_none : (next : Spot) (frame : List ℕ) → ReadsFrame size a b frame (Ok None) → TurnsFrom tagging read written next a b taken taken (Err served.Done)
  turns_none next frame (consumed, end) = unwritten next [] served.Done consumed (turn_done tagging read written s so_far b end (omega (arith, few)))

  unread_turns : (next : Spot) (frame : List ℕ) (why : Unread) → ReadsFrame tagging.size a b frame (Err why) → TurnsFrom tagging read written next a b taken taken (Err (unread s.at why))
  unread_turns next frame frame_fault.Memory (more, consumed) = unwritten next more served.Memory consumed (turn_memory tagging read written s so_far more b)
  unread_turns next frame frame_fault.ReadFault (more, is, consumed) =
      unwritten next more served.ReadFault consumed (turn_read_fault tagging read written s so_far more b is (omega (arith, few)))
  unread_turns next frame frame_fault.Cut (more, is, some, consumed, end) = unwritten next more (served.Frame s.at cause.Cut) consumed (turn_cut tagging read written s so_far more b is some end few)
  unread_turns next frame (frame_fault.Length n) (head, four, spelled, none, consumed) =
      unwritten next head (served.Frame s.at (cause.Length n)) consumed (turn_length tagging read written s so_far head n b four spelled none few)

  pub turns_unread : (next : Spot) (frame : List ℕ) (why : Unread) → ReadsFrame size a b frame (Err why) → TurnsFrom tagging read written next a b taken taken (Err (unread s.at why))
  turns_unread next frame why reads = unread_turns next frame why (subst (λ k. ReadsFrame k a b frame (Err why)) is_size reads)

  module _ (n : ℕ) (frame content tag : List ℕ) (reads : ReadsFrame size a b frame (Ok (Some n))) (front : content ≡ take n frame) (back : tag ≡ drop n frame) (enclave : Option (Option Running)) (out : List ℕ) where
    abbrev pub AnsweredSo : Result (Unit {0}) Unanswered → Type 0
    AnsweredSo r =
        (names : Point → Named) (before : Option Enclave) → Stands s.enclave before → IfByMap names before → Answers tagging names before content s.number tag enclave out r

    is_frame : IsFrame tagging.size n reads.0 frame
    is_frame = subst (λ k. IsFrame k n reads.0 frame) is_size reads.1

    answered : (r : Result (Unit {0}) Unanswered) → AnsweredSo r → Answered tagging read written s so_far n reads.0 frame is_frame few enclave out r
    answered r h names before stands by_map =
        subst (λ t. Answers tagging names before (take n frame) s.number t enclave out r) back
        (subst (λ x. Answers tagging names before x s.number tag enclave out r) front (h names before stands by_map))

    pub turns_unanswered : (next : Spot) (why : Unanswered) → AnsweredSo (Err why) → TurnsFrom tagging read written next a b taken taken (Err (unanswered s.at s.number why))
    turns_unanswered next why h =
        unwritten next (reads.0 ++ frame) (unanswered s.at s.number why) reads.2 (turn_unanswered tagging read written s so_far n reads.0 frame is_frame few enclave out why b (answered (Err why) h))

    pub turns_write_fault : (next : Spot) (now : Option (List ℕ)) → AppendsPrefix taken now out → AnsweredSo (Ok tt) → TurnsFrom tagging read written next a b taken now (Err served.WriteFault)
    turns_write_fault next now (k, bound, gained) h =
        (reads.0 ++ frame, reads.2, take k out, gained, turn_write_fault tagging read written s so_far n reads.0 frame is_frame few enclave out k b (answered (Ok tt) h))

    pub turns_on : (at : ℕ) (now : Option (List ℕ)) → at ≡ s.at + (4 + length frame) → Appends taken now out → AnsweredSo (Ok tt)
        → TurnsFrom tagging read written (record { at = at; number = s.number + 1; enclave = enclave }) a b taken now (Ok tt)
    turns_on at now e gained h = (
      reads.0 ++ frame,
      reads.2,
      out,
      gained,
      subst (λ k. SoFar tagging (read ++ (reads.0 ++ frame)) (written ++ out) (record { at = k; number = s.number + 1; enclave = enclave })) (sym e)
          (turn_on tagging read written s so_far n reads.0 frame is_frame few enclave out (answered (Ok tt) h)),
    )
