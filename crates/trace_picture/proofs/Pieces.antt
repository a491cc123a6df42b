-- What the reads of a source make of the trace.
use Rattle.std.proofs.Common.{◌≡◌, ◌+◌, ◌≤◌, min, ℕ, List, ◌++◌, length, take, subst, sym, Option, Result, Ok, Err, inr}
use Rattle.std.specs.Io.KnownBytes.{IsAtEnd}
use Rattle.trace_audit.proofs.Pieces.{judged_part}
use Rattle.record_stream.proofs.Pieces.{piece_all}
use Rattle.trace_audit.specs.declared.source.TheConstants.{MAX_TRACE}
use Rattle.trace_lines.specs.declared.line.LineError.{LineError}
use Rattle.trace_lines.specs.declared.line.LineError.TheVariants as errors
use Rattle.trace_picture.specs.declared.source.Front.{Front}
use Rattle.trace_picture.specs.declared.source.Read.{Read}
use Rattle.trace_picture.specs.declared.source.Read.TheVariants as read
use Rattle.trace_picture.specs.Ends.{ReadsAfter}
use Rattle.trace_picture.specs.Forms.{IsFirstBadFrom}
use Rattle.trace_picture.specs.Taking.{Finishes, IsFront, TakesBytes}

-- a line without a form within the piece that was taken
pub bad_piece : (g : Front) (r : Result (Unit {0}) LineError) (old buf : List ℕ) (count room m : ℕ) → r ≡ Err errors.Grammar → m ≡ min count room
    → length old + room ≡ MAX_TRACE → count ≤ length buf → TakesBytes r g (old ++ take m buf) → IsFirstBadFrom (g.lines + 1) (take MAX_TRACE (old ++ take count buf))
bad_piece g r old buf count room m is least full bound told =
    subst (IsFirstBadFrom (g.lines + 1)) (sym (judged_part MAX_TRACE old buf count room full bound))
    (subst (λ (k : ℕ). IsFirstBadFrom (g.lines + 1) (old ++ take k buf)) least
    (subst (λ (x : Result (Unit {0}) LineError). TakesBytes x g (old ++ take m buf)) is told))

-- none within it
pub front_piece : (g : Front) (done : Unit {0}) (r : Result (Unit {0}) LineError) (old buf : List ℕ) (count room m : ℕ) → r ≡ Ok done → m ≡ min count room
    → TakesBytes r g (old ++ take m buf) → IsFront g (old ++ take (min count room) buf)
front_piece g done r old buf count room m is least told =
    subst (λ (k : ℕ). IsFront g (old ++ take k buf)) least (subst (λ (x : Result (Unit {0}) LineError). TakesBytes x g (old ++ take m buf)) is told)

pub all_taken : (g : Front) (old buf : List ℕ) (count room : ℕ) → count ≤ room → IsFront g (old ++ take (min count room) buf) → IsFront g (old ++ take count buf)
all_taken g old buf count room few s = subst (λ (l : List ℕ). IsFront g (old ++ l)) (piece_all buf count room few) s

-- ---- the end
pub at_end : (r : Read) (bytes : List ℕ) (left : Option (List ℕ)) → IsAtEnd left → length bytes ≤ MAX_TRACE → Finishes r bytes → ReadsAfter bytes left r
at_end read.Whole bytes left ended room v = record { ended = ended; room = room; lines = v }
at_end (read.NoLine n) bytes left ended room v = inr (ended, room, v)
at_end read.Memory bytes left ended room v = absurd v
at_end read.Fault bytes left ended room v = absurd v
at_end read.Limit bytes left ended room v = absurd v

pub no_fault : (r : Read) (bytes : List ℕ) → Finishes r bytes → r ≡ read.Fault → ⊥
no_fault r bytes v e = subst (λ (x : Read). Finishes x bytes) e v
