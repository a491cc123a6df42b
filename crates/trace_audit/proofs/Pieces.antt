-- What the reads of a source make of the trace.
use Rattle.std.proofs.Common.{arith, refl, sym, ap, ◌∙◌, ◌≡◌, ◌+◌, ◌≤◌, ◌<◌, min, ℕ, List, [], ◌++◌, length, take, subst, Option, Result, Ok, Err, length-append, append-nil, inl, inr}
use Rattle.std.specs.Io.KnownBytes.{IsAtEnd}
use Rattle.std.proofs.Math.Seq.{take-append-add}
use Rattle.std.proofs.lemmas.Bool.{cases_lt}
use Rattle.std.proofs.lemmas.List.{length-take-le, take-take, take_all}
use Rattle.record_stream.proofs.Pieces.{piece_all}
use Rattle.trace_audit.specs.declared.audit.AuditError.{AuditError}
use Rattle.trace_audit.specs.declared.audit.AuditError.TheVariants as error
use Rattle.trace_audit.specs.declared.audit.Why.{Why}
use Rattle.trace_audit.specs.declared.source.Audited.{Audited}
use Rattle.trace_audit.specs.declared.source.Audited.TheVariants as audited
use Rattle.trace_audit.specs.declared.source.Front.{Front}
use Rattle.byte_streams.specs.declared.streams.TheConstants.{PIECE}
use Rattle.trace_audit.specs.declared.source.TheConstants.{MAX_TRACE}
use Rattle.trace_audit.specs.Ends.{EndsAfter, ReadOn}
use Rattle.trace_audit.specs.Fronts.{IsRefused, IsTaken}
use Rattle.trace_audit.specs.Stands.{why_of}
use Rattle.trace_audit.specs.Taking.{Finishes, IsFront, TakesBytes}

pub front_taken : (f : Front) (bytes : List ℕ) → IsFront f bytes → IsTaken bytes
front_taken f bytes s = record { state = s.state; passes = s.passes; room = subst (λ (p : List ℕ). length p ≤ 68000000) s.pending s.room }

-- the bytes of a read behind those that were taken
pub read_more : (f : Front) (read piece : List ℕ) → IsFront f read → length read ≤ MAX_TRACE → length piece ≤ PIECE → ReadOn (read ++ piece)
read_more f read piece s room short = record { before = read; piece = piece; parts = refl; short = short; passed = front_taken f read s; room = room }

-- a piece past the limit, and what is judged of any piece
pub over : (limit : ℕ) (read buf : List ℕ) (count room : ℕ) → length read + room ≡ limit → room < count → count ≤ length buf
    → (limit < length (read ++ take count buf)) × (take limit (read ++ take count buf) ≡ read ++ take (min count room) buf)
over limit read buf count room full more bound =
    let size = length-append read (take count buf) in
    let taken = length-take-le count buf bound in
    let least : min count room ≡ room = omega arith in
    let first : take room (take count buf) ≡ take (min count room) buf = take-take room count buf (omega arith) ∙ ap (λ (n : ℕ). take n buf) (sym least) in (
      omega (arith, size, taken),
      ap (λ (n : ℕ). take n (read ++ take count buf)) (sym full) ∙ take-append-add read (take count buf) room ∙ ap (λ (l : List ℕ). read ++ l) first,
    )

pub judged_part : (limit : ℕ) (read buf : List ℕ) (count room : ℕ) → length read + room ≡ limit → count ≤ length buf
    → take limit (read ++ take count buf) ≡ read ++ take (min count room) buf
judged_part limit read buf count room full bound = elim (cases_lt room count) [
  | inl more ↦ (over limit read buf count room full more bound).1
  | inr few ↦
      let all = piece_all buf count room few in
      let size = length-append read (take count buf) in
      let taken = length-take-le count buf bound in
      take_all limit (read ++ take count buf) (omega (arith, size, taken)) ∙ ap (λ (l : List ℕ). read ++ l) (sym all)
]

-- a refusal within the piece that was judged
pub refused_piece : (g : Front) (why : Why) (r : Result (Unit {0}) AuditError) (read buf : List ℕ) (count room m : ℕ) → r ≡ Err (error.Wrong why) → m ≡ min count room
    → length read + room ≡ MAX_TRACE → count ≤ length buf → TakesBytes r g (read ++ take m buf) → IsRefused (g.lines + 1) (why_of why) (take MAX_TRACE (read ++ take count buf))
refused_piece g why r read buf count room m is least full bound told =
    subst (IsRefused (g.lines + 1) (why_of why)) (sym (judged_part MAX_TRACE read buf count room full bound))
    (subst (λ (k : ℕ). IsRefused (g.lines + 1) (why_of why) (read ++ take k buf)) least
    (subst (λ (x : Result (Unit {0}) AuditError). TakesBytes x g (read ++ take m buf)) is told))

-- no refusal within it
pub front_piece : (g : Front) (done : Unit {0}) (r : Result (Unit {0}) AuditError) (read buf : List ℕ) (count room m : ℕ) → r ≡ Ok done → m ≡ min count room
    → TakesBytes r g (read ++ take m buf) → IsFront g (read ++ take (min count room) buf)
front_piece g done r read buf count room m is least told =
    subst (λ (k : ℕ). IsFront g (read ++ take k buf)) least (subst (λ (x : Result (Unit {0}) AuditError). TakesBytes x g (read ++ take m buf)) is told)

pub part_taken : (g : Front) (read buf : List ℕ) (count room : ℕ) → length read + room ≡ MAX_TRACE → count ≤ length buf → IsFront g (read ++ take (min count room) buf)
    → IsTaken (take MAX_TRACE (read ++ take count buf))
part_taken g read buf count room full bound s =
    subst IsTaken (sym (judged_part MAX_TRACE read buf count room full bound)) (front_taken g (read ++ take (min count room) buf) s)

pub all_taken : (g : Front) (read buf : List ℕ) (count room : ℕ) → count ≤ room → IsFront g (read ++ take (min count room) buf) → IsFront g (read ++ take count buf)
all_taken g read buf count room few s = subst (λ (l : List ℕ). IsFront g (read ++ l)) (piece_all buf count room few) s

-- ---- the end
pub at_end : (r : Audited) (f : Front) (bytes : List ℕ) (left : Option (List ℕ)) → IsAtEnd left → length bytes ≤ MAX_TRACE → IsFront f bytes → Finishes r bytes → EndsAfter bytes left r
at_end (audited.Accepts n) f bytes left ended room s v = record { ended = ended; room = room; verdict = v }
at_end (audited.Refuses n why) f bytes left ended room s v =
    (subst ReadOn (append-nil bytes) (read_more f bytes [] s room (omega arith)), inr (record { ended = ended; room = room; verdict = v }))
at_end audited.Memory f bytes left ended room s v = absurd v
at_end audited.ReadFault f bytes left ended room s v = absurd v
at_end audited.Limit f bytes left ended room s v = absurd v

pub no_fault : (r : Audited) (bytes : List ℕ) → Finishes r bytes → r ≡ audited.ReadFault → ⊥
no_fault r bytes v e = subst (λ (x : Audited). Finishes x bytes) e v
