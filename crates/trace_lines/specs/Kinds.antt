-- The kinds of fields, and the lines that are told by the kinds of their fields alone.
use Rattle.std.specs.Prelude.{ℕ, ◌&&◌, Bool, true, false, List, [], ◌∷◌, Option, Some, None, codes, is_some}
use Rattle.group_quorum.specs.declared.TheConstants.{MAX_ID}
use Rattle.schedule_model.specs.Lines.{Line}
use Rattle.schedule_model.specs.Reading.{max_u32}
use Rattle.schedule_model.specs.Records.{meaning}
use Rattle.trace_lines.specs.declared.kind.Kind.{Kind}
use Rattle.trace_lines.specs.declared.kind.Kind.TheVariants as kind
use Rattle.trace_lines.specs.Fields.{is_among, is_hex, is_sized, index_in, number_in, replica_in, wide_in}

abbrev pub part_words : List (List ℕ)
part_words = codes "nothing" ∷ codes "data" ∷ codes "pin" ∷ codes "tries" ∷ []

abbrev pub cause_words : List (List ℕ)
cause_words =
    codes "word" ∷ codes "fields" ∷ codes "nobegin" ∷ codes "secondbegin" ∷ codes "number" ∷ codes "range" ∷ codes "hex"
    ∷ codes "toomany" ∷ codes "double" ∷ codes "toofew" ∷ []

abbrev pub quantity_words : List (List ℕ)
quantity_words = codes "events" ∷ codes "messages" ∷ codes "answers" ∷ codes "replicas" ∷ codes "states" ∷ codes "clients" ∷ []

-- whether a text is a field of this kind
abbrev pub fits_field : Kind → List ℕ → Bool
fits_field kind.Replica text = is_some (replica_in text)
fits_field kind.Leader text = is_some (number_in 0 MAX_ID text)
fits_field kind.Index text = is_some (index_in text)
fits_field kind.Wide text = is_some (wide_in text)
fits_field kind.Small text = is_some (number_in 0 max_u32 text)
fits_field kind.Bit text = is_some (number_in 0 1 text)
fits_field kind.Hash text = is_sized 32 text
fits_field kind.Client text = is_sized 16 text
fits_field kind.Hex text = is_hex text
fits_field kind.Part text = is_among text part_words
fits_field kind.Cause text = is_among text cause_words
fits_field kind.Quantity text = is_among text quantity_words

-- whether these are fields of these kinds, one each
abbrev pub fits : List Kind → Line → Bool
fits [] [] = true
fits (k ∷ kinds) (text ∷ fields) = fits_field k text && fits kinds fields
fits kinds fields = false

-- what may follow a word
abbrev pub Rows : Type 0
Rows = List (List ℕ × List Kind)

abbrev pub fits_some : Option (List Kind) → Line → Bool
fits_some (Some kinds) fields = fits kinds fields
fits_some None fields = false

-- a word, and fields of the kinds that follow it
abbrev pub fits_row : Rows → Line → Bool
fits_row rows [] = false
fits_row rows (word ∷ fields) = fits_some (meaning word rows) fields

-- fields of some kinds before those of others
abbrev pub message_rows : Rows
message_rows =
    (codes "askvote", kind.Index ∷ kind.Index ∷ kind.Index ∷ [])
    ∷ (codes "vote", kind.Index ∷ kind.Bit ∷ [])
    ∷ (codes "append", kind.Index ∷ kind.Index ∷ kind.Wide ∷ kind.Index ∷ kind.Index ∷ [])
    ∷ (codes "accepted", kind.Index ∷ kind.Index ∷ kind.Index ∷ [])
    ∷ (codes "rejected", kind.Index ∷ kind.Index ∷ kind.Index ∷ [])
    ∷ (codes "part", kind.Index ∷ kind.Index ∷ kind.Wide ∷ kind.Wide ∷ kind.Small ∷ [])
    ∷ (codes "parttaken", kind.Index ∷ kind.Index ∷ kind.Wide ∷ [])
    ∷ []

abbrev pub report_rows : Rows
report_rows =
    (codes "stored", [])
    ∷ (codes "recovered", kind.Hex ∷ kind.Small ∷ [])
    ∷ (codes "wrongpin", kind.Small ∷ [])
    ∷ (codes "missing", [])
    ∷ (codes "deleted", [])
    ∷ (codes "exposeerror", [])
    ∷ (codes "full", kind.Small ∷ [])
    ∷ (codes "undecided", kind.Wide ∷ [])
    ∷ []

-- the answers that are no outcome
abbrev pub answer_rows : Rows
answer_rows =
    (codes "notleader", kind.Leader ∷ [])
    ∷ (codes "busy", kind.Wide ∷ [])
    ∷ (codes "undecided", kind.Index ∷ kind.Hash ∷ kind.Hash ∷ [])
    ∷ (codes "malformed", kind.Wide ∷ [])
    ∷ (codes "invalid", kind.Part ∷ kind.Wide ∷ [])
    ∷ (codes "halted", kind.Index ∷ [])
    ∷ []

-- the refusals of a replica, and of the group
abbrev pub refusal_rows : Rows
refusal_rows =
    (codes "notleader", kind.Wide ∷ [])
    ∷ (codes "changepending", kind.Wide ∷ kind.Wide ∷ [])
    ∷ (codes "alreadyvoter", kind.Wide ∷ [])
    ∷ (codes "notvoter", kind.Wide ∷ [])
    ∷ (codes "toofew", kind.Wide ∷ [])
    ∷ (codes "toomany", kind.Wide ∷ [])
    ∷ (codes "notcaughtup", kind.Wide ∷ kind.Wide ∷ [])
    ∷ (codes "nolink", kind.Wide ∷ [])
    ∷ (codes "logfull", kind.Wide ∷ [])
    ∷ (codes "nostate", kind.Wide ∷ [])
    ∷ (codes "notforme", kind.Wide ∷ [])
    ∷ (codes "badpeer", kind.Wide ∷ [])
    ∷ (codes "samemargin", kind.Wide ∷ [])
    ∷ (codes "nomessage", kind.Wide ∷ [])
    ∷ (codes "lost", kind.Wide ∷ [])
    ∷ (codes "notrunning", kind.Wide ∷ [])
    ∷ (codes "alreadystarted", kind.Wide ∷ [])
    ∷ (codes "clientbusy", [])
    ∷ (codes "size", kind.Part ∷ kind.Wide ∷ [])
    ∷ (codes "numbersout", kind.Wide ∷ [])
    ∷ (codes "nothing", [])
    ∷ (codes "noanswer", kind.Wide ∷ [])
    ∷ (codes "notyours", kind.Wide ∷ [])
    ∷ []

abbrev pub stop_rows : Rows
stop_rows =
    (codes "schedule", kind.Wide ∷ kind.Cause ∷ kind.Wide ∷ [])
    ∷ (codes "limit", kind.Quantity ∷ [])
    ∷ (codes "frame", [])
    ∷ []
