-- What a line says, read from its fields.
use Rattle.std.specs.Prelude.{ℕ, ◌==◌, ◌&&◌, not, nat_le, if◌then◌else◌, Bool, true, false, List, [], ◌∷◌, ◌++◌, length, Option, Some, None, Result, Ok, Err, bytes_eq, codes}
use Rattle.std.specs.Result.{result_ok}
use Rattle.std.specs.Cmp.Lexicographic.{pointwise}
use Rattle.std.specs.Prelude.{nat_eq}
use Rattle.std.specs.List.{slice_split}
use Rattle.group_quorum.specs.declared.TheConstants.{MAX_MARGIN}
use Rattle.values.specs.declared.entry.Body.{Body}
use Rattle.values.specs.declared.entry.Body.TheVariants.{Noop, Ask, Members as MembersBody}
use Rattle.values.specs.declared.event.Event.{Event}
use Rattle.values.specs.declared.event.Event.TheVariants as event
use Rattle.values.specs.declared.ids.ClientId.{ClientId}
use Rattle.values.specs.declared.message.Reply.{Reply}
use Rattle.values.specs.declared.message.Reply.TheVariants as reply
use Rattle.values.specs.declared.message.Response.{Response}
use Rattle.client_msgs.specs.Canonical.{canonical_response}
use Rattle.client_msgs.specs.Reading.{response_of}
use Rattle.client_msgs.specs.Strict.{is_canonical}
use Rattle.schedule_model.specs.Lines.{Line}
use Rattle.schedule_model.specs.Reading.{RecordFault, field, max_u32}
use Rattle.schedule_model.specs.Records.{event_of, meaning}
use Rattle.trace_model.specs.TraceLines.{TraceLine, EventLine, Commit, Outcome, Members, Refused, LogEnd, Rollbacks, End, Stopped, Other, is_members, max_line}
use Rattle.trace_lines.specs.declared.kind.Kind.TheVariants as kind
use Rattle.trace_lines.specs.declared.word.Head.{Head}
use Rattle.trace_lines.specs.declared.word.Head.TheVariants as head
use Rattle.trace_lines.specs.declared.word.Content.{Content}
use Rattle.trace_lines.specs.declared.word.Content.TheVariants as content
use Rattle.trace_lines.specs.declared.word.Outcome.{Outcome as Came}
use Rattle.trace_lines.specs.declared.word.Outcome.TheVariants as came
use Rattle.trace_lines.specs.Fields.{◌>>=◌, if_holds, number_in, replica_in, index_in, wide_in, hex_in, client_in, are_lower}
use Rattle.trace_lines.specs.Kinds.{fits, fits_row, fits_field, message_rows, report_rows, answer_rows, refusal_rows, stop_rows}

-- lines of which nothing but their form is told
abbrev pub told_if : TraceLine → Bool → Option TraceLine
told_if what b = if_holds b what

-- `sent,K,FROM,TO,` and a message
abbrev pub is_sent : Line → Bool
is_sent (number ∷ from ∷ to ∷ message) = fits_field kind.Wide number && (fits_field kind.Replica from && (fits_field kind.Replica to && fits_row message_rows message))
is_sent fields = false

-- `client,C,` and a report
abbrev pub is_report : Line → Bool
is_report (client ∷ report) = fits_field kind.Client client && fits_row report_rows report
is_report fields = false

-- ---- events
abbrev pub event_told : Result (Option Event) RecordFault → Option Event
event_told (Ok (Some (event.Settle n))) = None
event_told (Ok e) = e
event_told (Err f) = None

abbrev pub begins : Line → Bool
begins fields = bytes_eq (field fields 1) (codes "begin")

abbrev pub record_in : Line → Option Event
record_in fields = if are_lower fields then event_told (event_of false (not (begins fields)) fields) else None

abbrev pub event_in : Line → Option TraceLine
event_in [] = None
event_in (number ∷ fields) = wide_in number >>= λ n. record_in fields >>= λ e. Some (EventLine n e)

-- ---- members
-- these ids, and then those of the texts
abbrev pub ids_onto : List ℕ → Line → Option (List ℕ)
ids_onto ids [] = Some ids
ids_onto ids (text ∷ texts) = replica_in text >>= λ id. ids_onto (ids ++ id ∷ []) texts

abbrev pub if_members : ℕ → List ℕ → Option (ℕ × List ℕ)
if_members margin ids = if_holds (is_members margin ids) (margin, ids)

abbrev pub conf_in : Line → Option (ℕ × List ℕ)
conf_in [] = None
conf_in (text ∷ texts) = number_in 0 MAX_MARGIN text >>= λ margin. ids_onto [] texts >>= λ ids. if_members margin ids

abbrev pub members_in : Line → Option TraceLine
members_in (replica ∷ index ∷ conf) =
    if fits_field kind.Replica replica && fits_field kind.Index index then (conf_in conf >>= λ c. Some (Members c.0 c.1)) else None
members_in fields = None

-- ---- commits
abbrev pub ask_in : Line → Option Body
ask_in (client ∷ number ∷ request ∷ []) =
    client_in client >>= λ c. wide_in number >>= λ n. hex_in request >>= λ bytes. if_holds (is_canonical bytes) (Ask c n bytes)
ask_in fields = None

abbrev pub nothing_in : Line → Option Body
nothing_in [] = Some Noop
nothing_in fields = None

abbrev pub content_words : List (List ℕ × Content)
content_words = (codes "noop", content.Noop) ∷ (codes "ask", content.Ask) ∷ (codes "members", content.Members) ∷ []

abbrev pub content_in : Content → Line → Option Body
content_in content.Noop fields = nothing_in fields
content_in content.Ask fields = ask_in fields
content_in content.Members fields = conf_in fields >>= λ c. Some (MembersBody c.0 c.1)

abbrev pub body_in : Line → Option Body
body_in [] = None
body_in (word ∷ fields) = meaning word content_words >>= λ w. content_in w fields

abbrev pub commit_in : Line → Option TraceLine
commit_in (replica ∷ index ∷ term ∷ body) =
    replica_in replica >>= λ r. index_in index >>= λ i. index_in term >>= λ t. body_in body >>= λ b. Some (Commit r i (record { term = t; body = b }))
commit_in fields = None

-- ---- answers
abbrev pub is_written_as : List ℕ → Response → Bool
is_written_as bytes response = pointwise nat_eq (canonical_response response) bytes

abbrev pub response_in : List ℕ → Option Response
response_in text = hex_in text >>= λ bytes. result_ok (response_of bytes) >>= λ r. if_holds (is_written_as bytes r) r

abbrev pub outcome_words : List (List ℕ × Came)
outcome_words = (codes "done", came.Done) ∷ (codes "stale", came.Stale) ∷ (codes "full", came.Full) ∷ []

abbrev pub came_in : Came → List ℕ → Option Reply
came_in came.Done text = response_in text >>= λ r. Some (reply.Applied r)
came_in came.Stale text = wide_in text >>= λ n. Some (reply.Stale n)
came_in came.Full text = number_in 0 max_u32 text >>= λ n. Some (reply.TableFull n)

abbrev pub reply_in : Line → Option Reply
reply_in (word ∷ text ∷ []) = meaning word outcome_words >>= λ w. came_in w text
reply_in fields = None

abbrev pub outcome_in : ClientId → ℕ → Line → Option TraceLine
outcome_in client number [] = None
outcome_in client number (index ∷ fields) = index_in index >>= λ i. reply_in fields >>= λ r. Some (Outcome client number i r)

abbrev pub told_in : ClientId → ℕ → Line → Option TraceLine
told_in client number [] = None
told_in client number (word ∷ fields) =
    if bytes_eq word (codes "outcome") then outcome_in client number fields else told_if Other (fits_row answer_rows (word ∷ fields))

abbrev pub answer_in : Line → Option TraceLine
answer_in (number ∷ replica ∷ client ∷ asked ∷ what) =
    if fits_field kind.Wide number && fits_field kind.Replica replica then (client_in client >>= λ c. wide_in asked >>= λ n. told_in c n what) else None
answer_in fields = None

-- ---- the closing lines
abbrev pub log_in : Line → Option TraceLine
log_in (length ∷ []) = wide_in length >>= λ n. Some (LogEnd n)
log_in fields = None

abbrev pub bound_words : List (List ℕ × Bool)
bound_words = (codes "within", true) ∷ (codes "exceeded", false) ∷ []

abbrev pub rollbacks_in : Line → Option TraceLine
rollbacks_in (word ∷ []) = meaning word bound_words >>= λ within. Some (Rollbacks within)
rollbacks_in fields = None

-- ---- a line by its first word
abbrev pub head_words : List (List ℕ × Head)
head_words =
    (codes "event", head.Event)
    ∷ (codes "sent", head.Sent)
    ∷ (codes "commit", head.Commit)
    ∷ (codes "answer", head.Answer)
    ∷ (codes "client", head.Client)
    ∷ (codes "lead", head.Lead)
    ∷ (codes "members", head.Members)
    ∷ (codes "refused", head.Refused)
    ∷ (codes "saved", head.Saved)
    ∷ (codes "taken", head.Taken)
    ∷ (codes "halt", head.Halt)
    ∷ (codes "log", head.Log)
    ∷ (codes "rollbacks", head.Rollbacks)
    ∷ (codes "end", head.End)
    ∷ (codes "stopped", head.Stopped)
    ∷ []

abbrev pub rest_in : Head → Line → Option TraceLine
rest_in head.Event fields = event_in fields
rest_in head.Sent fields = told_if Other (is_sent fields)
rest_in head.Commit fields = commit_in fields
rest_in head.Answer fields = answer_in fields
rest_in head.Client fields = told_if Other (is_report fields)
rest_in head.Lead fields = told_if Other (fits (kind.Replica ∷ kind.Index ∷ []) fields)
rest_in head.Members fields = members_in fields
rest_in head.Refused fields = told_if Refused (fits_row refusal_rows fields)
rest_in head.Saved fields = told_if Other (fits (kind.Replica ∷ kind.Wide ∷ []) fields)
rest_in head.Taken fields = told_if Other (fits (kind.Replica ∷ kind.Index ∷ kind.Hash ∷ []) fields)
rest_in head.Halt fields = told_if Other (fits (kind.Replica ∷ kind.Index ∷ kind.Hash ∷ kind.Hash ∷ []) fields)
rest_in head.Log fields = log_in fields
rest_in head.Rollbacks fields = rollbacks_in fields
rest_in head.End fields = told_if End (fits (kind.Wide ∷ kind.Wide ∷ kind.Wide ∷ []) fields)
rest_in head.Stopped fields = told_if Stopped (fits_row stop_rows fields)

abbrev pub fields_in : Line → Option TraceLine
fields_in [] = None
fields_in (word ∷ fields) = meaning word head_words >>= λ h. rest_in h fields

-- the fields of a text
abbrev pub cut : List ℕ → Line
cut text = slice_split (λ b. b == 44) text

-- what a line says, without its line feed
abbrev pub line_in : List ℕ → Option TraceLine
line_in text = if nat_le (length text) max_line then fields_in (cut text) else None
