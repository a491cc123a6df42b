-- Each form with its values in range is read as what it says.
use Rattle.std.proofs.Common.{◌≡◌, ℕ, ◌≤◌, ◌&&◌, Bool, true, false, Some, None, List, [], ◌∷◌, length, map, refl, ap, ◌∙◌, arith}
use Rattle.std.specs.Prelude.{IsTrue, codes, decimal}
use Rattle.std.specs.List.{list_all}
use Rattle.std.proofs.lemmas.Bool.{and_from, and_parts, cond-true}
use Rattle.std.proofs.lemmas.List.{length-append}
use Rattle.values.specs.declared.entry.Body.{Body}
use Rattle.values.specs.declared.entry.Body.TheVariants.{Noop, Ask, Members as MembersBody}
use Rattle.values.specs.declared.ids.ClientId.{ClientId}
use Rattle.values.specs.declared.message.Answer.{Answer}
use Rattle.values.specs.declared.message.Answer.TheVariants as answer
use Rattle.values.specs.declared.message.Reply.{Reply}
use Rattle.values.specs.declared.message.Reply.TheVariants as reply
use Rattle.client_msgs.specs.Canonical.{canonical_response}
use Rattle.client_msgs.specs.Strict.{is_canonical}
use Rattle.schedule_model.specs.Lines.{Line, answer_fields, body_fields, hex, part_word, record_fields, reply_fields, message_fields, report_fields}
use Rattle.trace_model.specs.TraceLines.{Form, EventForm, RefusedForm, RefusedByGroup, LeadForm, MembersForm, HaltForm, TakenForm, CommitForm, AnswerForm, SentForm, SavedForm, ClientForm, LogForm, RollbacksForm, EndForm, StoppedAtRecord, StoppedAtLimit, StoppedAtFrame, InRange, IsBody, TraceLine, EventLine, Commit, Outcome, Members, Refused, LogEnd, End, Stopped, Other, answer_said, form_fields, is_answer, is_byte, is_client_id, is_index, is_members, is_message, is_replica, is_reply, is_report, is_u64, joined, max_line, said_by}
use Rattle.trace_lines.specs.declared.kind.Kind.TheVariants as kind
use Rattle.trace_lines.specs.Fields.{◌>>=◌, client_in, hex_in, if_holds, index_in, wide_in}
use Rattle.trace_lines.specs.Kinds.{fits_field, fits_row, message_rows}
use Rattle.trace_lines.specs.Lines as lines
use Rattle.trace_lines.specs.Lines.{body_in, conf_in, event_in, fields_in, outcome_in, record_in, reply_in, told_in}
use Rattle.trace_lines.proofs.Clients.{client_only}
use Rattle.trace_lines.proofs.Forms.{index_again, replica_again, small_again, wide_again}
use Rattle.trace_lines.proofs.Hexes.{hex_only, hex_twice}
use Rattle.trace_lines.proofs.FieldKinds.{field_only, only_all}
use Rattle.trace_lines.proofs.Members.{conf_only}
use Rattle.trace_lines.proofs.Records.{record_only}
use Rattle.trace_lines.proofs.Requests.{RequestsAgain, canonical_only}
use Rattle.trace_lines.proofs.Responses.{ResponsesAgain, response_only}
use Rattle.trace_lines.proofs.TableRows.{answer_only, group_only, limit_stop_only, message_only, record_stop_only, refusal_only, report_only}

told : (b : Bool) (what : TraceLine) → IsTrue b → if_holds b what ≡ Some what
told b what h = cond-true b (Some what) None h

both : {a b : Bool} → IsTrue a → IsTrue b → IsTrue (a && b)
both {a} {b} x y = and_from a b x y

sent_only : (number from to : ℕ) (message : List (List ℕ)) → IsTrue (is_u64 number) → IsTrue (is_replica from) → IsTrue (is_replica to) → IsTrue (fits_row message_rows message)
    → IsTrue (lines.is_sent (decimal number ∷ decimal from ∷ decimal to ∷ message))
sent_only number from to message a b c d = both (field_only kind.Wide number a) (both (field_only kind.Replica from b) (both (field_only kind.Replica to c) d))

-- how long the last field of a line may be
tail_short : (x y : List ℕ) (ys : Line) → length (joined (y ∷ ys)) ≤ length (joined (x ∷ y ∷ ys))
tail_short x y ys = omega (arith, length-append x (44 ∷ joined (y ∷ ys)))

module _ (requests : RequestsAgain) (responses : ResponsesAgain) where
  ask_only : (c : ClientId) (n : ℕ) (request : List ℕ) → IsBody (Ask c n request) → lines.ask_in (hex c.0 ∷ decimal n ∷ hex request ∷ []) ≡ Some (Ask c n request)
  ask_only c n request h =
      let p = and_parts (is_client_id c) (is_u64 n && list_all is_byte request) h.0 in
      let q = and_parts (is_u64 n) (list_all is_byte request) p.1 in
      ap (λ o. o >>= λ c. wide_in (decimal n) >>= λ n. hex_in (hex request) >>= λ bytes. if_holds (is_canonical bytes) (Ask c n bytes)) (client_only c p.0)
      ∙ ap (λ o. o >>= λ n. hex_in (hex request) >>= λ bytes. if_holds (is_canonical bytes) (Ask c n bytes)) (wide_again n q.0)
      ∙ ap (λ o. o >>= λ bytes. if_holds (is_canonical bytes) (Ask c n bytes)) (hex_only request q.1)
      ∙ cond-true (is_canonical request) (Some (Ask c n request)) None (canonical_only requests request h.1)

  body_only : (b : Body) → IsBody b → body_in (body_fields b) ≡ Some b
  body_only Noop h = refl
  body_only (Ask c n request) h = ask_only c n request h
  body_only (MembersBody margin voters) h = ap (λ o. o >>= λ c. Some (MembersBody c.0 c.1)) (conf_only margin voters h)

  commit_only : (r i t : ℕ) (b : Body) → IsTrue (is_replica r && (is_index i && is_index t)) → IsBody b
      → lines.commit_in (decimal r ∷ decimal i ∷ decimal t ∷ body_fields b) ≡ Some (Commit r i (record { term = t; body = b }))
  commit_only r i t b h body =
      let p = and_parts (is_replica r) (is_index i && is_index t) h in
      let q = and_parts (is_index i) (is_index t) p.1 in
      ap (λ o. o >>= λ r. index_in (decimal i) >>= λ i. index_in (decimal t) >>= λ t. body_in (body_fields b) >>= λ b. Some (Commit r i (record { term = t; body = b }))) (replica_again r p.0)
      ∙ ap (λ o. o >>= λ i. index_in (decimal t) >>= λ t. body_in (body_fields b) >>= λ b. Some (Commit r i (record { term = t; body = b }))) (index_again i q.0)
      ∙ ap (λ o. o >>= λ t. body_in (body_fields b) >>= λ b. Some (Commit r i (record { term = t; body = b }))) (index_again t q.1)
      ∙ ap (λ o. o >>= λ b. Some (Commit r i (record { term = t; body = b }))) (body_only b body)

  reply_only : (r : Reply) → IsTrue (is_reply r) → length (joined (reply_fields r)) ≤ max_line → reply_in (reply_fields r) ≡ Some r
  reply_only (reply.Applied x) h short =
      ap (λ o. o >>= λ r. Some (reply.Applied r)) (response_only responses x h (omega (arith, short, hex_twice (canonical_response x), tail_short (codes "done") (hex (canonical_response x)) [])))
  reply_only (reply.Stale last) h short = ap (λ o. o >>= λ n. Some (reply.Stale n)) (wide_again last h)
  reply_only (reply.TableFull rows) h short = ap (λ o. o >>= λ n. Some (reply.TableFull n)) (small_again rows h)

  outcome_only : (c : ClientId) (n index : ℕ) (what : Reply) → IsTrue (is_index index && is_reply what) → length (joined (reply_fields what)) ≤ max_line
      → outcome_in c n (decimal index ∷ reply_fields what) ≡ Some (Outcome c n index what)
  outcome_only c n index what h short =
      let p = and_parts (is_index index) (is_reply what) h in
      ap (λ o. o >>= λ i. reply_in (reply_fields what) >>= λ r. Some (Outcome c n i r)) (index_again index p.0)
      ∙ ap (λ o. o >>= λ r. Some (Outcome c n index r)) (reply_only what p.1 short)

  -- the fields of a reply are the last ones of its line
  reply_short : (x : List ℕ) (what : Reply) → length (joined (reply_fields what)) ≤ length (joined (x ∷ reply_fields what))
  reply_short x (reply.Applied r) = tail_short x (codes "done") (hex (canonical_response r) ∷ [])
  reply_short x (reply.Stale last) = tail_short x (codes "stale") (decimal last ∷ [])
  reply_short x (reply.TableFull rows) = tail_short x (codes "full") (decimal rows ∷ [])

  told_only : (c : ClientId) (n : ℕ) (a : Answer) → IsTrue (is_answer a) → length (joined (answer_fields a)) ≤ max_line → told_in c n (answer_fields a) ≡ Some (answer_said c n a)
  told_only c n (answer.Outcome index what) h short =
      outcome_only c n index what h
      (omega (arith, short, tail_short (codes "outcome") (decimal index) (reply_fields what), reply_short (decimal index) what))
  told_only c n (answer.NotLeader id) h short = told _ Other (answer_only (answer.NotLeader id) h)
  told_only c n (answer.Busy waiting) h short = told _ Other (answer_only (answer.Busy waiting) h)
  told_only c n (answer.Undecided at kept offered) h short = told _ Other (answer_only (answer.Undecided at kept offered) h)
  told_only c n (answer.Malformed offset) h short = told _ Other (answer_only (answer.Malformed offset) h)
  told_only c n (answer.Invalid part k) h short = told _ Other (answer_only (answer.Invalid part k) h)
  told_only c n (answer.Halted index) h short = told _ Other (answer_only (answer.Halted index) h)

  answer_short : (x : List ℕ) (a : Answer) → length (joined (answer_fields a)) ≤ length (joined (x ∷ answer_fields a))
  answer_short x (answer.Outcome index what) = tail_short x (codes "outcome") (decimal index ∷ reply_fields what)
  answer_short x (answer.NotLeader id) = tail_short x (codes "notleader") (decimal id ∷ [])
  answer_short x (answer.Busy waiting) = tail_short x (codes "busy") (decimal waiting ∷ [])
  answer_short x (answer.Undecided at kept offered) = tail_short x (codes "undecided") (decimal at ∷ hex kept.0 ∷ hex offered.0 ∷ [])
  answer_short x (answer.Malformed offset) = tail_short x (codes "malformed") (decimal offset ∷ [])
  answer_short x (answer.Invalid part k) = tail_short x (codes "invalid") (part_word part ∷ decimal k ∷ [])
  answer_short x (answer.Halted index) = tail_short x (codes "halted") (decimal index ∷ [])

  answer_line_only : (number r : ℕ) (c : ClientId) (n : ℕ) (a : Answer) → InRange (AnswerForm number r c n a) → length (joined (form_fields (AnswerForm number r c n a))) ≤ max_line
      → lines.answer_in (decimal number ∷ decimal r ∷ hex c.0 ∷ decimal n ∷ answer_fields a) ≡ Some (answer_said c n a)
  answer_line_only number r c n a h short =
      let p = and_parts (is_u64 number) (is_replica r && (is_client_id c && (is_u64 n && is_answer a))) h in
      let q = and_parts (is_replica r) (is_client_id c && (is_u64 n && is_answer a)) p.1 in
      let s = and_parts (is_client_id c) (is_u64 n && is_answer a) q.1 in
      let t = and_parts (is_u64 n) (is_answer a) s.1 in
      let left : length (joined (answer_fields a)) ≤ max_line =
      omega (
        arith,
        short,
        answer_short (decimal n) a,
        tail_short (hex c.0) (decimal n) (answer_fields a),
        tail_short (decimal r) (hex c.0) (decimal n ∷ answer_fields a),
        tail_short (decimal number) (decimal r) (hex c.0 ∷ decimal n ∷ answer_fields a),
        tail_short (codes "answer") (decimal number) (decimal r ∷ hex c.0 ∷ decimal n ∷ answer_fields a),
      ) in
      cond-true (fits_field kind.Wide (decimal number) && fits_field kind.Replica (decimal r)) (client_in (hex c.0) >>= λ c. wide_in (decimal n) >>= λ n. told_in c n (answer_fields a)) None
      (both (field_only kind.Wide number p.0) (field_only kind.Replica r q.0))
      ∙ ap (λ o. o >>= λ c. wide_in (decimal n) >>= λ n. told_in c n (answer_fields a)) (client_only c s.0)
      ∙ ap (λ o. o >>= λ n. told_in c n (answer_fields a)) (wide_again n t.0)
      ∙ told_only c n a t.1 left

  members_only : (r i margin : ℕ) (voters : List ℕ) → IsTrue (is_replica r && (is_index i && is_members margin voters))
      → lines.members_in (decimal r ∷ decimal i ∷ decimal margin ∷ map decimal voters) ≡ Some (Members margin voters)
  members_only r i margin voters h =
      let p = and_parts (is_replica r) (is_index i && is_members margin voters) h in
      let q = and_parts (is_index i) (is_members margin voters) p.1 in
      cond-true (fits_field kind.Replica (decimal r) && fits_field kind.Index (decimal i)) (conf_in (decimal margin ∷ map decimal voters) >>= λ c. Some (Members c.0 c.1)) None
      (both (field_only kind.Replica r p.0) (field_only kind.Index i q.0))
      ∙ ap (λ o. o >>= λ c. Some (Members c.0 c.1)) (conf_only margin voters q.1)

  pub fields_only : (f : Form) → InRange f → length (joined (form_fields f)) ≤ max_line → fields_in (form_fields f) ≡ Some (said_by f)
  fields_only (EventForm n e) h short =
      ap (λ o. o >>= λ n. record_in (record_fields e) >>= λ e. Some (EventLine n e)) (wide_again n h.0)
      ∙ ap (λ o. o >>= λ e. Some (EventLine n e)) (record_only e h.1)
  fields_only (RefusedForm r) h short = told _ Refused (refusal_only r h)
  fields_only (RefusedByGroup r) h short = told _ Refused (group_only r h)
  fields_only (LeadForm r term) h short = told _ Other (only_all (kind.Replica ∷ kind.Index ∷ []) (r, (term, tt)) h)
  fields_only (MembersForm r index margin voters) h short = members_only r index margin voters h
  fields_only (HaltForm r index kept offered) h short = told _ Other (only_all (kind.Replica ∷ kind.Index ∷ kind.Hash ∷ kind.Hash ∷ []) (r, (index, (kept, (offered, tt)))) h)
  fields_only (TakenForm r at) h short = told _ Other (only_all (kind.Replica ∷ kind.Index ∷ kind.Hash ∷ []) (r, (at.index, (at.hash, tt))) h)
  fields_only (CommitForm r index entry) h short = commit_only r index entry.term entry.body h.0 h.1
  fields_only (AnswerForm number r c n a) h short = answer_line_only number r c n a h short
  fields_only (SentForm number from to message) h short =
      let p = and_parts (is_u64 number) (is_replica from && (is_replica to && is_message message)) h in
      let q = and_parts (is_replica from) (is_replica to && is_message message) p.1 in
      let s = and_parts (is_replica to) (is_message message) q.1 in
      told _ Other (sent_only number from to (message_fields message) p.0 q.0 s.0 (message_only message s.1))
  fields_only (SavedForm r k) h short = told _ Other (only_all (kind.Replica ∷ kind.Wide ∷ []) (r, (k, tt)) h)
  fields_only (ClientForm client what) h short =
      let p = and_parts (is_client_id client) (is_report what) h in
      told (lines.is_report (hex client.0 ∷ report_fields what)) Other (both (field_only kind.Client client p.0) (report_only what p.1))
  fields_only (LogForm n) h short = ap (λ o. o >>= λ n. Some (LogEnd n)) (wide_again n h)
  fields_only (RollbacksForm true) h short = refl
  fields_only (RollbacksForm false) h short = refl
  fields_only (EndForm a b c) h short = told _ End (only_all (kind.Wide ∷ kind.Wide ∷ kind.Wide ∷ []) (a, (b, (c, tt))) h)
  fields_only (StoppedAtRecord n f) h short = told _ Stopped (record_stop_only n f h)
  fields_only (StoppedAtLimit which) h short = told _ Stopped (limit_stop_only which)
  fields_only StoppedAtFrame h short = refl
