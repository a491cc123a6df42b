-- What is read of a line's fields is what its form says, and each form in range is read.
use Rattle.std.proofs.Common.{◌≡◌, ℕ, ◌&&◌, Bool, true, false, Some, List, [], ◌∷◌, refl, sym, ap, subst, ◌∙◌, arith}
use Rattle.std.specs.Prelude.{IsTrue, bytes_eq, codes, decimal, if◌then◌else◌, nat_le}
use Rattle.std.specs.List.{list_all}
use Rattle.std.proofs.lemmas.Bool.{and_from, and_parts, le-leb, leb-true}
use Rattle.std.proofs.lemmas.Option.{none-some, same_Some}
use Rattle.values.specs.declared.entry.Body.{Body}
use Rattle.values.specs.declared.entry.Body.TheVariants.{Noop, Ask, Members as MembersBody}
use Rattle.values.specs.declared.ids.ClientId.{ClientId}
use Rattle.values.specs.declared.limits.TheConstants.{TOP}
use Rattle.values.specs.declared.message.Answer.{Answer}
use Rattle.values.specs.declared.message.Answer.TheVariants as answer
use Rattle.values.specs.declared.message.Reply.{Reply}
use Rattle.values.specs.declared.message.Reply.TheVariants as reply
use Rattle.client_msgs.specs.Strict.{is_canonical}
use Rattle.schedule_model.specs.Lines.{Line, answer_fields, body_fields, bound_word, reply_fields}
use Rattle.schedule_model.specs.Reading.{max_u32, max_u64}
use Rattle.schedule_model.specs.Records.{meaning}
use Rattle.trace_model.specs.TraceLines.{Form, EventForm, LeadForm, MembersForm, HaltForm, TakenForm, CommitForm, AnswerForm, SentForm, SavedForm, ClientForm, LogForm, RollbacksForm, EndForm, InRange, IsBody, TraceLine, EventLine, Commit, Outcome, Members, Refused, LogEnd, Rollbacks, End, Stopped, Other, answer_said, form_fields, is_answer, is_byte, is_client_id, is_index, is_members, is_message, is_replica, is_reply, is_report, is_u32, is_u64, said_by}
use Rattle.trace_lines.specs.declared.kind.Kind.TheVariants as kind
use Rattle.trace_lines.specs.declared.word.Head.{Head}
use Rattle.trace_lines.specs.declared.word.Head.TheVariants as head
use Rattle.trace_lines.specs.declared.word.Content.{Content}
use Rattle.trace_lines.specs.declared.word.Content.TheVariants as content
use Rattle.trace_lines.specs.declared.word.Outcome.{Outcome as Came}
use Rattle.trace_lines.specs.declared.word.Outcome.TheVariants as came
use Rattle.trace_lines.specs.Fields.{◌>>=◌, client_in, hex_in, if_holds, index_in, number_in, replica_in, wide_in}
use Rattle.trace_lines.specs.Kinds.{fits, fits_field, fits_row, answer_rows, message_rows, refusal_rows, report_rows, stop_rows}
use Rattle.trace_lines.specs.Lines as lines
use Rattle.trace_lines.specs.Lines.{body_in, came_in, commit_in, conf_in, content_in, content_words, event_in, fields_in, head_words, log_in, members_in, outcome_in, outcome_words, record_in, reply_in, rest_in, rollbacks_in, bound_words, told_if, told_in}
use Rattle.trace_lines.proofs.Clients.{client_found}
use Rattle.trace_lines.proofs.Hexes.{hex_found}
use Rattle.trace_lines.proofs.FieldKinds.{field_found, found_all}
use Rattle.trace_lines.proofs.Members.{conf_found}
use Rattle.trace_lines.proofs.Numbers.{number_found, number_only}
use Rattle.trace_lines.proofs.Records.{record_found}
use Rattle.trace_lines.proofs.Requests.{canonical_found}
use Rattle.trace_lines.proofs.Responses.{response_found}
use Rattle.trace_lines.proofs.TableRows.{answer_found, message_found, refusal_found, report_found, stop_found}
use Rattle.trace_lines.proofs.Steps.{Each, bound, chosen, held, meant_of, same_bytes}

-- the fields are those of a form that says this
pub record SaidOf (fields : Line) (what : TraceLine) : Type 0 where
  pub form : Form
  pub printed : fields ≡ form_fields form
  pub in_range : InRange form
  pub says : said_by form ≡ what

pub two : {x y : List ℕ} {xs ys : Line} → x ≡ y → xs ≡ ys → (x ∷ xs) ≡ (y ∷ ys)
two {x} {y} {xs} {ys} a b = ap (λ z. z ∷ xs) a ∙ ap (λ zs. y ∷ zs) b

-- ---- numbers and ids
wide_is : (text : List ℕ) (n : ℕ) → wide_in text ≡ Some n → (text ≡ decimal n) × IsTrue (is_u64 n)
wide_is text n is = let p = number_found text 0 max_u64 n (omega arith) is in (p.same, le-leb n max_u64 p.to)

index_is : (text : List ℕ) (n : ℕ) → index_in text ≡ Some n → (text ≡ decimal n) × IsTrue (is_index n)
index_is text n is = let p = number_found text 0 TOP n (omega arith) is in (p.same, le-leb n TOP p.to)

small_is : (text : List ℕ) (n : ℕ) → number_in 0 max_u32 text ≡ Some n → (text ≡ decimal n) × IsTrue (is_u32 n)
small_is text n is = let p = number_found text 0 max_u32 n (omega arith) is in (p.same, le-leb n max_u32 p.to)

replica_is : (text : List ℕ) (n : ℕ) → replica_in text ≡ Some n → (text ≡ decimal n) × IsTrue (is_replica n)
replica_is text n is =
    let p = number_found text 1 65535 n (omega arith) is in
    (p.same, and_from (nat_le 1 n) (nat_le n 65535) (le-leb 1 n p.from) (le-leb n 65535 p.to))

pub wide_again : (n : ℕ) → IsTrue (is_u64 n) → wide_in (decimal n) ≡ Some n
wide_again n h = number_only n 0 max_u64 (omega arith) (leb-true n max_u64 h) (omega arith)

pub index_again : (n : ℕ) → IsTrue (is_index n) → index_in (decimal n) ≡ Some n
index_again n h = number_only n 0 TOP (omega arith) (leb-true n TOP h) (omega arith)

pub small_again : (n : ℕ) → IsTrue (is_u32 n) → number_in 0 max_u32 (decimal n) ≡ Some n
small_again n h = number_only n 0 max_u32 (omega arith) (leb-true n max_u32 h) (omega arith)

pub replica_again : (n : ℕ) → IsTrue (is_replica n) → replica_in (decimal n) ≡ Some n
replica_again n h = let p = and_parts (nat_le 1 n) (nat_le n 65535) h in number_only n 1 65535 (leb-true 1 n p.0) (leb-true n 65535 p.1) (omega arith)

-- ---- what is read is said
abbrev Rest : List ℕ → Head → Type 0
Rest word h = (fields : Line) (what : TraceLine) → rest_in h fields ≡ Some what → SaidOf (word ∷ fields) what

event_found : Rest (codes "event") head.Event
event_found [] what is = absurd (none-some what is)
event_found (number ∷ fields) what is =
    let n = bound (wide_in number) (λ n. record_in fields >>= λ e. Some (EventLine n e)) what is in
    let e = bound (record_in fields) (λ e. Some (EventLine n.value e)) what n.rest in
    let number_is = wide_is number n.value n.first in
    let record_is = record_found fields e.value e.first in
    record { form = EventForm n.value e.value; printed = ap (λ fs. codes "event" ∷ fs) (two number_is.0 record_is.0); in_range = (number_is.1, record_is.1); says = same_Some (EventLine n.value e.value) what e.rest }

sent_found : Rest (codes "sent") head.Sent
sent_found [] what is = absurd (none-some what is)
sent_found (a ∷ []) what is = absurd (none-some what is)
sent_found (a ∷ b ∷ []) what is = absurd (none-some what is)
sent_found (number ∷ from ∷ to ∷ message) what is =
    let h = held (lines.is_sent (number ∷ from ∷ to ∷ message)) Other what is in
    let p = and_parts (fits_field kind.Wide number) (fits_field kind.Replica from && (fits_field kind.Replica to && fits_row message_rows message)) h.0 in
    let q = and_parts (fits_field kind.Replica from) (fits_field kind.Replica to && fits_row message_rows message) p.1 in
    let r = and_parts (fits_field kind.Replica to) (fits_row message_rows message) q.1 in
    let n = field_found kind.Wide number p.0 in
    let f = field_found kind.Replica from q.0 in
    let t = field_found kind.Replica to r.0 in
    let m = message_found message r.1 in
    record {
      form = SentForm n.0 f.0 t.0 m.0;
      printed = ap (λ fs. codes "sent" ∷ fs) (two n.1 (two f.1 (two t.1 m.1)));
      in_range = and_from (is_u64 n.0) (is_replica f.0 && (is_replica t.0 && is_message m.0)) n.2 (and_from (is_replica f.0) (is_replica t.0 && is_message m.0) f.2 (and_from (is_replica t.0) (is_message m.0) t.2 m.2));
      says = h.1;
    }

client_line_found : Rest (codes "client") head.Client
client_line_found [] what is = absurd (none-some what is)
client_line_found (client ∷ fields) what is =
    let h = held (lines.is_report (client ∷ fields)) Other what is in
    let p = and_parts (fits_field kind.Client client) (fits_row report_rows fields) h.0 in
    let c = field_found kind.Client client p.0 in
    let r = report_found fields p.1 in
    record { form = ClientForm c.0 r.0; printed = ap (λ fs. codes "client" ∷ fs) (two c.1 r.1); in_range = and_from (is_client_id c.0) (is_report r.0) c.2 r.2; says = h.1 }

lead_found : Rest (codes "lead") head.Lead
lead_found fields what is =
    let h = held (fits (kind.Replica ∷ kind.Index ∷ []) fields) Other what is in
    let v = found_all (kind.Replica ∷ kind.Index ∷ []) fields h.0 in
    record { form = LeadForm v.0.0 v.0.1.0; printed = ap (λ fs. codes "lead" ∷ fs) v.1; in_range = v.2; says = h.1 }

saved_found : Rest (codes "saved") head.Saved
saved_found fields what is =
    let h = held (fits (kind.Replica ∷ kind.Wide ∷ []) fields) Other what is in
    let v = found_all (kind.Replica ∷ kind.Wide ∷ []) fields h.0 in
    record { form = SavedForm v.0.0 v.0.1.0; printed = ap (λ fs. codes "saved" ∷ fs) v.1; in_range = v.2; says = h.1 }

taken_found : Rest (codes "taken") head.Taken
taken_found fields what is =
    let h = held (fits (kind.Replica ∷ kind.Index ∷ kind.Hash ∷ []) fields) Other what is in
    let v = found_all (kind.Replica ∷ kind.Index ∷ kind.Hash ∷ []) fields h.0 in
    record { form = TakenForm v.0.0 (record { index = v.0.1.0; hash = v.0.1.1.0 }); printed = ap (λ fs. codes "taken" ∷ fs) v.1; in_range = v.2; says = h.1 }

halt_found : Rest (codes "halt") head.Halt
halt_found fields what is =
    let h = held (fits (kind.Replica ∷ kind.Index ∷ kind.Hash ∷ kind.Hash ∷ []) fields) Other what is in
    let v = found_all (kind.Replica ∷ kind.Index ∷ kind.Hash ∷ kind.Hash ∷ []) fields h.0 in
    record { form = HaltForm v.0.0 v.0.1.0 v.0.1.1.0 v.0.1.1.1.0; printed = ap (λ fs. codes "halt" ∷ fs) v.1; in_range = v.2; says = h.1 }

end_found : Rest (codes "end") head.End
end_found fields what is =
    let h = held (fits (kind.Wide ∷ kind.Wide ∷ kind.Wide ∷ []) fields) End what is in
    let v = found_all (kind.Wide ∷ kind.Wide ∷ kind.Wide ∷ []) fields h.0 in
    record { form = EndForm v.0.0 v.0.1.0 v.0.1.1.0; printed = ap (λ fs. codes "end" ∷ fs) v.1; in_range = v.2; says = h.1 }

refused_found : Rest (codes "refused") head.Refused
refused_found fields what is =
    let h = held (fits_row refusal_rows fields) Refused what is in
    let r = refusal_found fields h.0 in
    record { form = r.0; printed = r.1; in_range = r.2; says = r.3 ∙ h.1 }

stopped_found : Rest (codes "stopped") head.Stopped
stopped_found fields what is =
    let h = held (fits_row stop_rows fields) Stopped what is in
    let r = stop_found fields h.0 in
    record { form = r.0; printed = r.1; in_range = r.2; says = r.3 ∙ h.1 }

members_found : Rest (codes "members") head.Members
members_found [] what is = absurd (none-some what is)
members_found (a ∷ []) what is = absurd (none-some what is)
members_found (replica ∷ index ∷ conf) what is =
    let t = chosen (fits_field kind.Replica replica && fits_field kind.Index index) (conf_in conf >>= λ c. Some (Members c.0 c.1)) what is in
    let p = and_parts (fits_field kind.Replica replica) (fits_field kind.Index index) t.0 in
    let c = bound (conf_in conf) (λ c. Some (Members c.0 c.1)) what t.1 in
    let r = field_found kind.Replica replica p.0 in
    let i = field_found kind.Index index p.1 in
    let m = conf_found conf c.value.0 c.value.1 c.first in
    record {
      form = MembersForm r.0 i.0 c.value.0 c.value.1;
      printed = ap (λ fs. codes "members" ∷ fs) (two r.1 (two i.1 m.0));
      in_range = and_from (is_replica r.0) (is_index i.0 && is_members c.value.0 c.value.1) r.2 (and_from (is_index i.0) (is_members c.value.0 c.value.1) i.2 m.1);
      says = same_Some (Members c.value.0 c.value.1) what c.rest;
    }

-- ---- commits
abbrev BodyOf : Line → Body → Type 0
BodyOf fields b = (fields ≡ body_fields b) × IsBody b

ask_found : (fields : Line) (b : Body) → lines.ask_in fields ≡ Some b → BodyOf (codes "ask" ∷ fields) b
ask_found [] b is = absurd (none-some b is)
ask_found (x ∷ []) b is = absurd (none-some b is)
ask_found (x ∷ y ∷ []) b is = absurd (none-some b is)
ask_found (x ∷ y ∷ z ∷ w ∷ more) b is = absurd (none-some b is)
ask_found (client ∷ number ∷ request ∷ []) b is =
    let c = bound (client_in client) (λ c. wide_in number >>= λ n. hex_in request >>= λ bytes. if_holds (is_canonical bytes) (Ask c n bytes)) b is in
    let n = bound (wide_in number) (λ n. hex_in request >>= λ bytes. if_holds (is_canonical bytes) (Ask c.value n bytes)) b c.rest in
    let q = bound (hex_in request) (λ bytes. if_holds (is_canonical bytes) (Ask c.value n.value bytes)) b n.rest in
    let h = held (is_canonical q.value) (Ask c.value n.value q.value) b q.rest in
    let client_is = client_found client c.value c.first in
    let number_is = wide_is number n.value n.first in
    let request_is = hex_found request q.value q.first in
    subst (BodyOf (codes "ask" ∷ client ∷ number ∷ request ∷ [])) h.1 (
      ap (λ fs. codes "ask" ∷ fs) (two client_is.0 (two number_is.0 (two request_is.same refl))),
      (and_from (is_client_id c.value) (is_u64 n.value && list_all is_byte q.value) client_is.1 (and_from (is_u64 n.value) (list_all is_byte q.value) number_is.1 request_is.are_bytes), canonical_found q.value h.0),
    )

abbrev ContentRow : List ℕ → Content → Type 0
ContentRow word w = (fields : Line) (b : Body) → content_in w fields ≡ Some b → BodyOf (word ∷ fields) b

noop_found : ContentRow (codes "noop") content.Noop
noop_found [] b is = subst (BodyOf (codes "noop" ∷ [])) (same_Some Noop b is) (refl, tt)
noop_found (x ∷ fields) b is = absurd (none-some b is)

conf_body_found : ContentRow (codes "members") content.Members
conf_body_found fields b is =
    let c = bound (conf_in fields) (λ c. Some (MembersBody c.0 c.1)) b is in
    let m = conf_found fields c.value.0 c.value.1 c.first in
    subst (BodyOf (codes "members" ∷ fields)) (same_Some (MembersBody c.value.0 c.value.1) b c.rest) (ap (λ fs. codes "members" ∷ fs) m.0, m.1)

body_found : (fields : Line) (b : Body) → body_in fields ≡ Some b → BodyOf fields b
body_found [] b is = absurd (none-some b is)
body_found (word ∷ fields) b is =
    let w = bound (meaning word content_words) (λ w. content_in w fields) b is in
    meant_of ContentRow content_words (noop_found, (ask_found, (conf_body_found, tt))) word w.value w.first fields b w.rest

commit_found : Rest (codes "commit") head.Commit
commit_found [] what is = absurd (none-some what is)
commit_found (a ∷ []) what is = absurd (none-some what is)
commit_found (a ∷ b ∷ []) what is = absurd (none-some what is)
commit_found (replica ∷ index ∷ term ∷ body) what is =
    let r = bound (replica_in replica) (λ r. index_in index >>= λ i. index_in term >>= λ t. body_in body >>= λ b. Some (Commit r i (record { term = t; body = b }))) what is in
    let i = bound (index_in index) (λ i. index_in term >>= λ t. body_in body >>= λ b. Some (Commit r.value i (record { term = t; body = b }))) what r.rest in
    let t = bound (index_in term) (λ t. body_in body >>= λ b. Some (Commit r.value i.value (record { term = t; body = b }))) what i.rest in
    let b = bound (body_in body) (λ b. Some (Commit r.value i.value (record { term = t.value; body = b }))) what t.rest in
    let ri = replica_is replica r.value r.first in
    let ii = index_is index i.value i.first in
    let ti = index_is term t.value t.first in
    let bi = body_found body b.value b.first in
    record {
      form = CommitForm r.value i.value (record { term = t.value; body = b.value });
      printed = ap (λ fs. codes "commit" ∷ fs) (two ri.0 (two ii.0 (two {ys = body_fields b.value} ti.0 bi.0)));
      in_range = (and_from (is_replica r.value) (is_index i.value && is_index t.value) ri.1 (and_from (is_index i.value) (is_index t.value) ii.1 ti.1), bi.1);
      says = same_Some (Commit r.value i.value (record { term = t.value; body = b.value })) what b.rest;
    }

-- ---- answers
abbrev ReplyOf : Line → Reply → Type 0
ReplyOf fields r = (fields ≡ reply_fields r) × IsTrue (is_reply r)

abbrev CameRow : List ℕ → Came → Type 0
CameRow word w = (text : List ℕ) (r : Reply) → came_in w text ≡ Some r → ReplyOf (word ∷ text ∷ []) r

done_found : CameRow (codes "done") came.Done
done_found text r is =
    let x = bound (lines.response_in text) (λ x. Some (reply.Applied x)) r is in
    let f = response_found text x.value x.first in
    subst (ReplyOf (codes "done" ∷ text ∷ [])) (same_Some (reply.Applied x.value) r x.rest) (ap (λ t. codes "done" ∷ t ∷ []) f.0, f.1)

stale_found : CameRow (codes "stale") came.Stale
stale_found text r is =
    let x = bound (wide_in text) (λ n. Some (reply.Stale n)) r is in
    let f = wide_is text x.value x.first in
    subst (ReplyOf (codes "stale" ∷ text ∷ [])) (same_Some (reply.Stale x.value) r x.rest) (ap (λ t. codes "stale" ∷ t ∷ []) f.0, f.1)

full_found : CameRow (codes "full") came.Full
full_found text r is =
    let x = bound (number_in 0 max_u32 text) (λ n. Some (reply.TableFull n)) r is in
    let f = small_is text x.value x.first in
    subst (ReplyOf (codes "full" ∷ text ∷ [])) (same_Some (reply.TableFull x.value) r x.rest) (ap (λ t. codes "full" ∷ t ∷ []) f.0, f.1)

reply_found : (fields : Line) (r : Reply) → reply_in fields ≡ Some r → ReplyOf fields r
reply_found [] r is = absurd (none-some r is)
reply_found (x ∷ []) r is = absurd (none-some r is)
reply_found (x ∷ y ∷ z ∷ more) r is = absurd (none-some r is)
reply_found (word ∷ text ∷ []) r is =
    let w = bound (meaning word outcome_words) (λ w. came_in w text) r is in
    meant_of CameRow outcome_words (done_found, (stale_found, (full_found, tt))) word w.value w.first text r w.rest

abbrev ToldOf : ClientId → ℕ → Line → TraceLine → Type 0
ToldOf c n fields what = (a : Answer) × (fields ≡ answer_fields a) × IsTrue (is_answer a) × (answer_said c n a ≡ what)

outcome_found : (c : ClientId) (n : ℕ) (fields : Line) (what : TraceLine) → outcome_in c n fields ≡ Some what → ToldOf c n (codes "outcome" ∷ fields) what
outcome_found c n [] what is = absurd (none-some what is)
outcome_found c n (index ∷ fields) what is =
    let i = bound (index_in index) (λ i. reply_in fields >>= λ r. Some (Outcome c n i r)) what is in
    let r = bound (reply_in fields) (λ r. Some (Outcome c n i.value r)) what i.rest in
    let ii = index_is index i.value i.first in
    let ri = reply_found fields r.value r.first in
    (answer.Outcome i.value r.value, ap (λ fs. codes "outcome" ∷ fs) (two ii.0 ri.0), and_from (is_index i.value) (is_reply r.value) ii.1 ri.1, same_Some (Outcome c n i.value r.value) what r.rest)

told_found : (c : ClientId) (n : ℕ) (fields : Line) (what : TraceLine) → told_in c n fields ≡ Some what → ToldOf c n fields what
told_found c n [] what is = absurd (none-some what is)
told_found c n (word ∷ fields) what is = go (bytes_eq word (codes "outcome")) refl is
  where
    go : (b : Bool) → bytes_eq word (codes "outcome") ≡ b → (if b then outcome_in c n fields else told_if Other (fits_row answer_rows (word ∷ fields))) ≡ Some what → ToldOf c n (word ∷ fields) what
    go true same is = subst (λ w. ToldOf c n (w ∷ fields) what) (sym (same_bytes word (codes "outcome") same)) (outcome_found c n fields what is)
    go false same is =
        let h = held (fits_row answer_rows (word ∷ fields)) Other what is in
        let a = answer_found (word ∷ fields) h.0 in
        (a.0, a.1, a.2, a.3 c n ∙ h.1)

answer_line_found : Rest (codes "answer") head.Answer
answer_line_found [] what is = absurd (none-some what is)
answer_line_found (a ∷ []) what is = absurd (none-some what is)
answer_line_found (a ∷ b ∷ []) what is = absurd (none-some what is)
answer_line_found (a ∷ b ∷ c ∷ []) what is = absurd (none-some what is)
answer_line_found (number ∷ replica ∷ client ∷ asked ∷ fields) what is =
    let t = chosen (fits_field kind.Wide number && fits_field kind.Replica replica) (client_in client >>= λ c. wide_in asked >>= λ n. told_in c n fields) what is in
    let p = and_parts (fits_field kind.Wide number) (fits_field kind.Replica replica) t.0 in
    let c = bound (client_in client) (λ c. wide_in asked >>= λ n. told_in c n fields) what t.1 in
    let n = bound (wide_in asked) (λ n. told_in c.value n fields) what c.rest in
    let k = field_found kind.Wide number p.0 in
    let r = field_found kind.Replica replica p.1 in
    let ci = client_found client c.value c.first in
    let ni = wide_is asked n.value n.first in
    let a = told_found c.value n.value fields what n.rest in
    record {
      form = AnswerForm k.0 r.0 c.value n.value a.0;
      printed = ap (λ fs. codes "answer" ∷ fs) (two k.1 (two r.1 (two ci.0 (two ni.0 a.1))));
      in_range = and_from (is_u64 k.0) (is_replica r.0 && (is_client_id c.value && (is_u64 n.value && is_answer a.0))) k.2
          (and_from (is_replica r.0) (is_client_id c.value && (is_u64 n.value && is_answer a.0)) r.2
          (and_from (is_client_id c.value) (is_u64 n.value && is_answer a.0) ci.1 (and_from (is_u64 n.value) (is_answer a.0) ni.1 a.2)));
      says = a.3;
    }

-- ---- the closing lines
log_found : Rest (codes "log") head.Log
log_found [] what is = absurd (none-some what is)
log_found (x ∷ y ∷ more) what is = absurd (none-some what is)
log_found (text ∷ []) what is =
    let n = bound (wide_in text) (λ n. Some (LogEnd n)) what is in
    let f = wide_is text n.value n.first in
    record { form = LogForm n.value; printed = ap (λ t. codes "log" ∷ t ∷ []) f.0; in_range = f.1; says = same_Some (LogEnd n.value) what n.rest }

abbrev BoundRow : List ℕ → Bool → Type 0
BoundRow word within = SaidOf (codes "rollbacks" ∷ word ∷ []) (Rollbacks within)

rollbacks_found : Rest (codes "rollbacks") head.Rollbacks
rollbacks_found [] what is = absurd (none-some what is)
rollbacks_found (x ∷ y ∷ more) what is = absurd (none-some what is)
rollbacks_found (word ∷ []) what is =
    let w = bound (meaning word bound_words) (λ b. Some (Rollbacks b)) what is in
    subst (SaidOf (codes "rollbacks" ∷ word ∷ [])) (same_Some (Rollbacks w.value) what w.rest)
    (meant_of BoundRow bound_words (within true, (within false, tt)) word w.value w.first)
  where
    within : (b : Bool) → SaidOf (codes "rollbacks" ∷ bound_word b ∷ []) (Rollbacks b)
    within b = record { form = RollbacksForm b; printed = refl; in_range = tt; says = refl }

rest_each : Each Rest head_words
rest_each = (
  event_found,
  (
    sent_found,
    (
      commit_found,
      (
        answer_line_found,
        (
          client_line_found,
          (
            lead_found,
            (
              members_found,
              (
                refused_found,
                (saved_found, (taken_found, (halt_found, (log_found, (rollbacks_found, (end_found, (stopped_found, tt))))))),
              ),
            ),
          ),
        ),
      ),
    ),
  ),
)

pub fields_found : (fields : Line) (what : TraceLine) → fields_in fields ≡ Some what → SaidOf fields what
fields_found [] what is = absurd (none-some what is)
fields_found (word ∷ fields) what is =
    let h = bound (meaning word head_words) (λ h. rest_in h fields) what is in
    meant_of Rest head_words rest_each word h.value h.first fields what h.rest
