-- Lines that say nothing: no form with values in its ranges prints them.
use Rattle.std.proofs.Common.{◌≡◌, ℕ, ◌+◌, ◌-◌, ◌*◌, ◌/◌, ◌%◌, ◌<◌, ◌==◌, ◌&&◌, zero, suc, not, nat_lt, Bool, true, false, List, [], ◌∷◌, ◌++◌, length, drop, refl, sym, ap, subst, ◌∙◌, append-nil, append_assoc, Result, Ok, arith}
use Rattle.std.specs.Prelude.{IsTrue, if◌then◌else◌, slice_index, bytes_eq, codes, cond}
use Rattle.std.specs.List.{AllByRecursion, list_all, join_with_byte}
use Rattle.std.proofs.lemmas.Bool.{and_parts, and_from, leb-true, ltb-true}
use Rattle.hex.specs.Hex.{encode_with, lower_digits}
use Rattle.values.specs.declared.entry.Body.{Body}
use Rattle.values.specs.declared.entry.Body.TheVariants as body
use Rattle.values.specs.declared.message.Answer.{Answer}
use Rattle.values.specs.declared.message.Answer.TheVariants as answer
use Rattle.values.specs.declared.message.Reply.{Reply}
use Rattle.values.specs.declared.message.Reply.TheVariants as reply
use Rattle.values.specs.declared.message.Response.{Response}
use Rattle.values.specs.declared.message.Response.TheVariants as response
use Rattle.client_msgs.specs.Canonical.{canonical_response}
use Rattle.client_msgs.specs.Reading.{response_of}
use Rattle.client_msgs.specs.Sizes.{FitsResponse}
use Rattle.schedule_model.specs.Lines.{Line, hex, body_fields, answer_fields, reply_fields}
use Rattle.schedule_model.specs.Reading.{max_u32}
use Rattle.trace_model.specs.TraceLines.{Form, EventForm, RefusedForm, RefusedByGroup, LeadForm, MembersForm, HaltForm, TakenForm, CommitForm, AnswerForm, SentForm, SavedForm, ClientForm, LogForm, RollbacksForm, EndForm, StoppedAtRecord, StoppedAtLimit, StoppedAtFrame, TraceLine, FieldsArePlain, form_fields, is_plain, is_byte, is_u64, is_index, is_replica, is_client_id, IsBody, is_response, is_reply, is_answer, joined, InRange, Says}
use Rattle.model_rows.specs.Grammar.{wide_answer, odd_commit}
use Rattle.model_rows.proofs.Computing.{computing}

-- ---- a line is cut into its fields
abbrev IsPlain : List ℕ → Type 0
IsPlain field = IsTrue (list_all is_plain field)

abbrev pub cut : List ℕ → List ℕ → Line
cut begun [] = begun ∷ []
cut begun (b ∷ bytes) = if b == 44 then begun ∷ cut [] bytes else cut (begun ++ b ∷ []) bytes

apart_from_comma : (b : ℕ) (field : List ℕ) → IsPlain (b ∷ field) → not (b == 44) ≡ true
apart_from_comma b field h = (and_parts (not (b == 44)) (not (b == 10)) (and_parts (is_plain b) (list_all is_plain field) h).0).0

field_cut : (field begun rest : List ℕ) → IsPlain field → cut begun (field ++ 44 ∷ rest) ≡ (begun ++ field) ∷ cut [] rest
field_cut [] begun rest h = ap (λ (f : List ℕ). f ∷ cut [] rest) (sym (append-nil begun))
field_cut (b ∷ field) begun rest h =
    by_test (b == 44) (apart_from_comma b field h)
    (field_cut field (begun ++ b ∷ []) rest (and_parts (is_plain b) (list_all is_plain field) h).1 ∙ ap (λ (f : List ℕ). f ∷ cut [] rest) (append_assoc begun (b ∷ []) field))
  where
    by_test : (t : Bool) → not t ≡ true → cut (begun ++ b ∷ []) (field ++ 44 ∷ rest) ≡ (begun ++ (b ∷ field)) ∷ cut [] rest
        → (if t then begun ∷ cut [] (field ++ 44 ∷ rest) else cut (begun ++ b ∷ []) (field ++ 44 ∷ rest)) ≡ (begun ++ (b ∷ field)) ∷ cut [] rest
    by_test true apart later = absurd (let e : false ≡ true = apart in cc)
    by_test false apart later = later

last_cut : (field begun : List ℕ) → IsPlain field → cut begun field ≡ (begun ++ field) ∷ []
last_cut [] begun h = ap (λ (f : List ℕ). f ∷ []) (sym (append-nil begun))
last_cut (b ∷ field) begun h =
    by_test (b == 44) (apart_from_comma b field h)
    (last_cut field (begun ++ b ∷ []) (and_parts (is_plain b) (list_all is_plain field) h).1 ∙ ap (λ (f : List ℕ). f ∷ []) (append_assoc begun (b ∷ []) field))
  where
    by_test : (t : Bool) → not t ≡ true → cut (begun ++ b ∷ []) field ≡ (begun ++ (b ∷ field)) ∷ [] → (if t then begun ∷ cut [] field else cut (begun ++ b ∷ []) field) ≡ (begun ++ (b ∷ field)) ∷ []
    by_test true apart later = absurd (let e : false ≡ true = apart in cc)
    by_test false apart later = later

line_cut : (field : List ℕ) (fields : Line) → AllByRecursion IsPlain (field ∷ fields) → cut [] (join_with_byte 44 (field ∷ fields)) ≡ field ∷ fields
line_cut field [] h = last_cut field [] h.0
line_cut field (next ∷ fields) h =
    field_cut field [] (join_with_byte 44 (next ∷ fields)) h.0 ∙ ap (λ (fs : Line). field ∷ fs) (line_cut next fields h.1)

-- the fields of a form that prints this text
abbrev pub starts : List ℕ → Bool
starts [] = false
starts (b ∷ bytes) = true

pub fields_of : (fields : Line) → AllByRecursion IsPlain fields → (text : List ℕ) → starts text ≡ true → text ≡ join_with_byte 44 fields → fields ≡ cut [] text
fields_of [] h text some is = absurd (let e : false ≡ true = sym (ap starts is) ∙ some in cc)
fields_of (field ∷ fields) h text some is = sym (ap (cut []) is ∙ line_cut field fields h)

-- two lines whose first fields differ
abbrev pub first : Line → List ℕ
first [] = []
first (field ∷ fields) = field

pub differ : (xs ys : Line) → bytes_eq (first xs) (first ys) ≡ false → bytes_eq (first ys) (first ys) ≡ true → xs ≡ ys → ⊥
differ xs ys other same is = let e : true ≡ false = sym same ∙ subst (λ (l : Line). bytes_eq (first l) (first ys) ≡ false) is other in absurd (let z : true ≡ false = e in cc)

-- ---- hexadecimal
abbrev is_digit : ℕ → Bool
is_digit c = not (c == 0)

abbrev digit_value : ℕ → ℕ
digit_value c = if nat_lt c 58 then c - 48 else c - 87

abbrev bytes_from : List ℕ → List ℕ
bytes_from [] = []
bytes_from (a ∷ []) = []
bytes_from (a ∷ (b ∷ rest)) = (16 * digit_value a + digit_value b) ∷ bytes_from rest

digit_back : (k : ℕ) → is_digit (slice_index lower_digits k) ≡ true → digit_value (slice_index lower_digits k) ≡ k
digit_back zero h = refl
digit_back (suc zero) h = refl
digit_back (suc (suc zero)) h = refl
digit_back (suc (suc (suc zero))) h = refl
digit_back (suc (suc (suc (suc zero)))) h = refl
digit_back (suc (suc (suc (suc (suc zero))))) h = refl
digit_back (suc (suc (suc (suc (suc (suc zero)))))) h = refl
digit_back (suc (suc (suc (suc (suc (suc (suc zero))))))) h = refl
digit_back (suc (suc (suc (suc (suc (suc (suc (suc zero)))))))) h = refl
digit_back (suc (suc (suc (suc (suc (suc (suc (suc (suc zero))))))))) h = refl
digit_back (suc (suc (suc (suc (suc (suc (suc (suc (suc (suc zero)))))))))) h = refl
digit_back (suc (suc (suc (suc (suc (suc (suc (suc (suc (suc (suc zero))))))))))) h = refl
digit_back (suc (suc (suc (suc (suc (suc (suc (suc (suc (suc (suc (suc zero)))))))))))) h = refl
digit_back (suc (suc (suc (suc (suc (suc (suc (suc (suc (suc (suc (suc (suc zero))))))))))))) h = refl
digit_back (suc (suc (suc (suc (suc (suc (suc (suc (suc (suc (suc (suc (suc (suc zero)))))))))))))) h = refl
digit_back (suc (suc (suc (suc (suc (suc (suc (suc (suc (suc (suc (suc (suc (suc (suc zero))))))))))))))) h = refl
digit_back (suc (suc (suc (suc (suc (suc (suc (suc (suc (suc (suc (suc (suc (suc (suc (suc k)))))))))))))))) h = absurd (let e : false ≡ true = h in cc)

digit_there : (k : ℕ) → k < 16 → is_digit (slice_index lower_digits k) ≡ true
digit_there zero h = refl
digit_there (suc zero) h = refl
digit_there (suc (suc zero)) h = refl
digit_there (suc (suc (suc zero))) h = refl
digit_there (suc (suc (suc (suc zero)))) h = refl
digit_there (suc (suc (suc (suc (suc zero))))) h = refl
digit_there (suc (suc (suc (suc (suc (suc zero)))))) h = refl
digit_there (suc (suc (suc (suc (suc (suc (suc zero))))))) h = refl
digit_there (suc (suc (suc (suc (suc (suc (suc (suc zero)))))))) h = refl
digit_there (suc (suc (suc (suc (suc (suc (suc (suc (suc zero))))))))) h = refl
digit_there (suc (suc (suc (suc (suc (suc (suc (suc (suc (suc zero)))))))))) h = refl
digit_there (suc (suc (suc (suc (suc (suc (suc (suc (suc (suc (suc zero))))))))))) h = refl
digit_there (suc (suc (suc (suc (suc (suc (suc (suc (suc (suc (suc (suc zero)))))))))))) h = refl
digit_there (suc (suc (suc (suc (suc (suc (suc (suc (suc (suc (suc (suc (suc zero))))))))))))) h = refl
digit_there (suc (suc (suc (suc (suc (suc (suc (suc (suc (suc (suc (suc (suc (suc zero)))))))))))))) h = refl
digit_there (suc (suc (suc (suc (suc (suc (suc (suc (suc (suc (suc (suc (suc (suc (suc zero))))))))))))))) h = refl
digit_there (suc (suc (suc (suc (suc (suc (suc (suc (suc (suc (suc (suc (suc (suc (suc (suc k)))))))))))))))) h = absurd (omega (arith, h))

-- where each digit is one, the bytes are those that are read of it
bytes_back : (bytes : List ℕ) → list_all is_digit (hex bytes) ≡ true → bytes_from (hex bytes) ≡ bytes
unfolding encode_with
bytes_back [] h = refl
bytes_back (b ∷ bytes) h =
    let high = and_parts (is_digit (slice_index lower_digits (b / 16))) (is_digit (slice_index lower_digits (b % 16)) && list_all is_digit (hex bytes)) h in
    let low = and_parts (is_digit (slice_index lower_digits (b % 16))) (list_all is_digit (hex bytes)) high.1 in
    let value : 16 * digit_value (slice_index lower_digits (b / 16)) + digit_value (slice_index lower_digits (b % 16)) ≡ b = omega (arith, digit_back (b / 16) high.0, digit_back (b % 16) low.0) in
    ap (λ (c : ℕ). c ∷ bytes_from (hex bytes)) value ∙ ap (λ (bs : List ℕ). b ∷ bs) (bytes_back bytes low.1)

-- bytes below 256 have two digits each
digits_there : (bytes : List ℕ) → IsTrue (list_all is_byte bytes) → list_all is_digit (hex bytes) ≡ true
unfolding encode_with
digits_there [] h = refl
digits_there (b ∷ bytes) h =
    let p = and_parts (is_byte b) (list_all is_byte bytes) h in
    let low = ltb-true b 256 p.0 in
    and_from (is_digit (slice_index lower_digits (b / 16))) _ (digit_there (b / 16) (omega (arith, low)))
    (and_from (is_digit (slice_index lower_digits (b % 16))) (list_all is_digit (hex bytes)) (digit_there (b % 16) (omega arith)) (digits_there bytes p.1))

-- ---- a status of 2^32 + 1: a reader keeps 32 bits of it, and the status 1 has other bytes
abbrev ReadAgain : Type 0
ReadAgain = (r : Response) → FitsResponse r → response_of (canonical_response r) ≡ Ok r

abbrev wide_bytes : List ℕ
wide_bytes = 10 ∷ 6 ∷ 8 ∷ 129 ∷ 128 ∷ 128 ∷ 128 ∷ 16 ∷ []

other_head : (xs ys : List ℕ) → (slice_index xs 0 == slice_index ys 0) ≡ false → (slice_index ys 0 == slice_index ys 0) ≡ true → xs ≡ ys → ⊥
other_head xs ys other same is = absurd (let e : true ≡ false = sym same ∙ subst (λ (l : List ℕ). (slice_index l 0 == slice_index ys 0) ≡ false) is other in cc)

wide_status : ReadAgain → (r : Response) → IsTrue (is_response r) → canonical_response r ≡ wide_bytes → ⊥
unfolding computing
wide_status again (response.Backup status) fine is =
    let low = leb-true status max_u32 fine in
    let wide : response_of wide_bytes ≡ Ok (response.Backup status) = subst (λ (bytes : List ℕ). response_of bytes ≡ Ok (response.Backup status)) is (again (response.Backup status) (omega (arith, low))) in
    let same : status ≡ 1 = sym (ap status_of wide) in
    let one : canonical_response (response.Backup 1) ≡ wide_bytes = subst (λ s. canonical_response (response.Backup s) ≡ wide_bytes) same is in
    absurd (omega (arith, ap length one))
  where
    status_of : {E : Type 0} → Result Response E → ℕ
    status_of (Ok (response.Backup s)) = s
    status_of other = 0
wide_status again (response.Restore status secret tries) fine is = other_head (canonical_response (response.Restore status secret tries)) wide_bytes refl refl is
wide_status again response.Delete fine is = other_head (canonical_response response.Delete) wide_bytes refl refl is
wide_status again (response.Expose status) fine is = other_head (canonical_response (response.Expose status)) wide_bytes refl refl is

abbrev second : Line → List ℕ
second fields = first (drop 1 fields)

wide_reply : ReadAgain → (r : Reply) → IsTrue (is_reply r) → reply_fields r ≡ codes "done" ∷ codes "0a06088180808010" ∷ [] → ⊥
unfolding computing
wide_reply again (reply.Applied r) fine is =
    let digits : hex (canonical_response r) ≡ codes "0a06088180808010" = ap second is in
    let back = bytes_back (canonical_response r) (ap (list_all is_digit) digits) in
    wide_status again r fine (sym back ∙ ap bytes_from digits)
wide_reply again (reply.Stale last) fine is = differ _ _ refl refl is
wide_reply again (reply.TableFull rows) fine is = differ _ _ refl refl is

wide_told : ReadAgain → (a : Answer) → IsTrue (is_answer a) → answer_fields a ≡ codes "outcome" ∷ codes "2" ∷ codes "done" ∷ codes "0a06088180808010" ∷ [] → ⊥
unfolding computing
wide_told again (answer.Outcome index r) fine is = wide_reply again r (and_parts (is_index index) (is_reply r) fine).1 (ap (drop 2) is)
wide_told again (answer.NotLeader id) fine is = differ _ _ refl refl is
wide_told again (answer.Busy waiting) fine is = differ _ _ refl refl is
wide_told again (answer.Undecided at kept offered) fine is = differ _ _ refl refl is
wide_told again (answer.Malformed offset) fine is = differ _ _ refl refl is
wide_told again (answer.Invalid part n) fine is = differ _ _ refl refl is
wide_told again (answer.Halted index) fine is = differ _ _ refl refl is

no_wide_form : ReadAgain → (f : Form) → form_fields f ≡ cut [] wide_answer → InRange f → ⊥
unfolding computing
no_wide_form again (AnswerForm number r client asked what) is fine =
    let a = and_parts (is_u64 number) (is_replica r && (is_client_id client && (is_u64 asked && is_answer what))) fine in
    let b = and_parts (is_replica r) (is_client_id client && (is_u64 asked && is_answer what)) a.1 in
    let c = and_parts (is_client_id client) (is_u64 asked && is_answer what) b.1 in
    wide_told again what (and_parts (is_u64 asked) (is_answer what) c.1).1 (ap (drop 5) is)
no_wide_form again (EventForm number what) is fine = differ _ _ refl refl is
no_wide_form again (RefusedForm r) is fine = differ _ _ refl refl is
no_wide_form again (RefusedByGroup r) is fine = differ _ _ refl refl is
no_wide_form again (LeadForm r term) is fine = differ _ _ refl refl is
no_wide_form again (MembersForm r index margin voters) is fine = differ _ _ refl refl is
no_wide_form again (HaltForm r index kept offered) is fine = differ _ _ refl refl is
no_wide_form again (TakenForm r at) is fine = differ _ _ refl refl is
no_wide_form again (CommitForm r index entry) is fine = differ _ _ refl refl is
no_wide_form again (SentForm number from to message) is fine = differ _ _ refl refl is
no_wide_form again (SavedForm r k) is fine = differ _ _ refl refl is
no_wide_form again (ClientForm client what) is fine = differ _ _ refl refl is
no_wide_form again (LogForm n) is fine = differ _ _ refl refl is
no_wide_form again (RollbacksForm within) is fine = differ _ _ refl refl is
no_wide_form again (EndForm events messages answers) is fine = differ _ _ refl refl is
no_wide_form again (StoppedAtRecord number f) is fine = differ _ _ refl refl is
no_wide_form again (StoppedAtLimit which) is fine = differ _ _ refl refl is
no_wide_form again StoppedAtFrame is fine = differ _ _ refl refl is

pub wide_says_nothing : ReadAgain → FieldsArePlain → (what : TraceLine) → Says wide_answer what → ⊥
unfolding computing
wide_says_nothing again plain what said =
    no_wide_form again said.0 (fields_of (form_fields said.0) (plain said.0) wide_answer refl said.1.printed) said.1.in_range

-- ---- a digit that is none
odd_body : (b : Body) → IsBody b → (digits : List ℕ) → list_all is_digit digits ≡ false → body_fields b ≡ codes "ask" ∷ codes "00000000000000000000000000000001" ∷ codes "1" ∷ digits ∷ [] → ⊥
unfolding computing
odd_body body.Noop fine digits odd is = differ _ _ refl refl is
odd_body (body.Ask client number request) fine digits odd is =
    let same : hex request ≡ digits = ap (λ (l : Line). first (drop 3 l)) is in
    let p = and_parts (is_client_id client) (is_u64 number && list_all is_byte request) fine.0 in
    let all = digits_there request (and_parts (is_u64 number) (list_all is_byte request) p.1).1 in
    absurd (let e : true ≡ false = sym all ∙ (ap (list_all is_digit) same ∙ odd) in cc)
odd_body (body.Members margin voters) fine digits odd is = differ _ _ refl refl is

no_odd_form : (f : Form) → form_fields f ≡ cut [] odd_commit → InRange f → ⊥
unfolding computing
no_odd_form (CommitForm r index entry) is fine = odd_body entry.body fine.1 (first (drop 7 (cut [] odd_commit))) refl (ap (drop 4) is)
no_odd_form (AnswerForm number r client asked what) is fine = differ _ _ refl refl is
no_odd_form (EventForm number what) is fine = differ _ _ refl refl is
no_odd_form (RefusedForm r) is fine = differ _ _ refl refl is
no_odd_form (RefusedByGroup r) is fine = differ _ _ refl refl is
no_odd_form (LeadForm r term) is fine = differ _ _ refl refl is
no_odd_form (MembersForm r index margin voters) is fine = differ _ _ refl refl is
no_odd_form (HaltForm r index kept offered) is fine = differ _ _ refl refl is
no_odd_form (TakenForm r at) is fine = differ _ _ refl refl is
no_odd_form (SentForm number from to message) is fine = differ _ _ refl refl is
no_odd_form (SavedForm r k) is fine = differ _ _ refl refl is
no_odd_form (ClientForm client what) is fine = differ _ _ refl refl is
no_odd_form (LogForm n) is fine = differ _ _ refl refl is
no_odd_form (RollbacksForm within) is fine = differ _ _ refl refl is
no_odd_form (EndForm events messages answers) is fine = differ _ _ refl refl is
no_odd_form (StoppedAtRecord number f) is fine = differ _ _ refl refl is
no_odd_form (StoppedAtLimit which) is fine = differ _ _ refl refl is
no_odd_form StoppedAtFrame is fine = differ _ _ refl refl is

pub odd_says_nothing : FieldsArePlain → (what : TraceLine) → Says odd_commit what → ⊥
unfolding computing
odd_says_nothing plain what said = no_odd_form said.0 (fields_of (form_fields said.0) (plain said.0) odd_commit refl said.1.printed) said.1.in_range
