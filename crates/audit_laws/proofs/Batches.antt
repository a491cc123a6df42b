-- The lines of a batch, by their forms, and that an audit passes them.
use Rattle.std.proofs.Common.{◌≡◌, ℕ, ◌+◌, ◌≤◌, ◌==◌, ◌&&◌, zero, suc, max, Option, Some, None, Result, Ok, List, [], ◌∷◌, ◌++◌, length, take, drop, map, refl, sym, ap, subst, ◌∙◌, append_assoc, length-drop, arith}
use Rattle.std.specs.Prelude.{IsTrue}
use Rattle.std.specs.List.{AllByRecursion, enumerate_from}
use Rattle.std.proofs.lemmas.Bool.{and_from, eq-eqb}
use Rattle.std.proofs.lemmas.List.{length-take, take-append-drop}
use Rattle.values.specs.declared.batch.Batch.{Batch}
use Rattle.values.specs.declared.entry.Body.TheVariants.{Ask}
use Rattle.values.specs.declared.entry.Hash.{Hash}
use Rattle.values.specs.declared.entry.LogEntry.{LogEntry}
use Rattle.values.specs.declared.ids.ClientId.{ClientId}
use Rattle.values.specs.declared.message.Answer.{Answer}
use Rattle.values.specs.declared.message.Answer.TheVariants.{Outcome, NotLeader, Busy, Undecided, Malformed, Invalid, Halted}
use Rattle.values.specs.declared.message.Reply.{Reply}
use Rattle.values.specs.declared.peer.PeerMsg.{PeerMsg}
use Rattle.group_quorum.specs.Conf.{Conf}
use Rattle.client_msgs.specs.Canonical.{canonical_request}
use Rattle.schedule_model.specs.Lines.{Line, batch_lines, item_line, lead_line, members_line, halt_line, taken_line, commit_line, answer_line, sent_line, saved_line, refused_line, refusal_fields}
use Rattle.replica_model.specs.Path.{Path, entry_at}
use Rattle.replica_model.specs.Folds.{reply_of}
use Rattle.replica_model.specs.Raise.{numbered_from}
use Rattle.group_model.specs.Group.{Setup, is_client}
use Rattle.group_model.specs.Run.{Recorded}
use Rattle.group_model.specs.Log.{IsFrontOf, committed_path, state_of}
use Rattle.trace_model.specs.TraceLines.{Form, form_fields, LeadForm, MembersForm, HaltForm, TakenForm, CommitForm, AnswerForm, SentForm, SavedForm, RefusedForm}
use Rattle.trace_model.specs.Audit.{Audit, Why, WrongOutcome, is_asked, is_replied}
use Rattle.outcome_laws.proofs.Places.{entry_of_front, reply_of_front, entry_fits}
use Rattle.outcome_laws.proofs.Recorded.{AnswerKept, OutcomeKept}
use Rattle.audit_laws.proofs.Passing.{then_on, passes, passes_on, at, confs_after, members_pass, commits_pass, required, reply_same, bytes_same}
use Rattle.headline_laws.proofs.Texts.{map_append}

-- ---- forms of lines
abbrev pub item_forms : {A : Type 0} → (A → Form) → Option A → List Form
item_forms form None = []
item_forms form (Some x) = form x ∷ []

abbrev pub member_form : ℕ → ℕ × ℕ × List ℕ → Form
member_form r m = MembersForm r m.0 m.1 m.2

abbrev pub halt_form : ℕ → ℕ × Hash × Hash → Form
halt_form r h = HaltForm r h.0 h.1 h.2

abbrev pub commit_form : ℕ → ℕ × LogEntry → Form
commit_form r c = CommitForm r c.0 c.1

abbrev pub answer_form : ℕ → ℕ × (ClientId × ℕ × Answer) → Form
answer_form r a = AnswerForm a.0 r a.1.0 a.1.1 a.1.2

abbrev pub sent_form : ℕ → ℕ × (ℕ × PeerMsg) → Form
sent_form r m = SentForm m.0 r m.1.0 m.1.1

abbrev pub batch_forms : ℕ → ℕ → ℕ → Batch → List Form
batch_forms r first_message first_answer b =
    item_forms (LeadForm r) b.lead
    ++ (map (member_form r) b.members
    ++ (item_forms (halt_form r) b.halt
    ++ (item_forms (TakenForm r) b.taken
    ++ (map (commit_form r) b.commits
    ++ (map (answer_form r) (enumerate_from first_answer b.answers)
    ++ (map (sent_form r) (enumerate_from first_message b.sent)
    ++ (item_forms (SavedForm r) b.saved
    ++ item_forms RefusedForm b.refused)))))))

lines_map : {A : Type 0} (line : A → Line) (form : A → Form) → ((x : A) → form_fields (form x) ≡ line x) → (xs : List A) → map line xs ≡ map form_fields (map form xs)
lines_map line form is [] = refl
lines_map line form is (x ∷ xs) = ap (λ l. l ∷ map line xs) (sym (is x)) ∙ ap (λ ls. form_fields (form x) ∷ ls) (lines_map line form is xs)

lines_item : {A : Type 0} (line : A → Line) (form : A → Form) → ((x : A) → form_fields (form x) ≡ line x) → (o : Option A) → item_line line o ≡ map form_fields (item_forms form o)
lines_item line form is None = refl
lines_item line form is (Some x) = ap (λ l. l ∷ []) (sym (is x))

lines_cat : (xs ys : List Line) (fs gs : List Form) → xs ≡ map form_fields fs → ys ≡ map form_fields gs → xs ++ ys ≡ map form_fields (fs ++ gs)
lines_cat xs ys fs gs p q = ap (λ x. x ++ ys) p ∙ (ap (λ y. map form_fields fs ++ y) q ∙ sym (map_append form_fields fs gs))

pub batch_is : (r first_message first_answer : ℕ) (b : Batch) → batch_lines r first_message first_answer b ≡ map form_fields (batch_forms r first_message first_answer b)
batch_is r first_message first_answer b =
    lines_cat _ _ _ _ (lines_item (lead_line r) (LeadForm r) (λ x. refl) b.lead)
    (lines_cat _ _ _ _ (lines_map (members_line r) (member_form r) (λ x. refl) b.members)
    (lines_cat _ _ _ _ (lines_item (halt_line r) (halt_form r) (λ x. refl) b.halt)
    (lines_cat _ _ _ _ (lines_item (taken_line r) (TakenForm r) (λ x. refl) b.taken)
    (lines_cat _ _ _ _ (lines_map (commit_line r) (commit_form r) (λ x. refl) b.commits)
    (lines_cat _ _ _ _ (lines_map (answer_line r) (answer_form r) (λ x. refl) (enumerate_from first_answer b.answers))
    (lines_cat _ _ _ _ (lines_map (sent_line r) (sent_form r) (λ x. refl) (enumerate_from first_message b.sent))
    (lines_cat _ _ _ _ (lines_item (saved_line r) (SavedForm r) (λ x. refl) b.saved)
    (lines_item (λ refusal. refused_line (refusal_fields refusal)) RefusedForm (λ x. refl) b.refused))))))))

-- ---- what an audit makes of them
front_taken : (p w : Path) (m : ℕ) → IsFrontOf p w → length p ≤ m → IsFrontOf p (take m w)
front_taken p w m pre le = subst (λ (w : Path). IsFrontOf p (take m w)) pre.1 (of_sum p m le)
  where
    of_sum : (p : Path) (m : ℕ) → length p ≤ m → IsFrontOf p (take m (p ++ pre.0))
    of_sum [] m le = (take m pre.0, refl)
    of_sum (x ∷ p) zero le = absurd (omega arith)
    of_sum (x ∷ p) (suc m) le = let rest = of_sum p m (omega arith) in (rest.0, ap (λ (q : Path). x ∷ q) rest.1)

-- what a call has told, against a log and the greatest index that was told before
pub record TellsLog (limit seen : ℕ) (log : Path) (r : Recorded) (calls : List Recorded) : Type 0 where
  pub front : IsFrontOf (committed_path (state_of r)) log
  pub start : ℕ
  pub known : start ≤ seen
  pub upto : start ≤ length (committed_path (state_of r))
  pub commits : r.call.batch.commits ≡ numbered_from (start + 1) (drop start (committed_path (state_of r)))
  pub answers : AllByRecursion (AnswerKept limit r calls) r.call.batch.answers

module _ (s : Setup) (rolled : List ℕ) (log : Path) (r : Recorded) (calls : List Recorded) (front : IsFrontOf (committed_path (state_of r)) log) (confs : List Conf) (m : ℕ) (known : length (committed_path (state_of r)) ≤ m) where
  abbrev here : Audit
  here = at s (take m log) confs rolled

  outcome_passes : (v k : ℕ) (client : ClientId) (number index : ℕ) (reply : Reply) → OutcomeKept s.limit r calls client number index reply → passes here (answer_form v (k, (client, number, Outcome index reply)) ∷ []) ≡ Ok here
  outcome_passes v k client number index reply kept =
      let e : LogEntry = record { term = kept.term; body = Ask client number (canonical_request kept.request) } in
      let pre = front_taken (committed_path (state_of r)) log m front known in
      let asked : entry_at (take m log) index ≡ Some e = entry_of_front (committed_path (state_of r)) (take m log) index e pre kept.asked in
      let replied : reply_of s.limit (take m log) index ≡ Some reply = sym (reply_of_front s.limit (committed_path (state_of r)) (take m log) index pre (entry_fits (committed_path (state_of r)) index e kept.asked)) ∙ kept.replied in
      let is_ask : IsTrue (is_asked client number (entry_at (take m log) index)) = ap (is_asked client number) asked ∙ and_from (is_client client client) (number == number) (bytes_same client.0) (eq-eqb number number refl) in
      let is_reply : IsTrue (is_replied reply (reply_of s.limit (take m log) index)) = ap (is_replied reply) replied ∙ reply_same reply in
      ap (λ (x : Result Audit Why). then_on x (λ b. Ok b))
      (required (is_asked client number (entry_at (take m log) index) && is_replied reply (reply_of s.limit (take m log) index)) WrongOutcome here (and_from (is_asked client number (entry_at (take m log) index)) (is_replied reply (reply_of s.limit (take m log) index)) is_ask is_reply))

  one_passes : (v k : ℕ) (a : ClientId × ℕ × Answer) → AnswerKept s.limit r calls a → passes here (answer_form v (k, a) ∷ []) ≡ Ok here
  one_passes v k (client, number, Outcome index reply) kept = outcome_passes v k client number index reply kept
  one_passes v k (client, number, NotLeader id) kept = refl
  one_passes v k (client, number, Busy waiting) kept = refl
  one_passes v k (client, number, Undecided at kept offered) fine = refl
  one_passes v k (client, number, Malformed offset) kept = refl
  one_passes v k (client, number, Invalid part n) kept = refl
  one_passes v k (client, number, Halted index) kept = refl

  answers_pass : (v k : ℕ) (answers : List (ClientId × ℕ × Answer)) → AllByRecursion (AnswerKept s.limit r calls) answers → passes here (map (answer_form v) (enumerate_from k answers)) ≡ Ok here
  answers_pass v k [] h = refl
  answers_pass v k (a ∷ answers) h = passes_on (answer_form v (k, a) ∷ []) (map (answer_form v) (enumerate_from (k + 1) answers)) here here here (one_passes v k a h.0) (answers_pass v (k + 1) answers h.1)

module _ (s : Setup) (book : Path) (confs : List Conf) (rolled : List ℕ) where
  items_pass : {A : Type 0} (form : A → Form) → ((x : A) → passes (at s book confs rolled) (form x ∷ []) ≡ Ok (at s book confs rolled)) → (o : Option A) → passes (at s book confs rolled) (item_forms form o) ≡ Ok (at s book confs rolled)
  items_pass form each None = refl
  items_pass form each (Some x) = each x

  sent_pass : (r k : ℕ) (sent : List (ℕ × PeerMsg)) → passes (at s book confs rolled) (map (sent_form r) (enumerate_from k sent)) ≡ Ok (at s book confs rolled)
  sent_pass r k [] = refl
  sent_pass r k (m ∷ sent) = sent_pass r (k + 1) sent

-- the lines of a batch
pub batch_passes : (s : Setup) (rolled : List ℕ) (log : Path) (seen : ℕ) (r : Recorded) (calls : List Recorded) (confs : List Conf) (v first_message first_answer : ℕ)
    → seen ≤ length log → TellsLog s.limit seen log r calls
    → passes (at s (take seen log) confs rolled) (batch_forms v first_message first_answer r.call.batch)
    ≡ Ok (at s (take (max seen (length (committed_path (state_of r)))) log) (confs_after r.call.batch.members confs) rolled)
batch_passes s rolled log seen r calls confs v first_message first_answer fits t =
    let b : Batch = r.call.batch in
    let front : Path = committed_path (state_of r) in
    let confs' : List Conf = confs_after b.members confs in
    let m : ℕ = max seen (length front) in
    let first : Audit = at s (take seen log) confs rolled in
    let told : Audit = at s (take seen log) confs' rolled in
    let last : Audit = at s (take m log) confs' rolled in
    let pre : Path = take t.start front in
    let long : length pre ≡ t.start = omega (arith, length-take t.start front, t.upto) in
    let ends : length pre + length (drop t.start front) ≡ length front = omega (arith, long, length-drop t.start front, t.upto) in
    let whole : pre ++ (drop t.start front ++ t.front.0) ≡ log = sym (append_assoc pre (drop t.start front) t.front.0) ∙ (ap (λ (p : Path). p ++ t.front.0) (take-append-drop t.start front) ∙ t.front.1) in
    let commits : passes told (map (commit_form v) b.commits) ≡ Ok last =
    ap (λ (cs : List (ℕ × LogEntry)). passes told (map (commit_form v) cs)) (t.commits ∙ ap (λ (k : ℕ). numbered_from (k + 1) (drop t.start front)) (sym long))
    ∙ commits_pass s rolled log confs' v (drop t.start front) pre t.front.0 seen whole (omega (arith, long, t.known)) fits
    ∙ ap (λ (n : ℕ). Ok (at s (take (max seen n) log) confs' rolled)) ends in
    passes_on (item_forms (LeadForm v) b.lead) _ first first last (items_pass s (take seen log) confs rolled (LeadForm v) (λ x. refl) b.lead)
    (passes_on (map (member_form v) b.members) _ first told last (members_pass s rolled log (take seen log) v b.members confs)
    (passes_on (item_forms (halt_form v) b.halt) _ told told last (items_pass s (take seen log) confs' rolled (halt_form v) (λ x. refl) b.halt)
    (passes_on (item_forms (TakenForm v) b.taken) _ told told last (items_pass s (take seen log) confs' rolled (TakenForm v) (λ x. refl) b.taken)
    (passes_on (map (commit_form v) b.commits) _ told last last commits
    (passes_on (map (answer_form v) (enumerate_from first_answer b.answers)) _ last last last (answers_pass s rolled log r calls t.front confs' m (omega arith) v first_answer b.answers t.answers)
    (passes_on (map (sent_form v) (enumerate_from first_message b.sent)) _ last last last (sent_pass s (take m log) confs' rolled v first_message b.sent)
    (passes_on (item_forms (SavedForm v) b.saved) _ last last last (items_pass s (take m log) confs' rolled (SavedForm v) (λ x. refl) b.saved)
    (items_pass s (take m log) confs' rolled RefusedForm (λ x. refl) b.refused))))))))
