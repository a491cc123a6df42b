-- Forms that an audit passes, one after another.
use Rattle.std.proofs.Common.{◌≡◌, ℕ, ◌+◌, ◌==◌, ◌&&◌, ◌≤◌, suc, max, Bool, true, false, Some, None, Result, Ok, Err, List, [], ◌∷◌, ◌++◌, length, take, map, refl, sym, ap, subst, ◌∙◌, append_assoc, arith, inl, inr}
use Rattle.std.specs.Prelude.{IsTrue, bytes_eq, slice_get}
use Rattle.std.proofs.lemmas.Bool.{cond-true, and_from, eq-eqb, cases_lt}
use Rattle.std.proofs.lemmas.List.{length-take, length-append}
use Rattle.std.proofs.lemmas.Slice.Eq.{bytes_eq-Decides}
use Rattle.outcome_laws.proofs.Places.{entry_in_front}
use Rattle.group_quorum.specs.Conf.{Conf}
use Rattle.values.specs.declared.entry.Body.{Body}
use Rattle.values.specs.declared.entry.Body.TheVariants as body
use Rattle.values.specs.declared.entry.LogEntry.{LogEntry}
use Rattle.values.specs.declared.message.Reply.{Reply}
use Rattle.values.specs.declared.message.Reply.TheVariants as reply
use Rattle.client_msgs.specs.Canonical.{canonical_response}
use Rattle.replica_model.specs.Path.{Path, entry_at}
use Rattle.replica_model.specs.Raise.{numbered_from}
use Rattle.group_model.specs.Group.{Setup, conf_told}
use Rattle.trace_model.specs.TraceLines.{Form, MembersForm, CommitForm, said_by}
use Rattle.trace_model.specs.Audit.{Audit, Why, Verdict, Accepts, Stage, Playing, Over, audited, verdict, finished, is_over, same_body, same_entry, same_reply, committed, require, answered, is_asked, is_replied, WrongCommit, WrongOutcome}
use Rattle.audit_laws.proofs.Texts.{said}

abbrev pub then_on : Result Audit Why → (Audit → Result Audit Why) → Result Audit Why
then_on (Ok a) next = next a
then_on (Err why) next = Err why

-- the audit after these forms
abbrev pub passes : Audit → List Form → Result Audit Why
passes a [] = Ok a
passes a (f ∷ forms) = then_on (audited a (said_by f)) (λ b. passes b forms)

same_Ok : (a b : Audit) → passes a [] ≡ Ok b → a ≡ b
same_Ok a b is = cc

pub passes_on : (xs ys : List Form) (a b c : Audit) → passes a xs ≡ Ok b → passes b ys ≡ Ok c → passes a (xs ++ ys) ≡ Ok c
passes_on [] ys a b c p q = subst (λ (x : Audit). passes x ys ≡ Ok c) (sym (same_Ok a b p)) q
passes_on (f ∷ xs) ys a b c p q = by_first (λ d p. passes_on xs ys d b c p q) (audited a (said_by f)) p
  where
    by_first : ((d : Audit) → passes d xs ≡ Ok b → passes d (xs ++ ys) ≡ Ok c) → (r : Result Audit Why) → then_on r (λ x. passes x xs) ≡ Ok b → then_on r (λ x. passes x (xs ++ ys)) ≡ Ok c
    by_first rest (Ok d) p = rest d p
    by_first rest (Err why) p = absurd (let e : Err why ≡ Ok b = p in cc)

-- the verdict on what the forms say
pub verdict_of : (forms : List Form) (n : ℕ) (a b : Audit) → passes a forms ≡ Ok b → b.stage ≡ Over → verdict n a (said forms) ≡ Accepts (n + length forms)
verdict_of [] n a b p over =
    let is : a ≡ b = same_Ok a b p in
    cond-true (is_over a.stage) (Accepts n) _ (ap is_over (ap (λ (x : Audit). x.stage) is ∙ over)) ∙ ap Accepts (omega arith)
verdict_of (f ∷ forms) n a b p over = by_first (audited a (said_by f)) (λ d p. verdict_of forms (n + 1) d b p over ∙ ap Accepts (omega arith)) p
  where
    by_first : (r : Result Audit Why) → ((d : Audit) → passes d forms ≡ Ok b → verdict (n + 1) d (said forms) ≡ Accepts (n + length (f ∷ forms))) → then_on r (λ x. passes x forms) ≡ Ok b
        → elim r [ Ok d ↦ verdict (n + 1) d (said forms) | Err why ↦ Rattle.trace_model.specs.Audit.Refuses (n + 1) why ] ≡ Accepts (n + length (f ∷ forms))
    by_first (Ok d) rest p = rest d p
    by_first (Err why) rest p = absurd (let e : Err why ≡ Ok b = p in cc)

-- ---- the same values are the same
pub bytes_same : (xs : List ℕ) → IsTrue (bytes_eq xs xs)
bytes_same xs = (bytes_eq-Decides xs xs).1 refl

body_same : (b : Body) → IsTrue (same_body b b)
body_same body.Noop = refl
body_same (body.Ask c n r) = and_from (bytes_eq c.0 c.0) ((n == n) && bytes_eq r r) (bytes_same c.0) (and_from (n == n) (bytes_eq r r) (eq-eqb n n refl) (bytes_same r))
body_same (body.Members m v) = and_from (m == m) (bytes_eq v v) (eq-eqb m m refl) (bytes_same v)

entry_same : (e : LogEntry) → IsTrue (same_entry e e)
entry_same e = and_from (e.term == e.term) (same_body e.body e.body) (eq-eqb e.term e.term refl) (body_same e.body)

pub reply_same : (r : Reply) → IsTrue (same_reply r r)
reply_same (reply.Applied a) = bytes_same (canonical_response a)
reply_same (reply.Stale a) = eq-eqb a a refl
reply_same (reply.TableFull a) = eq-eqb a a refl

pub required : (test : Bool) (why : Why) (a : Audit) → IsTrue test → require test why a ≡ Ok a
required true why a h = refl
required false why a h = absurd (let e : false ≡ true = h in cc)

-- ---- an audit among the events, with no roll open
abbrev pub at : Setup → Path → List Conf → List ℕ → Audit
at s book confs rolled = record { stage = Playing; setup = Some s; book = book; confs = confs; rolled = rolled; rolling = [] }

the_next : (n : ℕ) → suc n ≡ n + 1
the_next n = omega arith

entry_within : (pre : Path) (e : LogEntry) (rest : Path) → entry_at (pre ++ e ∷ rest) (length pre + 1) ≡ Some e
entry_within pre e rest = subst (λ i. entry_at (pre ++ e ∷ rest) i ≡ Some e) (the_next (length pre)) (found pre)
  where
    found : (pre : Path) → slice_get (pre ++ e ∷ rest) (length pre) ≡ Some e
    found [] = refl
    found (x ∷ pre) = found pre

entry_none : (p : Path) → entry_at p (length p + 1) ≡ None
entry_none p = subst (λ i. entry_at p i ≡ None) (the_next (length p)) (past p)
  where
    past : (p : Path) → slice_get p (length p) ≡ None
    past [] = refl
    past (x ∷ p) = past p

take_next : (pre : Path) (e : LogEntry) (rest : Path) → take (length pre) (pre ++ e ∷ rest) ++ e ∷ [] ≡ take (length pre + 1) (pre ++ e ∷ rest)
take_next pre e rest = subst (λ i. take (length pre) (pre ++ e ∷ rest) ++ e ∷ [] ≡ take i (pre ++ e ∷ rest)) (the_next (length pre)) (taken pre)
  where
    taken : (pre : Path) → take (length pre) (pre ++ e ∷ rest) ++ e ∷ [] ≡ take (suc (length pre)) (pre ++ e ∷ rest)
    taken [] = refl
    taken (x ∷ pre) = ap (λ (p : Path). x ∷ p) (taken pre)

-- configurations are told
abbrev pub confs_after : List (ℕ × ℕ × List ℕ) → List Conf → List Conf
confs_after [] confs = confs
confs_after (m ∷ members) confs = confs_after members (conf_told m ∷ confs)

module _ (s : Setup) (rolled : List ℕ) (log : Path) where
  -- one commit, of the entry of the log at its index
  one_commit : (confs : List Conf) (n : ℕ) (pre rest : Path) (e : LogEntry) (r : ℕ) → pre ++ e ∷ rest ≡ log → length pre ≤ n → n ≤ length log
      → committed (at s (take n log) confs rolled) (length pre + 1) e (entry_at (take n log) (length pre + 1)) ≡ Ok (at s (take (max n (length pre + 1)) log) confs rolled)
  one_commit confs n pre rest e r is from fits = elim (cases_lt (length pre) n) [
    | inl within ↦
        let kept : entry_at (take n log) (length pre + 1) ≡ Some e = entry_in_front n log (length pre + 1) e (omega (arith, within)) (subst (λ (p : Path). entry_at p (length pre + 1) ≡ Some e) is (entry_within pre e rest)) in
        let n_is : n ≡ max n (length pre + 1) = omega (arith, within) in
        ap (committed (at s (take n log) confs rolled) (length pre + 1) e) kept
        ∙ required (same_entry e e) WrongCommit (at s (take n log) confs rolled) (entry_same e)
        ∙ ap (λ (m : ℕ). Ok (at s (take m log) confs rolled)) n_is
    | inr ends ↦
        let n_is : n ≡ length pre = omega (arith, ends, from) in
        let long : length (take n log) ≡ length pre = omega (arith, length-take n log, fits, n_is) in
        let next : length pre + 1 ≡ max n (length pre + 1) = omega (arith, n_is) in
        let none : entry_at (take n log) (length pre + 1) ≡ None = subst (λ i. entry_at (take n log) (i + 1) ≡ None) long (entry_none (take n log)) in
        let grown : take n log ++ e ∷ [] ≡ take (length pre + 1) log = subst (λ (m : ℕ). take m log ++ e ∷ [] ≡ take (length pre + 1) log) (sym n_is) (subst (λ (p : Path). take (length pre) p ++ e ∷ [] ≡ take (length pre + 1) p) is (take_next pre e rest)) in
        ap (committed (at s (take n log) confs rolled) (length pre + 1) e) none
        ∙ required (length pre + 1 == length (take n log) + 1) WrongCommit (at s (take n log ++ e ∷ []) confs rolled) (eq-eqb (length pre + 1) (length (take n log) + 1) (omega (arith, long)))
        ∙ ap (λ (p : Path). Ok (at s p confs rolled)) (grown ∙ ap (λ (m : ℕ). take m log) next)
  ]

  pub commits_pass : (confs : List Conf) (r : ℕ) (es pre rest : Path) (n : ℕ) → pre ++ (es ++ rest) ≡ log → length pre ≤ n → n ≤ length log
      → passes (at s (take n log) confs rolled) (map (λ (c : ℕ × LogEntry). CommitForm r c.0 c.1) (numbered_from (length pre + 1) es)) ≡ Ok (at s (take (max n (length pre + length es)) log) confs rolled)
  commits_pass confs r [] pre rest n is from fits = ap (λ (m : ℕ). Ok (at s (take m log) confs rolled)) (omega arith)
  commits_pass confs r (e ∷ es) pre rest n is from fits =
      let long : length (pre ++ e ∷ []) ≡ length pre + 1 = omega (arith, length-append pre (e ∷ [])) in
      let whole : (pre ++ e ∷ []) ++ (es ++ rest) ≡ log = append_assoc pre (e ∷ []) (es ++ rest) ∙ is in
      let fits' : length pre + 1 ≤ length log = omega (arith, ap length is, length-append pre (e ∷ (es ++ rest))) in
      let first = one_commit confs n pre (es ++ rest) e r is from fits in
      let rest_passes = commits_pass confs r es (pre ++ e ∷ []) rest (max n (length pre + 1)) whole (omega (arith, long)) (omega (arith, fits, fits')) in
      ap (λ (x : Result Audit Why). then_on x (λ b. passes b (map (λ (c : ℕ × LogEntry). CommitForm r c.0 c.1) (numbered_from ((length pre + 1) + 1) es)))) first
      ∙ ap (λ (k : ℕ). passes (at s (take (max n (length pre + 1)) log) confs rolled) (map (λ (c : ℕ × LogEntry). CommitForm r c.0 c.1) (numbered_from (k + 1) es))) (sym long)
      ∙ rest_passes
      ∙ ap (λ (m : ℕ). Ok (at s (take m log) confs rolled)) (omega (arith, long))

  pub members_pass : (book : Path) (r : ℕ) (members : List (ℕ × ℕ × List ℕ)) (confs : List Conf)
      → passes (at s book confs rolled) (map (λ (m : ℕ × ℕ × List ℕ). MembersForm r m.0 m.1 m.2) members) ≡ Ok (at s book (confs_after members confs) rolled)
  members_pass book r [] confs = refl
  members_pass book r (m ∷ members) confs = members_pass book r members (conf_told m ∷ confs)
