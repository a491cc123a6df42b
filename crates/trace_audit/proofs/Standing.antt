-- How an audit goes on standing for the auditor's state.
use Rattle.std.proofs.Common.{◌≡◌, ℕ, Bool, true, false, List, [], ◌∷◌, ◌++◌, Option, Some, None, Ok, Err, refl, sym, ap, ◌∙◌, subst}
use Rattle.std.specs.Prelude.{is_some, is_none, if◌then◌else◌}
use Rattle.group_quorum.specs.Conf.{Conf}
use Rattle.group_quorum.specs.Voters.{rising}
use Rattle.values.specs.declared.entry.LogEntry.{LogEntry}
use Rattle.values.specs.declared.event.Event.{Event}
use Rattle.values.specs.declared.event.Event.TheVariants as event
use Rattle.values.specs.declared.ids.ClientId.{ClientId}
use Rattle.values.specs.declared.message.Reply.{Reply}
use Rattle.replica_model.specs.Path.{Path}
use Rattle.group_model.specs.Group.{Setup}
use Rattle.trace_model.specs.Audit.{Audit, Why, WrongGrammar, WrongEnd, audited, is_misplaced}
use Rattle.trace_model.specs.TraceLines.{TraceLine, EventLine, Commit, Members}
use Rattle.trace_audit.specs.Books.{KeptBook, fits, answers}
use Rattle.trace_audit.specs.Bounds.{KeptBound, StandsBound}
use Rattle.trace_lines.specs.Meant.{meant}
use Rattle.trace_lines.specs.declared.line.TraceLine as line
use Rattle.trace_lines.specs.declared.line.TraceLine.TheVariants as lines
use Rattle.trace_audit.specs.Stands.{StandsBook, begun_by}
use Rattle.trace_audit.specs.Steps.{takes, only, is_commit, is_outcome, kind_fault, fault, after, setup_after, book_after, confs_after, rolled_after, rolling_after, step_by}
use Rattle.trace_audit.proofs.Bounds.{in_any_order}
use Rattle.trace_audit.proofs.Steps.{step_is}

-- ---- what a line that is not refused tells
not_grammar : (b : Bool) (f : Option Why) → (if b then Some WrongGrammar else f) ≡ None → b ≡ false
not_grammar true f e = absurd cc
not_grammar false f e = refl

not_misplaced : (b : Bool) (f : Option Why) → (if b then Some WrongGrammar else f) ≡ None → f ≡ None
not_misplaced true f e = absurd cc
not_misplaced false f e = e

not_out_of_place : (b : Bool) (f : Option Why) → (if b then f else Some WrongEnd) ≡ None → f ≡ None
not_out_of_place true f e = e
not_out_of_place false f e = absurd cc

only_holds : (b : Bool) (why : Why) → only b why ≡ None → b ≡ true
only_holds true why e = refl
only_holds false why e = absurd cc

kind_passes : (a : Audit) (line : TraceLine) → fault a line ≡ None → kind_fault a line ≡ None
kind_passes a line e = not_out_of_place (takes a.stage line) (kind_fault a line) (not_misplaced (is_misplaced a.setup line) _ e)

pub commits : (a : Audit) (r index : ℕ) (e : LogEntry) → fault a (Commit r index e) ≡ None → is_commit a.setup a.book index e ≡ true
commits a r index e none = only_holds (is_commit a.setup a.book index e) _ (kind_passes a (Commit r index e) none)

-- ---- the auditor's step, by its fault
pub step_refused : (a : Audit) (line : TraceLine) (why : Why) → fault a line ≡ Some why → audited a line ≡ Err why
step_refused a line why e = step_is a line ∙ ap (step_by a line) e

pub step_taken : (a : Audit) (line : TraceLine) → fault a line ≡ None → audited a line ≡ Ok (after a line)
step_taken a line e = step_is a line ∙ ap (step_by a line) e

-- ---- the book that stands, or none
pub begin_there : (book : Option KeptBook) (setup : Option Setup) (entries : Path) (number margin limit : ℕ) (voters : List ℕ) → StandsBook book setup entries
    → is_some book ≡ is_misplaced setup (EventLine number (event.Begin margin limit voters))
begin_there None None entries number margin limit voters s = refl
begin_there None (Some setup) entries number margin limit voters s = absurd s
begin_there (Some b) None entries number margin limit voters s = absurd s
begin_there (Some b) (Some setup) entries number margin limit voters s = refl

pub members_there : (book : Option KeptBook) (setup : Option Setup) (entries : Path) (margin : ℕ) (voters : List ℕ) → StandsBook book setup entries
    → is_none book ≡ is_misplaced setup (Members margin voters)
members_there None None entries margin voters s = refl
members_there None (Some setup) entries margin voters s = absurd s
members_there (Some b) None entries margin voters s = absurd s
members_there (Some b) (Some setup) entries margin voters s = refl

abbrev pub entries_in : Option KeptBook → Path
entries_in None = []
entries_in (Some b) = b.entries

abbrev pub fits_in : Option KeptBook → ℕ → LogEntry → Bool
fits_in None index e = false
fits_in (Some b) index e = fits b.entries index e

abbrev pub answers_in : Option KeptBook → ClientId → ℕ → ℕ → Reply → Bool
answers_in None c n index what = false
answers_in (Some b) c n index what = answers b.limit b.entries c n index what

pub entries_are : (book : Option KeptBook) (setup : Option Setup) (entries : Path) → StandsBook book setup entries → entries_in book ≡ entries
entries_are None None entries s = sym s
entries_are None (Some setup) entries s = absurd s
entries_are (Some b) None entries s = absurd s
entries_are (Some b) (Some setup) entries s = s.1

pub fits_are : (book : Option KeptBook) (setup : Option Setup) (entries : Path) (index : ℕ) (e : LogEntry) → StandsBook book setup entries
    → fits_in book index e ≡ is_commit setup entries index e
fits_are None None entries index e s = refl
fits_are None (Some setup) entries index e s = absurd s
fits_are (Some b) None entries index e s = absurd s
fits_are (Some b) (Some setup) entries index e s = ap (λ (p : Path). fits p index e) s.1

pub answers_are : (book : Option KeptBook) (setup : Option Setup) (entries : Path) (c : ClientId) (n index : ℕ) (what : Reply) → StandsBook book setup entries
    → answers_in book c n index what ≡ is_outcome setup entries c n index what
answers_are None None entries c n index what s = refl
answers_are None (Some setup) entries c n index what s = absurd s
answers_are (Some b) None entries c n index what s = absurd s
answers_are (Some b) (Some setup) entries c n index what s =
    ap (λ (p : Path). answers b.limit p c n index what) s.1 ∙ ap (λ (l : ℕ). answers l entries c n index what) s.0

-- ---- events
begun : (book : Option KeptBook) (setup : Option Setup) (entries : Path) (number margin limit : ℕ) (voters : List ℕ) (first : Conf) → StandsBook book setup entries
    → is_misplaced setup (EventLine number (event.Begin margin limit voters)) ≡ false
    → StandsBook (Some (record { limit = limit; entries = [] })) (Some (record { limit = limit; first = first })) entries
begun None None entries number margin limit voters first s e = (refl, sym s)
begun None (Some setup) entries number margin limit voters first s e = absurd s
begun (Some b) None entries number margin limit voters first s e = absurd s
begun (Some b) (Some setup) entries number margin limit voters first s e = absurd cc

pub played : (book : Option KeptBook) (a : Audit) (number : ℕ) (what : Event) → StandsBook book a.setup a.book → fault a (EventLine number what) ≡ None
    → StandsBook (begun_by book what) (setup_after a.setup (EventLine number what)) a.book
played book a number (event.Begin margin limit voters) s e =
    begun book a.setup a.book number margin limit voters (record { margin = margin; voters = rising voters }) s (not_grammar (is_misplaced a.setup (EventLine number (event.Begin margin limit voters))) _ e)
played book a number (event.Roll r k) s none = s
played book a number (event.Start r) s none = s
played book a number (event.Tick r) s none = s
played book a number (event.Deliver m) s none = s
played book a number (event.Lose m) s none = s
played book a number (event.Settle m) s none = s
played book a number (event.Crash r) s none = s
played book a number (event.Save r) s none = s
played book a number (event.Join r i) s none = s
played book a number (event.Admit r i) s none = s
played book a number (event.Remove r i) s none = s
played book a number (event.Ask r c m q) s none = s
played book a number (event.Want c w) s none = s
played book a number (event.Say c r) s none = s
played book a number (event.Hear c m) s none = s
played book a number (event.Margin r m) s none = s
played book a number (event.Again c) s none = s

abbrev pub IsNoBegin : Event → Type 0
IsNoBegin what = (margin limit : ℕ) (voters : List ℕ) → what ≡ event.Begin margin limit voters → ⊥

abbrev pub IsNoRoll : Event → Type 0
IsNoRoll what = (r k : ℕ) → what ≡ event.Roll r k → ⊥

pub other_book : (book : Option KeptBook) (what : Event) → IsNoBegin what → book ≡ begun_by book what
other_book book (event.Begin margin limit voters) nor = absurd (nor margin limit voters refl)
other_book book (event.Roll r k) nor = refl
other_book book (event.Start r) nor = refl
other_book book (event.Tick r) nor = refl
other_book book (event.Deliver m) nor = refl
other_book book (event.Lose m) nor = refl
other_book book (event.Settle m) nor = refl
other_book book (event.Crash r) nor = refl
other_book book (event.Save r) nor = refl
other_book book (event.Join r i) nor = refl
other_book book (event.Admit r i) nor = refl
other_book book (event.Remove r i) nor = refl
other_book book (event.Ask r c m q) nor = refl
other_book book (event.Want c w) nor = refl
other_book book (event.Say c r) nor = refl
other_book book (event.Hear c m) nor = refl
other_book book (event.Margin r m) nor = refl
other_book book (event.Again c) nor = refl

pub other_bound : (b : KeptBound) (number : ℕ) (what : Event) (confs : List Conf) (rolled : List ℕ) → IsNoBegin what → IsNoRoll what → StandsBound b confs rolled []
    → StandsBound b (confs_after confs (EventLine number what)) rolled (rolling_after (EventLine number what))
other_bound b number (event.Begin margin limit voters) confs rolled nor none s = absurd (nor margin limit voters refl)
other_bound b number (event.Roll r k) confs rolled nor none s = absurd (none r k refl)
other_bound b number (event.Start r) confs rolled nor none s = s
other_bound b number (event.Tick r) confs rolled nor none s = s
other_bound b number (event.Deliver m) confs rolled nor none s = s
other_bound b number (event.Lose m) confs rolled nor none s = s
other_bound b number (event.Settle m) confs rolled nor none s = s
other_bound b number (event.Crash r) confs rolled nor none s = s
other_bound b number (event.Save r) confs rolled nor none s = s
other_bound b number (event.Join r i) confs rolled nor none s = s
other_bound b number (event.Admit r i) confs rolled nor none s = s
other_bound b number (event.Remove r i) confs rolled nor none s = s
other_bound b number (event.Ask r c m q) confs rolled nor none s = s
other_bound b number (event.Want c w) confs rolled nor none s = s
other_bound b number (event.Say c r) confs rolled nor none s = s
other_bound b number (event.Hear c m) confs rolled nor none s = s
other_bound b number (event.Margin r m) confs rolled nor none s = s
other_bound b number (event.Again c) confs rolled nor none s = s

pub roll_bound : (b : KeptBound) (number : ℕ) (what : Event) (r k : ℕ) (confs : List Conf) (rolled : List ℕ) → what ≡ event.Roll r k → StandsBound b confs rolled (r ∷ [])
    → StandsBound b (confs_after confs (EventLine number what)) rolled (rolling_after (EventLine number what))
roll_bound b number what r k confs rolled is s =
    subst (λ (e : Event). StandsBound b (confs_after confs (EventLine number e)) rolled (rolling_after (EventLine number e))) (sym is) s

pub begin_bound : (b : KeptBound) (number : ℕ) (what : Event) (margin limit : ℕ) (voters told : List ℕ) (confs : List Conf) (rolled : List ℕ)
    → what ≡ event.Begin margin limit voters → told ≡ voters → StandsBound b (record { margin = margin; voters = told } ∷ confs) rolled []
    → StandsBound b (confs_after confs (EventLine number what)) rolled (rolling_after (EventLine number what))
begin_bound b number what margin limit voters told confs rolled is same s =
    subst (λ (e : Event). StandsBound b (confs_after confs (EventLine number e)) rolled (rolling_after (EventLine number e))) (sym is)
    (in_any_order b margin voters confs rolled [] (subst (λ (vs : List ℕ). StandsBound b (record { margin = margin; voters = vs } ∷ confs) rolled []) same s))

-- ---- lines
pub of_line : (b : KeptBound) (said same : TraceLine) (confs : List Conf) (rolled rolling : List ℕ) → said ≡ same
    → StandsBound b (confs_after confs same) (rolled_after rolling rolled same) (rolling_after same)
    → StandsBound b (confs_after confs said) (rolled_after rolling rolled said) (rolling_after said)
of_line b said same confs rolled rolling is s =
    subst (λ (l : TraceLine). StandsBound b (confs_after confs l) (rolled_after rolling rolled l) (rolling_after l)) (sym is) s

abbrev pub IsNoEvent : line.TraceLine → Type 0
IsNoEvent l = (n : ℕ) (what : Event) → l ≡ lines.Event n what → ⊥

abbrev pub IsNoCommit : line.TraceLine → Type 0
IsNoCommit l = (r index : ℕ) (e : LogEntry) → l ≡ lines.Commit r index e → ⊥

abbrev pub IsNoMembers : line.TraceLine → Type 0
IsNoMembers l = (margin : ℕ) (voters : List ℕ) → l ≡ lines.Members margin voters → ⊥

pub quiet_book : (book : Option KeptBook) (setup : Option Setup) (entries : Path) (l : line.TraceLine) → IsNoEvent l → IsNoCommit l → StandsBook book setup entries
    → StandsBook book (setup_after setup (meant l)) (book_after entries (meant l))
quiet_book book setup entries (lines.Event n what) nor none s = absurd (nor n what refl)
quiet_book book setup entries (lines.Commit r index e) nor none s = absurd (none r index e refl)
quiet_book book setup entries (lines.Outcome c n index what) nor none s = s
quiet_book book setup entries (lines.Members margin voters) nor none s = s
quiet_book book setup entries lines.Refused nor none s = s
quiet_book book setup entries (lines.LogEnd n) nor none s = s
quiet_book book setup entries (lines.Rollbacks within) nor none s = s
quiet_book book setup entries lines.End nor none s = s
quiet_book book setup entries lines.Stopped nor none s = s
quiet_book book setup entries lines.Other nor none s = s

pub quiet_bound : (b : KeptBound) (l : line.TraceLine) (confs : List Conf) (rolled rolling : List ℕ) → IsNoEvent l → IsNoMembers l → (l ≡ lines.Refused → ⊥)
    → StandsBound b confs (rolling ++ rolled) [] → StandsBound b (confs_after confs (meant l)) (rolled_after rolling rolled (meant l)) (rolling_after (meant l))
quiet_bound b (lines.Event n what) confs rolled rolling nor none not s = absurd (nor n what refl)
quiet_bound b (lines.Commit r index e) confs rolled rolling nor none not s = s
quiet_bound b (lines.Outcome c n index what) confs rolled rolling nor none not s = s
quiet_bound b (lines.Members margin voters) confs rolled rolling nor none not s = absurd (none margin voters refl)
quiet_bound b lines.Refused confs rolled rolling nor none not s = absurd (not refl)
quiet_bound b (lines.LogEnd n) confs rolled rolling nor none not s = s
quiet_bound b (lines.Rollbacks within) confs rolled rolling nor none not s = s
quiet_bound b lines.End confs rolled rolling nor none not s = s
quiet_bound b lines.Stopped confs rolled rolling nor none not s = s
quiet_bound b lines.Other confs rolled rolling nor none not s = s
