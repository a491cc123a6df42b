-- A schedule plays alike where contents answer its calls.
use Rattle.std.proofs.Common.{◌≡◌, ℕ, ◌+◌, zero, suc, false, Option, Some, None, Result, Ok, Err, List, [], ◌∷◌, ◌++◌, length, map, refl, sym, ap, subst, ◌∙◌}
use Rattle.std.specs.Prelude.{is_some, nat_lt, filter, reverse}
use Rattle.std.proofs.lemmas.List.{append_assoc, append-nil, length-map}
use Rattle.values.specs.declared.batch.Batch.{Batch}
use Rattle.values.specs.declared.event.Event.{Event}
use Rattle.values.specs.declared.event.Event.TheVariants as event
use Rattle.values.specs.declared.peer.PeerMsg.{PeerMsg}
use Rattle.record_cutting.specs.Lines.{Record, records_of}
use Rattle.schedule_model.specs.Lines.{Line, lines_text, event_line, batch_lines, closing_lines}
use Rattle.schedule_model.specs.Quantities.{Quantity, Messages, Answers, States, Clients}
use Rattle.schedule_model.specs.Reading.{RecordFault}
use Rattle.schedule_model.specs.Records.{event_of}
use Rattle.schedule_model.specs.Written.{Written, On, Off, onto, follow, all_written, text_with, last_of}
use Rattle.replica_model.specs.Path.{Link}
use Rattle.replica_model.specs.Message.{Message}
use Rattle.group_model.specs.Group.{next_message, is_within}
use Rattle.group_model.specs.Happens.{Came, Refused, Replied, Reported, Passed, Happening, Happened, Broken, Unanswered, happens}
use Rattle.group_model.specs.Run.{Recorded, Enclaves, World, enclaves, empty_world}
use Rattle.trace_model.specs.Limits.{first_passed, passed_before, passed_after}
use Rattle.values.specs.declared.limits.TheConstants.{MAX_MESSAGES, MAX_ANSWERS, MAX_STATES, MAX_CLIENTS}
use Rattle.trace_model.specs.Trace.{Playing, playing, counted, closing, came_lines, happened_text, within_limits, happened, tried, played, settled, expanded, said, record_played, records_played}
use Rattle.trace_model.specs.Contents.{ReadsBatch, contents, played_from}
use Rattle.trace_model.specs.Schedules.{played_of, enclaves_of}
use Rattle.trace_model.specs.Claims.{contents_of, AreReadBack, IsFrom, TraceFromItsContents}
use Rattle.trace_laws.proofs.Taken.{takes_all}
use Rattle.trace_laws.proofs.Shadow.{Left, plainly, shadow, next_shadow, contents_then, then_append, contents_in_order}
use Rattle.trace_laws.proofs.Events.{AllRead, Alike, read_left, happens_alike}

-- a schedule that is being played, where these contents are left
abbrev shadow_of : Playing Message Enclaves → Left → Playing PeerMsg Left
shadow_of p left = record { records = p.records; group = shadow p.group left; stands = left }

-- the same where its text has ended, and none is left
abbrev ended : Playing Message Enclaves → Left → Playing PeerMsg Left
ended p before = record { records = p.records; group = shadow p.group before; stands = [] }

-- while playing goes on the field stands where the group has it
abbrev IsOn : Playing Message Enclaves → Type 0
IsOn p = p.stands ≡ p.group.field

-- ---- the lines of an event, and the limits, are the same
came_same : (g : World) (left : Left) (came : Came) → came_lines (shadow g left) came ≡ came_lines g came
came_same g left (Refused refusal) = refl
came_same g left (Replied r batch) = ap (λ (n : ℕ). batch_lines r (n + 1) (length g.answers + 1) batch) (length-map g.messages plainly)
came_same g left (Reported client report) = refl
came_same g left Passed = refl

text_same : (g : World) (left : Left) (e : Event) (came : Came) → happened_text (shadow g left) e came ≡ happened_text g e came
text_same g left e came = ap (λ (lines : List Line). lines_text (event_line (length g.past + 1) e ∷ lines)) (came_same g left came)

passed_same : (g : World) (left : Left) → passed_after (shadow g left) ≡ passed_after g
passed_same g left =
    ap (λ (n : ℕ). first_passed ((nat_lt MAX_MESSAGES n, Messages) ∷ (nat_lt MAX_ANSWERS (length g.answers), Answers) ∷ (nat_lt MAX_STATES (length g.saves), States) ∷ (nat_lt MAX_CLIENTS (length g.cores), Clients) ∷ [])) (length-map g.messages plainly)

closing_same : (p : Playing Message Enclaves) (left : Left) → closing (shadow_of p left) ≡ closing p
closing_same p left =
    ap (λ (n : ℕ). lines_text (closing_lines p.group.committed (is_within p.group) (length p.group.past) n (length p.group.answers))) (length-map p.group.messages plainly)

module _ (batch_bytes : ℕ → Batch → List ℕ) (batch_of : ReadsBatch) (link : Link) where
  abbrev then_left : List Recorded → Left → Left
  then_left new rest = contents_then batch_bytes batch_of new rest

  abbrev Reads : List Recorded → Type 0
  Reads new = AllRead batch_bytes batch_of link new

  -- what is written is the same where its calls are answered by their contents. Where the text ends before the schedule no
  -- content is left
  abbrev PlaysAlike : List Recorded → (Left → Written (Playing PeerMsg Left)) → Written (Playing Message Enclaves) → Type 0
  PlaysAlike old after (On text p) =
      (new : List Recorded) × (p.group.field.history ≡ new ++ old) × IsOn p
      × (Reads new → (rest : Left) → after (then_left new rest) ≡ On text (shadow_of p rest))
  PlaysAlike old after (Off text stop p) =
      (new : List Recorded) × (p.stands.history ≡ new ++ old)
      × (Reads new → (before : Left) × (after (then_left new []) ≡ Off text stop (ended p before)))

  abbrev Next : Type 0
  Next = Playing PeerMsg Left → Written (Playing PeerMsg Left)

  -- what follows a piece that went on
  goes_on : (old : List Recorded) (after : Left → Written (Playing PeerMsg Left)) (next : Next) (text : List ℕ) (p : Playing Message Enclaves) (new : List Recorded) → p.group.field.history ≡ new ++ old → (Reads new → (rest : Left) → after (then_left new rest) ≡ On text (shadow_of p rest))
      → (y : Written (Playing Message Enclaves)) → PlaysAlike p.group.field.history (λ left. next (shadow_of p left)) y → PlaysAlike old (λ left. follow (after left) next) (onto text y)
  goes_on old after next text p new history first (On more q) (later, more_history, on, second) = (
    later ++ new,
    more_history ∙ ap (λ (h : List Recorded). later ++ h) history ∙ sym (append_assoc later new old),
    on,
    λ read rest.
        let parts = read_left batch_bytes batch_of link later new read in
        ap (λ (left : Left). follow (after left) next) (then_append batch_bytes batch_of later new rest)
        ∙ ap (λ (x : Written (Playing PeerMsg Left)). follow x next) (first parts.1 (then_left later rest))
        ∙ ap (onto text) (second parts.0 rest),
  )
  goes_on old after next text p new history first (Off more stop q) (later, more_history, second) = (
    later ++ new,
    more_history ∙ ap (λ (h : List Recorded). later ++ h) history ∙ sym (append_assoc later new old),
    λ read.
        let parts = read_left batch_bytes batch_of link later new read in
        let end = second parts.0 in (
          end.0,
          ap (λ (left : Left). follow (after left) next) (then_append batch_bytes batch_of later new [])
              ∙ ap (λ (x : Written (Playing PeerMsg Left)). follow x next) (first parts.1 (then_left later []))
              ∙ ap (onto text) end.1,
        ),
  )

  follow_alike : (old : List Recorded) (after : Left → Written (Playing PeerMsg Left)) (next : Next) (x : Written (Playing Message Enclaves)) (next_of : Playing Message Enclaves → Written (Playing Message Enclaves)) → PlaysAlike old after x
      → ((p : Playing Message Enclaves) → IsOn p → PlaysAlike p.group.field.history (λ left. next (shadow_of p left)) (next_of p)) → PlaysAlike old (λ left. follow (after left) next) (follow x next_of)
  follow_alike old after next (On text p) next_of (new, history, on, first) later = goes_on old after next text p new history first (next_of p) (later p on)
  follow_alike old after next (Off text stop p) next_of (new, history, first) later =
      (new, history, λ read. let end = first read in (end.0, ap (λ (x : Written (Playing PeerMsg Left)). follow x next) end.1))

  module _ (p : Playing Message Enclaves) (on : IsOn p) where
    abbrev Old : List Recorded
    Old = p.group.field.history

    abbrev Given : Type 0
    Given = Left → Happening PeerMsg Left

    within_alike : (e : Event) (came : Came) (g : World) (new : List Recorded) (after : Given) → g.field.history ≡ new ++ Old → (Reads new → (rest : Left) → after (then_left new rest) ≡ Happened came (shadow g rest))
        → (o : Option Quantity) → passed_after g ≡ o → PlaysAlike Old (λ left. happened (contents batch_of) (shadow_of p left) e (after left)) (within_limits (enclaves link) p (happened_text p.group e came) g o)
    within_alike e came g new after history alike o is = by_limit o refl
      where
        same : Reads new → (rest : Left) → happened (contents batch_of) (shadow_of p (then_left new rest)) e (after (then_left new rest)) ≡ within_limits (contents batch_of) (shadow_of p (then_left new rest)) (happened_text p.group e came) (shadow g rest) o
        same read rest =
            ap (happened (contents batch_of) (shadow_of p (then_left new rest)) e) (alike read rest)
            ∙ ap (λ (text : List ℕ). within_limits (contents batch_of) (shadow_of p (then_left new rest)) text (shadow g rest) (passed_after (shadow g rest))) (text_same p.group (then_left new rest) e came)
            ∙ ap (within_limits (contents batch_of) (shadow_of p (then_left new rest)) (happened_text p.group e came) (shadow g rest)) (passed_same g rest ∙ is)

        by_limit : (limit : Option Quantity) → o ≡ limit → PlaysAlike Old (λ left. happened (contents batch_of) (shadow_of p left) e (after left)) (within_limits (enclaves link) p (happened_text p.group e came) g limit)
        by_limit None so = (new, history, refl, λ read rest. same read rest ∙ ap (within_limits (contents batch_of) (shadow_of p (then_left new rest)) (happened_text p.group e came) (shadow g rest)) so)
        by_limit (Some passed) so =
            (new, history, λ read. (then_left new [], same read [] ∙ ap (within_limits (contents batch_of) (shadow_of p (then_left new [])) (happened_text p.group e came) (shadow g [])) so))

    happened_alike : (e : Event) (after : Given) (h : Happening Message Enclaves) → Alike batch_bytes batch_of link Old after h → PlaysAlike Old (λ left. happened (contents batch_of) (shadow_of p left) e (after left)) (happened (enclaves link) p e h)
    happened_alike e after (Happened came g) (new, history, alike) = within_alike e came g new after history alike (passed_after g) refl
    happened_alike e after (Broken at f) never = absurd never
    happened_alike e after Unanswered none = ([], ap (λ (f : Enclaves). f.history) on, λ read. ([], ap (happened (contents batch_of) (shadow_of p []) e) none))

    tried_alike : (e : Event) (o : Option Quantity) → PlaysAlike Old (λ left. tried (contents batch_of) (shadow_of p left) e o) (tried (enclaves link) p e o)
    tried_alike e (Some passed) = ([], ap (λ (f : Enclaves). f.history) on, λ read. ([], refl))
    tried_alike e None = happened_alike e (λ left. happens (contents batch_of) e (shadow p.group left)) (happens (enclaves link) e p.group) (happens_alike batch_bytes batch_of link e p.group)

    played_alike : (e : Event) → PlaysAlike Old (λ left. played (contents batch_of) (shadow_of p left) e) (played (enclaves link) p e)
    played_alike e = tried_alike e (passed_before p.group e)

  settled_alike : (n : ℕ) (p : Playing Message Enclaves) → IsOn p → PlaysAlike p.group.field.history (λ left. settled (contents batch_of) n (shadow_of p left)) (settled (enclaves link) n p)
  settled_alike zero p on = ([], refl, on, λ read rest. refl)
  settled_alike (suc n) p on =
      subst (λ (after : Left → Written (Playing PeerMsg Left)). PlaysAlike p.group.field.history after (settled (enclaves link) (suc n) p)) (λ i. λ left. delivers left (sym (next_shadow p.group left) i))
      (by_next (settled_alike n) (next_message p.group))
    where
      delivers : Left → Option ℕ → Written (Playing PeerMsg Left)
      delivers left o = elim o [ None ↦ On [] (shadow_of p left) | Some k ↦ follow (played (contents batch_of) (shadow_of p left) (event.Deliver k)) (settled (contents batch_of) n) ]

      by_next : ((q : Playing Message Enclaves) → IsOn q → PlaysAlike q.group.field.history (λ left. settled (contents batch_of) n (shadow_of q left)) (settled (enclaves link) n q)) → (o : Option ℕ)
          → PlaysAlike p.group.field.history (λ left. delivers left o) (elim o [ None ↦ On [] p | Some k ↦ follow (played (enclaves link) p (event.Deliver k)) (settled (enclaves link) n) ])
      by_next rest None = ([], refl, on, λ read rest. refl)
      by_next rest (Some k) =
          follow_alike p.group.field.history (λ left. played (contents batch_of) (shadow_of p left) (event.Deliver k)) (settled (contents batch_of) n) (played (enclaves link) p (event.Deliver k)) (settled (enclaves link) n)
          (played_alike p on (event.Deliver k)) rest

  expanded_alike : (p : Playing Message Enclaves) → IsOn p → (e : Event) → PlaysAlike p.group.field.history (λ left. expanded (contents batch_of) (shadow_of p left) e) (expanded (enclaves link) p e)
  expanded_alike p on (event.Settle n) = settled_alike n p on
  expanded_alike p on e = played_alike p on e

  said_alike : (p : Playing Message Enclaves) → IsOn p → (r : Result (Option Event) RecordFault) → PlaysAlike p.group.field.history (λ left. said (contents batch_of) (shadow_of p left) r) (said (enclaves link) p r)
  said_alike p on (Ok None) = ([], refl, on, λ read rest. refl)
  said_alike p on (Ok (Some e)) = expanded_alike (counted p) on e
  said_alike p on (Err fault) = ([], ap (λ (f : Enclaves). f.history) on, λ read. ([], refl))

  records_alike : (records : List Record) (p : Playing Message Enclaves) → IsOn p → PlaysAlike p.group.field.history (λ left. records_played (contents batch_of) (shadow_of p left) records) (records_played (enclaves link) p records)
  unfolding all_written
  records_alike [] p on = ([], refl, on, λ read rest. refl)
  records_alike (fields ∷ records) p on =
      follow_alike p.group.field.history (λ left. record_played (contents batch_of) (shadow_of p left) fields) (λ q. records_played (contents batch_of) q records) (record_played (enclaves link) p fields) (λ q. records_played (enclaves link) q records)
      (said_alike p on (event_of false (is_some p.group.setup) fields)) (λ q still. records_alike records q still)

  abbrev contents_in : List Recorded → Left
  contents_in history = map (λ (r : Recorded). batch_bytes r.replica r.call.batch) (filter (λ (r : Recorded). is_some r.input) (reverse history))

  all_contents : (history : List Recorded) → contents_in history ≡ then_left history []
  all_contents history = sym (append-nil (contents_in history)) ∙ contents_in_order batch_bytes batch_of history []

  -- the whole text, its end, and that no content is left
  record SameWhole (x : Written (Playing PeerMsg Left)) (y : Written (Playing Message Enclaves)) : Type 0 where
    text : text_with closing x ≡ text_with closing y
    none_left : (last_of x).stands ≡ []

  whole_alike : (after : Left → Written (Playing PeerMsg Left)) (y : Written (Playing Message Enclaves)) → PlaysAlike [] after y → AreReadBack batch_bytes batch_of (last_of y).stands → SameWhole (after (contents_of batch_bytes (last_of y).stands)) y
  whole_alike after (On text p) (new, history, on, alike) read =
      let is : p.stands.history ≡ new = ap (λ (f : Enclaves). f.history) on ∙ history ∙ append-nil new in
      let same : after (contents_of batch_bytes p.stands) ≡ On text (shadow_of p []) = ap after (all_contents p.stands.history ∙ ap (λ (h : List Recorded). then_left h []) is) ∙ alike (subst Reads is read) [] in
      record {
        text = ap (text_with closing) same ∙ ap (λ (end : List ℕ). text ++ end) (closing_same p []);
        none_left = ap (λ (x : Written (Playing PeerMsg Left)). (last_of x).stands) same;
      }
  whole_alike after (Off text stop p) (new, history, alike) read =
      let is : p.stands.history ≡ new = history ∙ append-nil new in
      let end = alike (subst Reads is read) in
      let same : after (contents_of batch_bytes p.stands) ≡ Off text stop (ended p end.0) = ap after (all_contents p.stands.history ∙ ap (λ (h : List Recorded). then_left h []) is) ∙ end.1 in
      record {
        text = ap (text_with closing) same;
        none_left = ap (λ (x : Written (Playing PeerMsg Left)). (last_of x).stands) same;
      }

  own_contents : (bytes : List ℕ) → AreReadBack batch_bytes batch_of (enclaves_of link bytes) → IsFrom batch_of link bytes (contents_of batch_bytes (enclaves_of link bytes))
  own_contents bytes read =
      let given : Left = contents_of batch_bytes (enclaves_of link bytes) in
      let same : SameWhole (played_from batch_of bytes given) (played_of link bytes) = whole_alike (λ left. records_played (contents batch_of) (shadow_of (playing empty_world) left) (records_of bytes)) (played_of link bytes) (records_alike (records_of bytes) (playing empty_world) refl) read in
      record { text = same.text; takes = takes_all batch_of bytes given same.none_left }

pub trace_from_its_contents : TraceFromItsContents
trace_from_its_contents batch_bytes batch_of link bytes read = own_contents batch_bytes batch_of link bytes read
