-- Of any contents a text takes those at the front: batches, and at most one that is none, at which it ends.
use Rattle.std.proofs.Common.{◌≡◌, ℕ, zero, suc, not, Bool, true, false, Option, Some, None, Result, Ok, Err, List, [], ◌∷◌, ◌++◌, refl, sym, ap, subst, ◌∙◌}
use Rattle.std.specs.Prelude.{unwrap_or, nat_le, is_some, is_none}
use Rattle.std.proofs.lemmas.List.{append_assoc, append-nil}
use Rattle.std.proofs.lemmas.Bool.{cond_both}
use Rattle.group_quorum.specs.Conf.{Conf}
use Rattle.group_quorum.specs.Voters.{conf_of, insert_rising, is_in}
use Rattle.group_quorum.specs.declared.ConfigFault.{ConfigFault}
use Rattle.values.specs.declared.batch.Batch.{Batch}
use Rattle.values.specs.declared.event.Event.{Event}
use Rattle.values.specs.declared.event.Event.TheVariants as event
use Rattle.values.specs.declared.ids.ClientId.{ClientId}
use Rattle.values.specs.declared.peer.PeerMsg.{PeerMsg}
use Rattle.values.specs.declared.want.WantFault.{WantFault}
use Rattle.schedule_model.specs.Client.{Core, new_core, wanted}
use Rattle.record_cutting.specs.Lines.{Record, records_of}
use Rattle.schedule_model.specs.Refusals.{GroupRefusal}
use Rattle.schedule_model.specs.Quantities.{Quantity}
use Rattle.schedule_model.specs.Reading.{RecordFault}
use Rattle.schedule_model.specs.Records.{event_of}
use Rattle.schedule_model.specs.Written.{Stop, AtRecord, AtLimit, AtFrame, AtField, Written, On, Off, onto, follow, all_written, last_of, stop_of}
use Rattle.group_model.specs.Enclave.{HostInput, Tick, Client, Join, Admit, Remove, Save, Margin}
use Rattle.group_model.specs.Field.{Answers, Unreadable, Nothing}
use Rattle.group_model.specs.Group.{Setup, Group, Sent, Answered, nothing_started, next_message, numbered, but, core_of, saves_of, is_client, keeps}
use Rattle.group_model.specs.Happens as happening
use Rattle.group_model.specs.Happens.{Came, Passed, Happening, Happened, Broken, Unanswered, happens, rolled_back}
use Rattle.trace_model.specs.Limits.{passed_before, passed_after}
use Rattle.trace_model.specs.Trace.{Playing, playing, counted, happened_text, within_limits, happened, tried, played, settled, expanded, said, record_played, records_played}
use Rattle.trace_model.specs.Contents.{ReadsBatch, next_reply, reply_by, contents, played_from, left_from, stop_from, AreBatches, EndsAtNone, AreTaken, TakesAll, TakesFront}
use Rattle.trace_model.specs.Claims.{TextTakesAFront}
use Rattle.trace_laws.proofs.Shadow.{Left}

module _ (batch_of : ReadsBatch) where
  abbrev G : Type 0
  G = Group PeerMsg Left

  -- ---- batches first
  batches_first : (front more : Left) → AreBatches batch_of front → AreBatches batch_of more → AreBatches batch_of (front ++ more)
  batches_first [] more h k = k
  batches_first (content ∷ front) more h k = (h.0, batches_first front more h.1 k)

  none_after : (front more : Left) (at : ℕ) → AreBatches batch_of front → EndsAtNone batch_of at more → EndsAtNone batch_of at (front ++ more)
  none_after front more at h k = record {
    read = front ++ k.read;
    refused = k.refused;
    is_last = ap (λ (m : Left). front ++ m) k.is_last ∙ sym (append_assoc front k.read (k.refused ∷ []));
    batches = batches_first front k.read h k.batches;
    offset = k.offset;
  }

  taken_after : (front more : Left) (stop : Stop) → AreBatches batch_of front → AreTaken batch_of (Some stop) more → AreTaken batch_of (Some stop) (front ++ more)
  taken_after front more (AtRecord number fault) h k = batches_first front more h k
  taken_after front more (AtLimit passed) h k = batches_first front more h k
  taken_after front more (AtFrame at) h k = none_after front more at h k
  taken_after front more AtField h k = batches_first front more h k

  -- ---- what an event takes
  abbrev Took : Left → Happening PeerMsg Left → Type 0
  Took left (Happened came g) = (front : Left) × (left ≡ front ++ g.field) × AreBatches batch_of front
  Took left (Broken at f) = (front : Left) × (left ≡ front ++ f) × EndsAtNone batch_of at front
  Took left Unanswered = Unit {0}

  one_more : (content : List ℕ) (later : Left) (batch : Batch) → batch_of content ≡ Ok batch → (h : Happening PeerMsg Left) → Took later h → Took (content ∷ later) h
  one_more content later batch is (Happened came g) (front, rest, read) = (content ∷ front, ap (λ (m : Left). content ∷ m) rest, ((batch, is), read))
  one_more content later batch is (Broken at f) (front, rest, none) = (content ∷ front, ap (λ (m : Left). content ∷ m) rest, none_after (content ∷ []) front at ((batch, is), tt) none)
  one_more content later batch is Unanswered h = tt

  no_batch : (content : List ℕ) (later : Left) (at : ℕ) → batch_of content ≡ Err at → Took (content ∷ later) (Broken at later)
  no_batch content later at is = (content ∷ [], refl, record { read = []; refused = content; is_last = refl; batches = tt; offset = is })

  module _ (g : G) where
    abbrev nothing : (came : Came) → Took g.field (Happened came g)
    nothing came = ([], refl, tt)

    refused_if_took : (b : Bool) (refusal : GroupRefusal) (next : G → Happening PeerMsg Left) → Took g.field (next g) → Took g.field (happening.refused_if (contents batch_of) b refusal g next)
    refused_if_took true refusal next took = ([], refl, tt)
    refused_if_took false refusal next took = took

    -- a call takes the next content
    replied_took : (r : ℕ) (left : Left) → Took left (happening.replied (contents batch_of) r g (next_reply batch_of left))
    replied_took r [] = tt
    replied_took r (content ∷ later) = by_batch (batch_of content) refl
      where
        by_batch : (x : Result Batch ℕ) → batch_of content ≡ x → Took (content ∷ later) (happening.replied (contents batch_of) r g (reply_by later x))
        by_batch (Ok batch) is = (content ∷ [], refl, ((batch, is), tt))
        by_batch (Err at) is = no_batch content later at is

    tells_took : (r : ℕ) (input : HostInput PeerMsg) → Took g.field (happening.tells (contents batch_of) r input g)
    tells_took r input = refused_if_took (not (is_in g.running r)) _ (happening.calls (contents batch_of) r input) (replied_took r g.field)

    rolled_took : (r : ℕ) (left : Left) → Took left (happening.rolled (contents batch_of) r g (next_reply batch_of left))
    rolled_took r [] = tt
    rolled_took r (content ∷ later) = by_batch (batch_of content) refl
      where
        by_batch : (x : Result Batch ℕ) → batch_of content ≡ x → Took (content ∷ later) (happening.rolled (contents batch_of) r g (reply_by later x))
        by_batch (Ok batch) is =
            let h : G = keeps g r batch batch.sent later in
            cond_both (is_none batch.refused) (record h { rolled = r ∷ h.rolled }) h (λ (k : G). Took (content ∷ later) (Happened (happening.Replied r batch) k))
            (λ b. (content ∷ [], refl, ((batch, is), tt)))
            (λ b. (content ∷ [], refl, ((batch, is), tt)))
        by_batch (Err at) is = no_batch content later at is

    rolls_took : (r k : ℕ) → Took g.field (happening.rolls (contents batch_of) r k g)
    rolls_took r k = refused_if_took (not (nat_le k (saves_of g.saves r))) _ (λ g. happening.rolled (contents batch_of) r g (next_reply batch_of g.field)) (rolled_took r g.field)

    loses_took : (k : ℕ) (o : Option (Sent PeerMsg)) → Took g.field (happening.loses (contents batch_of) k o g)
    loses_took k None = ([], refl, tt)
    loses_took k (Some m) = refused_if_took (is_in g.lost k) _ (λ g. Happened Passed (record g { lost = k ∷ g.lost; waiting = but k g.waiting })) ([], refl, tt)

    wants_took : (c : ClientId) (r : Result Core WantFault) → Took g.field (happening.wants (contents batch_of) c r g)
    wants_took c (Err fault) = ([], refl, tt)
    wants_took c (Ok core) = ([], refl, tt)

    says_took : (c : ClientId) (r : ℕ) (o : Option (ℕ × List ℕ)) → Took g.field (happening.says (contents batch_of) c r o g)
    says_took c r None = ([], refl, tt)
    says_took c r (Some (number, request)) = tells_took r (Client c number request)

    hears_with_took : (c : ClientId) (a : Answered) (o : Option Core) → Took g.field (happening.hears_with (contents batch_of) c a o g)
    hears_with_took c a None = ([], refl, tt)
    hears_with_took c a (Some core) = ([], refl, tt)

    hears_took : (c : ClientId) (k : ℕ) (o : Option Answered) → Took g.field (happening.hears (contents batch_of) c k o g)
    hears_took c k None = ([], refl, tt)
    hears_took c k (Some a) = refused_if_took (not (is_client a.client c)) _ (happening.hears_with (contents batch_of) c a (core_of g.cores c)) (hears_with_took c a (core_of g.cores c))

  -- a learner starts: a content for each link
  connected_took : (x : ℕ) (rs : List ℕ) (left : Left) (next : Left → Happening PeerMsg Left) → ((left : Left) → Took left (next left)) → Took left (happening.connected (contents batch_of) x rs left next)
  connected_took x [] left next took = took left
  connected_took x (r ∷ rs) [] next took = tt
  connected_took x (r ∷ rs) (content ∷ later) next took = by_batch (connected_took x rs later next took) (batch_of content) refl
    where
      by_batch : Took later (happening.connected (contents batch_of) x rs later next) → (o : Result Batch ℕ) → batch_of content ≡ o
          → Took (content ∷ later) (elim (reply_by later o) [ Answers batch sent f ↦ happening.connected (contents batch_of) x rs f next | Unreadable at f ↦ Broken at f | Nothing ↦ Unanswered ])
      by_batch rest (Ok batch) is = one_more content later batch is _ rest
      by_batch rest (Err at) is = no_batch content later at is

  module _ (g : G) where
    delivers_took : (k : ℕ) (o : Option (Sent PeerMsg)) → Took g.field (happening.delivers (contents batch_of) k o g)
    delivers_took k None = ([], refl, tt)
    delivers_took k (Some m) =
        refused_if_took g (is_in g.lost k) _ (λ g. happening.running (contents batch_of) m.to g (happening.hands (contents batch_of) k m))
        (refused_if_took g (not (is_in g.running m.to)) _ (happening.hands (contents batch_of) k m) (replied_took (record g { waiting = but k g.waiting }) m.to g.field))

    acts_took : (e : Event) → Took g.field (happening.acts (contents batch_of) e g)
    acts_took (event.Begin margin limit voters) = ([], refl, tt)
    acts_took (event.Start zero) = ([], refl, tt)
    acts_took (event.Start (suc r)) =
        refused_if_took g (is_in g.started (suc r)) _ (happening.starts (contents batch_of) (suc r))
        (connected_took (suc r) g.running g.field (λ f. Happened Passed (record g { running = insert_rising (suc r) g.running; started = suc r ∷ g.started; field = f })) (λ left. ([], refl, tt)))
    acts_took (event.Tick r) = tells_took g r Tick
    acts_took (event.Deliver k) = delivers_took k (numbered g.messages k)
    acts_took (event.Lose k) = loses_took g k (numbered g.messages k)
    acts_took (event.Settle n) = ([], refl, tt)
    acts_took (event.Crash r) = refused_if_took g (not (is_in g.running r)) _ (happening.crashes (contents batch_of) r) ([], refl, tt)
    acts_took (event.Save r) = tells_took g r Save
    acts_took (event.Roll r k) = refused_if_took g (not (is_in g.running r)) _ (happening.rolls (contents batch_of) r k) (rolls_took g r k)
    acts_took (event.Join r x) = tells_took g r (Join x)
    acts_took (event.Admit r x) = tells_took g r (Admit x)
    acts_took (event.Remove r x) = tells_took g r (Remove x)
    acts_took (event.Ask r c n request) = tells_took g r (Client c n request)
    acts_took (event.Want c w) = wants_took g c (wanted (unwrap_or (core_of g.cores c) new_core) w)
    acts_took (event.Say c r) = says_took g c r (happening.said_if_any (contents batch_of) (core_of g.cores c))
    acts_took (event.Hear c k) = hears_took g c k (numbered g.answers k)
    acts_took (event.Margin r m) = tells_took g r (Margin m)
    acts_took (event.Again c) = ([], refl, tt)

    starts_nothing : (c : Conf) (limit : ℕ) (vs : List ℕ) (left : Left) → left ≡ happening.starts_all (contents batch_of) left c limit vs
    starts_nothing c limit [] left = refl
    starts_nothing c limit (v ∷ vs) left = starts_nothing c limit vs left

    begins_took : (limit : ℕ) (r : Result Conf ConfigFault) → Took g.field (happening.begins (contents batch_of) limit r g)
    begins_took limit (Err fault) = ([], refl, tt)
    begins_took limit (Ok c) = ([], starts_nothing c limit c.voters g.field, tt)

    acts_in_took : (o : Option Setup) (e : Event) → Took g.field (happening.acts_in (contents batch_of) o e g)
    acts_in_took None (event.Begin margin limit voters) = begins_took limit (conf_of margin voters)
    acts_in_took None e = ([], refl, tt)
    acts_in_took (Some setup) e = acts_took e

  happens_took : (e : Event) (g : G) → Took g.field (happens (contents batch_of) e g)
  happens_took e g = acts_in_took (record g { past = e ∷ g.past }) g.setup e

  -- ---- what a text takes
  abbrev P : Type 0
  P = Playing PeerMsg Left

  -- while playing goes on the field stands where the group has it
  abbrev IsOn : P → Type 0
  IsOn p = p.stands ≡ p.group.field

  abbrev TextTook : Left → Written P → Type 0
  TextTook left (On text p) = (front : Left) × (left ≡ front ++ p.stands) × AreBatches batch_of front × IsOn p
  TextTook left (Off text stop p) = (front : Left) × (left ≡ front ++ p.stands) × AreTaken batch_of (Some stop) front

  goes_on : (left : Left) (text : List ℕ) (p : P) (front : Left) → left ≡ front ++ p.stands → AreBatches batch_of front → (y : Written P) → TextTook p.stands y → TextTook left (onto text y)
  goes_on left text p front rest read (On more q) (later, more_rest, more_read, on) =
      (front ++ later, rest ∙ ap (λ (m : Left). front ++ m) more_rest ∙ sym (append_assoc front later q.stands), batches_first front later read more_read, on)
  goes_on left text p front rest read (Off more stop q) (later, more_rest, more_read) =
      (front ++ later, rest ∙ ap (λ (m : Left). front ++ m) more_rest ∙ sym (append_assoc front later q.stands), taken_after front later stop read more_read)

  follow_took : (left : Left) (x : Written P) (next : P → Written P) → TextTook left x → ((p : P) → IsOn p → TextTook p.stands (next p)) → TextTook left (follow x next)
  follow_took left (On text p) next (front, rest, read, on) later = goes_on left text p front rest read (next p) (later p on)
  follow_took left (Off text stop p) next took later = took

  module _ (p : P) (on : IsOn p) where
    within_took : (text : List ℕ) (g : G) (front : Left) → p.group.field ≡ front ++ g.field → AreBatches batch_of front → (o : Option Quantity) → TextTook p.stands (within_limits (contents batch_of) p text g o)
    within_took text g front rest read None = (front, on ∙ rest, read, refl)
    within_took text g front rest read (Some passed) = (front, on ∙ rest, read)

    happened_took : (e : Event) (h : Happening PeerMsg Left) → Took p.group.field h → TextTook p.stands (happened (contents batch_of) p e h)
    happened_took e (Happened came g) (front, rest, read) = within_took (happened_text p.group e came) g front rest read (passed_after g)
    happened_took e (Broken at f) (front, rest, none) = (front, on ∙ rest, none)
    happened_took e Unanswered took = ([], refl, tt)

    tried_took : (e : Event) (o : Option Quantity) → TextTook p.stands (tried (contents batch_of) p e o)
    tried_took e (Some passed) = ([], refl, tt)
    tried_took e None = happened_took e (happens (contents batch_of) e p.group) (happens_took e p.group)

    played_took : (e : Event) → TextTook p.stands (played (contents batch_of) p e)
    played_took e = tried_took e (passed_before p.group e)

  settled_took : (n : ℕ) (p : P) → IsOn p → TextTook p.stands (settled (contents batch_of) n p)
  settled_took zero p on = ([], refl, tt, on)
  settled_took (suc n) p on = by_next (settled_took n) (next_message p.group)
    where
      by_next : ((q : P) → IsOn q → TextTook q.stands (settled (contents batch_of) n q)) → (o : Option ℕ) → TextTook p.stands (elim o [ None ↦ On [] p | Some k ↦ follow (played (contents batch_of) p (event.Deliver k)) (settled (contents batch_of) n) ])
      by_next rest None = ([], refl, tt, on)
      by_next rest (Some k) = follow_took p.stands (played (contents batch_of) p (event.Deliver k)) (settled (contents batch_of) n) (played_took p on (event.Deliver k)) rest

  expanded_took : (p : P) → IsOn p → (e : Event) → TextTook p.stands (expanded (contents batch_of) p e)
  expanded_took p on (event.Settle n) = settled_took n p on
  expanded_took p on e = played_took p on e

  said_took : (p : P) → IsOn p → (r : Result (Option Event) RecordFault) → TextTook p.stands (said (contents batch_of) p r)
  said_took p on (Ok None) = ([], refl, tt, on)
  said_took p on (Ok (Some e)) = expanded_took (counted p) on e
  said_took p on (Err fault) = ([], refl, tt)

  records_took : (records : List Record) (p : P) → IsOn p → TextTook p.stands (records_played (contents batch_of) p records)
  unfolding all_written
  records_took [] p on = ([], refl, tt, on)
  records_took (fields ∷ records) p on =
      follow_took p.stands (record_played (contents batch_of) p fields) (λ q. records_played (contents batch_of) q records) (said_took p on (event_of false (is_some p.group.setup) fields)) (λ q still. records_took records q still)

  front_of : (left : Left) (x : Written P) → TextTook left x → (front : Left) × (left ≡ front ++ (last_of x).stands) × AreTaken batch_of (stop_of x) front
  front_of left (On text p) (front, rest, read, on) = (front, rest, read)
  front_of left (Off text stop p) took = took

  takes_front : (bytes : List ℕ) (given : Left) → TakesFront batch_of bytes given
  takes_front bytes given =
      let took = front_of given (played_from batch_of bytes given) (records_took (records_of bytes) (playing (nothing_started given)) refl) in
      record { front = took.0; rest = took.1; taken = took.2 }

  -- where none is left all are taken
  pub takes_all : (bytes : List ℕ) (given : Left) → left_from batch_of bytes given ≡ [] → TakesAll batch_of bytes given
  takes_all bytes given none =
      let took = takes_front bytes given in
      let all : took.front ≡ given = sym (took.rest ∙ ap (λ (m : Left). took.front ++ m) none ∙ append-nil took.front) in
      record { none_left = none; taken = subst (AreTaken batch_of (stop_from batch_of bytes given)) all took.taken }

pub text_takes_a_front : TextTakesAFront
text_takes_a_front batch_of bytes given = takes_front batch_of bytes given
