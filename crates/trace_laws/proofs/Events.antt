-- Each event happens alike where contents answer its calls.
use Rattle.std.proofs.Common.{◌≡◌, ℕ, zero, suc, ◌==◌, ◌-◌, not, Bool, true, false, Option, Some, None, Result, Ok, Err, List, [], ◌∷◌, ◌++◌, length, map, slice_get, refl, sym, ap, subst, ◌∙◌}
use Rattle.std.specs.Prelude.{option_map, unwrap_or, nat_le, is_some, is_none, if◌then◌else◌}
use Rattle.std.specs.List.{AllByRecursion}
use Rattle.std.proofs.lemmas.List.{append_assoc}
use Rattle.group_quorum.specs.Conf.{Conf}
use Rattle.group_quorum.specs.Voters.{conf_of, insert_rising, is_in}
use Rattle.group_quorum.specs.declared.ConfigFault.{ConfigFault}
use Rattle.values.specs.declared.batch.Batch.{Batch}
use Rattle.values.specs.declared.event.Event.{Event}
use Rattle.values.specs.declared.event.Event.TheVariants as event
use Rattle.values.specs.declared.ids.ClientId.{ClientId}
use Rattle.values.specs.declared.peer.PeerMsg.{PeerMsg}
use Rattle.values.specs.declared.want.WantFault.{WantFault}
use Rattle.schedule_model.specs.Client.{Core, new_core, wanted}
use Rattle.schedule_model.specs.Refusals.{GroupRefusal}
use Rattle.schedule_model.specs.Reading.{max_u32}
use Rattle.replica_model.specs.Path.{Link}
use Rattle.replica_model.specs.Keyed.{value_at}
use Rattle.replica_model.specs.Message.{Message}
use Rattle.replica_model.specs.Replica.{Replica}
use Rattle.group_model.specs.Enclave.{Begin, Learn, Hello, hello_id, HostInput, Tick, Peer, Client, Join, Admit, Remove, Save, Roll, Connect, Margin, Enclave, Called, saves_if, rolls_to, accepts, called, started}
use Rattle.group_model.specs.Field.{Reply, Answers, Unreadable, Nothing}
use Rattle.group_model.specs.Group.{Setup, Group, Sent, Answered, numbered, but, core_of, saves_of, is_client, keeps}
use Rattle.group_model.specs.Happens as happening
use Rattle.group_model.specs.Happens.{Came, Replied, Passed, Happening, Happened, Broken, Unanswered, rolled_back, happens}
use Rattle.group_model.specs.Run.{Recorded, Enclaves, World, moves, newly, start_enclave, call_enclave, enclaves}
use Rattle.trace_model.specs.Contents.{ReadsBatch, next_reply, reply_by, contents}
use Rattle.trace_laws.proofs.Shadow.{Left, plainly, shadow, numbered_shadow, keeps_shadow, rolled_shadow, content_of, ReadBack, contents_then, then_append}

-- ---- the messages of a call stand in its batch
abbrev SentInBatch : Called → Type 0
SentInBatch c = c.call.batch.sent ≡ map (λ (m : ℕ × Message). (m.0, m.1.msg)) c.call.sent

module _ (link : Link) (e : Enclave) where
  accepted_sent : (mine linked : Bool) (from to : ℕ) (m : Message) → SentInBatch (accepts mine linked link e from to m)
  accepted_sent false linked from to m = refl
  accepted_sent true false from to m = refl
  accepted_sent true true from to m = refl

  saved_sent : (room : Bool) → SentInBatch (saves_if room e)
  saved_sent true = refl
  saved_sent false = refl

  rolled_sent : (k : ℕ) (o : Option Replica) → SentInBatch (rolls_to e k o)
  rolled_sent k None = refl
  rolled_sent k (Some s) = refl

  called_sent : (input : HostInput Message) → SentInBatch (called link e input)
  called_sent Tick = refl
  called_sent (Peer from to m) = accepted_sent (to == e.replica.me) (is_in e.links from) from to m
  called_sent (Client client number bytes) = refl
  called_sent (Join id) = refl
  called_sent (Admit id) = refl
  called_sent (Remove id) = refl
  called_sent Save = saved_sent (not (length e.saved - 1 == max_u32))
  called_sent (Roll k) = rolled_sent k (slice_get e.saved k)
  called_sent (Connect id) = refl
  called_sent (Margin margin) = refl

module _ (batch_bytes : ℕ → Batch → List ℕ) (batch_of : ReadsBatch) (link : Link) where
  abbrev pub AllRead : List Recorded → Type 0
  AllRead new = AllByRecursion (ReadBack batch_bytes batch_of) new

  -- what happened happens alike, where its calls are answered by their contents. Where no answer comes none comes either
  -- where no content is left
  abbrev pub Alike : List Recorded → (Left → Happening PeerMsg Left) → Happening Message Enclaves → Type 0
  Alike old after (Happened came g) =
      (new : List Recorded) × (g.field.history ≡ new ++ old)
      × (AllRead new → (rest : Left) → after (contents_then batch_bytes batch_of new rest) ≡ Happened came (shadow g rest))
  Alike old after (Broken at f) = ⊥
  Alike old after Unanswered = after [] ≡ Unanswered

  pub read_left : (new old : List Recorded) → AllRead (new ++ old) → AllRead new × AllRead old
  read_left [] old h = (tt, h)
  read_left (r ∷ new) old h = let rest = read_left new old h.1 in ((h.0, rest.0), rest.1)

  -- a call first
  one_call : (r : Recorded) (old : List Recorded) (after later : Left → Happening PeerMsg Left) → is_some r.input ≡ true → (ReadBack batch_bytes batch_of r → (rest : Left) → after (content_of batch_bytes batch_of r ∷ rest) ≡ later rest) → after [] ≡ Unanswered
      → (h : Happening Message Enclaves) → Alike (r ∷ old) later h → Alike old after h
  one_call r old after later given answers none (Happened came g) (new, history, alike) = (
    new ++ r ∷ [],
    history ∙ sym (append_assoc new (r ∷ []) old),
    λ read rest.
        let parts = read_left new (r ∷ []) read in
        ap after (then_append batch_bytes batch_of new (r ∷ []) rest
        ∙ ap (λ (b : Bool). if b then content_of batch_bytes batch_of r ∷ contents_then batch_bytes batch_of new rest else contents_then batch_bytes batch_of new rest) given)
        ∙ answers parts.1.0 (contents_then batch_bytes batch_of new rest)
        ∙ alike parts.0 rest,
  )
  one_call r old after later given answers none (Broken at f) alike = alike
  one_call r old after later given answers none Unanswered alike = none

  -- a start first
  one_start : (r : Recorded) (old : List Recorded) (after : Left → Happening PeerMsg Left) → is_some r.input ≡ false → (h : Happening Message Enclaves) → Alike (r ∷ old) after h → Alike old after h
  one_start r old after given (Happened came g) (new, history, alike) = (
    new ++ r ∷ [],
    history ∙ sym (append_assoc new (r ∷ []) old),
    λ read rest.
        ap after (then_append batch_bytes batch_of new (r ∷ []) rest
        ∙ ap (λ (b : Bool). if b then content_of batch_bytes batch_of r ∷ contents_then batch_bytes batch_of new rest else contents_then batch_bytes batch_of new rest) given)
        ∙ alike (read_left new (r ∷ []) read).0 rest,
  )
  one_start r old after given (Broken at f) alike = alike
  one_start r old after given Unanswered alike = alike

  -- a batch that a content says
  says_batch : (r : Recorded) (rest : Left) → ReadBack batch_bytes batch_of r → next_reply batch_of (content_of batch_bytes batch_of r ∷ rest) ≡ Answers r.call.batch r.call.batch.sent rest
  says_batch r rest read = ap (reply_by rest) read

  module _ (g : World) where
    abbrev Old : List Recorded
    Old = g.field.history

    refused_if_alike : (b : Bool) (refusal : GroupRefusal) (next : World → Happening Message Enclaves) (after : Group PeerMsg Left → Happening PeerMsg Left) → Alike Old (λ left. after (shadow g left)) (next g)
        → Alike Old (λ left. happening.refused_if (contents batch_of) b refusal (shadow g left) after) (happening.refused_if (enclaves link) b refusal g next)
    refused_if_alike true refusal next after alike = ([], refl, λ read rest. refl)
    refused_if_alike false refusal next after alike = alike

    calls_alike : (r : ℕ) (input : HostInput Message) (o : Option Enclave) → Alike Old (λ left. happening.replied (contents batch_of) r (shadow g left) (next_reply batch_of left)) (happening.replied (enclaves link) r g (call_enclave link g.field r input o))
    calls_alike r input None = refl
    calls_alike r input (Some e) =
        let c : Called = called link e input in
        let now : Recorded = record { replica = r; before = e.replica; input = Some input; call = c.call } in (
          now ∷ [],
          refl,
          λ read rest.
              ap (happening.replied (contents batch_of) r (shadow g (content_of batch_bytes batch_of now ∷ rest))) (says_batch now rest read.0)
              ∙ ap (λ (h : Group PeerMsg Left). Happened (Replied r c.call.batch) h) (keeps_shadow g (content_of batch_bytes batch_of now ∷ rest) rest r c.call.batch c.call.sent (moves g.field r e.replica (Some input) c) (called_sent link e input)),
        )

    tells_alike : (r : ℕ) (input : HostInput Message) (shown : HostInput PeerMsg) → Alike Old (λ left. happening.tells (contents batch_of) r shown (shadow g left)) (happening.tells (enclaves link) r input g)
    tells_alike r input shown = refused_if_alike (not (is_in g.running r)) _ (happening.calls (enclaves link) r input) (happening.calls (contents batch_of) r shown) (calls_alike r input (value_at g.field.running r))

    rolled_alike : (r k : ℕ) (o : Option Enclave) → Alike Old (λ left. happening.rolled (contents batch_of) r (shadow g left) (next_reply batch_of left)) (happening.rolled (enclaves link) r g (call_enclave link g.field r (Roll k) o))
    rolled_alike r k None = refl
    rolled_alike r k (Some e) =
        let c : Called = called link e (Roll k) in
        let now : Recorded = record { replica = r; before = e.replica; input = Some (Roll k); call = c.call } in
        let f : Enclaves = moves g.field r e.replica (Some (Roll k)) c in (
          now ∷ [],
          rolled_history (is_none c.call.batch.refused) (keeps g r c.call.batch c.call.sent f),
          λ read rest.
              ap (happening.rolled (contents batch_of) r (shadow g (content_of batch_bytes batch_of now ∷ rest))) (says_batch now rest read.0)
              ∙ ap (λ (h : Group PeerMsg Left). Happened (Replied r c.call.batch) (rolled_back (contents batch_of) r c.call.batch h)) (keeps_shadow g (content_of batch_bytes batch_of now ∷ rest) rest r c.call.batch c.call.sent f (called_sent link e (Roll k)))
              ∙ ap (λ (h : Group PeerMsg Left). Happened (Replied r c.call.batch) h) (rolled_shadow (keeps g r c.call.batch c.call.sent f) rest r (is_none c.call.batch.refused)),
        )
      where
        rolled_history : (b : Bool) (h : World) → (if b then record h { rolled = r ∷ h.rolled } else h).field.history ≡ h.field.history
        rolled_history true h = refl
        rolled_history false h = refl

    -- ---- a learner starts
    connected_alike : (x : ℕ) (rs : List ℕ) (f : Enclaves) (next : Enclaves → Happening Message Enclaves) (after : Left → Happening PeerMsg Left) → ((f : Enclaves) → Alike f.history after (next f))
        → Alike f.history (λ left. happening.connected (contents batch_of) x rs left after) (happening.connected (enclaves link) x rs f next)
    connected_alike x [] f next after alike = alike f
    connected_alike x (r ∷ rs) f next after alike = by_enclave (λ f. connected_alike x rs f next after alike) (value_at f.running r)
      where
        by_enclave : ((f : Enclaves) → Alike f.history (λ left. happening.connected (contents batch_of) x rs left after) (happening.connected (enclaves link) x rs f next)) → (o : Option Enclave)
            → Alike f.history (λ left. happening.connected (contents batch_of) x (r ∷ rs) left after) (elim (call_enclave link f r (Connect x) o) [ Answers batch sent h ↦ happening.connected (enclaves link) x rs h next | Unreadable at f ↦ Broken at f | Nothing ↦ Unanswered ])
        by_enclave later None = refl
        by_enclave later (Some e) =
            let c : Called = called link e (Connect x) in
            let now : Recorded = record { replica = r; before = e.replica; input = Some (Connect x); call = c.call } in
            one_call now f.history (λ left. happening.connected (contents batch_of) x (r ∷ rs) left after) (λ left. happening.connected (contents batch_of) x rs left after) refl
            (λ read rest. ap (λ (o : Reply PeerMsg Left). elim o [ Answers batch sent h ↦ happening.connected (contents batch_of) x rs h after | Unreadable at f ↦ Broken at f | Nothing ↦ Unanswered ]) (says_batch now rest read))
            refl
            (happening.connected (enclaves link) x rs (moves f r e.replica (Some (Connect x)) c) next) (later (moves f r e.replica (Some (Connect x)) c))

    starts_alike : (x : ℕ) → Alike Old (λ left. happening.starts (contents batch_of) x (shadow g left)) (happening.starts (enclaves link) x g)
    starts_alike x =
        let hello : Hello = Learn x g.running in
        one_start (record { replica = hello_id hello; before = (started hello).replica; input = None; call = (newly (started hello)).call }) Old (λ left. happening.starts (contents batch_of) x (shadow g left)) refl (happening.starts (enclaves link) x g)
        (connected_alike x g.running (start_enclave g.field hello) (λ f. Happened Passed (record g { running = insert_rising x g.running; started = x ∷ g.started; field = f }))
        (λ left. Happened Passed (shadow (record g { running = insert_rising x g.running; started = x ∷ g.started }) left)) (λ f. ([], refl, λ read rest. refl)))

    -- ---- the others
    loses_alike : (k : ℕ) (o : Option (Sent Message)) → Alike Old (λ left. happening.loses (contents batch_of) k (option_map plainly o) (shadow g left)) (happening.loses (enclaves link) k o g)
    loses_alike k None = ([], refl, λ read rest. refl)
    loses_alike k (Some m) =
        refused_if_alike (is_in g.lost k) _ (λ g. Happened Passed (record g { lost = k ∷ g.lost; waiting = but k g.waiting })) (λ g. Happened Passed (record g { lost = k ∷ g.lost; waiting = but k g.waiting }))
        ([], refl, λ read rest. refl)

    wants_alike : (c : ClientId) (r : Result Core WantFault) → Alike Old (λ left. happening.wants (contents batch_of) c r (shadow g left)) (happening.wants (enclaves link) c r g)
    wants_alike c (Err fault) = ([], refl, λ read rest. refl)
    wants_alike c (Ok core) = ([], refl, λ read rest. refl)

    says_alike : (c : ClientId) (r : ℕ) (o : Option (ℕ × List ℕ)) → Alike Old (λ left. happening.says (contents batch_of) c r o (shadow g left)) (happening.says (enclaves link) c r o g)
    says_alike c r None = ([], refl, λ read rest. refl)
    says_alike c r (Some (number, request)) = tells_alike r (Client c number request) (Client c number request)

    hears_with_alike : (c : ClientId) (a : Answered) (o : Option Core) → Alike Old (λ left. happening.hears_with (contents batch_of) c a o (shadow g left)) (happening.hears_with (enclaves link) c a o g)
    hears_with_alike c a None = ([], refl, λ read rest. refl)
    hears_with_alike c a (Some core) = ([], refl, λ read rest. refl)

    hears_alike : (c : ClientId) (k : ℕ) (o : Option Answered) → Alike Old (λ left. happening.hears (contents batch_of) c k o (shadow g left)) (happening.hears (enclaves link) c k o g)
    hears_alike c k None = ([], refl, λ read rest. refl)
    hears_alike c k (Some a) =
        refused_if_alike (not (is_client a.client c)) _ (happening.hears_with (enclaves link) c a (core_of g.cores c)) (happening.hears_with (contents batch_of) c a (core_of g.cores c))
        (hears_with_alike c a (core_of g.cores c))

  module _ (g : World) where
    delivers_alike : (k : ℕ) (o : Option (Sent Message)) → Alike (Old g) (λ left. happening.delivers (contents batch_of) k (option_map plainly o) (shadow g left)) (happening.delivers (enclaves link) k o g)
    delivers_alike k None = ([], refl, λ read rest. refl)
    delivers_alike k (Some m) =
        refused_if_alike g (is_in g.lost k) _ (λ g. happening.running (enclaves link) m.to g (happening.hands (enclaves link) k m)) (λ g. happening.running (contents batch_of) m.to g (happening.hands (contents batch_of) k (plainly m)))
        (refused_if_alike g (not (is_in g.running m.to)) _ (happening.hands (enclaves link) k m) (happening.hands (contents batch_of) k (plainly m))
        (calls_alike (record g { waiting = but k g.waiting }) m.to (Peer m.from m.to m.message) (value_at g.field.running m.to)))

    acts_alike : (e : Event) → Alike (Old g) (λ left. happening.acts (contents batch_of) e (shadow g left)) (happening.acts (enclaves link) e g)
    acts_alike (event.Begin margin limit voters) = ([], refl, λ read rest. refl)
    acts_alike (event.Start zero) = ([], refl, λ read rest. refl)
    acts_alike (event.Start (suc r)) = refused_if_alike g (is_in g.started (suc r)) _ (happening.starts (enclaves link) (suc r)) (happening.starts (contents batch_of) (suc r)) (starts_alike g (suc r))
    acts_alike (event.Tick r) = tells_alike g r Tick Tick
    acts_alike (event.Deliver k) =
        subst (λ o. Alike (Old g) (λ left. happening.delivers (contents batch_of) k o (shadow g left)) (happening.delivers (enclaves link) k (numbered g.messages k) g)) (sym (numbered_shadow g.messages k)) (delivers_alike k (numbered g.messages k))
    acts_alike (event.Lose k) =
        subst (λ o. Alike (Old g) (λ left. happening.loses (contents batch_of) k o (shadow g left)) (happening.loses (enclaves link) k (numbered g.messages k) g)) (sym (numbered_shadow g.messages k)) (loses_alike g k (numbered g.messages k))
    acts_alike (event.Settle n) = ([], refl, λ read rest. refl)
    acts_alike (event.Crash r) = refused_if_alike g (not (is_in g.running r)) _ (happening.crashes (enclaves link) r) (happening.crashes (contents batch_of) r) ([], refl, λ read rest. refl)
    acts_alike (event.Save r) = tells_alike g r Save Save
    acts_alike (event.Roll r k) =
        refused_if_alike g (not (is_in g.running r)) _ (happening.rolls (enclaves link) r k) (happening.rolls (contents batch_of) r k)
        (refused_if_alike g (not (nat_le k (saves_of g.saves r))) _ (λ g. happening.rolled (enclaves link) r g ((enclaves link).call g.field r (Roll k))) (λ g. happening.rolled (contents batch_of) r g ((contents batch_of).call g.field r (Roll k)))
        (rolled_alike g r k (value_at g.field.running r)))
    acts_alike (event.Join r x) = tells_alike g r (Join x) (Join x)
    acts_alike (event.Admit r x) = tells_alike g r (Admit x) (Admit x)
    acts_alike (event.Remove r x) = tells_alike g r (Remove x) (Remove x)
    acts_alike (event.Ask r c n request) = tells_alike g r (Client c n request) (Client c n request)
    acts_alike (event.Want c w) = wants_alike g c (wanted (unwrap_or (core_of g.cores c) new_core) w)
    acts_alike (event.Say c r) = says_alike g c r (happening.said_if_any (enclaves link) (core_of g.cores c))
    acts_alike (event.Hear c k) = hears_alike g c k (numbered g.answers k)
    acts_alike (event.Margin r m) = tells_alike g r (Margin m) (Margin m)
    acts_alike (event.Again c) = ([], refl, λ read rest. refl)

    starts_all_alike : (c : Conf) (limit : ℕ) (vs : List ℕ) (f : Enclaves) (after : Left → Happening PeerMsg Left) (h : Happening Message Enclaves) → Alike (happening.starts_all (enclaves link) f c limit vs).history after h → Alike f.history after h
    starts_all_alike c limit [] f after h alike = alike
    starts_all_alike c limit (v ∷ vs) f after h alike =
        let hello : Hello = Begin v c.margin limit c.voters in
        one_start (record { replica = hello_id hello; before = (started hello).replica; input = None; call = (newly (started hello)).call }) f.history after refl h
        (starts_all_alike c limit vs (start_enclave f hello) after h alike)

    starts_nothing : (c : Conf) (limit : ℕ) (vs : List ℕ) (left : Left) → happening.starts_all (contents batch_of) left c limit vs ≡ left
    starts_nothing c limit [] left = refl
    starts_nothing c limit (v ∷ vs) left = starts_nothing c limit vs left

    begins_alike : (limit : ℕ) (r : Result Conf ConfigFault) → Alike (Old g) (λ left. happening.begins (contents batch_of) limit r (shadow g left)) (happening.begins (enclaves link) limit r g)
    begins_alike limit (Err fault) = ([], refl, λ read rest. refl)
    begins_alike limit (Ok c) =
        starts_all_alike c limit c.voters g.field (λ left. happening.begins (contents batch_of) limit (Ok c) (shadow g left)) (happening.begins (enclaves link) limit (Ok c) g)
        ([], refl, λ read rest. ap (λ (left : Left). Happened Passed (shadow (record g { setup = Some (record { limit = limit; first = c }); running = c.voters; started = c.voters; confs = c ∷ g.confs; field = happening.starts_all (enclaves link) g.field c limit c.voters }) left)) (starts_nothing c limit c.voters rest))

    acts_in_alike : (o : Option Setup) (e : Event) → Alike (Old g) (λ left. happening.acts_in (contents batch_of) o e (shadow g left)) (happening.acts_in (enclaves link) o e g)
    acts_in_alike None (event.Begin margin limit voters) = begins_alike limit (conf_of margin voters)
    acts_in_alike None e = ([], refl, λ read rest. refl)
    acts_in_alike (Some setup) e = acts_alike e

  pub happens_alike : (e : Event) (g : World) → Alike g.field.history (λ left. happens (contents batch_of) e (shadow g left)) (happens (enclaves link) e g)
  happens_alike e g = acts_in_alike (record g { past = e ∷ g.past }) g.setup e
