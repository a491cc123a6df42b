-- The events of a drill, in a world of five running replicas.
use Rattle.std.proofs.Common.{◌≡◌, ℕ, suc, ◌+◌, ◌<◌, not, true, false, Option, Some, None, Ok, List, [], ◌∷◌, ◌++◌, length, map, refl, sym, subst, ◌∙◌, arith}
use Rattle.std.specs.Prelude.{cond, find, option_map, unwrap_or}
use Rattle.std.specs.List.{range_with_len}
use Rattle.group_quorum.specs.Voters.{is_in}
use Rattle.values.specs.declared.event.Event.{Event}
use Rattle.values.specs.declared.event.Event.TheVariants as event
use Rattle.values.specs.declared.ids.ClientId.{ClientId}
use Rattle.values.specs.declared.message.Answer.{Answer}
use Rattle.values.specs.declared.want.Report.{Report}
use Rattle.values.specs.declared.want.Want.{Want}
use Rattle.schedule_model.specs.Client.{Core, new_core, wanted, heard}
use Rattle.schedule_model.specs.Refusals.{Lost, NotRunning, NotYours}
use Rattle.schedule_model.specs.Written.{On, follow}
use Rattle.replica_model.specs.Path.{Link}
use Rattle.replica_model.specs.Keyed.{value_at, put}
use Rattle.replica_model.specs.Replica.{Replica}
use Rattle.replica_model.specs.Message.{Message}
use Rattle.replica_model.specs.Call.{Call}
use Rattle.group_model.specs.Enclave.{HostInput, Peer, Enclave, calls, called}
use Rattle.group_model.specs.Group.{Sent, Answered, sent_by, answered_by, numbered, but, is_client, core_of, put_core, is_addressed, next_message}
use Rattle.group_model.specs.Happens as happening
use Rattle.group_model.specs.Happens.{Came, Passed, Replied, Happening, Happened, happens, came_of, hearing}
use Rattle.group_model.specs.Run.{Enclaves, World, enclaves}
use Rattle.trace_model.specs.Limits.{passed_before, starts_one}
use Rattle.trace_model.specs.Trace.{Playing, played, settled}
use Rattle.drill_laws.specs.Laws.{HoldsALog}
use Rattle.drill_laws.proofs.Setting.{five}
use Rattle.drill_laws.proofs.Follows.{Did}
use Rattle.drill_laws.proofs.Queue.{first_number, first_is, first_waits, popped}
use Rattle.drill_laws.proofs.Worlds.{Goes, goes_follow, At, Room, plays, room_before, room_after, after_call, call_is, call_at, noted, noted_at, acts_is}

module _ (link : Link) (p : Playing Message Enclaves) (P : Playing Message Enclaves → Type 0) where
  -- an event has happened
  goes_on : {q : List (Sent Message)} {enc : List (ℕ × Enclave)} {events messages : ℕ} {answers : List Answered} {cores : List (ClientId × Core)} (e : Event) (came : Came) (g : World)
      → happens (enclaves link) e p.group ≡ Happened came g → passed_before p.group e ≡ None → At g q enc events messages answers cores → Room messages answers cores
      → ((t : Playing Message Enclaves) → At t.group q enc events messages answers cores → P t) → Goes (played (enclaves link) p e) P
  goes_on e came g is before at room next =
      subst (λ w. Goes w P) (sym (plays link p e came g is before (room_after at room))) (next (record p { group = g; stands = g.field }) at)

  module _ {q : List (Sent Message)} {enc : List (ℕ × Enclave)} {events messages : ℕ} {answers : List Answered} {cores : List (ClientId × Core)} (a : At p.group q enc events messages answers cores)
      (few : events < 1000000) where
    -- there is room for an event that begins no replica
    has_room : (ev : Event) → starts_one p.group ev ≡ false → passed_before p.group ev ≡ None
    has_room ev none = room_before p.group ev none (omega (arith, few, a.past_is))

    -- a replica is called
    module _ (ev : Event) (none : starts_one p.group ev ≡ false) (r : ℕ) (runs : is_in five r ≡ true) (input : HostInput Message)
        (tells : happening.acts (enclaves link) ev (noted link p ev) ≡ happening.tells (enclaves link) r input (noted link p ev))
        (e : Enclave) (here : value_at enc r ≡ Some e) (holds : HoldsALog e.replica.role) {c : Call} {now : Replica} {sent : List (ℕ × Message)} {outs : List (ClientId × ℕ × Answer)}
        (d : Did c now sent outs) (is : called link e input ≡ calls e c) (room : Room (messages + length sent) (answers ++ map (answered_by r) outs) cores) where
      w_at : At (noted link p ev) q enc (events + 1) messages answers cores
      w_at = noted_at ev a a.mail a.cores_are

      pub call_goes : ((t : Playing Message Enclaves) → At t.group (q ++ map (sent_by r) sent) (put enc r (record e { replica = now })) (events + 1) (messages + length sent) (answers ++ map (answered_by r) outs) cores → P t)
          → Goes (played (enclaves link) p ev) P
      call_goes next =
          goes_on ev (Replied r c.batch) (after_call link w_at r input e c is)
          (acts_is link p ev a.runs
          ∙ tells
          ∙ (λ i. happening.refused_if (enclaves link) (not (is_in (a.runs.five_run i) r)) (NotRunning r) (noted link p ev) (happening.calls (enclaves link) r input))
          ∙ (λ i. happening.refused_if (enclaves link) (not (runs i)) (NotRunning r) (noted link p ev) (happening.calls (enclaves link) r input))
          ∙ call_is link w_at r input e c is here)
          (has_room ev none) (call_at link w_at r input e c is holds d) room next

    -- a client's want is taken up
    pub want_goes : (c : ClientId) (want : Want) (core : Core) → wanted (unwrap_or (core_of cores c) new_core) want ≡ Ok core → Room messages answers (put_core cores c core)
        → ((t : Playing Message Enclaves) → At t.group q enc (events + 1) messages answers (put_core cores c core) → P t) → Goes (played (enclaves link) p (event.Want c want)) P
    want_goes c want core is room next =
        let ev : Event = event.Want c want in
        let w : World = noted link p ev in
        goes_on ev Passed (record w { cores = put_core w.cores c core })
        (acts_is link p ev a.runs
        ∙ (λ i. happening.wants (enclaves link) c (wanted (unwrap_or (core_of (a.cores_are i) c) new_core) want) w)
        ∙ (λ i. happening.wants (enclaves link) c (is i) w))
        (has_room ev refl) (noted_at ev a a.mail (λ i. put_core (a.cores_are i) c core)) room next

    -- a client hears an answer to it
    pub hear_goes : (c : ClientId) (number : ℕ) (x : Answered) (core after : Core) (report : Option Report) → numbered answers number ≡ Some x → is_client x.client c ≡ true → core_of cores c ≡ Some core
        → heard core x.number x.answer ≡ (after, report) → Room messages answers (put_core cores c after)
        → ((t : Playing Message Enclaves) → At t.group q enc (events + 1) messages answers (put_core cores c after) → P t) → Goes (played (enclaves link) p (event.Hear c number)) P
    hear_goes c number x core after report answer_is own core_is heard_is room next =
        let ev : Event = event.Hear c number in
        let w : World = noted link p ev in
        goes_on ev (came_of (enclaves link) c report) (record w { cores = put_core w.cores c after; hearings = hearing (enclaves link) c core x report ∷ w.hearings })
        (acts_is link p ev a.runs
        ∙ (λ i. happening.hears (enclaves link) c number (numbered (a.answers_are i) number) w)
        ∙ (λ i. happening.hears (enclaves link) c number (answer_is i) w)
        ∙ (λ i. happening.refused_if (enclaves link) (not (own i)) (NotYours number) w (happening.hears_with (enclaves link) c x (core_of w.cores c)))
        ∙ (λ i. happening.hears_with (enclaves link) c x (core_of (a.cores_are i) c) w)
        ∙ (λ i. happening.hears_with (enclaves link) c x (core_is i) w)
        ∙ (λ i. happening.hears_report (enclaves link) c core x (heard_is i) w))
        (has_room ev refl) (noted_at ev a a.mail (λ i. put_core (a.cores_are i) c after)) room next

-- the first message that waits is delivered
module _ (link : Link) (p : Playing Message Enclaves) (P : Playing Message Enclaves → Type 0) {m : Sent Message} {ms : List (Sent Message)} {enc : List (ℕ × Enclave)} {events messages : ℕ} {answers : List Answered}
    {cores : List (ClientId × Core)} (a : At p.group (m ∷ ms) enc events messages answers cores) (few : events < 1000000) (runs : is_in five m.to ≡ true) (e : Enclave) (here : value_at enc m.to ≡ Some e)
    (holds : HoldsALog e.replica.role) {c : Call} {now : Replica} {sent : List (ℕ × Message)} {outs : List (ClientId × ℕ × Answer)} (d : Did c now sent outs)
    (is : called link e (Peer m.from m.to m.message) ≡ calls e c) (room : Room (messages + length sent) (answers ++ map (answered_by m.to) outs) cores) where
  abbrev k : ℕ
  k = first_number p.group.waiting p.group.messages (m ∷ ms) a.mail

  abbrev delivery : Event
  delivery = event.Deliver k

  abbrev there : World
  there = noted link p delivery

  abbrev handed : World
  handed = record there { waiting = but k p.group.waiting }

  handed_at : At handed ms enc (events + 1) messages answers cores
  handed_at = noted_at delivery a (popped p.group.waiting p.group.messages m ms a.mail) a.cores_are

  first_is' : numbered p.group.messages k ≡ Some m
  first_is' = first_is p.group.waiting p.group.messages m ms a.mail

  next_is : next_message p.group ≡ Some k
  next_is =
      (λ i. find (is_addressed p.group) (first_waits p.group.waiting p.group.messages m ms a.mail i))
      ∙ (λ i. cond (unwrap_or (option_map (λ (x : Sent Message). is_in (a.runs.five_run i) x.to) (first_is' i)) false) (Some k) (find (is_addressed p.group) (range_with_len (k + 1) (length ms))))
      ∙ (λ i. cond (runs i) (Some k) (find (is_addressed p.group) (range_with_len (k + 1) (length ms))))

  delivered : happens (enclaves link) delivery p.group ≡ Happened (Replied m.to c.batch) (after_call link handed_at m.to (Peer m.from m.to m.message) e c is)
  delivered =
      acts_is link p delivery a.runs
      ∙ (λ i. happening.delivers (enclaves link) k (first_is' i) there)
      ∙ (λ i. happening.refused_if (enclaves link) (is_in (a.runs.none_lost i) k) (Lost k) there (λ x. happening.running (enclaves link) m.to x (happening.hands (enclaves link) k m)))
      ∙ (λ i. happening.refused_if (enclaves link) (not (is_in (a.runs.five_run i) m.to)) (NotRunning m.to) there (happening.hands (enclaves link) k m))
      ∙ (λ i. happening.refused_if (enclaves link) (not (runs i)) (NotRunning m.to) there (happening.hands (enclaves link) k m))
      ∙ call_is link handed_at m.to (Peer m.from m.to m.message) e c is here

  pub delivery_goes : (n : ℕ)
      → ((t : Playing Message Enclaves) → At t.group (ms ++ map (sent_by m.to) sent) (put enc m.to (record e { replica = now })) (events + 1) (messages + length sent) (answers ++ map (answered_by m.to) outs) cores → Goes (settled (enclaves link) n t) P)
      → Goes (settled (enclaves link) (suc n) p) P
  delivery_goes n next =
      subst (λ (o : Option ℕ). Goes (elim o [ None ↦ On [] p | Some j ↦ follow (played (enclaves link) p (event.Deliver j)) (settled (enclaves link) n) ]) P) (sym next_is)
      (goes_follow P (played (enclaves link) p delivery) (settled (enclaves link) n)
      (goes_on link p (λ s. Goes (settled (enclaves link) n s) P) delivery (Replied m.to c.batch) (after_call link handed_at m.to (Peer m.from m.to m.message) e c is) delivered
      (room_before p.group delivery refl (omega (arith, few, a.past_is))) (call_at link handed_at m.to (Peer m.from m.to m.message) e c is holds d) room next))
