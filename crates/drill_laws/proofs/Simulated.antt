-- Messages of a round are delivered as its course says.
use Rattle.std.proofs.Common.{◌≡◌, ℕ, zero, suc, ◌+◌, ◌≤◌, ◌<◌, ◌&&◌, ◌||◌, Bool, true, false, Option, Some, List, [], ◌∷◌, ◌++◌, length, map, refl, sym, subst, ◌∙◌, arith}
use Rattle.std.specs.Prelude.{nat_lt, cond}
use Rattle.std.proofs.lemmas.Bool.{and_parts, or_parts, ltb-true, not-true}
use Rattle.std.proofs.lemmas.List.{append-nil, append_assoc, length-append, map-append}
use Rattle.group_quorum.specs.Voters.{is_in}
use Rattle.values.specs.declared.entry.LogEntry.{LogEntry}
use Rattle.values.specs.declared.ids.ClientId.{ClientId}
use Rattle.values.specs.declared.limits.TheConstants.{MOST_ROWS}
use Rattle.record_rules.specs.Places.{ClientAsk}
use Rattle.replica_model.specs.Path.{Path, Link}
use Rattle.replica_model.specs.Keyed.{value_at, put}
use Rattle.replica_model.specs.Replica.{Replica}
use Rattle.replica_model.specs.Message.{Message}
use Rattle.replica_model.specs.Call as step
use Rattle.replica_model.specs.Step.{step as step_of}
use Rattle.schedule_model.specs.Client.{Core}
use Rattle.group_model.specs.Enclave.{Enclave, started, Begin, Peer, calls, called}
use Rattle.group_model.specs.Group.{Sent, Answered, sent_by, answered_by}
use Rattle.group_model.specs.Run.{Enclaves, World, enclaves}
use Rattle.trace_model.specs.Trace.{Playing, settled}
use Rattle.drill_laws.proofs.Setting.{five, follower, Who, each, id_of, of, four_of, whole, offer, acceptance, at}
use Rattle.drill_laws.proofs.Follows.{Did, hears_entry, hears_more}
use Rattle.drill_laws.proofs.Leads.{IsPlain, outcomes, Round, Led, taken, commits_by, rises, rose, leads, hears}
use Rattle.drill_laws.proofs.Asking.{round_of}
use Rattle.drill_laws.proofs.Worlds.{Goes, At, Room, restated}
use Rattle.drill_laws.proofs.Events.{delivery_goes}
use Rattle.drill_laws.proofs.Rounds.{Has, Note, Entry, Raised, Taken, Course, raised_to_all, follows_on, raised_has, goes_by, goes, fits, all_fit, after_steps}

module _ (link : Link) (known : ℕ) (p : Path) (e : LogEntry) (own : e.term ≡ 1) (no_members : IsPlain (p ++ e ∷ [])) (o : Option ClientAsk) where
  abbrev pub q : Path
  q = p ++ e ∷ []

  abbrev round : Round
  round = round_of p e own no_members o

  abbrev A : Bool → ℕ
  A b = at q (length p) b

  abbrev pub enclave_at : ℕ → Replica → Enclave
  enclave_at v s = record (started (Begin v 1 MOST_ROWS five)) { replica = s }

  abbrev follows : ℕ → Has → Replica
  follows v h = follower v (cond h.entry 1 known) (cond h.entry q p) (A h.promised) (A h.committed)

  abbrev pub runs : Course → List (ℕ × Enclave)
  runs c =
      (1, enclave_at 1 (leads link round c.leader))
      ∷ (2, enclave_at 2 (follows 2 c.followers.two))
      ∷ (3, enclave_at 3 (follows 3 c.followers.three))
      ∷ (4, enclave_at 4 (follows 4 c.followers.four))
      ∷ (5, enclave_at 5 (follows 5 c.followers.five))
      ∷ []

  -- what they say to each other is handed to their replicas
  follower_called : (v : Who) (h : Has) (m : Message) → called link (enclave_at (id_of v) (follows (id_of v) h)) (Peer 1 (id_of v) m) ≡ calls (enclave_at (id_of v) (follows (id_of v) h)) (step_of link (follows (id_of v) h) (step.Peer 1 m))
  follower_called v h m = each (λ w. called link (enclave_at (id_of w) (follows (id_of w) h)) (Peer 1 (id_of w) m) ≡ calls (enclave_at (id_of w) (follows (id_of w) h)) (step_of link (follows (id_of w) h) (step.Peer 1 m))) refl refl refl refl v

  leader_called : (v : Who) (led : Led) (m : Message) → called link (enclave_at 1 (leads link round led)) (Peer (id_of v) 1 m) ≡ calls (enclave_at 1 (leads link round led)) (step_of link (leads link round led) (step.Peer (id_of v) m))
  leader_called v led m = each (λ w. called link (enclave_at 1 (leads link round led)) (Peer (id_of w) 1 m) ≡ calls (enclave_at 1 (leads link round led)) (step_of link (leads link round led) (step.Peer (id_of w) m))) refl refl refl refl v

  abbrev pub mail_of : Note → Sent Message
  mail_of (Entry v) = record { from = 1; to = id_of v; message = offer (whole link p) (e ∷ []) (length p) (length p) }
  mail_of (Raised v x y) = record { from = 1; to = id_of v; message = offer (whole link q) [] (A x) (A y) }
  mail_of (Taken v x) = record { from = id_of v; to = 1; message = acceptance (whole link q) (A x) }

  -- what the leader answers when it commits the entry
  abbrev pub news : List Answered
  news = map (answered_by 1) (outcomes q o)

  module _ (E0 M0 : ℕ) (A0 : List Answered) (cores : List (ClientId × Core)) (few : E0 + 32 ≤ 1000000) (room : Room (M0 + 44) (A0 ++ news) cores) where
    abbrev answered : Bool → List Answered
    answered b = A0 ++ cond b news []

    abbrev StandsWith : World → Course → List Note → Type 0
    StandsWith w c notes = At w (map mail_of notes) (runs c) (E0 + c.steps) (M0 + c.sent) (answered c.leader.committed) cores

    abbrev pub Stands : World → Course → Type 0
    Stands w c = StandsWith w c c.queue

    few_answers : (b : Bool) → length (answered b) ≤ 1000000
    few_answers true = room.1
    few_answers false = let none : List Answered = [] in omega (arith, room.1, length-append A0 news, length-append A0 none)

    few_same : (ans : List Answered) (b : Bool) → ans ≡ answered b → length ans ≤ 1000000
    few_same ans b same = subst (λ (y : List Answered). length y ≤ 1000000) (sym same) (few_answers b)

    raised_mail : (b x y : Bool) → map (sent_by 1) (cond b (four_of (offer (whole link q) [] (A x) (A y))) []) ≡ map mail_of (cond b (raised_to_all x y) [])
    raised_mail true x y = refl
    raised_mail false x y = refl

    raised_count : (b x y : Bool) → length (cond b (four_of (offer (whole link q) [] (A x) (A y))) []) ≡ cond b 4 0
    raised_count true x y = refl
    raised_count false x y = refl

    few_raised : (b : Bool) → cond b 4 0 ≤ 4
    few_raised true = omega arith
    few_raised false = omega arith

    answers_on : (cm k : Bool) → answered cm ++ map (answered_by 1) (cond cm [] (cond k (outcomes q o) [])) ≡ answered (cm || k)
    answers_on true k = append-nil (A0 ++ news)
    answers_on false true = append_assoc A0 [] news
    answers_on false false = append-nil (A0 ++ [])

    module _ (P : Playing Message Enclaves → Type 0) (n : ℕ) (pl : Playing Message Enclaves) (c : Course) (steps : c.steps < 32) (sent : c.sent < 40) where
      -- what follows a message is played from where it is delivered
      abbrev Steps : List Note → Type 0
      Steps notes = StandsWith pl.group c notes → ((t : Playing Message Enclaves) → Stands t.group (goes_by c notes) → Goes (settled (enclaves link) n t) P) → Goes (settled (enclaves link) (suc n) pl) P

      -- a follower hears it
      module _ (v : Who) (rest : List Note) (h : Has) (m : Message)
          (d : Did (step_of link (follows (id_of v) (of v c.followers)) (step.Peer 1 m)) (follows (id_of v) h) ((1, acceptance (whole link q) (A h.promised)) ∷ []) []) where
        follower_steps : At pl.group (record { from = 1; to = id_of v; message = m } ∷ map mail_of rest) (runs c) (E0 + c.steps) (M0 + c.sent) (answered c.leader.committed) cores
            → ((t : Playing Message Enclaves) → Stands t.group (follows_on c v rest h) → Goes (settled (enclaves link) n t) P) → Goes (settled (enclaves link) (suc n) pl) P
        follower_steps st next =
            delivery_goes link pl P st (omega (arith, few, steps)) (each (λ w. is_in five (id_of w) ≡ true) refl refl refl refl v)
            (enclave_at (id_of v) (follows (id_of v) (of v c.followers)))
            (each (λ w. value_at (runs c) (id_of w) ≡ Some (enclave_at (id_of w) (follows (id_of w) (of w c.followers)))) refl refl refl refl v) tt d (follower_called v (of v c.followers) m)
            (omega (arith, room.0, sent), few_same _ c.leader.committed (append-nil (answered c.leader.committed)), room.2) n
            (λ t a. next t (restated a (sym (map-append mail_of rest (Taken v h.promised ∷ [])))
            (each (λ w. put (runs c) (id_of w) (enclave_at (id_of w) (follows (id_of w) h)) ≡ runs (follows_on c w rest h)) refl refl refl refl v)
            (omega arith) (omega arith) (append-nil (answered c.leader.committed))))

      entry_steps : (v : Who) (rest : List Note) → fits c (Entry v ∷ rest) ≡ true → Steps (Entry v ∷ rest)
      entry_steps v rest fit =
          let h : Has = of v c.followers in
          let first = or_parts h.entry (h.promised || h.committed) (not-true _ fit) in
          let last = or_parts h.promised h.committed first.1 in
          follower_steps v rest (record { entry = true; promised = false; committed = false }) (offer (whole link p) (e ∷ []) (length p) (length p))
          (subst (λ (x : Has). Did (step_of link (follows (id_of v) x) (step.Peer 1 (offer (whole link p) (e ∷ []) (length p) (length p)))) (follower (id_of v) 1 q (length p) (length p)) ((1, acceptance (whole link q) (length p)) ∷ []) [])
          (λ i. record { entry = sym first.0 i; promised = sym last.0 i; committed = sym last.1 i }) (hears_entry link (id_of v) known p e))

      raised_steps : (v : Who) (x y : Bool) (rest : List Note) → fits c (Raised v x y ∷ rest) ≡ true → Steps (Raised v x y ∷ rest)
      raised_steps v x y rest fit =
          let h : Has = of v c.followers in
          let m : Message = offer (whole link q) [] (A x) (A y) in
          let now : Has = raised_has h x y in
          follower_steps v rest now m
          (subst (λ (b : Bool). Did (step_of link (follows (id_of v) (record h { entry = b })) (step.Peer 1 m)) (follows (id_of v) now) ((1, acceptance (whole link q) (A now.promised)) ∷ []) [])
          (sym fit) (hears_more link (id_of v) 1 q (length p) round.long h.promised h.committed x y))

      -- the leader hears it
      taken_steps : (v : Who) (x : Bool) (rest : List Note) → Steps (Taken v x ∷ rest)
      taken_steps v x rest st next =
          let led : Led = taken v x c.leader in
          let to : Led = rises led in
          delivery_goes link pl P st (omega (arith, few, steps)) refl (enclave_at 1 (leads link round c.leader)) refl tt (hears link round c.leader v x) (leader_called v c.leader (acceptance (whole link q) (A x)))
          (omega (arith, room.0, sent, raised_count (rose led) to.promised to.committed, few_raised (rose led)), few_same _ to.committed (answers_on led.committed (commits_by led)), room.2) n
          (λ t a. next t (restated a ((λ i. map mail_of rest ++ raised_mail (rose led) to.promised to.committed i) ∙ sym (map-append mail_of rest (cond (rose led) (raised_to_all to.promised to.committed) []))) refl
          (omega arith) (omega (arith, raised_count (rose led) to.promised to.committed)) (answers_on led.committed (commits_by led))))

      step_goes : (notes : List Note) → fits c notes ≡ true → Steps notes
      step_goes [] fit = absurd (let never : false ≡ true = fit in cc)
      step_goes (Entry v ∷ rest) fit = entry_steps v rest fit
      step_goes (Raised v x y ∷ rest) fit = raised_steps v x y rest fit
      step_goes (Taken v x ∷ rest) fit = taken_steps v x rest

    -- so many messages are delivered
    pub simulated : (P : Playing Message Enclaves → Type 0) (n : ℕ) (c after : Course) → all_fit n c ≡ true → after_steps n c ≡ after → (pl : Playing Message Enclaves) → Stands pl.group c
        → ((t : Playing Message Enclaves) → Stands t.group after → P t) → Goes (settled (enclaves link) n pl) P
    simulated P zero c after fit ends pl st next = next pl (subst (λ (k : Course). Stands pl.group k) ends st)
    simulated P (suc n) c after fit ends pl st next =
        let parts = and_parts (fits c c.queue && (nat_lt c.steps 32 && nat_lt c.sent 40)) (all_fit n (goes c)) fit in
        let first = and_parts (fits c c.queue) (nat_lt c.steps 32 && nat_lt c.sent 40) parts.0 in
        let counts = and_parts (nat_lt c.steps 32) (nat_lt c.sent 40) first.1 in
        step_goes P n pl c (ltb-true c.steps 32 counts.0) (ltb-true c.sent 40 counts.1) c.queue first.0 st
        (λ t st'. simulated P n (goes c) after parts.1 ends t st' next)
