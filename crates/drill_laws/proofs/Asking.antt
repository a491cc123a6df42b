-- A client asks, or the timer runs out, where all five agree.
use Rattle.std.proofs.Common.{◌≡◌, ℕ, suc, ◌+◌, ◌-◌, ◌<◌, ◌==◌, ◌||◌, true, false, Option, Some, None, Ok, List, [], ◌∷◌, ◌++◌, length, take, drop, max, refl, sym, ◌∙◌, arith}
use Rattle.std.specs.Prelude.{nat_le, cond, filter_map, option_map, slice_get, unwrap_or}
use Rattle.std.proofs.lemmas.Bool.{ne_eqb, lt-leb, lt-ltb}
use Rattle.std.proofs.lemmas.List.{take_at, drop_at, length-append}
use Rattle.values.specs.declared.entry.Body.TheVariants.{Ask}
use Rattle.values.specs.declared.entry.LogEntry.{LogEntry}
use Rattle.values.specs.declared.ids.ClientId.{ClientId}
use Rattle.values.specs.declared.limits.TheConstants.{TOP, MAX_ENTRIES}
use Rattle.values.specs.declared.message.Request.{Request}
use Rattle.values.specs.declared.message.Answer.TheVariants.{Busy}
use Rattle.client_msgs.specs.Canonical.{canonical_request}
use Rattle.client_msgs.specs.Reading.{request_of}
use Rattle.record_rules.specs.Places.{ClientAsk}
use Rattle.replica_model.specs.declared.Progress.{Progress}
use Rattle.replica_model.specs.declared.TheConstants.{KEPT_BELOW, MAX_OPEN}
use Rattle.replica_model.specs.Path.{Path, Link, chain, point, term_at}
use Rattle.replica_model.specs.Keyed.{value_at}
use Rattle.replica_model.specs.Message.{Message}
use Rattle.replica_model.specs.Replica.{Leading, Replica}
use Rattle.replica_model.specs.Peers.{peers, leads_with}
use Rattle.replica_model.specs.Call.{Call, Tick, Client, answers, empty_batch, still}
use Rattle.replica_model.specs.Raise.{raise_and_send, to_every_peer}
use Rattle.replica_model.specs.Clients.{asked, on_request, client_request, open_entries}
use Rattle.replica_model.specs.Ticks.{sent_again, all_again, leader_tick}
use Rattle.replica_model.specs.Tables.{part_message}
use Rattle.replica_model.specs.Send.{entries_from, with_sent, ended}
use Rattle.replica_model.specs.Step.{step, with_end}
use Rattle.drill_laws.proofs.Setting.{all, progress, leading, leader, four_of, whole, offer}
use Rattle.drill_laws.proofs.Follows.{Did, did}
use Rattle.drill_laws.proofs.Leads.{IsPlain, plain_more, peers_are, ends_sent, Round, led_all, leads, done, raise_is, ends_sending, nothing_left, after_all, whole_is}

-- the last entry
at_end : (p : Path) (e : LogEntry) → slice_get (p ++ e ∷ []) (length p) ≡ Some e
at_end [] e = refl
at_end (x ∷ p) e = at_end p e

pub last_own : (p : Path) (e : LogEntry) → term_at (p ++ e ∷ []) (length (p ++ e ∷ [])) ≡ e.term
last_own p e = (λ i. term_at (p ++ e ∷ []) (long i)) ∙ (λ i. unwrap_or (option_map (λ (x : LogEntry). x.term) (at_end p e i)) 0)
  where
    long : length (p ++ e ∷ []) ≡ suc (length p)
    long = length-append p (e ∷ []) ∙ omega arith

-- the round of an entry of the leader's own term
abbrev pub round_of : (p : Path) (e : LogEntry) → e.term ≡ 1 → IsPlain (p ++ e ∷ []) → Option ClientAsk → Round
round_of p e own plain o = record { path = p ++ e ∷ []; n = length p; long = length-append p (e ∷ []); plain = plain; own = last_own p e ∙ own; ask = o }

-- ---- a request, where all is settled
module _ (link : Link) (p : Path) (no_members : IsPlain p) (client : ClientId) (number : ℕ) (request : Request) where
  abbrev pub ask : LogEntry
  ask = record { term = 1; body = Ask client number (canonical_request request) }

  abbrev pub asked_path : Path
  asked_path = p ++ ask ∷ []

  pub ask_long : length asked_path ≡ length p + 1
  ask_long = length-append p (ask ∷ [])

  pub ask_plain : IsPlain asked_path
  ask_plain = plain_more p ask refl refl no_members

  abbrev pub asked_for : Option ClientAsk
  asked_for = Some (record { client = client; number = number; request = request })

  abbrev pub ask_round : Round
  ask_round = round_of p ask refl ask_plain asked_for

  -- what the leader of a path on which all agree knows
  abbrev pub calmly : Leading
  calmly = leading (all (length p + 1)) (all (length p)) (all (length p))

  abbrev pub calm : Replica
  calm = leader p (length p - KEPT_BELOW) (length p) (length p) [] calmly

  -- it has pushed the request
  abbrev pushed_at : ℕ → Replica
  pushed_at i = leader asked_path (length p - KEPT_BELOW) (length p) (length p) (record { index = i; client = client; number = number; request = request } ∷ []) calmly

  entries_is : entries_from asked_path (length p + 1) ≡ ask ∷ []
  entries_is = (λ i. take MAX_ENTRIES (drop (less i) asked_path)) ∙ (λ i. take MAX_ENTRIES (drop_at p (ask ∷ []) (length p) refl i))
    where
      less : (length p + 1) - 1 ≡ length p
      less = omega arith

  point_is : point link asked_path ((length p + 1) - 1) ≡ whole link p
  point_is = (λ i. point link asked_path (less i)) ∙ (λ i. record { index = length p; hash = chain link (take_at p (ask ∷ []) (length p) refl i) })
    where
      less : (length p + 1) - 1 ≡ length p
      less = omega arith

  next_is : (length p + 1) + length (entries_from asked_path (length p + 1)) ≡ length asked_path + 1
  next_is = (λ i. (length p + 1) + length (entries_is i)) ∙ (omega (arith, ask_long))

  pub asks : (bytes : List ℕ) → request_of bytes ≡ Ok request → length p < TOP
      → Did (step link calm (Client client number bytes)) (leads link ask_round (led_all false)) (four_of (offer (whole link p) (ask ∷ []) (length p) (length p))) []
  asks bytes reads low =
      did _ _ _ _ _ (λ i. with_sent (with_end link (pushes i)))
      (ends_sending link ask_round (led_all false) (length p + 1) (ask ∷ []) (whole link p) entries_is next_is point_is (omega (arith, ask_long)))
    where
      free : (length p == TOP) ≡ false
      free = ne_eqb (length p) TOP (λ e. omega (arith, e, low))

      idle : nat_le MAX_OPEN (length p - length p) ≡ false
      idle = lt-leb MAX_OPEN (length p - length p) (omega arith)

      pushes : client_request calm client number bytes ≡ done link ask_round (led_all false) (length p + 1) (2 ∷ 3 ∷ 4 ∷ 5 ∷ [])
      pushes =
          (λ i. on_request calm client number (reads i))
          ∙ (λ i. cond (idle i || free i) (answers calm client number (Busy (open_entries calm))) (raise_and_send (still (asked calm client number request)) calmly))
          ∙ (λ i. raise_and_send (still (pushed_at (sym ask_long i))) calmly)
          ∙ (λ i. to_every_peer (raise_is link ask_round (led_all false) (length p + 1) i) calmly)
          ∙ (λ i. done link ask_round (led_all false) (length p + 1) (peers_are asked_path ask_plain (length p - KEPT_BELOW) (length p) (length p) (record { index = length asked_path; client = client; number = number; request = request } ∷ []) (all (length p + 1)) (all (length p)) (all (length p)) i))

-- ---- a tick, where all is settled
module _ (link : Link) (round : Round) where
  abbrev q : Path
  q = round.path

  abbrev s : Replica
  s = leads link round (led_all true)

  abbrev known : Progress
  known = progress (length q + 1) (length q) (length q)

  abbrev each_known : Progress → Leading
  each_known p = record { progress = (2, p) ∷ (3, p) ∷ (4, p) ∷ (5, p) ∷ []; learners = []; sendings = [] }

  abbrev l : Leading
  l = each_known known

  peers_here : peers s l ≡ 2 ∷ 3 ∷ 4 ∷ 5 ∷ []
  peers_here = peers_are q round.plain (length q - KEPT_BELOW) (length q) (length q) [] (all (length q + 1)) (all (length q)) (all (length q))

  again : sent_again s known ≡ known
  again = (λ i. cond (some i) known (record known { next = max (length q) (length q - KEPT_BELOW) + 1 })) ∙ (λ i. progress (more i) (length q) (length q))
    where
      some : (length q == 0) ≡ false
      some = ne_eqb (length q) 0 (λ e. omega (arith, e, round.long))

      more : max (length q) (length q - KEPT_BELOW) + 1 ≡ length q + 1
      more = omega arith

  -- the appends go out
  abbrev ticking : Leading → List ℕ → List (ℕ × Message) → Call
  ticking to ids sent = record (still (leads_with s to)) { sent = sent; appends = ids }

  ticks_to : leader_tick link s l ≡ ticking l (2 ∷ 3 ∷ 4 ∷ 5 ∷ []) []
  ticks_to =
      (λ i. ticking (all_again s l (peers_here i)) (peers_here i) (filter_map (λ v. option_map (λ sending. (v, part_message link s sending)) (value_at l.sendings v)) (peers_here i)))
      ∙ (λ i. ticking (each_known (again i)) (2 ∷ 3 ∷ 4 ∷ 5 ∷ []) [])

  pub ticks : Did (step link s Tick) s (four_of (offer (whole link q) [] (length q) (length q))) []
  ticks =
      did _ _ _ _ _ (λ i. with_sent (with_end link (ticks_to i)))
      (did _ _ _ _ _ (λ i. with_sent (sending i))
      (record { state = λ i. leader q (base_is i) (length q) (length q) [] l; sent = refl; answers = refl; saved = refl; halt = refl }))
    where
      base_is : max (length q - KEPT_BELOW) (length q - KEPT_BELOW) ≡ length q - KEPT_BELOW
      base_is = omega arith

      sending : ended link (ticking l (2 ∷ 3 ∷ 4 ∷ 5 ∷ []) []) None ≡ record (still (leader q (max (length q - KEPT_BELOW) (length q - KEPT_BELOW)) (length q) (length q) [] l)) { sent = four_of (offer (whole link q) [] (length q) (length q)) }
      sending = ends_sent link q (length q - KEPT_BELOW) (length q) (length q) [] (all (length q)) (all (length q)) empty_batch [] (length q + 1) (length q + 1) [] (whole link q) (nothing_left link round) (after_all link round) (whole_is link round) (lt-ltb (length q - KEPT_BELOW) (length q + 1) (omega arith)) round.plain
