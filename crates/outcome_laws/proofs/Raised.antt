-- A committed index that rises answers tickets fairly, and the end of a call leaves its outcomes as they are.
use Rattle.std.proofs.Common.{◌≡◌, ℕ, ◌≤◌, ◌⊎◌, inl, inr, Bool, true, false, not, nat_lt, nat_le, max, Option, Some, None, List, [], ◌∷◌, map, refl, sym, ap, ◌∙◌, subst, arith}
use Rattle.std.specs.Prelude.{filter, filter_map, option_map}
use Rattle.std.specs.List.{AllByRecursion, cons_option}
use Rattle.std.proofs.lemmas.Bool.{cond_both, cond-true, cases_Bool, and_parts, and_from, and_right, leb-true, leb-false, lt-ltb}
use Rattle.values.specs.declared.ids.ClientId.{ClientId}
use Rattle.values.specs.declared.message.Answer.{Answer}
use Rattle.values.specs.declared.message.Answer.TheVariants.{Outcome}
use Rattle.values.specs.declared.message.Reply.{Reply}
use Rattle.replica_model.specs.Path.{Path}
use Rattle.replica_model.specs.Folds.{reply_of, ask_of}
use Rattle.replica_model.specs.Replica.{Ticket, Leading, Replica}
use Rattle.replica_model.specs.Call.{Call, moment}
use Rattle.replica_model.specs.Raise.{is_due, outcome_of, commit_to, promise_raised, commit_index, raise}
use Rattle.log_laws.proofs.Ending.{all-append}
use Rattle.log_laws.proofs.History.{all_more}
use Rattle.group_model.specs.Log.{AnyByRecursion}
use Rattle.group_model.specs.Due.{IsToldOutcome}
use Rattle.outcome_laws.proofs.Places.{ask_of_entry, reply_of_ask}
use Rattle.outcome_laws.proofs.Tickets.{Stands, Waits, IsOwed, IsFair, FairCall, reads_fewer, all_filter, or_idle, left_among, right_among}

-- ---- tickets and answers in lists
pub stand_of : (P : Ticket → Type 0) (t : Ticket) (ts : List Ticket) → AllByRecursion P ts → AnyByRecursion (λ u. u ≡ t) ts → P t
stand_of P t [] h m = absurd m
stand_of P t (u ∷ ts) h (inl same) = subst P same h.0
stand_of P t (u ∷ ts) h (inr m) = stand_of P t ts h.1 m

pub filtered_among : {A : Type 0} (test : A → Bool) (xs : List A) (x : A) → test x ≡ true → AnyByRecursion (λ u. u ≡ x) xs → AnyByRecursion (λ u. u ≡ x) (filter test xs)
filtered_among test [] x is m = absurd m
filtered_among test (y ∷ xs) x is (inl same) = subst (AnyByRecursion (λ u. u ≡ x)) (sym (cond-true (test y) (y ∷ filter test xs) (filter test xs) (subst (λ z. test z ≡ true) (sym same) is))) (inl same)
filtered_among test (y ∷ xs) x is (inr m) = cond_both (test y) (y ∷ filter test xs) (filter test xs) (AnyByRecursion (λ u. u ≡ x)) (λ b. inr (filtered_among test xs x is m)) (λ b. filtered_among test xs x is m)

mapped_among : {A B : Type 0} (f : A → Option B) (xs : List A) (x : A) (y : B) → AnyByRecursion (λ u. u ≡ x) xs → f x ≡ Some y → AnyByRecursion (λ u. u ≡ y) (filter_map f xs)
mapped_among f [] x y m is = absurd m
mapped_among f (z ∷ xs) x y (inl same) is = subst (λ o. AnyByRecursion (λ u. u ≡ y) (cons_option o (filter_map f xs))) (sym (ap f same ∙ is)) (inl refl)
mapped_among f (z ∷ xs) x y (inr m) is = behind (f z) (mapped_among f xs x y m is)
  where
    behind : (o : Option _) → AnyByRecursion (λ u. u ≡ y) (filter_map f xs) → AnyByRecursion (λ u. u ≡ y) (cons_option o (filter_map f xs))
    behind None h = h
    behind (Some w) h = inr h

pub map_among : {A B : Type 0} (f : A → B) (xs : List A) (x : A) → AnyByRecursion (λ u. u ≡ x) xs → AnyByRecursion (λ y. y ≡ f x) (map f xs)
map_among f [] x m = absurd m
map_among f (z ∷ xs) x (inl same) = inl (ap f same)
map_among f (z ∷ xs) x (inr m) = inr (map_among f xs x m)

-- the place of a ticket that stands gives a reply
replied : {all : List Ticket} (limit : ℕ) (path : Path) (t : Ticket) → Stands all path t → (reply : Reply) × (reply_of limit path t.index ≡ Some reply)
replied limit path t st =
    let asked = st.each t st.among refl in
    reply_of_ask limit path t.index _ (ask_of_entry path t.index _ asked.1 ∙ ap (ask_of t.client t.number) st.readable)

module _ (all olds : List Ticket) (since run : ℕ) where
  -- an answer stays fair as more is committed
  fair_later : (committed later : ℕ) (path : Path) → committed ≤ later → (a : ClientId × ℕ × Answer) → IsFair all run committed path a → IsFair all run later path a
  fair_later committed later path le (client, number, Outcome index reply) g =
      record { ticket = g.ticket; stands = g.stands; index_is = g.index_is; client_is = g.client_is; number_is = g.number_is; below = let below = g.below in omega arith; reply_is = g.reply_is }
  fair_later committed later path le (client, number, other) g = g

  module _ (s : Replica) (i : ℕ) (theirs : s.limit ≡ run) where
    one_outcome : (t : Ticket) (o : Option Reply) (rest : List (ClientId × ℕ × Answer)) → reply_of s.limit s.path t.index ≡ o → Stands all s.path t → t.index ≤ i → AllByRecursion (IsFair all run (max s.committed i) s.path) rest
        → AllByRecursion (IsFair all run (max s.committed i) s.path) (cons_option (option_map (λ reply. (t.client, t.number, Outcome t.index reply)) o) rest)
    one_outcome t None rest is stands le fine = fine
    one_outcome t (Some reply) rest is stands le fine =
        (record { ticket = t; stands = stands; index_is = refl; client_is = refl; number_is = refl; below = omega arith; reply_is = subst (λ n. reply_of n s.path t.index ≡ Some reply) theirs is }, fine)

    outcomes_fair : (ts : List Ticket) → AllByRecursion (Stands all s.path) ts → AllByRecursion (IsFair all run (max s.committed i) s.path) (filter_map (outcome_of s) (filter (is_due s i) ts))
    outcomes_fair [] h = tt
    outcomes_fair (t ∷ ts) h = cond_both (is_due s i t) (t ∷ filter (is_due s i) ts) (filter (is_due s i) ts) (λ ys. AllByRecursion (IsFair all run (max s.committed i) s.path) (filter_map (outcome_of s) ys))
        (λ due. one_outcome t (reply_of s.limit s.path t.index) (filter_map (outcome_of s) (filter (is_due s i) ts)) refl h.0 (leb-true t.index i (and_parts (nat_lt s.committed t.index) (nat_le t.index i) due).1) (outcomes_fair ts h.1))
        (λ b. outcomes_fair ts h.1)

  abbrev pub Owed : Call → Type 0
  Owed c = AllByRecursion (IsOwed since c.state.limit c.state.committed c.state.path c.state.tickets c.batch.answers) olds

  -- a ticket that waits is due, or waits on
  module _ (c : Call) (i : ℕ) (stand : AllByRecursion (Stands all c.state.path) c.state.tickets) where
    abbrev after : Call
    after = commit_to c i

    waits_or_told : (t : Ticket) → Waits c.state.committed c.state.tickets t → Waits after.state.committed after.state.tickets t ⊎ IsToldOutcome c.state.limit c.state.path after.batch.answers t
    waits_or_told t w = elim (cases_Bool (nat_le t.index i)) [
      | inl below ↦
          let due : is_due c.state i t ≡ true = and_from (nat_lt c.state.committed t.index) (nat_le t.index i) (lt-ltb c.state.committed t.index w.0) below in
          let st = stand_of (Stands all c.state.path) t c.state.tickets stand w.1 in
          let reply = replied c.state.limit c.state.path t st in
          inr (
            reply.0,
            reply.1,
            right_among c.batch.answers _ _ (mapped_among (outcome_of c.state) (filter (is_due c.state i) c.state.tickets) t _ (filtered_among (is_due c.state i) c.state.tickets t due w.1)
                (ap (option_map (λ reply. (t.client, t.number, Outcome t.index reply))) reply.1)),
          )
      | inr above ↦
          let later : is_due c.state i t ≡ false = and_right (nat_lt c.state.committed t.index) (nat_le t.index i) above in
          inl (omega (arith, w.0, leb-false t.index i above), filtered_among (λ ticket. not (is_due c.state i ticket)) c.state.tickets t (ap not later) w.1)
    ]

    owed_on : (t : Ticket) → IsOwed since c.state.limit c.state.committed c.state.path c.state.tickets c.batch.answers t → IsOwed since c.state.limit after.state.committed c.state.path after.state.tickets after.batch.answers t
    owed_on t owed late = elim (owed late) [
      | inl waits ↦ elim (waits_or_told t waits) [ inl waits ↦ inl waits | inr told ↦ inr (inl told) ]
      | inr (inl told) ↦ inr (inl (told.0, told.1, left_among c.batch.answers _ _ told.2))
      | inr (inr told) ↦ inr (inr (told.0, told.1, left_among c.batch.answers _ _ told.2))
    ]

  -- the committed index rises
  pub commit_fair : (c : Call) (i : ℕ) → c.state.limit ≡ run → Owed c → FairCall all olds since run c → FairCall all olds since run (commit_to c i)
  commit_fair c i theirs owed g =
      let s : Replica = c.state in
      record {
        reads = reads_fewer run s.limit s.tickets (filter (λ ticket. not (is_due s i ticket)) s.tickets) s.role (λ none. ap (filter (λ ticket. not (is_due s i ticket))) none) g.reads;
        stand = all_filter (Stands all s.path) (Stands all s.path) (λ ticket. not (is_due s i ticket)) s.tickets (λ t b h. h) g.stand;
        answered = all-append (IsFair all run (max s.committed i) s.path) c.batch.answers (filter_map (outcome_of s) (filter (is_due s i) s.tickets))
            (all_more (IsFair all run s.committed s.path) (IsFair all run (max s.committed i) s.path) (fair_later s.committed (max s.committed i) s.path (omega arith)) c.batch.answers g.answered)
            (outcomes_fair s i theirs s.tickets g.stand);
        told = g.told;
        owed = or_idle since s.limit (max s.committed i) s.path _ olds _ (all_more (IsOwed since s.limit s.committed s.path s.tickets c.batch.answers) _ (owed_on c i g.stand) olds owed);
      }

  pub raise_fair : (c : Call) (l : Leading) → c.state.limit ≡ run → Owed c → FairCall all olds since run c → FairCall all olds since run (raise c l)
  raise_fair c l theirs owed g =
      let raised : Call = moment (promise_raised (moment c) l) in
      commit_fair raised (commit_index raised.state l) theirs owed
      (record { reads = g.reads; stand = g.stand; answered = g.answered; told = g.told; owed = g.owed })
