-- A ticket that a replica has is held on, told its outcome, or told that its entry is replaced, in each call.
use Rattle.std.proofs.Common.{◌≡◌, ℕ, ◌<◌, ◌≤◌, ◌⊎◌, inl, inr, Bool, true, false, not, nat_lt, nat_le, Option, Some, None, List, [], ◌∷◌, length, map, sym, ap, ◌∙◌, subst, arith}
use Rattle.std.specs.Prelude.{filter, filter_map, option_map, Contains}
use Rattle.std.specs.List.{cons_option}
use Rattle.std.proofs.lemmas.Bool.{cond_both, cond-true, cases_Bool, and_from, and_right, leb-false, le-leb, lt-ltb}
use Rattle.std.proofs.lemmas.List.Elements.{Contains-append_left, Contains-append_right, Contains-append_cases, Contains-push, Contains-push_cases}
use Rattle.values.specs.declared.message.Answer.TheVariants.{Outcome}
use Rattle.values.specs.declared.message.Reply.{Reply}
use Rattle.replica_model.specs.Path.{Link}
use Rattle.replica_model.specs.Folds.{reply_of}
use Rattle.replica_model.specs.Replica.{Ticket, Taking, Learner, Leading, Replica}
use Rattle.replica_model.specs.Call.{Call, still, moment}
use Rattle.replica_model.specs.Raise.{is_due, outcome_of, commit_to, promise_raised, commit_index, raise}
use Rattle.replica_model.specs.Graft.{Difference, Offer, kept_length, spliced, replaced, undecided_at, accepts, grafted}
use Rattle.replica_model.specs.Step.{step}
use Rattle.replica_model.specs.Answered.{HasOutcome, HasReplaced, HoldsTickets, StepsAnswerTickets}
use Rattle.replica_model.proofs.Walk.{Same, Pushed, Carries, stepped}

-- ---- elements of lists
module _ {A : Type 0} where
  none_in : (x : A) → Contains [] x → ⊥
  none_in x h = let lt = h.1 in omega (arith, lt)

  by_first : (y : A) (xs : List A) (x : A) → Contains (y ∷ xs) x → (y ≡ x) ⊎ Contains xs x
  by_first y xs x h = elim (Contains-append_cases (y ∷ []) xs x h) [
    | inl one ↦ elim (Contains-push_cases [] y x one) [ inl none ↦ absurd (none_in x none) | inr same ↦ inl same ]
    | inr later ↦ inr later
  ]

  at_first : (x : A) (xs : List A) → Contains (x ∷ xs) x
  at_first x xs = Contains-append_left (x ∷ []) xs x (Contains-push [] x)

  behind_first : (y : A) (xs : List A) (x : A) → Contains xs x → Contains (y ∷ xs) x
  behind_first y xs x h = Contains-append_right (y ∷ []) xs x h

  in_filter : (test : A → Bool) (xs : List A) (x : A) → test x ≡ true → Contains xs x → Contains (filter test xs) x
  in_filter test [] x is h = absurd (none_in x h)
  in_filter test (y ∷ xs) x is h = elim (by_first y xs x h) [
    | inl same ↦
        subst (λ zs. Contains zs x) (sym (cond-true (test y) (y ∷ filter test xs) (filter test xs) (subst (λ z. test z ≡ true) (sym same) is)))
        (subst (λ z. Contains (z ∷ filter test xs) x) (sym same) (at_first x (filter test xs)))
    | inr later ↦
        cond_both (test y) (y ∷ filter test xs) (filter test xs) (λ zs. Contains zs x)
        (λ b. behind_first y (filter test xs) x (in_filter test xs x is later)) (λ b. in_filter test xs x is later)
  ]

behind_option : {B : Type 0} (o : Option B) (ys : List B) (y : B) → Contains ys y → Contains (cons_option o ys) y
behind_option None ys y later = later
behind_option (Some w) ys y later = behind_first w ys y later

module _ {A B : Type 0} where
  in_map : (f : A → B) (xs : List A) (x : A) → Contains xs x → Contains (map f xs) (f x)
  in_map f [] x h = absurd (none_in x h)
  in_map f (y ∷ xs) x h = elim (by_first y xs x h) [
    | inl same ↦ subst (λ z. Contains (f z ∷ map f xs) (f x)) (sym same) (at_first (f x) (map f xs))
    | inr later ↦ behind_first (f y) (map f xs) (f x) (in_map f xs x later)
  ]

  in_filter_map : (f : A → Option B) (xs : List A) (x : A) (y : B) → Contains xs x → f x ≡ Some y → Contains (filter_map f xs) y
  in_filter_map f [] x y h is = absurd (none_in x h)
  in_filter_map f (z ∷ xs) x y h is = elim (by_first z xs x h) [
    | inl same ↦ subst (λ o. Contains (cons_option o (filter_map f xs)) y) (sym (ap f same ∙ is)) (at_first y (filter_map f xs))
    | inr later ↦ behind_option (f z) (filter_map f xs) y (in_filter_map f xs x y later is)
  ]

-- ---- one ticket
module _ (s : Replica) (t : Ticket) (held : Contains s.tickets t) (fine : HoldsTickets s) where
  -- it waits: it is held, and its index is not committed
  abbrev Waits : Call → Type 0
  Waits c = (c.state.committed < t.index) × Contains c.state.tickets t

  abbrev Told : Call → Type 0
  Told c = (reply : Reply) → reply_of c.state.limit c.state.path t.index ≡ Some reply → HasOutcome c.batch.answers t reply ⊎ HasReplaced c.batch.answers t

  abbrev IsOwed : Call → Type 0
  IsOwed c = s.committed < t.index → Waits c ⊎ Told c

  -- where the committed index rises the ticket is due, or waits on
  rises : (c : Call) (i : ℕ) → Waits c → Waits (commit_to c i) ⊎ Told (commit_to c i)
  rises c i w = elim (cases_Bool (nat_le t.index i)) [
    | inl below ↦
        let due : is_due c.state i t ≡ true = and_from (nat_lt c.state.committed t.index) (nat_le t.index i) (lt-ltb c.state.committed t.index w.0) below in
        inr (λ reply is. inl (
        Contains-append_right c.batch.answers (filter_map (outcome_of c.state) (filter (is_due c.state i) c.state.tickets)) (t.client, t.number, Outcome t.index reply)
        (in_filter_map (outcome_of c.state) (filter (is_due c.state i) c.state.tickets) t (t.client, t.number, Outcome t.index reply)
        (in_filter (is_due c.state i) c.state.tickets t due w.1) (ap (option_map (λ (r : Reply). (t.client, t.number, Outcome t.index r))) is))
        ))
    | inr above ↦
        let later : is_due c.state i t ≡ false = and_right (nat_lt c.state.committed t.index) (nat_le t.index i) above in
        inl (omega (arith, w.0, leb-false t.index i above), in_filter (λ ticket. not (is_due c.state i ticket)) c.state.tickets t (ap not later) w.1)
  ]

  raising : (c : Call) (l : Leading) → Pushed s c.state → IsOwed (raise c l)
  raising c l had late =
      let before : Call = moment (promise_raised (moment c) l) in
      rises before (commit_index before.state l)
      (subst (λ n. n < t.index) (sym had.1) late, subst (λ ts. Contains ts t) (sym had.2.1) (Contains-append_left s.tickets had.2.0 t held))

  dropped : (link : Link) (r : Replica) → Same s r → (o : Offer) → Contains r.tickets t → (d : Option Difference) → kept_length r.path d < t.index → Told (accepts link (grafted r d o) o)
  dropped link r same o among None above reply is = (let below = fine.within t held in let longer : length r.path ≡ length s.path = ap length same.3 in absurd (omega (arith, above, below, longer)))
  dropped link r same o among (Some e) above reply is =
      let from : e.0 ≤ t.index = omega (arith, above) in
      inr (
        e,
        from,
        Contains-append_left _ _ _
            (in_map (undecided_at e) (filter (λ ticket. nat_le e.0 ticket.index) r.tickets) t
            (in_filter (λ ticket. nat_le e.0 ticket.index) r.tickets t (le-leb e.0 t.index from) among)),
      )

  -- a ticket whose entry stays is due or waits, and one whose entry is replaced is told so
  grafting : (link : Link) (r : Replica) → Same s r → (d : Option Difference) (o : Offer) → IsOwed (accepts link (grafted r d o) o)
  grafting link r same d o late = elim (cases_Bool (nat_le t.index (kept_length r.path d))) [
    | inl stays ↦
        let k : ℕ = kept_length r.path d in
        rises (record (still (spliced r k o)) { batch = replaced r d k o }) _
        (subst (λ n. n < t.index) (sym same.1) late, in_filter (λ ticket. nat_le ticket.index k) r.tickets t stays (subst (λ ts. Contains ts t) (sym same.2) held))
    | inr goes ↦ inr (dropped link r same o (subst (λ ts. Contains ts t) (sym same.2) held) d (leb-false t.index (kept_length r.path d) goes))
  ]

  carrying : (c d : Call) → Carries c d → IsOwed c → IsOwed d
  carrying c d on owed late = elim (owed late) [
    | inl w ↦ inl (subst (λ n. n < t.index) (sym on.state.0.1) w.0, subst (λ ts. Contains ts t) (sym on.state.0.2) w.1)
    | inr told ↦
        inr (λ reply is. subst (λ xs. HasOutcome xs t reply ⊎ HasReplaced xs t) (sym on.answers)
        (told reply (ap (λ n. reply_of n c.state.path t.index) (sym on.state.1) ∙ (ap (λ p. reply_of d.state.limit p t.index) (sym on.state.0.3) ∙ is))))
  ]

  staying : (c : Call) → Same s c.state → IsOwed c
  staying c same late = inl (subst (λ n. n < t.index) (sym same.1) late, subst (λ ts. Contains ts t) (sym same.2) held)

  nothing_held : (taking : Taking) → s.role ≡ Learner taking → ⊥
  nothing_held taking is = none_in t (subst (λ ts. Contains ts t) (fine.none taking is) held)

pub answered : StepsAnswerTickets
answered link s i fine t held after passed reply is =
    let owed : IsOwed s t held fine (step link s i) =
    stepped s (IsOwed s t held fine) (record {
      stays = λ c none same. staying s t held fine c same;
      raises = λ c l none unanswered had. raising s t held fine c l had;
      grafts = λ at r same role d o. grafting s t held fine at r same d o;
      whole = λ at taking role from part names term limit. absurd (nothing_held s t held fine taking role);
      carried = carrying s t held fine;
    }) link i
    in
    elim (owed after) [
      | inl w ↦ (let above = w.0 in absurd (omega (arith, above, passed)))
      | inr told ↦ told reply is
    ]
