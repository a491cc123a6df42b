-- Numbers of a known client rise.
use Rattle.std.proofs.Common.{◌≡◌, ℕ, zero, suc, ◌+◌, ◌-◌, ◌<◌, ◌≤◌, true, refl, sym, ap, subst, ◌∙◌, arith, add-zero, add-suc}
use Rattle.std.specs.Prelude.{Option, Some, None, IsSome, IsSomeAnd}
use Rattle.values.specs.declared.ids.ClientId.{ClientId}
use Rattle.values.specs.declared.row.Row.{Row}
use Rattle.values.specs.declared.message.Reply.{Reply}
use Rattle.record_rules.specs.Clients.{client_eq}
use Rattle.record_rules.specs.Places.{ClientAsk, Places, is_ask_of, IsApplied}
use Rattle.record_rules.specs.Laws.{NumbersRise, row_after}
use Rattle.record_rules.proofs.Clients.{client_eq-self}
use Rattle.record_rules.proofs.Turns.{Turn, others, refused, unknown, acts, turn_at}

-- an ask of the client is one
own : (client : ClientId) (place : Option ClientAsk) (ask : ClientAsk) → place ≡ Some ask → ask.client ≡ client → is_ask_of client place ≡ true
own client place ask e same =
    ap (is_ask_of client) e ∙ subst (λ c. client_eq ask.client c ≡ true) same (client_eq-self ask.client)

-- a row is there, and its last number is at least n
abbrev LastFrom : ℕ → Option Row → Type 0
LastFrom n row = IsSomeAnd row (λ r. n ≤ r.last)

-- one turn lowers no last number
rises : (n : ℕ) {client : ClientId} {before after : Option Row} {place : Option ClientAsk} {reply : Option Reply}
    → Turn client before after place reply → LastFrom n before → LastFrom n after
rises n (others e same) h = subst (LastFrom n) (sym same) h
rises n (refused same e) h = subst (LastFrom n) (sym same) h
rises n (unknown number request place_is new none e done) h = absurd (subst (LastFrom n) none h)
rises n {before = Some row} (acts number request e puts above after done) h =
    subst (LastFrom n) (sym after) (let higher : row.last < number = above row refl in omega arith)
rises n {before = None} (acts number request e puts above after done) h = absurd h

module _ (limit : ℕ) (places : Places) (client : ClientId) (n : ℕ) where
  rises_from : (i d : ℕ) → LastFrom n (row_after limit places client i) → LastFrom n (row_after limit places client (i + d))
  rises_from i zero h = subst (λ k. LastFrom n (row_after limit places client k)) (sym (add-zero i)) h
  rises_from i (suc d) h =
      subst (λ k. LastFrom n (row_after limit places client k)) (sym (add-suc i d))
      (rises n (turn_at limit places client (i + d)) (rises_from i d h))

-- what acts as an ask of the client makes its number the last one, where the client is known
becomes_last : {client : ClientId} {before after : Option Row} {place : Option ClientAsk} {reply : Option Reply} (ask : ClientAsk)
    → Turn client before after place reply → place ≡ Some ask → ask.client ≡ client → IsSomeAnd reply IsApplied → IsSome after → LastFrom ask.number after
becomes_last {client} {place = place} ask (others e same) is mine acted known =
    absurd (let t : is_ask_of client place ≡ true = own client place ask is mine in cc)
becomes_last ask (refused same e) is mine acted known = absurd (e acted)
becomes_last ask (unknown number request place_is new none e done) is mine acted known = absurd (let known_none = subst IsSome e known in cc)
becomes_last ask (acts number request e puts above after done) is mine acted known =
    subst (LastFrom ask.number) (sym after) (let same : ask.number ≡ number = cc in omega arith)

-- and it is above the last one before
is_above : (n : ℕ) {client : ClientId} {before after : Option Row} {place : Option ClientAsk} {reply : Option Reply} (ask : ClientAsk)
    → Turn client before after place reply → place ≡ Some ask → ask.client ≡ client → IsSomeAnd reply IsApplied → LastFrom n before → n < ask.number
is_above n {client} {place = place} ask (others e same) is mine acted from =
    absurd (let t : is_ask_of client place ≡ true = own client place ask is mine in cc)
is_above n ask (refused same e) is mine acted from = absurd (e acted)
is_above n ask (unknown number request place_is new none e done) is mine acted from = absurd (subst (LastFrom n) none from)
is_above n {before = Some row} ask (acts number request e puts above after done) is mine acted from =
    let higher : row.last < number = above row refl in let same : ask.number ≡ number = cc in omega arith
is_above n {before = None} ask (acts number request e puts above after done) is mine acted from = absurd from

pub numbers_rise : (limit : ℕ) (places : Places) → NumbersRise limit places
numbers_rise limit places zero k a b below first second same acts_i acts_k known = cc
numbers_rise limit places (suc i) zero a b below first second same acts_i acts_k known = absurd (omega arith)
numbers_rise limit places (suc i) (suc k) a b below first second same acts_i acts_k known =
    let at_i = becomes_last a (turn_at limit places a.client i) first refl acts_i known in
    let steps : suc i + (k - suc i) ≡ k = omega arith in
    let at_k = subst (λ j. LastFrom a.number (row_after limit places a.client j)) steps (rises_from limit places a.client a.number (suc i) (k - suc i) at_i) in
    is_above a.number b (turn_at limit places a.client k) second (sym same) acts_k at_k
