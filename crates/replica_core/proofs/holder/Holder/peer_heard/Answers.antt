use Rattle.std.proofs.Common.{◌≡◌, ℕ, true, false, nat_lt, IfOk, sym, subst, arith}
use Rattle.std.proofs.lemmas.Bool.{cond-true, cond-false, lt-ltb, le-ltb}
use Rattle.values.specs.Terms.{term_of}
use Rattle.values.specs.declared.peer.PeerMsg.{PeerMsg}
use Rattle.replica_model.specs.Linked.{sha_link}
use Rattle.replica_model.specs.Term.{higher_term}
use Rattle.replica_model.specs.Step.{hears, hears_older}
use Rattle.replica_core.specs.declared.holder.Holder.{Holder}
use Rattle.replica_core.specs.Calling.{Does}
use Rattle.replica_core.proofs.holder.Holder.peer_heard.Goals as goal

pub returns-then-term-self-clause-model : goal.returns-then-term-self-clause-model
returns-then-term-self-clause-model c = λ s st.
    let h : Holder = c.args.self.now in
    let from : ℕ = c.args.from in
    let msg : PeerMsg = c.args.msg.now in
    let lt = c.if-term-self.true in
    let is = c.term_of-term.ensures in
    let same = st.term in
    let older : nat_lt (term_of msg) s.term ≡ true = lt-ltb (term_of msg) s.term (omega (arith, lt, is, same)) in
    subst (λ k. IfOk c.hear_older.result (λ to. Does c.hear_older.new.self c.hear_older.new.batch to k))
    (sym (cond-true (nat_lt (term_of msg) s.term) (hears_older sha_link s from msg) (hears sha_link (higher_term s (term_of msg)) from msg) older))
    (c.hear_older.ensures.model s st)

pub returns-clause-model : goal.returns-clause-model
returns-clause-model c = λ s st.
    let h : Holder = c.args.self.now in
    let from : ℕ = c.args.from in
    let msg : PeerMsg = c.args.msg.now in
    let le = c.if-term-self.false in
    let is = c.term_of-term.ensures in
    let same = st.term in
    let newer : nat_lt (term_of msg) s.term ≡ false = le-ltb (term_of msg) s.term (omega (arith, le, is, same)) in
    subst (λ k. IfOk c.hear.result (λ to. Does c.hear.new.self c.hear.new.batch to k))
    (sym (cond-false (nat_lt (term_of msg) s.term) (hears_older sha_link s from msg) (hears sha_link (higher_term s (term_of msg)) from msg) newer))
    (subst (λ t. IfOk c.hear.result (λ to. Does c.hear.new.self c.hear.new.batch to (hears sha_link (higher_term s t) from msg))) is
    (c.hear.ensures.model (higher_term s c.term_of-term.result) (c.take_term.ensures.model s st)))

pub returns-clause-in_range : goal.returns-clause-in_range
returns-clause-in_range c = λ id ranged. c.hear.ensures.in_range id (c.take_term.ensures.in_range ranged)
