use Rattle.std.proofs.Common.{◌≡◌, ℕ, ◌+◌, true, Some, None, Option, Result, List, [], ◌∷◌, ◌++◌, sym, ap, subst, ◌∙◌}
use Rattle.std.specs.Prelude.{IfSome}
use Rattle.values.specs.declared.batch.Batch.{Batch}
use Rattle.client_msgs.specs.Strict.{is_canonical}
use Rattle.values.specs.declared.entry.Body.TheVariants.{Ask}
use Rattle.values.specs.declared.entry.LogEntry.{LogEntry}
use Rattle.values.specs.declared.ids.ClientId.{ClientId}
use Rattle.values.specs.declared.message.Request.{Request}
use Rattle.client_msgs.specs.declared.fault.RequestFault.{RequestFault}
use Rattle.client_msgs.specs.Reading.{request_of}
use Rattle.replica_model.specs.Call.{still}
use Rattle.replica_model.specs.Clients.{asked}
use Rattle.replica_core.specs.declared.tickets.Ticket.{Ticket}
use Rattle.replica_core.specs.declared.holder.Holder.{Holder}
use Rattle.replica_core.specs.Asking.{read_as}
use Rattle.replica_core.specs.Calling.{Reaches}
use Rattle.replica_core.specs.Keeping.{IsSound}
use Rattle.replica_core.proofs.Asks.{no-bytes, written-request, no-request, refused, MayAsk, may-ask, asked-sound, asked-reaches, asked-does}
use Rattle.replica_core.proofs.Changes.{leading-model}
use Rattle.group_msgs.specs.Ranges.{IsBodyInRange}
use Rattle.replica_core.specs.InRange.{IsHolderInRange}
use Rattle.replica_core.specs.Ranges.{IsStepBatch}
use Rattle.replica_core.proofs.Handed.{read-in, refusal-in}
use Rattle.replica_core.proofs.Ranged.{answered-in, pushed-in, table-in}
use Rattle.replica_core.proofs.holder.Holder.client_request.Goals as goal

pub returns-in_default-clause-model : goal.returns-in_default-clause-model
returns-in_default-clause-model c = λ s st.
    let b : Batch = c.args.batch.now in
    let b' : Batch = c.canonical_ask.new.batch in
    let r : Result Request RequestFault = request_of c.args.ask.request.now in
    let read : (None, b') ≡ read_as b c.args.ask.client c.args.ask.number r =
    no-bytes b b' c.args.ask.client c.args.ask.number r (sym c.in_default.is ∙ c.in_ok-request.ensures.bytes) c.in_ok-request.ensures.batch in
    no-request c.logs_are_the_models.ensures c.args.self.now b s st c.requires.empty c.args.ask.client c.args.ask.number b' r read

pub returns-in-Some-refusal-clause-model : goal.returns-in-Some-refusal-clause-model
returns-in-Some-refusal-clause-model c = λ s st.
    let b : Batch = c.args.batch.now in
    let b' : Batch = c.canonical_ask.new.batch in
    let r : Result Request RequestFault = request_of c.args.ask.request.now in
    let found = written-request b b' c.args.ask.client c.args.ask.number r c.in-Some.request (sym c.in-Some.is ∙ c.in_ok-request.ensures.bytes) c.in_ok-request.ensures.batch in
    refused c.logs_are_the_models.ensures c.args.self.now b' s st (found.1.1.0 ∙ c.requires.empty) c.args.ask.client c.args.ask.number found.0 c.in-Some-refusal.refusal
    c.push.new.self c.in_ok-push.ensures.ok r found.1.0 (sym c.in-Some-refusal.is ∙ c.refusal.ensures)

pub raise-requires : goal.raise-requires
raise-requires c =
    let h : Holder = c.args.self.now in
    let client : ClientId = c.args.ask.client in
    let number : ℕ = c.args.ask.number in
    let t : Ticket = record { index = c.last.result + 1; client = client; number = number } in
    let e : LogEntry = record { term = h.ballot.term; body = Ask client number c.in-Some.request } in
    let may : MayAsk h = may-ask h (sym c.refusal.ensures ∙ c.in_default-refusal.is) in
    subst (λ ts. IsSound (record (c.push-2.new.self) { tickets = ts })) (sym c.in_ok-push-3.ensures)
    (subst (λ (x : Holder). IsSound (record x { tickets = x.tickets ++ t ∷ [] })) (sym c.in_ok-push-2.ensures.after)
    (asked-sound h c.requires.sound c.last.ensures.ordered may e t (ap (λ n. n + 1) c.last.ensures.last)))

pub returns-clause-model : goal.returns-clause-model
returns-clause-model c = λ s st.
    let h : Holder = c.args.self.now in
    let b : Batch = c.args.batch.now in
    let b' : Batch = c.canonical_ask.new.batch in
    let client : ClientId = c.args.ask.client in
    let number : ℕ = c.args.ask.number in
    let bytes : List ℕ = c.in-Some.request in
    let r : Result Request RequestFault = request_of c.args.ask.request.now in
    let found = written-request b b' client number r bytes (sym c.in-Some.is ∙ c.in_ok-request.ensures.bytes) c.in_ok-request.ensures.batch in
    let request : Request = found.0 in
    let empty = found.1.1.0 ∙ c.requires.empty in
    let o = c.last.ensures.ordered in
    let t : Ticket = record { index = c.last.result + 1; client = client; number = number } in
    let may : MayAsk h = may-ask h (sym c.refusal.ensures ∙ c.in_default-refusal.is) in
    let m = leading-model h s st may.leading may.role in
    let grown : Holder = c.push-2.new.self in
    let grown-is : grown ≡ record h { log = grown.log } = c.in_ok-push-2.ensures.after ∙ sym (ap (λ (g : Holder). record h { log = g.log }) c.in_ok-push-2.ensures.after) in
    let reached : Reaches (record h { log = grown.log; tickets = h.tickets ++ t ∷ [] }) b' (still (asked s client number request)) =
    asked-reaches c.logs_are_the_models.ensures h b' s st o empty client number request grown.log bytes found.1.1.1 (c.in_ok-push-2.ensures.model s st.log)
    t (ap (λ n. record { index = n + 1; client = client; number = number }) c.last.ensures.last) in
    let after : Holder = record grown { tickets = c.push-3.new.self } in
    let after-is : after ≡ record h { log = grown.log; tickets = h.tickets ++ t ∷ [] } =
    ap (λ ts. record grown { tickets = ts }) c.in_ok-push-3.ensures ∙ ap (λ (x : Holder). record x { tickets = x.tickets ++ t ∷ [] }) grown-is in
    asked-does c.logs_are_the_models.ensures h b' s st o empty client number request may m.0 m.1.0 r found.1.0 c.raise.new.self c.raise.new.batch
    (c.in_ok-raise.ensures.model (still (asked s client number request)) m.0
    (subst (λ g. Reaches g b' (still (asked s client number request))) (sym after-is) reached) m.1.0)

pub returns-in_default-clause-in_range : goal.returns-in_default-clause-in_range
returns-in_default-clause-in_range c = λ ranged told.
    (ranged, (read-in c.args.batch.now c.canonical_ask.new.batch c.args.ask.client c.args.ask.number (request_of c.args.ask.request.now) c.in_ok-request.ensures.batch told, tt))

pub returns-in-Some-refusal-clause-in_range : goal.returns-in-Some-refusal-clause-in_range
returns-in-Some-refusal-clause-in_range c = λ ranged told.
    let b' : Batch = c.canonical_ask.new.batch in
    let read = read-in c.args.batch.now b' c.args.ask.client c.args.ask.number (request_of c.args.ask.request.now) c.in_ok-request.ensures.batch told in (
      ranged,
      (
        subst (λ xs. IsStepBatch (record b' { answers = xs })) (sym c.in_ok-push.ensures.ok)
            (answered-in b' read c.args.ask.client c.args.ask.number c.in-Some-refusal.refusal
            (refusal-in c.args.self.now c.in-Some-refusal.refusal ranged (sym c.refusal.ensures ∙ c.in-Some-refusal.is))),
        tt,
      ),
    )

pub returns-clause-in_range : goal.returns-clause-in_range
returns-clause-in_range c = λ ranged told.
    let h : Holder = c.args.self.now in
    let b' : Batch = c.canonical_ask.new.batch in
    let client : ClientId = c.args.ask.client in
    let number : ℕ = c.args.ask.number in
    let r : Result Request RequestFault = request_of c.args.ask.request.now in
    let bytes : List ℕ = c.in-Some.request in
    let t : Ticket = record { index = c.last.result + 1; client = client; number = number } in
    let e : LogEntry = record { term = h.ballot.term; body = Ask client number bytes } in
    let body : IsBodyInRange (Ask client number bytes) = subst (λ (o : Option (List ℕ)). IfSome o (λ xs. is_canonical xs ≡ true)) c.in-Some.is c.in_ok-request.ensures.canonical in
    let pushed = subst IsHolderInRange (sym c.in_ok-push-2.ensures.after) (pushed-in h e ranged (c.requires.sound.term, body)) in
    let raised = c.in_ok-raise.ensures.in_range (table-in c.push-2.new.self c.push-2.new.self.table c.push-3.new.self pushed)
    (read-in c.args.batch.now b' client number r c.in_ok-request.ensures.batch told) in
    (raised.0, (raised.1, tt))
