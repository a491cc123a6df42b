use Rattle.std.proofs.Common.{◌≡◌, ℕ, List, ◌++◌, sym, ap, ◌∙◌, append_assoc}
use Rattle.byteorder.specs.Endian.{big_bytes}
use Rattle.sha2.specs.Sha256.{sha256}
use Rattle.values.specs.declared.entry.Hash.{Hash}
use Rattle.values.specs.declared.entry.Body.{Body}
use Rattle.hash_chain.specs.Links.{link_bytes}
use Rattle.replica_model.specs.Linked.{sha_link}
use Rattle.replica_log.proofs.chained.link.Goals as goal

pub returns-in-Ask : goal.returns-in-Ask
returns-in-Ask c =
    let client = c.in-Ask.client in
    let request = c.in-Ask.request in
    let body : c.ask_start-start.result ++ c.as_slice.result.now ≡ client.0 ++ (big_bytes 8 c.in-Ask.number ++ request) =
    ap (λ start. start ++ c.as_slice.result.now) c.ask_start-start.ensures
    ∙ ap (λ rest. (client.0 ++ big_bytes 8 c.in-Ask.number) ++ rest) c.as_slice.ensures
    ∙ append_assoc client.0 (big_bytes 8 c.in-Ask.number) request in
    ap (λ (h : List ℕ). let made : Hash = record { 0 = h } in made)
    (c.link_parts-in-Ask.ensures ∙ ap (λ b. sha256 (link_bytes c.args.before.now.0 c.args.index c.args.entry.now.term 1 b)) body)
    ∙ ap (λ (b : Body). sha_link c.args.before.now c.args.index (record { term = c.args.entry.now.term; body = b })) (sym c.in-Ask.is)
