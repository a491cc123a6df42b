use Rattle.std.proofs.Common.{◌≡◌, ℕ, List, None, Result, Ok, IfOk, sym, ap, ◌∙◌, subst}
use Rattle.std.specs.List.Sorted.{IsStrictlyIncreasing}
use Rattle.values.proofs.RisingLists.{increasing_from_rising}
use Rattle.group_quorum.specs.Conf.{Conf}
use Rattle.group_quorum.specs.Voters.{fault_of, conf_of, conf_or, rising}
use Rattle.group_quorum.specs.declared.ConfigFault.{ConfigFault}
use Rattle.replica_model.specs.Configs.{changed_by}
use Rattle.replica_log.specs.Window.{FitsBody}
use Rattle.replica_log.proofs.chained.config_after.Goals as goal

-- voters without a fault that rise are the configuration's voters as they are
made_of : (margin : ℕ) (voters : List ℕ) (conf : Conf) → fault_of margin voters ≡ None → IsStrictlyIncreasing voters
    → conf_of margin voters ≡ Ok conf → (IsStrictlyIncreasing voters → IfOk (conf_of margin voters) (λ c. c.voters ≡ voters))
    → conf ≡ record { margin = margin; voters = voters }
made_of margin voters conf none up made order =
    let sorted : conf_of margin voters ≡ Ok (record { margin = margin; voters = rising voters }) = ap (λ f. conf_or f margin voters) none in
    let same : rising voters ≡ voters = subst (λ (r : Result Conf ConfigFault). IfOk r (λ c. c.voters ≡ voters)) sorted (order up) in
    let is : conf ≡ record { margin = margin; voters = rising voters } = cc in
    is ∙ ap (λ vs. record { margin = margin; voters = vs }) same

pub returns-in-Members : goal.returns-in-Members
returns-in-Members c =
    let voters : List ℕ = c.in-Members.voters in
    let same : c.as_slice.result.now ≡ voters = c.as_slice.ensures.same in
    let fits : fault_of c.in-Members.margin voters ≡ None = subst FitsBody c.in-Members.is c.requires in
    let made : c.new.result ≡ conf_of c.in-Members.margin voters = c.new.ensures.made ∙ ap (conf_of c.in-Members.margin) same in
    made_of c.in-Members.margin voters c.unwrap.result fits (increasing_from_rising voters c.as_slice.ensures.rising)
    (sym made ∙ c.unwrap.ensures)
    (λ up. subst (λ (r : Result Conf ConfigFault). IfOk r (λ c. c.voters ≡ voters)) made
    (subst (λ vs. IfOk c.new.result (λ c. c.voters ≡ vs)) same (c.new.ensures.in_order (subst IsStrictlyIncreasing (sym same) up))))
    ∙ ap (changed_by c.args.before.now) (sym c.in-Members.is)
