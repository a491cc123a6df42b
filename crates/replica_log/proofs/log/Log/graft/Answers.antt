use Rattle.std.proofs.Common.{◌≡◌, ℕ, ◌+◌, ◌-◌, ◌++◌, length, drop, min, sym, ap, ◌∙◌, subst, arith}
use Rattle.std.proofs.lemmas.List.{drop_min, take_rest}
use Rattle.values.specs.declared.entry.Hash.{Hash}
use Rattle.replica_model.specs.Path.{Path}
use Rattle.replica_log.specs.declared.graft.Graft.{Graft}
use Rattle.replica_log.specs.declared.graft.Graft.TheVariants.{Grafted}
use Rattle.replica_log.specs.Window.{Window, upto}
use Rattle.replica_log.specs.Grafting.{KeepsPromised, kept_index, grafted, point_at}
use Rattle.replica_model.specs.Linked.{sha_link}
use Rattle.replica_log.proofs.Answering.{answers_model}
use Rattle.replica_log.proofs.Grafts.{keeps_grafted}
use Rattle.replica_log.proofs.log.Log.graft.Goals as goal
use Rattle.replica_log.proofs.log.Log.graft.Goals.{After-hash_of-hash}

pub returns-in-Err-clause-reaches : goal.returns-in-Err-clause-reaches
returns-in-Err-clause-reaches c = c.in-Err.ensures.refused.reaches

pub returns-in-Err-clause-model : goal.returns-in-Err-clause-model
returns-in-Err-clause-model c =
    answers_model sha_link c.args.self.now c.args.prev c.args.entries.now c.in-Err.refusal c.args.self.now c.find_cut.ensures.ordered
    c.in-Err.ensures.refused.answer (sym c.in-Err.ensures.refused.same)

-- the window after what was grafted
grafted_is : (c : After-hash_of-hash) → c.replace_after.new.self ≡ grafted c.args.self.now c.args.prev c.args.entries.now c.in-Ok.cut
grafted_is c =
    let w : Window = c.args.self.now in
    let p : Path = c.args.entries.now in
    let k : ℕ = kept_index w c.in-Ok.cut in
    let stay : c.kept_index-stay.result ≡ k = c.kept_index-stay.ensures in
    let stand : c.min-stand.result ≡ min (k - c.args.prev.index) (length p) = (let least = c.min-stand.ensures in omega arith) in
    let made : ℕ → Path → Window = λ n q. record w { entries = upto w n ++ q } in
    c.in_ok-replace_after.ensures.ok
    ∙ (ap (made c.kept_index-stay.result) (take_rest p c.min-stand.result)
    ∙ (ap (λ n. made n (drop c.min-stand.result p)) stay
    ∙ ap (made k) (ap (λ n. drop n p) stand ∙ drop_min (k - c.args.prev.index) p)))

pub returns-clause-model : goal.returns-clause-model
returns-clause-model c =
    let w : Window = c.args.self.now in
    let p : Path = c.args.entries.now in
    let i : ℕ = c.args.prev.index + length p in
    let on : Hash → Graft = λ h. Grafted (record { index = i; hash = h }) c.in-Ok.cut in
    let after = grafted_is c in
    answers_model sha_link w c.args.prev p (on c.hash_of-hash.result) c.replace_after.new.self c.find_cut.ensures.ordered
    (c.in-Ok.ensures.joins.answer ∙ ap on (sym (c.hash_of-hash.ensures ∙ ap (λ (v : Window). (point_at sha_link v i).hash) after)))
    after

pub returns-clause-promised : goal.returns-clause-promised
returns-clause-promised c =
    let w : Window = c.args.self.now in
    subst (KeepsPromised w) (sym (grafted_is c)) (keeps_grafted sha_link w c.args.prev c.args.entries.now c.in-Ok.cut c.find_cut.ensures.ordered c.in-Ok.ensures.joins)
