use Rattle.std.proofs.Common.{◌≡◌, ℕ, true, false, sym, ap, ◌∙◌, arith}
use Rattle.std.proofs.lemmas.Bool.{cond-true, cond-false, le-ltb, lt-ltb}
use Rattle.replica_log.specs.declared.configs.Configs.{Configs}
use Rattle.replica_log.specs.Window.{Window, last_index, conf_at, conf_index_at, older_conf_at}
use Rattle.replica_model.specs.Peers.{united}
use Rattle.replica_core.specs.Keeping.{is_pending_at}
use Rattle.replica_core.proofs.holder.Holder.voters_counted.Goals as goal

pub returns-then-configs-committed-clause-ids : goal.returns-then-configs-committed-clause-ids
returns-then-configs-committed-clause-ids c =
    let w : Window = c.args.self.now.log in
    let n : ℕ = last_index w in
    let at : c.configs-configs.result.newest_index ≡ conf_index_at w n = ap (λ (k : Configs). k.newest_index) c.configs-configs.ensures in
    let settled = c.if-configs-committed.true in
    let committed = c.committed-committed.ensures.committed in
    let test : is_pending_at w ≡ false = le-ltb w.committed (conf_index_at w n) (omega (arith, at, settled, committed)) in
    c.in_ok-ids.ensures
    ∙ (c.voters.ensures.voters
    ∙ (ap (λ (k : Configs). k.newest.voters) c.configs-configs.ensures
    ∙ sym (cond-false (is_pending_at w) (united (older_conf_at w n).voters (conf_at w n).voters) (conf_at w n).voters test)))

pub returns-clause-ids : goal.returns-clause-ids
returns-clause-ids c =
    let w : Window = c.args.self.now.log in
    let n : ℕ = last_index w in
    let at : c.configs-configs.result.newest_index ≡ conf_index_at w n = ap (λ (k : Configs). k.newest_index) c.configs-configs.ensures in
    let pending = c.if-configs-committed.false in
    let committed = c.committed-committed.ensures.committed in
    let test : is_pending_at w ≡ true = lt-ltb w.committed (conf_index_at w n) (omega (arith, at, pending, committed)) in
    c.in_ok-unite.ensures
    ∙ (ap (λ more. united more c.in_ok-ids.ids) (c.voters-2.ensures.voters ∙ ap (λ (k : Configs). k.older.voters) c.configs-configs.ensures)
    ∙ (ap (united (older_conf_at w n).voters) (c.in_ok-ids.ensures ∙ (c.voters.ensures.voters ∙ ap (λ (k : Configs). k.newest.voters) c.configs-configs.ensures))
    ∙ sym (cond-true (is_pending_at w) (united (older_conf_at w n).voters (conf_at w n).voters) (conf_at w n).voters test)))
