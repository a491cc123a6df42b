-- Between two changes of the configuration all indices of a log have the same configurations.
use Rattle.std.proofs.Common.{◌≡◌, ℕ, ◌+◌, ◌-◌, ◌≤◌, cond, ◌++◌, length, take, drop, sym, ap, ◌∙◌, arith}
use Rattle.std.specs.Prelude.{nat_lt}
use Rattle.std.proofs.Math.Seq.{take-add}
use Rattle.group_quorum.specs.Conf.{Conf}
use Rattle.replica_model.specs.Path.{Path}
use Rattle.replica_model.specs.Configs.{conf, conf_index_from}
use Rattle.replica_model.proofs.Paths.{conf-append, conf_index_from-append}
use Rattle.replica_log.specs.declared.configs.Configs.{Configs}
use Rattle.replica_log.specs.Window.{Window, base_index, last_index, upto, conf_at, conf_index_at, configs_at}
use Rattle.replica_log.proofs.Chains.{conf_still, conf_index_from-still, conf_index_within}
use Rattle.replica_log.proofs.Splicing.{length-upto}

pub configs_stay : (w : Window) (i top : ℕ) → w.base.conf_index ≤ base_index w → base_index w ≤ i → i ≤ top → top ≤ last_index w
    → conf_index_at w top ≤ i → configs_at w i ≡ configs_at w top
configs_stay w i top low least_i le most here =
    let b : ℕ = base_index w in
    let front : Path = upto w i in
    let more : Path = take (top - i) (drop (i - b) w.entries) in
    let parts : top - b ≡ (i - b) + (top - i) = omega (arith, least_i, le) in
    let whole : upto w top ≡ front ++ more = ap (λ n. take n w.entries) parts ∙ take-add (i - b) (top - i) w.entries in
    let at_i : b + length front ≡ i = (let l = length-upto w i (omega (arith, le, most)) in omega (arith, l, least_i)) in
    let index_of : conf_index_at w top ≡ conf_index_from (conf_index_at w i) i more =
    ap (conf_index_from w.base.conf_index b) whole ∙ conf_index_from-append w.base.conf_index b front more
    ∙ ap (λ k. conf_index_from (conf_index_at w i) k more) at_i in
    let within : conf_index_at w i ≤ i = conf_index_within w i low least_i in
    let stays : conf_index_from (conf_index_at w i) i more ≤ i = omega (arith, index_of, here) in
    let index_same : conf_index_at w i ≡ conf_index_at w top = sym (index_of ∙ conf_index_from-still (conf_index_at w i) i more within stays) in
    let conf_same : conf_at w i ≡ conf_at w top =
    sym (ap (conf w.base.conf) whole ∙ conf-append w.base.conf front more ∙ conf_still (conf_at w i) (conf_index_at w i) i more within stays) in
    let made : Conf → ℕ → Configs = λ c n. record { newest = c; newest_index = n; older = cond (nat_lt b n) (conf_at w (n - 1)) c } in
    ap (λ c. made c (conf_index_at w i)) conf_same ∙ ap (made (conf_at w top)) index_same
