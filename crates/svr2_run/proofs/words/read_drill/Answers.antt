use Rattle.std.proofs.Common.{rules, refl, ap, ap₂, ◌∙◌, ◌≡◌, codes, map, string_bytes, Some}
use Rattle.std.specs.Prelude.{option_and_then}
use Rattle.clap.specs.Words.{Rule, app_of, first_of, new_rule, rule_of, with_rule}
use Rattle.svr2_run.specs.Words.{drill_app, drill_by}
use Rattle.svr2_run.proofs.Parses.{options_say, refused, taken, value_is}
use Rattle.svr2_run.proofs.words.read_drill.Goals as goal

-- the options as rules of the parser
abbrev seed : Rule
seed = record (new_rule (codes "seed")) { long = Some (codes "seed") }

abbrev clients : Rule
clients = record (new_rule (codes "clients")) { long = Some (codes "clients") }

pub returns-in-Err-clause-command : goal.returns-in-Err-clause-command
returns-in-Err-clause-command c =
    let first : rule_of c.long-seed.result ≡ seed = search rules in
    let second : rule_of c.long-clients.result ≡ clients = search rules in
    let one = c.in_ok-arg.ensures.shape (search rules) ∙ ap₂ with_rule c.new-3.ensures.app first in
    let app : app_of c.in_ok-drill.drill ≡ drill_app = c.in_ok-drill.ensures.shape (search rules) ∙ ap₂ with_rule one second in
    refused (app_of c.in_ok-drill.drill) drill_app (map string_bytes c.args.words.now) c.in-Err.error c.refusal.result
    (option_and_then (λ rows. drill_by (first_of (codes "seed") rows) (first_of (codes "clients") rows))) app refl
    c.in-Err.ensures.kinds refl c.refusal.ensures.none (rw c.kind.ensures at c.refusal.ensures.refused)

pub returns-in-Ok-clause-command : goal.returns-in-Ok-clause-command
returns-in-Ok-clause-command c =
    let words = map string_bytes c.args.words.now in
    let first : rule_of c.long-seed.result ≡ seed = search rules in
    let second : rule_of c.long-clients.result ≡ clients = search rules in
    let one = c.in_ok-arg.ensures.shape (search rules) ∙ ap₂ with_rule c.new-3.ensures.app first in
    let app : app_of c.in_ok-drill.drill ≡ drill_app = c.in_ok-drill.ensures.shape (search rules) ∙ ap₂ with_rule one second in
    let value = c.get_str.ensures ∙ value_is (app_of c.in_ok-drill.drill) drill_app words c.in-Ok.matches (codes "seed") app refl c.in-Ok.ensures.matches in
    let count = c.get_str-in-Ok.ensures ∙ value_is (app_of c.in_ok-drill.drill) drill_app words c.in-Ok.matches (codes "clients") app refl c.in-Ok.ensures.matches in
    options_say drill_app words (codes "seed") (codes "clients") drill_by _ _ c.drill_of.result (taken (app_of c.in_ok-drill.drill) drill_app words app refl c.in-Ok.ensures.kinds) value count c.drill_of.ensures.said
