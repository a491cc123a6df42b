use Rattle.std.proofs.Common.{rules, refl, ap, ap₂, ◌∙◌, ◌≡◌, codes, map, string_bytes, option_map, Some}
use Rattle.clap.specs.Words.{Rule, app_of, new_rule, rule_of, with_rule}
use Rattle.svr2_run.specs.Words.{limit_of, table_app}
use Rattle.svr2_run.specs.declared.words.Command.TheVariants.{Play}
use Rattle.svr2_run.specs.declared.words.Play.TheVariants.{Table}
use Rattle.std.specs.Prelude.{option_and_then}
use Rattle.clap.specs.Words.{first_of}
use Rattle.svr2_run.proofs.Parses.{refused, taken, table_is, value_is}
use Rattle.svr2_run.proofs.words.read_table.Goals as goal

-- the option as a rule of the parser
abbrev rows : Rule
rows = record (new_rule (codes "rows")) { long = Some (codes "rows") }

pub returns-in-Err : goal.returns-in-Err
returns-in-Err c =
    let option : rule_of c.long-rows.result ≡ rows = search rules in
    let app : app_of c.in_ok-table.table ≡ table_app = c.in_ok-table.ensures.shape (search rules) ∙ ap₂ with_rule c.new-2.ensures.app option in
    refused (app_of c.in_ok-table.table) table_app (map string_bytes c.args.words.now) c.in-Err.error c.refusal.result
    (λ found. option_map (λ limit. Play (Table limit)) (option_and_then (λ rows. limit_of (first_of (codes "rows") rows)) found)) app refl
    c.in-Err.ensures.kinds refl c.refusal.ensures.none (rw c.kind.ensures at c.refusal.ensures.refused)

pub returns-in_default : goal.returns-in_default
returns-in_default c =
    let words = map string_bytes c.args.words.now in
    let option : rule_of c.long-rows.result ≡ rows = search rules in
    let app : app_of c.in_ok-table.table ≡ table_app = c.in_ok-table.ensures.shape (search rules) ∙ ap₂ with_rule c.new-2.ensures.app option in
    let value = c.get_str.ensures ∙ value_is (app_of c.in_ok-table.table) table_app words c.in-Ok.matches (codes "rows") app refl c.in-Ok.ensures.matches in
    table_is words c.limit_of.result _ (taken (app_of c.in_ok-table.table) table_app words app refl c.in-Ok.ensures.kinds) (c.limit_of.ensures.value ∙ ap limit_of value) c.in_default.is

pub returns-in-Some : goal.returns-in-Some
returns-in-Some c =
    let words = map string_bytes c.args.words.now in
    let option : rule_of c.long-rows.result ≡ rows = search rules in
    let app : app_of c.in_ok-table.table ≡ table_app = c.in_ok-table.ensures.shape (search rules) ∙ ap₂ with_rule c.new-2.ensures.app option in
    let value = c.get_str.ensures ∙ value_is (app_of c.in_ok-table.table) table_app words c.in-Ok.matches (codes "rows") app refl c.in-Ok.ensures.matches in
    table_is words c.limit_of.result _ (taken (app_of c.in_ok-table.table) table_app words app refl c.in-Ok.ensures.kinds) (c.limit_of.ensures.value ∙ ap limit_of value) c.in-Some.is
