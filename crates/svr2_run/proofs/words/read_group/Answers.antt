use Rattle.std.proofs.Common.{rules, refl, ap, ap₂, ◌∙◌, ◌≡◌, codes, map, string_bytes, None, Some}
use Rattle.std.specs.Prelude.{option_and_then}
use Rattle.clap.specs.Words.{Rule, app_of, first_of, new_rule, rule_of, with_rule}
use Rattle.svr2_run.specs.Words.{group_app}
use Rattle.svr2_run.proofs.Parses.{option_says, refused_as, taken, value_is}
use Rattle.svr2_run.proofs.words.read_group.Goals as goal

-- the option as a rule of the parser
abbrev program : Rule
program = record (new_rule (codes "program")) { long = Some (codes "program") }

pub returns-in-Err : goal.returns-in-Err
returns-in-Err c =
    let option : rule_of c.long-program.result ≡ program = search rules in
    let app : app_of c.in_ok-group.group ≡ group_app = c.in_ok-group.ensures.shape (search rules) ∙ ap₂ with_rule c.new-2.ensures.app option in
    refused_as string_bytes (app_of c.in_ok-group.group) group_app (map string_bytes c.args.words.now) c.in-Err.error c.refusal.result
    (option_and_then (λ rows. first_of (codes "program") rows)) app refl
    c.in-Err.ensures.kinds refl c.refusal.ensures.none (rw c.kind.ensures at c.refusal.ensures.refused)

pub returns-in_default : goal.returns-in_default
returns-in_default c =
    let words = map string_bytes c.args.words.now in
    let option : rule_of c.long-program.result ≡ program = search rules in
    let app : app_of c.in_ok-group.group ≡ group_app = c.in_ok-group.ensures.shape (search rules) ∙ ap₂ with_rule c.new-2.ensures.app option in
    let value = c.get_str.ensures ∙ value_is (app_of c.in_ok-group.group) group_app words c.in-Ok.matches (codes "program") app refl c.in-Ok.ensures.matches in
    option_says group_app words (codes "program") (λ path. path) _ None (taken (app_of c.in_ok-group.group) group_app words app refl c.in-Ok.ensures.kinds) value (rw c.in_default.is refl)

pub returns-in_ok-from_str-in-Ok : goal.returns-in_ok-from_str-in-Ok
returns-in_ok-from_str-in-Ok c =
    let words = map string_bytes c.args.words.now in
    let option : rule_of c.long-program.result ≡ program = search rules in
    let app : app_of c.in_ok-group.group ≡ group_app = c.in_ok-group.ensures.shape (search rules) ∙ ap₂ with_rule c.new-2.ensures.app option in
    let value = c.get_str.ensures ∙ value_is (app_of c.in_ok-group.group) group_app words c.in-Ok.matches (codes "program") app refl c.in-Ok.ensures.matches in
    option_says group_app words (codes "program") (λ path. path) _ (Some (string_bytes c.in_ok-from_str-in-Ok.field-0)) (taken (app_of c.in_ok-group.group) group_app words app refl c.in-Ok.ensures.kinds) value
    (rw c.in-Some.is (ap Some c.in_ok-from_str-in-Ok.ensures.ok))
