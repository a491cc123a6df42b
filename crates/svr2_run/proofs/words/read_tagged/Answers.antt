use Rattle.std.proofs.Common.{rules, refl, ap, ap₂, ◌∙◌, ◌≡◌, codes, map, string_bytes, option_map, Some}
use Rattle.std.specs.Prelude.{option_and_then}
use Rattle.clap.specs.Words.{Rule, app_of, first_of, new_rule, rule_of, with_rule}
use Rattle.svr2_run.specs.Words.{key_of, tagged_app}
use Rattle.svr2_run.specs.declared.words.Command.TheVariants.{Tagged}
use Rattle.svr2_run.proofs.Parses.{refused, taken, tagged_is, value_is}
use Rattle.svr2_run.proofs.words.read_tagged.Goals as goal

-- the option as a rule of the parser
abbrev key : Rule
key = record (new_rule (codes "key")) { long = Some (codes "key") }

pub returns-in-Err : goal.returns-in-Err
returns-in-Err c =
    let option : rule_of c.long-key.result ≡ key = search rules in
    let app : app_of c.in_ok-tagged.tagged ≡ tagged_app = c.in_ok-tagged.ensures.shape (search rules) ∙ ap₂ with_rule c.new-2.ensures.app option in
    refused (app_of c.in_ok-tagged.tagged) tagged_app (map string_bytes c.args.words.now) c.in-Err.error c.refusal.result
    (λ found. option_map Tagged (option_and_then (λ rows. key_of (first_of (codes "key") rows)) found)) app refl
    c.in-Err.ensures.kinds refl c.refusal.ensures.none (rw c.kind.ensures at c.refusal.ensures.refused)

pub returns-in_default : goal.returns-in_default
returns-in_default c =
    let words = map string_bytes c.args.words.now in
    let option : rule_of c.long-key.result ≡ key = search rules in
    let app : app_of c.in_ok-tagged.tagged ≡ tagged_app = c.in_ok-tagged.ensures.shape (search rules) ∙ ap₂ with_rule c.new-2.ensures.app option in
    let value = c.get_str.ensures ∙ value_is (app_of c.in_ok-tagged.tagged) tagged_app words c.in-Ok.matches (codes "key") app refl c.in-Ok.ensures.matches in
    tagged_is words c.key_of.result _ (taken (app_of c.in_ok-tagged.tagged) tagged_app words app refl c.in-Ok.ensures.kinds) (c.key_of.ensures ∙ ap key_of value) c.in_default.is

pub returns-in-Some : goal.returns-in-Some
returns-in-Some c =
    let words = map string_bytes c.args.words.now in
    let option : rule_of c.long-key.result ≡ key = search rules in
    let app : app_of c.in_ok-tagged.tagged ≡ tagged_app = c.in_ok-tagged.ensures.shape (search rules) ∙ ap₂ with_rule c.new-2.ensures.app option in
    let value = c.get_str.ensures ∙ value_is (app_of c.in_ok-tagged.tagged) tagged_app words c.in-Ok.matches (codes "key") app refl c.in-Ok.ensures.matches in
    tagged_is words c.key_of.result _ (taken (app_of c.in_ok-tagged.tagged) tagged_app words app refl c.in-Ok.ensures.kinds) (c.key_of.ensures ∙ ap key_of value) c.in-Some.is
