use Rattle.std.proofs.Common.{rules, refl, ap₂, ◌∙◌, ◌≡◌, codes, map, string_bytes, Some}
use Rattle.std.specs.Prelude.{option_and_then}
use Rattle.clap.specs.Words.{Rule, app_of, first_of, new_rule, rule_of, with_rule}
use Rattle.svr2_run.specs.Words.{serve_app, streams_of}
use Rattle.svr2_run.proofs.Parses.{option_says, refused, taken, value_is}
use Rattle.svr2_run.proofs.words.read_serve.Goals as goal

-- the option as a rule of the parser
abbrev connect : Rule
connect = record (new_rule (codes "connect")) { long = Some (codes "connect") }

pub returns-in-Err : goal.returns-in-Err
returns-in-Err c =
    let option : rule_of c.long-connect.result ≡ connect = search rules in
    let app : app_of c.in_ok-serve.serve ≡ serve_app = c.in_ok-serve.ensures.shape (search rules) ∙ ap₂ with_rule c.new-2.ensures.app option in
    refused (app_of c.in_ok-serve.serve) serve_app (map string_bytes c.args.words.now) c.in-Err.error c.refusal.result
    (option_and_then (λ rows. streams_of (first_of (codes "connect") rows))) app refl
    c.in-Err.ensures.kinds refl c.refusal.ensures.none (rw c.kind.ensures at c.refusal.ensures.refused)

pub returns-in-Ok : goal.returns-in-Ok
returns-in-Ok c =
    let words = map string_bytes c.args.words.now in
    let option : rule_of c.long-connect.result ≡ connect = search rules in
    let app : app_of c.in_ok-serve.serve ≡ serve_app = c.in_ok-serve.ensures.shape (search rules) ∙ ap₂ with_rule c.new-2.ensures.app option in
    let value = c.get_str.ensures ∙ value_is (app_of c.in_ok-serve.serve) serve_app words c.in-Ok.matches (codes "connect") app refl c.in-Ok.ensures.matches in
    option_says serve_app words (codes "connect") streams_of _ c.streams_of.result (taken (app_of c.in_ok-serve.serve) serve_app words app refl c.in-Ok.ensures.kinds) value c.streams_of.ensures
