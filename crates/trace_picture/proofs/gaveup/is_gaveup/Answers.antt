use Rattle.trace_picture.proofs.GivenUp.{field_is, given_up, parts_of}
use Rattle.trace_picture.proofs.gaveup.is_gaveup.Goals as goal

pub returns-in-Some : goal.returns-in-Some
returns-in-Some c =
    let line = c.args.line.now in
    let field = c.in-Some.field.now in
    let found = c.in-Some.ensures.found in
    ((λ yes. given_up line field found (c.is_client.ensures.0 yes)), λ g. c.is_client.ensures.1 (field_is line field found g))

pub returns-in-None : goal.returns-in-None
returns-in-None c = ((λ yes. cc yes), λ g. let p = parts_of c.args.line.now g in absurd (c.in-None.ensures.none p.0 p.2))
