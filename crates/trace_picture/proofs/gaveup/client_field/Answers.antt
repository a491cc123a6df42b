use Rattle.std.proofs.Common.{Some, codes}
use Rattle.std.proofs.lemmas.Bool.Decides.{Decides-eqb}
use Rattle.std.proofs.lemmas.Slice.Eq.{strip_prefix_is, strip_suffix_is}
use Rattle.trace_picture.proofs.GivenUp.{client_found, no_client_found}
use Rattle.trace_picture.proofs.gaveup.client_field.Goals as goal

pub returns-clause-found : goal.returns-clause-found
returns-clause-found c =
    client_found c.args.line.now c.in-Some.rest.now c.strip_suffix.result
    (strip_prefix_is Decides-eqb c.args.line.now (codes "gaveup,") (Some c.in-Some.rest) c.in-Some.ensures.cases)
    (strip_suffix_is Decides-eqb c.in-Some.rest.now (codes ",16") c.strip_suffix.result c.strip_suffix.ensures.cases)

pub returns-clause-none : goal.returns-clause-none
returns-clause-none c =
    no_client_found c.args.line.now c.in-Some.rest.now c.strip_suffix.result
    (strip_prefix_is Decides-eqb c.args.line.now (codes "gaveup,") (Some c.in-Some.rest) c.in-Some.ensures.cases)
    (strip_suffix_is Decides-eqb c.in-Some.rest.now (codes ",16") c.strip_suffix.result c.strip_suffix.ensures.cases)
