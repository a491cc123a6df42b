use Rattle.std.proofs.Common.{◌≡◌, ℕ, true, false, List, ◌++◌, refl, sym}
use Rattle.std.specs.Prelude.{codes}
use Rattle.values.specs.declared.entry.Body.TheVariants.{Noop}
use Rattle.replica_model.specs.Path.{first_hash}
use Rattle.trace_model.specs.TraceLines.{is_hash}
use Rattle.model_rows.specs.Broken.{long_link, long_hashed, long_trace}
use Rattle.model_rows.proofs.Computing.{computing}
use Rattle.model_rows.proofs.Premises.{no_collision, within_bound}
use Rattle.model_rows.proofs.Unaccepted.{not_accepted, long_hash_says_nothing}
use Rattle.model_rows.proofs.broken.long_hashes_are_refused.Goals as goal

abbrev taken : List ℕ
taken = codes "taken,2,1,a7132aa890a86c2700000000000000000000000000000000000000000000000000"

pub returns-clause-within : goal.returns-clause-within
unfolding computing
returns-clause-within c = within_bound long_link long_hashed refl refl

pub returns-clause-apart : goal.returns-clause-apart
unfolding computing
returns-clause-apart c = no_collision long_link long_hashed refl

pub returns-clause-long : goal.returns-clause-long
unfolding computing
returns-clause-long c gives = let fine : false ≡ true = gives first_hash 1 (record { term = 1; body = Noop }) in absurd (cc)

pub returns-clause-refused : goal.returns-clause-refused
unfolding computing
returns-clause-refused c lines audits = not_accepted long_trace 8 taken refl (long_hash_says_nothing c.fields_are_plain.ensures taken refl refl refl) lines audits
