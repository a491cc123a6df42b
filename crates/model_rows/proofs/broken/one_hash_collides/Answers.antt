use Rattle.std.proofs.Common.{true, [], ◌∷◌, ap, inl, refl}
use Rattle.std.specs.Prelude.{nat_eq}
use Rattle.model_rows.specs.Broken.{entry}
use Rattle.model_rows.proofs.Computing.{computing}
use Rattle.model_rows.proofs.Tests.{clash}
use Rattle.model_rows.proofs.broken.one_hash_collides.Goals as goal

pub returns : goal.returns
unfolding computing
returns c = λ none. clash true refl (ap (nat_eq 0) (none [] (entry 1 ∷ []) (entry 1) (entry 2) (inl (entry 2 ∷ [], refl)) (inl ([], refl)) refl).1)
