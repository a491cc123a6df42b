-- Short texts cut into lines and records.
use Rattle.std.proofs.Common.{◌≡◌, [], ◌∷◌, refl}
use Rattle.std.specs.Prelude.{codes}
use Rattle.csv.proofs.OnLiterals.{csv_on_literals}
use Rattle.record_cutting.specs.Lines.{whole_lines, last_part, lines_of, line_records, records_of, whole_records}

-- what texts are cut with
unfoldable cutting : Unit {0}
unfolding csv_on_literals whole_lines last_part line_records
cutting = tt

no_bytes : lines_of [] ≡ []
unfolding cutting
no_bytes = refl

two_lines : lines_of (codes "a\n\nb") ≡ codes "a\n" ∷ codes "\n" ∷ codes "b" ∷ []
unfolding cutting
two_lines = refl

feed_at_the_end : lines_of (codes "a\n") ≡ codes "a\n" ∷ []
unfolding cutting
feed_at_the_end = refl

-- the last line counts, unless whole lines alone do
last_line : records_of (codes "tick,1\nsave") ≡ (codes "tick" ∷ codes "1" ∷ []) ∷ (codes "save" ∷ []) ∷ []
unfolding cutting
last_line = refl

whole_line : whole_records (codes "tick,1\nsave") ≡ (codes "tick" ∷ codes "1" ∷ []) ∷ []
unfolding cutting
whole_line = refl
