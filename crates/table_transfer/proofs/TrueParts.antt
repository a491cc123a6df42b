-- The outstanding part of a path's table is a true part of it.
use Rattle.std.proofs.Common.{◌≡◌, ℕ, ◌<◌, ◌≤◌, ◌*◌, List, length, take, drop, arith, ap, ◌∙◌}
use Rattle.std.proofs.lemmas.List.{length-take}
use Rattle.values.specs.declared.row.Row.{Row}
use Rattle.std.proofs.lemmas.List.Elements.{All-take, All-drop}
use Rattle.record_rules.specs.Valid.{IsSound, IsValidRow}
use Rattle.table_transfer.specs.TakenParts.{IsTakable}
use Rattle.replica_model.specs.Path.{Link, Path}
use Rattle.replica_model.specs.Replica.{Named}
use Rattle.replica_model.specs.Folds.{fold_of}
use Rattle.replica_model.specs.Tables.{parts_of, rows_in_part, IsTruePart}
use Rattle.table_transfer.specs.SentTable.{SentTable, part_at, SendsTableOf}

pub true_part : ((limit : ℕ) (path : Path) → (fold_of limit path).limit ≡ limit) → (link : Link) (s : SentTable) (names : Named) → SendsTableOf link s names → s.part < parts_of s.table.rows
    → IsTruePart link (part_at s s.part) names
true_part limits link s names sends below =
    let limit_is : s.table.limit ≡ names.limit = ap (λ t. t.limit) sends.table ∙ limits names.limit names.path in
    let rows_are : s.table.rows ≡ (fold_of names.limit names.path).rows = ap (λ t. t.rows) sends.table in
    record {
      is_part = λ i. record {
        point = sends.point i;
        last_term = sends.last_term i;
        conf_index = sends.conf_index i;
        margin = (sends.conf i).margin;
        voters = (sends.conf i).voters;
        limit = limit_is i;
        part = s.part;
        parts = parts_of (rows_are i);
        rows = rows_in_part (rows_are i) s.part;
      };
      below = below;
    }

-- it can be taken
pub takable : (s : SentTable) → IsSound s.table → s.part < parts_of s.table.rows → IsTakable (part_at s s.part)
takable s sound below =
    record {
      limit_least = sound.limit_least;
      limit_most = sound.limit_most;
      below = below;
      rows = All-take IsValidRow 32 (drop (32 * s.part) s.table.rows) (All-drop IsValidRow (32 * s.part) s.table.rows sound.valid);
    }

-- it has no more rows than a part holds
pub at_most : (rows : List Row) → length (take 32 rows) ≤ 32
at_most rows = let l = length-take 32 rows in omega (arith, l)
