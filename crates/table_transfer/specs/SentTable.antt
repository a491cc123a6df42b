-- A table that is being sent.
use Rattle.std.specs.Prelude.{◌≡◌, ℕ, ◌&&◌, ◌==◌, nat_lt, cond}
use Rattle.values.specs.declared.entry.Point.{Point}
use Rattle.values.specs.declared.peer.TablePart.{TablePart}
use Rattle.group_quorum.specs.Conf.{Conf}
use Rattle.record_rules.specs.Table.{RecordTable}
use Rattle.replica_model.specs.Path.{Link, end_point, same_point, last_term}
use Rattle.replica_model.specs.Configs.{conf, conf_index}
use Rattle.replica_model.specs.Folds.{fold_of}
use Rattle.replica_model.specs.Replica.{Named}
use Rattle.replica_model.specs.Tables.{parts_of, rows_in_part}
use Rattle.table_transfer.specs.declared.sending.Sent.{Sent}
use Rattle.table_transfer.specs.declared.sending.Sent.TheVariants.{Next, Done, Ignored}

-- the table after the entry at a point, what a log that begins there has to know, and the number of the part that is
-- outstanding
pub record SentTable : Type 0 where
  pub point : Point
  pub last_term : ℕ
  pub conf : Conf
  pub conf_index : ℕ
  pub table : RecordTable
  pub part : ℕ

-- no part has been taken yet
abbrev pub begun : Point → ℕ → Conf → ℕ → RecordTable → SentTable
begun point last_term conf conf_index table =
    record { point = point; last_term = last_term; conf = conf; conf_index = conf_index; table = table; part = 0 }

-- the part of a number, from 0
abbrev pub part_at : SentTable → ℕ → TablePart
part_at s number =
    record {
      point = s.point;
      last_term = s.last_term;
      conf_index = s.conf_index;
      margin = s.conf.margin;
      voters = s.conf.voters;
      limit = s.table.limit;
      part = number;
      parts = parts_of s.table.rows;
      rows = rows_in_part s.table.rows number;
    }

-- what it means that the parts before a number of the table at a point were taken
abbrev pub heard : SentTable → Point → ℕ → Sent
heard s point next =
    cond (same_point point s.point)
    (cond (next == parts_of s.table.rows) Done (cond (nat_lt s.part next && nat_lt next (parts_of s.table.rows)) Next Ignored))
    Ignored

-- where a later part is outstanding, it is that one
abbrev pub after_heard : SentTable → ℕ → Sent → SentTable
after_heard s next Next = record s { part = next }
after_heard s next Done = s
after_heard s next Ignored = s

-- the table is that of a path, and all else is the path's
pub record SendsTableOf (link : Link) (s : SentTable) (names : Named) : Type 0 where
  pub point : s.point ≡ end_point link names.path
  pub last_term : s.last_term ≡ last_term names.path
  pub conf : s.conf ≡ conf names.first names.path
  pub conf_index : s.conf_index ≡ conf_index names.path
  pub table : s.table ≡ fold_of names.limit names.path
