-- A book of entries that were committed, kept with the table that they make and with what each place replies.
use Rattle.std.specs.Prelude.{◌≡◌, ℕ, ◌+◌, ◌==◌, ◌&&◌, Bool, List, map, length, slice_get, Option, Some, None}
use Rattle.values.specs.declared.entry.LogEntry.{LogEntry}
use Rattle.values.specs.declared.ids.ClientId.{ClientId}
use Rattle.values.specs.declared.message.Reply.{Reply}
use Rattle.record_rules.specs.Table.{RecordTable}
use Rattle.record_rules.specs.Places.{ClientAsk}
use Rattle.record_rules.specs.Rules.{apply}
use Rattle.replica_model.specs.Path.{Path, entry_at}
use Rattle.replica_model.specs.Folds.{fold_of, reply_of}
use Rattle.trace_model.specs.Audit.{same_entry, is_asked, is_replied}
use Rattle.trace_audit.specs.declared.book.Place.{Place}

-- the greatest number of rows of its table, and its entries
pub record KeptBook : Type 0 where
  pub limit : ℕ
  pub entries : Path

abbrev pub entries_of : List Place → Path
entries_of places = map (λ (p : Place). p.entry) places

abbrev pub reply_in : Option Place → Option Reply
reply_in None = None
reply_in (Some p) = p.reply

-- what a table replies at a place
abbrev pub reply_to : RecordTable → Option ClientAsk → Option Reply
reply_to table None = None
reply_to table (Some ask) = Some (apply table ask.client ask.number ask.request).1

-- the table is that of the entries, and each place has its reply, where it is an ask
pub record AreJudged (table : RecordTable) (places : List Place) : Type 0 where
  pub table_is : table ≡ fold_of table.limit (entries_of places)
  pub replies : (k : ℕ) → reply_in (slice_get places k) ≡ reply_of table.limit (entries_of places) (k + 1)

-- an entry at an index within the book is the one there; else the index is one past the book's end
abbrev pub fits_place : Option LogEntry → ℕ → ℕ → LogEntry → Bool
fits_place (Some kept) n index e = same_entry kept e
fits_place None n index e = index == n + 1

abbrev pub fits : Path → ℕ → LogEntry → Bool
fits entries index e = fits_place (entry_at entries index) (length entries) index e

-- an ask of the client and the number stands at the index, and this is its reply
abbrev pub answers : ℕ → Path → ClientId → ℕ → ℕ → Reply → Bool
answers limit entries c n index what =
    is_asked c n (entry_at entries index) && is_replied what (reply_of limit entries index)
