-- Bytes that are no request.
use Rattle.std.proofs.Common.{refl, sym, ap, ◌∙◌, ◌≡◌, ℕ, List, [], ◌∷◌, ◌++◌, Result, Ok, Err, OnOk, IsErr, codes}
use Rattle.client_msgs.specs.Reading.{ReadsRequest}
use Rattle.client_msgs.specs.declared.fault.RequestFault.{RequestFault}
use Rattle.client_msgs.specs.declared.fault.RequestFault.TheVariants as fault
use Rattle.record_rules.specs.Table.{RecordTable}
use Rattle.values.specs.declared.message.Request.{Request}
use Rattle.schedule_model.specs.Lines.{line_text}
use Rattle.schedule_text.specs.Joined.{after_commas}
use Rattle.table_model.specs.TableText.{TableRecord, fault_fields}
use Rattle.table_command.specs.Course.{outcome_of}

no_ok : {T E : Type 0} (result : Result T E) (P : Type 0) → IsErr result → OnOk result P
no_ok (Ok x) P h = cc h
no_ok (Err e) P h = tt

as_read : {T E : Type 0} (f : RequestFault) (read : Result Request RequestFault) (result : Result T E) (P : Result Request RequestFault → Type 0)
    → ReadsRequest (Err f) read → (f ≡ fault.Memory → IsErr result) → OnOk result (P (Err f)) → OnOk result (P read)
as_read fault.Memory read result P is memory h = no_ok result (P read) (memory refl)
as_read (fault.Wire wire) read result P is memory h = rw is h
as_read fault.Nothing read result P is memory h = rw is h
as_read (fault.Size part n) read result P is memory h = rw is h

-- what was appended for the fault is what is said of the bytes, and the table stays
pub faulty_line : {T E : Type 0} (table : RecordTable) (r : TableRecord) (f : RequestFault) (read : Result Request RequestFault) (result : Result T E) (new old : List ℕ)
    → ReadsRequest (Err f) read → (f ≡ fault.Memory → IsErr result) → OnOk result (new ≡ old ++ after_commas (fault_fields f)) → OnOk result (new ≡ old ++ after_commas (outcome_of table r read).1)
faulty_line table r f read result new old = as_read f read result (λ read. new ≡ old ++ after_commas (outcome_of table r read).1)

pub faulty_table : {T E : Type 0} (table : RecordTable) (r : TableRecord) (f : RequestFault) (read : Result Request RequestFault) (result : Result T E)
    → ReadsRequest (Err f) read → (f ≡ fault.Memory → IsErr result) → OnOk result (table ≡ (outcome_of table r read).0)
faulty_table table r f read result is memory = as_read f read result (λ read. table ≡ (outcome_of table r read).0) is memory (always result refl)
  where
    always : {T E : Type 0} {P : Type 0} (result : Result T E) → P → OnOk result P
    always (Ok x) p = p
    always (Err e) p = tt

pub rows_parts : (n : List ℕ) → line_text (codes "rows" ∷ n ∷ []) ≡ (codes "rows," ++ n) ++ (10 ∷ [])
unfolding line_text
rows_parts n = refl
