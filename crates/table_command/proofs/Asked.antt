-- A record of three fields whose number is none.
use Rattle.std.proofs.Common.{arith, refl, ◌≡◌, ◌≤◌, ◌<◌, ℕ, List, [], ◌∷◌, length, get_or, Result, Ok, Err}
use Rattle.std.specs.Borrow.{Bor}
use Rattle.record_cutting.specs.Lines.{record_of}
use Rattle.schedule_model.specs.Reading.{RecordFault, max_u64, number_of}
use Rattle.schedule_text.specs.Read.{client_from}
use Rattle.values.specs.declared.ids.ClientId.{ClientId}
use Rattle.table_model.specs.TableText.{table_record}

pub no_number : (fields : List (Bor (List ℕ))) (d e : Bor (List ℕ)) (client : ClientId) (fault : RecordFault) → 3 ≤ length fields → length fields < 4
    → client_from (get_or fields 0 d).now 1 ≡ Ok client → number_of (get_or fields 1 e).now 2 0 max_u64 ≡ Err fault → table_record (record_of fields) ≡ Err fault
no_number [] d e client fault least most ok bad = absurd (omega arith)
no_number (a ∷ []) d e client fault least most ok bad = absurd (omega arith)
no_number (a ∷ b ∷ []) d e client fault least most ok bad = absurd (omega arith)
no_number (a ∷ b ∷ c ∷ []) d e client fault least most ok bad = rw (ok, bad) refl
no_number (a ∷ b ∷ c ∷ f ∷ more) d e client fault least most ok bad = absurd (omega arith)
