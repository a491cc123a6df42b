-- What is read of a record.
use Rattle.std.specs.Prelude.{ℕ, ◌≡◌, ◌==◌, if◌then◌else◌, List, length, Result, Ok, Err, IsOk}
use Rattle.hex.specs.Hex.{decode_of}
use Rattle.schedule_model.specs.Reading.{RecordFault, bytes_or_fault, fault, ◌>>=◌}
use Rattle.values.specs.declared.event.Cause.TheVariants.{Hex}
use Rattle.values.specs.declared.ids.ClientId.{ClientId}
use Rattle.schedule_text.specs.declared.fault.Unread.{Unread}
use Rattle.schedule_text.specs.declared.fault.Unread.TheVariants as unread

-- What is read is what the record says. Want of memory hides a value only, and no fault.
abbrev pub Reads : {T : Type 0} → Result T Unread → Result T RecordFault → Type 0
Reads (Ok value) said = said ≡ Ok value
Reads (Err unread.Memory) said = IsOk said
Reads (Err (unread.Fault fault)) said = said ≡ Err fault

-- a text at field k as n bytes
abbrev pub sized_from : List ℕ → ℕ → ℕ → Result (List ℕ) RecordFault
sized_from text k n = do
  bytes ← bytes_or_fault k (decode_of text)
  if length bytes == n then Ok bytes else fault Hex k

-- a text at field k as a client
abbrev pub client_from : List ℕ → ℕ → Result ClientId RecordFault
client_from text k = do
  bytes ← sized_from text k 16
  Ok (record { 0 = bytes })
