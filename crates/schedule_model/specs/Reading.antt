-- The fields of a record as numbers, hexadecimal and ids, each with its fault.
use Rattle.std.specs.Prelude.{ℕ, ◌+◌, ◌-◌, ◌*◌, ◌^◌, ◌==◌, ◌&&◌, nat_le, not, if◌then◌else◌, Bool, false, List, [], ◌∷◌, length, fold, slice_index_or, Result, Ok, Err}
use Rattle.std.specs.Char.{is_ascii_digit}
use Rattle.std.specs.List.{list_all}
use Rattle.hex.specs.Hex.{decode_of}
use Rattle.hex.specs.declared.error.FromHexError.{FromHexError}
use Rattle.group_quorum.specs.declared.TheConstants.{MAX_ID}
use Rattle.values.specs.declared.entry.Hash.{Hash}
use Rattle.values.specs.declared.limits.TheConstants.{MAX_REQUEST}
use Rattle.values.specs.declared.ids.ClientId.{ClientId}
use Rattle.values.specs.declared.event.Cause.{Cause}
use Rattle.values.specs.declared.event.Cause.TheVariants.{Number, Range, Hex}
use Rattle.record_cutting.specs.Lines.{Record}

-- why a record is no event, and at which of its fields, from 1; 0 stands for the record as a whole
pub record RecordFault : Type 0 where
  pub cause : Cause
  pub field : ℕ

abbrev pub fault : {T : Type 0} → Cause → ℕ → Result T RecordFault
fault cause field = Err (record { cause = cause; field = field })

-- the second step, where the first gave a value; else its fault
infixl 10 ◌>>=◌
abbrev pub ◌>>=◌ : {A B : Type 0} → Result A RecordFault → (A → Result B RecordFault) → Result B RecordFault
Ok x >>= f = f x
Err e >>= f = Err e

-- field k of a record
abbrev pub field : Record → ℕ → List ℕ
field fields k = slice_index_or fields (k - 1) []

-- a number is 0, or digits without a leading zero
abbrev pub is_number : List ℕ → Bool
is_number [] = false
is_number (d ∷ []) = is_ascii_digit d
is_number (d ∷ e ∷ ds) = not (d == 48) && list_all is_ascii_digit (d ∷ e ∷ ds)

abbrev pub value_of_digits : List ℕ → ℕ
value_of_digits digits = fold (λ n d. 10 * n + (d - 48)) 0 digits

-- a text at field k as a number from `low` to `high`
abbrev pub number_of : List ℕ → ℕ → ℕ → ℕ → Result ℕ RecordFault
number_of text k low high =
    if not (is_number text) then fault Number k
    else if nat_le low (value_of_digits text) && nat_le (value_of_digits text) high then Ok (value_of_digits text)
    else fault Range k

-- field k as a number from `low` to `high`
abbrev pub number_at : Record → ℕ → ℕ → ℕ → Result ℕ RecordFault
number_at fields k low high = number_of (field fields k) k low high

-- field k as the id of a replica
abbrev pub replica_at : Record → ℕ → Result ℕ RecordFault
replica_at fields k = number_at fields k 1 MAX_ID

-- the greatest u32 and u64
abbrev pub max_u32 : ℕ
max_u32 = 2 ^ 32 - 1

abbrev pub max_u64 : ℕ
max_u64 = 2 ^ 64 - 1

-- the bytes of hexadecimal, of whatever length or of n bytes
abbrev pub bytes_or_fault : ℕ → Result (List ℕ) FromHexError → Result (List ℕ) RecordFault
bytes_or_fault k (Ok bytes) = Ok bytes
bytes_or_fault k (Err e) = fault Hex k

abbrev pub hex_at : Record → ℕ → Result (List ℕ) RecordFault
hex_at fields k = bytes_or_fault k (decode_of (field fields k))

abbrev pub hex_of_length : Record → ℕ → ℕ → Result (List ℕ) RecordFault
hex_of_length fields k n = do
  bytes ← hex_at fields k
  if length bytes == n then Ok bytes else fault Hex k

-- field k as a client, and as a PIN
abbrev pub client_at : Record → ℕ → Result ClientId RecordFault
client_at fields k = do
  bytes ← hex_of_length fields k 16
  Ok (record { 0 = bytes })

abbrev pub pin_at : Record → ℕ → Result Hash RecordFault
pin_at fields k = do
  bytes ← hex_of_length fields k 32
  Ok (record { 0 = bytes })

-- field k as request bytes
abbrev pub request_at : Record → ℕ → Result (List ℕ) RecordFault
request_at fields k = do
  bytes ← hex_at fields k
  if nat_le (length bytes) MAX_REQUEST then Ok bytes else fault Range k

-- the texts from field k on as ids of replicas
abbrev pub replicas_from : ℕ → Record → Result (List ℕ) RecordFault
replicas_from k [] = Ok []
replicas_from k (text ∷ texts) = do
  id ← number_of text k 1 MAX_ID
  ids ← replicas_from (k + 1) texts
  Ok (id ∷ ids)
