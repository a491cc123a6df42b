-- The fields of a line as numbers and bytes.
use Rattle.std.specs.Prelude.{ℕ, ◌==◌, ◌*◌, ◌&&◌, not, if◌then◌else◌, Bool, List, length, Option, Some, None, is_ok, bytes_eq}
use Rattle.std.specs.Result.{result_ok}
use Rattle.std.specs.Char.{is_ascii_uppercase}
use Rattle.std.specs.List.{list_all, list_any}
use Rattle.hex.specs.Hex.{decode_of}
use Rattle.group_quorum.specs.declared.TheConstants.{MAX_ID}
use Rattle.values.specs.declared.limits.TheConstants.{TOP}
use Rattle.values.specs.declared.ids.ClientId.{ClientId}
use Rattle.schedule_model.specs.Lines.{Line}
use Rattle.schedule_model.specs.Reading.{number_of, bytes_or_fault, max_u64}
use Rattle.schedule_text.specs.Read.{client_from}

infixl 10 ◌>>=◌
-- a step goes on with what the one before it gave
abbrev pub ◌>>=◌ : {A B : Type 0} → Option A → (A → Option B) → Option B
(Some x) >>= f = f x
None >>= f = None

-- a value, where it passes a test
abbrev pub if_holds : {A : Type 0} → Bool → A → Option A
if_holds b x = if b then Some x else None

-- a number in a range
abbrev pub number_in : ℕ → ℕ → List ℕ → Option ℕ
number_in low high text = result_ok (number_of text 0 low high)

abbrev pub replica_in : List ℕ → Option ℕ
replica_in text = number_in 1 MAX_ID text

abbrev pub index_in : List ℕ → Option ℕ
index_in text = number_in 0 TOP text

abbrev pub wide_in : List ℕ → Option ℕ
wide_in text = number_in 0 max_u64 text

-- no letter is a capital
abbrev pub is_lower : List ℕ → Bool
is_lower text = list_all (λ b. not (is_ascii_uppercase b)) text

abbrev pub are_lower : Line → Bool
are_lower fields = list_all is_lower fields

-- lower-case hexadecimal
abbrev pub is_hex : List ℕ → Bool
is_hex text = is_lower text && is_ok (decode_of text)

-- of n bytes
abbrev pub is_sized : ℕ → List ℕ → Bool
is_sized n text = (length text == 2 * n) && is_hex text

-- the bytes of lower-case hexadecimal
abbrev pub hex_in : List ℕ → Option (List ℕ)
hex_in text = if is_lower text then result_ok (bytes_or_fault 0 (decode_of text)) else None

abbrev pub client_in : List ℕ → Option ClientId
client_in text = if is_lower text then result_ok (client_from text 0) else None

-- one of these words
abbrev pub is_among : List ℕ → List (List ℕ) → Bool
is_among text words = list_any (bytes_eq text) words
