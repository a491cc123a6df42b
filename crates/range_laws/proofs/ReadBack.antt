-- Hexadecimal is read as it was printed.
use Rattle.std.proofs.Common.{◌≡◌, ℕ, ◌-◌, ◌*◌, Ok, List, length}
use Rattle.std.specs.Prelude.{IsTrue}
use Rattle.std.specs.List.{list_all}
use Rattle.hex.specs.Hex.{decode_of, encode_lower}
use Rattle.hex.proofs.HexLemmas.{decode_of-encode_lower, decode_of-ok}
use Rattle.trace_model.specs.TraceLines.{is_byte}
use Rattle.trace_model.proofs.Bytes.{get_byte, all_bytes}

pub reads_hex : (bytes : List ℕ) → IsTrue (list_all is_byte bytes) → decode_of (encode_lower bytes) ≡ Ok bytes
reads_hex bytes h = decode_of-encode_lower bytes (get_byte bytes h)

pub hex_in_range : (text bytes : List ℕ) → decode_of text ≡ Ok bytes → IsTrue (list_all is_byte bytes) × (length text ≡ 2 * length bytes)
hex_in_range text bytes is = let x = decode_of-ok text bytes is in (all_bytes bytes x.3, x.2)
