-- The program's own link gives hashes of 32 bytes.
use Rattle.std.proofs.Common.{◌≡◌, ℕ, ◌*◌, ◌/◌, ◌%◌, true, zero, suc, List, length, refl, ◌∙◌, arith}
use Rattle.std.specs.Prelude.{IsTrue, ◌==◌, slice_index}
use Rattle.std.specs.Int.{w32, to_be_bytes}
use Rattle.std.specs.List.{list_all}
use Rattle.std.proofs.lemmas.Bool.{and_from, lt-ltb, eq-eqb}
use Rattle.std.proofs.lemmas.List.{length-append}
use Rattle.std.proofs.lemmas.List.Folds.{list_all-append}
use Rattle.sha2.specs.Sha256.{sha256, digest_bytes, final_hash, initial_hash_256}
use Rattle.hash_chain.specs.Links.{bytes_of}
use Rattle.replica_model.specs.Linked.{sha_link, link_input}
use Rattle.trace_model.specs.TraceLines.{is_byte}
use Rattle.trace_model.specs.Hashing.{GivesHashes}

word_long : (x : ℕ) → length (to_be_bytes w32 x) ≡ 4
word_long x = refl

word_bytes : (x : ℕ) → IsTrue (list_all is_byte (to_be_bytes w32 x))
word_bytes x =
    and_from (is_byte (x / 16777216 % 256)) _ (lt-ltb (x / 16777216 % 256) 256 (omega arith))
    (and_from (is_byte (x / 65536 % 256)) _ (lt-ltb (x / 65536 % 256) 256 (omega arith))
    (and_from (is_byte (x / 256 % 256)) _ (lt-ltb (x / 256 % 256) 256 (omega arith))
    (and_from (is_byte (x % 256)) true (lt-ltb (x % 256) 256 (omega arith)) refl)))

digest_long : (h : List ℕ) (n : ℕ) → length (digest_bytes h n) ≡ 4 * n
unfolding digest_bytes
digest_long h zero = refl
digest_long h (suc n) = omega (arith, length-append (digest_bytes h n) (to_be_bytes w32 (slice_index h n)), digest_long h n, word_long (slice_index h n))

digest_all : (h : List ℕ) (n : ℕ) → IsTrue (list_all is_byte (digest_bytes h n))
unfolding digest_bytes
digest_all h zero = refl
digest_all h (suc n) = list_all-append is_byte (digest_bytes h n) (to_be_bytes w32 (slice_index h n)) ∙ and_from (list_all is_byte (digest_bytes h n)) (list_all is_byte (to_be_bytes w32 (slice_index h n))) (digest_all h n) (word_bytes (slice_index h n))

pub own_link : GivesHashes sha_link
unfolding sha256
own_link h index e =
    let m : List ℕ = bytes_of (link_input h index e) in
    let words : List ℕ = final_hash initial_hash_256 m in
    and_from (length (digest_bytes words 8) == 32) (list_all is_byte (digest_bytes words 8)) (eq-eqb (length (digest_bytes words 8)) 32 (omega (arith, digest_long words 8))) (digest_all words 8)
