-- Which contents are short.
use Rattle.std.proofs.Common.{◌≡◌, ℕ, ◌*◌, ◌≤◌, List, [], ◌∷◌, ◌++◌, length, refl, arith}
use Rattle.std.specs.Int.{w8, w32, w64}
use Rattle.std.specs.List.{flat_map}
use Rattle.std.proofs.lemmas.List.{length-append}
use Rattle.fixed_fields.specs.Fields.{number_bytes}
use Rattle.attested_link.specs.Frames.{frame_bytes}
use Rattle.host_msgs.specs.Items.{long_field, word_field, members_fields, halt_fields, point_fields, commit_fields, ask_fields, conf_fields, answer_fields, outcome_fields, part_fields, refusal_fields}
use Rattle.host_msgs.specs.Needs.{IsShort, IsBlock, IsShortPart}

pub short_long : (n : ℕ) → IsShort (long_field.spelled n)
unfolding number_bytes
short_long n = omega arith

pub short_word : (n : ℕ) → IsShort (word_field.spelled n)
unfolding number_bytes
short_word n = omega arith

pub short_halt : (index : ℕ) (kept offered : List ℕ) → length kept ≡ 32 → length offered ≡ 32 → IsShort (halt_fields.spelled (index, (kept, offered)))
unfolding number_bytes
short_halt index kept offered a b = omega (arith, a, b, length-append kept offered)

pub short_point : (index : ℕ) (hash : List ℕ) → length hash ≡ 32 → IsShort (point_fields.spelled (index, hash))
unfolding number_bytes
short_point index hash a = omega (arith, a)

pub short_refusal : (p : ℕ × (ℕ × ℕ)) → IsShort (refusal_fields.spelled p)
unfolding number_bytes
short_refusal p = omega arith

-- ---- those that list ids, or hold bytes of another format

pub length-words : (ids : List ℕ) → length (flat_map (number_bytes w32) ids) ≡ 4 * length ids
unfolding number_bytes
length-words [] = refl
length-words (v ∷ ids) = omega (arith, length-words ids)

pub short_members : (index margin : ℕ) (voters : List ℕ) → length voters ≤ 31 → IsShort (members_fields.spelled (index, (margin, voters)))
unfolding number_bytes
short_members index margin voters few = omega (arith, few, length-words voters)

pub short_conf : (margin : ℕ) (voters : List ℕ) → length voters ≤ 31 → IsShortPart (conf_fields.spelled (margin, voters))
unfolding number_bytes
short_conf margin voters few = omega (arith, few, length-words voters)

pub short_ask : (client : List ℕ) (n : ℕ) (request : List ℕ) → length client ≡ 16 → IsBlock request → IsShortPart (ask_fields.spelled (client, (n, request)))
unfolding number_bytes
short_ask client n request size few = omega (arith, few, size, length-append client (number_bytes w64 n ++ request))

pub short_commit : (index term kind : ℕ) (bytes : List ℕ) → IsShortPart bytes → IsShort (commit_fields.spelled (index, (term, (kind, bytes))))
unfolding number_bytes
short_commit index term kind bytes few = omega (arith, few)

pub short_outcome : (index kind : ℕ) (bytes : List ℕ) → IsBlock bytes → IsShortPart (outcome_fields.spelled (index, (kind, bytes)))
unfolding number_bytes
short_outcome index kind bytes few = omega (arith, few)

pub short_answer : (client : List ℕ) (n kind : ℕ) (bytes : List ℕ) → length client ≡ 16 → IsShortPart bytes → IsShort (answer_fields.spelled (client, (n, (kind, bytes))))
unfolding number_bytes
short_answer client n kind bytes size few = omega (arith, few, size, length-append client (number_bytes w64 n ++ (number_bytes w8 kind ++ bytes)))

pub short_sent : (from to : ℕ) (message : List ℕ) → IsBlock message → IsShort (frame_bytes from to message)
unfolding number_bytes
short_sent from to message few = omega (arith, few)

pub word_part : (n : ℕ) → IsShortPart (word_field.spelled n)
unfolding number_bytes
word_part n = omega arith

pub long_part : (n : ℕ) → IsShortPart (long_field.spelled n)
unfolding number_bytes
long_part n = omega arith

pub word_block : (n : ℕ) → IsBlock (word_field.spelled n)
unfolding number_bytes
word_block n = omega arith

pub long_block : (n : ℕ) → IsBlock (long_field.spelled n)
unfolding number_bytes
long_block n = omega arith

pub halt_part : (index : ℕ) (kept offered : List ℕ) → length kept ≡ 32 → length offered ≡ 32 → IsShortPart (halt_fields.spelled (index, (kept, offered)))
unfolding number_bytes
halt_part index kept offered a b = omega (arith, a, b, length-append kept offered)

pub part_part : (part size : ℕ) → IsShortPart (part_fields.spelled (part, size))
unfolding number_bytes
part_part part size = omega arith
