-- Voters in rising order, as a test and as facts, and as bytes.
use Rattle.std.proofs.Common.{◌≡◌, ℕ, zero, suc, ◌+◌, ◌*◌, ◌/◌, ◌<◌, ◌≤◌, true, List, [], ◌∷◌, ◌++◌, length, get_or, map, drop, refl, sym, ap, ◌∙◌, arith}
use Rattle.std.specs.Prelude.{◌&&◌, nat_le, nat_lt, All}
use Rattle.std.specs.List.{AllByRecursion, range_with_len}
use Rattle.std.specs.List.Sorted.{IsStrictlyIncreasing}
use Rattle.std.proofs.lemmas.Bool.{and_parts, and_from, leb-true, ltb-true, lt-ltb, le-leb}
use Rattle.std.proofs.lemmas.List.{drop_at, drop-drop, length-append}
use Rattle.std.proofs.lemmas.List.Elements.{recursion_from_All, All-from_recursion}
use Rattle.std.proofs.lemmas.List.FromFn.{fill_by_all}
use Rattle.byteorder.specs.Endian.{big_number, big_bytes}
use Rattle.byteorder.specs.Numbers.{big_number-reads_back, length-bytes_high_first}
use Rattle.values.specs.Rising.{Rising}
use Rattle.values.proofs.RisingLists.{rising_from_increasing, increasing_from_rising}
use Rattle.group_quorum.specs.declared.TheConstants.{MAX_ID}
use Rattle.group_quorum.specs.Voters.{IsId}
use Rattle.group_msgs.specs.Canonical.{id_bytes}
use Rattle.group_msgs.specs.Rules.{rise_above}
use Rattle.group_msgs.specs.Values.{ids_in}

-- what the test says of the first id
rise_parts : (last id : ℕ) (ids : List ℕ) → rise_above last (id ∷ ids) ≡ true → (last < id) × (id ≤ MAX_ID) × (rise_above id ids ≡ true)
rise_parts last id ids is =
    let outer = and_parts (nat_lt last id && nat_le id MAX_ID) (rise_above id ids) is in
    let inner = and_parts (nat_lt last id) (nat_le id MAX_ID) outer.0 in
    (ltb-true last id inner.0, leb-true id MAX_ID inner.1, outer.1)

rise_all : (low last : ℕ) (ids : List ℕ) → low ≤ last → rise_above last ids ≡ true → AllByRecursion (λ y. low < y) ids
rise_all low last [] under is = tt
rise_all low last (id ∷ ids) under is =
    let p = rise_parts last id ids is in
    (omega (arith, p.0), rise_all low id ids (omega (arith, p.0)) p.2)

rise_ids : (last : ℕ) (ids : List ℕ) → rise_above last ids ≡ true → AllByRecursion IsId ids
rise_ids last [] is = tt
rise_ids last (id ∷ ids) is =
    let p = rise_parts last id ids is in
    ((omega (arith, p.0), p.1), rise_ids id ids p.2)

pub rising-from : (last : ℕ) (ids : List ℕ) → rise_above last ids ≡ true → Rising ids
rising-from last [] is = tt
rising-from last (id ∷ ids) is =
    let p = rise_parts last id ids is in
    (rise_all id id ids (omega arith) p.2, rising-from id ids p.2)

pub increasing-from : (last : ℕ) (ids : List ℕ) → rise_above last ids ≡ true → IsStrictlyIncreasing ids
increasing-from last ids is = increasing_from_rising ids (rising-from last ids is)

pub ids-from : (last : ℕ) (ids : List ℕ) → rise_above last ids ≡ true → All IsId ids
ids-from last ids is = All-from_recursion IsId ids (rise_ids last ids is)

rise_of : (last : ℕ) (ids : List ℕ) → AllByRecursion (λ y. last < y) ids → AllByRecursion IsId ids → Rising ids → rise_above last ids ≡ true
rise_of last [] above are rising = refl
rise_of last (id ∷ ids) above are rising =
    and_from (nat_lt last id && nat_le id MAX_ID) (rise_above id ids) (and_from (nat_lt last id) (nat_le id MAX_ID) (lt-ltb last id above.0) (le-leb id MAX_ID are.0.1)) (rise_of id ids rising.0 are.1 rising.1)

from_0 : (ids : List ℕ) → AllByRecursion IsId ids → AllByRecursion (λ y. 0 < y) ids
from_0 [] are = tt
from_0 (id ∷ ids) are = (omega (arith, are.0.0), from_0 ids are.1)

pub rise-of : (ids : List ℕ) → All IsId ids → IsStrictlyIncreasing ids → rise_above 0 ids ≡ true
rise-of ids are increasing =
    let each = recursion_from_All IsId ids are in
    rise_of 0 ids (from_0 ids each) each (rising_from_increasing ids increasing)

-- ---- bytes

pub length-id_bytes : (ids : List ℕ) → length (id_bytes ids) ≡ 4 * length ids
length-id_bytes [] = refl
length-id_bytes (id ∷ ids) = omega (arith, length-append (big_bytes 4 id) (id_bytes ids), length-bytes_high_first 4 id, length-id_bytes ids)

id_at : (ids : List ℕ) (k : ℕ) → AllByRecursion IsId ids → k < length ids → get_or ids k 0 ≡ big_number 4 (drop (4 * k) (id_bytes ids))
id_at [] k are within = absurd (omega arith)
id_at (id ∷ ids) zero are within = sym (big_number-reads_back 4 id (id_bytes ids) (omega (arith, are.0.1)))
id_at (id ∷ ids) (suc k) are within =
    let n : 4 * suc k ≡ 4 + 4 * k = omega arith in
    let long : length (big_bytes 4 id) ≡ 4 = length-bytes_high_first 4 id in
    id_at ids k are.1 (omega arith) ∙ sym (ap (big_number 4) (ap (λ (m : ℕ). drop m (big_bytes 4 id ++ id_bytes ids)) n ∙ sym (drop-drop (4 * k) 4 (big_bytes 4 id ++ id_bytes ids)) ∙ ap (drop (4 * k)) (drop_at (big_bytes 4 id) (id_bytes ids) 4 long)))

pub ids_in-id_bytes : (ids : List ℕ) → All IsId ids → ids_in (id_bytes ids) ≡ ids
ids_in-id_bytes ids are =
    let each = recursion_from_All IsId ids are in
    let long : length (id_bytes ids) / 4 ≡ length ids = omega (arith, length-id_bytes ids) in
    ap (λ (n : ℕ). map (λ k. big_number 4 (drop (4 * k) (id_bytes ids))) (range_with_len 0 n)) long
    ∙ sym (fill_by_all (λ k. big_number 4 (drop (4 * k) (id_bytes ids))) ids (length ids) 0 refl (λ k within. id_at ids k each within))
