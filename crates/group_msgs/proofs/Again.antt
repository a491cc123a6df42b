-- What a message is written as is read as that message.
use Rattle.std.proofs.Common.{◌≡◌, ◌≢◌, ℕ, zero, suc, ◌+◌, ◌*◌, ◌%◌, ◌^◌, ◌<◌, ◌≤◌, Bool, true, false, eqb, List, [], ◌∷◌, ◌++◌, length, get_or, set, map, Option, None, Some, Ok, refl, sym, ap, subst, ◌∙◌, append_assoc, arith}
use Rattle.std.specs.Prelude.{◌&&◌, not, nat_le, nat_lt, slice_get}
use Rattle.std.specs.Option.{option_to_list}
use Rattle.std.specs.List.{AllByRecursion, filter_map, cons_option}
use Rattle.std.proofs.lemmas.Bool.{and_from, le-leb, lt-ltb, eq-eqb, cond-true}
use Rattle.std.proofs.lemmas.List.{append-nil, length-append, length-map, get_or-set_other}
use Rattle.std.proofs.lemmas.List.Concat.{flat_map-cons}
use Rattle.std.proofs.lemmas.List.Elements.{filter_map-append, recursion_from_All}
use Rattle.proto_wire.specs.declared.field.WireFault.{WireFault}
use Rattle.proto_wire.specs.Fields.{Field, sequence_at}
use Rattle.proto_wire.specs.Written.{IsNumber, varint_field, block_field, message_field, block_read, varints_read}
use Rattle.proto_wire.specs.Reading.{u64_of, embedded, is_member, run_so_far, first_fault_in}
use Rattle.proto_wire.proofs.ReadingLemmas.{u64_of-push}
use Rattle.proto_wire.proofs.OneofLemmas.{last_member-push}
use Rattle.proto_wire.proofs.FieldTrip.{Spells-append, Spells-varint, Spells-message, Spells-whole, varint_field-few, block_field-few, message_field-few}
use Rattle.values.specs.declared.entry.Point.{Point}
use Rattle.values.specs.declared.entry.Body.{Body}
use Rattle.values.specs.declared.entry.Body.TheVariants.{Noop, Ask, Members}
use Rattle.values.specs.declared.entry.LogEntry.{LogEntry}
use Rattle.values.specs.declared.row.Row.{Row}
use Rattle.values.specs.declared.row.Kept.{Kept}
use Rattle.values.specs.declared.peer.TablePart.{TablePart}
use Rattle.values.specs.declared.peer.PeerMsg.{PeerMsg}
use Rattle.values.specs.declared.peer.PeerMsg.TheVariants.{AskVote, Vote, Append, Accepted, Rejected, Part, PartTaken}
use Rattle.group_quorum.specs.Voters.{IsSound}
use Rattle.values.specs.declared.limits.TheConstants.{MAX_ENTRIES, ROWS_PER_PART, TOP, MAX_PARTS, MOST_ROWS}
use Rattle.group_quorum.specs.declared.TheConstants.{MAX_MARGIN}
use Rattle.group_msgs.specs.declared.fault.PeerFault.{PeerFault}
use Rattle.group_msgs.specs.Known.{Known, known_of, u64_at, u32_at, bytes_at}
use Rattle.group_msgs.specs.Reading.{is_listed, listed_in, listed_fault, member_fault, wire_fault, member_of}
use Rattle.group_msgs.specs.Values.{ids_in, entry_of, kept_with, row_of, part_of, message_of}
use Rattle.group_msgs.specs.Rules.{rule, at_most, from_1_to, point_fault, voters_fault, kind_fault, entry_fault, entries_fault, kept_fault, row_fault, rows_fault, fields_fault, range_fault, index_rule, rise_above}
use Rattle.group_msgs.specs.Canonical.{flag, id_bytes, point_fields, body_fields, entry_fields, entries_field, kept_fields, row_fields, rows_field, config_fields, count_fields, part_fields, canonical_peer}
use Rattle.group_msgs.specs.Peer.{unless_broken, checked, peer_in, peer_of}
use Rattle.group_msgs.specs.Ranges.{IsIndex, IsBodyInRange, IsEntryInRange, IsKeptInRange, IsRowInRange, IsPartInRange, IsInRange, IsHash, FitsBody, FitsKept, FitsRow, FitsPeer}
use Rattle.group_msgs.proofs.KnownLemmas.{known-block, known-high_block, under_none}
use Rattle.group_msgs.proofs.RuleLemmas.{none-or, none-rule}
use Rattle.client_msgs.proofs.StrictLemmas.{canonical-few}
use Rattle.group_msgs.proofs.VoterLemmas.{rise-of, length-id_bytes, ids_in-id_bytes}
use Rattle.group_msgs.proofs.Written.{with_varint, with_block, Writes, writes-nothing, writes-along, writes-varint, writes-block, writes-item}

-- ---- points

abbrev point_known : Point → Known
point_known p = with_block 2 p.hash.0 (with_varint 1 p.index (known_of []))

-- the first number of a message
writes-first : (member at n : ℕ) → n < 2 ^ 64 → Writes member at (varint_field 1 n) (with_varint 1 n (known_of [])) []
writes-first member at n below = writes-varint member at [] (known_of []) [] (writes-nothing member at) 1 n (omega arith, omega arith) (omega arith) below refl

writes-point : (member at : ℕ) (p : Point) → IsIndex p.index → IsHash p.hash → ((q : ℕ) → is_listed member (block_read q 2 p.hash.0) ≡ false) → Writes member at (point_fields p) (point_known p) []
writes-point member at p index hash other =
    writes-block member at (varint_field 1 p.index) _ [] (writes-first member at p.index (omega (arith, index))) 2 p.hash.0 (omega arith, omega arith) (omega arith) (omega (arith, hash)) refl other

-- ---- entries

abbrev entry_known : ℕ → Body → Known
entry_known term Noop = with_varint 1 term (known_of [])
entry_known term (Ask client number request) = with_block 5 request (with_varint 4 number (with_block 3 client.0 (with_varint 2 1 (with_varint 1 term (known_of [])))))
entry_known term (Members margin voters) = with_varint 7 margin (with_block 6 (id_bytes voters) (with_varint 2 2 (with_varint 1 term (known_of []))))

writes-entry : (term : ℕ) (body : Body) → IsIndex term → IsBodyInRange body → FitsBody body → (at : ℕ) → Writes 0 at (varint_field 1 term ++ body_fields body) (entry_known term body) []
writes-entry term Noop index range fits at = writes-along 0 at _ _ _ _ (sym (append-nil (varint_field 1 term))) (writes-first 0 at term (omega (arith, index)))
writes-entry term (Ask client number request) index range fits at =
    let t = varint_field 1 term in
    let a = varint_field 2 1 in
    let b = block_field 3 client.0 in
    let c = varint_field 4 number in
    let w = writes-first 0 at term (omega (arith, index)) in
    let w2 = writes-varint 0 at t _ [] w 2 1 (omega arith, omega arith) (omega arith) (omega arith) refl in
    let w3 = writes-along 0 at _ _ _ _ (append_assoc t a b) (writes-block 0 at (t ++ a) _ [] w2 3 client.0 (omega arith, omega arith) (omega arith) (omega (arith, fits.0)) refl (λ _. refl)) in
    let w4 = writes-along 0 at _ _ _ _ (append_assoc t (a ++ b) c) (writes-varint 0 at (t ++ (a ++ b)) _ [] w3 4 number (omega arith, omega arith) (omega arith) fits.1 refl) in
    writes-along 0 at _ _ _ _ (append_assoc t (a ++ b ++ c) (block_field 5 request))
    (writes-block 0 at (t ++ (a ++ b ++ c)) _ [] w4 5 request (omega arith, omega arith) (omega arith) (omega (arith, canonical-few request range)) refl (λ _. refl))
writes-entry term (Members margin voters) index sound fits at =
    let t = varint_field 1 term in
    let a = varint_field 2 2 in
    let b = block_field 6 (id_bytes voters) in
    let w = writes-first 0 at term (omega (arith, index)) in
    let w2 = writes-varint 0 at t _ [] w 2 2 (omega arith, omega arith) (omega arith) (omega arith) refl in
    let w3 = writes-along 0 at _ _ _ _ (append_assoc t a b) (writes-block 0 at (t ++ a) _ [] w2 6 (id_bytes voters) (omega arith, omega arith) (omega arith) (omega (arith, length-id_bytes voters, sound.at_most)) refl (λ _. refl)) in
    writes-along 0 at _ _ _ _ (append_assoc t (a ++ b) (varint_field 7 margin)) (writes-varint 0 at (t ++ (a ++ b)) _ [] w3 7 margin (omega arith, omega arith) (omega arith) (omega (arith, sound.at_most, sound.enough)) refl)

entry-again : (term : ℕ) (body : Body) → IsBodyInRange body → entry_of (entry_known term body) ≡ record { term = term; body = body }
entry-again term Noop range = refl
entry-again term (Ask client number request) range = refl
entry-again term (Members margin voters) sound =
    let low : margin % 2 ^ 32 ≡ margin = omega (arith, sound.at_most, sound.enough) in
    let entry : ℕ → List ℕ → LogEntry = λ m ids. record { term = term; body = Members m ids } in
    ap (λ (m : ℕ). entry m (ids_in (id_bytes voters))) low ∙ ap (entry margin) (ids_in-id_bytes voters sound.ids)

voters-again : (margin : ℕ) (voters : List ℕ) → IsSound (record { margin = margin; voters = voters }) → voters_fault (id_bytes voters) ≡ None
voters-again margin voters sound =
    let long = length-id_bytes voters in
    let sizes = and_from (nat_le 4 (length (id_bytes voters)) && nat_le (length (id_bytes voters)) 124) (eqb (length (id_bytes voters) % 4) 0)
    (and_from (nat_le 4 (length (id_bytes voters))) (nat_le (length (id_bytes voters)) 124) (le-leb 4 (length (id_bytes voters)) (omega (arith, long, sound.enough))) (le-leb (length (id_bytes voters)) 124 (omega (arith, long, sound.at_most))))
    (eq-eqb (length (id_bytes voters) % 4) 0 (omega (arith, long))) in
    none-or (rule _ _) _ (none-rule _ _ sizes) (none-or (rule _ _) None (none-rule _ _ (ap (rise_above 0) (ids_in-id_bytes voters sound.ids) ∙ rise-of voters sound.ids sound.in_order)) refl)

enough-again : (margin : ℕ) (voters : List ℕ) → IsSound (record { margin = margin; voters = voters }) → nat_le (2 * (margin % 2 ^ 32) + 1) (length (ids_in (id_bytes voters))) ≡ true
enough-again margin voters sound = le-leb (2 * (margin % 2 ^ 32) + 1) (length (ids_in (id_bytes voters))) (omega (arith, sound.enough, sound.at_most, ap length (ids_in-id_bytes voters sound.ids)))

index-again : (field n : ℕ) (x : Known) → u64_at field x ≡ n → n ≤ TOP → index_rule field x ≡ None
index-again field n x is low = none-rule (nat_le (u64_at field x) TOP) _ (le-leb (u64_at field x) TOP (omega (arith, is, low)))

kind-again : (place term : ℕ) (body : Body) → IsBodyInRange body → FitsBody body → kind_fault place (u32_at 2 (entry_known term body)) (entry_known term body) ≡ None
kind-again place term Noop range fits = refl
kind-again place term (Ask client number request) range fits =
    none-or (rule (eqb (length client.0) 16) _) _ (none-rule _ _ (eq-eqb (length client.0) 16 fits.0)) (none-or (rule _ _) None (none-rule _ _ range) refl)
kind-again place term (Members margin voters) sound fits =
    none-or (voters_fault (id_bytes voters)) _ (voters-again margin voters sound) (none-or (rule _ _) None (none-rule _ _ (and_from (nat_le (margin % 2 ^ 32) MAX_MARGIN) _ (le-leb (margin % 2 ^ 32) MAX_MARGIN (omega (arith, sound.at_most, sound.enough))) (enough-again margin voters sound))) refl)

term-of-entry : (term : ℕ) (body : Body) → u64_at 1 (entry_known term body) ≡ term
term-of-entry term Noop = refl
term-of-entry term (Ask client number request) = refl
term-of-entry term (Members margin voters) = refl

entry-none : (place term : ℕ) (body : Body) → IsIndex term → IsBodyInRange body → FitsBody body → entry_fault place (entry_known term body) ≡ None
entry-none place term body index range fits =
    none-or (index_rule 1 (entry_known term body)) _ (index-again 1 term (entry_known term body) (term-of-entry term body) index) (none-or (kind_fault place (u32_at 2 (entry_known term body)) (entry_known term body)) None (kind-again place term body range fits) refl)

entry-few : (term : ℕ) (body : Body) → IsBodyInRange body → FitsBody body → length (varint_field 1 term ++ body_fields body) < 400
entry-few term Noop range fits = omega (arith, length-append (varint_field 1 term) [], varint_field-few 1 term)
entry-few term (Ask client number request) range fits =
    let a = varint_field 2 1 in
    let b = block_field 3 client.0 in
    let c = varint_field 4 number in
    let d = block_field 5 request in
    omega (arith, length-append (varint_field 1 term) (a ++ b ++ c ++ d), length-append (a ++ b ++ c) d, length-append (a ++ b) c, length-append a b, varint_field-few 1 term, varint_field-few 2 1, varint_field-few 4 number, block_field-few 3 client.0, block_field-few 5 request, fits.0, canonical-few request range)
entry-few term (Members margin voters) sound fits =
    let a = varint_field 2 2 in
    let b = block_field 6 (id_bytes voters) in
    let c = varint_field 7 margin in
    omega (arith, length-append (varint_field 1 term) (a ++ b ++ c), length-append (a ++ b) c, length-append a b, varint_field-few 1 term, varint_field-few 2 2, varint_field-few 7 margin, block_field-few 6 (id_bytes voters), length-id_bytes voters, sound.at_most)

-- what an append's entries leave of what stands before them: their bytes stand under the number of the list
abbrev after_entries : List LogEntry → Known → Known
after_entries [] x = x
after_entries (e ∷ entries) x = after_entries entries (with_block 3 (varint_field 1 e.term ++ body_fields e.body) x)

varints-after : (entries : List LogEntry) (x : Known) → (after_entries entries x).varints ≡ x.varints
varints-after [] x = refl
varints-after (e ∷ entries) x = varints-after entries (with_block 3 (varint_field 1 e.term ++ body_fields e.body) x)

hash-after : (entries : List LogEntry) (x : Known) → bytes_at 2 (after_entries entries x) ≡ bytes_at 2 x
hash-after [] x = refl
hash-after (e ∷ entries) x =
    let ne : 2 ≢ 3 = λ same. absurd (omega (arith, same)) in
    hash-after entries (with_block 3 (varint_field 1 e.term ++ body_fields e.body) x) ∙ get_or-set_other x.blocks 3 2 (varint_field 1 e.term ++ body_fields e.body) [] ne

writes-entries : (at : ℕ) (entries : List LogEntry) (bytes : List ℕ) (x : Known) (listed : List Known) → AllByRecursion IsEntryInRange entries → AllByRecursion (λ (e : LogEntry). FitsBody e.body) entries → Writes 4 at bytes x listed
    → Writes 4 at (bytes ++ entries_field entries) (after_entries entries x) (listed ++ map (λ (e : LogEntry). entry_known e.term e.body) entries)
writes-entries at [] bytes x listed range fits w = writes-along 4 at _ _ _ _ (sym (append-nil bytes)) (subst (λ (l : List Known). Writes 4 at bytes x l) (sym (append-nil listed)) w)
writes-entries at (e ∷ entries) bytes x listed range fits w =
    let item = varint_field 1 e.term ++ body_fields e.body in
    let k = entry_known e.term e.body in
    let z = with_block 3 item x in
    let one = writes-item 4 at bytes x listed w 3 item k z (omega arith, omega arith) (omega (arith, entry-few e.term e.body range.0.1 fits.0)) (λ _. refl) (writes-entry e.term e.body range.0.0 range.0.1 fits.0) (λ fs p is. known-block x fs (block_read p 3 item) item refl (omega arith) is) in
    let r = writes-entries at entries (bytes ++ message_field 3 item) z (listed ++ k ∷ []) range.1 fits.1 one in
    let end : (bytes ++ message_field 3 item) ++ entries_field entries ≡ bytes ++ entries_field (e ∷ entries) = append_assoc bytes (message_field 3 item) (entries_field entries) ∙ ap (λ (b : List ℕ). bytes ++ b) (sym (flat_map-cons (λ (g : LogEntry). message_field 3 (entry_fields g)) e entries)) in
    let all : (listed ++ k ∷ []) ++ map (λ (g : LogEntry). entry_known g.term g.body) entries ≡ listed ++ (k ∷ map (λ (g : LogEntry). entry_known g.term g.body) entries) = append_assoc listed (k ∷ []) (map (λ (g : LogEntry). entry_known g.term g.body) entries) in
    writes-along 4 at _ _ _ _ end (subst (λ (l : List Known). Writes 4 at ((bytes ++ message_field 3 item) ++ entries_field entries) (after_entries entries z) l) all r)

entries-none : (place : ℕ) (entries : List LogEntry) → AllByRecursion IsEntryInRange entries → AllByRecursion (λ (e : LogEntry). FitsBody e.body) entries → entries_fault place (map (λ (e : LogEntry). entry_known e.term e.body) entries) ≡ None
entries-none place [] range fits = refl
entries-none place (e ∷ entries) range fits = none-or (entry_fault place (entry_known e.term e.body)) _ (entry-none place e.term e.body range.0.0 range.0.1 fits.0) (entries-none (place + 1) entries range.1 fits.1)

entries-again : (entries : List LogEntry) → AllByRecursion IsEntryInRange entries → map entry_of (map (λ (e : LogEntry). entry_known e.term e.body) entries) ≡ entries
entries-again [] range = refl
entries-again (e ∷ entries) range = ap (λ (g : LogEntry). g ∷ map entry_of (map (λ (h : LogEntry). entry_known h.term h.body) entries)) (entry-again e.term e.body range.0.1) ∙ ap (λ (es : List LogEntry). e ∷ es) (entries-again entries range.1)

entries-few : (entries : List LogEntry) → AllByRecursion IsEntryInRange entries → AllByRecursion (λ (e : LogEntry). FitsBody e.body) entries → length (entries_field entries) ≤ 500 * length entries
entries-few [] range fits = omega arith
entries-few (e ∷ entries) range fits =
    let item = varint_field 1 e.term ++ body_fields e.body in
    omega (arith, ap length (flat_map-cons (λ (g : LogEntry). message_field 3 (entry_fields g)) e entries), length-append (message_field 3 item) (entries_field entries), message_field-few 3 item, entry-few e.term e.body range.0.1 fits.0, entries-few entries range.1 fits.1)

-- ---- rows

abbrev front_known : List ℕ → ℕ → Known
front_known client last = with_varint 2 last (with_block 1 client (known_of []))

abbrev kept_known : Option Kept → Known → Known
kept_known None x = x
kept_known (Some kept) x = with_varint 6 (flag kept.exposed) (with_varint 5 kept.left (with_block 4 kept.pin.0 (with_block 3 kept.secret x)))

abbrev row_known : Row → Known
row_known row = kept_known row.kept (front_known row.client.0 row.last)

flag-few : (b : Bool) → flag b ≤ 1
flag-few true = omega arith
flag-few false = omega arith

writes-kept : (at : ℕ) (bytes client : List ℕ) (last : ℕ) (kept : Option Kept) → IsKeptInRange kept → FitsKept kept → Writes 0 at bytes (front_known client last) [] → Writes 0 at (bytes ++ kept_fields kept) (kept_known kept (front_known client last)) []
writes-kept at bytes client last None range fits w = writes-along 0 at _ _ _ _ (sym (append-nil bytes)) w
writes-kept at bytes client last (Some kept) range fits w =
    let a = block_field 3 kept.secret in
    let b = block_field 4 kept.pin.0 in
    let c = varint_field 5 kept.left in
    let w1 = writes-block 0 at bytes _ [] w 3 kept.secret (omega arith, omega arith) (omega arith) (omega (arith, range.0.1)) refl (λ _. refl) in
    let w2 = writes-along 0 at _ _ _ _ (append_assoc bytes a b) (writes-block 0 at (bytes ++ a) _ [] w1 4 kept.pin.0 (omega arith, omega arith) (omega arith) (omega (arith, fits)) refl (λ _. refl)) in
    let w3 = writes-along 0 at _ _ _ _ (append_assoc bytes (a ++ b) c) (writes-varint 0 at (bytes ++ (a ++ b)) _ [] w2 5 kept.left (omega arith, omega arith) (omega arith) (omega (arith, range.1.1)) refl) in
    writes-along 0 at _ _ _ _ (append_assoc bytes (a ++ b ++ c) (varint_field 6 (flag kept.exposed))) (writes-varint 0 at (bytes ++ (a ++ b ++ c)) _ [] w3 6 (flag kept.exposed) (omega arith, omega arith) (omega arith) (omega (arith, flag-few kept.exposed)) refl)

writes-row : (row : Row) → IsRowInRange row → FitsRow row → (at : ℕ) → Writes 0 at (row_fields row) (row_known row) []
writes-row row range fits at =
    let w = writes-block 0 at [] (known_of []) [] (writes-nothing 0 at) 1 row.client.0 (omega arith, omega arith) (omega arith) (omega (arith, fits.0)) refl (λ _. refl) in
    writes-kept at (block_field 1 row.client.0 ++ varint_field 2 row.last) row.client.0 row.last row.kept range fits.2
    (writes-varint 0 at (block_field 1 row.client.0) _ [] w 2 row.last (omega arith, omega arith) (omega arith) fits.1 refl)

-- the secret is not empty
kept-again : (client : List ℕ) (last : ℕ) (kept : Option Kept) → IsKeptInRange kept → kept_with (bytes_at 3 (kept_known kept (front_known client last))) (kept_known kept (front_known client last)) ≡ kept
kept-again client last None range = refl
kept-again client last (Some kept) range = some kept.secret kept.pin.0 kept.left kept.exposed range.0.0 range.1.1
  where
    some : (secret pin : List ℕ) (left : ℕ) (exposed : Bool) → 16 ≤ length secret → left ≤ 255
        → kept_with secret (with_varint 6 (flag exposed) (with_varint 5 left (with_block 4 pin (with_block 3 secret (front_known client last))))) ≡ Some (record { secret = secret; pin = record { 0 = pin }; left = left; exposed = exposed })
    some [] pin left exposed long few = absurd (omega arith)
    some (b ∷ bytes) pin left true long few =
        let low : left % 2 ^ 32 ≡ left = omega (arith, few) in
        ap (λ (n : ℕ). Some (record { secret = b ∷ bytes; pin = record { 0 = pin }; left = n; exposed = true })) low
    some (b ∷ bytes) pin left false long few =
        let low : left % 2 ^ 32 ≡ left = omega (arith, few) in
        ap (λ (n : ℕ). Some (record { secret = b ∷ bytes; pin = record { 0 = pin }; left = n; exposed = false })) low

kept-none : (client : List ℕ) (last : ℕ) (kept : Option Kept) → IsKeptInRange kept → FitsKept kept → kept_fault (bytes_at 3 (kept_known kept (front_known client last))) (kept_known kept (front_known client last)) ≡ None
kept-none client last None range fits = refl
kept-none client last (Some kept) range fits = some kept.secret kept.pin.0 kept.left kept.exposed range.0 fits range.1
  where
    some : (secret pin : List ℕ) (left : ℕ) (exposed : Bool) → (16 ≤ length secret) × (length secret ≤ 48) → length pin ≡ 32 → (1 ≤ left) × (left ≤ 255)
        → kept_fault secret (with_varint 6 (flag exposed) (with_varint 5 left (with_block 4 pin (with_block 3 secret (front_known client last))))) ≡ None
    some [] pin left exposed sizes long tries = absurd (omega (arith, sizes.0))
    some (b ∷ bytes) pin left exposed sizes long tries =
        let low : left % 2 ^ 32 ≡ left = omega (arith, tries.1) in
        none-or (rule _ _) _ (none-rule _ _ (and_from (nat_le 16 (length (b ∷ bytes))) (nat_le (length (b ∷ bytes)) 48) (le-leb 16 (length (b ∷ bytes)) sizes.0) (le-leb (length (b ∷ bytes)) 48 sizes.1)))
        (none-or (rule _ _) _ (none-rule _ _ (eq-eqb (length pin) 32 long))
        (none-or (rule _ _) None (none-rule _ _ (and_from (nat_le 1 (left % 2 ^ 32)) (nat_le (left % 2 ^ 32) 255) (le-leb 1 (left % 2 ^ 32) (omega (arith, low, tries.0))) (le-leb (left % 2 ^ 32) 255 (omega (arith, low, tries.1))))) refl))

row-again : (row : Row) → IsRowInRange row → row_of (row_known row) ≡ row
row-again row range = row_parts row.client.0 row.last row.kept range
  where
    row_parts : (client : List ℕ) (last : ℕ) (kept : Option Kept) → IsKeptInRange kept → row_of (kept_known kept (front_known client last)) ≡ record { client = record { 0 = client }; last = last; kept = kept }
    row_parts client last None range = refl
    row_parts client last (Some kept) range = ap (λ (k : Option Kept). record { client = record { 0 = client }; last = last; kept = k }) (kept-again client last (Some kept) range)

row-none : (row : Row) → IsRowInRange row → FitsRow row → row_fault (row_known row) ≡ None
row-none row range fits = row_parts row.client.0 row.last row.kept range fits.0 fits.2
  where
    row_parts : (client : List ℕ) (last : ℕ) (kept : Option Kept) → IsKeptInRange kept → length client ≡ 16 → FitsKept kept → row_fault (kept_known kept (front_known client last)) ≡ None
    row_parts client last None range long fits = none-or (rule _ _) _ (none-rule _ _ (eq-eqb (length client) 16 long)) refl
    row_parts client last (Some kept) range long fits = none-or (rule _ _) _ (none-rule _ _ (eq-eqb (length client) 16 long)) (none-or _ None (kept-none client last (Some kept) range fits) refl)

row-few : (row : Row) → IsRowInRange row → FitsRow row → length (row_fields row) < 400
row-few row range fits = kept_parts row.kept range fits.2
  where
    front : length (block_field 1 row.client.0 ++ varint_field 2 row.last) ≤ 60
    front = omega (arith, length-append (block_field 1 row.client.0) (varint_field 2 row.last), block_field-few 1 row.client.0, varint_field-few 2 row.last, fits.0)

    kept_parts : (kept : Option Kept) → IsKeptInRange kept → FitsKept kept → length ((block_field 1 row.client.0 ++ varint_field 2 row.last) ++ kept_fields kept) < 400
    kept_parts None range fits = omega (arith, front, length-append (block_field 1 row.client.0 ++ varint_field 2 row.last) [])
    kept_parts (Some kept) range fits =
        let a = block_field 3 kept.secret in
        let b = block_field 4 kept.pin.0 in
        let c = varint_field 5 kept.left in
        let d = varint_field 6 (flag kept.exposed) in
        omega (arith, front, length-append (block_field 1 row.client.0 ++ varint_field 2 row.last) (a ++ b ++ c ++ d), length-append (a ++ b ++ c) d, length-append (a ++ b) c, length-append a b, block_field-few 3 kept.secret, block_field-few 4 kept.pin.0, varint_field-few 5 kept.left, varint_field-few 6 (flag kept.exposed), range.0.1, fits)

writes-rows : (at : ℕ) (rows : List Row) (bytes : List ℕ) (x : Known) (listed : List Known) → AllByRecursion IsRowInRange rows → AllByRecursion FitsRow rows → Writes 7 at bytes x listed → Writes 7 at (bytes ++ rows_field rows) x (listed ++ map row_known rows)
writes-rows at [] bytes x listed range fits w = writes-along 7 at _ _ _ _ (sym (append-nil bytes)) (subst (λ (l : List Known). Writes 7 at bytes x l) (sym (append-nil listed)) w)
writes-rows at (row ∷ rows) bytes x listed range fits w =
    let item = row_fields row in
    let k = row_known row in
    let one = writes-item 7 at bytes x listed w 10 item k x (omega arith, omega arith) (omega (arith, row-few row range.0 fits.0)) (λ _. refl) (writes-row row range.0 fits.0) (λ fs p is. known-high_block x fs (block_read p 10 item) item refl (omega arith) is) in
    let r = writes-rows at rows (bytes ++ message_field 10 item) x (listed ++ k ∷ []) range.1 fits.1 one in
    let end : (bytes ++ message_field 10 item) ++ rows_field rows ≡ bytes ++ rows_field (row ∷ rows) = append_assoc bytes (message_field 10 item) (rows_field rows) ∙ ap (λ (b : List ℕ). bytes ++ b) (sym (flat_map-cons (λ (g : Row). message_field 10 (row_fields g)) row rows)) in
    let all : (listed ++ k ∷ []) ++ map row_known rows ≡ listed ++ (k ∷ map row_known rows) = append_assoc listed (k ∷ []) (map row_known rows) in
    writes-along 7 at _ _ _ _ end (subst (λ (l : List Known). Writes 7 at ((bytes ++ message_field 10 item) ++ rows_field rows) x l) all r)

rows-none : (rows : List Row) → AllByRecursion IsRowInRange rows → AllByRecursion FitsRow rows → rows_fault (map row_known rows) ≡ None
rows-none [] range fits = refl
rows-none (row ∷ rows) range fits = none-or (row_fault (row_known row)) _ (row-none row range.0 fits.0) (rows-none rows range.1 fits.1)

rows-again : (rows : List Row) → AllByRecursion IsRowInRange rows → map row_of (map row_known rows) ≡ rows
rows-again [] range = refl
rows-again (row ∷ rows) range = ap (λ (r : Row). r ∷ map row_of (map row_known rows)) (row-again row range.0) ∙ ap (λ (rs : List Row). row ∷ rs) (rows-again rows range.1)

rows-few : (rows : List Row) → AllByRecursion IsRowInRange rows → AllByRecursion FitsRow rows → length (rows_field rows) ≤ 500 * length rows
rows-few [] range fits = omega arith
rows-few (row ∷ rows) range fits =
    omega (arith, ap length (flat_map-cons (λ (g : Row). message_field 10 (row_fields g)) row rows), length-append (message_field 10 (row_fields row)) (rows_field rows), message_field-few 10 (row_fields row), row-few row range.0 fits.0, rows-few rows range.1 fits.1)

-- ---- the whole message

-- of the fields before the member, the term alone
term_alone : (at term : ℕ) → u64_of 1 (varints_read at 1 term) ≡ term
term_alone at zero = refl
term_alone at (suc n) = refl

no_member : (at term : ℕ) → member_of (varints_read at 1 term) ≡ None
no_member at zero = refl
no_member at (suc n) = refl

no_fault : (at term : ℕ) → filter_map member_fault (varints_read at 1 term) ≡ []
no_fault at zero = refl
no_fault at (suc n) = refl

again : (number term : ℕ) (inner : List ℕ) (x : Known) (listed : List Known) (msg : PeerMsg) → IsNumber number → (nat_le 2 number && nat_le number 8) ≡ true → eqb number 1 ≡ false → IsIndex term → length inner < 2 ^ 64 → ((at : ℕ) → Writes number at inner x listed)
    → fields_fault number x listed ≡ None → message_of term number x listed ≡ msg → peer_of (varint_field 1 term ++ message_field number inner) ≡ Ok msg
again number term inner x listed msg is known other index below writes none is_msg =
    let head = varints_read 0 1 term in
    let p = 0 + length (varint_field 1 term) in
    let f = block_read p number inner in
    let fs = head ++ f ∷ [] in
    let bytes = varint_field 1 term ++ message_field number inner in
    let outer = Spells-whole 0 bytes fs (Spells-append 0 (varint_field 1 term) (message_field number inner) head (f ∷ []) (Spells-varint 0 1 term (omega arith, omega arith) (omega (arith, index))) (Spells-message p number inner is below)) in
    let w = writes f.content_at in
    let inside = Spells-whole f.content_at inner w.fields w.spells in
    let member : is_member 2 8 f ≡ true = and_from (nat_le 2 number && nat_le number 8) true known refl in
    let s = sequence_at 0 bytes in
    let term_is : u64_of 1 s.fields ≡ term = ap (u64_of 1) outer.0 ∙ u64_of-push 1 head f ∙ under_none (eqb number 1) None (u64_of 1 head) refl ∙ term_alone 0 term in
    let last : member_of s.fields ≡ Some (number, w.fields) =
    ap member_of outer.0 ∙ last_member-push 2 8 head f member ∙ ap (λ (o : Option (ℕ × List Field)). Some (number, run_so_far o number ++ (embedded f).fields)) (no_member 0 term) ∙ ap (λ (gs : List Field). Some (number, gs)) inside.0 in
    let inner_none : first_fault_in (listed_fault number) (embedded f) ≡ None =
    ap (λ (gs : List Field). slice_get (filter_map (listed_fault number) gs ++ option_to_list (embedded f).fault) 0) inside.0 ∙ ap (λ (es : List WireFault). slice_get (es ++ option_to_list (embedded f).fault) 0) w.whole ∙ ap (λ (o : Option WireFault). slice_get (option_to_list o) 0) inside.1 in
    let f_none : member_fault f ≡ None = cond-true (is_member 2 8 f) _ None member ∙ inner_none in
    let faults : filter_map member_fault s.fields ≡ [] =
    ap (filter_map member_fault) outer.0 ∙ filter_map-append member_fault head (f ∷ []) ∙ ap (λ (es : List WireFault). es ++ filter_map member_fault (f ∷ [])) (no_fault 0 term) ∙ ap (λ (o : Option WireFault). cons_option o []) f_none in
    let whole : wire_fault s ≡ None = ap (λ (es : List WireFault). slice_get (es ++ option_to_list s.fault) 0) faults ∙ ap (λ (o : Option WireFault). slice_get (option_to_list o) 0) outer.1 in
    let rules : range_fault term number x listed ≡ None = none-or (rule (nat_le term TOP) _) (fields_fault number x listed) (none-rule _ _ (le-leb term TOP index)) none in
    ap (λ (fault : Option WireFault). peer_in fault (u64_of 1 s.fields) (member_of s.fields)) whole ∙ ap (λ (t : ℕ). peer_in None t (member_of s.fields)) term_is ∙ ap (peer_in None term) last
    ∙ ap (λ (k : Known). checked term number k (map known_of (listed_in number w.fields))) w.known ∙ ap (checked term number x) w.items
    ∙ ap (λ (fault : Option PeerFault). unless_broken fault (message_of term number x listed)) rules ∙ ap Ok is_msg

-- ---- each message

point-again : (x : Known) (p : Point) → u64_at 1 x ≡ p.index → bytes_at 2 x ≡ p.hash.0 → IsIndex p.index → IsHash p.hash → point_fault x ≡ None
point-again x p index-is hash-is index hash =
    none-or (index_rule 1 x) _ (index-again 1 p.index x index-is index) (none-or (rule (eqb (length (bytes_at 2 x)) 32) _) None (none-rule _ _ (eq-eqb (length (bytes_at 2 x)) 32 (ap length hash-is ∙ hash))) refl)

flag-again : (b : Bool) → not (eqb (flag b) 0) ≡ b
flag-again true = refl
flag-again false = refl

append-again : (term : ℕ) (prev : Point) (entries : List LogEntry) (promise commit : ℕ) → IsIndex term → IsIndex prev.index → IsHash prev.hash → prev.index + length entries ≤ TOP → length entries ≤ MAX_ENTRIES → AllByRecursion IsEntryInRange entries
    → AllByRecursion (λ (e : LogEntry). FitsBody e.body) entries → IsIndex promise → IsIndex commit → peer_of (canonical_peer (Append term prev entries promise commit)) ≡ Ok (Append term prev entries promise commit)
append-again term prev entries promise commit index prev-index hash end few range fits promise-in commit-in =
    let before = point_known prev in
    let after = after_entries entries before in
    let x = with_varint 5 commit (with_varint 4 promise after) in
    let listed = map (λ (e : LogEntry). entry_known e.term e.body) entries in
    let vs = varints-after entries before in
    let hash-is : bytes_at 2 x ≡ prev.hash.0 = hash-after entries before in
    let scalar = λ (k : ℕ). ap (λ (v : List ℕ). get_or (set (set v 4 promise) 5 commit) k 0) vs in
    let count = length-map entries (λ (e : LogEntry). entry_known e.term e.body) in
    let a = point_fields prev in
    let inner = a ++ entries_field entries ++ varint_field 4 promise ++ varint_field 5 commit in
    let short : length inner < 2 ^ 64 = omega (arith, length-append (a ++ entries_field entries ++ varint_field 4 promise) (varint_field 5 commit), length-append (a ++ entries_field entries) (varint_field 4 promise), length-append a (entries_field entries), length-append (varint_field 1 prev.index) (block_field 2 prev.hash.0), varint_field-few 1 prev.index, block_field-few 2 prev.hash.0, hash, varint_field-few 4 promise, varint_field-few 5 commit, entries-few entries range fits, few) in
    let none : fields_fault 4 x listed ≡ None =
    none-or (point_fault x) _ (point-again x prev (scalar 1) hash-is prev-index hash)
    (none-or (rule (nat_le (u64_at 1 x + length listed) TOP) _) _ (none-rule _ _ (le-leb (u64_at 1 x + length listed) TOP (omega (arith, scalar 1, count, end))))
    (none-or (rule (nat_le (length listed) MAX_ENTRIES) _) _ (none-rule _ _ (le-leb (length listed) MAX_ENTRIES (omega (arith, count, few))))
    (none-or (entries_fault 0 listed) _ (entries-none 0 entries range fits) (none-or (index_rule 4 x) _ (index-again 4 promise x (scalar 4) promise-in) (none-or (index_rule 5 x) None (index-again 5 commit x (scalar 5) commit-in) refl))))) in
    let made : ℕ → List ℕ → List LogEntry → ℕ → ℕ → PeerMsg = λ i h es p c. Append term (record { index = i; hash = record { 0 = h } }) es p c in
    let msg : message_of term 4 x listed ≡ Append term prev entries promise commit =
    ap (λ (i : ℕ). made i (bytes_at 2 x) (map entry_of listed) (u64_at 4 x) (u64_at 5 x)) (scalar 1) ∙ ap (λ (h : List ℕ). made prev.index h (map entry_of listed) (u64_at 4 x) (u64_at 5 x)) hash-is
    ∙ ap (λ (es : List LogEntry). made prev.index prev.hash.0 es (u64_at 4 x) (u64_at 5 x)) (entries-again entries range) ∙ ap (λ (p : ℕ). made prev.index prev.hash.0 entries p (u64_at 5 x)) (scalar 4) ∙ ap (made prev.index prev.hash.0 entries promise) (scalar 5) in
    again 4 term inner x listed (Append term prev entries promise commit) (omega arith, omega arith) refl refl index short
    (λ at.
    let w = writes-entries at entries a before [] range fits (writes-point 4 at prev prev-index hash (λ _. refl)) in
    let w4 = writes-varint 4 at (a ++ entries_field entries) after listed w 4 promise (omega arith, omega arith) (omega arith) (omega (arith, promise-in)) (ap (λ (v : List ℕ). get_or v 4 0) vs) in
    writes-varint 4 at (a ++ entries_field entries ++ varint_field 4 promise) _ listed w4 5 commit (omega arith, omega arith) (omega arith) (omega (arith, commit-in)) (ap (λ (v : List ℕ). get_or (set v 4 promise) 5 0) vs)) none msg

abbrev part_known : TablePart → Known
part_known p =
    with_varint 9 p.parts (with_varint 8 p.part (with_varint 7 p.limit (with_block 6 (id_bytes p.voters) (with_varint 5 p.margin (with_varint 4 p.conf_index (with_varint 3 p.last_term (point_known p.point)))))))

writes-part : (at : ℕ) (p : TablePart) → IsPartInRange p → IsHash p.point.hash → AllByRecursion FitsRow p.rows → AllByRecursion IsRowInRange p.rows → Writes 7 at (part_fields p) (part_known p) (map row_known p.rows)
writes-part at p range hash fits rows =
    let point = point_fields p.point in
    let a = varint_field 3 p.last_term in
    let b = varint_field 4 p.conf_index in
    let c = varint_field 5 p.margin in
    let d = block_field 6 (id_bytes p.voters) in
    let config = config_fields p in
    let e = varint_field 7 p.limit in
    let f = varint_field 8 p.part in
    let g = varint_field 9 p.parts in
    let w0 = writes-point 7 at p.point range.index hash (λ _. refl) in
    let w1 = writes-varint 7 at point _ [] w0 3 p.last_term (omega arith, omega arith) (omega arith) (omega (arith, range.last_term)) refl in
    let w2 = writes-along 7 at _ _ _ _ (append_assoc point a b) (writes-varint 7 at (point ++ a) _ [] w1 4 p.conf_index (omega arith, omega arith) (omega arith) (omega (arith, range.conf_index, range.index)) refl) in
    let w3 = writes-along 7 at _ _ _ _ (append_assoc point (a ++ b) c) (writes-varint 7 at (point ++ (a ++ b)) _ [] w2 5 p.margin (omega arith, omega arith) (omega arith) (omega (arith, range.conf.at_most, range.conf.enough)) refl) in
    let w4 = writes-along 7 at _ _ _ _ (append_assoc point (a ++ b ++ c) d) (writes-block 7 at (point ++ (a ++ b ++ c)) _ [] w3 6 (id_bytes p.voters) (omega arith, omega arith) (omega arith) (omega (arith, length-id_bytes p.voters, range.conf.at_most)) refl (λ _. refl)) in
    let w5 = writes-varint 7 at (point ++ config) _ [] w4 7 p.limit (omega arith, omega arith) (omega arith) (omega (arith, range.limit_to)) refl in
    let w6 = writes-along 7 at _ _ _ _ (append_assoc (point ++ config) e f) (writes-varint 7 at ((point ++ config) ++ e) _ [] w5 8 p.part (omega arith, omega arith) (omega arith) (omega (arith, range.part, range.parts)) refl) in
    let w7 = writes-along 7 at _ _ _ _ (append_assoc (point ++ config) (e ++ f) g) (writes-varint 7 at ((point ++ config) ++ (e ++ f)) _ [] w6 9 p.parts (omega arith, omega arith) (omega arith) (omega (arith, range.parts)) refl) in
    writes-rows at p.rows (point ++ config ++ count_fields p) _ [] rows fits w7

low_32 : (n : ℕ) → n < 2 ^ 32 → n % 2 ^ 32 ≡ n
low_32 n below = omega (arith, below)

part-none-again : (p : TablePart) → IsPartInRange p → IsHash p.point.hash → AllByRecursion FitsRow p.rows → AllByRecursion IsRowInRange p.rows → fields_fault 7 (part_known p) (map row_known p.rows) ≡ None
part-none-again p range hash fits rows =
    let x = part_known p in
    let listed = map row_known p.rows in
    let margin : p.margin % 2 ^ 32 ≡ p.margin = omega (arith, range.conf.at_most, range.conf.enough) in
    let limit : p.limit % 2 ^ 32 ≡ p.limit = omega (arith, range.limit_to) in
    let part : p.part % 2 ^ 32 ≡ p.part = omega (arith, range.part, range.parts) in
    let parts : p.parts % 2 ^ 32 ≡ p.parts = omega (arith, range.parts) in
    let count = length-map p.rows row_known in
    none-or (point_fault x) _ (point-again x p.point refl refl range.index hash)
    (none-or (index_rule 3 x) _ (index-again 3 p.last_term x refl range.last_term)
    (none-or (index_rule 4 x) _ (index-again 4 p.conf_index x refl (omega (arith, range.conf_index, range.index)))
    (none-or (at_most 4 p.point.index p.conf_index) _ (none-rule _ _ (le-leb p.conf_index p.point.index range.conf_index))
    (none-or (at_most 5 MAX_MARGIN (p.margin % 2 ^ 32)) _ (none-rule _ _ (le-leb (p.margin % 2 ^ 32) MAX_MARGIN (omega (arith, margin, range.conf.at_most, range.conf.enough))))
    (none-or (voters_fault (id_bytes p.voters)) _ (voters-again p.margin p.voters range.conf)
    (none-or (rule (nat_le (2 * (p.margin % 2 ^ 32) + 1) (length (ids_in (id_bytes p.voters)))) _) _ (none-rule _ _ (enough-again p.margin p.voters range.conf))
    (none-or (from_1_to 7 MOST_ROWS (p.limit % 2 ^ 32)) _ (none-rule _ _ (and_from (nat_le 1 (p.limit % 2 ^ 32)) (nat_le (p.limit % 2 ^ 32) MOST_ROWS) (le-leb 1 (p.limit % 2 ^ 32) (omega (arith, limit, range.limit_from))) (le-leb (p.limit % 2 ^ 32) MOST_ROWS (omega (arith, limit, range.limit_to)))))
    (none-or (rule (nat_lt (p.part % 2 ^ 32) (p.parts % 2 ^ 32)) _) _ (none-rule _ _ (lt-ltb (p.part % 2 ^ 32) (p.parts % 2 ^ 32) (omega (arith, part, parts, range.part))))
    (none-or (from_1_to 9 MAX_PARTS (p.parts % 2 ^ 32)) _ (none-rule _ _ (and_from (nat_le 1 (p.parts % 2 ^ 32)) (nat_le (p.parts % 2 ^ 32) MAX_PARTS) (le-leb 1 (p.parts % 2 ^ 32) (omega (arith, parts, range.part))) (le-leb (p.parts % 2 ^ 32) MAX_PARTS (omega (arith, parts, range.parts)))))
    (none-or (rule (nat_le (length listed) ROWS_PER_PART) _) _ (none-rule _ _ (le-leb (length listed) ROWS_PER_PART (omega (arith, count, range.few)))) (none-or (rows_fault listed) None (rows-none p.rows rows fits) refl)))))))))))

part-made : (p : TablePart) → IsPartInRange p → AllByRecursion IsRowInRange p.rows → part_of (part_known p) (map row_known p.rows) ≡ p
part-made p range rows =
    let made : ℕ → List ℕ → ℕ → ℕ → ℕ → List Row → TablePart = λ margin voters limit part parts items. record { point = p.point; last_term = p.last_term; conf_index = p.conf_index; margin = margin; voters = voters; limit = limit; part = part; parts = parts; rows = items } in
    let items = map row_of (map row_known p.rows) in
    ap (λ (m : ℕ). made m (ids_in (id_bytes p.voters)) (p.limit % 2 ^ 32) (p.part % 2 ^ 32) (p.parts % 2 ^ 32) items) (low_32 p.margin (omega (arith, range.conf.at_most, range.conf.enough)))
    ∙ ap (λ (v : List ℕ). made p.margin v (p.limit % 2 ^ 32) (p.part % 2 ^ 32) (p.parts % 2 ^ 32) items) (ids_in-id_bytes p.voters range.conf.ids)
    ∙ ap (λ (n : ℕ). made p.margin p.voters n (p.part % 2 ^ 32) (p.parts % 2 ^ 32) items) (low_32 p.limit (omega (arith, range.limit_to)))
    ∙ ap (λ (n : ℕ). made p.margin p.voters p.limit n (p.parts % 2 ^ 32) items) (low_32 p.part (omega (arith, range.part, range.parts)))
    ∙ ap (λ (n : ℕ). made p.margin p.voters p.limit p.part n items) (low_32 p.parts (omega (arith, range.parts)))
    ∙ ap (made p.margin p.voters p.limit p.part p.parts) (rows-again p.rows rows)

part-short : (p : TablePart) → IsPartInRange p → IsHash p.point.hash → AllByRecursion FitsRow p.rows → AllByRecursion IsRowInRange p.rows → length (part_fields p) < 2 ^ 64
part-short p range hash fits rows =
    let point = point_fields p.point in
    let a = varint_field 3 p.last_term in
    let b = varint_field 4 p.conf_index in
    let c = varint_field 5 p.margin in
    let d = block_field 6 (id_bytes p.voters) in
    let e = varint_field 7 p.limit in
    let f = varint_field 8 p.part in
    let g = varint_field 9 p.parts in
    let config : length (config_fields p) ≤ 400 = omega (arith, length-append (a ++ b ++ c) d, length-append (a ++ b) c, length-append a b, varint_field-few 3 p.last_term, varint_field-few 4 p.conf_index, varint_field-few 5 p.margin, block_field-few 6 (id_bytes p.voters), length-id_bytes p.voters, range.conf.at_most) in
    let count : length (count_fields p) ≤ 60 = omega (arith, length-append (e ++ f) g, length-append e f, varint_field-few 7 p.limit, varint_field-few 8 p.part, varint_field-few 9 p.parts) in
    let front : length point ≤ 80 = omega (arith, length-append (varint_field 1 p.point.index) (block_field 2 p.point.hash.0), varint_field-few 1 p.point.index, block_field-few 2 p.point.hash.0, hash) in
    omega (arith, length-append (point ++ config_fields p ++ count_fields p) (rows_field p.rows), length-append (point ++ config_fields p) (count_fields p), length-append point (config_fields p), config, count, front, rows-few p.rows rows fits, range.few)

-- two numbers
two-again : (number term a b : ℕ) (msg : PeerMsg) → IsNumber number → (nat_le 2 number && nat_le number 8) ≡ true → eqb number 1 ≡ false → IsIndex term → IsIndex a → IsIndex b → fields_fault number (with_varint 2 b (with_varint 1 a (known_of []))) [] ≡ None
    → message_of term number (with_varint 2 b (with_varint 1 a (known_of []))) [] ≡ msg → peer_of (varint_field 1 term ++ message_field number (varint_field 1 a ++ varint_field 2 b)) ≡ Ok msg
two-again number term a b msg is known other index a-in b-in none made =
    again number term (varint_field 1 a ++ varint_field 2 b) (with_varint 2 b (with_varint 1 a (known_of []))) [] msg is known other index (omega (arith, length-append (varint_field 1 a) (varint_field 2 b), varint_field-few 1 a, varint_field-few 2 b))
    (λ at. writes-varint number at (varint_field 1 a) _ [] (writes-first number at a (omega (arith, a-in))) 2 b (omega arith, omega arith) (omega arith) (omega (arith, b-in)) refl) none made

-- a point and a number
point_and-again : (number term n : ℕ) (p : Point) (msg : PeerMsg) → IsNumber number → (nat_le 2 number && nat_le number 8) ≡ true → eqb number 1 ≡ false → ((q : ℕ) → is_listed number (block_read q 2 p.hash.0) ≡ false) → IsIndex term → IsIndex p.index → IsHash p.hash → n < 2 ^ 64
    → fields_fault number (with_varint 3 n (point_known p)) [] ≡ None → message_of term number (with_varint 3 n (point_known p)) [] ≡ msg → peer_of (varint_field 1 term ++ message_field number (point_fields p ++ varint_field 3 n)) ≡ Ok msg
point_and-again number term n p msg is known other unlisted index p-in hash below none made =
    again number term (point_fields p ++ varint_field 3 n) (with_varint 3 n (point_known p)) [] msg is known other index
    (omega (arith, length-append (point_fields p) (varint_field 3 n), length-append (varint_field 1 p.index) (block_field 2 p.hash.0), varint_field-few 1 p.index, block_field-few 2 p.hash.0, hash, varint_field-few 3 n))
    (λ at. writes-varint number at (point_fields p) _ [] (writes-point number at p p-in hash unlisted) 3 n (omega arith, omega arith) (omega arith) below refl) none made

pub peer_of-canonical : (msg : PeerMsg) → IsInRange msg → FitsPeer msg → peer_of (canonical_peer msg) ≡ Ok msg
peer_of-canonical (AskVote term last_index last_term) range fits =
    let x = with_varint 2 last_term (with_varint 1 last_index (known_of [])) in
    two-again 2 term last_index last_term _ (omega arith, omega arith) refl refl range.0 range.1.0 range.1.1
    (none-or (index_rule 1 x) _ (index-again 1 last_index x refl range.1.0) (none-or (index_rule 2 x) None (index-again 2 last_term x refl range.1.1) refl)) refl
peer_of-canonical (Vote term granted) range fits =
    again 3 term (varint_field 1 (flag granted)) (with_varint 1 (flag granted) (known_of [])) [] _ (omega arith, omega arith) refl refl range.0 (omega (arith, varint_field-few 1 (flag granted)))
    (λ at. writes-first 3 at (flag granted) (omega (arith, flag-few granted))) refl (ap (Vote term) (flag-again granted))
peer_of-canonical (Append term prev entries promise commit) range fits =
    append-again term prev entries promise commit range.0 (omega (arith, range.1.end)) fits.0 range.1.end range.1.few (recursion_from_All IsEntryInRange entries range.1.entries) (recursion_from_All (λ (e : LogEntry). FitsBody e.body) entries fits.1) range.1.promise range.1.commit
peer_of-canonical (Accepted term end promised) range fits =
    let x = with_varint 3 promised (point_known end) in
    point_and-again 5 term promised end _ (omega arith, omega arith) refl refl (λ _. refl) range.0 range.1.0 fits (omega (arith, range.1.1))
    (none-or (point_fault x) _ (point-again x end refl refl range.1.0 fits) (none-or (index_rule 3 x) None (index-again 3 promised x refl range.1.1) refl)) refl
peer_of-canonical (Rejected term asked hint) range fits =
    let x = with_varint 2 hint (with_varint 1 asked (known_of [])) in
    two-again 6 term asked hint _ (omega arith, omega arith) refl refl range.0 range.1.0 range.1.1
    (none-or (index_rule 1 x) _ (index-again 1 asked x refl range.1.0) (none-or (index_rule 2 x) None (index-again 2 hint x refl range.1.1) refl)) refl
peer_of-canonical (Part term part) range fits =
    let rows-fit = recursion_from_All FitsRow part.rows fits.1 in
    let rows-in = recursion_from_All IsRowInRange part.rows range.1.rows in
    again 7 term (part_fields part) (part_known part) (map row_known part.rows) _ (omega arith, omega arith) refl refl range.0 (part-short part range.1 fits.0 rows-fit rows-in)
    (λ at. writes-part at part range.1 fits.0 rows-fit rows-in) (part-none-again part range.1 fits.0 rows-fit rows-in) (ap (Part term) (part-made part range.1 rows-in))
peer_of-canonical (PartTaken term point next) range fits =
    let x = with_varint 3 next (point_known point) in
    point_and-again 8 term next point _ (omega arith, omega arith) refl refl (λ _. refl) range.0 range.1 fits.0 (omega (arith, fits.1)) (point-again x point refl refl range.1 fits.0) (ap (PartTaken term point) (low_32 next fits.1))
