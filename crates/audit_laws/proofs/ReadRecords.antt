-- The record of an event in range reads as it, and is short.
use Rattle.std.proofs.Common.{◌≡◌, ℕ, ◌+◌, ◌*◌, ◌≤◌, ◌==◌, false, None, Result, Ok, List, [], ◌∷◌, length, map, refl, ap, ◌∙◌, arith}
use Rattle.std.specs.Prelude.{IsTrue, decimal, if◌then◌else◌, nat_le}
use Rattle.std.specs.List.{list_all}
use Rattle.std.proofs.lemmas.Bool.{cond-true, and_parts, leb-true, le-leb, eqb-true, eq-eqb}
use Rattle.hex.specs.Hex.{decode_of}
use Rattle.group_quorum.specs.Voters.{fault_of}
use Rattle.values.specs.declared.entry.Hash.{Hash}
use Rattle.values.specs.declared.event.Cause.TheVariants.{Hex, Range, Fields as FieldsCause}
use Rattle.values.specs.declared.event.Event.{Event}
use Rattle.values.specs.declared.event.Event.TheVariants as event
use Rattle.values.specs.declared.ids.ClientId.{ClientId}
use Rattle.values.specs.declared.want.Want.{Want}
use Rattle.values.specs.declared.want.Want.TheVariants as want
use Rattle.schedule_model.specs.Lines.{hex, want_fields, record_fields}
use Rattle.schedule_model.specs.Reading.{RecordFault, fault, ◌>>=◌, number_of, bytes_or_fault, replicas_from, max_u32, max_u64}
use Rattle.schedule_model.specs.Records.{Word, event_of, some_event, placed, fields_as, begin_or}
use Rattle.schedule_model.specs.Records as word
use Rattle.schedule_model.proofs.Reading.{number_of-decimal}
use Rattle.record_cutting.specs.Lines.{Record}
use Rattle.trace_model.specs.TraceLines.{IsRecord, is_hash, is_client_id, is_byte}
use Rattle.values.specs.declared.limits.TheConstants.{MAX_REQUEST, MAX_SOURCE}
use Rattle.audit_laws.proofs.Lines.{size, decimal_size, hex_size, client_size, hash_size, ids_size, id_u64, u64_test}
use Rattle.range_laws.proofs.Confs.{fault_few}
use Rattle.range_laws.proofs.ReadBack.{reads_hex}
use Rattle.range_laws.proofs.Worlds.{IsShort, IsShortWant}
use Rattle.range_laws.specs.Ranges.{IsId, AreIds, EventIn, WantIn, AreBytes}

-- ---- how long it is
want_size : (w : Want) → WantIn w → IsShortWant MAX_SOURCE w → size (want_fields w) ≤ MAX_SOURCE + 1000
want_size (want.Store secret pin tries) h short = omega (arith, hex_size secret, short, hash_size pin h.1, decimal_size tries (u64_test tries (omega (arith, h.2))))
want_size (want.Recover pin) h short = omega (arith, hash_size pin h)
want_size want.Erase h short = omega arith

pub record_short : (e : Event) → EventIn e → IsShort MAX_SOURCE e → size (record_fields e) ≤ MAX_SOURCE + 200000
record_short (event.Begin margin limit voters) h short = omega (arith, decimal_size margin (u64_test margin (omega (arith, h.0))), decimal_size limit (u64_test limit (omega (arith, h.2))), ids_size voters h.3, fault_few margin voters h.4)
record_short (event.Start r) h short = omega (arith, decimal_size r (id_u64 r h))
record_short (event.Tick r) h short = omega (arith, decimal_size r (id_u64 r h))
record_short (event.Deliver k) h short = omega (arith, decimal_size k (u64_test k h.1))
record_short (event.Lose k) h short = omega (arith, decimal_size k (u64_test k h.1))
record_short (event.Settle n) h short = absurd h
record_short (event.Crash r) h short = omega (arith, decimal_size r (id_u64 r h))
record_short (event.Save r) h short = omega (arith, decimal_size r (id_u64 r h))
record_short (event.Roll r k) h short = omega (arith, decimal_size r (id_u64 r h.0), decimal_size k (u64_test k (omega (arith, h.1))))
record_short (event.Join r x) h short = omega (arith, decimal_size r (id_u64 r h.0), decimal_size x (id_u64 x h.1))
record_short (event.Admit r x) h short = omega (arith, decimal_size r (id_u64 r h.0), decimal_size x (id_u64 x h.1))
record_short (event.Remove r x) h short = omega (arith, decimal_size r (id_u64 r h.0), decimal_size x (id_u64 x h.1))
record_short (event.Ask r c n bytes) h short = omega (arith, decimal_size r (id_u64 r h.0), client_size c h.1, decimal_size n (u64_test n h.2), hex_size bytes, h.4)
record_short (event.Want c w) h short = omega (arith, client_size c h.0, want_size w h.1 short)
record_short (event.Say c r) h short = omega (arith, client_size c h.0, decimal_size r (id_u64 r h.1))
record_short (event.Hear c a) h short = omega (arith, client_size c h.0, decimal_size a (u64_test a h.2))
record_short (event.Margin r m) h short = omega (arith, decimal_size r (id_u64 r h.0), decimal_size m (u64_test m (omega (arith, h.1))))
record_short (event.Again c) h short = absurd h

-- ---- that it reads as it
id_reads : (r k : ℕ) → IsId r → number_of (decimal r) k 1 65535 ≡ Ok r
id_reads r k h = let p = and_parts (nat_le 1 r) (nat_le r 65535) h in number_of-decimal r k 1 65535 (leb-true 1 r p.0) (leb-true r 65535 p.1) (omega arith)

hex_reads : (bytes : List ℕ) (k : ℕ) → AreBytes bytes → bytes_or_fault k (decode_of (hex bytes)) ≡ Ok bytes
hex_reads bytes k h = ap (bytes_or_fault k) (reads_hex bytes h)

sized_reads : (bytes : List ℕ) (k n : ℕ) → AreBytes bytes → length bytes ≡ n → (bytes_or_fault k (decode_of (hex bytes)) >>= (λ b. if length b == n then Ok b else fault Hex k)) ≡ Ok bytes
sized_reads bytes k n h long =
    ap (λ (x : Result (List ℕ) RecordFault). x >>= (λ b. if length b == n then Ok b else fault Hex k)) (hex_reads bytes k h)
    ∙ cond-true (length bytes == n) (Ok bytes) (fault Hex k) (eq-eqb (length bytes) n long)

abbrev client_of : List ℕ → ℕ → Result ClientId RecordFault
client_of text k = (bytes_or_fault k (decode_of text) >>= (λ b. if length b == 16 then Ok b else fault Hex k)) >>= (λ b. Ok (record { 0 = b }))

abbrev pin_of : List ℕ → ℕ → Result Hash RecordFault
pin_of text k = (bytes_or_fault k (decode_of text) >>= (λ b. if length b == 32 then Ok b else fault Hex k)) >>= (λ b. Ok (record { 0 = b }))

client_reads : (c : ClientId) (k : ℕ) → IsTrue (is_client_id c) → client_of (hex c.0) k ≡ Ok c
client_reads c k h =
    let p = and_parts (length c.0 == 16) (list_all is_byte c.0) h in
    ap (λ (x : Result (List ℕ) RecordFault). x >>= (λ b. Ok (record { 0 = b }))) (sized_reads c.0 k 16 p.1 (eqb-true (length c.0) 16 p.0))

pin_reads : (c : Hash) (k : ℕ) → IsTrue (is_hash c) → pin_of (hex c.0) k ≡ Ok c
pin_reads c k h =
    let p = and_parts (length c.0 == 32) (list_all is_byte c.0) h in
    ap (λ (x : Result (List ℕ) RecordFault). x >>= (λ b. Ok (record { 0 = b }))) (sized_reads c.0 k 32 p.1 (eqb-true (length c.0) 32 p.0))

request_reads : (bytes : List ℕ) (k : ℕ) → AreBytes bytes → length bytes ≤ 65536 → (bytes_or_fault k (decode_of (hex bytes)) >>= (λ b. if nat_le (length b) MAX_REQUEST then Ok b else fault Range k)) ≡ Ok bytes
request_reads bytes k h short =
    ap (λ (x : Result (List ℕ) RecordFault). x >>= (λ b. if nat_le (length b) MAX_REQUEST then Ok b else fault Range k)) (hex_reads bytes k h)
    ∙ cond-true (nat_le (length bytes) MAX_REQUEST) (Ok bytes) (fault Range k) (le-leb (length bytes) 65536 short)

two_reads : (make : ℕ → ℕ → Event) (r x high : ℕ) → IsId r → number_of (decimal x) 3 high 65535 ≡ Ok x → (number_of (decimal r) 2 1 65535 >>= (λ a. number_of (decimal x) 3 high 65535 >>= (λ b. Ok (make a b)))) ≡ Ok (make r x)
two_reads make r x high hr hx =
    ap (λ (y : Result ℕ RecordFault). y >>= (λ a. number_of (decimal x) 3 high 65535 >>= (λ b. Ok (make a b)))) (id_reads r 2 hr)
    ∙ ap (λ (y : Result ℕ RecordFault). y >>= (λ b. Ok (make r b))) hx

and_number : (make : ℕ → ℕ → Event) (r x high : ℕ) → IsId r → x ≤ high → high ≤ max_u64 → (number_of (decimal r) 2 1 65535 >>= (λ a. number_of (decimal x) 3 0 high >>= (λ b. Ok (make a b)))) ≡ Ok (make r x)
and_number make r x high hr le top =
    ap (λ (y : Result ℕ RecordFault). y >>= (λ a. number_of (decimal x) 3 0 high >>= (λ b. Ok (make a b)))) (id_reads r 2 hr)
    ∙ ap (λ (y : Result ℕ RecordFault). y >>= (λ b. Ok (make r b))) (number_of-decimal x 3 0 high (omega arith) le top)

ask_reads : (r n : ℕ) (c : ClientId) (bytes : List ℕ) → IsId r → IsTrue (is_client_id c) → n ≤ max_u64 → AreBytes bytes → length bytes ≤ 65536
    → (number_of (decimal r) 2 1 65535 >>= (λ r. client_of (hex c.0) 3 >>= (λ c. number_of (decimal n) 4 0 max_u64 >>= (λ n. (bytes_or_fault 5 (decode_of (hex bytes)) >>= (λ b. if nat_le (length b) MAX_REQUEST then Ok b else fault Range 5)) >>= (λ q. Ok (event.Ask r c n q)))))) ≡ Ok (event.Ask r c n bytes)
ask_reads r n c bytes hr hc hn hb short =
    ap (λ (y : Result ℕ RecordFault). y >>= (λ r. client_of (hex c.0) 3 >>= (λ c. number_of (decimal n) 4 0 max_u64 >>= (λ n. (bytes_or_fault 5 (decode_of (hex bytes)) >>= (λ b. if nat_le (length b) MAX_REQUEST then Ok b else fault Range 5)) >>= (λ q. Ok (event.Ask r c n q)))))) (id_reads r 2 hr)
    ∙ (ap (λ (y : Result ClientId RecordFault). y >>= (λ c. number_of (decimal n) 4 0 max_u64 >>= (λ n. (bytes_or_fault 5 (decode_of (hex bytes)) >>= (λ b. if nat_le (length b) MAX_REQUEST then Ok b else fault Range 5)) >>= (λ q. Ok (event.Ask r c n q))))) (client_reads c 3 hc)
    ∙ (ap (λ (y : Result ℕ RecordFault). y >>= (λ n. (bytes_or_fault 5 (decode_of (hex bytes)) >>= (λ b. if nat_le (length b) MAX_REQUEST then Ok b else fault Range 5)) >>= (λ q. Ok (event.Ask r c n q)))) (number_of-decimal n 4 0 max_u64 (omega arith) hn (omega arith))
    ∙ ap (λ (y : Result (List ℕ) RecordFault). y >>= (λ q. Ok (event.Ask r c n q))) (request_reads bytes 5 hb short)))

want_reads : (c : ClientId) → IsTrue (is_client_id c) → (w : Want) → WantIn w → IsRecord (event.Want c w)
want_reads c hc (want.Store secret pin tries) h = (tt, ap some_event store)
  where
    store : (client_of (hex c.0) 2 >>= (λ c. bytes_or_fault 4 (decode_of (hex secret)) >>= (λ s. pin_of (hex pin.0) 5 >>= (λ p. number_of (decimal tries) 6 0 max_u32 >>= (λ t. Ok (event.Want c (want.Store s p t))))))) ≡ Ok (event.Want c (want.Store secret pin tries))
    store =
        ap (λ (y : Result ClientId RecordFault). y >>= (λ c. bytes_or_fault 4 (decode_of (hex secret)) >>= (λ s. pin_of (hex pin.0) 5 >>= (λ p. number_of (decimal tries) 6 0 max_u32 >>= (λ t. Ok (event.Want c (want.Store s p t))))))) (client_reads c 2 hc)
        ∙ (ap (λ (y : Result (List ℕ) RecordFault). y >>= (λ s. pin_of (hex pin.0) 5 >>= (λ p. number_of (decimal tries) 6 0 max_u32 >>= (λ t. Ok (event.Want c (want.Store s p t)))))) (hex_reads secret 4 h.0)
        ∙ (ap (λ (y : Result Hash RecordFault). y >>= (λ p. number_of (decimal tries) 6 0 max_u32 >>= (λ t. Ok (event.Want c (want.Store secret p t))))) (pin_reads pin 5 h.1)
        ∙ ap (λ (y : Result ℕ RecordFault). y >>= (λ t. Ok (event.Want c (want.Store secret pin t)))) (number_of-decimal tries 6 0 max_u32 (omega arith) h.2 (omega arith))))
want_reads c hc (want.Recover pin) h = (tt, ap some_event recover)
  where
    recover : (client_of (hex c.0) 2 >>= (λ c. pin_of (hex pin.0) 4 >>= (λ p. Ok (event.Want c (want.Recover p))))) ≡ Ok (event.Want c (want.Recover pin))
    recover =
        ap (λ (y : Result ClientId RecordFault). y >>= (λ c. pin_of (hex pin.0) 4 >>= (λ p. Ok (event.Want c (want.Recover p))))) (client_reads c 2 hc)
        ∙ ap (λ (y : Result Hash RecordFault). y >>= (λ p. Ok (event.Want c (want.Recover p)))) (pin_reads pin 4 h)
want_reads c hc want.Erase h = (tt, ap (λ (y : Result ClientId RecordFault). some_event (y >>= (λ c. Ok (event.Want c want.Erase)))) (client_reads c 2 hc))

say_reads : (c : ClientId) (r : ℕ) → IsTrue (is_client_id c) → IsId r → (client_of (hex c.0) 2 >>= (λ c. number_of (decimal r) 3 1 65535 >>= (λ r. Ok (event.Say c r)))) ≡ Ok (event.Say c r)
say_reads c r hc hr =
    ap (λ (y : Result ClientId RecordFault). y >>= (λ c. number_of (decimal r) 3 1 65535 >>= (λ r. Ok (event.Say c r)))) (client_reads c 2 hc)
    ∙ ap (λ (y : Result ℕ RecordFault). y >>= (λ r. Ok (event.Say c r))) (id_reads r 3 hr)

hear_reads : (c : ClientId) (a : ℕ) → IsTrue (is_client_id c) → 1 ≤ a → a ≤ max_u64 → (client_of (hex c.0) 2 >>= (λ c. number_of (decimal a) 3 1 max_u64 >>= (λ a. Ok (event.Hear c a)))) ≡ Ok (event.Hear c a)
hear_reads c a hc from to =
    ap (λ (y : Result ClientId RecordFault). y >>= (λ c. number_of (decimal a) 3 1 max_u64 >>= (λ a. Ok (event.Hear c a)))) (client_reads c 2 hc)
    ∙ ap (λ (y : Result ℕ RecordFault). y >>= (λ a. Ok (event.Hear c a))) (number_of-decimal a 3 1 max_u64 from to (omega arith))

ids_read : (k : ℕ) (vs : List ℕ) → AreIds vs → replicas_from k (map decimal vs) ≡ Ok vs
ids_read k [] h = refl
ids_read k (v ∷ vs) h =
    ap (λ (y : Result ℕ RecordFault). y >>= (λ id. replicas_from (k + 1) (map decimal vs) >>= (λ ids. Ok (id ∷ ids)))) (id_reads v k h.0)
    ∙ ap (λ (y : Result (List ℕ) RecordFault). y >>= (λ ids. Ok (v ∷ ids))) (ids_read (k + 1) vs h.1)

begin_reads : (margin limit : ℕ) (voters : List ℕ) → margin ≤ 15 → 1 ≤ limit → limit ≤ 20000 → AreIds voters → fault_of margin voters ≡ None
    → (number_of (decimal margin) 2 0 15 >>= (λ m. number_of (decimal limit) 3 1 20000 >>= (λ l. replicas_from 4 (map decimal voters) >>= (λ vs. begin_or (fault_of m vs) m l vs)))) ≡ Ok (event.Begin margin limit voters)
begin_reads margin limit voters a b c d e =
    ap (λ (y : Result ℕ RecordFault). y >>= (λ m. number_of (decimal limit) 3 1 20000 >>= (λ l. replicas_from 4 (map decimal voters) >>= (λ vs. begin_or (fault_of m vs) m l vs)))) (number_of-decimal margin 2 0 15 (omega arith) a (omega arith))
    ∙ (ap (λ (y : Result ℕ RecordFault). y >>= (λ l. replicas_from 4 (map decimal voters) >>= (λ vs. begin_or (fault_of margin vs) margin l vs))) (number_of-decimal limit 3 1 20000 b c (omega arith))
    ∙ (ap (λ (y : Result (List ℕ) RecordFault). y >>= (λ vs. begin_or (fault_of margin vs) margin limit vs)) (ids_read 4 voters d)
    ∙ ap (λ o. begin_or o margin limit voters) e))

-- events of a replica alone, and of it and a number
pub record_reads : (e : Event) → EventIn e → IsRecord e
record_reads (event.Begin margin limit voters) h = by_voters voters (fault_few margin voters h.4).2 (begin_reads margin limit voters h.0 h.1 h.2 h.3 h.4)
  where
    by_voters : (voters : List ℕ) → 2 * margin + 1 ≤ length voters → (number_of (decimal margin) 2 0 15 >>= (λ m. number_of (decimal limit) 3 1 20000 >>= (λ l. replicas_from 4 (map decimal voters) >>= (λ vs. begin_or (fault_of m vs) m l vs)))) ≡ Ok (event.Begin margin limit voters) → IsRecord (event.Begin margin limit voters)
    by_voters [] some is = absurd (omega arith)
    by_voters (v ∷ voters) some is =
        let fields : Record = record_fields (event.Begin margin limit (v ∷ voters)) in (
          tt,
          ap (λ (y : Result Word RecordFault). some_event (y >>= (λ counted. placed false counted >>= (λ allowed. fields_as allowed fields))))
              (cond-true (nat_le 4 (length fields)) (Ok word.Begin) (fault FieldsCause 0) (le-leb 4 (length fields) (omega arith)))
              ∙ ap some_event is,
        )
record_reads (event.Start r) h = (tt, ap (λ (x : Result ℕ RecordFault). some_event (x >>= (λ r. Ok (event.Start r)))) (id_reads r 2 h))
record_reads (event.Tick r) h = (tt, ap (λ (x : Result ℕ RecordFault). some_event (x >>= (λ r. Ok (event.Tick r)))) (id_reads r 2 h))
record_reads (event.Deliver k) h = (tt, ap (λ (x : Result ℕ RecordFault). some_event (x >>= (λ r. Ok (event.Deliver r)))) (number_of-decimal k 2 1 max_u64 h.0 h.1 (omega arith)))
record_reads (event.Lose k) h = (tt, ap (λ (x : Result ℕ RecordFault). some_event (x >>= (λ r. Ok (event.Lose r)))) (number_of-decimal k 2 1 max_u64 h.0 h.1 (omega arith)))
record_reads (event.Settle n) h = absurd h
record_reads (event.Crash r) h = (tt, ap (λ (x : Result ℕ RecordFault). some_event (x >>= (λ r. Ok (event.Crash r)))) (id_reads r 2 h))
record_reads (event.Save r) h = (tt, ap (λ (x : Result ℕ RecordFault). some_event (x >>= (λ r. Ok (event.Save r)))) (id_reads r 2 h))
record_reads (event.Roll r k) h = (tt, ap some_event (and_number event.Roll r k max_u32 h.0 h.1 (omega arith)))
record_reads (event.Join r x) h = (tt, ap some_event (two_reads event.Join r x 1 h.0 (id_reads x 3 h.1)))
record_reads (event.Admit r x) h = (tt, ap some_event (two_reads event.Admit r x 1 h.0 (id_reads x 3 h.1)))
record_reads (event.Remove r x) h = (tt, ap some_event (two_reads event.Remove r x 1 h.0 (id_reads x 3 h.1)))
record_reads (event.Ask r c n bytes) h = (tt, ap some_event (ask_reads r n c bytes h.0 h.1 h.2 h.3 h.4))
record_reads (event.Want c w) h = want_reads c h.0 w h.1
record_reads (event.Say c r) h = (tt, ap some_event (say_reads c r h.0 h.1))
record_reads (event.Hear c a) h = (tt, ap some_event (hear_reads c a h.0 h.1 h.2))
record_reads (event.Margin r m) h = (tt, ap some_event (and_number event.Margin r m 15 h.0 h.1 (omega arith)))
record_reads (event.Again c) h = absurd h
