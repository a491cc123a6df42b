-- A fault of a record is at one of its fields.
use Rattle.std.proofs.Common.{◌≡◌, ℕ, ◌+◌, ◌≤◌, ◌==◌, ◌&&◌, not, Bool, true, false, Option, Some, None, Result, Ok, Err, List, [], ◌∷◌, length, drop, subst, arith}
use Rattle.std.specs.Prelude.{if◌then◌else◌, nat_le, bytes_eq, codes}
use Rattle.std.proofs.lemmas.Bool.{cond_both}
use Rattle.std.proofs.lemmas.List.{length-drop}
use Rattle.hex.specs.Hex.{decode_of}
use Rattle.hex.specs.declared.error.FromHexError.{FromHexError}
use Rattle.group_quorum.specs.Voters.{fault_of}
use Rattle.group_quorum.specs.declared.ConfigFault.{ConfigFault}
use Rattle.values.specs.declared.limits.TheConstants.{MAX_REQUEST}
use Rattle.values.specs.declared.entry.Hash.{Hash}
use Rattle.values.specs.declared.event.Cause.{Cause}
use Rattle.values.specs.declared.event.Cause.TheVariants as cause
use Rattle.values.specs.declared.event.Event.{Event}
use Rattle.values.specs.declared.event.Event.TheVariants as event
use Rattle.values.specs.declared.ids.ClientId.{ClientId}
use Rattle.values.specs.declared.want.Want.TheVariants as want
use Rattle.record_cutting.specs.Lines.{Record}
use Rattle.schedule_model.specs.Reading.{is_number, value_of_digits, RecordFault, fault, ◌>>=◌, field, number_of, bytes_or_fault, replicas_from, max_u32, max_u64}
use Rattle.schedule_model.specs.Records.{Word, event_of, some_event, event_at, word_of, has_fields, is_remark, placed, fields_as, begin_or, cause_of}
use Rattle.schedule_model.specs.Records as word

-- ---- where a fault is
abbrev Low : {A : Type 0} → ℕ → Result A RecordFault → Type 0
Low n (Ok a) = Unit {0}
Low n (Err f) = f.field ≤ n

module _ {A B : Type 0} where
  bind_low : (n : ℕ) (x : Result A RecordFault) (f : A → Result B RecordFault) → Low n x → ((a : A) → Low n (f a)) → Low n (x >>= f)
  bind_low n (Ok a) f h each = each a
  bind_low n (Err y) f h each = h

number_low : (n : ℕ) (text : List ℕ) (k low high : ℕ) → k ≤ n → Low n (number_of text k low high)
number_low n text k low high le =
    cond_both (not (is_number text)) (fault cause.Number k) _ (Low n) (λ b. le)
    (λ b. cond_both (nat_le low (value_of_digits text) && nat_le (value_of_digits text) high) (Ok (value_of_digits text)) (fault cause.Range k) (Low n) (λ b. tt) (λ b. le))

hex_low : (n k : ℕ) (r : Result (List ℕ) FromHexError) → k ≤ n → Low n (bytes_or_fault k r)
hex_low n k (Ok b) le = tt
hex_low n k (Err f) le = le

replicas_low : (n k : ℕ) (texts : Record) → k + length texts ≤ n + 1 → Low n (replicas_from k texts)
replicas_low n k [] le = tt
replicas_low n k (t ∷ texts) le = bind_low n (number_of t k 1 65535) (λ id. replicas_from (k + 1) texts >>= (λ ids. Ok (id ∷ ids))) (number_low n t k 1 65535 (omega (arith, le))) (λ id. bind_low n (replicas_from (k + 1) texts) (λ ids. Ok (id ∷ ids)) (replicas_low n (k + 1) texts (omega (arith, le))) (λ ids. tt))

abbrev client_made : List ℕ → Result ClientId RecordFault
client_made b = Ok (record { 0 = b })

abbrev pin_made : List ℕ → Result Hash RecordFault
pin_made b = Ok (record { 0 = b })

tested_low : {A : Type 0} (n : ℕ) (b : Bool) (a : A) (c : Cause) (k : ℕ) → k ≤ n → Low n (if b then Ok a else fault c k)
tested_low n true a c k le = tt
tested_low n false a c k le = le

module _ (n : ℕ) (fields : Record) (long : length fields + 6 ≤ n) where
  id_low : (k low high : ℕ) → k ≤ 6 → Low n (number_of (field fields k) k low high)
  id_low k low high le = number_low n (field fields k) k low high (omega (arith, long, le))

  sized_low : (k size : ℕ) → k ≤ 6 → Low n (bytes_or_fault k (decode_of (field fields k)) >>= (λ b. if length b == size then Ok b else fault cause.Hex k))
  sized_low k size le = bind_low n (bytes_or_fault k (decode_of (field fields k))) (λ b. if length b == size then Ok b else fault cause.Hex k) (hex_low n k (decode_of (field fields k)) (omega (arith, long, le))) (λ b. tested_low n (length b == size) b cause.Hex k (omega (arith, long, le)))

  client_low : (k : ℕ) → k ≤ 6 → Low n ((bytes_or_fault k (decode_of (field fields k)) >>= (λ b. if length b == 16 then Ok b else fault cause.Hex k)) >>= client_made)
  client_low k le = bind_low n (bytes_or_fault k (decode_of (field fields k)) >>= (λ b. if length b == 16 then Ok b else fault cause.Hex k)) client_made (sized_low k 16 le) (λ b. tt)

  pin_low : (k : ℕ) → k ≤ 6 → Low n ((bytes_or_fault k (decode_of (field fields k)) >>= (λ b. if length b == 32 then Ok b else fault cause.Hex k)) >>= pin_made)
  pin_low k le = bind_low n (bytes_or_fault k (decode_of (field fields k)) >>= (λ b. if length b == 32 then Ok b else fault cause.Hex k)) pin_made (sized_low k 32 le) (λ b. tt)

  request_low : Low n (bytes_or_fault 5 (decode_of (field fields 5)) >>= (λ b. if nat_le (length b) MAX_REQUEST then Ok b else fault cause.Range 5))
  request_low = bind_low n (bytes_or_fault 5 (decode_of (field fields 5))) (λ b. if nat_le (length b) MAX_REQUEST then Ok b else fault cause.Range 5) (hex_low n 5 (decode_of (field fields 5)) (omega (arith, long))) (λ b. tested_low n (nat_le (length b) MAX_REQUEST) b cause.Range 5 (omega (arith, long)))

  begin_low : (o : Option ConfigFault) (margin limit : ℕ) (voters : List ℕ) → Low n (begin_or o margin limit voters)
  begin_low (Some f) margin limit voters = omega arith
  begin_low None margin limit voters = tt

  one_low : (make : ℕ → Event) (low high : ℕ) → Low n (number_of (field fields 2) 2 low high >>= (λ r. Ok (make r)))
  one_low make low high = bind_low n (number_of (field fields 2) 2 low high) (λ r. Ok (make r)) (id_low 2 low high (omega arith)) (λ r. tt)

  two_low : (make : ℕ → ℕ → Event) (low high : ℕ) → Low n (number_of (field fields 2) 2 1 65535 >>= (λ r. number_of (field fields 3) 3 low high >>= (λ i. Ok (make r i))))
  two_low make low high = bind_low n (number_of (field fields 2) 2 1 65535) (λ r. number_of (field fields 3) 3 low high >>= (λ i. Ok (make r i))) (id_low 2 1 65535 (omega arith)) (λ r. bind_low n (number_of (field fields 3) 3 low high) (λ i. Ok (make r i)) (id_low 3 low high (omega arith)) (λ i. tt))

  word_low : (w : Word) → Low n (fields_as w fields)
  word_low word.Begin =
      bind_low n (number_of (field fields 2) 2 0 15) _ (id_low 2 0 15 (omega arith))
      (λ m. bind_low n (number_of (field fields 3) 3 1 20000) (λ l. replicas_from 4 (drop 3 fields) >>= (λ vs. begin_or (fault_of m vs) m l vs)) (id_low 3 1 20000 (omega arith))
      (λ l. bind_low n (replicas_from 4 (drop 3 fields)) (λ vs. begin_or (fault_of m vs) m l vs) (replicas_low n 4 (drop 3 fields) (omega (arith, length-drop 3 fields, long))) (λ vs. begin_low (fault_of m vs) m l vs)))
  word_low word.Start = one_low event.Start 1 65535
  word_low word.Tick = one_low event.Tick 1 65535
  word_low word.Deliver = one_low event.Deliver 1 max_u64
  word_low word.Lose = one_low event.Lose 1 max_u64
  word_low word.Settle = one_low event.Settle 0 1000000
  word_low word.Crash = one_low event.Crash 1 65535
  word_low word.Save = one_low event.Save 1 65535
  word_low word.Roll = two_low event.Roll 0 max_u32
  word_low word.Join = two_low event.Join 1 65535
  word_low word.Admit = two_low event.Admit 1 65535
  word_low word.Remove = two_low event.Remove 1 65535
  word_low word.Margin = two_low event.Margin 0 15
  word_low word.Ask =
      bind_low n (number_of (field fields 2) 2 1 65535) _ (id_low 2 1 65535 (omega arith))
      (λ r. bind_low n _ _ (client_low 3 (omega arith))
      (λ c. bind_low n (number_of (field fields 4) 4 0 max_u64) _ (id_low 4 0 max_u64 (omega arith))
      (λ k. bind_low n _ (λ q. Ok (event.Ask r c k q)) request_low (λ q. tt))))
  word_low word.Store =
      bind_low n _ _ (client_low 2 (omega arith))
      (λ c. bind_low n (bytes_or_fault 4 (decode_of (field fields 4))) _ (hex_low n 4 (decode_of (field fields 4)) (omega (arith, long)))
      (λ s. bind_low n _ _ (pin_low 5 (omega arith))
      (λ p. bind_low n (number_of (field fields 6) 6 0 max_u32) (λ t. Ok (event.Want c (want.Store s p t))) (id_low 6 0 max_u32 (omega arith)) (λ t. tt))))
  word_low word.Recover = bind_low n _ _ (client_low 2 (omega arith)) (λ c. bind_low n _ (λ p. Ok (event.Want c (want.Recover p))) (pin_low 4 (omega arith)) (λ p. tt))
  word_low word.Erase = bind_low n _ (λ c. Ok (event.Want c want.Erase)) (client_low 2 (omega arith)) (λ c. tt)
  word_low word.Say = bind_low n _ _ (client_low 2 (omega arith)) (λ c. bind_low n (number_of (field fields 3) 3 1 65535) (λ r. Ok (event.Say c r)) (id_low 3 1 65535 (omega arith)) (λ r. tt))
  word_low word.Hear = bind_low n _ _ (client_low 2 (omega arith)) (λ c. bind_low n (number_of (field fields 3) 3 1 max_u64) (λ r. Ok (event.Hear c r)) (id_low 3 1 max_u64 (omega arith)) (λ r. tt))
  word_low word.Again = bind_low n _ (λ c. Ok (event.Again c)) (client_low 2 (omega arith)) (λ c. tt)

  placed_low : (begun : Bool) (w : Word) → Low n (placed begun w)
  placed_low false word.Begin = tt
  placed_low false w = omega arith
  placed_low true word.Begin = omega arith
  placed_low true w = tt

  or_low : (c : Cause) (k : ℕ) (o : Option Word) → k ≤ 6 → Low n (word.word_or c k o)
  or_low c k (Some w) le = tt
  or_low c k None le = omega (arith, long, le)

  which_low : Low n (word_of false fields)
  which_low =
      cond_both (bytes_eq (field fields 1) (codes "want")) (if nat_le 3 (length fields) then word.word_or cause.Word 3 (word.meaning (field fields 3) word.want_words) else fault cause.Fields 0) (word.word_or cause.Word 1 (word.meaning (field fields 1) word.first_words)) (Low n)
      (λ b. cond_both (nat_le 3 (length fields)) (word.word_or cause.Word 3 (word.meaning (field fields 3) word.want_words)) (fault cause.Fields 0) (Low n) (λ b. or_low cause.Word 3 (word.meaning (field fields 3) word.want_words) (omega arith)) (λ b. omega arith))
      (λ b. or_low cause.Word 1 (word.meaning (field fields 1) word.first_words) (omega arith))

  at_low : (begun : Bool) → Low n (event_at false begun fields)
  at_low begun =
      bind_low n (word_of false fields) (λ w. (if has_fields w (length fields) then Ok w else fault cause.Fields 0) >>= (λ counted. placed begun counted >>= (λ allowed. fields_as allowed fields))) which_low
      (λ w. bind_low n (if has_fields w (length fields) then Ok w else fault cause.Fields 0) (λ counted. placed begun counted >>= (λ allowed. fields_as allowed fields)) (tested_low n (has_fields w (length fields)) w cause.Fields 0 (omega arith))
      (λ c. bind_low n (placed begun c) (λ allowed. fields_as allowed fields) (placed_low begun c) word_low))

  some_low : (r : Result Event RecordFault) → Low n r → Low n (some_event r)
  some_low (Ok a) h = tt
  some_low (Err f) h = h

  pub read_fault : (begun : Bool) (f : RecordFault) → event_of false begun fields ≡ Err f → f.field ≤ n
  read_fault begun f is = subst (Low n) is (cond_both (is_remark fields) (Ok None) (some_event (event_at false begun fields)) (Low n) (λ b. tt) (λ b. some_low (event_at false begun fields) (at_low begun)))
