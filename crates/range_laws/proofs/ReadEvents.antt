-- What is read of a record is in range.
use Rattle.std.proofs.Common.{◌≡◌, ℕ, ◌+◌, ◌≤◌, ◌==◌, zero, suc, Bool, true, false, Option, Some, None, Result, Ok, Err, List, [], ◌∷◌, length, drop, refl, sym, ap, subst, ◌∙◌, arith}
use Rattle.std.specs.Prelude.{IsTrue, if◌then◌else◌, nat_le, slice_index_or, bytes_eq, codes}
use Rattle.std.specs.List.{AllByRecursion, list_all}
use Rattle.std.proofs.lemmas.Bool.{cond_both, and_from, le-leb, leb-true, eq-eqb, eqb-true}
use Rattle.hex.specs.Hex.{decode_of}
use Rattle.group_quorum.specs.Voters.{fault_of}
use Rattle.group_quorum.specs.declared.ConfigFault.{ConfigFault}
use Rattle.values.specs.declared.limits.TheConstants.{MAX_REQUEST}
use Rattle.values.specs.declared.entry.Hash.{Hash}
use Rattle.values.specs.declared.event.Cause.{Cause}
use Rattle.values.specs.declared.event.Cause.TheVariants as cause
use Rattle.values.specs.declared.event.Event.{Event}
use Rattle.values.specs.declared.event.Event.TheVariants as event
use Rattle.values.specs.declared.ids.ClientId.{ClientId}
use Rattle.values.specs.declared.want.Want.TheVariants as want
use Rattle.record_cutting.specs.Lines.{Record}
use Rattle.schedule_model.specs.Reading.{RecordFault, fault, ◌>>=◌, field, number_of, bytes_or_fault, replicas_from, max_u32, max_u64}
use Rattle.schedule_model.specs.Records.{Word, event_of, some_event, event_at, word_of, has_fields, is_remark, placed, fields_as, begin_or, cause_of}
use Rattle.schedule_model.specs.Records as word
use Rattle.schedule_model.proofs.Reading.{number_of-range, bytes_or_fault-ok}
use Rattle.trace_model.specs.TraceLines.{is_hash, is_client_id, is_byte}
use Rattle.range_laws.proofs.Worlds.{IsShort}
use Rattle.range_laws.proofs.ReadBack.{hex_in_range}
use Rattle.range_laws.specs.Ranges.{IsId, AreIds, EventIn, AreBytes}

-- the begin event comes first, and once
abbrev pub FitsBegun : Bool → Event → Type 0
FitsBegun false (event.Begin margin limit voters) = fault_of margin voters ≡ None
FitsBegun false e = ⊥
FitsBegun true (event.Begin margin limit voters) = ⊥
FitsBegun true e = Unit {0}

-- an event as it is read of a record without a longer field. A settle is played as others
abbrev pub IsReadAs : ℕ → Bool → Event → Type 0
IsReadAs most begun (event.Settle n) = begun ≡ true
IsReadAs most begun e = EventIn e × IsShort most e × FitsBegun begun e

module _ {A B : Type 0} where
  bind_ok : (x : Result A RecordFault) (f : A → Result B RecordFault) (e : B) → (x >>= f) ≡ Ok e → (a : A) × (x ≡ Ok a) × (f a ≡ Ok e)
  bind_ok (Ok a) f e is = (a, refl, is)
  bind_ok (Err y) f e is = absurd (let z : Err y ≡ Ok e = is in cc)

same_value : {A : Type 0} (x : Result A RecordFault) (a b : A) → x ≡ Ok a → x ≡ Ok b → a ≡ b
same_value x a b p q = cc

ends : (P : Event → Type 0) (a e : Event) (x : Result Event RecordFault) → x ≡ Ok a → x ≡ Ok e → P a → P e
ends P a e x p q h = let same : a ≡ e = cc in subst P same h

id_in : (text : List ℕ) (k r : ℕ) → number_of text k 1 65535 ≡ Ok r → IsId r
id_in text k r is = let x = number_of-range text k 1 65535 r is in and_from (nat_le 1 r) (nat_le r 65535) (le-leb 1 r x.0) (le-leb r 65535 x.1)

-- a test that stands before a value
tested : {A : Type 0} (b : Bool) (a x : A) (c : Cause) (k : ℕ) → (if b then Ok a else fault c k) ≡ Ok x → (b ≡ true) × (a ≡ x)
tested true a x c k is = (refl, cc)
tested {A} false a x c k is = absurd (let z : fault {T = A} c k ≡ Ok x = is in cc)

sized_in : (text : List ℕ) (k n : ℕ) (bytes : List ℕ) → (bytes_or_fault k (decode_of text) >>= (λ b. if length b == n then Ok b else fault cause.Hex k)) ≡ Ok bytes → AreBytes bytes × (length bytes ≡ n)
sized_in text k n bytes is =
    let x = bind_ok (bytes_or_fault k (decode_of text)) (λ b. if length b == n then Ok b else fault cause.Hex k) bytes is in
    let t = tested (length x.0 == n) x.0 bytes cause.Hex k x.2 in
    let h = hex_in_range text x.0 (bytes_or_fault-ok k (decode_of text) x.0 x.1) in
    (subst AreBytes t.1 h.0, ap length (sym t.1) ∙ eqb-true (length x.0) n t.0)

client_in : (text : List ℕ) (k : ℕ) (c : ClientId) → ((bytes_or_fault k (decode_of text) >>= (λ b. if length b == 16 then Ok b else fault cause.Hex k)) >>= (λ b. Ok (record { 0 = b }))) ≡ Ok c → IsTrue (is_client_id c)
client_in text k c is =
    let x = bind_ok (bytes_or_fault k (decode_of text) >>= (λ b. if length b == 16 then Ok b else fault cause.Hex k)) (λ b. Ok (record { 0 = b })) c is in
    let s = sized_in text k 16 x.0 x.1 in
    let made : ClientId = record { 0 = x.0 } in
    let same : made ≡ c = same_value (Ok made) made c refl x.2 in
    subst (λ (c : ClientId). IsTrue (is_client_id c)) same (and_from (length x.0 == 16) (list_all is_byte x.0) (eq-eqb (length x.0) 16 s.1) s.0)

pin_in : (text : List ℕ) (k : ℕ) (c : Hash) → ((bytes_or_fault k (decode_of text) >>= (λ b. if length b == 32 then Ok b else fault cause.Hex k)) >>= (λ b. Ok (record { 0 = b }))) ≡ Ok c → IsTrue (is_hash c)
pin_in text k c is =
    let x = bind_ok (bytes_or_fault k (decode_of text) >>= (λ b. if length b == 32 then Ok b else fault cause.Hex k)) (λ b. Ok (record { 0 = b })) c is in
    let s = sized_in text k 32 x.0 x.1 in
    let made : Hash = record { 0 = x.0 } in
    let same : made ≡ c = same_value (Ok made) made c refl x.2 in
    subst (λ (c : Hash). IsTrue (is_hash c)) same (and_from (length x.0 == 32) (list_all is_byte x.0) (eq-eqb (length x.0) 32 s.1) s.0)

field_low : (n : ℕ) (fields : Record) (k : ℕ) → AllByRecursion (λ (f : List ℕ). length f ≤ n) fields → length (slice_index_or fields k []) ≤ n
field_low n [] k h = omega arith
field_low n (f ∷ fields) zero h = h.0
field_low n (f ∷ fields) (suc k) h = field_low n fields k h.1

replicas_in : (k : ℕ) (texts : Record) (ids : List ℕ) → replicas_from k texts ≡ Ok ids → AreIds ids
replicas_in k [] ids is = let none : List ℕ = [] in let same : none ≡ ids = same_value (Ok none) none ids refl is in subst AreIds same tt
replicas_in k (t ∷ texts) ids is =
    let x = bind_ok (number_of t k 1 65535) (λ id. replicas_from (k + 1) texts >>= (λ ids. Ok (id ∷ ids))) ids is in
    let y = bind_ok (replicas_from (k + 1) texts) (λ ids. Ok (x.0 ∷ ids)) ids x.2 in
    let all : List ℕ = x.0 ∷ y.0 in
    let same : all ≡ ids = same_value (Ok all) all ids refl y.2 in
    subst AreIds same (id_in t k x.0 x.1, replicas_in (k + 1) texts y.0 y.1)

module _ (most : ℕ) (fields : Record) (short : AllByRecursion (λ (f : List ℕ). length f ≤ most) fields) (e : Event) where
  abbrev P : Event → Type 0
  P e = IsReadAs most true e

  alone : (make : ℕ → Event) → ((r : ℕ) → IsId r → P (make r)) → word.of_replica make fields ≡ Ok e → P e
  alone make fine is =
      let x = bind_ok (number_of (field fields 2) 2 1 65535) (λ r. Ok (make r)) e is in
      ends P (make x.0) e (Ok (make x.0)) refl x.2 (fine x.0 (id_in (field fields 2) 2 x.0 x.1))

  numbered : (make : ℕ → Event) (low high : ℕ) → ((k : ℕ) → low ≤ k → k ≤ high → P (make k)) → word.of_number make low high fields ≡ Ok e → P e
  numbered make low high fine is =
      let x = bind_ok (number_of (field fields 2) 2 low high) (λ r. Ok (make r)) e is in
      let r = number_of-range (field fields 2) 2 low high x.0 x.1 in
      ends P (make x.0) e (Ok (make x.0)) refl x.2 (fine x.0 r.0 r.1)

  two : (make : ℕ → ℕ → Event) → ((r y : ℕ) → IsId r → IsId y → P (make r y)) → word.of_two make fields ≡ Ok e → P e
  two make fine is =
      let x = bind_ok (number_of (field fields 2) 2 1 65535) (λ r. number_of (field fields 3) 3 1 65535 >>= (λ i. Ok (make r i))) e is in
      let y = bind_ok (number_of (field fields 3) 3 1 65535) (λ i. Ok (make x.0 i)) e x.2 in
      ends P (make x.0 y.0) e (Ok (make x.0 y.0)) refl y.2 (fine x.0 y.0 (id_in (field fields 2) 2 x.0 x.1) (id_in (field fields 3) 3 y.0 y.1))

  with_number : (make : ℕ → ℕ → Event) (high : ℕ) → ((r k : ℕ) → IsId r → k ≤ high → P (make r k)) → word.of_replica_and make high fields ≡ Ok e → P e
  with_number make high fine is =
      let x = bind_ok (number_of (field fields 2) 2 1 65535) (λ r. number_of (field fields 3) 3 0 high >>= (λ i. Ok (make r i))) e is in
      let y = bind_ok (number_of (field fields 3) 3 0 high) (λ i. Ok (make x.0 i)) e x.2 in
      ends P (make x.0 y.0) e (Ok (make x.0 y.0)) refl y.2 (fine x.0 y.0 (id_in (field fields 2) 2 x.0 x.1) (number_of-range (field fields 3) 3 0 high y.0 y.1).1)

  abbrev client_text : ℕ → Result ClientId RecordFault
  client_text k = (bytes_or_fault k (decode_of (field fields k)) >>= (λ b. if length b == 16 then Ok b else fault cause.Hex k)) >>= (λ b. Ok (record { 0 = b }))

  abbrev pin_text : ℕ → Result Hash RecordFault
  pin_text k = (bytes_or_fault k (decode_of (field fields k)) >>= (λ b. if length b == 32 then Ok b else fault cause.Hex k)) >>= (λ b. Ok (record { 0 = b }))

  abbrev request_text : Result (List ℕ) RecordFault
  request_text = bytes_or_fault 5 (decode_of (field fields 5)) >>= (λ b. if nat_le (length b) MAX_REQUEST then Ok b else fault cause.Range 5)

  request_in : (q : List ℕ) → request_text ≡ Ok q → AreBytes q × (length q ≤ 65536)
  request_in q is =
      let x = bind_ok (bytes_or_fault 5 (decode_of (field fields 5))) (λ b. if nat_le (length b) MAX_REQUEST then Ok b else fault cause.Range 5) q is in
      let t = tested (nat_le (length x.0) MAX_REQUEST) x.0 q cause.Range 5 x.2 in
      let h = hex_in_range (field fields 5) x.0 (bytes_or_fault-ok 5 (decode_of (field fields 5)) x.0 x.1) in
      (subst AreBytes t.1 h.0, subst (λ (q : List ℕ). length q ≤ 65536) t.1 (leb-true (length x.0) 65536 t.0))

  asked : word.ask_of fields ≡ Ok e → P e
  asked is =
      let x = bind_ok (number_of (field fields 2) 2 1 65535) (λ r. client_text 3 >>= (λ c. number_of (field fields 4) 4 0 max_u64 >>= (λ n. request_text >>= (λ q. Ok (event.Ask r c n q))))) e is in
      let y = bind_ok (client_text 3) (λ c. number_of (field fields 4) 4 0 max_u64 >>= (λ n. request_text >>= (λ q. Ok (event.Ask x.0 c n q)))) e x.2 in
      let z = bind_ok (number_of (field fields 4) 4 0 max_u64) (λ n. request_text >>= (λ q. Ok (event.Ask x.0 y.0 n q))) e y.2 in
      let w = bind_ok request_text (λ q. Ok (event.Ask x.0 y.0 z.0 q)) e z.2 in
      let q = request_in w.0 w.1 in
      ends P (event.Ask x.0 y.0 z.0 w.0) e (Ok (event.Ask x.0 y.0 z.0 w.0)) refl w.2 ((id_in (field fields 2) 2 x.0 x.1, client_in (field fields 3) 3 y.0 y.1, (number_of-range (field fields 4) 4 0 max_u64 z.0 z.1).1, q.0, q.1), tt, tt)

  stored : word.store_of fields ≡ Ok e → P e
  stored is =
      let x = bind_ok (client_text 2) (λ c. bytes_or_fault 4 (decode_of (field fields 4)) >>= (λ s. pin_text 5 >>= (λ p. number_of (field fields 6) 6 0 max_u32 >>= (λ t. Ok (event.Want c (want.Store s p t)))))) e is in
      let y = bind_ok (bytes_or_fault 4 (decode_of (field fields 4))) (λ s. pin_text 5 >>= (λ p. number_of (field fields 6) 6 0 max_u32 >>= (λ t. Ok (event.Want x.0 (want.Store s p t))))) e x.2 in
      let z = bind_ok (pin_text 5) (λ p. number_of (field fields 6) 6 0 max_u32 >>= (λ t. Ok (event.Want x.0 (want.Store y.0 p t)))) e y.2 in
      let w = bind_ok (number_of (field fields 6) 6 0 max_u32) (λ t. Ok (event.Want x.0 (want.Store y.0 z.0 t))) e z.2 in
      let h = hex_in_range (field fields 4) y.0 (bytes_or_fault-ok 4 (decode_of (field fields 4)) y.0 y.1) in
      ends P (event.Want x.0 (want.Store y.0 z.0 w.0)) e (Ok (event.Want x.0 (want.Store y.0 z.0 w.0))) refl w.2
      ((client_in (field fields 2) 2 x.0 x.1, (h.0, pin_in (field fields 5) 5 z.0 z.1, (number_of-range (field fields 6) 6 0 max_u32 w.0 w.1).1)), omega (arith, h.1, field_low most fields 3 short), tt)

  recovered : word.recover_of fields ≡ Ok e → P e
  recovered is =
      let x = bind_ok (client_text 2) (λ c. pin_text 4 >>= (λ p. Ok (event.Want c (want.Recover p)))) e is in
      let z = bind_ok (pin_text 4) (λ p. Ok (event.Want x.0 (want.Recover p))) e x.2 in
      ends P (event.Want x.0 (want.Recover z.0)) e (Ok (event.Want x.0 (want.Recover z.0))) refl z.2 ((client_in (field fields 2) 2 x.0 x.1, pin_in (field fields 4) 4 z.0 z.1), tt, tt)

  erased : word.erase_of fields ≡ Ok e → P e
  erased is =
      let x = bind_ok (client_text 2) (λ c. Ok (event.Want c want.Erase)) e is in
      ends P (event.Want x.0 want.Erase) e (Ok (event.Want x.0 want.Erase)) refl x.2 ((client_in (field fields 2) 2 x.0 x.1, tt), tt, tt)

  said : word.say_of fields ≡ Ok e → P e
  said is =
      let x = bind_ok (client_text 2) (λ c. number_of (field fields 3) 3 1 65535 >>= (λ r. Ok (event.Say c r))) e is in
      let y = bind_ok (number_of (field fields 3) 3 1 65535) (λ r. Ok (event.Say x.0 r)) e x.2 in
      ends P (event.Say x.0 y.0) e (Ok (event.Say x.0 y.0)) refl y.2 ((client_in (field fields 2) 2 x.0 x.1, id_in (field fields 3) 3 y.0 y.1), tt, tt)

  heard : word.hear_of fields ≡ Ok e → P e
  heard is =
      let x = bind_ok (client_text 2) (λ c. number_of (field fields 3) 3 1 max_u64 >>= (λ r. Ok (event.Hear c r))) e is in
      let y = bind_ok (number_of (field fields 3) 3 1 max_u64) (λ r. Ok (event.Hear x.0 r)) e x.2 in
      let r = number_of-range (field fields 3) 3 1 max_u64 y.0 y.1 in
      ends P (event.Hear x.0 y.0) e (Ok (event.Hear x.0 y.0)) refl y.2 ((client_in (field fields 2) 2 x.0 x.1, r.0, r.1), tt, tt)

  begun_so : (o : Option ConfigFault) (margin limit : ℕ) (voters : List ℕ) → fault_of margin voters ≡ o → begin_or o margin limit voters ≡ Ok e → margin ≤ 15 → 1 ≤ limit → limit ≤ 20000 → AreIds voters → IsReadAs most false e
  begun_so (Some f) margin limit voters fine is a b c d = absurd (let z : fault {T = Event} (cause_of f) 0 ≡ Ok e = is in cc)
  begun_so None margin limit voters fine is a b c d = ends (IsReadAs most false) (event.Begin margin limit voters) e (Ok (event.Begin margin limit voters)) refl is ((a, b, c, d, fine), tt, fine)

  begins : word.begin_of fields ≡ Ok e → IsReadAs most false e
  begins is =
      let x = bind_ok (number_of (field fields 2) 2 0 15) (λ m. number_of (field fields 3) 3 1 20000 >>= (λ l. replicas_from 4 (drop 3 fields) >>= (λ vs. begin_or (fault_of m vs) m l vs))) e is in
      let y = bind_ok (number_of (field fields 3) 3 1 20000) (λ l. replicas_from 4 (drop 3 fields) >>= (λ vs. begin_or (fault_of x.0 vs) x.0 l vs)) e x.2 in
      let z = bind_ok (replicas_from 4 (drop 3 fields)) (λ vs. begin_or (fault_of x.0 vs) x.0 y.0 vs) e y.2 in
      let r = number_of-range (field fields 3) 3 1 20000 y.0 y.1 in
      begun_so (fault_of x.0 z.0) x.0 y.0 z.0 refl z.2 (number_of-range (field fields 2) 2 0 15 x.0 x.1).1 r.0 r.1 (replicas_in 4 (drop 3 fields) z.0 z.1)

  -- any other word, once the group has begun
  abbrev NoBegin : Word → Type 0
  NoBegin word.Begin = ⊥
  NoBegin word.Again = ⊥
  NoBegin w = Unit {0}

  reads_word : (w : Word) → NoBegin w → fields_as w fields ≡ Ok e → P e
  reads_word word.Begin no_begin is = absurd no_begin
  reads_word word.Start no_begin is = alone event.Start (λ r h. (h, tt, tt)) is
  reads_word word.Tick no_begin is = alone event.Tick (λ r h. (h, tt, tt)) is
  reads_word word.Deliver no_begin is = numbered event.Deliver 1 max_u64 (λ k a b. ((a, b), tt, tt)) is
  reads_word word.Lose no_begin is = numbered event.Lose 1 max_u64 (λ k a b. ((a, b), tt, tt)) is
  reads_word word.Settle no_begin is = numbered event.Settle 0 1000000 (λ k a b. refl) is
  reads_word word.Crash no_begin is = alone event.Crash (λ r h. (h, tt, tt)) is
  reads_word word.Save no_begin is = alone event.Save (λ r h. (h, tt, tt)) is
  reads_word word.Roll no_begin is = with_number event.Roll max_u32 (λ r k h le. ((h, le), tt, tt)) is
  reads_word word.Join no_begin is = two event.Join (λ r y a b. ((a, b), tt, tt)) is
  reads_word word.Admit no_begin is = two event.Admit (λ r y a b. ((a, b), tt, tt)) is
  reads_word word.Remove no_begin is = two event.Remove (λ r y a b. ((a, b), tt, tt)) is
  reads_word word.Margin no_begin is = with_number event.Margin 15 (λ r k h le. ((h, le), tt, tt)) is
  reads_word word.Ask no_begin is = asked is
  reads_word word.Store no_begin is = stored is
  reads_word word.Recover no_begin is = recovered is
  reads_word word.Erase no_begin is = erased is
  reads_word word.Say no_begin is = said is
  reads_word word.Hear no_begin is = heard is
  reads_word word.Again no_begin is = absurd no_begin

  abbrev NotAgain : Word → Type 0
  NotAgain word.Again = ⊥
  NotAgain w = Unit {0}

  meant : (text : List ℕ) (ws : List (List ℕ × Word)) → AllByRecursion (λ (x : List ℕ × Word). NotAgain x.1) ws → (c : Cause) (k : ℕ) (w : Word) → word.word_or c k (word.meaning text ws) ≡ Ok w → NotAgain w
  meant text [] h c k w is = absurd (let z : fault {T = Word} c k ≡ Ok w = is in cc)
  meant text (x ∷ ws) h c k w is =
      cond_both (bytes_eq text x.0) (Some x.1) (word.meaning text ws) (λ o. word.word_or c k o ≡ Ok w → NotAgain w)
      (λ b is. subst NotAgain (same_value (Ok x.1) x.1 w refl is) h.0)
      (λ b is. meant text ws h.1 c k w is)
      is

  word_in : (w : Word) → word_of false fields ≡ Ok w → NotAgain w
  word_in w is =
      cond_both (bytes_eq (field fields 1) (codes "want")) (if nat_le 3 (length fields) then word.word_or cause.Word 3 (word.meaning (field fields 3) word.want_words) else fault cause.Fields 0) (word.word_or cause.Word 1 (word.meaning (field fields 1) word.first_words)) (λ r. r ≡ Ok w → NotAgain w)
      (λ b is. cond_both (nat_le 3 (length fields)) (word.word_or cause.Word 3 (word.meaning (field fields 3) word.want_words)) (fault cause.Fields 0) (λ r. r ≡ Ok w → NotAgain w)
      (λ b is. meant (field fields 3) word.want_words (tt, (tt, (tt, tt))) cause.Word 3 w is)
      (λ b is. absurd (let z : fault {T = Word} cause.Fields 0 ≡ Ok w = is in cc))
      is)
      (λ b is. meant (field fields 1) word.first_words (tt, (tt, (tt, (tt, (tt, (tt, (tt, (tt, (tt, (tt, (tt, (tt, (tt, (tt, (tt, (tt, tt)))))))))))))))) cause.Word 1 w is)
      is

  placed_in : (begun : Bool) (c a : Word) → placed begun c ≡ Ok a → NotAgain c → fields_as a fields ≡ Ok e → IsReadAs most begun e
  placed_in false word.Begin a is fresh h = let same : word.Begin ≡ a = same_value (Ok word.Begin) word.Begin a refl is in begins (subst (λ (w : Word). fields_as w fields ≡ Ok e) (sym same) h)
  placed_in false c a is fresh h = absurd (let z : fault {T = Word} cause.NoBegin 0 ≡ Ok a = is in cc)
  placed_in true word.Begin a is fresh h = absurd (let z : fault {T = Word} cause.SecondBegin 0 ≡ Ok a = is in cc)
  placed_in true word.Again a is fresh h = absurd fresh
  placed_in true c a is fresh h = let same : c ≡ a = same_value (Ok c) c a refl is in reads_word c tt (subst (λ (w : Word). fields_as w fields ≡ Ok e) (sym same) h)

  read_at : (begun : Bool) → event_at false begun fields ≡ Ok e → IsReadAs most begun e
  read_at begun is =
      let x = bind_ok (word_of false fields) (λ w. (if has_fields w (length fields) then Ok w else fault cause.Fields 0) >>= (λ counted. placed begun counted >>= (λ allowed. fields_as allowed fields))) e is in
      let y = bind_ok (if has_fields x.0 (length fields) then Ok x.0 else fault cause.Fields 0) (λ counted. placed begun counted >>= (λ allowed. fields_as allowed fields)) e x.2 in
      let t = tested (has_fields x.0 (length fields)) x.0 y.0 cause.Fields 0 y.1 in
      let z = bind_ok (placed begun y.0) (λ allowed. fields_as allowed fields) e y.2 in
      placed_in begun y.0 z.0 z.1 (subst NotAgain t.1 (word_in x.0 x.1)) z.2

  pub read_event : (begun : Bool) → event_of false begun fields ≡ Ok (Some e) → IsReadAs most begun e
  read_event begun is = cond_both (is_remark fields) (Ok None) (some_event (event_at false begun fields)) (λ r. r ≡ Ok (Some e) → IsReadAs most begun e) (λ b is. absurd (let none : Result (Option Event) RecordFault = Ok None in let z : none ≡ Ok (Some e) = is in cc)) (λ b is. read_at begun (of_some (event_at false begun fields) is)) is
    where
      of_some : (r : Result Event RecordFault) → some_event r ≡ Ok (Some e) → r ≡ Ok e
      of_some (Ok a) is = let same : a ≡ e = cc in ap Ok same
      of_some (Err f) is = absurd (let z : some_event (Err f) ≡ Ok (Some e) = is in cc)
