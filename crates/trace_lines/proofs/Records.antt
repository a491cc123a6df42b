-- The record of an event is printed as it was read, but for capitals.
use Rattle.std.proofs.Common.{◌≡◌, ℕ, ◌+◌, ◌≤◌, ◌==◌, not, Bool, true, false, ◌⊎◌, inl, inr, Option, Some, None, Result, Ok, Err, List, [], ◌∷◌, length, map, refl, sym, ap, subst, ◌∙◌, arith}
use Rattle.std.specs.Prelude.{IsTrue, if◌then◌else◌, bytes_eq, codes, decimal, nat_le}
use Rattle.std.specs.List.{AllZip}
use Rattle.std.specs.Result.{result_ok}
use Rattle.std.proofs.lemmas.Bool.{cond-true, and_from, and_parts, eqb-true, leb-true}
use Rattle.std.proofs.lemmas.Option.{none-some, same_Some}
use Rattle.hex.specs.Hex.{decode_of}
use Rattle.group_quorum.specs.Voters.{fault_of}
use Rattle.group_quorum.specs.declared.ConfigFault.{ConfigFault}
use Rattle.group_quorum.specs.declared.TheConstants.{MAX_ID, MAX_MARGIN}
use Rattle.values.specs.declared.limits.TheConstants.{MAX_REQUEST, MAX_SETTLED, MOST_ROWS}
use Rattle.values.specs.declared.entry.Hash.{Hash}
use Rattle.values.specs.declared.event.Cause.{Cause}
use Rattle.values.specs.declared.event.Cause.TheVariants as cause
use Rattle.values.specs.declared.event.Event.{Event}
use Rattle.values.specs.declared.event.Event.TheVariants as event
use Rattle.values.specs.declared.ids.ClientId.{ClientId}
use Rattle.values.specs.declared.want.Want.TheVariants as want
use Rattle.schedule_model.specs.Lines.{Line, hex, record_fields}
use Rattle.schedule_model.specs.Reading.{RecordFault, fault, ◌>>=◌, field, number_of, bytes_or_fault, replicas_from, max_u32, max_u64}
use Rattle.schedule_model.specs.Records.{Word, begin_or, event_at, event_of, fields_as, first_words, has_fields, is_remark, meaning, placed, some_event, want_words, word_of, word_or}
use Rattle.schedule_model.specs.Records as word
use Rattle.schedule_model.proofs.Reading.{bytes_or_fault-ok}
use Rattle.trace_model.specs.TraceLines.{IsNoSettle, IsRecord, is_begin}
use Rattle.trace_lines.specs.Fields.{are_lower, is_lower}
use Rattle.trace_lines.specs.Lines.{begins, event_told, record_in}
use Rattle.trace_lines.proofs.Hexes.{hex_low, hex_printed}
use Rattle.trace_lines.proofs.Numbers.{number_printed}
use Rattle.trace_lines.proofs.Steps.{Each, chosen, meant_of, same_bytes}

-- ---- steps
record Begun {A B : Type 0} (r : Result A RecordFault) (f : A → Result B RecordFault) (y : B) : Type 0 where
  value : A
  first : r ≡ Ok value
  rest : f value ≡ Ok y

begun : {A B : Type 0} (r : Result A RecordFault) (f : A → Result B RecordFault) (y : B) → (r >>= f) ≡ Ok y → Begun r f y
begun (Ok x) f y is = record { value = x; first = refl; rest = is }
begun (Err e) f y is = cc is

abbrev okay : {A : Type 0} → A → Result A RecordFault
okay x = Ok x

same_ok : {A : Type 0} (x y : A) → okay x ≡ Ok y → x ≡ y
same_ok x y is = same_Some x y (ap result_ok is)

if_ok : {A : Type 0} (b : Bool) (x y : A) (c : Cause) (k : ℕ) → (if b then Ok x else fault c k) ≡ Ok y → IsTrue b × (x ≡ y)
if_ok true x y c k is = (refl, same_ok x y is)
if_ok false x y c k is = cc is

-- ---- a text, and how what was read of it is printed
abbrev pub Prints : List ℕ → List ℕ → Type 0
Prints text printed = ((text ≡ printed) × IsTrue (is_lower text)) ⊎ ((bytes : List ℕ) × (decode_of text ≡ Ok bytes) × (printed ≡ hex bytes))

word_prints : (text printed : List ℕ) → text ≡ printed → IsTrue (is_lower printed) → Prints text printed
word_prints text printed is low = inl (is, subst (λ t. IsTrue (is_lower t)) (sym is) low)

number_prints : (text : List ℕ) (k low high n : ℕ) → high ≤ max_u64 → number_of text k low high ≡ Ok n → Prints text (decimal n)
number_prints text k low high n top is = let p = number_printed text k low high n top is in inl (p.same, p.lower)

bytes_print : (text : List ℕ) (k : ℕ) (bytes : List ℕ) → bytes_or_fault k (decode_of text) ≡ Ok bytes → Prints text (hex bytes)
bytes_print text k bytes is = inr (bytes, bytes_or_fault-ok k (decode_of text) bytes is, refl)

tested_print : (text : List ℕ) (k : ℕ) (test : List ℕ → Bool) (c : Cause) (bytes : List ℕ)
    → (bytes_or_fault k (decode_of text) >>= λ b. if test b then Ok b else fault c k) ≡ Ok bytes → Prints text (hex bytes)
tested_print text k test c bytes is =
    let b = begun (bytes_or_fault k (decode_of text)) (λ b. if test b then Ok b else fault c k) bytes is in
    let t = if_ok (test b.value) b.value bytes c k b.rest in
    subst (λ x. Prints text (hex x)) t.1 (bytes_print text k b.value b.first)

abbrev client_read : List ℕ → ℕ → Result ClientId RecordFault
client_read text k = (bytes_or_fault k (decode_of text) >>= (λ b. if length b == 16 then Ok b else fault cause.Hex k)) >>= (λ b. Ok (record { 0 = b }))

abbrev pin_read : List ℕ → ℕ → Result Hash RecordFault
pin_read text k = (bytes_or_fault k (decode_of text) >>= (λ b. if length b == 32 then Ok b else fault cause.Hex k)) >>= (λ b. Ok (record { 0 = b }))

client_prints : (text : List ℕ) (k : ℕ) (c : ClientId)
    → client_read text k ≡ Ok c → Prints text (hex c.0)
client_prints text k c is =
    let b = begun (bytes_or_fault k (decode_of text) >>= λ b. if length b == 16 then Ok b else fault cause.Hex k) (λ b. Ok (record { 0 = b })) c is in
    subst (λ (x : ClientId). Prints text (hex x.0)) (same_ok (record { 0 = b.value }) c b.rest) (tested_print text k (λ b. length b == 16) cause.Hex b.value b.first)

pin_prints : (text : List ℕ) (k : ℕ) (c : Hash)
    → pin_read text k ≡ Ok c → Prints text (hex c.0)
pin_prints text k c is =
    let b = begun (bytes_or_fault k (decode_of text) >>= λ b. if length b == 32 then Ok b else fault cause.Hex k) (λ b. Ok (record { 0 = b })) c is in
    subst (λ (x : Hash). Prints text (hex x.0)) (same_ok (record { 0 = b.value }) c b.rest) (tested_print text k (λ b. length b == 32) cause.Hex b.value b.first)

ids_print : (k : ℕ) (texts : Line) (ids : List ℕ) → replicas_from k texts ≡ Ok ids → AllZip Prints texts (map decimal ids)
ids_print k [] ids is = subst (λ x. AllZip Prints [] (map decimal x)) (same_ok [] ids is) tt
ids_print k (text ∷ texts) ids is =
    let a = begun (number_of text k 1 MAX_ID) _ ids is in
    let b = begun (replicas_from (k + 1) texts) _ ids a.rest in
    subst (λ x. AllZip Prints (text ∷ texts) (map decimal x)) (same_ok (a.value ∷ b.value) ids b.rest)
    (number_prints text k 1 MAX_ID a.value (omega arith) a.first, ids_print (k + 1) texts b.value b.first)

-- ---- records of so many fields
module _ (P : Line → Type 0) where
  two : ((a b : List ℕ) → P (a ∷ b ∷ [])) → (fields : Line) → length fields ≡ 2 → P fields
  two f [] n = absurd (omega (arith, n))
  two f (a ∷ []) n = absurd (omega (arith, n))
  two f (a ∷ b ∷ []) n = f a b
  two f (a ∷ b ∷ c ∷ more) n = absurd (omega (arith, n))

  three : ((a b c : List ℕ) → P (a ∷ b ∷ c ∷ [])) → (fields : Line) → length fields ≡ 3 → P fields
  three f [] n = absurd (omega (arith, n))
  three f (a ∷ []) n = absurd (omega (arith, n))
  three f (a ∷ b ∷ []) n = absurd (omega (arith, n))
  three f (a ∷ b ∷ c ∷ []) n = f a b c
  three f (a ∷ b ∷ c ∷ d ∷ more) n = absurd (omega (arith, n))

  four : ((a b c d : List ℕ) → P (a ∷ b ∷ c ∷ d ∷ [])) → (fields : Line) → length fields ≡ 4 → P fields
  four f [] n = absurd (omega (arith, n))
  four f (a ∷ []) n = absurd (omega (arith, n))
  four f (a ∷ b ∷ []) n = absurd (omega (arith, n))
  four f (a ∷ b ∷ c ∷ []) n = absurd (omega (arith, n))
  four f (a ∷ b ∷ c ∷ d ∷ []) n = f a b c d
  four f (a ∷ b ∷ c ∷ d ∷ e ∷ more) n = absurd (omega (arith, n))

  five : ((a b c d e : List ℕ) → P (a ∷ b ∷ c ∷ d ∷ e ∷ [])) → (fields : Line) → length fields ≡ 5 → P fields
  five f [] n = absurd (omega (arith, n))
  five f (a ∷ []) n = absurd (omega (arith, n))
  five f (a ∷ b ∷ []) n = absurd (omega (arith, n))
  five f (a ∷ b ∷ c ∷ []) n = absurd (omega (arith, n))
  five f (a ∷ b ∷ c ∷ d ∷ []) n = absurd (omega (arith, n))
  five f (a ∷ b ∷ c ∷ d ∷ e ∷ []) n = f a b c d e
  five f (a ∷ b ∷ c ∷ d ∷ e ∷ g ∷ more) n = absurd (omega (arith, n))

  six : ((a b c d e g : List ℕ) → P (a ∷ b ∷ c ∷ d ∷ e ∷ g ∷ [])) → (fields : Line) → length fields ≡ 6 → P fields
  six f [] n = absurd (omega (arith, n))
  six f (a ∷ []) n = absurd (omega (arith, n))
  six f (a ∷ b ∷ []) n = absurd (omega (arith, n))
  six f (a ∷ b ∷ c ∷ []) n = absurd (omega (arith, n))
  six f (a ∷ b ∷ c ∷ d ∷ []) n = absurd (omega (arith, n))
  six f (a ∷ b ∷ c ∷ d ∷ e ∷ []) n = absurd (omega (arith, n))
  six f (a ∷ b ∷ c ∷ d ∷ e ∷ g ∷ []) n = f a b c d e g
  six f (a ∷ b ∷ c ∷ d ∷ e ∷ g ∷ h ∷ more) n = absurd (omega (arith, n))

-- ---- what a record of a word prints
abbrev Told : Word → Line → Type 0
Told w fields = (e : Event) → fields_as w fields ≡ Ok e → AllZip Prints fields (record_fields e)

-- by its first field
abbrev First : List ℕ → Word → Type 0
First text w = (fields : Line) → field fields 1 ≡ text → IsTrue (has_fields w (length fields)) → Told w fields

-- a word and a number
module _ (text : List ℕ) (low_text : IsTrue (is_lower text)) (make : ℕ → Event) (printed : (n : ℕ) → record_fields (make n) ≡ text ∷ decimal n ∷ []) (low high : ℕ) (top : high ≤ max_u64) where
  abbrev OneToldGoal : Line → Type 0
  OneToldGoal fields = field fields 1 ≡ text → (e : Event) → (number_of (field fields 2) 2 low high >>= λ n. Ok (make n)) ≡ Ok e → AllZip Prints fields (record_fields e)

  one_told_each : (a b : List ℕ) → OneToldGoal (a ∷ b ∷ [])
  one_told_each a b is e told =
      let n = begun (number_of b 2 low high) (λ n. Ok (make n)) e told in
      subst (λ x. AllZip Prints (a ∷ b ∷ []) (record_fields x)) (same_ok (make n.value) e n.rest)
      (subst (AllZip Prints (a ∷ b ∷ [])) (sym (printed n.value)) (word_prints a text is low_text, (number_prints b 2 low high n.value top n.first, tt)))

  one_told : (fields : Line) → field fields 1 ≡ text → IsTrue (length fields == 2)
      → (e : Event) → (number_of (field fields 2) 2 low high >>= λ n. Ok (make n)) ≡ Ok e → AllZip Prints fields (record_fields e)
  one_told fields is size = two OneToldGoal one_told_each fields (eqb-true (length fields) 2 size) is

-- a word and two numbers, the first a replica's
module _ (text : List ℕ) (low_text : IsTrue (is_lower text)) (make : ℕ → ℕ → Event) (printed : (m n : ℕ) → record_fields (make m n) ≡ text ∷ decimal m ∷ decimal n ∷ []) (low high : ℕ) (top : high ≤ max_u64) where
  abbrev PairToldGoal : Line → Type 0
  PairToldGoal fields = field fields 1 ≡ text → (e : Event) → (number_of (field fields 2) 2 1 MAX_ID >>= λ m. number_of (field fields 3) 3 low high >>= λ n. Ok (make m n)) ≡ Ok e → AllZip Prints fields (record_fields e)

  pair_told_each : (a b c : List ℕ) → PairToldGoal (a ∷ b ∷ c ∷ [])
  pair_told_each a b c is e told =
      let m = begun (number_of b 2 1 MAX_ID) (λ m. number_of c 3 low high >>= λ n. Ok (make m n)) e told in
      let n = begun (number_of c 3 low high) (λ n. Ok (make m.value n)) e m.rest in
      subst (λ x. AllZip Prints (a ∷ b ∷ c ∷ []) (record_fields x)) (same_ok (make m.value n.value) e n.rest)
      (subst (AllZip Prints (a ∷ b ∷ c ∷ [])) (sym (printed m.value n.value))
      (word_prints a text is low_text, (number_prints b 2 1 MAX_ID m.value (omega arith) m.first, (number_prints c 3 low high n.value top n.first, tt))))

  pair_told : (fields : Line) → field fields 1 ≡ text → IsTrue (length fields == 3)
      → (e : Event) → (number_of (field fields 2) 2 1 MAX_ID >>= λ m. number_of (field fields 3) 3 low high >>= λ n. Ok (make m n)) ≡ Ok e → AllZip Prints fields (record_fields e)
  pair_told fields is size = three PairToldGoal pair_told_each fields (eqb-true (length fields) 3 size) is

begin_told : First (codes "begin") word.Begin
begin_told (a ∷ m ∷ l ∷ vs) is size e told =
    let x = begun (number_of m 2 0 MAX_MARGIN) _ e told in
    let y = begun (number_of l 3 1 MOST_ROWS) _ e x.rest in
    let z = begun (replicas_from 4 vs) _ e y.rest in
    subst (λ e. AllZip Prints (a ∷ m ∷ l ∷ vs) (record_fields e)) (made (fault_of x.value z.value) z.rest)
    (word_prints a (codes "begin") is refl, (number_prints m 2 0 MAX_MARGIN x.value (omega arith) x.first, (number_prints l 3 1 MOST_ROWS y.value (omega arith) y.first, ids_print 4 vs z.value z.first)))
  where
    made : {margin limit : ℕ} {voters : List ℕ} (o : Option ConfigFault) → begin_or o margin limit voters ≡ Ok e → event.Begin margin limit voters ≡ e
    made {margin} {limit} {voters} None is = same_ok (event.Begin margin limit voters) e is
    made (Some f) is = cc is
begin_told [] is size e told = absurd (omega (arith, leb-true 4 0 size))
begin_told (a ∷ []) is size e told = absurd (omega (arith, leb-true 4 1 size))
begin_told (a ∷ b ∷ []) is size e told = absurd (omega (arith, leb-true 4 2 size))

abbrev AskToldGoal : Line → Type 0
AskToldGoal fields = field fields 1 ≡ codes "ask" → Told word.Ask fields

ask_told_each : (a b c d q : List ℕ) → AskToldGoal (a ∷ b ∷ c ∷ d ∷ q ∷ [])
ask_told_each a b c d q is e told =
    let r = begun (number_of b 2 1 MAX_ID) _ e told in
    let i = begun (client_read c 3) _ e r.rest in
    let n = begun (number_of d 4 0 max_u64) _ e i.rest in
    let x = begun (bytes_or_fault 5 (decode_of q) >>= λ b. if nat_le (length b) MAX_REQUEST then Ok b else fault cause.Range 5) _ e n.rest in
    subst (λ e. AllZip Prints (a ∷ b ∷ c ∷ d ∷ q ∷ []) (record_fields e)) (same_ok (event.Ask r.value i.value n.value x.value) e x.rest)
    (word_prints a (codes "ask") is refl, (number_prints b 2 1 MAX_ID r.value (omega arith) r.first, (client_prints c 3 i.value i.first, (number_prints d 4 0 max_u64 n.value (omega arith) n.first, (tested_print q 5 (λ b. nat_le (length b) MAX_REQUEST) cause.Range x.value x.first, tt)))))

ask_told : First (codes "ask") word.Ask
ask_told fields is size = five AskToldGoal ask_told_each fields (eqb-true (length fields) 5 size) is

-- a word, a client and a number
module _ (text : List ℕ) (low_text : IsTrue (is_lower text)) (make : ClientId → ℕ → Event) (printed : (c : ClientId) (n : ℕ) → record_fields (make c n) ≡ text ∷ hex c.0 ∷ decimal n ∷ []) (low high : ℕ) (top : high ≤ max_u64) where
  abbrev ToldToGoal : Line → Type 0
  ToldToGoal fields = field fields 1 ≡ text → (e : Event) → (client_read (field fields 2) 2 >>= λ c. number_of (field fields 3) 3 low high >>= λ n. Ok (make c n)) ≡ Ok e → AllZip Prints fields (record_fields e)

  told_to_each : (a b c : List ℕ) → ToldToGoal (a ∷ b ∷ c ∷ [])
  told_to_each a b c is e told =
      let m = begun (client_read b 2) (λ m. number_of c 3 low high >>= λ n. Ok (make m n)) e told in
      let n = begun (number_of c 3 low high) (λ n. Ok (make m.value n)) e m.rest in
      subst (λ x. AllZip Prints (a ∷ b ∷ c ∷ []) (record_fields x)) (same_ok (make m.value n.value) e n.rest)
      (subst (AllZip Prints (a ∷ b ∷ c ∷ [])) (sym (printed m.value n.value))
      (word_prints a text is low_text, (client_prints b 2 m.value m.first, (number_prints c 3 low high n.value top n.first, tt))))

  told_to : (fields : Line) → field fields 1 ≡ text → IsTrue (length fields == 3)
      → (e : Event) → (client_read (field fields 2) 2 >>= λ c. number_of (field fields 3) 3 low high >>= λ n. Ok (make c n)) ≡ Ok e → AllZip Prints fields (record_fields e)
  told_to fields is size = three ToldToGoal told_to_each fields (eqb-true (length fields) 3 size) is

-- ---- wants, by their third field
abbrev Third : List ℕ → Word → Type 0
Third text w = (fields : Line) → field fields 1 ≡ codes "want" → field fields 3 ≡ text → IsTrue (has_fields w (length fields)) → Told w fields

abbrev StoreToldGoal : Line → Type 0
StoreToldGoal fields = field fields 1 ≡ codes "want" → field fields 3 ≡ codes "store" → Told word.Store fields

store_told_each : (a b c d p t : List ℕ) → StoreToldGoal (a ∷ b ∷ c ∷ d ∷ p ∷ t ∷ [])
store_told_each a b c d p t is what e told =
    let i = begun (client_read b 2) _ e told in
    let s = begun (bytes_or_fault 4 (decode_of d)) _ e i.rest in
    let x = begun (pin_read p 5) _ e s.rest in
    let n = begun (number_of t 6 0 max_u32) _ e x.rest in
    subst (λ e. AllZip Prints (a ∷ b ∷ c ∷ d ∷ p ∷ t ∷ []) (record_fields e)) (same_ok (event.Want i.value (want.Store s.value x.value n.value)) e n.rest)
    (word_prints a (codes "want") is refl, (client_prints b 2 i.value i.first, (word_prints c (codes "store") what refl, (bytes_print d 4 s.value s.first, (pin_prints p 5 x.value x.first, (number_prints t 6 0 max_u32 n.value (omega arith) n.first, tt))))))

store_told : Third (codes "store") word.Store
store_told fields is what size = six StoreToldGoal store_told_each fields (eqb-true (length fields) 6 size) is what

abbrev RecoverToldGoal : Line → Type 0
RecoverToldGoal fields = field fields 1 ≡ codes "want" → field fields 3 ≡ codes "recover" → Told word.Recover fields

recover_told_each : (a b c p : List ℕ) → RecoverToldGoal (a ∷ b ∷ c ∷ p ∷ [])
recover_told_each a b c p is what e told =
    let i = begun (client_read b 2) _ e told in
    let x = begun (pin_read p 4) _ e i.rest in
    subst (λ e. AllZip Prints (a ∷ b ∷ c ∷ p ∷ []) (record_fields e)) (same_ok (event.Want i.value (want.Recover x.value)) e x.rest)
    (word_prints a (codes "want") is refl, (client_prints b 2 i.value i.first, (word_prints c (codes "recover") what refl, (pin_prints p 4 x.value x.first, tt))))

recover_told : Third (codes "recover") word.Recover
recover_told fields is what size = four RecoverToldGoal recover_told_each fields (eqb-true (length fields) 4 size) is what

abbrev EraseToldGoal : Line → Type 0
EraseToldGoal fields = field fields 1 ≡ codes "want" → field fields 3 ≡ codes "delete" → Told word.Erase fields

erase_told_each : (a b c : List ℕ) → EraseToldGoal (a ∷ b ∷ c ∷ [])
erase_told_each a b c is what e told =
    let i = begun (client_read b 2) _ e told in
    subst (λ e. AllZip Prints (a ∷ b ∷ c ∷ []) (record_fields e)) (same_ok (event.Want i.value want.Erase) e i.rest)
    (word_prints a (codes "want") is refl, (client_prints b 2 i.value i.first, (word_prints c (codes "delete") what refl, tt)))

erase_told : Third (codes "delete") word.Erase
erase_told fields is what size = three EraseToldGoal erase_told_each fields (eqb-true (length fields) 3 size) is what

-- ---- any record
first_told : Each First first_words
first_told = (
  begin_told,
  (
    one_told (codes "start") refl event.Start (λ n. refl) 1 MAX_ID (omega arith),
    (
      one_told (codes "tick") refl event.Tick (λ n. refl) 1 MAX_ID (omega arith),
      (
        one_told (codes "deliver") refl event.Deliver (λ n. refl) 1 max_u64 (omega arith),
        (
          one_told (codes "lose") refl event.Lose (λ n. refl) 1 max_u64 (omega arith),
          (
            one_told (codes "settle") refl event.Settle (λ n. refl) 0 MAX_SETTLED (omega arith),
            (
              one_told (codes "crash") refl event.Crash (λ n. refl) 1 MAX_ID (omega arith),
              (
                one_told (codes "save") refl event.Save (λ n. refl) 1 MAX_ID (omega arith),
                (
                  pair_told (codes "roll") refl event.Roll (λ m n. refl) 0 max_u32 (omega arith),
                  (
                    pair_told (codes "join") refl event.Join (λ m n. refl) 1 MAX_ID (omega arith),
                    (
                      pair_told (codes "admit") refl event.Admit (λ m n. refl) 1 MAX_ID (omega arith),
                      (
                        pair_told (codes "remove") refl event.Remove (λ m n. refl) 1 MAX_ID (omega arith),
                        (
                          pair_told (codes "margin") refl event.Margin (λ m n. refl) 0 MAX_MARGIN (omega arith),
                          (
                            ask_told,
                            (
                              told_to (codes "say") refl event.Say (λ c n. refl) 1 MAX_ID (omega arith),
                              (
                                told_to (codes "hear") refl event.Hear (λ c n. refl) 1 max_u64 (omega arith),
                                tt,
                              ),
                            ),
                          ),
                        ),
                      ),
                    ),
                  ),
                ),
              ),
            ),
          ),
        ),
      ),
    ),
  ),
)

third_told : Each Third want_words
third_told = (
  store_told,
  (
    recover_told,
    (
      erase_told,
      tt,
    ),
  ),
)

or_word : (c : Cause) (k : ℕ) (o : Option Word) (w : Word) → word_or c k o ≡ Ok w → o ≡ Some w
or_word c k (Some v) w is = ap Some (same_ok v w is)
or_word c k None w is = cc is

named : (fields : Line) (w : Word) → word_of false fields ≡ Ok w → IsTrue (has_fields w (length fields)) → Told w fields
named fields w is size = by_want (bytes_eq (field fields 1) (codes "want")) refl is
  where
    by_size : (b : Bool) → bytes_eq (field fields 1) (codes "want") ≡ true → (if b then word_or cause.Word 3 (meaning (field fields 3) want_words) else fault cause.Fields 0) ≡ Ok w → Told w fields
    by_size true first is = meant_of Third want_words third_told (field fields 3) w (or_word cause.Word 3 (meaning (field fields 3) want_words) w is) fields (same_bytes (field fields 1) (codes "want") first) refl size
    by_size false first is = cc is

    by_want : (b : Bool) → bytes_eq (field fields 1) (codes "want") ≡ b
        → (if b then (if nat_le 3 (length fields) then word_or cause.Word 3 (meaning (field fields 3) want_words) else fault cause.Fields 0) else word_or cause.Word 1 (meaning (field fields 1) first_words)) ≡ Ok w → Told w fields
    by_want true first is = by_size (nat_le 3 (length fields)) first is
    by_want false first is = meant_of First first_words first_told (field fields 1) w (or_word cause.Word 1 (meaning (field fields 1) first_words) w is) fields refl size

placed_same : (b : Bool) (w a : Word) → placed b w ≡ Ok a → w ≡ a
placed_same false word.Begin a is = same_ok word.Begin a is
placed_same true word.Begin a is = cc is
placed_same false word.Start a is = cc is
placed_same true word.Start a is = same_ok word.Start a is
placed_same false word.Tick a is = cc is
placed_same true word.Tick a is = same_ok word.Tick a is
placed_same false word.Deliver a is = cc is
placed_same true word.Deliver a is = same_ok word.Deliver a is
placed_same false word.Lose a is = cc is
placed_same true word.Lose a is = same_ok word.Lose a is
placed_same false word.Settle a is = cc is
placed_same true word.Settle a is = same_ok word.Settle a is
placed_same false word.Crash a is = cc is
placed_same true word.Crash a is = same_ok word.Crash a is
placed_same false word.Save a is = cc is
placed_same true word.Save a is = same_ok word.Save a is
placed_same false word.Roll a is = cc is
placed_same true word.Roll a is = same_ok word.Roll a is
placed_same false word.Join a is = cc is
placed_same true word.Join a is = same_ok word.Join a is
placed_same false word.Admit a is = cc is
placed_same true word.Admit a is = same_ok word.Admit a is
placed_same false word.Remove a is = cc is
placed_same true word.Remove a is = same_ok word.Remove a is
placed_same false word.Margin a is = cc is
placed_same true word.Margin a is = same_ok word.Margin a is
placed_same false word.Ask a is = cc is
placed_same true word.Ask a is = same_ok word.Ask a is
placed_same false word.Store a is = cc is
placed_same true word.Store a is = same_ok word.Store a is
placed_same false word.Recover a is = cc is
placed_same true word.Recover a is = same_ok word.Recover a is
placed_same false word.Erase a is = cc is
placed_same true word.Erase a is = same_ok word.Erase a is
placed_same false word.Say a is = cc is
placed_same true word.Say a is = same_ok word.Say a is
placed_same false word.Hear a is = cc is
placed_same true word.Hear a is = same_ok word.Hear a is
placed_same false word.Again a is = cc is
placed_same true word.Again a is = same_ok word.Again a is

pub event_prints : (b : Bool) (fields : Line) (e : Event) → event_of false b fields ≡ Ok (Some e) → AllZip Prints fields (record_fields e)
event_prints b fields e is = by_remark (is_remark fields) is
  where
    at_word : event_at false b fields ≡ Ok e → AllZip Prints fields (record_fields e)
    at_word is =
        let w = begun (word_of false fields) _ e is in
        let c = begun (if has_fields w.value (length fields) then Ok w.value else fault cause.Fields 0) _ e w.rest in
        let p = begun (placed b c.value) _ e c.rest in
        let size = if_ok (has_fields w.value (length fields)) w.value c.value cause.Fields 0 c.first in
        let same : p.value ≡ w.value = sym (size.1 ∙ placed_same b c.value p.value p.first) in
        named fields w.value w.first size.0 e (ap (λ v. fields_as v fields) (sym same) ∙ p.rest)

    of_some : (r : Result Event RecordFault) → some_event r ≡ Ok (Some e) → r ≡ Ok e
    of_some (Ok x) is = ap Ok (same_Some x e (same_ok (Some x) (Some e) is))
    of_some (Err f) is = cc is

    by_remark : (t : Bool) → (if t then Ok None else some_event (event_at false b fields)) ≡ Ok (Some e) → AllZip Prints fields (record_fields e)
    by_remark true is = cc is
    by_remark false is = at_word (of_some (event_at false b fields) is)

-- ---- without capitals
same_text : (text printed : List ℕ) → Prints text printed → IsTrue (is_lower text) → text ≡ printed
same_text text printed (inl p) low = p.0
same_text text printed (inr p) low = (hex_printed text p.0 p.1 low).same ∙ sym p.2

lower_same : (fields printed : Line) → AllZip Prints fields printed → IsTrue (are_lower fields) → fields ≡ printed
lower_same [] [] h low = refl
lower_same [] (y ∷ ys) h low = absurd h
lower_same (x ∷ xs) [] h low = absurd h
lower_same (x ∷ xs) (y ∷ ys) h low =
    let p = and_parts (is_lower x) (are_lower xs) low in
    ap (λ z. z ∷ xs) (same_text x y h.0 p.0) ∙ ap (λ zs. y ∷ zs) (lower_same xs ys h.1 p.1)

own_text : (text : List ℕ) → Prints text text → IsTrue (is_lower text)
own_text text (inl p) = p.1
own_text text (inr p) = subst (λ t. IsTrue (is_lower t)) (sym p.2) (hex_low p.0)

own_lower : (fields : Line) → AllZip Prints fields fields → IsTrue (are_lower fields)
own_lower [] h = refl
own_lower (x ∷ xs) h = and_from (is_lower x) (are_lower xs) (own_text x h.0) (own_lower xs h.1)

begins_is : (e : Event) → begins (record_fields e) ≡ is_begin e
begins_is (event.Begin margin limit voters) = refl
begins_is (event.Start r) = refl
begins_is (event.Tick r) = refl
begins_is (event.Deliver k) = refl
begins_is (event.Lose k) = refl
begins_is (event.Settle n) = refl
begins_is (event.Crash r) = refl
begins_is (event.Save r) = refl
begins_is (event.Roll r k) = refl
begins_is (event.Join r x) = refl
begins_is (event.Admit r x) = refl
begins_is (event.Remove r x) = refl
begins_is (event.Ask r c n q) = refl
begins_is (event.Want c w) = refl
begins_is (event.Say c r) = refl
begins_is (event.Hear c a) = refl
begins_is (event.Margin r m) = refl
begins_is (event.Again c) = refl

told_is : (x e : Event) → event_told (Ok (Some x)) ≡ Some e → (x ≡ e) × IsNoSettle x
told_is (event.Begin margin limit voters) e is = (same_Some (event.Begin margin limit voters) e is, tt)
told_is (event.Start r) e is = (same_Some (event.Start r) e is, tt)
told_is (event.Tick r) e is = (same_Some (event.Tick r) e is, tt)
told_is (event.Deliver k) e is = (same_Some (event.Deliver k) e is, tt)
told_is (event.Lose k) e is = (same_Some (event.Lose k) e is, tt)
told_is (event.Settle n) e is = absurd (none-some e is)
told_is (event.Crash r) e is = (same_Some (event.Crash r) e is, tt)
told_is (event.Save r) e is = (same_Some (event.Save r) e is, tt)
told_is (event.Roll r k) e is = (same_Some (event.Roll r k) e is, tt)
told_is (event.Join r x) e is = (same_Some (event.Join r x) e is, tt)
told_is (event.Admit r x) e is = (same_Some (event.Admit r x) e is, tt)
told_is (event.Remove r x) e is = (same_Some (event.Remove r x) e is, tt)
told_is (event.Ask r c n q) e is = (same_Some (event.Ask r c n q) e is, tt)
told_is (event.Want c w) e is = (same_Some (event.Want c w) e is, tt)
told_is (event.Say c r) e is = (same_Some (event.Say c r) e is, tt)
told_is (event.Hear c a) e is = (same_Some (event.Hear c a) e is, tt)
told_is (event.Margin r m) e is = (same_Some (event.Margin r m) e is, tt)
told_is (event.Again c) e is = (same_Some (event.Again c) e is, tt)

told_again : (e : Event) → IsNoSettle e → event_told (Ok (Some e)) ≡ Some e
told_again (event.Begin margin limit voters) h = refl
told_again (event.Start r) h = refl
told_again (event.Tick r) h = refl
told_again (event.Deliver k) h = refl
told_again (event.Lose k) h = refl
told_again (event.Settle n) h = absurd h
told_again (event.Crash r) h = refl
told_again (event.Save r) h = refl
told_again (event.Roll r k) h = refl
told_again (event.Join r x) h = refl
told_again (event.Admit r x) h = refl
told_again (event.Remove r x) h = refl
told_again (event.Ask r c n q) h = refl
told_again (event.Want c w) h = refl
told_again (event.Say c r) h = refl
told_again (event.Hear c a) h = refl
told_again (event.Margin r m) h = refl
told_again (event.Again c) h = refl

told_from : (r : Result (Option Event) RecordFault) (e : Event) → event_told r ≡ Some e → (r ≡ Ok (Some e)) × IsNoSettle e
told_from (Ok (Some x)) e is = let t = told_is x e is in (ap (λ y. Ok (Some y)) t.0, subst IsNoSettle t.0 t.1)
told_from (Ok None) e is = absurd (none-some e is)
told_from (Err f) e is = absurd (none-some e is)

pub record_found : (fields : Line) (e : Event) → record_in fields ≡ Some e → (fields ≡ record_fields e) × IsRecord e
record_found fields e is =
    let c = chosen (are_lower fields) (event_told (event_of false (not (begins fields)) fields)) e is in
    let t = told_from (event_of false (not (begins fields)) fields) e c.1 in
    let same = lower_same fields (record_fields e) (event_prints (not (begins fields)) fields e t.0) c.0 in
    let first : begins fields ≡ is_begin e = ap begins same ∙ begins_is e in
    (same, (t.1, sym (ap (λ b. event_of false (not b) (record_fields e)) first) ∙ sym (ap (event_of false (not (begins fields))) same) ∙ t.0))

pub record_only : (e : Event) → IsRecord e → record_in (record_fields e) ≡ Some e
record_only e h =
    let fields : Line = record_fields e in
    cond-true (are_lower fields) (event_told (event_of false (not (begins fields)) fields)) None (own_lower fields (event_prints (not (is_begin e)) fields e h.1))
    ∙ ap (λ b. event_told (event_of false (not b) fields)) (begins_is e)
    ∙ ap event_told h.1
    ∙ told_again e h.0
