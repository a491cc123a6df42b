-- What is read of a record can be played.
use Rattle.std.proofs.Common.{refl, sym, ap, subst, ◌≡◌, ℕ, ◌≤◌, Bool, true, false, List, [], ◌∷◌, length, drop, Option, Some, None, Result, Ok, Err}
use Rattle.std.specs.Prelude.{if◌then◌else◌, nat_le, bytes_eq, codes, ◌&&◌, IsOk}
use Rattle.std.specs.List.{AllByRecursion}
use Rattle.std.proofs.lemmas.Bool.{and_parts, cond_both}
use Rattle.group_quorum.specs.Voters.{IsId, conf_of, fault_of}
use Rattle.group_quorum.specs.declared.ConfigFault.{ConfigFault}
use Rattle.group_quorum.specs.declared.TheConstants.{MAX_ID, MAX_MARGIN}
use Rattle.values.specs.declared.event.Cause.{Cause}
use Rattle.values.specs.declared.event.Cause.TheVariants as cause
use Rattle.values.specs.declared.event.Event.{Event}
use Rattle.values.specs.declared.event.Event.TheVariants as event
use Rattle.values.specs.declared.ids.ClientId.{ClientId}
use Rattle.values.specs.declared.limits.TheConstants.{MAX_SETTLED, MOST_ROWS}
use Rattle.values.specs.declared.want.Want.TheVariants as want
use Rattle.record_cutting.specs.Lines.{Record}
use Rattle.schedule_model.specs.Reading.{RecordFault, fault, ◌>>=◌, field, client_at, hex_at, number_at, pin_at, replica_at, replicas_from, request_at, max_u32, max_u64}
use Rattle.schedule_model.specs.Records.{Word, event_of, some_event, event_at, word_of, has_fields, is_remark, placed, fields_as, begin_or, cause_of}
use Rattle.schedule_model.specs.Records as word
use Rattle.schedule_model.proofs.Reading.{number_of-range}
use Rattle.group_world.specs.Playable.{IsPlayable}

-- an event as it is read, of a schedule that is driven or not: a settle and what is driven are played as others
abbrev pub IsRead : Bool → Bool → Event → Type 0
IsRead driven begun (event.Settle n) = Unit {0}
IsRead driven begun (event.Again c) = driven ≡ true
IsRead driven begun e = IsPlayable begun e

-- ---- results

-- what holds where each part was read
bound : {A B : Type 0} (x : Result A RecordFault) (f : A → Result B RecordFault) (Q : B → Type 0) (b : B) → ((a : A) → x ≡ Ok a → f a ≡ Ok b → Q b) → (x >>= f) ≡ Ok b → Q b
bound (Ok a) f Q b h is = h a refl is
bound (Err e) f Q b h is = absurd (let z : Err e ≡ Ok b = is in cc)

ends : (P : Event → Type 0) (a e : Event) → P a → (let read : Result Event RecordFault = Ok a in read ≡ Ok e) → P e
ends P a e h is = let same : a ≡ e = cc in subst P same h

-- ---- a record of each word

module _ (driven : Bool) (fields : Record) (e : Event) where
  alone : (make : ℕ → Event) → ((r : ℕ) → IsId r → IsRead driven true (make r)) → word.of_replica make fields ≡ Ok e → IsRead driven true e
  alone make fine is = bound (replica_at fields 2) (λ r. Ok (make r)) (IsRead driven true) e (λ r one is. ends (IsRead driven true) (make r) e (fine r (number_of-range (field fields 2) 2 1 MAX_ID r one)) is) is

  numbered : (make : ℕ → Event) (low high : ℕ) → ((k : ℕ) → IsRead driven true (make k)) → word.of_number make low high fields ≡ Ok e → IsRead driven true e
  numbered make low high fine is = bound (number_at fields 2 low high) (λ k. Ok (make k)) (IsRead driven true) e (λ k one is. ends (IsRead driven true) (make k) e (fine k) is) is

  two : (make : ℕ → ℕ → Event) → ((r x : ℕ) → IsId x → IsRead driven true (make r x)) → word.of_two make fields ≡ Ok e → IsRead driven true e
  two make fine is =
      bound (replica_at fields 2) (λ r. replica_at fields 3 >>= (λ x. Ok (make r x))) (IsRead driven true) e
      (λ r one is. bound (replica_at fields 3) (λ x. Ok (make r x)) (IsRead driven true) e (λ x other is. ends (IsRead driven true) (make r x) e (fine r x (number_of-range (field fields 3) 3 1 MAX_ID x other)) is) is)
      is

  with_number : (make : ℕ → ℕ → Event) (high : ℕ) → ((r k : ℕ) → k ≤ high → IsRead driven true (make r k)) → word.of_replica_and make high fields ≡ Ok e → IsRead driven true e
  with_number make high fine is =
      bound (replica_at fields 2) (λ r. number_at fields 3 0 high >>= (λ k. Ok (make r k))) (IsRead driven true) e
      (λ r one is. bound (number_at fields 3 0 high) (λ k. Ok (make r k)) (IsRead driven true) e (λ k other is. ends (IsRead driven true) (make r k) e (fine r k (number_of-range (field fields 3) 3 0 high k other).1) is) is)
      is

  asked : word.ask_of fields ≡ Ok e → IsRead driven true e
  asked is =
      bound (replica_at fields 2) (λ r. client_at fields 3 >>= (λ c. number_at fields 4 0 max_u64 >>= (λ n. request_at fields 5 >>= (λ q. Ok (event.Ask r c n q))))) (IsRead driven true) e
      (λ r one is. bound (client_at fields 3) (λ c. number_at fields 4 0 max_u64 >>= (λ n. request_at fields 5 >>= (λ q. Ok (event.Ask r c n q)))) (IsRead driven true) e
      (λ c one is. bound (number_at fields 4 0 max_u64) (λ n. request_at fields 5 >>= (λ q. Ok (event.Ask r c n q))) (IsRead driven true) e
      (λ n one is. bound (request_at fields 5) (λ q. Ok (event.Ask r c n q)) (IsRead driven true) e (λ q one is. ends (IsRead driven true) (event.Ask r c n q) e tt is) is) is) is)
      is

  stored : word.store_of fields ≡ Ok e → IsRead driven true e
  stored is =
      bound (client_at fields 2) (λ c. hex_at fields 4 >>= (λ s. pin_at fields 5 >>= (λ p. number_at fields 6 0 max_u32 >>= (λ t. Ok (event.Want c (want.Store s p t)))))) (IsRead driven true) e
      (λ c one is. bound (hex_at fields 4) (λ s. pin_at fields 5 >>= (λ p. number_at fields 6 0 max_u32 >>= (λ t. Ok (event.Want c (want.Store s p t))))) (IsRead driven true) e
      (λ s one is. bound (pin_at fields 5) (λ p. number_at fields 6 0 max_u32 >>= (λ t. Ok (event.Want c (want.Store s p t)))) (IsRead driven true) e
      (λ p one is. bound (number_at fields 6 0 max_u32) (λ t. Ok (event.Want c (want.Store s p t))) (IsRead driven true) e (λ t one is. ends (IsRead driven true) (event.Want c (want.Store s p t)) e tt is) is) is) is)
      is

  recovered : word.recover_of fields ≡ Ok e → IsRead driven true e
  recovered is =
      bound (client_at fields 2) (λ c. pin_at fields 4 >>= (λ p. Ok (event.Want c (want.Recover p)))) (IsRead driven true) e
      (λ c one is. bound (pin_at fields 4) (λ p. Ok (event.Want c (want.Recover p))) (IsRead driven true) e (λ p one is. ends (IsRead driven true) (event.Want c (want.Recover p)) e tt is) is)
      is

  erased : word.erase_of fields ≡ Ok e → IsRead driven true e
  erased is = bound (client_at fields 2) (λ c. Ok (event.Want c want.Erase)) (IsRead driven true) e (λ c one is. ends (IsRead driven true) (event.Want c want.Erase) e tt is) is

  said : word.say_of fields ≡ Ok e → IsRead driven true e
  said is =
      bound (client_at fields 2) (λ c. replica_at fields 3 >>= (λ r. Ok (event.Say c r))) (IsRead driven true) e
      (λ c one is. bound (replica_at fields 3) (λ r. Ok (event.Say c r)) (IsRead driven true) e (λ r one is. ends (IsRead driven true) (event.Say c r) e tt is) is)
      is

  heard : word.hear_of fields ≡ Ok e → IsRead driven true e
  heard is =
      bound (client_at fields 2) (λ c. number_at fields 3 1 max_u64 >>= (λ k. Ok (event.Hear c k))) (IsRead driven true) e
      (λ c one is. bound (number_at fields 3 1 max_u64) (λ k. Ok (event.Hear c k)) (IsRead driven true) e (λ k one is. ends (IsRead driven true) (event.Hear c k) e tt is) is)
      is

  again : driven ≡ true → word.again_of fields ≡ Ok e → IsRead driven true e
  again is_driven is = bound (client_at fields 2) (λ c. Ok (event.Again c)) (IsRead driven true) e (λ c one is. ends (IsRead driven true) (event.Again c) e is_driven is) is

  setup : (margin limit : ℕ) (voters : List ℕ) (o : Option ConfigFault) → fault_of margin voters ≡ o → margin ≤ MAX_MARGIN → 1 ≤ limit → limit ≤ MOST_ROWS → begin_or o margin limit voters ≡ Ok e → IsRead driven false e
  setup margin limit voters None none most least high is =
      let made : IsOk (conf_of margin voters) = rw none refl in
      ends (IsRead driven false) (event.Begin margin limit voters) e (refl, record { conf = made; limit_from = least; limit_to = high }) is
  setup margin limit voters (Some f) none most least high is = absurd (let z : fault {T = Event} (cause_of f) 0 ≡ Ok e = is in cc)

  begun_first : word.begin_of fields ≡ Ok e → IsRead driven false e
  begun_first is =
      bound (number_at fields 2 0 MAX_MARGIN) (λ margin. number_at fields 3 1 MOST_ROWS >>= (λ limit. replicas_from 4 (drop 3 fields) >>= (λ voters. begin_or (fault_of margin voters) margin limit voters))) (IsRead driven false) e
      (λ margin one is. bound (number_at fields 3 1 MOST_ROWS) (λ limit. replicas_from 4 (drop 3 fields) >>= (λ voters. begin_or (fault_of margin voters) margin limit voters)) (IsRead driven false) e
      (λ limit other is. bound (replicas_from 4 (drop 3 fields)) (λ voters. begin_or (fault_of margin voters) margin limit voters) (IsRead driven false) e
      (λ voters all is.
      let to = number_of-range (field fields 2) 2 0 MAX_MARGIN margin one in
      let range = number_of-range (field fields 3) 3 1 MOST_ROWS limit other in
      setup margin limit voters (fault_of margin voters) refl to.1 range.0 range.1 is) is) is)
      is

  -- ---- its word

  -- `again` is a word where the schedule is driven
  abbrev AgainIf : Word → Type 0
  AgainIf word.Again = driven ≡ true
  AgainIf w = Unit {0}

  reads_word : (w : Word) → AgainIf w → placed true w ≡ Ok w → fields_as w fields ≡ Ok e → IsRead driven true e
  reads_word word.Begin fresh is said_so = absurd (let z : fault {T = Word} cause.SecondBegin 0 ≡ Ok word.Begin = is in cc)
  reads_word word.Start fresh is h = alone event.Start (λ r id. id) h
  reads_word word.Tick fresh is h = alone event.Tick (λ r id. tt) h
  reads_word word.Deliver fresh is h = numbered event.Deliver 1 max_u64 (λ k. tt) h
  reads_word word.Lose fresh is h = numbered event.Lose 1 max_u64 (λ k. tt) h
  reads_word word.Settle fresh is h = numbered event.Settle 0 MAX_SETTLED (λ k. tt) h
  reads_word word.Crash fresh is h = alone event.Crash (λ r id. tt) h
  reads_word word.Save fresh is h = alone event.Save (λ r id. tt) h
  reads_word word.Roll fresh is h = with_number event.Roll max_u32 (λ r k le. tt) h
  reads_word word.Join fresh is h = two event.Join (λ r x id. id) h
  reads_word word.Admit fresh is h = two event.Admit (λ r x id. id) h
  reads_word word.Remove fresh is h = two event.Remove (λ r x id. id) h
  reads_word word.Margin fresh is h = with_number event.Margin MAX_MARGIN (λ r k le. le) h
  reads_word word.Ask fresh is h = asked h
  reads_word word.Store fresh is h = stored h
  reads_word word.Recover fresh is h = recovered h
  reads_word word.Erase fresh is h = erased h
  reads_word word.Say fresh is h = said h
  reads_word word.Hear fresh is h = heard h
  reads_word word.Again fresh is h = again fresh h

  meant : (text : List ℕ) (ws : List (List ℕ × Word)) → AllByRecursion (λ (x : List ℕ × Word). AgainIf x.1) ws → (c : Cause) (k : ℕ) (w : Word) → word.word_or c k (word.meaning text ws) ≡ Ok w → AgainIf w
  meant text [] h c k w is = absurd (let z : fault {T = Word} c k ≡ Ok w = is in cc)
  meant text (x ∷ ws) h c k w is =
      cond_both (bytes_eq text x.0) (Some x.1) (word.meaning text ws) (λ o. word.word_or c k o ≡ Ok w → AgainIf w)
      (λ b is. let same : x.1 ≡ w = cc in subst AgainIf same h.0)
      (λ b is. meant text ws h.1 c k w is)
      is

  word_in : (w : Word) → word_of driven fields ≡ Ok w → AgainIf w
  word_in w is =
      cond_both (bytes_eq (field fields 1) (codes "want")) (if nat_le 3 (length fields) then word.word_or cause.Word 3 (word.meaning (field fields 3) word.want_words) else fault cause.Fields 0) (if driven && bytes_eq (field fields 1) (codes "again") then Ok word.Again else word.word_or cause.Word 1 (word.meaning (field fields 1) word.first_words)) (λ r. r ≡ Ok w → AgainIf w)
      (λ b is. cond_both (nat_le 3 (length fields)) (word.word_or cause.Word 3 (word.meaning (field fields 3) word.want_words)) (fault cause.Fields 0) (λ r. r ≡ Ok w → AgainIf w)
      (λ b is. meant (field fields 3) word.want_words (tt, (tt, (tt, tt))) cause.Word 3 w is)
      (λ b is. absurd (let z : fault {T = Word} cause.Fields 0 ≡ Ok w = is in cc))
      is)
      (λ b is. cond_both (driven && bytes_eq (field fields 1) (codes "again")) (Ok word.Again) (word.word_or cause.Word 1 (word.meaning (field fields 1) word.first_words)) (λ r. r ≡ Ok w → AgainIf w)
      (λ b is. let same : word.Again ≡ w = cc in subst AgainIf same (and_parts driven (bytes_eq (field fields 1) (codes "again")) b).0)
      (λ b is. meant (field fields 1) word.first_words (tt, (tt, (tt, (tt, (tt, (tt, (tt, (tt, (tt, (tt, (tt, (tt, (tt, (tt, (tt, (tt, tt)))))))))))))))) cause.Word 1 w is)
      is)
      is

  placed_in : (begun : Bool) (c a : Word) → placed begun c ≡ Ok a → AgainIf c → fields_as a fields ≡ Ok e → IsRead driven begun e
  placed_in false word.Begin a is fresh h = let same : word.Begin ≡ a = cc in begun_first (subst (λ (w : Word). fields_as w fields ≡ Ok e) (sym same) h)
  placed_in false c a is fresh h = absurd (let z : fault {T = Word} cause.NoBegin 0 ≡ Ok a = is in cc)
  placed_in true word.Begin a is fresh h = absurd (let z : fault {T = Word} cause.SecondBegin 0 ≡ Ok a = is in cc)
  placed_in true c a is fresh h = let same : c ≡ a = cc in reads_word c fresh refl (subst (λ (w : Word). fields_as w fields ≡ Ok e) (sym same) h)

  read_at : (begun : Bool) → event_at driven begun fields ≡ Ok e → IsRead driven begun e
  read_at begun is =
      bound (word_of driven fields) (λ w. (if has_fields w (length fields) then Ok w else fault cause.Fields 0) >>= (λ counted. placed begun counted >>= (λ allowed. fields_as allowed fields))) (IsRead driven begun) e
      (λ w one is. bound (if has_fields w (length fields) then Ok w else fault cause.Fields 0) (λ counted. placed begun counted >>= (λ allowed. fields_as allowed fields)) (IsRead driven begun) e
      (λ counted two is. bound (placed begun counted) (λ allowed. fields_as allowed fields) (IsRead driven begun) e
      (λ allowed three is. placed_in begun counted allowed three (same_word w counted (has_fields w (length fields)) two (word_in w one)) is) is) is)
      is
    where
      same_word : (w counted : Word) (b : Bool) → (if b then Ok w else fault cause.Fields 0) ≡ Ok counted → AgainIf w → AgainIf counted
      same_word w counted true is h = let same : w ≡ counted = cc in subst AgainIf same h
      same_word w counted false is h = absurd (let z : fault {T = Word} cause.Fields 0 ≡ Ok counted = is in cc)

  pub reads_playable : (begun : Bool) → event_of driven begun fields ≡ Ok (Some e) → IsRead driven begun e
  reads_playable begun is =
      cond_both (is_remark fields) (Ok None) (some_event (event_at driven begun fields)) (λ r. r ≡ Ok (Some e) → IsRead driven begun e)
      (λ b is. absurd (let none : Result (Option Event) RecordFault = Ok None in let z : none ≡ Ok (Some e) = is in cc)) (λ b is. read_at begun (of_some (event_at driven begun fields) is)) is
    where
      of_some : (r : Result Event RecordFault) → some_event r ≡ Ok (Some e) → r ≡ Ok e
      of_some (Ok a) is = let same : a ≡ e = cc in ap Ok same
      of_some (Err f) is = absurd (let z : some_event (Err f) ≡ Ok (Some e) = is in cc)

-- what is no settle is played as it is read
pub plays_alone : (begun : Bool) (e : Event) → IsRead false begun e → ((n : ℕ) → e ≡ event.Settle n → ⊥) → IsPlayable begun e
plays_alone begun (event.Settle n) read other = absurd (other n refl)
plays_alone begun (event.Again c) read other = absurd (cc read)
plays_alone begun e read other = read

-- so it is where the schedule is driven, of what lets no client go on
pub plays_driven : (begun : Bool) (e : Event) → IsRead true begun e → ((n : ℕ) → e ≡ event.Settle n → ⊥) → ((c : ClientId) → e ≡ event.Again c → ⊥) → IsPlayable begun e
plays_driven begun (event.Settle n) read other again = absurd (other n refl)
plays_driven begun (event.Again c) read other again = absurd (again c refl)
plays_driven begun e read other again = read
