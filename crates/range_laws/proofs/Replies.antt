-- The replies of a path's table are in range.
use Rattle.std.proofs.Common.{◌≡◌, ℕ, ◌+◌, ◌-◌, ◌≤◌, ◌==◌, ◌&&◌, zero, suc, true, Option, Some, None, Ok, List, [], ◌∷◌, ◌++◌, length, take, refl, sym, ap, subst, ◌∙◌, arith}
use Rattle.std.specs.Prelude.{IsTrue, IfSome, nat_le, fold, find, option_map, option_and_then, bytes_eq}
use Rattle.std.specs.List.{AllByRecursion, list_all}
use Rattle.std.proofs.lemmas.Bool.{cond_both, and_from, and_parts, le-leb, leb-true}
use Rattle.std.proofs.lemmas.Option.{none-some, same_Some}
use Rattle.std.specs.declared.cmp.Ordering.{Ordering}
use Rattle.std.specs.declared.cmp.Ordering.TheVariants as order
use Rattle.std.specs.Ordering.{match_ordering}
use Rattle.values.specs.declared.entry.Body.{Body}
use Rattle.values.specs.declared.entry.Body.TheVariants.{Noop, Ask, Members}
use Rattle.values.specs.declared.entry.Hash.{Hash}
use Rattle.values.specs.declared.ids.ClientId.{ClientId}
use Rattle.values.specs.declared.message.Request.{Request}
use Rattle.values.specs.declared.message.Request.TheVariants.{Backup, Restore, Delete, Expose}
use Rattle.values.specs.declared.message.Response.{Response}
use Rattle.values.specs.declared.message.Response.TheVariants as response
use Rattle.values.specs.declared.message.Reply.{Reply}
use Rattle.values.specs.declared.message.Reply.TheVariants.{Applied, Stale, TableFull}
use Rattle.values.specs.declared.row.Row.{Row}
use Rattle.values.specs.declared.row.Kept.{Kept}
use Rattle.values.specs.Sizes.{IsValid}
use Rattle.proto_wire.specs.Varint.{varint}
use Rattle.proto_wire.specs.Written.{tag, block_field, varint_field}
use Rattle.client_msgs.specs.Canonical.{canonical_request, request_fields}
use Rattle.client_msgs.specs.Reading.{request_of}
use Rattle.client_msgs.proofs.RoundTrip.{request_of-canonical}
use Rattle.record_rules.specs.Clients.{client_cmp, client_eq}
use Rattle.record_rules.specs.Table.{RecordTable, empty_table, row_of, put_row}
use Rattle.record_rules.specs.Places.{ClientAsk, Places, apply_place, fold_places, ask_at}
use Rattle.record_rules.specs.Rules.{act, after_guess, after_wrong_guess, after_acting, ask_known, ask_unknown, apply_by, apply}
use Rattle.record_rules.specs.declared.status.TheConstants.{OK, MISSING, ERROR}
use Rattle.replica_model.specs.Path.{Path}
use Rattle.replica_model.specs.Folds.{ask_of, place_of, places_of, reply_of}
use Rattle.schedule_model.specs.Reading.{max_u32, max_u64}
use Rattle.trace_model.specs.TraceLines.{is_byte, is_client_id, is_u64, is_u32}
use Rattle.range_laws.specs.Ranges.{BodyIn, EntriesIn, PathIn, ReplyIn}

abbrev Bytes : List ℕ → Type 0
Bytes xs = IsTrue (list_all is_byte xs)

bytes_split : (xs ys : List ℕ) → Bytes (xs ++ ys) → Bytes xs × Bytes ys
bytes_split [] ys h = (refl, h)
bytes_split (x ∷ xs) ys h =
    let p = and_parts (is_byte x) (list_all is_byte (xs ++ ys)) h in
    let rest = bytes_split xs ys p.1 in (and_from (is_byte x) (list_all is_byte xs) p.0 rest.0, rest.1)

block_split : (number : ℕ) (bytes : List ℕ) → Bytes (block_field number bytes) → Bytes bytes
block_split number [] h = refl
block_split number (b ∷ bytes) h = (bytes_split (tag number 2 ++ varint (length (b ∷ bytes))) (b ∷ bytes) h).1

-- ---- a table in range
record KeptIn (k : Kept) : Type 0 where
  secret : Bytes k.secret
  short : length k.secret ≤ 48
  left : k.left ≤ max_u32

record RowIn (r : Row) : Type 0 where
  last : r.last ≤ max_u64
  kept : IfSome r.kept KeptIn

record TableIn (t : RecordTable) : Type 0 where
  limit : t.limit ≤ max_u32
  rows : AllByRecursion RowIn t.rows

abbrev RequestParts : Request → Type 0
RequestParts (Backup secret pin tries) = Bytes secret × (length secret ≤ 48) × (tries ≤ max_u32)
RequestParts other = Unit {0}

record AskIn (ask : ClientAsk) : Type 0 where
  number : ask.number ≤ max_u64
  parts : RequestParts ask.request

abbrev ActIn : Option Kept × Response → Type 0
ActIn x = IfSome x.0 KeptIn × ReplyIn (Applied x.1)

u32_test : (n : ℕ) → n ≤ max_u32 → IsTrue (is_u32 n)
u32_test n le = le-leb n max_u32 le

wrong_in : (k : Kept) → KeptIn k → ActIn (after_wrong_guess k)
wrong_in k h = (
  cond_both (k.left - 1 == 0) None (Some (record k { left = k.left - 1 })) (λ o. IfSome o KeptIn) (λ b. tt) (λ b. record { secret = h.secret; short = h.short; left = omega (arith, h.left) }),
  (u32_test (k.left - 1) (omega (arith, h.left)), omega arith),
)

guess_in : (pin : Hash) (k : Kept) → KeptIn k → ActIn (after_guess pin k)
guess_in pin k h = cond_both (bytes_eq k.pin.0 pin.0) (Some k, response.Restore OK k.secret k.left) (after_wrong_guess k) ActIn
    (λ b. (h, (and_from (list_all is_byte k.secret) (is_u32 k.left) h.secret (u32_test k.left h.left), h.short)))
    (λ b. wrong_in k h)

act_in : (q : Request) → RequestParts q → (o : Option Kept) → IfSome o KeptIn → ActIn (act q o)
act_in (Backup secret pin tries) p o h = (record { secret = p.0; short = p.1; left = p.2 }, (refl, tt))
act_in (Restore pin) p None h = (tt, (refl, omega arith))
act_in (Restore pin) p (Some k) h = cond_both k.exposed (after_guess pin k) (Some k, response.Restore MISSING [] 0) ActIn (λ b. guess_in pin k h) (λ b. (h, (refl, omega arith)))
act_in Delete p o h = (tt, (refl, tt))
act_in (Expose secret) p None h = (tt, (refl, tt))
act_in (Expose secret) p (Some k) h = cond_both (bytes_eq k.secret secret) (Some (record k { exposed = true }), response.Expose OK) (Some k, response.Expose ERROR) ActIn
    (λ b. (record { secret = h.secret; short = h.short; left = h.left }, (refl, tt)))
    (λ b. (h, (refl, tt)))

put_in : (rows : List Row) (row : Row) → AllByRecursion RowIn rows → RowIn row → AllByRecursion RowIn (put_row rows row)
put_in [] row all h = (h, tt)
put_in (r ∷ rows) row all h = by_order (client_cmp row.client r.client) (put_in rows row all.1 h)
  where
    by_order : (o : Ordering) → AllByRecursion RowIn (put_row rows row) → AllByRecursion RowIn (match_ordering o (row ∷ r ∷ rows) (row ∷ rows) (r ∷ put_row rows row))
    by_order order.Less rest = (h, all)
    by_order order.Equal rest = (h, all.1)
    by_order order.Greater rest = (all.0, rest)

abbrev AppliedIn : RecordTable × Reply → Type 0
AppliedIn x = TableIn x.0 × ReplyIn x.1

acting_in : (t : RecordTable) (c : ClientId) (n : ℕ) (x : Option Kept × Response) → TableIn t → n ≤ max_u64 → ActIn x → AppliedIn (after_acting t c n x)
acting_in t c n (k, r) h le a = (record { limit = h.limit; rows = put_in t.rows (record { client = c; last = n; kept = k }) h.rows (record { last = le; kept = a.0 }) }, a.1)

known_in : (t : RecordTable) (c : ClientId) (n : ℕ) (q : Request) (row : Row) → TableIn t → n ≤ max_u64 → RequestParts q → RowIn row → AppliedIn (ask_known t c n q row)
known_in t c n q row h le p r = cond_both (nat_le n row.last) (t, Stale row.last) (after_acting t c n (act q row.kept)) AppliedIn (λ b. (h, le-leb row.last max_u64 r.last)) (λ b. acting_in t c n (act q row.kept) h le (act_in q p row.kept r.kept))

unknown_in : (t : RecordTable) (c : ClientId) (n : ℕ) (q : Request) → TableIn t → n ≤ max_u64 → RequestParts q → AppliedIn (ask_unknown t c n q)
unknown_in t c n (Backup secret pin tries) h le p = cond_both (length t.rows == t.limit) (t, TableFull t.limit) (after_acting t c n (act (Backup secret pin tries) None)) AppliedIn (λ b. (h, h.limit)) (λ b. acting_in t c n (act (Backup secret pin tries) None) h le (act_in (Backup secret pin tries) p None tt))
unknown_in t c n (Restore pin) h le p = (h, (act_in (Restore pin) p None tt).1)
unknown_in t c n Delete h le p = (h, (act_in Delete p None tt).1)
unknown_in t c n (Expose secret) h le p = (h, (act_in (Expose secret) p None tt).1)

found_in : (rows : List Row) (c : ClientId) → AllByRecursion RowIn rows → IfSome (row_of rows c) RowIn
found_in [] c h = tt
found_in (r ∷ rows) c h = cond_both (client_eq r.client c) (Some r) (find (λ row. client_eq row.client c) rows) (λ o. IfSome o RowIn) (λ b. h.0) (λ b. found_in rows c h.1)

by_row : (o : Option Row) → IfSome o RowIn → (t : RecordTable) (c : ClientId) (n : ℕ) (q : Request) → TableIn t → n ≤ max_u64 → RequestParts q → AppliedIn (apply_by o t c n q)
by_row (Some row) r t c n q h le p = known_in t c n q row h le p r
by_row None r t c n q h le p = unknown_in t c n q h le p

apply_in : (t : RecordTable) (ask : ClientAsk) → TableIn t → AskIn ask → AppliedIn (apply t ask.client ask.number ask.request)
apply_in t ask h a = by_row (row_of t.rows ask.client) (found_in t.rows ask.client h.rows) t ask.client ask.number ask.request h a.number a.parts

place_in : (t : RecordTable) (o : Option ClientAsk) → TableIn t → IfSome o AskIn → TableIn (apply_place t o)
place_in t None h a = h
place_in t (Some ask) h a = (apply_in t ask h a).0

fold_in : (places : Places) (t : RecordTable) → TableIn t → AllByRecursion (λ o. IfSome o AskIn) places → TableIn (fold apply_place t places)
fold_in [] t h all = h
fold_in (o ∷ places) t h all = fold_in places (apply_place t o) (place_in t o h all.0) all.1

take_in : (k : ℕ) (places : Places) → AllByRecursion (λ o. IfSome o AskIn) places → AllByRecursion (λ o. IfSome o AskIn) (take k places)
take_in zero places h = tt
take_in (suc k) [] h = tt
take_in (suc k) (o ∷ places) h = (h.0, take_in k places h.1)

-- ---- the places of a path
parts_in : (q : Request) → IsValid q → Bytes (canonical_request q) → RequestParts q
parts_in (Backup secret pin tries) v h =
    let body = (bytes_split (tag 2 2 ++ varint (length (request_fields (Backup secret pin tries)))) (request_fields (Backup secret pin tries)) h).1 in
    let front = (bytes_split (block_field 1 secret ++ block_field 2 pin.0) (varint_field 3 tries) body).0 in
    (block_split 1 secret (bytes_split (block_field 1 secret) (block_field 2 pin.0) front).0, v.0.1, omega (arith, v.1.1))
parts_in other v h = tt

asked_in : (client : ClientId) (number : ℕ) (bytes : List ℕ) → BodyIn (Ask client number bytes) → IfSome (ask_of client number (request_of bytes)) AskIn
asked_in client number bytes h =
    let a = and_parts (is_client_id client) (is_u64 number && list_all is_byte bytes) h.0 in
    let b = and_parts (is_u64 number) (list_all is_byte bytes) a.1 in
    let q : Request = h.1.0 in
    let v = h.1.1.0 in
    let is : bytes ≡ canonical_request q = h.1.1.1.1 in
    let read : request_of bytes ≡ Ok q = ap request_of is ∙ request_of-canonical q v h.1.1.1.0 in
    subst (λ r. IfSome (ask_of client number r) AskIn) (sym read) (record { number = leb-true number max_u64 b.0; parts = parts_in q v (subst Bytes is b.1) })

body_place : (b : Body) → BodyIn b → IfSome (place_of b) AskIn
body_place Noop h = tt
body_place (Ask client number bytes) h = asked_in client number bytes h
body_place (Members margin voters) h = tt

places_in : (n : ℕ) (p : Path) → EntriesIn n p → AllByRecursion (λ o. IfSome o AskIn) (places_of p)
places_in n [] h = tt
places_in n (e ∷ p) h = (body_place e.body h.0.1, places_in n p h.1)

ask_found : (places : Places) (k : ℕ) → AllByRecursion (λ o. IfSome o AskIn) places → (ask : ClientAsk) → ask_at places (suc k) ≡ Some ask → AskIn ask × (k + 1 ≤ length places)
ask_found [] k h ask is = absurd (none-some ask is)
ask_found (o ∷ places) zero h ask is = (here o h.0 is, omega arith)
  where
    here : (o : Option ClientAsk) → IfSome o AskIn → option_and_then (λ (place : Option ClientAsk). place) (Some o) ≡ Some ask → AskIn ask
    here None x is = absurd (none-some ask is)
    here (Some a) x is = subst AskIn (same_Some a ask is) x
ask_found (o ∷ places) (suc k) h ask is = let rest = ask_found places k h.1 ask is in (rest.0, omega (arith, rest.1))

places_long : (p : Path) → length (places_of p) ≡ length p
places_long [] = refl
places_long (e ∷ p) = ap suc (places_long p)

-- the reply at a place of a path is in range, and so is its place
pub reply_in : (n limit : ℕ) (p : Path) (index : ℕ) (r : Reply) → limit ≤ max_u32 → PathIn n p → reply_of limit p index ≡ Some r → (index ≤ n) × ReplyIn r
reply_in n limit p zero r small h is = absurd (none-some r is)
reply_in n limit p (suc k) r small h is = by_ask (ask_at (places_of p) (suc k)) refl is
  where
    table : TableIn (fold_places limit (take k (places_of p)))
    table = fold_in (take k (places_of p)) (empty_table limit) (record { limit = small; rows = tt }) (take_in k (places_of p) (places_in n p h.entries))

    by_ask : (o : Option ClientAsk) → ask_at (places_of p) (suc k) ≡ o → option_map (λ (ask : ClientAsk). (apply (fold_places limit (take k (places_of p))) ask.client ask.number ask.request).1) o ≡ Some r → (suc k ≤ n) × ReplyIn r
    by_ask None at is = absurd (none-some r is)
    by_ask (Some ask) at is =
        let found = ask_found (places_of p) k (places_in n p h.entries) ask at in
        let fine = apply_in (fold_places limit (take k (places_of p))) ask table found.0 in
        (omega (arith, found.1, places_long p, h.long), subst ReplyIn (same_Some (apply (fold_places limit (take k (places_of p))) ask.client ask.number ask.request).1 r is) fine.1)
