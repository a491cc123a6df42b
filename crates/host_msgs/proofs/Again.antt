-- What is written of an item is read again as that item.
use Rattle.std.proofs.Common.{◌≡◌, ℕ, ◌<◌, ◌≤◌, ◌^◌, Bool, true, false, cond, leb, ltb, List, [], ◌∷◌, ◌++◌, length, Option, Some, None, Ok, refl, sym, ap, ◌∙◌, arith}
use Rattle.std.specs.Prelude.{nat_le, ◌&&◌, ◌||◌}
use Rattle.std.specs.Int.{w8, w32, w64}
use Rattle.std.proofs.lemmas.Bool.{le-leb, lt-ltb, leb-true, ltb-true, and_from, and_parts, ltb-false, le-ltb}
use Rattle.fixed_fields.specs.Formats.{◌>>=◌, Content, number, block, nothing, rest, alone, before, numbers, counted, IsContent, IsOfWidth, AreWords, AreFewWords}
use Rattle.fixed_fields.proofs.Bytes.{wide8, wide32, wide64}
use Rattle.fixed_fields.proofs.Laws.{number_is, block_is, rest_is, alone_is, before_is}
use Rattle.fixed_fields.proofs.Numbers.{numbers_is, counted_is}
use Rattle.client_msgs.specs.Canonical.{canonical_response}
use Rattle.client_msgs.specs.Reading.{response_of}
use Rattle.client_msgs.specs.Sizes.{FitsResponse}
use Rattle.group_quorum.specs.Voters.{is_id}
use Rattle.group_msgs.specs.Canonical.{canonical_peer}
use Rattle.attested_link.specs.Frames.{link_frame, frame_bytes}
use Rattle.values.specs.declared.limits.TheConstants.{TOP}
use Rattle.values.specs.declared.batch.Refusal.{Refusal}
use Rattle.values.specs.declared.batch.Refusal.TheVariants as refusal
use Rattle.values.specs.declared.entry.Body.{Body}
use Rattle.values.specs.declared.entry.Body.TheVariants as body
use Rattle.values.specs.declared.entry.Hash.{Hash}
use Rattle.values.specs.declared.entry.LogEntry.{LogEntry}
use Rattle.values.specs.declared.entry.Point.{Point}
use Rattle.values.specs.declared.ids.ClientId.{ClientId}
use Rattle.values.specs.declared.message.Answer.{Answer}
use Rattle.values.specs.declared.message.Answer.TheVariants as answer
use Rattle.values.specs.declared.message.Part.{Part}
use Rattle.values.specs.declared.message.Part.TheVariants as part
use Rattle.values.specs.declared.message.Reply.{Reply}
use Rattle.values.specs.declared.message.Response.{Response}
use Rattle.values.specs.declared.message.Reply.TheVariants as reply
use Rattle.values.specs.declared.peer.PeerMsg.{PeerMsg}
use Rattle.host_msgs.specs.declared.item.Item.{Item}
use Rattle.host_msgs.specs.declared.item.Item.TheVariants as item
use Rattle.host_msgs.specs.Refusals.{refusal_numbers, refusal_of, one_number}
use Rattle.host_msgs.specs.Wrapped.{if_ok, is_request, response_in, message_in}
use Rattle.host_msgs.specs.Items.{only_if, hash_of, is_conf, long_field, word_field, members_fields, halt_fields, point_fields, commit_fields, ask_fields, conf_fields, answer_fields, outcome_fields, part_fields, refusal_fields, body_in, reply_in, answer_of, part_of, item_in}
use Rattle.host_msgs.specs.Contents.{members_content, halt_content, taken_content, body_kind, body_content, commit_content, reply_kind, reply_content, part_number, answer_kind, answer_bytes, answer_content, refused_content}
use Rattle.host_msgs.specs.Grammar.{IsIndex, IsHash, IsClient, IsBody, IsReply, IsAnswer, IsRefusal, ItemsAreReadAgain}

-- ---- the formats of the contents

abbrev IsLong : ℕ → Type 0
IsLong n = IsOfWidth w64 n

abbrev Is32 : List ℕ → Type 0
Is32 bytes = length bytes ≡ 32

abbrev Is16 : List ℕ → Type 0
Is16 bytes = length bytes ≡ 16

abbrev Any : List ℕ → Type 0
Any bytes = Unit {0}

long_is : IsContent long_field IsLong
long_is = alone_is (number w64) IsLong (number_is w64 wide64)

word_is : IsContent word_field (IsOfWidth w32)
word_is = alone_is (number w32) (IsOfWidth w32) (number_is w32 wide32)

hash_is : IsContent (alone (block 32)) Is32
hash_is = alone_is (block 32) Is32 (block_is 32)

members_is : IsContent members_fields (λ p. IsLong p.0 × (IsOfWidth w8 p.1.0 × AreWords p.1.1))
members_is =
    before_is (number w64) (before (number w8) numbers) IsLong (λ q. IsOfWidth w8 q.0 × AreWords q.1) (number_is w64 wide64) (before_is (number w8) numbers (IsOfWidth w8) AreWords (number_is w8 wide8) numbers_is)

halt_is : IsContent halt_fields (λ p. IsLong p.0 × (Is32 p.1.0 × Is32 p.1.1))
halt_is =
    before_is (number w64) (before (block 32) (alone (block 32))) IsLong (λ q. Is32 q.0 × Is32 q.1) (number_is w64 wide64) (before_is (block 32) (alone (block 32)) Is32 Is32 (block_is 32) hash_is)

point_is : IsContent point_fields (λ p. IsLong p.0 × Is32 p.1)
point_is = before_is (number w64) (alone (block 32)) IsLong Is32 (number_is w64 wide64) hash_is

kind_is : IsContent (before (number w8) rest) (λ p. IsOfWidth w8 p.0 × Any p.1)
kind_is = before_is (number w8) rest (IsOfWidth w8) Any (number_is w8 wide8) rest_is

outcome_is : IsContent outcome_fields (λ p. IsLong p.0 × (IsOfWidth w8 p.1.0 × Any p.1.1))
outcome_is = before_is (number w64) (before (number w8) rest) IsLong (λ q. IsOfWidth w8 q.0 × Any q.1) (number_is w64 wide64) kind_is

commit_is : IsContent commit_fields (λ p. IsLong p.0 × (IsLong p.1.0 × (IsOfWidth w8 p.1.1.0 × Any p.1.1.1)))
commit_is = before_is (number w64) outcome_fields IsLong (λ q. IsLong q.0 × (IsOfWidth w8 q.1.0 × Any q.1.1)) (number_is w64 wide64) outcome_is

answer_is : IsContent answer_fields (λ p. Is16 p.0 × (IsLong p.1.0 × (IsOfWidth w8 p.1.1.0 × Any p.1.1.1)))
answer_is = before_is (block 16) outcome_fields Is16 (λ q. IsLong q.0 × (IsOfWidth w8 q.1.0 × Any q.1.1)) (block_is 16) outcome_is

ask_is : IsContent ask_fields (λ p. Is16 p.0 × (IsLong p.1.0 × Any p.1.1))
ask_is = before_is (block 16) (before (number w64) rest) Is16 (λ q. IsLong q.0 × Any q.1) (block_is 16) (before_is (number w64) rest IsLong Any (number_is w64 wide64) rest_is)

conf_is : IsContent conf_fields (λ p. IsOfWidth w8 p.0 × AreFewWords p.1)
conf_is = before_is (number w8) counted (IsOfWidth w8) AreFewWords (number_is w8 wide8) counted_is

part_is : IsContent part_fields (λ p. IsOfWidth w8 p.0 × IsLong p.1)
part_is = before_is (number w8) long_field (IsOfWidth w8) IsLong (number_is w8 wide8) long_is

refusal_is : IsContent refusal_fields (λ p. IsOfWidth w8 p.0 × (IsLong p.1.0 × IsLong p.1.1))
refusal_is =
    before_is (number w8) (before (number w64) long_field) (IsOfWidth w8) (λ q. IsLong q.0 × IsLong q.1) (number_is w8 wide8) (before_is (number w64) long_field IsLong IsLong (number_is w64 wide64) long_is)

frame_is : IsContent link_frame (λ p. IsOfWidth w32 p.0 × (IsOfWidth w32 p.1.0 × Any p.1.1))
frame_is =
    before_is (number w32) (before (number w32) rest) (IsOfWidth w32) (λ q. IsOfWidth w32 q.0 × Any q.1) (number_is w32 wide32) (before_is (number w32) rest (IsOfWidth w32) Any (number_is w32 wide32) rest_is)

-- ---- the one lemma: what follows a content that was written follows its value

read_as : {X Y : Type 0} (g : Content X) (P : X → Type 0) → IsContent g P → (x : X) → P x → (f : X → Option Y) → (g.read (g.spelled x) >>= f) ≡ f x
read_as {X} {Y} g P is x fits f = ap (λ (o : Option X). o >>= f) (is.again x fits)

held : {X : Type 0} (b : Bool) (x : X) → b ≡ true → only_if b x ≡ Some x
held true x e = refl
held false x e = absurd cc

long : (n : ℕ) → IsIndex n → IsLong n
long n le = omega (arith, le)

indexed : {X : Type 0} (n : ℕ) (x : X) → IsIndex n → only_if (nat_le n TOP) x ≡ Some x
indexed n x le = held (nat_le n TOP) x (le-leb n TOP le)

-- ---- bodies, replies, answers, refusals

body_again : (b : Body) → IsBody b → body_in (body_kind b) (body_content b) ≡ Some b
unfolding body_in
body_again body.Noop is = refl
body_again (body.Ask client number request) is =
    read_as ask_fields _ ask_is (client.0, (number, request)) (is.0, (is.1.0, tt)) (λ p. only_if (is_request p.1.1) (body.Ask (record { 0 = p.0 }) p.1.0 p.1.1)) ∙ held (is_request request) (body.Ask client number request) is.1.1
body_again (body.Members margin voters) is =
    read_as conf_fields _ conf_is (margin, voters) (is.0, is.1.0) (λ p. only_if (is_conf p.0 p.1) (body.Members p.0 p.1)) ∙ held (is_conf margin voters) (body.Members margin voters) is.1.1

-- what is said of responses
abbrev Responses : Type 0
Responses = (response : Response) → FitsResponse response → response_of (canonical_response response) ≡ Ok response

reply_again : Responses → (r : Reply) → IsReply r → reply_in (reply_kind r) (reply_content r) ≡ Some r
unfolding reply_in response_in
reply_again responses (reply.Applied response) is = ap (λ o. if_ok o >>= λ r. Some (reply.Applied r)) (responses response is)
reply_again responses (reply.Stale last) is = read_as long_field IsLong long_is last is (λ n. Some (reply.Stale n))
reply_again responses (reply.TableFull rows) is = read_as word_field (IsOfWidth w32) word_is rows is (λ n. Some (reply.TableFull n))

reply_kind_fits : (r : Reply) → IsOfWidth w8 (reply_kind r)
reply_kind_fits (reply.Applied response) = omega arith
reply_kind_fits (reply.Stale last) = omega arith
reply_kind_fits (reply.TableFull rows) = omega arith

invalid_again : (p : Part) (size : ℕ) → IsLong size → (part_fields.read (part_fields.spelled (part_number p, size)) >>= λ q. part_of q.0 >>= λ r. Some (answer.Invalid r q.1)) ≡ Some (answer.Invalid p size)
invalid_again part.Nothing size is = read_as part_fields _ part_is (0, size) (omega arith, is) (λ q. part_of q.0 >>= λ r. Some (answer.Invalid r q.1))
invalid_again part.Secret size is = read_as part_fields _ part_is (1, size) (omega arith, is) (λ q. part_of q.0 >>= λ r. Some (answer.Invalid r q.1))
invalid_again part.Pin size is = read_as part_fields _ part_is (2, size) (omega arith, is) (λ q. part_of q.0 >>= λ r. Some (answer.Invalid r q.1))
invalid_again part.Tries size is = read_as part_fields _ part_is (3, size) (omega arith, is) (λ q. part_of q.0 >>= λ r. Some (answer.Invalid r q.1))

answer_again : Responses → (a : Answer) → IsAnswer a → answer_of (answer_kind a) (answer_bytes a) ≡ Some a
unfolding answer_of
answer_again responses (answer.Outcome index r) is =
    read_as outcome_fields _ outcome_is (index, (reply_kind r, reply_content r)) (long index is.0, (reply_kind_fits r, tt)) (λ p. reply_in p.1.0 p.1.1 >>= λ s. only_if (nat_le p.0 TOP) (answer.Outcome p.0 s))
    ∙ ap (λ o. o >>= λ s. only_if (nat_le index TOP) (answer.Outcome index s)) (reply_again responses r is.1)
    ∙ indexed index (answer.Outcome index r) is.0
answer_again responses (answer.NotLeader id) is =
    read_as word_field (IsOfWidth w32) word_is id (omega (arith, is)) (λ n. only_if (nat_le n 65535) (answer.NotLeader n)) ∙ held (nat_le id 65535) (answer.NotLeader id) (le-leb id 65535 is)
answer_again responses (answer.Busy count) is = read_as long_field IsLong long_is count is (λ n. Some (answer.Busy n))
answer_again responses (answer.Undecided at kept offered) is =
    read_as halt_fields _ halt_is (at, (kept.0, offered.0)) (long at is.0, is.1) (λ p. only_if (nat_le p.0 TOP) (answer.Undecided p.0 (hash_of p.1.0) (hash_of p.1.1))) ∙ indexed at (answer.Undecided at kept offered) is.0
answer_again responses (answer.Malformed offset) is = read_as long_field IsLong long_is offset is (λ n. Some (answer.Malformed n))
answer_again responses (answer.Invalid p size) is = invalid_again p size is
answer_again responses (answer.Halted index) is =
    read_as long_field IsLong long_is index (long index is) (λ n. only_if (nat_le n TOP) (answer.Halted n)) ∙ indexed index (answer.Halted index) is

answer_kind_fits : (a : Answer) → IsOfWidth w8 (answer_kind a)
answer_kind_fits (answer.Outcome index r) = omega arith
answer_kind_fits (answer.NotLeader id) = omega arith
answer_kind_fits (answer.Busy count) = omega arith
answer_kind_fits (answer.Undecided at kept offered) = omega arith
answer_kind_fits (answer.Malformed offset) = omega arith
answer_kind_fits (answer.Invalid p size) = omega arith
answer_kind_fits (answer.Halted index) = omega arith

two_again : (code first second : ℕ) → IsIndex first → IsIndex second → (ltb TOP first || ltb TOP second) ≡ false
two_again code first second a b = rw (le-ltb TOP first a, le-ltb TOP second b) refl

refusal_again : (r : Refusal) → IsRefusal r → refusal_of (refusal_numbers r).0 (refusal_numbers r).1.0 (refusal_numbers r).1.1 ≡ Some r
refusal_again (refusal.NotLeader known) is = rw (lt-ltb known (2 ^ 32) is) refl
refusal_again (refusal.ChangePending newest committed) is = rw (two_again 2 newest committed is.0 is.1) refl
refusal_again (refusal.AlreadyVoter id) is = rw (lt-ltb id (2 ^ 32) is) refl
refusal_again (refusal.NotVoter id) is = rw (lt-ltb id (2 ^ 32) is) refl
refusal_again (refusal.TooFew count) is = rw (lt-ltb count (2 ^ 32) is) refl
refusal_again (refusal.TooMany count) is = rw (lt-ltb count (2 ^ 32) is) refl
refusal_again (refusal.NotCaughtUp mark committed) is = rw (two_again 7 mark committed is.0 is.1) refl
refusal_again (refusal.NoLink id) is = rw (lt-ltb id (2 ^ 32) is) refl
refusal_again (refusal.LogFull last) is = rw (le-leb last TOP is) refl
refusal_again (refusal.NoState k) is = rw (lt-ltb k (2 ^ 32) is) refl
refusal_again (refusal.NotForMe to) is = rw (lt-ltb to (2 ^ 32) is) refl
refusal_again (refusal.BadPeer offset) is = refl
refusal_again (refusal.SameMargin margin) is = rw (le-leb margin 15 is) refl

refusal_fits : (r : Refusal) → IsRefusal r → IsOfWidth w8 (refusal_numbers r).0 × (IsLong (refusal_numbers r).1.0 × IsLong (refusal_numbers r).1.1)
refusal_fits (refusal.NotLeader known) is = (omega arith, (omega (arith, is), omega arith))
refusal_fits (refusal.ChangePending newest committed) is = (omega arith, (long newest is.0, long committed is.1))
refusal_fits (refusal.AlreadyVoter id) is = (omega arith, (omega (arith, is), omega arith))
refusal_fits (refusal.NotVoter id) is = (omega arith, (omega (arith, is), omega arith))
refusal_fits (refusal.TooFew count) is = (omega arith, (omega (arith, is), omega arith))
refusal_fits (refusal.TooMany count) is = (omega arith, (omega (arith, is), omega arith))
refusal_fits (refusal.NotCaughtUp mark committed) is = (omega arith, (long mark is.0, long committed is.1))
refusal_fits (refusal.NoLink id) is = (omega arith, (omega (arith, is), omega arith))
refusal_fits (refusal.LogFull last) is = (omega arith, (long last is, omega arith))
refusal_fits (refusal.NoState k) is = (omega arith, (omega (arith, is), omega arith))
refusal_fits (refusal.NotForMe to) is = (omega arith, (omega (arith, is), omega arith))
refusal_fits (refusal.BadPeer offset) is = (omega arith, (is, omega arith))
refusal_fits (refusal.SameMargin margin) is = (omega arith, (omega (arith, is), omega arith))

-- ---- items

body_kind_fits : (b : Body) → IsOfWidth w8 (body_kind b)
body_kind_fits body.Noop = omega arith
body_kind_fits (body.Ask client number request) = omega arith
body_kind_fits (body.Members margin voters) = omega arith

id_fits : (id : ℕ) → is_id id ≡ true → IsOfWidth w32 id
id_fits id is = let lt = ltb-true id 65536 (and_parts (ltb 0 id) (ltb id 65536) is).1 in omega (arith, lt)

both : (a b : Bool) → a ≡ true → b ≡ true → (a && b) ≡ true
both a b p q = rw (p, q) refl

lead_again : (term : ℕ) → IsIndex term → item_in 1 (long_field.spelled term) ≡ Some (item.Lead term)
unfolding item_in
lead_again term is = read_as long_field IsLong long_is term (long term is) (λ n. only_if (nat_le n TOP) (item.Lead n)) ∙ indexed term (item.Lead term) is

members_again : (index margin : ℕ) (voters : List ℕ) → IsIndex index → IsOfWidth w8 margin → AreWords voters → is_conf margin voters ≡ true → item_in 2 (members_content (index, margin, voters)) ≡ Some (item.Members index margin voters)
unfolding item_in
members_again index margin voters is small words conf =
    read_as members_fields _ members_is (index, (margin, voters)) (long index is, (small, words)) (λ p. only_if (nat_le p.0 TOP && is_conf p.1.0 p.1.1) (item.Members p.0 p.1.0 p.1.1))
    ∙ held (nat_le index TOP && is_conf margin voters) (item.Members index margin voters) (both (nat_le index TOP) (is_conf margin voters) (le-leb index TOP is) conf)

halt_again : (index : ℕ) (kept offered : Hash) → IsIndex index → IsHash kept → IsHash offered → item_in 3 (halt_content (index, kept, offered)) ≡ Some (item.Halt index kept offered)
unfolding item_in
halt_again index kept offered is a b =
    read_as halt_fields _ halt_is (index, (kept.0, offered.0)) (long index is, (a, b)) (λ p. only_if (nat_le p.0 TOP) (item.Halt p.0 (hash_of p.1.0) (hash_of p.1.1))) ∙ indexed index (item.Halt index kept offered) is

taken_again : (point : Point) → IsIndex point.index → IsHash point.hash → item_in 4 (taken_content point) ≡ Some (item.Taken point)
unfolding item_in
taken_again point is hash =
    read_as point_fields _ point_is (point.index, point.hash.0) (long point.index is, hash) (λ p. only_if (nat_le p.0 TOP) (item.Taken (record { index = p.0; hash = hash_of p.1 }))) ∙ indexed point.index (item.Taken point) is

commit_again : (index : ℕ) (entry : LogEntry) → IsIndex index → IsIndex entry.term → IsBody entry.body → item_in 5 (commit_content (index, entry)) ≡ Some (item.Commit index entry)
unfolding item_in
commit_again index entry is term b =
    read_as commit_fields _ commit_is (index, (entry.term, (body_kind entry.body, body_content entry.body))) (long index is, (long entry.term term, (body_kind_fits entry.body, tt)))
    (λ p. body_in p.1.1.0 p.1.1.1 >>= λ c. only_if (nat_le p.0 TOP && nat_le p.1.0 TOP) (item.Commit p.0 (record { term = p.1.0; body = c })))
    ∙ ap (λ o. o >>= λ c. only_if (nat_le index TOP && nat_le entry.term TOP) (item.Commit index (record { term = entry.term; body = c }))) (body_again entry.body b)
    ∙ held (nat_le index TOP && nat_le entry.term TOP) (item.Commit index entry) (both (nat_le index TOP) (nat_le entry.term TOP) (le-leb index TOP is) (le-leb entry.term TOP term))

told_again : Responses → (client : ClientId) (n : ℕ) (said : Answer) → IsClient client → IsLong n → IsAnswer said → item_in 6 (answer_content (client, n, said)) ≡ Some (item.Answer client n said)
unfolding item_in
told_again responses client n said is wide a =
    read_as answer_fields _ answer_is (client.0, (n, (answer_kind said, answer_bytes said))) (is, (wide, (answer_kind_fits said, tt)))
    (λ p. answer_of p.1.1.0 p.1.1.1 >>= λ b. Some (item.Answer (record { 0 = p.0 }) p.1.0 b))
    ∙ ap (λ o. o >>= λ b. Some (item.Answer client n b)) (answer_again responses said a)

sent_again : (from to : ℕ) (message : PeerMsg) → is_id from ≡ true → is_id to ≡ true → message_in (canonical_peer message) ≡ Some message
    → item_in 7 (frame_bytes from to (canonical_peer message)) ≡ Some (item.Sent from to message (frame_bytes from to (canonical_peer message)))
unfolding item_in
sent_again from to message a b m =
    let frame = frame_bytes from to (canonical_peer message) in
    read_as link_frame _ frame_is (from, (to, canonical_peer message)) (id_fits from a, (id_fits to b, tt)) (λ p. message_in p.1.1 >>= λ n. only_if (is_id p.0 && is_id p.1.0) (item.Sent p.0 p.1.0 n frame))
    ∙ ap (λ o. o >>= λ n. only_if (is_id from && is_id to) (item.Sent from to n frame)) m
    ∙ held (is_id from && is_id to) (item.Sent from to message frame) (both (is_id from) (is_id to) a b)

saved_again : (k : ℕ) → k < 2 ^ 32 → item_in 8 (word_field.spelled k) ≡ Some (item.Saved k)
unfolding item_in
saved_again k is = read_as word_field (IsOfWidth w32) word_is k is (λ n. Some (item.Saved n))

refused_again : (why : Refusal) → IsRefusal why → item_in 9 (refused_content why) ≡ Some (item.Refused why)
unfolding item_in
refused_again why is =
    read_as refusal_fields _ refusal_is (refusal_numbers why) (refusal_fits why is) (λ p. refusal_of p.0 p.1.0 p.1.1 >>= λ r. Some (item.Refused r))
    ∙ ap (λ o. o >>= λ r. Some (item.Refused r)) (refusal_again why is)

pub items_again : Responses → ItemsAreReadAgain
items_again responses = record {
  lead = lead_again;
  members = members_again;
  halt = halt_again;
  taken = taken_again;
  commit = commit_again;
  answer = told_again responses;
  sent = sent_again;
  saved = saved_again;
  refused = refused_again;
}
