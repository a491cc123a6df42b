-- The bytes of a request that a client hands over: what is read of them is in range, and so is where they are at fault.
use Rattle.std.proofs.Common.{◌≡◌, ℕ, ◌+◌, ◌-◌, ◌*◌, ◌/◌, ◌%◌, ◌≤◌, ◌==◌, ◌&&◌, ◌||◌, zero, suc, Bool, Option, Some, None, Result, Ok, Err, List, [], ◌∷◌, length, take, drop, reverse, refl, sym, subst, arith}
use Rattle.std.specs.Prelude.{if◌then◌else◌, IsTrue, IfSome, nat_lt, nat_le, filter_map, flat_map, take_while, slice_get, unwrap_or}
use Rattle.std.specs.Option.{option_or, option_to_list}
use Rattle.std.specs.List.{AllByRecursion, list_all, last_or, cons_option}
use Rattle.std.proofs.lemmas.Bool.{cond_both, and_from, and_parts, le-leb}
use Rattle.std.proofs.lemmas.List.{length-take, length-drop, reverse-append}
use Rattle.std.proofs.lemmas.List.Sums.{take_while-cons}
use Rattle.values.specs.declared.limits.TheConstants.{MAX_EVENTS}
use Rattle.values.specs.declared.ids.ClientId.{ClientId}
use Rattle.values.specs.declared.message.Part.{Part}
use Rattle.values.specs.declared.message.Request.{Request}
use Rattle.values.specs.declared.message.Request.TheVariants.{Backup, Restore, Delete, Expose}
use Rattle.proto_wire.specs.declared.field.WireFault.{WireFault}
use Rattle.proto_wire.specs.declared.field.WireFault.TheVariants as wire
use Rattle.proto_wire.specs.Steps.{◌>>=◌}
use Rattle.proto_wire.specs.Varint.{number_in}
use Rattle.proto_wire.specs.Fields.{Content, Varint, Eight, Block, Four, Field, front, payload_field, field_at, Sequence, then_more, sequence_behind, sequence_at}
use Rattle.proto_wire.specs.Reading.{u32_of, bytes_of, blocks_of, block_under, block_in, embedded, is_member, members_of, last_member, member_fault, first_fault}
use Rattle.client_msgs.specs.Reading.{request_of, request_in, request_from, if_sized}
use Rattle.client_msgs.specs.Sizes.{size_fault, outside, secret_fault, pin_fault, tries_fault}
use Rattle.client_msgs.proofs.SizesLemmas.{size_fault-valid}
use Rattle.replica_model.specs.Clients.{offset_of}
use Rattle.schedule_model.specs.Reading.{max_u64}
use Rattle.trace_model.specs.TraceLines.{is_byte, is_client_id, is_u64}
use Rattle.log_laws.proofs.Ending.{all-append}
use Rattle.range_laws.proofs.Raising.{all_filter}
use Rattle.range_laws.proofs.Hearing.{RequestIn}
use Rattle.range_laws.proofs.Written.{PartsIn, request_body}

abbrev Bytes : List ℕ → Type 0
Bytes xs = IsTrue (list_all is_byte xs)

bytes_take : (n : ℕ) (xs : List ℕ) → Bytes xs → Bytes (take n xs)
bytes_take zero xs h = refl
bytes_take (suc n) [] h = refl
bytes_take (suc n) (x ∷ xs) h = let p = and_parts (is_byte x) (list_all is_byte xs) h in and_from (is_byte x) (list_all is_byte (take n xs)) p.0 (bytes_take n xs p.1)

bytes_drop : (n : ℕ) (xs : List ℕ) → Bytes xs → Bytes (drop n xs)
bytes_drop zero xs h = h
bytes_drop (suc n) [] h = refl
bytes_drop (suc n) (x ∷ xs) h = bytes_drop n xs (and_parts (is_byte x) (list_all is_byte xs) h).1

-- a value is such, or the fault is at this offset
abbrev Gives : {A : Type 0} → ℕ → (A → Type 0) → Result A WireFault → Type 0
Gives at P (Ok a) = P a
Gives at P (Err e) = offset_of e ≡ at

module _ {A B : Type 0} where
  gives_then : (at : ℕ) (P : A → Type 0) (Q : B → Type 0) (x : Result A WireFault) (f : A → Result B WireFault) → Gives at P x → ((a : A) → P a → Gives at Q (f a)) → Gives at Q (x >>= f)
  gives_then at P Q (Ok a) f h each = each a h
  gives_then at P Q (Err e) f h each = h

number_gives : (at more : ℕ) (bytes : List ℕ) → Gives at (λ (v : ℕ × ℕ). v.1 ≤ more + 1) (number_in at more bytes)
unfolding number_in
number_gives at zero [] = refl
number_gives at (suc more) [] = refl
number_gives at zero (b ∷ bytes) = cond_both (nat_lt 1 b) (Err (wire.LongVarint at)) (Ok (b, 1)) (Gives at (λ (v : ℕ × ℕ). v.1 ≤ 0 + 1)) (λ b. refl) (λ b. omega arith)
number_gives at (suc more) (b ∷ bytes) = cond_both (nat_lt b 128) (Ok (b, 1)) _ (Gives at (λ (v : ℕ × ℕ). v.1 ≤ suc more + 1)) (λ c. omega arith)
    (λ c. gives_then at (λ (v : ℕ × ℕ). v.1 ≤ more + 1) (λ (v : ℕ × ℕ). v.1 ≤ suc more + 1) (number_in at more bytes) (λ high. Ok (b - 128 + 128 * high.0, 1 + high.1)) (number_gives at more bytes) (λ v h. omega (arith, h)))

abbrev BlockIn : List ℕ → Type 0
BlockIn xs = Bytes xs × (length xs ≤ 65536)

abbrev ContentIn : Content → Type 0
ContentIn (Block x) = BlockIn x
ContentIn other = Unit {0}

record FieldIn (n : ℕ) (f : Field) : Type 0 where
  at : f.content_at ≤ n
  content : ContentIn f.content

front_gives : (at n : ℕ) (bytes : List ℕ) → BlockIn bytes → Gives at BlockIn (front at n bytes)
front_gives at n bytes h = cond_both (nat_lt (length bytes) n) (Err (wire.Cut at)) (Ok (take n bytes)) (Gives at BlockIn) (λ b. refl) (λ b. (bytes_take n bytes h.0, omega (arith, length-take n bytes, h.1)))

drop_in : (n : ℕ) (bytes : List ℕ) → BlockIn bytes → BlockIn (drop n bytes)
drop_in n bytes h = (bytes_drop n bytes h.0, omega (arith, length-drop n bytes, h.1))

payload_gives : (number w at start n : ℕ) (bytes : List ℕ) → start + 10 ≤ n → BlockIn bytes → Gives at (FieldIn n) (payload_field number w at start bytes)
unfolding payload_field
payload_gives number w at start n bytes le h =
    cond_both (w == 0) _ _ (Gives at (FieldIn n))
    (λ b. gives_then at (λ (v : ℕ × ℕ). v.1 ≤ 10) (FieldIn n) (number_in at 9 bytes) (λ v. Ok (record { number = number; content = Varint v.0; at = at; content_at = start; next = start + v.1 })) (number_gives at 9 bytes) (λ v x. record { at = omega (arith, le); content = tt }))
    (λ b. cond_both (w == 1) _ _ (Gives at (FieldIn n))
    (λ b. gives_then at BlockIn (FieldIn n) (front at 8 bytes) (λ x. Ok (record { number = number; content = Eight x; at = at; content_at = start; next = start + 8 })) (front_gives at 8 bytes h) (λ v x. record { at = omega (arith, le); content = tt }))
    (λ b. cond_both (w == 2) _ _ (Gives at (FieldIn n))
    (λ b. gives_then at (λ (v : ℕ × ℕ). v.1 ≤ 10) (FieldIn n) (number_in at 9 bytes) (λ k. front at k.0 (drop k.1 bytes) >>= (λ x. Ok (record { number = number; content = Block x; at = at; content_at = start + k.1; next = start + k.1 + k.0 }))) (number_gives at 9 bytes)
    (λ k y. gives_then at BlockIn (FieldIn n) (front at k.0 (drop k.1 bytes)) (λ x. Ok (record { number = number; content = Block x; at = at; content_at = start + k.1; next = start + k.1 + k.0 })) (front_gives at k.0 (drop k.1 bytes) (drop_in k.1 bytes h)) (λ v x. record { at = omega (arith, le, y); content = x })))
    (λ b. cond_both (w == 5) _ _ (Gives at (FieldIn n))
    (λ b. gives_then at BlockIn (FieldIn n) (front at 4 bytes) (λ x. Ok (record { number = number; content = Four x; at = at; content_at = start; next = start + 4 })) (front_gives at 4 bytes h) (λ v x. record { at = omega (arith, le); content = tt }))
    (λ b. cond_both (w == 3 || w == 4) (Err (wire.GroupWire at)) (Err (wire.BadWire at)) (Gives at (FieldIn n)) (λ b. refl) (λ b. refl)))))

field_gives : (at n : ℕ) (bytes : List ℕ) → at + 20 ≤ n → BlockIn bytes → Gives at (FieldIn n) (field_at at bytes)
unfolding field_at
field_gives at n bytes le h =
    gives_then at (λ (v : ℕ × ℕ). v.1 ≤ 10) (FieldIn n) (number_in at 9 bytes) (λ t. if t.0 / 8 == 0 then Err (wire.FieldZero at) else payload_field (t.0 / 8) (t.0 % 8) at (at + t.1) (drop t.1 bytes)) (number_gives at 9 bytes)
    (λ t x. cond_both (t.0 / 8 == 0) (Err (wire.FieldZero at)) (payload_field (t.0 / 8) (t.0 % 8) at (at + t.1) (drop t.1 bytes)) (Gives at (FieldIn n)) (λ b. refl)
    (λ b. payload_gives (t.0 / 8) (t.0 % 8) at (at + t.1) n (drop t.1 bytes) (omega (arith, le, x)) (drop_in t.1 bytes h)))

record SeqIn (n : ℕ) (s : Sequence) : Type 0 where
  fields : AllByRecursion (FieldIn n) s.fields
  fault : IfSome s.fault (λ e. offset_of e ≤ n)

more_in : (at n : ℕ) (r : Result Field WireFault) (more : Field → Sequence) → at ≤ n → Gives at (FieldIn n) r → ((f : Field) → SeqIn n (more f)) → SeqIn n (then_more r more)
more_in at n (Ok f) more le h rest = let r = rest f in record { fields = (h, r.fields); fault = r.fault }
more_in at n (Err e) more le h rest = record { fields = tt; fault = omega (arith, h, le) }

behind_in : (inside at n : ℕ) (bytes : List ℕ) → at + length bytes + 20 ≤ n → BlockIn bytes → SeqIn n (sequence_behind inside at bytes)
unfolding sequence_behind
behind_in zero at n [] le h = record { fields = tt; fault = tt }
behind_in (suc inside) at n [] le h = record { fields = tt; fault = tt }
behind_in (suc inside) at n (b ∷ bytes) le h = behind_in inside (at + 1) n bytes (omega (arith, le)) (drop_in 1 (b ∷ bytes) h)
behind_in zero at n (b ∷ bytes) le h =
    more_in at n (field_at at (b ∷ bytes)) (λ f. sequence_behind (f.next - (at + 1)) (at + 1) bytes) (omega (arith, le)) (field_gives at n (b ∷ bytes) (omega (arith, le)) h)
    (λ f. behind_in (f.next - (at + 1)) (at + 1) n bytes (omega (arith, le)) (drop_in 1 (b ∷ bytes) h))

-- what stands inside a field
inside_in : (n m : ℕ) (f : Field) → n + 65556 ≤ m → FieldIn n f → SeqIn m (embedded f)
inside_in n m f le h = by_content f.content h.content
  where
    by_content : (c : Content) → ContentIn c → SeqIn m (embedded (record f { content = c }))
    by_content (Varint x) y = record { fields = tt; fault = tt }
    by_content (Eight x) y = record { fields = tt; fault = tt }
    by_content (Block x) y = behind_in 0 f.content_at m x (omega (arith, h.at, y.1, le)) y
    by_content (Four x) y = record { fields = tt; fault = tt }

-- ---- the member that stands last
module _ {A : Type 0} (P : A → Type 0) where
  all_while : (test : A → Bool) (xs : List A) → AllByRecursion P xs → AllByRecursion P (take_while test xs)
  all_while test [] h = tt
  all_while test (x ∷ xs) h = subst (λ (ys : List A). AllByRecursion P ys) (sym (take_while-cons test x xs)) (cond_both (test x) (x ∷ take_while test xs) [] (λ ys. AllByRecursion P ys) (λ b. (h.0, all_while test xs h.1)) (λ b. tt))

  all_reverse : (xs : List A) → AllByRecursion P xs → AllByRecursion P (reverse xs)
  all_reverse [] h = tt
  all_reverse (x ∷ xs) h = subst (λ (ys : List A). AllByRecursion P ys) (sym (reverse-append (x ∷ []) xs)) (all-append P (reverse xs) (x ∷ []) (all_reverse xs h.1) (h.0, tt))

inner_fields : (n m : ℕ) → n + 65556 ≤ m → (ms : List Field) → AllByRecursion (FieldIn n) ms → AllByRecursion (FieldIn m) (flat_map (λ f. (embedded f).fields) ms)
inner_fields n m le [] h = tt
inner_fields n m le (f ∷ ms) h = all-append (FieldIn m) (embedded f).fields (flat_map (λ f. (embedded f).fields) ms) (inside_in n m f le h.0).fields (inner_fields n m le ms h.1)

abbrev from_last : List Field → Option (ℕ × List Field)
from_last [] = None
from_last (last ∷ before) = Some (last.number, flat_map (λ m. (embedded m).fields) (reverse (take_while (λ m. m.number == last.number) (last ∷ before))))

last_in : (n m : ℕ) → n + 65556 ≤ m → (ms : List Field) → AllByRecursion (FieldIn n) ms → IfSome (from_last ms) (λ x. AllByRecursion (FieldIn m) x.1)
last_in n m le [] h = tt
last_in n m le (last ∷ before) h =
    inner_fields n m le (reverse (take_while (λ m. m.number == last.number) (last ∷ before))) (all_reverse (FieldIn n) (take_while (λ m. m.number == last.number) (last ∷ before)) (all_while (FieldIn n) (λ m. m.number == last.number) (last ∷ before) h))

-- ---- the first fault
faults_in : (n m : ℕ) → n + 65556 ≤ m → (fs : List Field) → AllByRecursion (FieldIn n) fs → AllByRecursion (λ e. offset_of e ≤ m) (filter_map (member_fault 2 5) fs)
faults_in n m le [] h = tt
faults_in n m le (f ∷ fs) h = one (member_fault 2 5 f) (cond_both (is_member 2 5 f) (embedded f).fault None (λ o. IfSome o (λ e. offset_of e ≤ m)) (λ b. (inside_in n m f le h.0).fault) (λ b. tt)) (faults_in n m le fs h.1)
  where
    one : (o : Option WireFault) → IfSome o (λ e. offset_of e ≤ m) → AllByRecursion (λ e. offset_of e ≤ m) (filter_map (member_fault 2 5) fs) → AllByRecursion (λ e. offset_of e ≤ m) (cons_option o (filter_map (member_fault 2 5) fs))
    one None x rest = rest
    one (Some e) x rest = (x, rest)

own_in : (n m : ℕ) → n ≤ m → (o : Option WireFault) → IfSome o (λ e. offset_of e ≤ n) → AllByRecursion (λ e. offset_of e ≤ m) (option_to_list o)
own_in n m le None h = tt
own_in n m le (Some e) h = (omega (arith, h, le), tt)

head_in : (P : WireFault → Type 0) (xs : List WireFault) → AllByRecursion P xs → IfSome (slice_get xs 0) P
head_in P [] h = tt
head_in P (x ∷ xs) h = h.0

-- ---- the blocks and numbers of a member
abbrev AllBlocks : List (List ℕ) → Type 0
AllBlocks xs = AllByRecursion BlockIn xs

blocks_in : (n number : ℕ) (fs : List Field) → AllByRecursion (FieldIn n) fs → AllBlocks (blocks_of number fs)
blocks_in n number [] h = tt
blocks_in n number (f ∷ fs) h = one (block_under number f) (cond_both (f.number == number) (block_in f.content) None (λ o. IfSome o BlockIn) (λ b. of_content f.content h.0.content) (λ b. tt)) (blocks_in n number fs h.1)
  where
    of_content : (c : Content) → ContentIn c → IfSome (block_in c) BlockIn
    of_content (Varint x) y = tt
    of_content (Eight x) y = tt
    of_content (Block x) y = y
    of_content (Four x) y = tt

    one : (o : Option (List ℕ)) → IfSome o BlockIn → AllBlocks (blocks_of number fs) → AllBlocks (cons_option o (blocks_of number fs))
    one None x rest = rest
    one (Some b) x rest = (x, rest)

last_block : (xs : List (List ℕ)) (o : Option (List ℕ)) → IfSome o BlockIn → AllBlocks xs → BlockIn (unwrap_or (last_or o xs) [])
last_block [] None x h = (refl, omega arith)
last_block [] (Some b) x h = x
last_block (y ∷ xs) o x h = last_block xs (Some y) h.0 h.1

bytes_in : (n number : ℕ) (fs : List Field) → AllByRecursion (FieldIn n) fs → BlockIn (bytes_of number fs)
bytes_in n number fs h = last_block (blocks_of number fs) None tt (blocks_in n number fs h)

-- ---- the request
abbrev SizeLow : Option (Part × ℕ) → Type 0
SizeLow o = IfSome o (λ x. x.1 ≤ max_u64)

outside_low : (part : Part) (least most size : ℕ) → size ≤ max_u64 → SizeLow (outside part least most size)
outside_low part least most size le = cond_both (nat_le least size && nat_le size most) None (Some (part, size)) SizeLow (λ b. tt) (λ b. le)

either_low : (a b : Option (Part × ℕ)) → SizeLow a → SizeLow b → SizeLow (option_or a b)
either_low None b x y = y
either_low (Some p) b x y = x

abbrev ReadIn : Request → Type 0
ReadIn q = PartsIn q × SizeLow (size_fault q)

request_read : (n number : ℕ) (fs : List Field) → AllByRecursion (FieldIn n) fs → ReadIn (request_from number fs)
request_read n number fs h =
    let one = bytes_in n 1 fs h in
    let two = bytes_in n 2 fs h in
    let small : u32_of 3 fs ≤ max_u64 = omega arith in
    cond_both (number == 2) (Backup (bytes_of 1 fs) (record { 0 = bytes_of 2 fs }) (u32_of 3 fs)) _ ReadIn
    (λ b. ((one.0, two.0), either_low (secret_fault (bytes_of 1 fs)) _ (outside_low _ 16 48 (length (bytes_of 1 fs)) (omega (arith, one.1))) (either_low (pin_fault (record { 0 = bytes_of 2 fs })) (tries_fault (u32_of 3 fs)) (outside_low _ 32 32 (length (bytes_of 2 fs)) (omega (arith, two.1))) (outside_low _ 1 255 (u32_of 3 fs) small))))
    (λ b. cond_both (number == 3) (Restore (record { 0 = bytes_of 1 fs })) _ ReadIn
    (λ b. (one.0, outside_low _ 32 32 (length (bytes_of 1 fs)) (omega (arith, one.1))))
    (λ b. cond_both (number == 4) Delete (Expose (bytes_of 1 fs)) ReadIn (λ b. (tt, tt)) (λ b. (one.0, outside_low _ 16 48 (length (bytes_of 1 fs)) (omega (arith, one.1))))))

module _ (client : ClientId) (number : ℕ) (who : IsTrue (is_client_id client && is_u64 number)) where
  sized_read : (q : Request) → PartsIn q → (o : Option (Part × ℕ)) → size_fault q ≡ o → SizeLow o → RequestIn client number (if_sized o q)
  sized_read q parts None is low = let v = size_fault-valid q is in request_body client number q who v.0 v.1 parts
  sized_read q parts (Some (part, size)) is low = le-leb size max_u64 low

  member_read : (m : ℕ) (fault : Option WireFault) (member : Option (ℕ × List Field)) → m ≤ MAX_EVENTS → IfSome fault (λ e. offset_of e ≤ m) → IfSome member (λ x. AllByRecursion (FieldIn m) x.1) → RequestIn client number (request_in fault member)
  member_read m (Some fault) member small x y = le-leb (offset_of fault) max_u64 (omega (arith, x, small))
  member_read m None None small x y = tt
  member_read m None (Some (k, fs)) small x y = let r = request_read m k fs y in sized_read (request_from k fs) r.0 (size_fault (request_from k fs)) refl r.1

  pub handed_in : (bytes : List ℕ) → Bytes bytes → length bytes ≤ 65536 → RequestIn client number (request_of bytes)
  handed_in bytes h short =
      let s = behind_in 0 0 100000 bytes (omega (arith, short)) (h, short) in
      let fs : List Field = (sequence_at 0 bytes).fields in
      member_read 200000 (first_fault 2 5 (sequence_at 0 bytes)) (last_member 2 5 fs) (omega arith)
      (head_in (λ e. offset_of e ≤ 200000) _ (all-append (λ e. offset_of e ≤ 200000) (filter_map (member_fault 2 5) fs) (option_to_list (sequence_at 0 bytes).fault) (faults_in 100000 200000 (omega arith) fs s.fields) (own_in 100000 200000 (omega arith) (sequence_at 0 bytes).fault s.fault)))
      (last_in 100000 200000 (omega arith) (reverse (members_of 2 5 fs)) (all_reverse (FieldIn 100000) (members_of 2 5 fs) (all_filter (FieldIn 100000) (is_member 2 5) fs s.fields)))
