-- A content is read as an input exactly where it says one.
use Rattle.std.proofs.Common.{◌≡◌, ℕ, zero, suc, ◌≤◌, Bool, true, false, cond, List, [], ◌∷◌, length, Option, Some, None, Result, Ok, Err, refl, ap, subst, ◌∙◌, arith}
use Rattle.std.specs.Prelude.{IfOk, nat_le, ◌&&◌}
use Rattle.std.specs.Int.{w8, w32, w64}
use Rattle.std.proofs.lemmas.Bool.{leb-true, and_parts}
use Rattle.fixed_fields.specs.Formats.{◌>>=◌, Content, number, block, nothing, rest, before, counted, IsBytes, IsContent, IsOfWidth, AreFewWords}
use Rattle.fixed_fields.proofs.Bytes.{IsBytes-drop, wide8, wide32, wide64}
use Rattle.fixed_fields.proofs.Laws.{bind_some, some_is, number_is, block_is, nothing_is, rest_is, alone_is, before_is}
use Rattle.fixed_fields.proofs.Numbers.{counted_is}
use Rattle.host_inputs.specs.declared.input.HostFault.{HostFault}
use Rattle.host_inputs.specs.declared.input.HostIn.{HostIn}
use Rattle.host_inputs.specs.declared.input.HostFault.TheVariants.{Kind}
use Rattle.host_inputs.specs.Inputs.{Input, Begin, Learn, Tick, Peer, Client, Join, Admit, Remove, Save, Roll, Link, Margin, listed_in, input_of, input_bytes, begin_fields, learn_fields, client_fields, number_field, margin_field, FitsInput, FitsBegin, FitsLearn, FitsClient}
use Rattle.group_quorum.specs.declared.ConfigFault.{ConfigFault}
use Rattle.values.specs.Rising.{Rising}
use Rattle.host_inputs.specs.Checking.{checked, if_ids, if_set_up, in_order, IsSound}
use Rattle.host_inputs.proofs.Orders.{rising-rising, each_once-rising}
use Rattle.host_inputs.specs.Reading.{begin_in, learn_in, client_in, margin_in, bare_in, parts_in, if_parts, input_in, IsSaid, ReadsHost}

begin_is : IsContent begin_fields FitsBegin
begin_is =
    before_is (number w32) (before (number w8) (before (number w32) counted)) (IsOfWidth w32) (λ q. IsOfWidth w8 q.0 × (IsOfWidth w32 q.1.0 × AreFewWords q.1.1)) (number_is w32 wide32)
    (before_is (number w8) (before (number w32) counted) (IsOfWidth w8) (λ q. IsOfWidth w32 q.0 × AreFewWords q.1) (number_is w8 wide8) (before_is (number w32) counted (IsOfWidth w32) AreFewWords (number_is w32 wide32) counted_is))

learn_is : IsContent learn_fields FitsLearn
learn_is = before_is (number w32) counted (IsOfWidth w32) AreFewWords (number_is w32 wide32) counted_is

client_is : IsContent client_fields FitsClient
client_is =
    before_is (block 16) (before (number w64) rest) (λ bytes. length bytes ≡ 16) (λ q. IsOfWidth w64 q.0 × Unit {0}) (block_is 16)
    (before_is (number w64) rest (IsOfWidth w64) (λ bytes. Unit {0}) (number_is w64 wide64) rest_is)

number_field_is : IsContent number_field (IsOfWidth w32)
number_field_is = alone_is (number w32) (IsOfWidth w32) (number_is w32 wide32)

margin_field_is : IsContent margin_field (IsOfWidth w8)
margin_field_is = alone_is (number w8) (IsOfWidth w8) (number_is w8 wide8)

-- ---- what an input is written as is read as that input

read_back : {X : Type 0} (g : Content X) (make : X → Input) (size : ℕ) (x : X) → g.read (g.spelled x) ≡ Some x → if_parts size (g.read (g.spelled x) >>= λ y. Some (make y)) ≡ checked (make x)
read_back g make size x e = ap (λ o. if_parts size (o >>= λ y. Some (make y))) e

pub said_is_read : (input : Input) → FitsInput input → input_in (input_bytes input) ≡ checked input
unfolding parts_in
said_is_read (Begin id margin limit voters) fits = read_back begin_fields (λ p. Begin p.0 p.1.0 p.1.1.0 p.1.1.1) _ (id, (margin, (limit, voters))) (begin_is.again _ fits)
said_is_read (Learn id linked) fits = read_back learn_fields (λ p. Learn p.0 p.1) _ (id, linked) (learn_is.again _ fits)
said_is_read Tick fits = refl
said_is_read (Peer frame) fits = refl
said_is_read (Client client number request) fits = read_back client_fields (λ p. Client (record { 0 = p.0 }) p.1.0 p.1.1) _ (client.0, (number, request)) (client_is.again _ fits)
said_is_read (Join id) fits = read_back number_field Join _ id (number_field_is.again id fits)
said_is_read (Admit id) fits = read_back number_field Admit _ id (number_field_is.again id fits)
said_is_read (Remove id) fits = read_back number_field Remove _ id (number_field_is.again id fits)
said_is_read Save fits = refl
said_is_read (Roll k) fits = read_back number_field Roll _ k (number_field_is.again k fits)
said_is_read (Link id) fits = read_back number_field Link _ id (number_field_is.again id fits)
said_is_read (Margin margin) fits = read_back margin_field Margin _ margin (margin_field_is.again margin fits)

-- ---- what is read was said

abbrev Says : ℕ → List ℕ → Input → Type 0
Says kind bytes input = (kind ∷ bytes ≡ input_bytes input) × FitsInput input

said_as : {X : Type 0} (g : Content X) (P : X → Type 0) → IsContent g P → (make : X → Input) (kind : ℕ) (bytes : List ℕ) (input : Input) → IsBytes bytes
    → ((x : X) → P x → Says kind (g.spelled x) (make x)) → (g.read bytes >>= λ x. Some (make x)) ≡ Some input → Says kind bytes input
said_as g P is make kind bytes input fits each e =
    let b = bind_some (g.read bytes) (λ x. Some (make x)) input e in
    let t = is.taken bytes b.value fits b.first in
    let s = each b.value t.1 in
    subst (Says kind bytes) (some_is (make b.value) input b.then) (ap (λ (rest : List ℕ). kind ∷ rest) t.0 ∙ s.0, s.1)

begin_said : (bytes : List ℕ) (input : Input) → IsBytes bytes → begin_in bytes ≡ Some input → Says 1 bytes input
begin_said bytes input fits e = said_as begin_fields FitsBegin begin_is (λ p. Begin p.0 p.1.0 p.1.1.0 p.1.1.1) 1 bytes input fits (λ x p. (refl, p)) e

learn_said : (bytes : List ℕ) (input : Input) → IsBytes bytes → learn_in bytes ≡ Some input → Says 2 bytes input
learn_said bytes input fits e = said_as learn_fields FitsLearn learn_is (λ p. Learn p.0 p.1) 2 bytes input fits (λ x p. (refl, p)) e

tick_said : (bytes : List ℕ) (input : Input) → IsBytes bytes → bare_in Tick bytes ≡ Some input → Says 3 bytes input
tick_said bytes input fits e = said_as nothing (λ u. Unit {0}) nothing_is (λ u. Tick) 3 bytes input fits (λ x p. (refl, tt)) e

save_said : (bytes : List ℕ) (input : Input) → IsBytes bytes → bare_in Save bytes ≡ Some input → Says 9 bytes input
save_said bytes input fits e = said_as nothing (λ u. Unit {0}) nothing_is (λ u. Save) 9 bytes input fits (λ x p. (refl, tt)) e

client_said : (bytes : List ℕ) (input : Input) → IsBytes bytes → client_in bytes ≡ Some input → Says 5 bytes input
client_said bytes input fits e = said_as client_fields FitsClient client_is (λ p. Client (record { 0 = p.0 }) p.1.0 p.1.1) 5 bytes input fits (λ x p. (refl, p)) e

margin_said : (bytes : List ℕ) (input : Input) → IsBytes bytes → margin_in bytes ≡ Some input → Says 12 bytes input
margin_said bytes input fits e = said_as margin_field (IsOfWidth w8) margin_field_is Margin 12 bytes input fits (λ x p. (refl, p)) e

peer_said : (bytes : List ℕ) (input : Input) → Some (Peer bytes) ≡ Some input → Says 4 bytes input
peer_said bytes input e = subst (Says 4 bytes) (some_is (Peer bytes) input e) (refl, tt)

numbered_said : (make : ℕ → Input) (kind : ℕ) → ((n : ℕ) → IsOfWidth w32 n → Says kind (number_field.spelled n) (make n)) → (bytes : List ℕ) (input : Input) → IsBytes bytes
    → (number_field.read bytes >>= λ n. Some (make n)) ≡ Some input → Says kind bytes input
numbered_said make kind each bytes input fits e = said_as number_field (IsOfWidth w32) number_field_is make kind bytes input fits each e

-- a kind is one of twelve
twelve : (P : ℕ → Type 0) → P 1 → P 2 → P 3 → P 4 → P 5 → P 6 → P 7 → P 8 → P 9 → P 10 → P 11 → P 12 → (kind : ℕ) → 1 ≤ kind → kind ≤ 12 → P kind
twelve P a b c d e f g h i j k l zero low high = absurd (omega arith)
twelve P a b c d e f g h i j k l (suc zero) low high = a
twelve P a b c d e f g h i j k l (suc (suc zero)) low high = b
twelve P a b c d e f g h i j k l (suc (suc (suc zero))) low high = c
twelve P a b c d e f g h i j k l (suc (suc (suc (suc zero)))) low high = d
twelve P a b c d e f g h i j k l (suc (suc (suc (suc (suc zero))))) low high = e
twelve P a b c d e f g h i j k l (suc (suc (suc (suc (suc (suc zero)))))) low high = f
twelve P a b c d e f g h i j k l (suc (suc (suc (suc (suc (suc (suc zero))))))) low high = g
twelve P a b c d e f g h i j k l (suc (suc (suc (suc (suc (suc (suc (suc zero)))))))) low high = h
twelve P a b c d e f g h i j k l (suc (suc (suc (suc (suc (suc (suc (suc (suc zero))))))))) low high = i
twelve P a b c d e f g h i j k l (suc (suc (suc (suc (suc (suc (suc (suc (suc (suc zero)))))))))) low high = j
twelve P a b c d e f g h i j k l (suc (suc (suc (suc (suc (suc (suc (suc (suc (suc (suc zero))))))))))) low high = k
twelve P a b c d e f g h i j k l (suc (suc (suc (suc (suc (suc (suc (suc (suc (suc (suc (suc zero)))))))))))) low high = l
twelve P a b c d e f g h i j k l (suc (suc (suc (suc (suc (suc (suc (suc (suc (suc (suc (suc (suc n))))))))))))) low high = absurd (omega arith)

parts_said : (kind : ℕ) (bytes : List ℕ) (input : Input) → 1 ≤ kind → kind ≤ 12 → IsBytes bytes → parts_in kind bytes ≡ Some input → Says kind bytes input
unfolding parts_in
parts_said kind bytes input low high fits e =
    let P : ℕ → Type 0 = λ k. parts_in k bytes ≡ Some input → Says k bytes input in
    twelve P (begin_said bytes input fits) (learn_said bytes input fits) (tick_said bytes input fits) (peer_said bytes input) (client_said bytes input fits)
    (numbered_said Join 6 (λ n p. (refl, p)) bytes input fits) (numbered_said Admit 7 (λ n p. (refl, p)) bytes input fits) (numbered_said Remove 8 (λ n p. (refl, p)) bytes input fits)
    (save_said bytes input fits) (numbered_said Roll 10 (λ n p. (refl, p)) bytes input fits) (numbered_said Link 11 (λ n p. (refl, p)) bytes input fits) (margin_said bytes input fits)
    kind low high e

abbrev answered : Input → Result Input HostFault
answered input = Ok input

if_parts_said : (size : ℕ) (o : Option Input) (input : Input) → if_parts size o ≡ answered input → (listed : Input) × (o ≡ Some listed) × (checked listed ≡ answered input)
if_parts_said size None input e = absurd cc
if_parts_said size (Some listed) input e = (listed, refl, e)

known_said : (kind : ℕ) (bytes : List ℕ) (input : Input) (known : Bool) → (nat_le 1 kind && nat_le kind 12) ≡ known → IsBytes bytes
    → cond known (if_parts (length (kind ∷ bytes)) (parts_in kind bytes)) (Err (Kind kind)) ≡ answered input → IsSaid (kind ∷ bytes) input
known_said kind bytes input false is fits e = absurd cc
known_said kind bytes input true is fits e =
    let both = and_parts (nat_le 1 kind) (nat_le kind 12) is in
    let p = if_parts_said (length (kind ∷ bytes)) (parts_in kind bytes) input e in
    let s = parts_said kind bytes p.0 (leb-true 1 kind both.0) (leb-true kind 12 both.1) fits p.1 in
    record { listed = p.0; fits = s.1; bytes = s.0; checked = p.2 }

pub read_was_said : (bytes : List ℕ) (input : Input) → IsBytes bytes → input_in bytes ≡ answered input → IsSaid bytes input
read_was_said [] input fits e = absurd cc
read_was_said (kind ∷ bytes) input fits e = known_said kind bytes input (nat_le 1 kind && nat_le kind 12) refl (IsBytes-drop 1 (kind ∷ bytes) fits) e

-- ---- an input in which nothing is wrong

in_order-sound : (input : Input) → Rising (listed_in input) → in_order input ≡ input
in_order-sound (Begin id margin limit voters) up = ap (Begin id margin limit) (rising-rising voters up)
in_order-sound (Learn id linked) up = ap (Learn id) (each_once-rising linked up)
in_order-sound Tick up = refl
in_order-sound (Peer frame) up = refl
in_order-sound (Client client number request) up = refl
in_order-sound (Join id) up = refl
in_order-sound (Admit id) up = refl
in_order-sound (Remove id) up = refl
in_order-sound Save up = refl
in_order-sound (Roll k) up = refl
in_order-sound (Link id) up = refl
in_order-sound (Margin margin) up = refl

pub read_again : (input : Input) → FitsInput input → IsSound input → input_in (input_bytes input) ≡ answered input
read_again input fits sound =
    said_is_read input fits ∙ ap (λ (o : Option ℕ). if_ids o input) sound.ids ∙ ap (λ (o : Option ConfigFault). if_set_up o input) sound.setup ∙ ap answered (in_order-sound input sound.rising)

-- ---- as clauses on a result

pub found : (content : List ℕ) (r : Result HostIn HostFault) → IsBytes content → ReadsHost r (input_in content) → IfOk r (λ input. IsSaid content (input_of input))
found content (Err fault) fits reads = tt
found content (Ok input) fits reads = read_was_said content (input_of input) fits reads

pub only : (content : List ℕ) (r : Result HostIn HostFault) → ReadsHost r (input_in content) → (listed : Input) → FitsInput listed → content ≡ input_bytes listed → ReadsHost r (checked listed)
only content r reads listed fits e = subst (ReadsHost r) (ap input_in e ∙ said_is_read listed fits) reads
