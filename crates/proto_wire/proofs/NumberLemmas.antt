-- Reading a varint group by group, from the low one on.
use Rattle.std.proofs.Common.{◌≡◌, ℕ, suc, ◌+◌, ◌-◌, ◌*◌, ◌%◌, ◌^◌, ◌<◌, ◌≤◌, List, [], ◌∷◌, Some, Result, Ok, Err, ltb, refl, sym, ap, subst, ◌∙◌, arith}
use Rattle.std.specs.Prelude.{slice_get}
use Rattle.std.proofs.lemmas.Bool.{lt-ltb, le-ltb, cond-true, cond-false}
use Rattle.std.proofs.lemmas.Nat.{pow-add, shl_whole, mul-add-lt}
use Rattle.std.proofs.Math.Nat.{pow-le-pow_right}
use Rattle.proto_wire.specs.declared.field.WireFault.{WireFault}
use Rattle.proto_wire.specs.declared.field.WireFault.TheVariants.{Cut, LongVarint}
use Rattle.proto_wire.specs.Steps.{◌>>=◌}
use Rattle.proto_wire.specs.Varint.{number_in, varint_at}

-- the number of which a low part and so many bytes were read before
abbrev pub with_low : (low place before : ℕ) → Result (ℕ × ℕ) WireFault → Result (ℕ × ℕ) WireFault
with_low low place before read = read >>= λ x. Ok (low + place * x.0, before + x.1)

pub starts : (read : Result (ℕ × ℕ) WireFault) → with_low 0 1 0 read ≡ read
starts (Ok x) =
    let n : 0 + 1 * x.0 ≡ x.0 = omega arith in
    let m : 0 + x.1 ≡ x.1 = omega arith in
    ap (λ (a : ℕ). Ok (a, 0 + x.1)) n ∙ ap (λ (b : ℕ). Ok (x.0, b)) m
starts (Err e) = refl

regroup : (low place before k : ℕ) (read : Result (ℕ × ℕ) WireFault) → with_low low place before (read >>= λ h. Ok (k + 128 * h.0, 1 + h.1)) ≡ with_low (low + k * place) (place * 128) (before + 1) read
regroup low place before k (Ok x) =
    let n : low + place * (k + 128 * x.0) ≡ (low + k * place) + place * 128 * x.0 = omega arith in
    let m : before + (1 + x.1) ≡ (before + 1) + x.1 = omega arith in
    ap (λ (a : ℕ). Ok (a, before + (1 + x.1))) n ∙ ap (λ (b : ℕ). Ok ((low + k * place) + place * 128 * x.0, b)) m
regroup low place before k (Err e) = refl

-- a varint of one byte
pub one_byte : (at b : ℕ) (bytes : List ℕ) → Some b ≡ slice_get bytes 0 → b < 128 → Ok (b, 1) ≡ varint_at at bytes
unfolding number_in
one_byte at b [] is small = absurd cc
one_byte at b (a ∷ bytes) is small =
    let same : a ≡ b = cc in
    sym (ap (λ (x : ℕ). varint_at at (x ∷ bytes)) same ∙ cond-true (ltb b 128) _ _ (lt-ltb b 128 small))

-- one group on: it is not the last
pub goes_on : (at i low b : ℕ) (rest after : List ℕ) (total : Result (ℕ × ℕ) WireFault) → i < 9 → rest ≡ b ∷ after → 128 ≤ b
    → with_low low (2 ^ (7 * i)) i (number_in at (9 - i) rest) ≡ total → with_low (low + (b - 128) * 2 ^ (7 * i)) (2 ^ (7 * (i + 1))) (i + 1) (number_in at (9 - (i + 1)) after) ≡ total
unfolding number_in
goes_on at i low b rest after total lt is large whole =
    let m = 9 - (i + 1) in
    let more : 9 - i ≡ suc m = omega arith in
    let place : 2 ^ (7 * (i + 1)) ≡ 2 ^ (7 * i) * 128 = ap (λ (k : ℕ). 2 ^ k) (omega arith) ∙ pow-add 2 (7 * i) 7 in
    let here : number_in at (9 - i) rest ≡ (number_in at m after >>= λ h. Ok (b - 128 + 128 * h.0, 1 + h.1)) =
    ap (λ (k : ℕ). number_in at k rest) more ∙ ap (number_in at (suc m)) is ∙ cond-false (ltb b 128) _ _ (le-ltb b 128 large) in
    rw place (sym (regroup low (2 ^ (7 * i)) i (b - 128) (number_in at m after)) ∙ ap (with_low low (2 ^ (7 * i)) i) (sym here) ∙ whole)

-- the last group
pub ends : (at i low b : ℕ) (rest after : List ℕ) (total : Result (ℕ × ℕ) WireFault) → i < 9 → rest ≡ b ∷ after → b < 128
    → with_low low (2 ^ (7 * i)) i (number_in at (9 - i) rest) ≡ total → total ≡ Ok (low + b * 2 ^ (7 * i), i + 1)
unfolding number_in
ends at i low b rest after total lt is small whole =
    let m = 9 - (i + 1) in
    let more : 9 - i ≡ suc m = omega arith in
    let here : number_in at (9 - i) rest ≡ Ok (b, 1) =
    ap (λ (k : ℕ). number_in at k rest) more ∙ ap (number_in at (suc m)) is ∙ cond-true (ltb b 128) _ _ (lt-ltb b 128 small) in
    let n : low + 2 ^ (7 * i) * b ≡ low + b * 2 ^ (7 * i) = omega arith in
    sym whole ∙ ap (with_low low (2 ^ (7 * i)) i) here ∙ ap (λ (a : ℕ). Ok (a, i + 1)) n

-- the tenth byte
at_tenth : (at i low : ℕ) (rest : List ℕ) (total : Result (ℕ × ℕ) WireFault) → i ≡ 9 → with_low low (2 ^ (7 * i)) i (number_in at (9 - i) rest) ≡ total → with_low low (2 ^ 63) 9 (number_in at 0 rest) ≡ total
at_tenth at i low rest total is whole = subst (λ (k : ℕ). with_low low (2 ^ (7 * k)) k (number_in at (9 - k) rest) ≡ total) is whole

pub ends_tenth : (at i low b : ℕ) (rest after : List ℕ) (total : Result (ℕ × ℕ) WireFault) → i ≡ 9 → rest ≡ b ∷ after → b ≤ 1
    → with_low low (2 ^ (7 * i)) i (number_in at (9 - i) rest) ≡ total → total ≡ Ok (low + b * 2 ^ 63, 10)
unfolding number_in
ends_tenth at i low b rest after total tenth is small whole =
    let here : number_in at 0 rest ≡ Ok (b, 1) = ap (number_in at 0) is ∙ cond-false (ltb 1 b) _ _ (le-ltb 1 b small) in
    let n : low + 2 ^ 63 * b ≡ low + b * 2 ^ 63 = omega arith in
    sym (at_tenth at i low rest total tenth whole) ∙ ap (with_low low (2 ^ 63) 9) here ∙ ap (λ (a : ℕ). Ok (a, 10)) n

pub too_long : (at i low b : ℕ) (rest after : List ℕ) (total : Result (ℕ × ℕ) WireFault) → i ≡ 9 → rest ≡ b ∷ after → 1 < b
    → with_low low (2 ^ (7 * i)) i (number_in at (9 - i) rest) ≡ total → total ≡ Err (LongVarint at)
unfolding number_in
too_long at i low b rest after total tenth is large whole =
    let here : number_in at 0 rest ≡ Err (LongVarint at) = ap (number_in at 0) is ∙ cond-true (ltb 1 b) _ _ (lt-ltb 1 b large) in
    sym (at_tenth at i low rest total tenth whole) ∙ ap (with_low low (2 ^ 63) 9) here

pub is_cut : (at i low place more : ℕ) (rest : List ℕ) (total : Result (ℕ × ℕ) WireFault) → rest ≡ [] → with_low low place i (number_in at more rest) ≡ total → total ≡ Err (Cut at)
unfolding number_in
is_cut at i low place more rest total is whole = sym whole ∙ ap (λ (r : List ℕ). with_low low place i (number_in at more r)) is

-- a group of seven bits, at its place
pub place_of : (i a : ℕ) → i < 9 → a < 128 → (a * 2 ^ (7 * i)) % 2 ^ 64 ≡ a * 2 ^ (7 * i)
place_of i a lt small = shl_whole a 7 (7 * i) 64 small (omega arith)

pub group_fits : (i low a : ℕ) → i < 9 → low < 2 ^ (7 * i) → a < 128 → low + a * 2 ^ (7 * i) < 2 ^ (7 * (i + 1))
group_fits i low a lt below small =
    let place : 2 ^ (7 * (i + 1)) ≡ 2 ^ (7 * i) * 128 = ap (λ (k : ℕ). 2 ^ k) (omega arith) ∙ pow-add 2 (7 * i) 7 in
    let both : a * 2 ^ (7 * i) + low < 2 ^ (7 * i) * 128 = mul-add-lt a (2 ^ (7 * i)) low 128 small below in
    rw place (omega arith)

pub group_in_64 : (i n : ℕ) → i < 9 → n < 2 ^ (7 * (i + 1)) → n < 2 ^ 64
group_in_64 i n lt below =
    let most : 2 ^ (7 * (i + 1)) ≤ 2 ^ 63 = pow-le-pow_right {n = 2} (omega arith) {i = 7 * (i + 1)} {j = 63} (omega arith) in
    omega arith
