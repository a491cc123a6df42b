-- Varints, byte by byte.
use Rattle.std.proofs.Common.{◌≡◌, ℕ, zero, suc, ◌+◌, ◌*◌, ◌/◌, ◌%◌, ◌^◌, ◌<◌, ◌≤◌, List, [], ◌∷◌, ◌++◌, length, take, ltb, refl, sym, ap, ◌∙◌, append_assoc, arith, inl, inr}
use Rattle.std.proofs.lemmas.Bool.{lt-ltb, le-ltb, cases_lt, cond-true, cond-false}
use Rattle.std.proofs.lemmas.List.{length-take, take-append-le}
use Rattle.std.proofs.lemmas.Nat.{div_below}
use Rattle.proto_wire.specs.Varint.{groups, varint}

-- what so many groups behind the first can hold: nine of them, 64 bits
abbrev pub limit : ℕ → ℕ
limit zero = 2
limit (suc more) = limit more * 128

pub groups_one : (more n : ℕ) → n < 128 → groups more n ≡ n ∷ []
unfolding groups
groups_one zero n small = refl
groups_one (suc more) n small = cond-true (ltb n 128) (n ∷ []) ((128 + n % 128) ∷ groups more (n / 128)) (lt-ltb n 128 small)

pub groups_step : (more n : ℕ) → 128 ≤ n → groups (suc more) n ≡ (128 + n % 128) ∷ groups more (n / 128)
unfolding groups
groups_step more n large = cond-false (ltb n 128) (n ∷ []) ((128 + n % 128) ∷ groups more (n / 128)) (le-ltb n 128 large)

-- room for one more group changes nothing where it is not needed
groups_more : (more n : ℕ) → n < limit more → groups (suc more) n ≡ groups more n
groups_more zero n below = groups_one 1 n (omega arith) ∙ sym (groups_one 0 n (omega arith))
groups_more (suc more) n below =
    elim (cases_lt n 128) [
      | inl small ↦ groups_one (suc (suc more)) n small ∙ sym (groups_one (suc more) n small)
      | inr large ↦ groups_step (suc more) n large ∙ ap (λ (rest : List ℕ). (128 + n % 128) ∷ rest) (groups_more more (n / 128) (div_below n 128 (limit more) (omega arith) below)) ∙ sym (groups_step more n large)
    ]

pub varint_one : (n : ℕ) → n < 128 → varint n ≡ n ∷ []
varint_one n small = groups_one 9 n small

pub varint_step : (n : ℕ) → n < 2 ^ 64 → 128 ≤ n → varint n ≡ (128 + n % 128) ∷ varint (n / 128)
varint_step n below large = groups_step 8 n large ∙ ap (λ (rest : List ℕ). (128 + n % 128) ∷ rest) (sym (groups_more 8 (n / 128) (div_below n 128 (limit 8) (omega arith) below)))

-- one more byte on
pub push_step : (out new total : List ℕ) (n : ℕ) → new ≡ out ++ (128 + n % 128) ∷ [] → n < 2 ^ 64 → 128 ≤ n → out ++ varint n ≡ total → new ++ varint (n / 128) ≡ total
push_step out new total n pushed below large whole =
    ap (λ (x : List ℕ). x ++ varint (n / 128)) pushed ∙ append_assoc out ((128 + n % 128) ∷ []) (varint (n / 128)) ∙ ap (λ (x : List ℕ). out ++ x) (sym (varint_step n below large)) ∙ whole

pub push_last : (out new total : List ℕ) (n : ℕ) → new ≡ out ++ n ∷ [] → n < 128 → out ++ varint n ≡ total → new ≡ total
push_last out new total n pushed small whole = pushed ∙ ap (λ (x : List ℕ). out ++ x) (sym (varint_one n small)) ∙ whole

pub take_kept : (old out new x : List ℕ) (n : ℕ) → length old ≡ n → take n out ≡ old → new ≡ out ++ x → take n new ≡ old
take_kept old out new x n len kept longer =
    let within : n ≤ length out = omega (arith, length-take n out, ap length kept) in
    ap (take n) longer ∙ take-append-le n out x within ∙ kept
