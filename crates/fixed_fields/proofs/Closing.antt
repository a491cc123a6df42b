-- A length that is written into the four bytes at a place.
use Rattle.std.proofs.Common.{◌≡◌, ℕ, ◌+◌, ◌-◌, ◌≤◌, List, [], ◌++◌, length, take, drop, sym, ap, subst, ◌∙◌, arith}
use Rattle.std.specs.Int.{w32, to_be_bytes}
use Rattle.std.proofs.lemmas.List.{append-nil, drop-append-le, drop-drop, drop-take, length-append, length-drop, length-take, take_all}
use Rattle.std.proofs.Math.ListN.{drop_of_length-le}
use borrow.Rule.Slice.PartMut.{put_mid}
use Rattle.fixed_fields.specs.Fields.{number_bytes}
use Rattle.fixed_fields.specs.Written.{closed}

module _ (bytes : List ℕ) (start place : ℕ) (room : start + place + 4 ≤ length bytes) where
  rest : List ℕ
  rest = drop (start + place + 4) bytes

  -- what stands there once the bytes of a number are written
  filled : ℕ → List ℕ
  filled n = take (start + place) bytes ++ (to_be_bytes w32 n ++ rest)

  length-filled : (n : ℕ) → length (filled n) ≡ length bytes
  unfolding filled rest
  length-filled n =
      omega (arith, length-append (take (start + place) bytes) (to_be_bytes w32 n ++ drop (start + place + 4) bytes), length-take (start + place) bytes, length-append (to_be_bytes w32 n) (drop (start + place + 4) bytes), length-drop (start + place + 4) bytes)

  put_is : (n : ℕ) (part : List ℕ) → part ≡ to_be_bytes w32 n ++ drop 4 (take (length bytes - (start + place)) (drop (start + place) bytes)) → put_mid (start + place) (length bytes - (start + place)) bytes part ≡ filled n
  unfolding filled rest
  put_is n part e =
      let behind = drop (start + place) bytes in
      let whole : take (length bytes - (start + place)) behind ≡ behind = take_all (length bytes - (start + place)) behind (omega (arith, length-drop (start + place) bytes)) in
      let cut : drop 4 (take (length bytes - (start + place)) behind) ≡ drop (start + place + 4) bytes = ap (drop 4) whole ∙ drop-drop 4 (start + place) bytes in
      let none : drop (length bytes - (start + place)) behind ≡ [] = drop_of_length-le behind (omega (arith, length-drop (start + place) bytes)) in
      let part-is : part ≡ to_be_bytes w32 n ++ drop (start + place + 4) bytes = e ∙ ap (λ (t : List ℕ). to_be_bytes w32 n ++ t) cut in
      ap (λ (t : List ℕ). take (start + place) bytes ++ (part ++ t)) none ∙ ap (λ (t : List ℕ). take (start + place) bytes ++ t) (append-nil part) ∙ ap (λ (t : List ℕ). take (start + place) bytes ++ t) part-is

  tail_is : (n : ℕ) → n ≡ length bytes - (start + place + 4) → drop start (filled n) ≡ closed place (drop start bytes)
  unfolding filled rest number_bytes
  tail_is n e =
      let behind = to_be_bytes w32 n ++ drop (start + place + 4) bytes in
      let cut : drop start (take (start + place) bytes ++ behind) ≡ drop start (take (start + place) bytes) ++ behind = drop-append-le start (take (start + place) bytes) behind (omega (arith, length-take (start + place) bytes)) in
      let front : drop start (take (start + place) bytes) ≡ take place (drop start bytes) = drop-take start place bytes in
      let long : n ≡ length (drop start bytes) - (place + 4) = omega (arith, length-drop start bytes, e) in
      let sums : start + place + 4 ≡ start + (place + 4) = omega arith in
      let later : drop (start + place + 4) bytes ≡ drop (place + 4) (drop start bytes) = ap (λ (k : ℕ). drop k bytes) sums ∙ sym (drop-drop (place + 4) start bytes) in
      cut ∙ ap (λ (t : List ℕ). t ++ behind) front ∙ ap (λ (k : ℕ). take place (drop start bytes) ++ (to_be_bytes w32 k ++ drop (start + place + 4) bytes)) long ∙ ap (λ (t : List ℕ). take place (drop start bytes) ++ (to_be_bytes w32 (length (drop start bytes) - (place + 4)) ++ t)) later

  pub closing : (n : ℕ) (part : List ℕ) → n ≡ length bytes - (start + place + 4) → part ≡ to_be_bytes w32 n ++ drop 4 (take (length bytes - (start + place)) (drop (start + place) bytes))
      → (len : ℕ) → len ≡ length bytes
      → drop start (take len (put_mid (start + place) (length bytes - (start + place)) bytes part ++ drop (length (put_mid (start + place) (length bytes - (start + place)) bytes part)) bytes)) ≡ closed place (drop start bytes)
  closing n part e part-is len len-is =
      let put = put_is n part part-is in
      let none : drop (length (filled n)) bytes ≡ [] = drop_of_length-le bytes (omega (arith, length-filled n)) in
      let over : filled n ++ drop (length (filled n)) bytes ≡ filled n = ap (λ (t : List ℕ). filled n ++ t) none ∙ append-nil (filled n) in
      let all : take len (filled n) ≡ filled n = take_all len (filled n) (omega (arith, length-filled n, len-is)) in
      ap (λ (t : List ℕ). drop start (take len (t ++ drop (length t) bytes))) put ∙ ap (λ (t : List ℕ). drop start (take len t)) over ∙ ap (drop start) all ∙ tail_is n e

-- the same where the bytes are seen through a slice
pub closing_of : (bytes seen : List ℕ) (start place : ℕ) → seen ≡ bytes → start + place + 4 ≤ length bytes → (n : ℕ) (part : List ℕ) → n ≡ length bytes - (start + place + 4)
    → part ≡ to_be_bytes w32 n ++ drop 4 (take (length seen - (start + place)) (drop (start + place) seen))
    → (len : ℕ) → len ≡ length bytes
    → drop start (take len (put_mid (start + place) (length seen - (start + place)) seen part ++ drop (length (put_mid (start + place) (length seen - (start + place)) seen part)) bytes)) ≡ closed place (drop start bytes)
closing_of bytes seen start place same room n part e part-is len len-is =
    let P : List ℕ → Type 0 = λ (d : List ℕ).
    part ≡ to_be_bytes w32 n ++ drop 4 (take (length d - (start + place)) (drop (start + place) d))
    → drop start (take len (put_mid (start + place) (length d - (start + place)) d part ++ drop (length (put_mid (start + place) (length d - (start + place)) d part)) bytes)) ≡ closed place (drop start bytes) in
    subst P (sym same) (λ is. closing bytes start place room n part e is len len-is) part-is
