-- The bytes of a body give the body back.
use Rattle.std.proofs.Common.{◌≡◌, ℕ, suc, ◌<◌, ◌^◌, List, [], ◌∷◌, ◌++◌, length, refl, sym, ap, ◌∙◌, arith}
use Rattle.std.specs.Prelude.{All}
use Rattle.std.specs.List.{flat_map}
use Rattle.std.proofs.lemmas.List.Elements.{All-head}
use Rattle.byteorder.specs.Endian.{big_bytes, big_number}
use Rattle.byteorder.specs.Numbers.{big_number-reads_back}
use Rattle.values.specs.declared.ids.ClientId.{ClientId}
use Rattle.values.specs.declared.entry.Body.TheVariants.{Noop, Ask, Members}
use Rattle.hash_chain.proofs.Fronts.{same_front, same_rest}
use Rattle.replica_model.specs.Linked.{body_bytes}
use Rattle.replica_model.specs.Laws.{IsInRange, BytesTellBodies}

number : (n x y : ℕ) → x < 256 ^ n → y < 256 ^ n → big_bytes n x ≡ big_bytes n y → x ≡ y
number n x y a b e = sym (big_number-reads_back n x [] a) ∙ ap (λ bytes. big_number n (bytes ++ [])) e ∙ big_number-reads_back n y [] b

abbrev Short : List ℕ → Type 0
Short xs = All (λ v. v < 2 ^ 32) xs

tail : (x : ℕ) (xs : List ℕ) → Short (x ∷ xs) → Short xs
tail x xs h k d below = h (suc k) d (omega (arith, below))

voters : (xs ys : List ℕ) → Short xs → Short ys → length xs ≡ length ys → flat_map (big_bytes 4) xs ≡ flat_map (big_bytes 4) ys → xs ≡ ys
voters [] [] rx ry long e = refl
voters [] (y ∷ ys) rx ry long e = absurd (omega (arith, long))
voters (x ∷ xs) [] rx ry long e = absurd (omega (arith, long))
voters (x ∷ xs) (y ∷ ys) rx ry long e =
    let fx : List ℕ = flat_map (big_bytes 4) xs in
    let fy : List ℕ = flat_map (big_bytes 4) ys in
    let v : x ≡ y = number 4 x y (All-head (λ v. v < 2 ^ 32) x xs rx) (All-head (λ v. v < 2 ^ 32) y ys ry) (same_front (big_bytes 4 x) (big_bytes 4 y) fx fy refl e) in
    let vs : xs ≡ ys = voters xs ys (tail x xs rx) (tail y ys ry) (omega (arith, long)) (same_rest (big_bytes 4 x) (big_bytes 4 y) fx fy refl e) in
    ap (λ w. w ∷ xs) v ∙ ap (λ ws. y ∷ ws) vs

ask : (c d : ClientId) (n m : ℕ) (r s : List ℕ) → IsInRange (Ask c n r) → IsInRange (Ask d m s) → body_bytes (Ask c n r) ≡ body_bytes (Ask d m s) → Ask c n r ≡ Ask d m s
ask c d n m r s rc rd e =
    let long : length c.0 ≡ length d.0 = rc.0 ∙ sym rd.0 in
    let client : c.0 ≡ d.0 = same_front c.0 d.0 (big_bytes 8 n ++ r) (big_bytes 8 m ++ s) long e in
    let after : big_bytes 8 n ++ r ≡ big_bytes 8 m ++ s = same_rest c.0 d.0 (big_bytes 8 n ++ r) (big_bytes 8 m ++ s) long e in
    let numbers : n ≡ m = number 8 n m rc.1 rd.1 (same_front (big_bytes 8 n) (big_bytes 8 m) r s refl after) in
    let requests : r ≡ s = same_rest (big_bytes 8 n) (big_bytes 8 m) r s refl after in
    ap (λ x. Ask (record { 0 = x }) n r) client ∙ ap (λ x. Ask d x r) numbers ∙ ap (Ask d m) requests

members : (m k : ℕ) (xs ys : List ℕ) → IsInRange (Members m xs) → IsInRange (Members k ys) → body_bytes (Members m xs) ≡ body_bytes (Members k ys) → Members m xs ≡ Members k ys
members m k xs ys rx ry e =
    let margin : m ≡ k = cc in
    let long : length xs ≡ length ys = cc in
    let bytes : flat_map (big_bytes 4) xs ≡ flat_map (big_bytes 4) ys = cc in
    ap (λ x. Members x xs) margin ∙ ap (Members k) (voters xs ys rx ry long bytes)

pub tell : BytesTellBodies
tell Noop Noop ra rb kind bytes = refl
tell Noop (Ask d m s) ra rb kind bytes = absurd (omega (arith, kind))
tell Noop (Members k ys) ra rb kind bytes = absurd (omega (arith, kind))
tell (Ask c n r) Noop ra rb kind bytes = absurd (omega (arith, kind))
tell (Ask c n r) (Ask d m s) ra rb kind bytes = ask c d n m r s ra rb bytes
tell (Ask c n r) (Members k ys) ra rb kind bytes = absurd (omega (arith, kind))
tell (Members m xs) Noop ra rb kind bytes = absurd (omega (arith, kind))
tell (Members m xs) (Ask d k s) ra rb kind bytes = absurd (omega (arith, kind))
tell (Members m xs) (Members k ys) ra rb kind bytes = members m k xs ys ra rb bytes
