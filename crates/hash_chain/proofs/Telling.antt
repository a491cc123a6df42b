-- The bytes of an input give the input back.
use Rattle.std.proofs.Common.{◌≡◌, ℕ, ◌<◌, ◌^◌, List, [], ◌∷◌, ◌++◌, refl, sym, ap, ◌∙◌}
use Rattle.byteorder.specs.Endian.{big_bytes, big_number}
use Rattle.byteorder.specs.Numbers.{big_number-reads_back}
use Rattle.hash_chain.specs.Links.{LinkInput, BytesTellInputs}
use Rattle.hash_chain.proofs.Fronts.{same_front, same_rest}

same_number : (x y : ℕ) → x < 2 ^ 64 → y < 2 ^ 64 → big_bytes 8 x ≡ big_bytes 8 y → x ≡ y
same_number x y a b e = sym (big_number-reads_back 8 x [] a) ∙ ap (λ bytes. big_number 8 (bytes ++ [])) e ∙ big_number-reads_back 8 y [] b

same_input : {a b : LinkInput} → a.prev ≡ b.prev → a.index ≡ b.index → a.term ≡ b.term → a.kind ≡ b.kind → a.body ≡ b.body → a ≡ b
same_input {a} {b} prev index term kind body =
    let make : List ℕ → ℕ → ℕ → ℕ → List ℕ → LinkInput = λ p i t k bs. record { prev = p; index = i; term = t; kind = k; body = bs } in
    ap (λ p. make p a.index a.term a.kind a.body) prev
    ∙ ap (λ i. make b.prev i a.term a.kind a.body) index
    ∙ ap (λ t. make b.prev b.index t a.kind a.body) term
    ∙ ap (λ k. make b.prev b.index b.term k a.body) kind
    ∙ ap (make b.prev b.index b.term b.kind) body

pub tell : BytesTellInputs
tell a b ra rb e =
    let tail : LinkInput → List ℕ = λ i. big_bytes 8 i.index ++ (big_bytes 8 i.term ++ i.kind ∷ i.body) in
    let after : LinkInput → List ℕ = λ i. big_bytes 8 i.term ++ i.kind ∷ i.body in
    let prevs = ra.prev ∙ sym rb.prev in
    let prev : a.prev ≡ b.prev = same_front a.prev b.prev (tail a) (tail b) prevs e in
    let tails : tail a ≡ tail b = same_rest a.prev b.prev (tail a) (tail b) prevs e in
    let index : a.index ≡ b.index = same_number a.index b.index ra.index rb.index (same_front (big_bytes 8 a.index) (big_bytes 8 b.index) (after a) (after b) refl tails) in
    let afters : after a ≡ after b = same_rest (big_bytes 8 a.index) (big_bytes 8 b.index) (after a) (after b) refl tails in
    let term : a.term ≡ b.term = same_number a.term b.term ra.term rb.term (same_front (big_bytes 8 a.term) (big_bytes 8 b.term) (a.kind ∷ a.body) (b.kind ∷ b.body) refl afters) in
    let last : a.kind ∷ a.body ≡ b.kind ∷ b.body = same_rest (big_bytes 8 a.term) (big_bytes 8 b.term) (a.kind ∷ a.body) (b.kind ∷ b.body) refl afters in
    same_input prev index term (cc) (cc)
