-- Nothing collides under a link that keeps all that it is given.
use Rattle.std.proofs.Common.{◌≡◌, ℕ, ◌+◌, List, [], ◌∷◌, ◌++◌, length, refl, ap, arith}
use Rattle.values.specs.declared.entry.Body.{Body}
use Rattle.values.specs.declared.entry.Body.TheVariants.{Noop, Ask, Members}
use Rattle.values.specs.declared.entry.Hash.{Hash}
use Rattle.values.specs.declared.entry.LogEntry.{LogEntry}
use Rattle.values.specs.declared.ids.ClientId.{ClientId}
use Rattle.replica_model.specs.Path.{chain}
use Rattle.halt_laws.specs.Whole.{spelled, whole_link, NothingCollides}

-- what is as long and begins the same list is the same
split_same : (xs ys zs ws : List ℕ) → length xs ≡ length ys → xs ++ zs ≡ ys ++ ws → (xs ≡ ys) × (zs ≡ ws)
split_same [] [] zs ws long same = (refl, same)
split_same [] (y ∷ ys) zs ws long same = absurd (omega arith)
split_same (x ∷ xs) [] zs ws long same = absurd (omega arith)
split_same (x ∷ xs) (y ∷ ys) zs ws long same =
    let whole : x ∷ (xs ++ zs) ≡ y ∷ (ys ++ ws) = same in
    let head : x ≡ y = cc in
    let rest : xs ++ zs ≡ ys ++ ws = cc in
    let both = split_same xs ys zs ws (omega (arith, long)) rest in
    let tail : xs ≡ ys = both.0 in
    (cc, both.1)

client_same : (c d : ClientId) → c.0 ≡ d.0 → c ≡ d
client_same c d same = λ i. record { 0 = same i }

spelled_same : (a b : Body) → spelled a ≡ spelled b → a ≡ b
spelled_same Noop Noop same = refl
spelled_same Noop (Ask d m q) same = cc
spelled_same Noop (Members k u) same = cc
spelled_same (Ask c n r) Noop same = cc
spelled_same (Ask c n r) (Members k u) same = cc
spelled_same (Members m v) Noop same = cc
spelled_same (Members m v) (Ask d k q) same = cc
spelled_same (Ask c n r) (Ask d m q) same =
    let whole : 1 ∷ n ∷ length c.0 ∷ (c.0 ++ r) ≡ 1 ∷ m ∷ length d.0 ∷ (d.0 ++ q) = same in
    let number : n ≡ m = cc in
    let long : length c.0 ≡ length d.0 = cc in
    let rest : c.0 ++ r ≡ d.0 ++ q = cc in
    let both = split_same c.0 d.0 r q long rest in
    let client : c ≡ d = client_same c d both.0 in
    let request : r ≡ q = both.1 in
    cc
spelled_same (Members m v) (Members k u) same =
    let whole : 2 ∷ m ∷ v ≡ 2 ∷ k ∷ u = same in
    let margin : m ≡ k = cc in
    let voters : v ≡ u = cc in
    cc

linked_same : (h k : Hash) (i j : ℕ) (a b : LogEntry) → whole_link h i a ≡ whole_link k j b → (h ≡ k) × (i ≡ j) × (a ≡ b)
linked_same h k i j a b same =
    let whole : i ∷ a.term ∷ length (spelled a.body) ∷ (spelled a.body ++ h.0) ≡ j ∷ b.term ∷ length (spelled b.body) ∷ (spelled b.body ++ k.0) = ap (λ (x : Hash). x.0) same in
    let index : i ≡ j = cc in
    let term : a.term ≡ b.term = cc in
    let long : length (spelled a.body) ≡ length (spelled b.body) = cc in
    let rest : spelled a.body ++ h.0 ≡ spelled b.body ++ k.0 = cc in
    let both = split_same (spelled a.body) (spelled b.body) h.0 k.0 long rest in
    let body : a.body ≡ b.body = spelled_same a.body b.body both.0 in
    let before : h.0 ≡ k.0 = both.1 in
    (λ x. record { 0 = before x }, index, λ x. record { term = term x; body = body x })

pub nothing_collides_of : NothingCollides
nothing_collides_of w p q a b held_p held_q same =
    let parts = linked_same (chain whole_link p) (chain whole_link q) (length p + 1) (length q + 1) a b same in
    (parts.0, omega (arith, parts.1), parts.2)
