-- A sequence goes on behind its first field.
use Rattle.std.proofs.Common.{◌≡◌, ℕ, zero, suc, ◌+◌, ◌-◌, ◌<◌, ◌≤◌, List, [], ◌∷◌, length, drop, Result, Ok, Err, refl, ap, ◌∙◌, arith}
use Rattle.std.proofs.lemmas.List.{drop_more, drop_all, drop-drop}
use Rattle.proto_wire.specs.declared.field.WireFault.{WireFault}
use Rattle.proto_wire.specs.Fields.{Field, field_at, Sequence, nothing, then_more, sequence_behind, sequence_at}

nothing_left : (inside at : ℕ) → sequence_behind inside at [] ≡ nothing
unfolding sequence_behind
nothing_left inside at = refl

pub sequence_at-end : (at : ℕ) (bytes : List ℕ) → length bytes ≤ at → sequence_at at (drop at bytes) ≡ nothing
sequence_at-end at bytes past = ap (sequence_behind 0 at) (drop_all at bytes past) ∙ nothing_left 0 at

-- what still belongs to the field before is passed over
pub sequence_behind-inside : (inside at : ℕ) (bytes : List ℕ) → sequence_behind inside at bytes ≡ sequence_at (at + inside) (drop inside bytes)
unfolding sequence_behind
sequence_behind-inside zero at bytes = ap (λ (n : ℕ). sequence_behind 0 n bytes) (omega arith)
sequence_behind-inside (suc inside) at [] = refl
sequence_behind-inside (suc inside) at (b ∷ bytes) =
    let n : (at + 1) + inside ≡ at + suc inside = omega arith in
    sequence_behind-inside inside (at + 1) bytes ∙ ap (λ (k : ℕ). sequence_behind 0 k (drop inside bytes)) n

-- behind the byte at an offset
behind : (at : ℕ) (bytes : List ℕ) → at < length bytes
    → sequence_at at (drop at bytes) ≡ then_more (field_at at (drop at bytes)) (λ f. sequence_behind (f.next - (at + 1)) (at + 1) (drop (at + 1) bytes))
unfolding sequence_behind
behind at bytes within = rw (drop_more bytes at 0 within) refl

pub sequence_at-field : (at : ℕ) (bytes : List ℕ) (f : Field) → at < length bytes → at < f.next → field_at at (drop at bytes) ≡ Ok f
    → sequence_at at (drop at bytes) ≡ then_more (Ok f) (λ _. sequence_at f.next (drop f.next bytes))
sequence_at-field at bytes f within forward is =
    let more = λ (g : Field). sequence_behind (g.next - (at + 1)) (at + 1) (drop (at + 1) bytes) in
    let k = f.next - (at + 1) in
    let next : (at + 1) + k ≡ f.next = omega arith in
    let on : more f ≡ sequence_at f.next (drop f.next bytes) =
    sequence_behind-inside k (at + 1) (drop (at + 1) bytes) ∙ ap (sequence_behind 0 ((at + 1) + k)) (drop-drop k (at + 1) bytes) ∙ ap (λ (n : ℕ). sequence_behind 0 n (drop n bytes)) next in
    behind at bytes within ∙ ap (λ (r : Result Field WireFault). then_more r more) is ∙ ap (λ (s : Sequence). record { fields = f ∷ s.fields; fault = s.fault }) on

pub sequence_at-fault : (at : ℕ) (bytes : List ℕ) (e : WireFault) → at < length bytes → field_at at (drop at bytes) ≡ Err e
    → sequence_at at (drop at bytes) ≡ then_more (Err e) (λ _. nothing)
sequence_at-fault at bytes e within is =
    behind at bytes within ∙ ap (λ (r : Result Field WireFault). then_more r (λ f. sequence_behind (f.next - (at + 1)) (at + 1) (drop (at + 1) bytes))) is
