-- Fields and contents whose spelling and reading agree.
use Rattle.std.proofs.Common.{◌≡◌, ℕ, ◌≤◌, Bool, true, false, cond, ltb, List, [], ◌∷◌, ◌++◌, length, take, drop, Option, Some, None, refl, sym, ap, subst, ◌∙◌, arith}
use Rattle.std.specs.Int.{Width, byte_len, from_be_bytes, to_be_bytes}
use Rattle.std.proofs.lemmas.Bool.{ltb-false, le-ltb}
use Rattle.std.proofs.lemmas.List.{take_at, drop_at, take-append-drop, length-append, length-take, append-nil}
use Rattle.fixed_fields.specs.Fields.{number_bytes, number_at, block_at}
use Rattle.fixed_fields.specs.Formats.{◌>>=◌, Field, Content, number, block, nothing, rest, alone, before, IsBytes, IsField, IsContent, IsOfWidth}
use Rattle.fixed_fields.proofs.Bytes.{IsBytes-take, IsBytes-behind, IsWide}

-- a step that gave something
pub record Gave {A B : Type 0} (o : Option A) (f : A → Option B) (y : B) : Type 0 where
  pub value : A
  pub first : o ≡ Some value
  pub then : f value ≡ Some y

pub bind_some : {A B : Type 0} (o : Option A) (f : A → Option B) (y : B) → (o >>= f) ≡ Some y → Gave o f y
bind_some (Some x) f y e = record { value = x; first = refl; then = e }
bind_some None f y e = absurd cc

-- a test that let the step give something
pub guard_some : {A : Type 0} (b : Bool) (x y : A) → cond b None (Some x) ≡ Some y → (b ≡ false) × (x ≡ y)
guard_some true x y e = absurd cc
guard_some false x y e = (refl, cc)

abbrev given : {A : Type 0} → A → Option A
given x = Some x

pub some_is : {A : Type 0} (x y : A) → given x ≡ given y → x ≡ y
some_is x y e = cc

pub number_is : (w : Width) → IsWide w → IsField (number w) (IsOfWidth w)
unfolding number_at number_bytes
number_is w wide = record { again = again; taken = taken }
  where
    again : (n : ℕ) (behind : List ℕ) → IsOfWidth w n → number_at w (number_bytes w n ++ behind) ≡ Some (n, behind)
    again n behind lt =
        let len = wide.len n in
        let long : ltb (length (to_be_bytes w n ++ behind)) (byte_len w) ≡ false = le-ltb _ _ (omega (arith, length-append (to_be_bytes w n) behind)) in
        rw (long, take_at (to_be_bytes w n) behind (byte_len w) len, drop_at (to_be_bytes w n) behind (byte_len w) len, wide.again n lt) refl

    taken : (bytes : List ℕ) (n : ℕ) (behind : List ℕ) → IsBytes bytes → number_at w bytes ≡ Some (n, behind) → (bytes ≡ number_bytes w n ++ behind) × IsOfWidth w n
    taken bytes n behind fits e =
        let front = take (byte_len w) bytes in
        let g = guard_some (ltb (length bytes) (byte_len w)) (from_be_bytes w front, drop (byte_len w) bytes) (n, behind) e in
        let long : byte_len w ≤ length bytes = ltb-false _ _ g.0 in
        let n-is : from_be_bytes w front ≡ n = ap (λ (p : ℕ × List ℕ). p.0) g.1 in
        let behind-is : drop (byte_len w) bytes ≡ behind = ap (λ (p : ℕ × List ℕ). p.1) g.1 in
        let spelled : to_be_bytes w n ≡ front = rw (← n-is) (wide.back front (omega (arith, length-take (byte_len w) bytes)) (IsBytes-take (byte_len w) bytes fits)) in
        (rw (spelled, ← behind-is) (sym (take-append-drop (byte_len w) bytes)), rw (← n-is) (wide.below front (IsBytes-take (byte_len w) bytes fits)))

pub block_is : (n : ℕ) → IsField (block n) (λ bytes. length bytes ≡ n)
unfolding block_at
block_is n = record { again = again; taken = taken }
  where
    again : (xs behind : List ℕ) → length xs ≡ n → block_at n (xs ++ behind) ≡ Some (xs, behind)
    again xs behind len =
        let long : ltb (length (xs ++ behind)) n ≡ false = le-ltb _ _ (omega (arith, length-append xs behind)) in
        rw (long, take_at xs behind n len, drop_at xs behind n len) refl

    taken : (bytes xs behind : List ℕ) → IsBytes bytes → block_at n bytes ≡ Some (xs, behind) → (bytes ≡ xs ++ behind) × (length xs ≡ n)
    taken bytes xs behind fits e =
        let g = guard_some (ltb (length bytes) n) (take n bytes, drop n bytes) (xs, behind) e in
        let long : n ≤ length bytes = ltb-false _ _ g.0 in
        let xs-is : take n bytes ≡ xs = ap (λ (p : List ℕ × List ℕ). p.0) g.1 in
        let behind-is : drop n bytes ≡ behind = ap (λ (p : List ℕ × List ℕ). p.1) g.1 in
        (rw (← xs-is, ← behind-is) (sym (take-append-drop n bytes)), rw (← xs-is) (omega (arith, length-take n bytes)))

pub nothing_is : IsContent nothing (λ u. Unit {0})
nothing_is = record { again = λ u fits. refl; taken = taken }
  where
    taken : (bytes : List ℕ) (u : Unit {0}) → IsBytes bytes → nothing.read bytes ≡ Some u → (bytes ≡ []) × Unit {0}
    taken [] u fits e = (refl, tt)
    taken (b ∷ bytes) u fits e = absurd cc

pub rest_is : IsContent rest (λ bytes. Unit {0})
rest_is = record { again = λ bytes fits. refl; taken = λ bytes x fits e. (some_is bytes x e, tt) }

-- a field and a content behind it agree where each does
pub before_is : {X Y : Type 0} (f : Field X) (g : Content Y) (P : X → Type 0) (Q : Y → Type 0) → IsField f P → IsContent g Q → IsContent (before f g) (λ p. P p.0 × Q p.1)
before_is {X} {Y} f g P Q field content = record { again = again; taken = taken }
  where
    again : (p : X × Y) → P p.0 × Q p.1 → (f.found (f.spelled p.0 ++ g.spelled p.1) >>= λ x. g.read x.1 >>= λ y. Some (x.0, y)) ≡ Some p
    again p fits = rw (field.again p.0 (g.spelled p.1) fits.0, content.again p.1 fits.1) refl

    taken : (bytes : List ℕ) (p : X × Y) → IsBytes bytes → (f.found bytes >>= λ x. g.read x.1 >>= λ y. Some (x.0, y)) ≡ Some p → (bytes ≡ f.spelled p.0 ++ g.spelled p.1) × (P p.0 × Q p.1)
    taken bytes p fits e =
        let a = bind_some (f.found bytes) (λ x. g.read x.1 >>= λ y. Some (x.0, y)) p e in
        let b = bind_some (g.read a.value.1) (λ y. Some (a.value.0, y)) p a.then in
        let made : (a.value.0, b.value) ≡ p = some_is (a.value.0, b.value) p b.then in
        let front = field.taken bytes a.value.0 a.value.1 fits a.first in
        let back = content.taken a.value.1 b.value (IsBytes-behind bytes (f.spelled a.value.0) a.value.1 front.0 fits) b.first in
        subst (λ (q : X × Y). (bytes ≡ f.spelled q.0 ++ g.spelled q.1) × (P q.0 × Q q.1)) made
        (front.0 ∙ ap (λ (t : List ℕ). f.spelled a.value.0 ++ t) back.0, (front.1, back.1))

-- a field alone agrees where it does
pub alone_is : {X : Type 0} (f : Field X) (P : X → Type 0) → IsField f P → IsContent (alone f) P
alone_is {X} f P field = record { again = again; taken = taken }
  where
    again : (x : X) → P x → (f.found (f.spelled x) >>= λ p. nothing.read p.1 >>= λ u. Some p.0) ≡ Some x
    again x fits = ap (λ (bytes : List ℕ). f.found bytes >>= λ p. nothing.read p.1 >>= λ u. Some p.0) (sym (append-nil (f.spelled x))) ∙ rw (field.again x [] fits) refl

    taken : (bytes : List ℕ) (x : X) → IsBytes bytes → (f.found bytes >>= λ p. nothing.read p.1 >>= λ u. Some p.0) ≡ Some x → (bytes ≡ f.spelled x) × P x
    taken bytes x fits e =
        let a = bind_some (f.found bytes) (λ p. nothing.read p.1 >>= λ u. Some p.0) x e in
        let b = bind_some (nothing.read a.value.1) (λ u. Some a.value.0) x a.then in
        let front = field.taken bytes a.value.0 a.value.1 fits a.first in
        let none = (nothing_is.taken a.value.1 b.value (IsBytes-behind bytes (f.spelled a.value.0) a.value.1 front.0 fits) b.first).0 in
        subst (λ (y : X). (bytes ≡ f.spelled y) × P y) (some_is a.value.0 x b.then)
        (front.0 ∙ ap (λ (t : List ℕ). f.spelled a.value.0 ++ t) none ∙ append-nil (f.spelled a.value.0), front.1)
