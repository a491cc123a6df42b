-- How values are spelled as bytes: fields, which stand at the front of bytes, and contents, which are all of them.
use Rattle.std.specs.Prelude.{◌≡◌, ℕ, ◌<◌, ◌^◌, ◌==◌, List, [], ◌∷◌, ◌++◌, length, slice_index, Option, Some, None, if◌then◌else◌}
use Rattle.std.specs.List.{flat_map, AllByRecursion}
use Rattle.std.specs.Int.{Width, w8, w32, byte_len, from_be_bytes}
use Rattle.fixed_fields.specs.Fields.{number_bytes, number_at, block_at}

infixl 10 ◌>>=◌
-- a step goes on with what the one before it gave
abbrev pub ◌>>=◌ : {A B : Type 0} → Option A → (A → Option B) → Option B
(Some x) >>= f = f x
None >>= f = None

-- the bytes of a value, and the value at the front of bytes with what stands behind it
pub record Field (X : Type 0) : Type 0 where
  pub spelled : X → List ℕ
  pub found : List ℕ → Option (X × List ℕ)

-- the bytes of a value, and the value that bytes spell
pub record Content (X : Type 0) : Type 0 where
  pub spelled : X → List ℕ
  pub read : List ℕ → Option X

abbrev pub number : Width → Field ℕ
number w = record { spelled = number_bytes w; found = number_at w }

abbrev pub block : ℕ → Field (List ℕ)
block n = record { spelled = λ bytes. bytes; found = block_at n }

-- nothing at all
abbrev pub nothing : Content (Unit {0})
nothing = record { spelled = λ u. []; read = no_bytes }
  where
    no_bytes : List ℕ → Option (Unit {0})
    no_bytes [] = Some tt
    no_bytes (b ∷ bytes) = None

-- any bytes
abbrev pub rest : Content (List ℕ)
rest = record { spelled = λ bytes. bytes; read = λ bytes. Some bytes }

-- a field, and a content behind it
abbrev pub before : {X Y : Type 0} → Field X → Content Y → Content (X × Y)
before f g =
    record {
      spelled = λ p. f.spelled p.0 ++ g.spelled p.1;
      read = λ bytes. f.found bytes >>= λ x. g.read x.1 >>= λ y. Some (x.0, y);
    }

-- a field alone
abbrev pub alone : {X : Type 0} → Field X → Content X
alone f =
    record {
      spelled = f.spelled;
      read = λ bytes. f.found bytes >>= λ x. nothing.read x.1 >>= λ u. Some x.0;
    }

-- numbers of four bytes each, one behind the other
unfoldable pub numbers_in : List ℕ → Option (List ℕ)
numbers_in [] = Some []
numbers_in (a ∷ b ∷ c ∷ d ∷ bytes) = numbers_in bytes >>= λ ns. Some (from_be_bytes w32 (a ∷ b ∷ c ∷ d ∷ []) ∷ ns)
numbers_in bytes = None

abbrev pub numbers : Content (List ℕ)
numbers = record { spelled = flat_map (number_bytes w32); read = numbers_in }

-- the same behind a byte that says how many they are
abbrev pub if_count : ℕ × List ℕ → Option (List ℕ)
if_count p = if length p.1 == p.0 then Some p.1 else None

abbrev pub counted : Content (List ℕ)
counted =
    record {
      spelled = λ ns. number_bytes w8 (length ns) ++ flat_map (number_bytes w32) ns;
      read = λ bytes. (before (number w8) numbers).read bytes >>= if_count;
    }

-- each item is a byte
abbrev pub IsBytes : List ℕ → Type 0
IsBytes bytes = (i : ℕ) → slice_index bytes i < 256

-- what is spelled is found, whatever stands behind it, and what is found is spelled so
pub record IsField {X : Type 0} (f : Field X) (Fits : X → Type 0) : Type 0 where
  pub again : (x : X) (behind : List ℕ) → Fits x → f.found (f.spelled x ++ behind) ≡ Some (x, behind)
  pub taken : (bytes : List ℕ) (x : X) (behind : List ℕ) → IsBytes bytes → f.found bytes ≡ Some (x, behind) → (bytes ≡ f.spelled x ++ behind) × Fits x

-- what is spelled is read, and what is read is spelled so
pub record IsContent {X : Type 0} (g : Content X) (Fits : X → Type 0) : Type 0 where
  pub again : (x : X) → Fits x → g.read (g.spelled x) ≡ Some x
  pub taken : (bytes : List ℕ) (x : X) → IsBytes bytes → g.read bytes ≡ Some x → (bytes ≡ g.spelled x) × Fits x

-- a number of the width
abbrev pub IsOfWidth : Width → ℕ → Type 0
IsOfWidth w n = n < 256 ^ byte_len w

-- numbers that four bytes have
abbrev pub AreWords : List ℕ → Type 0
AreWords ns = AllByRecursion (IsOfWidth w32) ns

-- as many of them as a byte counts
abbrev pub AreFewWords : List ℕ → Type 0
AreFewWords ns = IsOfWidth w8 (length ns) × AreWords ns
