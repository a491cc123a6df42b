-- The order of clients, by their bytes from the first on.
use Rattle.std.specs.Prelude.{◌≡◌, ℕ, ◌<◌, Bool, length, All}
use Rattle.std.specs.declared.cmp.Ordering.{Ordering}
use Rattle.std.specs.Ordering.{is_eq, nat_cmp}
use Rattle.std.specs.Cmp.Lexicographic.{slice_cmp}
use Rattle.std.specs.Int.{w128, from_be_bytes}
use Rattle.values.specs.declared.ids.ClientId.{ClientId}

abbrev pub client_cmp : ClientId → ClientId → Ordering
client_cmp a b = slice_cmp nat_cmp a.0 b.0

abbrev pub client_eq : ClientId → ClientId → Bool
client_eq a b = is_eq (client_cmp a b)

-- the client has sixteen bytes, which spell this number, the first of them worth most
pub record IsNumberOf (client : ClientId) (number : ℕ) : Type 0 where
  pub spelled : number ≡ from_be_bytes w128 client.0
  pub bytes : All (λ byte. byte < 256) client.0
  pub sixteen : length client.0 ≡ 16
