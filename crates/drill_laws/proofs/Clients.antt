-- The clients of a drill, and their wants.
use Rattle.std.proofs.Common.{◌≡◌, ℕ, ◌+◌, ◌%◌, ◌≤◌, ◌==◌, ◌&&◌, true, false, cond, Some, None, Ok, List, [], drop, inl, inr, refl, sym, ◌∙◌, arith}
use Rattle.std.specs.Prelude.{nat_le, nat_lt, if◌then◌else◌, unwrap_or, bytes_eq}
use Rattle.std.specs.Int.{w64, from_be_bytes, to_be_bytes}
use Rattle.std.proofs.lemmas.Bool.{cases_Bool, cond_both, le-leb}
use Rattle.std.proofs.lemmas.Slice.Eq.{bytes_eq-Decides}
use Rattle.std.proofs.lemmas.Nat.{from_be_bytes-to_be_bytes_8}
use Rattle.values.specs.declared.message.Part.TheVariants.{Tries}
use Rattle.values.specs.declared.message.Request.{Request}
use Rattle.values.specs.declared.message.Request.TheVariants as request
use Rattle.values.specs.declared.want.Want.{Want}
use Rattle.values.specs.declared.want.Want.TheVariants as want
use Rattle.client_msgs.specs.Canonical.{canonical_request}
use Rattle.client_msgs.specs.Reading.{request_of}
use Rattle.client_msgs.specs.Sizes.{size_fault}
use Rattle.client_msgs.proofs.RoundTrip.{request_of-canonical}
use Rattle.record_rules.specs.Clients.{client_eq}
use Rattle.schedule_model.specs.Client.{first_request, numbers_needed}
use Rattle.schedule_model.specs.Drill.{client, secret, pin, no_pin, tries, wish}
use Rattle.group_model.specs.Group.{is_client}
pub use Rattle.group_model.proofs.Cores.{core_of-put_same as core_put, core_of-put_other as core_stays}
use Rattle.record_rules.proofs.Clients.{client_eq-true}

-- ---- clients are told apart
client_number : (i j : ℕ) → i ≤ 2001 → j ≤ 2001 → (client i).0 ≡ (client j).0 → i ≡ j
client_number i j low_i low_j same =
    sym (from_be_bytes-to_be_bytes_8 i (omega (arith, low_i)))
    ∙ (λ k. from_be_bytes w64 (drop 8 (same k)))
    ∙ from_be_bytes-to_be_bytes_8 j (omega (arith, low_j))

bytes_same : (a b : List ℕ) → bytes_eq a b ≡ true → a ≡ b
bytes_same a b h = (bytes_eq-Decides a b).0 h

pub clients_differ : (i j : ℕ) → i ≤ 2001 → j ≤ 2001 → (i ≡ j → ⊥) → is_client (client i) (client j) ≡ false
clients_differ i j low_i low_j other = elim (cases_Bool (is_client (client i) (client j))) [
  | inl is ↦ absurd (other (client_number i j low_i low_j (bytes_same (client i).0 (client j).0 is)))
  | inr apart ↦ apart
]

pub clients_apart : (i j : ℕ) → i ≤ 2001 → j ≤ 2001 → (i ≡ j → ⊥) → client_eq (client i) (client j) ≡ false
clients_apart i j low_i low_j other = elim (cases_Bool (client_eq (client i) (client j))) [
  | inl is ↦ absurd (other (client_number i j low_i low_j (λ k. (client_eq-true (client i) (client j) is k).0)))
  | inr apart ↦ apart
]

-- ---- requests
tries_fit : (i : ℕ) → (1 ≤ tries i) × (tries i ≤ 255)
tries_fit i = (omega arith, omega arith)

abbrev pub backup : ℕ → Request
backup i = request.Backup (secret i) (pin i) (tries i)

abbrev pub expose : ℕ → Request
expose i = request.Expose (secret i)

pub backup_reads : (i : ℕ) → request_of (canonical_request (backup i)) ≡ Ok (backup i)
backup_reads i = request_of-canonical (backup i) ((omega arith, omega arith), tries_fit i) refl

pub expose_reads : (i : ℕ) → request_of (canonical_request (expose i)) ≡ Ok (expose i)
expose_reads i = request_of-canonical (expose i) (omega arith, omega arith) tt

pub backup_sized : (i : ℕ) → size_fault (backup i) ≡ None
backup_sized i = λ k. cond (le-leb 1 (tries i) (tries_fit i).0 k && le-leb (tries i) 255 (tries_fit i).1 k) None (Some (Tries, tries i))

-- a want of a client that has stored
pub record IsWish (w : Want) : Type 0 where
  pub sized : size_fault (first_request w) ≡ None
  pub needed : numbers_needed w ≡ 1
  pub reads : request_of (canonical_request (first_request w)) ≡ Ok (first_request w)

recover_wish : (p : ℕ) → IsWish (want.Recover (record { 0 = Rattle.std.specs.Prelude.replicate 32 p }))
recover_wish p =
    record {
      sized = refl;
      needed = refl;
      reads = request_of-canonical (request.Restore (record { 0 = Rattle.std.specs.Prelude.replicate 32 p })) tt refl;
    }

erase_wish : IsWish want.Erase
erase_wish = record { sized = refl; needed = refl; reads = request_of-canonical request.Delete tt tt }

pub is_wish : (i w : ℕ) → IsWish (wish i w)
is_wish i w =
    cond_both (w % 4 == 1) (want.Recover no_pin) (if w % 4 == 2 then want.Erase else want.Recover (pin i)) IsWish
    (λ is. recover_wish 0)
    (λ no. cond_both (w % 4 == 2) want.Erase (want.Recover (pin i)) IsWish (λ is. erase_wish) (λ no. recover_wish (1 + i % 255)))
