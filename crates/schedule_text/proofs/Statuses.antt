-- Responses of a status alone.
use Rattle.std.proofs.Common.{arith, refl, ◌∙◌, ◌≡◌, ◌≤◌, ◌<◌, ℕ, zero, suc, List, [], ◌∷◌, Option, Some, None, IfSome}
use Rattle.proto_wire.specs.Varint.{groups}
use Rattle.proto_wire.proofs.VarintLemmas.{varint_one}
use Rattle.values.specs.declared.message.Response.{Response}
use Rattle.values.specs.declared.message.Response.TheVariants.{Backup, Delete, Expose, Restore}
use Rattle.client_msgs.specs.Canonical.{canonical_response}

backup_status : (status : ℕ) → 1 ≤ status → status < 128 → 10 ∷ 2 ∷ 8 ∷ status ∷ [] ≡ canonical_response (Backup status)
unfolding groups
backup_status zero least most = absurd (omega arith)
backup_status (suc n) least most = rw (varint_one (suc n) most) refl

expose_status : (status : ℕ) → 1 ≤ status → status < 128 → 34 ∷ 2 ∷ 8 ∷ status ∷ [] ≡ canonical_response (Expose status)
unfolding groups
expose_status zero least most = absurd (omega arith)
expose_status (suc n) least most = rw (varint_one (suc n) most) refl

restore_status : (status : ℕ) → 1 ≤ status → status < 128 → 18 ∷ 2 ∷ 8 ∷ status ∷ [] ≡ canonical_response (Restore status [] 0)
unfolding groups
restore_status zero least most = absurd (omega arith)
restore_status (suc n) least most = rw (varint_one (suc n) most) refl

-- a response without a field
deleted : 26 ∷ 0 ∷ [] ≡ canonical_response Delete
unfolding groups
deleted = refl

pub no_field : (response : Response) → response ≡ Delete → 26 ∷ 0 ∷ [] ≡ canonical_response response
no_field response is = rw is deleted

-- a member of such a response, where there is one
pub backup_member : (o : Option (List ℕ)) (response : Response) (status : ℕ) → response ≡ Backup status
    → IfSome o (λ bytes. (1 ≤ status) × (status < 128) × (bytes ≡ 10 ∷ 2 ∷ 8 ∷ status ∷ [])) → IfSome o (λ bytes. bytes ≡ canonical_response response)
backup_member None response status is h = tt
backup_member (Some bytes) response status is h = rw is (h.2 ∙ backup_status status h.0 h.1)

pub expose_member : (o : Option (List ℕ)) (response : Response) (status : ℕ) → response ≡ Expose status
    → IfSome o (λ bytes. (1 ≤ status) × (status < 128) × (bytes ≡ 34 ∷ 2 ∷ 8 ∷ status ∷ [])) → IfSome o (λ bytes. bytes ≡ canonical_response response)
expose_member None response status is h = tt
expose_member (Some bytes) response status is h = rw is (h.2 ∙ expose_status status h.0 h.1)

pub restore_member : (o : Option (List ℕ)) (response : Response) (status : ℕ) (secret : List ℕ) (tries : ℕ) → response ≡ Restore status secret tries → secret ≡ [] → tries ≡ 0
    → IfSome o (λ bytes. (1 ≤ status) × (status < 128) × (bytes ≡ 18 ∷ 2 ∷ 8 ∷ status ∷ [])) → IfSome o (λ bytes. bytes ≡ canonical_response response)
restore_member None response status secret tries is empty none h = tt
restore_member (Some bytes) response status secret tries is empty none h = rw (is, empty, none) (h.2 ∙ restore_status status h.0 h.1)
