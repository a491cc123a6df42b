-- The replies of a table are in range, where its records are.
use Rattle.std.proofs.Common.{ℕ, Bool, true, ◌==◌, nat_le, Option, Some, None, List, [], ◌∷◌, length, All, bytes_eq, arith}
use Rattle.std.specs.Prelude.{IfSome, find}
use Rattle.std.proofs.lemmas.Bool.{cond_both}
use Rattle.std.proofs.lemmas.List.Elements.{All-head, All-tail}
use Rattle.values.specs.declared.ids.ClientId.{ClientId}
use Rattle.values.specs.declared.message.Reply.{Reply}
use Rattle.values.specs.declared.message.Reply.TheVariants.{Stale, TableFull}
use Rattle.values.specs.declared.message.Request.{Request}
use Rattle.values.specs.declared.message.Request.TheVariants.{Backup, Restore, Delete, Expose}
use Rattle.values.specs.declared.message.Response.{Response}
use Rattle.values.specs.declared.message.Response.TheVariants.{Restore as Restored, Expose as Exposed}
use Rattle.values.specs.declared.row.Kept.{Kept}
use Rattle.values.specs.declared.row.Row.{Row}
use Rattle.record_rules.specs.declared.status.TheConstants.{OK, MISSING, ERROR}
use Rattle.record_rules.specs.Clients.{client_eq}
use Rattle.record_rules.specs.Table.{RecordTable, row_of}
use Rattle.record_rules.specs.Valid.{IsValidRecord, IsValidRow, IsSound}
use Rattle.record_rules.specs.Rules.{act, after_guess, after_wrong_guess, after_acting, ask_unknown, apply_by, apply}
use Rattle.group_msgs.specs.Batches.{IsResponseInRange, IsReplyInRange}

-- what a request that acts gives
response-in : (request : Request) (k : Option Kept) → IfSome k IsValidRecord → IsResponseInRange (act request k).1
response-in (Backup secret pin tries) k valid = tt
response-in (Restore pin) None valid = omega arith
response-in (Restore pin) (Some kept) valid =
    cond_both kept.exposed (after_guess pin kept) (Some kept, Restored MISSING [] 0) (λ (o : Option Kept × Response). IsResponseInRange o.1)
    (λ t. cond_both (bytes_eq kept.pin.0 pin.0) (Some kept, Restored OK kept.secret kept.left) (after_wrong_guess kept) (λ (o : Option Kept × Response). IsResponseInRange o.1)
    (λ u. valid.0.1) (λ f. omega arith))
    (λ f. omega arith)
response-in Delete k valid = tt
response-in (Expose secret) None valid = tt
response-in (Expose secret) (Some kept) valid =
    cond_both (bytes_eq kept.secret secret) (Some (record kept { exposed = true }), Exposed OK) (Some kept, Exposed ERROR) (λ (o : Option Kept × Response). IsResponseInRange o.1)
    (λ t. tt) (λ f. tt)

find-in : (p : Row → Bool) (rows : List Row) → All IsValidRow rows → IfSome (find p rows) IsValidRow
find-in p [] all = tt
find-in p (r ∷ rows) all =
    cond_both (p r) (Some r) (find p rows) (λ o. IfSome o IsValidRow) (λ t. All-head IsValidRow r rows all) (λ f. find-in p rows (All-tail IsValidRow r rows all))

unknown-in : (t : RecordTable) (client : ClientId) (number : ℕ) (request : Request) → IsReplyInRange (ask_unknown t client number request).1
unknown-in t client number (Backup secret pin tries) =
    cond_both (length t.rows == t.limit) (t, TableFull t.limit) (after_acting t client number (act (Backup secret pin tries) None)) (λ (o : RecordTable × Reply). IsReplyInRange o.1)
    (λ s. tt) (λ f. tt)
unknown-in t client number (Restore pin) = omega arith
unknown-in t client number Delete = tt
unknown-in t client number (Expose secret) = tt

reply-by : (o : Option Row) (t : RecordTable) (client : ClientId) (number : ℕ) (request : Request) → IfSome o IsValidRow
    → IsReplyInRange (apply_by o t client number request).1
reply-by None t client number request valid = unknown-in t client number request
reply-by (Some row) t client number request valid =
    cond_both (nat_le number row.last) (t, Stale row.last) (after_acting t client number (act request row.kept)) (λ (o : RecordTable × Reply). IsReplyInRange o.1)
    (λ s. tt) (λ f. response-in request row.kept valid)

pub reply-in : (t : RecordTable) → IsSound t → (client : ClientId) (number : ℕ) (request : Request) → IsReplyInRange (apply t client number request).1
reply-in t sound client number request =
    reply-by (row_of t.rows client) t client number request (find-in (λ (row : Row). client_eq row.client client) t.rows sound.valid)
