use Rattle.std.proofs.Common.{◌≡◌, ℕ, ◌<◌, false, List, length, subst, arith}
use Rattle.std.specs.Prelude.{None}
use Rattle.values.specs.declared.entry.Hash.{Hash}
use Rattle.values.specs.declared.message.Request.TheVariants.{Backup}
use Rattle.record_table.specs.declared.change.Change.TheVariants.{Keep}
use Rattle.record_table.specs.Changes.{IsOutcome}
use Rattle.record_rules.proofs.Sound.{backs_up}
use Rattle.record_table.proofs.Changed.{sound_new}
use Rattle.record_table.proofs.table.TableOver.apply_unknown.Given.{Over}
use Rattle.record_table.proofs.table.TableOver.apply_unknown.Goals as goal
use Rattle.record_table.proofs.table.TableOver.apply_unknown.Goals.{In_ok-add, in-Backup, in_default, else-is_backup-via-then-is_backup+else-count-self, else-is_backup-via-else-is_backup}

-- where the request was seen to be no backup, it is none
no_backup : (g : Over) (c : In_ok-add g) → c.match-matches.matches ≡ false → ¬ ((secret : List ℕ) × (pin : Hash) × (tries : ℕ) × (c.args.request ≡ Backup secret pin tries))
no_backup g c seen (secret, pin, tries, is) =
    elim c.match-matches.branch [
      | in-Backup w ↦ let t = w.matches-is in cc
      | in_default w ↦ w.in_default.not-Backup secret pin tries is
    ]

pub invariant_of-self : goal.invariant_of-self
invariant_of-self g c =
    let answered : IsOutcome c.args.request None (Keep c.in-Keep.kept, c.in_ok-change.response) =
    subst (λ change. IsOutcome c.args.request None (change, c.in_ok-change.response)) c.in-Keep.is c.in_ok-change.ensures in
    let backup = backs_up c.args.request c.in-Keep.kept c.in_ok-change.response answered in
    let room : length (g.T.RowStore.content c.self.inside.rows) < c.self.inside.limit =
    elim c.else-is_backup.branch [
      | else-is_backup-via-then-is_backup+else-count-self w ↦
          let count = w.count.ensures.count in let few = c.self.invariant.few in let other = w.if-count-self.false in omega arith
      | else-is_backup-via-else-is_backup w ↦ absurd (no_backup g c w.if-is_backup.false backup)
    ] in
    sound_new (record { limit = c.self.inside.limit; rows = g.T.RowStore.content c.self.inside.rows }) c.args.client.now c.args.number c.args.request
    c.in-Keep.kept c.in_ok-change.response (g.T.RowStore.content c.add.new.self) c.self.invariant c.requires.valid answered room c.in_ok-add.ensures.ok
