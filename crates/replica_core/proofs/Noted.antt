-- What a leader notes of what it hears of its appends leaves it sound, and in range.
use Rattle.std.proofs.Common.{◌≡◌, ℕ, ◌≤◌, Bool, true, false, cond, not, ◌||◌, ◌==◌, nat_lt, nat_le, Some, None, All, refl, arith}
use Rattle.std.proofs.lemmas.Bool.{cond_both, and_parts, leb-true}
use Rattle.std.proofs.lemmas.List.Elements.{All-filter}
use Rattle.values.specs.declared.entry.Point.{Point}
use Rattle.group_quorum.specs.Voters.{IsId}
use Rattle.replica_model.specs.Keyed.{without}
use Rattle.table_transfer.specs.SentTable.{SentTable}
use Rattle.replica_model.specs.declared.Progress.{Progress}
use Rattle.replica_model.specs.Linked.{sha_link}
use Rattle.replica_model.specs.Graft.{is_hash}
use Rattle.replica_model.specs.Heard.{accepted_upto}
use Rattle.replica_log.specs.Window.{Window, base_index, last_index, is_kept, summary_at, matches}
use Rattle.append_rules.specs.Replies.{next_after, is_sent_anew}
use Rattle.replica_core.specs.declared.role.Role.{Role}
use Rattle.replica_core.specs.declared.role.Role.TheVariants as kept
use Rattle.replica_core.specs.declared.role.Leading.{Leading}
use Rattle.replica_core.specs.declared.holder.Holder.{Holder}
use Rattle.replica_core.specs.Keeping.{progress_in, IsWithin, IsSoundLeading, IsSoundRole, IsSound}
use Rattle.replica_core.specs.declared.send.Appends.TheVariants.{Nobody, One, Everyone}
use Rattle.replica_core.specs.InRange.{IsSendingInRange, IsLeadingInRange, IsRoleInRange, IsHolderInRange, IsForId}
use Rattle.replica_core.specs.Leads.{with_progress_in, without_sending, after_accepted, after_rejected, role_leading, holder_leading, lacks_entries_at, appends_after}
use Rattle.replica_core.proofs.Listed.{all-put}
use Rattle.replica_core.proofs.Ranged.{role-in}
use Rattle.replica_core.proofs.Sounds.{within-in, sendings-without}

role-sound : (last : ℕ) (role : Role) (f : Leading → Leading) → IsSoundRole last role → ((l : Leading) → IsSoundLeading last l → IsSoundLeading last (f l))
    → IsSoundRole last (role_leading role f)
role-sound last kept.Follower f h keeps = tt
role-sound last (kept.Candidate votes) f h keeps = h
role-sound last (kept.Leader l) f h keeps = keeps l h

-- the same replica, with what it keeps as a leader changed
pub leading-sound : (h : Holder) (f : Leading → Leading) → IsSound h → ((l : Leading) → IsSoundLeading (last_index h.log) l → IsSoundLeading (last_index h.log) (f l))
    → IsSound (holder_leading h f)
leading-sound h f sound keeps =
    record { term = sound.term; last = sound.last; role = role-sound (last_index h.log) h.role f sound.role keeps; tickets = sound.tickets; within = sound.within }

-- a point that matches is within the log
matches-within : (w : Window) (p : Point) → matches sha_link w p ≡ true → p.index ≤ last_index w
matches-within w p so = by (is_kept w p.index) refl so
  where
    by : (kept : Bool) → is_kept w p.index ≡ kept → is_hash (cond kept (Some (summary_at sha_link w p.index).point.hash) None) p.hash ≡ true → p.index ≤ last_index w
    by true is so = leb-true p.index (last_index w) (and_parts (nat_le (base_index w) p.index) (nat_le p.index (last_index w)) is).1
    by false is so = cc

module _ (w : Window) (l : Leading) (v : ℕ) (h : IsSoundLeading (last_index w) l) where
  known : IsWithin (last_index w) (progress_in l.progress v)
  known = within-in (last_index w) l.progress v h.progress

  pub accepted-sound : (end : Point) (promised : ℕ) → IsSoundLeading (last_index w) (after_accepted l w v end promised)
  accepted-sound end promised =
      let q : Progress = accepted_upto (progress_in l.progress v) end.index promised in
      cond_both (matches sha_link w end) (with_progress_in l v q) l (IsSoundLeading (last_index w))
      (λ so.
      let next = known.next in
      let mark = known.mark in
      let end_in = matches-within w end so in
      record {
        progress = all-put (IsWithin (last_index w)) l.progress v q h.progress (record { next = omega (arith, next, end_in); mark = omega (arith, mark, end_in) });
        learners = h.learners;
        sendings = h.sendings;
      })
      (λ not_so. h)

  without-sound : IsSoundLeading (last_index w) (without_sending l v)
  without-sound = record { progress = h.progress; learners = h.learners; sendings = sendings-without (last_index w) l.sendings v h.sendings }

  pub rejected-sound : (hint : ℕ) → IsSoundLeading (last_index w) (after_rejected l w v hint)
  rejected-sound hint =
      let q : Progress = record (progress_in l.progress v) { next = next_after w hint } in
      cond_both (is_sent_anew w (progress_in l.progress v) hint) (with_progress_in (without_sending l v) v q) (without_sending l v) (IsSoundLeading (last_index w))
      (λ so. record {
        progress = all-put (IsWithin (last_index w)) l.progress v q h.progress (record { next = omega arith; mark = known.mark });
        learners = h.learners;
        sendings = without-sound.sendings;
      })
      (λ not_so. without-sound)

-- ---- and in range

role-ranged : (role : Role) (f : Leading → Leading) → IsRoleInRange role → ((l : Leading) → IsLeadingInRange l → IsLeadingInRange (f l)) → IsRoleInRange (role_leading role f)
role-ranged kept.Follower f h keeps = tt
role-ranged (kept.Candidate votes) f h keeps = tt
role-ranged (kept.Leader l) f h keeps = keeps l h

pub leading-in : (h : Holder) (f : Leading → Leading) → IsHolderInRange h → ((l : Leading) → IsLeadingInRange l → IsLeadingInRange (f l)) → IsHolderInRange (holder_leading h f)
leading-in h f ranged keeps = role-in h (role_leading h.role f) ranged (role-ranged h.role f ranged.role keeps)

module _ (w : Window) (l : Leading) (v : ℕ) (h : IsLeadingInRange l) where
  pub accepted-in : (end : Point) (promised : ℕ) → IsLeadingInRange (after_accepted l w v end promised)
  accepted-in end promised =
      cond_both (matches sha_link w end) (with_progress_in l v (accepted_upto (progress_in l.progress v) end.index promised)) l IsLeadingInRange
      (λ so. record { learners = h.learners; sendings = h.sendings }) (λ not_so. h)

  without-in : All (λ (k : ℕ × SentTable). IsSendingInRange k.1) (without l.sendings v)
  without-in = All-filter (λ k. not (k.0 == v)) (λ (k : ℕ × SentTable). IsSendingInRange k.1) l.sendings h.sendings

  pub rejected-in : (hint : ℕ) → IsLeadingInRange (after_rejected l w v hint)
  rejected-in hint =
      cond_both (is_sent_anew w (progress_in l.progress v) hint)
      (with_progress_in (without_sending l v) v (record (progress_in l.progress v) { next = next_after w hint })) (without_sending l v) IsLeadingInRange
      (λ so. record { learners = h.learners; sendings = without-in }) (λ not_so. record { learners = h.learners; sendings = without-in })

-- who alone is to be sent an append is the peer
pub appends-for : (h : Holder) (promised committed v : ℕ) → IsId v → IsForId (appends_after h promised committed v)
appends-for h promised committed v id =
    cond_both (nat_lt promised h.log.promised || nat_lt committed h.log.committed) Everyone (cond (lacks_entries_at h v) (One v) Nobody) IsForId
    (λ rose. tt) (λ stays. cond_both (lacks_entries_at h v) (One v) Nobody IsForId (λ lacks. id) (λ has_all. tt))
