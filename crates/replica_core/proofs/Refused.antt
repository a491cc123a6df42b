-- What a change of the members is refused with is in range.
use Rattle.std.proofs.Common.{◌≡◌, ℕ, ◌≤◌, Some, sym, subst, arith}
use Rattle.std.proofs.lemmas.Bool.{cond_both}
use Rattle.values.specs.declared.batch.Batch.{Batch}
use Rattle.values.specs.declared.batch.Refusal.{Refusal}
use Rattle.values.specs.declared.limits.TheConstants.{TOP}
use Rattle.group_quorum.specs.Voters.{is_in}
use Rattle.group_msgs.specs.Batches.{IsRefusalInRange}
use Rattle.member_rules.specs.declared.fault.MemberFault.{MemberFault}
use Rattle.member_rules.specs.declared.fault.MemberFault.TheVariants as fault
use Rattle.member_rules.specs.InRange.{IsFaultInRange}
use Rattle.member_rules.specs.Refusals.{refusal_of}
use Rattle.replica_core.specs.declared.holder.Holder.{Holder}
use Rattle.replica_core.specs.declared.role.Role.{Role}
use Rattle.replica_core.specs.declared.role.Role.TheVariants.{Follower, Candidate, Leader}
use Rattle.replica_core.specs.declared.send.Appends.{Appends}
use Rattle.replica_core.specs.declared.send.Appends.TheVariants.{Nobody}
use Rattle.replica_core.specs.InRange.{IsForId, IsHolderInRange}
use Rattle.replica_core.specs.Keeping.{progress_in, IsSound, IsSoundRole}
use Rattle.replica_core.specs.Leads.{learner_mark_in}
use Rattle.replica_core.specs.Ranges.{IsStepBatch}
use Rattle.replica_core.proofs.Sounds.{within-in}

pub refused-in : (b : Batch) (refusal : Refusal) → IsStepBatch b → IsRefusalInRange refusal → IsStepBatch (record b { refused = Some refusal })
refused-in b refusal h ranged =
    record {
      ranged = record {
        lead = h.ranged.lead;
        members = h.ranged.members;
        halt = h.ranged.halt;
        taken = h.ranged.taken;
        commits = h.ranged.commits;
        answers = h.ranged.answers;
        sent = h.ranged.sent;
        refused = ranged;
      };
      saved = h.saved;
    }

-- what refuses changes nothing else
pub refuses-in : (h : Holder) (b b' : Batch) (to : Appends) (refusal : Refusal) → IsRefusalInRange refusal → b' ≡ record b { refused = Some refusal } → to ≡ Nobody
    → IsHolderInRange h → IsStepBatch b → IsHolderInRange h × (IsStepBatch b' × IsForId to)
refuses-in h b b' to refusal refusal_ranged batch nobody ranged told =
    (ranged, (subst IsStepBatch (sym batch) (refused-in b refusal told refusal_ranged), subst IsForId (sym nobody) tt))

pub fault-in : (f : MemberFault) → IsFaultInRange f → IsRefusalInRange (refusal_of f)
fault-in (fault.LogFull last) h = h
fault-in (fault.ChangePending index committed) h = h
fault-in (fault.AlreadyVoter id) h = tt
fault-in (fault.NotVoter id) h = tt
fault-in (fault.TooFew count) h = tt
fault-in (fault.TooMany count) h = tt
fault-in (fault.NotCaughtUp mark committed) h = h
fault-in (fault.NoLink id) h = tt
fault-in (fault.SameMargin margin) h = h

mark-of : (last : ℕ) (role : Role) (id : ℕ) → last ≤ TOP → IsSoundRole last role → learner_mark_in role id ≤ TOP
mark-of last Follower id le sound = omega arith
mark-of last (Candidate votes) id le sound = omega arith
mark-of last (Leader l) id le sound =
    let mark = (within-in last l.progress id sound.progress).mark in
    cond_both (is_in l.learners id) (progress_in l.progress id).mark 0 (λ n. n ≤ TOP) (λ t. omega (arith, mark, le)) (λ f. omega arith)

-- the mark of a learner is an index of the log
pub mark-in : (h : Holder) (id : ℕ) → IsSound h → learner_mark_in h.role id ≤ TOP
mark-in h id sound = mark-of _ h.role id sound.last sound.role
