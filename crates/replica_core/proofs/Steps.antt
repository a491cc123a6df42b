-- One call of a replica that holds a log: what it does first, and its end.
use Rattle.std.proofs.Common.{◌≡◌, ℕ, true, false, Option, Some, None, refl, sym, subst}
use Rattle.std.specs.Prelude.{is_some, is_none}
use Rattle.values.specs.declared.batch.Batch.{Batch}
use Rattle.values.specs.declared.entry.Hash.{Hash}
use Rattle.replica_model.specs.Linked.{sha_link}
use Rattle.replica_model.specs.Replica as model
use Rattle.replica_model.specs.Call as model_call
use Rattle.replica_model.specs.Call.{Call}
use Rattle.replica_model.specs.Send.{concluded, send_appends, ended, with_sent}
use Rattle.replica_model.specs.Step.{acts, acts_on, acts_halted, with_end}
use Rattle.replica_core.specs.declared.holder.Holder.{Holder}
use Rattle.replica_core.specs.Standing.{HoldsFor}
use Rattle.replica_core.specs.Calling.{Reaches}

pub halted-acts : (s : model.Replica) (i : model_call.Input) (o : Option (ℕ × Hash × Hash)) → is_some o ≡ true → acts sha_link s o i ≡ acts_halted s i
halted-acts s i None is = cc
halted-acts s i (Some d) is = refl

pub going-acts : (s : model.Replica) (i : model_call.Input) (o : Option (ℕ × Hash × Hash)) → is_some o ≡ false → acts sha_link s o i ≡ acts_on sha_link s i
going-acts s i None is = refl
going-acts s i (Some d) is = cc

halted-ends : (c : Call) (o : Option (ℕ × Hash × Hash)) → is_none o ≡ false → ended sha_link c o ≡ c
halted-ends c None is = cc
halted-ends c (Some d) is = refl

going-ends : (c : Call) (o : Option (ℕ × Hash × Hash)) → is_none o ≡ true → ended sha_link c o ≡ concluded (send_appends sha_link c c.appends)
going-ends c None is = refl
going-ends c (Some d) is = cc

module _ (h : Holder) (b : Batch) (c : Call) where
  -- it has not halted: its appends are sent, and the call ends
  pub step-goes : is_none c.state.halted ≡ true → Reaches h b (concluded (send_appends sha_link c c.appends))
      → HoldsFor h (with_sent (with_end sha_link c)).state × (b ≡ (with_sent (with_end sha_link c)).batch)
  step-goes is r =
      subst (λ k. HoldsFor h (with_sent k).state × (b ≡ (with_sent k).batch)) (sym (going-ends c c.state.halted is)) (r.stands, r.batch_is)

  -- it has halted
  pub step-halts : is_none c.state.halted ≡ false → Reaches h b c → HoldsFor h (with_sent (with_end sha_link c)).state × (b ≡ (with_sent (with_end sha_link c)).batch)
  step-halts is r =
      subst (λ k. HoldsFor h (with_sent k).state × (b ≡ (with_sent k).batch)) (sym (halted-ends c c.state.halted is)) (r.stands, r.batch_is)
