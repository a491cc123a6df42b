-- What a call has raised, of a replica that stands for the model's after it.
use Rattle.std.proofs.Common.{◌≡◌, ap, sym}
use Rattle.values.specs.declared.batch.Batch.{Batch}
use Rattle.replica_model.specs.Replica as model
use Rattle.replica_model.specs.Call.{Call}
use Rattle.replica_model.specs.Raised.{RaisesOrStays}
use Rattle.replica_core.specs.declared.replica.State.{State}
use Rattle.replica_core.specs.declared.replica.State.TheVariants as state
use Rattle.replica_core.specs.Standing.{StandsFor}
use Rattle.replica_core.specs.Raised.{promised_in, committed_in, IsRaised}

promised-is : (after : State) (s : model.Replica) → StandsFor after s → promised_in after ≡ s.promised
promised-is state.Spent s st = absurd st
promised-is (state.Learner l) s st = sym (ap (λ (r : model.Replica). r.promised) st.same)
promised-is (state.Holder h) s st = st.log.is_promised

committed-is : (after : State) (s : model.Replica) → StandsFor after s → committed_in after ≡ s.committed
committed-is state.Spent s st = absurd st
committed-is (state.Learner l) s st = sym (ap (λ (r : model.Replica). r.committed) st.same)
committed-is (state.Holder h) s st = st.log.is_committed

pub raised-as : (s : model.Replica) (c : Call) (after : State) (batch : Batch) → RaisesOrStays s c → StandsFor after c.state → batch ≡ c.batch
    → IsRaised s c after batch
raised-as s c after batch raises stands batch-is =
    record {
      call = raises;
      promised = promised-is after c.state stands;
      committed = committed-is after c.state stands;
      answers = ap (λ (b : Batch). b.answers) batch-is;
    }
