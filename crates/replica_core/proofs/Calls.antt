-- The short calls: nothing more, one message, one answer, one refusal.
use Rattle.std.proofs.Common.{◌≡◌, ℕ, Some, Result, Ok, Err, OnOk, List, [], ◌∷◌, ◌++◌, refl, ap, ◌∙◌}
use Rattle.values.specs.declared.batch.Batch.{Batch}
use Rattle.values.specs.declared.batch.Refusal.{Refusal}
use Rattle.values.specs.declared.ids.ClientId.{ClientId}
use Rattle.values.specs.declared.message.Answer.{Answer}
use Rattle.values.specs.declared.peer.PeerMsg.{PeerMsg}
use Rattle.replica_model.specs.Replica as model
use Rattle.replica_model.specs.Call.{empty_batch, still, says, answers, refuses}
use Rattle.replica_core.specs.declared.send.Appends.TheVariants.{Nobody}
use Rattle.replica_core.specs.declared.holder.Holder.{Holder}
use Rattle.replica_core.specs.Standing.{HoldsFor}
use Rattle.replica_core.specs.Calling.{Does}
use Rattle.replica_core.proofs.Holding.{said}

module _ (h : Holder) (b : Batch) (s : model.Replica) (st : HoldsFor h s) (empty : b ≡ empty_batch) where
  pub still-does : Does h b Nobody (still s)
  still-does = record { reaches = record { stands = st; batch_is = empty }; sends = refl }

  pub says-does : (v : ℕ) (msg : PeerMsg) (sent : List (ℕ × PeerMsg)) → sent ≡ b.sent ++ (v, msg) ∷ [] → Does h (record b { sent = sent }) Nobody (says s v msg)
  says-does v msg sent is = record { reaches = record { stands = st; batch_is = said b v msg sent empty is }; sends = refl }

  pub answers-does : (client : ClientId) (number : ℕ) (answer : Answer) (xs : List (ClientId × ℕ × Answer))
      → xs ≡ b.answers ++ (client, number, answer) ∷ [] → Does h (record b { answers = xs }) Nobody (answers s client number answer)
  answers-does client number answer xs is =
      record {
        reaches = record {
          stands = st;
          batch_is = ap (λ ys. record b { answers = ys }) is ∙ ap (λ (d : Batch). record d { answers = d.answers ++ (client, number, answer) ∷ [] }) empty;
        };
        sends = refl;
      }

  pub refuses-does : (refusal : Refusal) → Does h (record b { refused = Some refusal }) Nobody (refuses s refusal)
  refuses-does refusal =
      record { reaches = record { stands = st; batch_is = ap (λ (d : Batch). record d { refused = Some refusal }) empty }; sends = refl }

-- two facts of one success
pub both_ok : {T E P Q R : Type 0} (r : Result T E) → (P → Q → R) → OnOk r P → OnOk r Q → OnOk r R
both_ok (Ok x) f p q = f p q
both_ok (Err e) f p q = tt
