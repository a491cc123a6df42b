-- One call of a replica sends true parts alone.
use Rattle.std.proofs.Common.{◌≡◌, ℕ, ◌<◌, ◌==◌, nat_lt, inl, inr, List, [], take, refl, sym, subst, ◌∙◌}
use Rattle.std.proofs.lemmas.Bool.{cond_both, and_parts, ltb-true}
use Rattle.std.proofs.lemmas.Option.{same_Some, none-some}
use Rattle.client_msgs.specs.Reading.{request_of}
use Rattle.replica_model.specs.Path.{Link}
use Rattle.replica_model.specs.Keyed.{put, without}
use Rattle.replica_model.specs.Message.{Message}
use Rattle.replica_model.specs.Replica.{Named, Sending, Candidate, Leader, Leading, Replica}
use Rattle.replica_model.specs.Peers.{peers}
use Rattle.replica_model.specs.Call.{Input, Call}
use Rattle.replica_model.specs.Changes.{join_refusal, admit_refusal, remove_refusal, margin_refusal}
use Rattle.replica_model.specs.Step.{step}
use Rattle.replica_model.specs.Tables.{parts_of, rows_of, named_by, part_message, taken_with}
use Rattle.replica_model.specs.Term.{learner_term}
use Rattle.replica_model.specs.Votes.{win, stood, with_vote}
use Rattle.log_laws.proofs.Ending.{all-append}
use Rattle.log_laws.proofs.Lookups.{put_cases, without_stood}
use Rattle.step_walk.specs.Rules.{Rules}
use Rattle.step_walk.proofs.Outcomes as may
use Rattle.step_walk.proofs.Outcomes.{again_by, parts_by, same_to_each}
use Rattle.step_walk.proofs.Walk.{followed_is, step_keeps}
use Rattle.part_laws.proofs.True.{IsNumbered, SendsNumbered, GoodTables, HasGoodTables, TakesOf, TakesIn, IsTrue, AreTrue, TrueParts, TrueCall, has_first}

-- ---- the tables that a leader sends
put_numbered : (limit : ℕ) (l : Leading) (v : ℕ) (sending : Sending) → SendsNumbered limit l → IsNumbered limit sending → SendsNumbered limit (record l { sendings = put l.sendings v sending })
put_numbered limit l v sending good now u at is = elim (put_cases l.sendings v sending u) [
  | inl here ↦ subst (IsNumbered limit) (same_Some sending at (sym here.1 ∙ is)) now
  | inr there ↦ good u at (sym there.1 ∙ is)
]

fewer_numbered : (limit : ℕ) (l : Leading) (v : ℕ) → SendsNumbered limit l → SendsNumbered limit (record l { sendings = without l.sendings v })
fewer_numbered limit l v good u at is = good u at (without_stood l.sendings v u at is)

module _ (link : Link) (Takes : Named → Type 0) where
  abbrev True : Call → Type 0
  True c = TrueCall link Takes c

  part_true : (s : Replica) (sending : Sending) → IsNumbered s.limit sending → IsTrue link (part_message link s sending)
  part_true s sending below = record { is_part = refl; below = below }

  -- a new leader sends no table
  win_true : (s : Replica) → True (win s)
  win_true s = record { sends = λ u sending is. absurd (none-some sending is); true = tt }

  module _ (s : Replica) (g : HasGoodTables Takes s) where
    as_was : (sent : List (ℕ × Message)) → AreTrue link sent → TrueParts link Takes s.limit s.role sent
    as_was sent fine = record { sends = g; true = fine }

    module _ (l : Leading) (is : s.role ≡ Leader l) where
      mine : SendsNumbered s.limit l
      mine = subst (GoodTables Takes s.limit) is g

      fewer : (from : ℕ) → SendsNumbered s.limit (record l { sendings = without l.sendings from })
      fewer from = fewer_numbered s.limit l from mine

  rules : Rules link (HasGoodTables Takes) (λ s. TakesIn Takes) (λ from. TakesOf Takes) (λ s. True) (λ s input. True)
  rules = record {
    idle = λ s g. as_was s g [] tt;
    not_leader = λ s known le g. as_was s g [] tt;
    rises = λ s from names msg g holder x up. followed_is (GoodTables Takes s.limit) s.role holder tt;
    back = λ s t c done. done;
    message = λ s from m x. x;
    stands = λ s g behind x. may.stand_by True s (as_was s g [] tt) (λ b. (λ b. win_true (stood s), record { sends = tt; true = same_to_each (λ m. IsTrue link m.1) _ (λ v. tt) _ }));
    asked_vote = λ s from names term last_index last_term g holder same x. may.vote_asked_by True s from last_index last_term (λ b. as_was s g _ (tt, tt)) (as_was s g _ (tt, tt));
    heard_vote = λ s votes from names term granted g is same x. may.vote_heard_by True s (as_was s g [] tt) votes from granted (λ b. (λ b. win_true (record s { role = Candidate (with_vote s votes from) }), record { sends = tt; true = tt }));
    heard_append = λ s names term o g holder same x. may.append_heard_by True link s o (λ d is b. record { sends = g; true = tt }) (λ d hint is at. record { sends = tt; true = (tt, tt) }) (λ d is calm at. record { sends = tt; true = (tt, tt) });
    older_vote = λ s from names term last_index last_term g holder x. as_was s g _ (tt, tt);
    older_append = λ s from names term prev entries promise commit g holder x. as_was s g _ (tt, tt);
    older_part = λ s from names term part g holder x. as_was s g _ (tt, tt);
    heard_part = λ s from names term part g holder x. may.part_heard_by True link s from part (as_was s g _ (tt, tt)) (λ hint at. as_was s g _ (tt, tt));
    takes_part = λ s taking from names term part g is x.
        let known : Takes (taken_with taking part names).names = cond_both (part.part == 0) names taking.names Takes (λ b. x) (λ b. subst (GoodTables Takes s.limit) is g) in
        may.take_part_by True link (learner_term s term) taking from part names (λ b. (record { sends = tt; true = (tt, tt) }, record { sends = known; true = (tt, tt) })) (as_was s g _ (tt, tt));
    heard_accepted = λ s l from names term end promised g is same x. may.accepted_heard_by True link s (as_was s g [] tt) l from (λ c done. done) end promised (λ done. done) (λ b. record { sends = mine s g l is; true = tt });
    heard_rejected = λ s l from names term asked hint g is same x. may.rejected_heard_by True link s (as_was s g [] tt) l from (λ c done. done) hint (record { sends = fewer s g l is from; true = tt }) (record { sends = fewer s g l is from; true = tt });
    heard_taken = λ s l from names term point next g is x. may.part_taken_by True link s (as_was s g [] tt) l from (λ c done. done) point next
        (λ sending has. (
          record { sends = fewer s g l is from; true = tt },
          λ later.
              let parts : ℕ = parts_of (rows_of (named_by s sending.path)) in
              let below : next < parts = ltb-true next parts (and_parts (nat_lt sending.part next) (nat_lt next parts) later).1 in
              record { sends = put_numbered s.limit l from (record sending { part = next }) (mine s g l is) below; true = (part_true s (record sending { part = next }) below, tt) },
        ));
    leader_ticks = λ s l g is x. record {
      sends = again_by (SendsNumbered s.limit) s (λ l v good. good) (peers s l) l (mine s g l is);
      true = parts_by (λ m. IsTrue link m.1) link s l (λ v sending has. part_true s sending (mine s g l is v sending has)) (peers s l);
    };
    joins = λ s l id linked g is x.
        let first = has_first s.limit (take s.committed s.path) in
        may.unless_by True s (join_refusal s l id linked) _ (λ r at. as_was s g [] tt) (λ fine. record { sends = put_numbered s.limit l id _ (mine s g l is) first; true = (part_true s (record { path = take s.committed s.path; part = 0 }) first, tt) });
    admits = λ s l id g is x. may.unless_by True s (admit_refusal s l id) _ (λ r at. as_was s g [] tt) (λ fine. record { sends = mine s g l is; true = tt });
    removes = λ s l id g is x. may.unless_by True s (remove_refusal s id) _ (λ r at. as_was s g [] tt) (λ fine. record { sends = mine s g l is; true = tt });
    sets_margin = λ s l margin g is x. may.unless_by True s (margin_refusal s margin) _ (λ r at. as_was s g [] tt) (λ fine. record { sends = mine s g l is; true = tt });
    asked = λ s client number request g x. may.on_request_by True s client number (request_of request) (as_was s g [] tt) (λ why. as_was s g [] tt) (λ l request read is. as_was s g [] tt);
    others = λ s input c other done. done;
    ends = λ s input c done. may.ended_by True link
        (λ c l v is b done. record { sends = subst (GoodTables Takes c.state.limit) is done.sends; true = all-append (λ m. IsTrue link m.1) c.sent _ done.true (tt, tt) })
        (λ c done. done) (λ c l is done. record { sends = tt; true = done.true }) (λ c done. done) c c.state.halted done;
  }

  pub step_true : (s : Replica) → HasGoodTables Takes s → (input : Input) → TakesIn Takes input → TrueCall link Takes (step link s input)
  step_true s g input x = step_keeps link (HasGoodTables Takes) (λ s. TakesIn Takes) (λ from. TakesOf Takes) (λ s. True) (λ s input. True) rules s g input x
