-- What a leader hears of its appends and its tables, and what a learner takes, keeps a replica good.
use Rattle.std.proofs.Common.{true, ◌≡◌, ℕ, ◌+◌, ◌≤◌, inl, inr, ◌&&◌, ◌==◌, min, Some, [], ◌∷◌, length, take, refl, sym, ap, ◌∙◌, subst, arith}
use Rattle.log_laws.proofs.Good.{GoodMessage, GoodProgress, GoodSending, GoodLeading, GoodReplica, GoodAccepted, GoodNames, GoodSent, GoodParts, GoodCall}
use Rattle.std.proofs.lemmas.Bool.{cond_both, and_parts}
use Rattle.std.proofs.lemmas.List.{take-take, length-take, length-take-le, nil_from_length}
use Rattle.values.specs.declared.entry.Point.{Point}
use Rattle.values.specs.declared.peer.TablePart.{TablePart}
use Rattle.group_quorum.specs.Conf.{Conf}
use Rattle.replica_model.specs.declared.Progress.{Progress}
use Rattle.replica_model.specs.Path.{Path, Link}
use Rattle.replica_model.specs.Keyed.{value_at, has, put, without}
use Rattle.replica_model.specs.Replica.{Named, Sending, Leader, Leading, Replica}
use Rattle.replica_model.specs.Peers.{is_peer, peers, progress_of, with_progress, leads_with}
use Rattle.replica_model.specs.Call.{still}
use Rattle.replica_model.specs.Raise.{raise}
use Rattle.replica_model.specs.Graft.{matches}
use Rattle.replica_model.specs.Heard.{accepted_upto}
use Rattle.replica_model.specs.Tables.{part_message, takes_whole, sends_next}
use Rattle.replica_model.specs.Ticks.{sent_again, all_again, parts_again, leader_tick}
use Rattle.group_model.specs.Log.{IsFrontOf}
use Rattle.agreement.proofs.Places.{take_front}
use Rattle.log_laws.proofs.Chain.{NoCollisionIn, max_cases, same_points}
use Rattle.log_laws.proofs.Leading.{front, put_good, sending_put, sending_gone}
use Rattle.log_laws.proofs.Raising.{raise_good}
use Rattle.log_laws.proofs.Offered.{matches_is}
use Rattle.log_laws.proofs.Calls.{unmoved}
use Rattle.step_walk.proofs.Outcomes.{again_by, parts_by}

module _ (link : Link) (first : Conf) (Ever : ℕ → Path → Type 0) (Held : Path → Type 0) (closed : (p w : Path) → IsFrontOf p w → Held w → Held p) (none : NoCollisionIn link Held) (shorter : (v : ℕ) (p w : Path) → IsFrontOf p w → Ever v w → Ever v p) (v : ℕ) (s : Replica) (g : GoodReplica first Ever Held v s) where
  -- one more promise that a peer made on the leader's path
  heard_more : (u : ℕ) (p : Progress) (end : Point) (promised : ℕ) → GoodProgress Ever s.path u p → end.index ≤ length s.path → Ever u (take promised (take end.index s.path)) → GoodProgress Ever s.path u (accepted_upto p end.index promised)
  heard_more u p end promised known fits ever =
      let next_fits = known.next_fits in
      let mark_fits = known.mark_fits in
      let promised_fits = known.promised_fits in
      record {
        next_fits = omega arith;
        mark_fits = omega arith;
        promised_fits = omega arith;
        promised = λ some. elim (max_cases p.promised (min promised end.index)) [
          | inl old ↦ subst (λ k. Ever u (take k s.path)) (sym old) (known.promised (omega (arith, old)))
          | inr now ↦
              let k : ℕ = min promised end.index in
              let upto : take k (take end.index s.path) ≡ take k s.path = take-take k end.index s.path (omega arith) in
              subst (λ k. Ever u (take k s.path)) (sym now)
              (subst (Ever u) upto (shorter u (take k (take end.index s.path)) (take promised (take end.index s.path)) (take_front k promised (take end.index s.path) (omega arith)) ever))
        ];
      }

  module _ (l : Leading) (theirs : s.first ≡ first) (known : GoodLeading first Ever Held s.path l) where
    -- an acceptance, where the log matches its end
    pub accepted_at : (from : ℕ) (end : Point) (promised : ℕ) → GoodAccepted link Ever Held from end promised → (is_peer s l from && matches link s end) ≡ true
        → GoodCall link first Ever Held v (take s.promised s.path) (raise (still (leads_with s (with_progress l from (accepted_upto (progress_of l from) end.index promised)))) (with_progress l from (accepted_upto (progress_of l from) end.index promised)))
    accepted_at from end promised a b =
        let l' : Leading = with_progress l from (accepted_upto (progress_of l from) end.index promised) in
        let at = matches_is link s end (and_parts (is_peer s l from) (matches link s end) b).1 in
        let same : take end.index s.path ≡ a.path =
        same_points link Held none closed end.index (take end.index s.path) a.path (length-take-le end.index s.path at.0) a.end_is
        (closed (take end.index s.path) s.path (front end.index s.path) g.held) a.held (at.1 ∙ sym a.hash_is) in
        let new : GoodProgress Ever s.path from (accepted_upto (progress_of l from) end.index promised) =
        heard_more from (progress_of l from) end promised (known.progress from) at.0 (subst (λ p. Ever from (take promised p)) (sym same) a.promise) in
        raise_good link first Ever Held shorter v (take s.promised s.path) (still (leads_with s l')) l' refl
        (unmoved link first Ever Held v s g (Leader l') (theirs, put_good first Ever Held s.path l from (accepted_upto (progress_of l from) end.index promised) new known) [] tt)

    -- the replica leads with this, and nothing else moves
    pub leading_on : (l' : Leading) → GoodLeading first Ever Held s.path l' → GoodParts link first Ever Held v (take s.promised s.path) s.me s.base s.committed s.promised s.first s.path (Leader l') []
    leading_on l' known' = unmoved link first Ever Held v s g (Leader l') (theirs, known') [] tt

    -- the next index of a peer is put
    pub next_put : (l' : Leading) (u next : ℕ) → GoodLeading first Ever Held s.path l' → next ≤ length s.path + 1 → GoodLeading first Ever Held s.path (with_progress l' u (record (progress_of l' u) { next = next }))
    next_put l' u next known' fits =
        let x = known'.progress u in
        put_good first Ever Held s.path l' u (record (progress_of l' u) { next = next }) (record { next_fits = fits; mark_fits = x.mark_fits; promised_fits = x.promised_fits; promised = x.promised }) known'

    -- the table that is being sent to a peer ends
    pub over : (from : ℕ) → GoodLeading first Ever Held s.path (record l { sendings = without l.sendings from })
    over from = record { progress = known.progress; sendings = sending_gone first Ever Held s.path l from known }

    -- a part of a table that is being sent
    part_fine : (to : ℕ) (sending : Sending) → GoodSending first Ever Held s.path sending → GoodSent link first Ever Held v ((to, part_message link s sending) ∷ [])
    part_fine to sending x = (record { table = x.table; first_is = theirs }, tt)

    -- what was taken of a table: all of it, or another part goes out
    pub whole_sent : (from : ℕ) (sending : Sending) → value_at l.sendings from ≡ Some sending → GoodCall link first Ever Held v (take s.promised s.path) (still (leads_with s (with_progress (record l { sendings = without l.sendings from }) from (record (progress_of l from) { next = length sending.path + 1 }))))
    whole_sent from sending has =
        let fits = (known.sendings from sending has).fits in
        let l' : Leading = record l { sendings = without l.sendings from } in
        leading_on (with_progress l' from (record (progress_of l' from) { next = length sending.path + 1 })) (next_put l' from (length sending.path + 1) (over from) (omega arith))

    pub next_sent : (from : ℕ) (sending : Sending) (next : ℕ) → value_at l.sendings from ≡ Some sending → GoodCall link first Ever Held v (take s.promised s.path) (sends_next link s l from (record sending { part = next }))
    next_sent from sending next has =
        let x = known.sendings from sending has in
        let on : Sending = record sending { part = next } in
        let still_good : GoodSending first Ever Held s.path on = record { table = x.table; fits = x.fits } in
        unmoved link first Ever Held v s g (Leader (record l { sendings = put l.sendings from on })) (theirs, record { progress = known.progress; sendings = sending_put first Ever Held s.path l from on still_good known }) ((from, part_message link s on) ∷ []) (part_fine from on still_good)

    pub tick_at : GoodCall link first Ever Held v (take s.promised s.path) (leader_tick link s l)
    tick_at = unmoved link first Ever Held v s g (Leader (all_again s l (peers s l)))
        (theirs, again_by (GoodLeading first Ever Held s.path) s again_good (peers s l) l known) (parts_again link s l)
        (parts_by (λ m. GoodMessage link first Ever Held v m.1) link s l (λ u sending has. (part_fine u sending (known.sendings u sending has)).0) (peers s l))
      where
        again_good : (l' : Leading) (u : ℕ) → GoodLeading first Ever Held s.path l' → GoodLeading first Ever Held s.path (with_progress l' u (sent_again s (progress_of l' u)))
        again_good l' u known' = put_good first Ever Held s.path l' u (sent_again s (progress_of l' u))
            (cond_both ((progress_of l' u).mark == 0) (progress_of l' u) _ (GoodProgress Ever s.path u)
            (λ b. known'.progress u)
            (λ b.
            let x = known'.progress u in
            let mark_fits = x.mark_fits in
            let based = g.state.based in
            let within = g.state.within in
            let fits = g.state.fits in
            record { next_fits = omega arith; mark_fits = mark_fits; promised_fits = x.promised_fits; promised = x.promised }))
            known'

  -- a learner takes parts alone; with the last one it holds a table's path
  pub whole_good : s.path ≡ [] → (term from limit : ℕ) (part : TablePart) (names : Named) → GoodNames first Ever Held names → GoodCall link first Ever Held v (take s.promised s.path) (takes_whole link (record s { term = term }) from part names limit)
  whole_good empty term from limit part names x =
      let nothing : take s.promised s.path ≡ [] = nil_from_length (take s.promised s.path) (omega (arith, length-take s.promised s.path, ap length empty)) in
      record {
        mine = g.mine;
        keeps = subst (λ y. IsFrontOf y (take (length names.path) names.path)) (sym nothing) (take (length names.path) names.path, refl);
        after = λ held own. (record { within = omega arith; based = omega arith; fits = omega arith; good = x.table.good; acts = x.first_is }, (tt, tt));
      }
