-- The end of a call: its appends, a leader that stops, and the base.
use Rattle.std.proofs.Common.{true, ◌≡◌, ℕ, ◌+◌, ◌-◌, ◌<◌, ◌≤◌, Bool, false, not, nat_lt, inl, Option, List, [], ◌∷◌, length, take, drop, refl, sym, ap, arith}
use Rattle.step_walk.proofs.Outcomes as may
use Rattle.std.proofs.lemmas.Bool.{and_parts, ltb-true}
use Rattle.std.proofs.lemmas.List.{take-take, drop-take, length-take, length-drop}
use Rattle.values.specs.declared.entry.Hash.{Hash}
use Rattle.group_quorum.specs.Conf.{Conf}
use Rattle.replica_model.specs.declared.Progress.{Progress}
use Rattle.values.specs.declared.limits.TheConstants.{MAX_ENTRIES}
use Rattle.replica_model.specs.Path.{Path, Link, chain, point}
use Rattle.replica_model.specs.Keyed.{has}
use Rattle.replica_model.specs.Message.{Message, plain}
use Rattle.replica_model.specs.Replica.{Follower, Leader, Leading, Replica}
use Rattle.replica_model.specs.Peers.{progress_of, with_progress}
use Rattle.replica_model.specs.Call.{Call}
use Rattle.replica_model.specs.Send.{entries_from, append_from, can_append, sent_on, appended_to, base_moved, ended}
use Rattle.group_model.specs.Log.{IsFrontOf}
use Rattle.log_laws.proofs.Ending.{all-append}
use Rattle.log_laws.proofs.Leading.{front}
use Rattle.path_machine.specs.Node as node
use Rattle.path_machine.specs.Node.{Node}
use Rattle.path_machine.specs.Machine.{Machine, In}
use Rattle.path_machine.specs.Changes.{is_single_change}
use Rattle.path_machine.proofs.Changes.{single_change_overlaps}
use Rattle.path_laws.proofs.Goes.{appends, follows}
use Rattle.halt_laws.proofs.Alike.{AppendFits, MsgFits, On}
use Rattle.halt_laws.proofs.Onward.{known_of, here_as, Going, onward, restated}
use Rattle.halt_laws.proofs.Raising.{led_node, lead_at}
use Rattle.halt_laws.proofs.Leading.{put_fits}

module _ (link : Link) (first : Conf) (holds : ℕ → Bool) (Held : Path → Type 0) (closed : (p w : Path) → IsFrontOf p w → Held w → Held p) (w : Machine) (v : ℕ) where
  -- what is sent is a front of the path
  append_fits : (messages : List node.Message) (term : ℕ) (path : Path) (next promised committed : ℕ) → 0 < next → next ≤ length path + 1 → Held path → In (node.Append term (take (next - 1 + MAX_ENTRIES) path) promised committed) messages → AppendFits link Held messages term (point link path (next - 1)) (entries_from path next) promised committed
  append_fits messages term path next promised committed some fits held stands =
      let k : ℕ = next - 1 in
      let part : Path = take (k + MAX_ENTRIES) path in
      record {
        path = part;
        stands = stands;
        held = closed part path (front (k + MAX_ENTRIES) path) held;
        prev_fits = omega (arith, length-take (k + MAX_ENTRIES) path);
        hash_is = ap (chain link) (sym (take-take k (k + MAX_ENTRIES) path (omega arith)));
        entries_are = sym (drop-take k MAX_ENTRIES path);
      }

  -- one append
  append_went : (c : Call) (l : Leading) (u : ℕ) → c.state.role ≡ Leader l → can_append c.state l u ≡ true → Going link first holds Held w v c → Going link first holds Held w v (appended_to link c l u)
  append_went c l u is b f =
      let s : Replica = c.state in
      let a = f.at in
      let known = known_of first holds f.now v s a l is in
      let n : Node = led_node first v s l a.voted a.votes a.marks a.mine known.0 known.1 in
      let p : Progress = progress_of l u in
      let some : s.base < p.next = ltb-true _ _ (and_parts (not (has l.sendings u)) (nat_lt s.base p.next) b).1 in
      let next_fits = known.1.next_fits u in
      let k : ℕ = p.next - 1 + MAX_ENTRIES in
      let said : node.Message = node.Append s.term (take k s.path) s.promised s.committed in
      let g : On first holds f.now v n (said ∷ []) [] = appends first is_single_change single_change_overlaps holds f.now v n a.reached (here_as first holds f.now v s a (Leader l) is) k refl in
      let l' : Leading = with_progress l u (sent_on s.path p) in
      onward link first holds Held w v c (appended_to link c l u) f n (said ∷ []) g
      (lead_at first holds g.machine v s.me s.first s.path s.base s.promised s.committed s.term s.vote (Leader l') s.halted l' refl g.reached a.voted a.votes a.marks g.here a.mine a.some a.based a.vote_is known.0
      (put_fits s.path s.committed l a.marks a.marks u (sent_on s.path p) (omega (arith, length-take MAX_ENTRIES (drop (p.next - 1) s.path), length-drop (p.next - 1) s.path)) (known.1.mark_fits u) (known.1.marked u) (λ x. omega arith) known.1)
      a.awake)
      refl (λ held. held)
      (λ held old. all-append (λ (x : ℕ × Message). MsgFits link first Held g.machine.history.messages v x.0 x.1.names x.1.msg) c.sent ((u, plain (append_from link s p.next)) ∷ []) old
      (append_fits g.machine.history.messages s.term s.path p.next s.promised s.committed (omega arith) next_fits held (g.said said (inl refl)), tt))
      (λ t is'. inl is') f.untold

  -- a leader that is no voter any more follows
  stopped : (c : Call) (l : Leading) → c.state.role ≡ Leader l → Going link first holds Held w v c → Going link first holds Held w v (record c { state = record (c.state) { role = Follower; known = 0 } })
  stopped c l is f =
      let s : Replica = c.state in
      let a = f.at in
      let known = known_of first holds f.now v s a l is in
      let n : Node = led_node first v s l a.voted a.votes a.marks a.mine known.0 known.1 in
      let g : On first holds f.now v (node.followed n) [] [] = follows first is_single_change single_change_overlaps holds f.now v n a.reached (here_as first holds f.now v s a (Leader l) is) in
      onward link first holds Held w v c (record c { state = record s { role = Follower; known = 0 } }) f (node.followed n) [] g
      (record { reached = g.reached; voted = a.voted; votes = λ u. false; marks = λ u. 0; here = g.here; mine = a.mine; some = a.some; based = a.based; vote_is = a.vote_is; acts = known.0; awake = a.awake })
      refl (λ held. held) (λ held x. x) (λ t is'. inl is') f.untold

  moved_base : (c : Call) → Going link first holds Held w v c → Going link first holds Held w v (record c { state = base_moved c.state })
  moved_base c f =
      let a = f.at in
      let based = a.based in
      restated link first holds Held w v c (base_moved c.state) f
      (record { reached = a.reached; voted = a.voted; votes = a.votes; marks = a.marks; here = a.here; mine = a.mine; some = a.some; based = omega arith; vote_is = a.vote_is; acts = a.acts; awake = a.awake })
      refl

  pub ended_went : (c : Call) (halted : Option (ℕ × Hash × Hash)) → Going link first holds Held w v c → Going link first holds Held w v (ended link c halted)
  ended_went = may.ended_by (Going link first holds Held w v) link append_went (λ c f. f) stopped moved_base
