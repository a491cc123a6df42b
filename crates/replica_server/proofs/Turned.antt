-- One more frame of a session: how serving ends there, or goes on.
use Rattle.std.proofs.Common.{◌≡◌, ℕ, inl, inr, ◌+◌, ◌<◌, ◌≤◌, Bool, true, false, Option, Some, None, Result, Ok, Err, List, [], ◌∷◌, ◌++◌, length, take, drop, refl, sym, ap, subst, ◌∙◌, arith, length-append, length-drop, take-append-drop}
use Rattle.std.specs.Prelude.{◌⊎◌}
use Rattle.std.specs.List.{AllByRecursion}
use Rattle.std.specs.Int.{w32, from_be_bytes}
use Rattle.std.specs.Io.KnownBytes.{IsAtEnd}
use Rattle.std.proofs.lemmas.List.{append_assoc, append-nil, length-take-le}
use Rattle.values.specs.declared.entry.Point.{Point}
use Rattle.values.specs.declared.limits.TheConstants.{MAX_BATCH, MAX_FRAMES}
use Rattle.host_inputs.specs.declared.input.HostFault.{HostFault}
use Rattle.replica_model.specs.Linked.{sha_link}
use Rattle.replica_model.specs.Replica.{Named}
use Rattle.group_model.specs.Enclave.{Enclave, Called}
use Rattle.trace_model.specs.Session.{Content, Tagging, Handed, Session, Cause, End, Bad, ends_at, IsTrueHanded, IsMapFor, batch_frame}
use Rattle.trace_model.specs.Session as session
use Rattle.enclave_host.specs.Words.{wording}
use Rattle.enclave_host.specs.declared.running.Running.{Running}
use Rattle.replica_server.specs.declared.answer.Unanswered.{Unanswered}
use Rattle.replica_server.specs.declared.answer.Unanswered.TheVariants as answer
use Rattle.replica_server.specs.declared.served.Served.TheVariants as served
use Rattle.replica_server.specs.declared.served.FrameCause.{FrameCause}
use Rattle.replica_server.specs.declared.served.FrameCause.TheVariants as cause
use Rattle.replica_server.specs.Answering.{IsCalled, IsRefused, IsLeft, IsRight, Answers, batch_of}
use Rattle.replica_server.specs.Reached.{Place, behind, session_at, Reaches}
use Rattle.replica_server.specs.Reading.{is_no_length, IsFrame, IsBegun, IsPart}
use Rattle.replica_server.specs.Served.{unanswered}
use Rattle.replica_server.specs.Serving.{cause_of, answers_to, AreShort}
use Rattle.replica_server.specs.Standing.{Stands, IfByMap}
use Rattle.replica_server.specs.Turning.{Spot, IsServed, SoFar, EndsSo}
use Rattle.replica_server.proofs.Endings.{Of, Over, end_done, end_frame, end_read_fault, end_memory, end_limit, end_write_fault, answers_last, short_last}
use Rattle.replica_server.proofs.Framed.{after_frame}
use Rattle.replica_server.proofs.Reaching.{Framed, reach_frame, reach_end, reach_done, spread, ends_in_length, ends_at_length, ends_behind_length, ends_at_tag, ends_at_content, ends_at_call}

-- the last of what is so of all
true_last : {X : Type 0} (P : X → Type 0) (xs : List X) (x : X) (more : List X) → AllByRecursion P ((xs ++ x ∷ []) ++ more) → P x
true_last P [] x more h = h.0
true_last P (y ∷ xs) x more h = true_last P xs x more h.1

-- where a source tells nothing more
none_left : (left : Option (List ℕ)) (future : List ℕ) → left ≡ Some future → IsAtEnd left → future ≡ []
none_left left future e end = subst IsAtEnd e end

module _ (tagging : Tagging) (names : Point → Named) where
  abbrev Here : Place → List ℕ → Session HostFault
  Here p bytes = session_at wording tagging sha_link names p bytes

  abbrev Whose : List ℕ → Type 0
  Whose bytes = IsMapFor wording tagging sha_link names bytes

  -- a frame as it was read
  abbrev content_in : ℕ → List ℕ → List ℕ
  content_in n frame = take n frame

  framed : (n : ℕ) (head frame : List ℕ) → IsFrame tagging.size n head frame → Framed wording tagging sha_link names n head (take n frame) (drop n frame)
  framed n head frame f =
      record {
        four = f.four;
        spelled = f.spelled;
        long = length-take-le n frame (omega (arith, f.long));
        range = f.range;
        size = omega (arith, f.long, length-drop n frame);
      }

  -- the frame in front of what follows
  parts : (read head frame future : List ℕ) (n : ℕ) → (read ++ (head ++ frame)) ++ future ≡ read ++ (head ++ (take n frame ++ (drop n frame ++ future)))
  parts read head frame future n =
      ap (λ xs. (read ++ (head ++ xs)) ++ future) (sym (take-append-drop n frame)) ∙ spread wording tagging sha_link names read head (take n frame) (drop n frame) future

  abbrev handed_of : Place → Content → Called → Handed
  handed_of p said c = record { before = p.before; content = said; called = c }

  -- a frame that is called
  called_frame : (read : List ℕ) (handed : List Handed) (p : Place) (n : ℕ) (head frame : List ℕ) (said : Content) (c : Called)
      → Reaches wording tagging sha_link names read handed p → IsFrame tagging.size n head frame
      → tagging.is_right p.number (take n frame) (drop n frame) ≡ true → IsCalled tagging names p.before (take n frame) said c
      → Reaches wording tagging sha_link names (read ++ (head ++ frame)) (handed ++ handed_of p said c ∷ []) (after_frame wording tagging sha_link names p (length (take n frame)) c.enclave)
  called_frame read handed p n head frame said c reached f right is =
      subst (λ xs. Reaches wording tagging sha_link names (read ++ (head ++ xs)) (handed ++ handed_of p said c ∷ []) (after_frame wording tagging sha_link names p (length (take n frame)) c.enclave))
      (take-append-drop n frame)
      (reach_frame wording tagging sha_link names read handed p n head (take n frame) (drop n frame) said c reached (framed n head frame f) right is.says is.calls)

  -- what it takes of tables is true
  truth : (read future : List ℕ) (handed : List Handed) (h : Handed) (p : Place) → Reaches wording tagging sha_link names read (handed ++ h ∷ []) p
      → Whose (read ++ future) → IsTrueHanded wording tagging sha_link names h.before h.content
  truth read future handed h p reached whose =
      true_last (λ (x : Handed). IsTrueHanded wording tagging sha_link names x.before x.content) handed h (Here p future).handed
      (subst (λ (s : Session HostFault). AllByRecursion (λ (x : Handed). IsTrueHanded wording tagging sha_link names x.before x.content) s.handed) (reached future) whose)

  -- what is part of a frame is cut off where nothing follows
  part_cuts : (p : Place) (part : List ℕ) → IsPart tagging.size part → 0 < length part → Here p part ≡ ends_at wording tagging sha_link names p.offset session.Cut
  part_cuts p [] is some = absurd (omega (arith, some))
  part_cuts p (b ∷ part) (inl few) some = ends_in_length wording tagging sha_link names p b part few
  part_cuts p (b ∷ part) (inr begun) some =
      ap (Here p) begun.parts ∙ ends_behind_length wording tagging sha_link names p _ begun.head begun.rest begun.four refl begun.range begun.few

  part_ends : (read part : List ℕ) (handed : List Handed) (p : Place) → Reaches wording tagging sha_link names read handed p → IsPart tagging.size part
      → (end : End HostFault) × (Of tagging names (read ++ part) ≡ record { handed = handed; end = end })
  part_ends read [] handed p reached is =
      (session.Done, ap (Of tagging names) (append-nil read) ∙ reach_done wording tagging sha_link names read handed p reached)
  part_ends read (b ∷ part) handed p reached is =
      (Bad p.offset session.Cut, reach_end wording tagging sha_link names read (b ∷ part) handed p session.Cut reached (part_cuts p (b ∷ part) is (omega arith)))

module _ (tagging : Tagging) (read written : List ℕ) (s : Spot) (so_far : SoFar tagging read written s) where
  -- by a map for these bytes and some that follow
  pub served_by : (names : Point → Named) (more future : List ℕ) → IsMapFor wording tagging sha_link names ((read ++ more) ++ future) → IsServed tagging names read written s
  served_by names more future whose = so_far names (more ++ future) (subst (IsMapFor wording tagging sha_link names) (append_assoc read more future) whose)

  -- the source ended between two frames
  pub turn_done : (left : Option (List ℕ)) → IsAtEnd left → s.number ≤ MAX_FRAMES → EndsSo tagging (read ++ []) written left served.Done
  turn_done left end few names future e whose =
      let so = served_by names [] future whose in
      let all = ap (λ xs. xs ++ []) (append-nil read) ∙ append-nil read in
      let none = none_left left future e end in
      subst (λ l. Over tagging names ((read ++ []) ++ future) l written served.Done) (sym e)
      (subst (λ f. Over tagging names ((read ++ []) ++ f) (Some f) written served.Done) (sym none)
      (end_done tagging names ((read ++ []) ++ []) written so.handed
      (ap (Of tagging names) all ∙ reach_done wording tagging sha_link names read so.handed so.place so.reached) so.short (omega (arith, few, so.count)) so.answered))

  -- a frame is bad
  bad : (names : Point → Named) (more future : List ℕ) (left : Option (List ℕ)) (why : FrameCause) (so : IsServed tagging names read written s) → s.number < MAX_FRAMES
      → Of tagging names ((read ++ more) ++ future) ≡ record { handed = so.handed; end = Bad so.place.offset (cause_of why) }
      → Over tagging names ((read ++ more) ++ future) left written (served.Frame s.at why)
  bad names more future left why so few e =
      end_frame tagging names ((read ++ more) ++ future) written left so.handed s.at why
      (subst (λ at. Of tagging names ((read ++ more) ++ future) ≡ record { handed = so.handed; end = Bad at (cause_of why) }) so.offset e)
      so.short (omega (arith, few, so.count)) so.answered

  pub turn_cut : (part : List ℕ) (left : Option (List ℕ)) → IsPart tagging.size part → 0 < length part → IsAtEnd left → s.number < MAX_FRAMES
      → EndsSo tagging (read ++ part) written left (served.Frame s.at cause.Cut)
  turn_cut part left is some end few names future e whose =
      let so = served_by names part future whose in
      let none = none_left left future e end in
      bad names part future left cause.Cut so few
      (ap (λ f. Of tagging names ((read ++ part) ++ f)) none
      ∙ (ap (Of tagging names) (append-nil (read ++ part))
      ∙ reach_end wording tagging sha_link names read part so.handed so.place session.Cut so.reached (part_cuts tagging names so.place part is some)))

  pub turn_length : (head : List ℕ) (n : ℕ) (left : Option (List ℕ)) → length head ≡ 4 → from_be_bytes w32 head ≡ n → is_no_length n ≡ true → s.number < MAX_FRAMES
      → EndsSo tagging (read ++ head) written left (served.Frame s.at (cause.Length n))
  turn_length head n left four spelled none few names future e whose =
      let so = served_by names head future whose in
      bad names head future left (cause.Length n) so few
      (ap (Of tagging names) (append_assoc read head future)
      ∙ reach_end wording tagging sha_link names read (head ++ future) so.handed so.place (session.Length n) so.reached
      (ends_at_length wording tagging sha_link names so.place n head future four spelled none))

  pub turn_read_fault : (part : List ℕ) (left : Option (List ℕ)) → IsPart tagging.size part → s.number ≤ MAX_FRAMES → EndsSo tagging (read ++ part) written left served.ReadFault
  turn_read_fault part left is few names future e whose =
      let so = served_by names part future whose in
      let (end, ends) = part_ends tagging names read part so.handed so.place so.reached is in
      subst (λ l. Over tagging names ((read ++ part) ++ future) l written served.ReadFault) (sym e)
      (end_read_fault tagging names (read ++ part) future written so.handed end ends so.short (omega (arith, few, so.count)) so.answered)

  pub turn_memory : (more : List ℕ) (left : Option (List ℕ)) → EndsSo tagging (read ++ more) written left served.Memory
  turn_memory more left names future e whose =
      let so = served_by names more future whose in
      subst (λ l. Over tagging names ((read ++ more) ++ future) l written served.Memory) (sym e)
      (end_memory tagging names (read ++ more) future written so.handed (session_at wording tagging sha_link names so.place more).handed
      (ap (λ (x : Session HostFault). x.handed) (so.reached more)) so.answered)

  module _ (n : ℕ) (head frame : List ℕ) (f : IsFrame tagging.size n head frame) (few : s.number < MAX_FRAMES) (enclave : Option (Option Running)) (out : List ℕ) where
    abbrev pub Answered : Result (Unit {0}) Unanswered → Type 0
    Answered result =
        (names : Point → Named) (before : Option Enclave) → Stands s.enclave before → IfByMap names before
        → Answers tagging names before (take n frame) s.number (drop n frame) enclave out result

    -- the session ends at a frame that is whole
    whole_bad : (names : Point → Named) (future : List ℕ) (left : Option (List ℕ)) (why : FrameCause) (so : IsServed tagging names read written s)
        → session_at wording tagging sha_link names so.place (head ++ (take n frame ++ (drop n frame ++ future))) ≡ ends_at wording tagging sha_link names so.place.offset (cause_of why)
        → Over tagging names ((read ++ (head ++ frame)) ++ future) left written (served.Frame s.at why)
    whole_bad names future left why so ends =
        bad names (head ++ frame) future left why so few
        (ap (Of tagging names) (parts tagging names read head frame future n)
        ∙ reach_end wording tagging sha_link names read (head ++ (take n frame ++ (drop n frame ++ future))) so.handed so.place (cause_of why) so.reached ends)

    -- the tag by the number of the place
    right_there : (names : Point → Named) (so : IsServed tagging names read written s) (b : Bool) → tagging.is_right s.number (take n frame) (drop n frame) ≡ b
        → tagging.is_right so.place.number (take n frame) (drop n frame) ≡ b
    right_there names so b e = ap (λ k. tagging.is_right k (take n frame) (drop n frame)) so.number ∙ e

    refused : (names : Point → Named) (future : List ℕ) (left : Option (List ℕ)) (why : FrameCause) (so : IsServed tagging names read written s)
        → tagging.is_right s.number (take n frame) (drop n frame) ≡ true → IsRefused tagging names so.place.before (take n frame) (cause_of why)
        → Over tagging names ((read ++ (head ++ frame)) ++ future) left written (served.Frame s.at why)
    refused names future left why so right is =
        whole_bad names future left why so
        (ends_at_call wording tagging sha_link names so.place n head (take n frame) (drop n frame) future is.said (cause_of why) (framed tagging names n head frame f)
        (right_there names so true right) is.says is.refused)

    pub turn_unanswered : (why : Unanswered) (left : Option (List ℕ)) → Answered (Err why) → EndsSo tagging (read ++ (head ++ frame)) written left (unanswered s.at s.number why)
    turn_unanswered answer.Memory left answered names future e whose = turn_memory (head ++ frame) left names future e whose
    turn_unanswered answer.Tag left answered names future e whose =
        let so = served_by names (head ++ frame) future whose in
        whole_bad names future left (cause.Tag s.number) so
        (ends_at_tag wording tagging sha_link names so.place n head (take n frame) (drop n frame) future (framed tagging names n head frame f)
        (right_there names so false (answered names so.place.before so.stands so.by_map))
        ∙ ap (λ k. ends_at wording tagging sha_link names so.place.offset (session.Tag k)) so.number)
    turn_unanswered (answer.Content fault) left answered names future e whose =
        let so = served_by names (head ++ frame) future whose in
        let is = answered names so.place.before so.stands so.by_map in
        whole_bad names future left (cause.Content fault) so
        (ends_at_content wording tagging sha_link names so.place n head (take n frame) (drop n frame) future fault (framed tagging names n head frame f)
        (right_there names so true is.0) is.1)
    turn_unanswered answer.NotBegun left answered names future e whose =
        let so = served_by names (head ++ frame) future whose in
        let is = answered names so.place.before so.stands so.by_map in
        refused names future left cause.NotBegun so is.0 is.1
    turn_unanswered answer.BegunAgain left answered names future e whose =
        let so = served_by names (head ++ frame) future whose in
        let is = answered names so.place.before so.stands so.by_map in
        refused names future left cause.BegunAgain so is.0 is.1
    turn_unanswered answer.Limit left answered names future e whose =
        let so = served_by names (head ++ frame) future whose in
        let (right, said, c, is, long) = answered names so.place.before so.stands so.by_map in
        let h = handed_of tagging names so.place said c in
        let next = after_frame wording tagging sha_link names so.place (length (take n frame)) c.enclave in
        let reached = called_frame tagging names read so.handed so.place n head frame said c so.reached f (right_there names so true right) is in
        let true_here = truth tagging names (read ++ (head ++ frame)) future so.handed h next reached whose in
        let rest = session_at wording tagging sha_link names next future in
        end_limit tagging names ((read ++ (head ++ frame)) ++ future) written left so.handed (h ∷ rest.handed) rest.end
        (reached future ∙ ap (λ hs. record { handed = hs; end = rest.end }) (append_assoc so.handed (h ∷ []) rest.handed))
        so.short (omega (arith, few, so.count)) so.answered (inr (long true_here))

    -- the answer was written in part
    pub turn_write_fault : (k : ℕ) (left : Option (List ℕ)) → Answered (Ok tt) → EndsSo tagging (read ++ (head ++ frame)) (written ++ take k out) left served.WriteFault
    turn_write_fault k left answered names future e whose =
        let so = served_by names (head ++ frame) future whose in
        let (right, said, c, is, leaves) = answered names so.place.before so.stands so.by_map in
        let h = handed_of tagging names so.place said c in
        let next = after_frame wording tagging sha_link names so.place (length (take n frame)) c.enclave in
        let reached = called_frame tagging names read so.handed so.place n head frame said c so.reached f (right_there names so true right) is in
        let left_so = leaves (truth tagging names (read ++ (head ++ frame)) future so.handed h next reached whose) in
        subst (λ l. Over tagging names ((read ++ (head ++ frame)) ++ future) l (written ++ take k out) served.WriteFault) (sym e)
        (end_write_fault tagging names (read ++ (head ++ frame)) future written (written ++ take k out) k so.handed h
        (reach_done wording tagging sha_link names (read ++ (head ++ frame)) (so.handed ++ h ∷ []) next reached) so.answered
        (ap (λ xs. written ++ take k xs) (left_so.2 ∙ ap (λ m. batch_frame wording tagging sha_link names m (batch_of c)) (sym so.count))))

    -- the answer was written whole
    pub turn_on : Answered (Ok tt) → SoFar tagging (read ++ (head ++ frame)) (written ++ out) (record { at = s.at + (4 + length frame); number = s.number + 1; enclave = enclave })
    turn_on answered names future whose =
        let so = served_by names (head ++ frame) future whose in
        let (right, said, c, is, leaves) = answered names so.place.before so.stands so.by_map in
        let h = handed_of tagging names so.place said c in
        let next = after_frame wording tagging sha_link names so.place (length (take n frame)) c.enclave in
        let reached = called_frame tagging names read so.handed so.place n head frame said c so.reached f (right_there names so true right) is in
        let left_so = leaves (truth tagging names (read ++ (head ++ frame)) future so.handed h next reached whose) in
        record {
          handed = so.handed ++ h ∷ [];
          place = next;
          reached = reached;
          offset = omega (arith, so.offset, f.long, length-take-le n frame (omega (arith, f.long)));
          number = ap (λ k. k + 1) so.number;
          count = omega (arith, length-append so.handed (h ∷ []), so.count);
          answered =
              ap (λ xs. written ++ xs) (left_so.2 ∙ ap (λ m. batch_frame wording tagging sha_link names m (batch_of c)) (sym so.count))
              ∙ (ap (λ xs. xs ++ batch_frame wording tagging sha_link names (length so.handed) (batch_of c)) so.answered ∙ sym (answers_last tagging names so.handed h));
          short = short_last tagging names so.handed h so.short left_so.1;
          stands = left_so.0.stands;
          by_map = left_so.0.by_map;
        }
