-- How serving ends, by how far it is.
use Rattle.std.proofs.Common.{◌≡◌, ℕ, inl, inr, ◌+◌, ◌<◌, ◌≤◌, Bool, true, false, cond, Option, Some, None, Result, Ok, Err, List, [], ◌∷◌, ◌++◌, length, take, drop, refl, sym, ap, subst, ◌∙◌, arith, length-append, take-append-drop}
use Rattle.std.specs.Prelude.{◌⊎◌, All}
use Rattle.std.specs.Io.KnownBytes.{Appends, Consumes}
use Rattle.std.proofs.lemmas.List.{append_assoc, append-nil}
use Rattle.std.proofs.lemmas.List.Elements.{All-push}
use Rattle.values.specs.declared.entry.Point.{Point}
use Rattle.values.specs.declared.limits.TheConstants.{MAX_BATCH, MAX_FRAMES}
use Rattle.host_inputs.specs.declared.input.HostFault.{HostFault}
use Rattle.replica_model.specs.Linked.{sha_link}
use Rattle.replica_model.specs.Replica.{Named}
use Rattle.group_model.specs.Enclave.{Called}
use Rattle.trace_model.specs.Session.{Tagging, Handed, Session, Cause, End, Bad, session_with, batch_frame, batch_frames_from}
use Rattle.trace_model.specs.Session as session
use Rattle.enclave_host.specs.Words.{wording}
use Rattle.replica_server.specs.declared.served.Served.{Served}
use Rattle.replica_server.specs.declared.served.Served.TheVariants as served
use Rattle.replica_server.specs.declared.served.FrameCause.{FrameCause}
use Rattle.replica_server.specs.Reached.{Place, behind, session_at, Reaches}
use Rattle.replica_server.specs.Serving.{joined, cause_of, session_of, answer_of, answers_to, AreShort, Passes, Limited, Unlimited, IsFrontOf, UpToLast, ServedOver}

module _ (tagging : Tagging) (names : Point → Named) where
  abbrev pub Of : List ℕ → Session HostFault
  Of bytes = session_of tagging names bytes

  abbrev pub Over : (all : List ℕ) → Option (List ℕ) → (written : List ℕ) → Served → Type 0
  Over all left written result = ServedOver tagging names all left (Some []) (Some written) result

  -- what was written answers this session, whose frames are these
  pub answers_it : (s : Session HostFault) (handed : List Handed) (end : End HostFault) (written : List ℕ) → s ≡ record { handed = handed; end = end }
      → written ≡ answers_to tagging names handed → Appends (Some []) (Some written) (answers_to tagging names s.handed)
  answers_it s handed end written e w = w ∙ ap (λ x. answers_to tagging names x.handed) (sym e)

  pub no_limit : (s : Session HostFault) (handed : List Handed) (end : End HostFault) → s ≡ record { handed = handed; end = end }
      → AreShort tagging names handed → length handed ≤ MAX_FRAMES → Unlimited tagging names s
  no_limit s handed end e short few = subst (λ x. Unlimited tagging names x) (sym e) (record { short = short; few = few })

  pub end_done : (all written : List ℕ) (handed : List Handed) → Of all ≡ record { handed = handed; end = session.Done }
      → AreShort tagging names handed → length handed ≤ MAX_FRAMES → written ≡ answers_to tagging names handed → Over all (Some []) written served.Done
  end_done all written handed e short few w =
      (refl, ap (λ s. s.end) e, no_limit (Of all) handed session.Done e short few, answers_it (Of all) handed session.Done written e w)

  pub end_frame : (all written : List ℕ) (left : Option (List ℕ)) (handed : List Handed) (at : ℕ) (why : FrameCause)
      → Of all ≡ record { handed = handed; end = Bad at (cause_of why) }
      → AreShort tagging names handed → length handed < MAX_FRAMES → written ≡ answers_to tagging names handed → Over all left written (served.Frame at why)
  end_frame all written left handed at why e short few w = (
    ap (λ s. s.end) e,
    no_limit (Of all) handed (Bad at (cause_of why)) e short (omega (arith, few)),
    subst (λ s. length s.handed < MAX_FRAMES) (sym e) few,
    answers_it (Of all) handed (Bad at (cause_of why)) written e w,
  )

  pub end_read_fault : (read future written : List ℕ) (handed : List Handed) (end : End HostFault) → Of read ≡ record { handed = handed; end = end }
      → AreShort tagging names handed → length handed ≤ MAX_FRAMES → written ≡ answers_to tagging names handed → Over (read ++ future) (Some future) written served.ReadFault
  end_read_fault read future written handed end e short few w =
      (read, refl, no_limit (Of read) handed end e short few, answers_it (Of read) handed end written e w)

  -- the answers to more frames begin with those to the first of them
  joined_front : (n : ℕ) (hs more : List Handed) → (rest : List ℕ)
      × (joined (batch_frames_from wording tagging sha_link names n (hs ++ more)) ≡ joined (batch_frames_from wording tagging sha_link names n hs) ++ rest)
  joined_front n [] more = (joined (batch_frames_from wording tagging sha_link names n more), refl)
  joined_front n (h ∷ hs) more =
      let first = batch_frame wording tagging sha_link names n (answer_of tagging names h) in
      let (rest, e) = joined_front (n + 1) hs more in
      (rest, ap (λ xs. first ++ xs) e ∙ sym (append_assoc first (joined (batch_frames_from wording tagging sha_link names (n + 1) hs)) rest))

  pub end_memory : (read future written : List ℕ) (handed more : List Handed) → (Of read).handed ≡ handed ++ more → written ≡ answers_to tagging names handed
      → Over (read ++ future) (Some future) written served.Memory
  end_memory read future written handed more e w =
      let (rest, front) = joined_front 0 handed more in
      (read, refl, written, (rest, ap (answers_to tagging names) e ∙ (front ∙ ap (λ xs. xs ++ rest) (sym w))), refl)

  pub end_limit : (all written : List ℕ) (left : Option (List ℕ)) (handed after : List Handed) (end : End HostFault) → Of all ≡ record { handed = handed ++ after; end = end }
      → AreShort tagging names handed → length handed ≤ MAX_FRAMES → written ≡ answers_to tagging names handed → Passes tagging names (length handed) after end
      → Over all left written served.Limit
  end_limit all written left handed after end e short few w passes = (
    handed,
    subst (λ s. Limited tagging names s handed) (sym e) (record { behind = after; parts = refl; short = short; few = few; passes = passes }),
    w,
  )

  abbrev Joined : ℕ → List Handed → List ℕ
  Joined n hs = joined (batch_frames_from wording tagging sha_link names n hs)

  abbrev Framed : ℕ → Handed → List ℕ
  Framed n h = batch_frame wording tagging sha_link names n (answer_of tagging names h)

  -- the answer to one more frame
  joined_last : (n : ℕ) (hs : List Handed) (h : Handed) → Joined n (hs ++ h ∷ []) ≡ Joined n hs ++ Framed (n + length hs) h
  joined_last n [] h = append-nil (Framed n h) ∙ ap (λ k. Framed k h) (omega arith)
  joined_last n (x ∷ hs) h =
      ap (λ xs. Framed n x ++ xs) (joined_last (n + 1) hs h)
      ∙ (sym (append_assoc (Framed n x) (Joined (n + 1) hs) (Framed (n + 1 + length hs) h))
      ∙ ap (λ k. (Framed n x ++ Joined (n + 1) hs) ++ Framed k h) (omega arith))

  -- one more batch content that is not too long
  pub short_last : (hs : List Handed) (h : Handed) → AreShort tagging names hs → length (answer_of tagging names h) ≤ MAX_BATCH → AreShort tagging names (hs ++ h ∷ [])
  short_last hs h short is = All-push (λ x. length (answer_of tagging names x) ≤ MAX_BATCH) hs h short is

  pub answers_last : (handed : List Handed) (h : Handed)
      → answers_to tagging names (handed ++ h ∷ []) ≡ answers_to tagging names handed ++ batch_frame wording tagging sha_link names (length handed) (answer_of tagging names h)
  answers_last handed h = joined_last 0 handed h ∙ ap (λ k. Joined 0 handed ++ Framed k h) (omega arith)

  -- part of the answer to the last frame was written
  pub end_write_fault : (read future before written : List ℕ) (n : ℕ) (handed : List Handed) (h : Handed) → Of read ≡ record { handed = handed ++ h ∷ []; end = session.Done }
      → before ≡ answers_to tagging names handed
      → written ≡ before ++ take n (batch_frame wording tagging sha_link names (length handed) (answer_of tagging names h))
      → Over (read ++ future) (Some future) written served.WriteFault
  end_write_fault read future before written n handed h e w more =
      let frame = batch_frame wording tagging sha_link names (length handed) (answer_of tagging names h) in
      let gained = more ∙ ap (λ xs. xs ++ take n frame) w in (
        read,
        refl,
        written,
        record {
          before = handed;
          last = h;
          whole = e;
          rest = take n frame;
          gained = gained;
          front = (
            drop n frame,
            answers_last handed h
                ∙ (ap (λ xs. answers_to tagging names handed ++ xs) (sym (take-append-drop n frame))
                ∙ (sym (append_assoc (answers_to tagging names handed) (take n frame) (drop n frame)) ∙ ap (λ xs. xs ++ drop n frame) (sym gained))),
          );
        },
        refl,
      )
