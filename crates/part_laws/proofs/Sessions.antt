-- The frames that a run hands to an enclave have a map such as their session needs.
use Rattle.std.proofs.Common.{◌≡◌, ℕ, zero, suc, ◌+◌, ◌<◌, ◌≤◌, ◌^◌, ◌==◌, Bool, true, false, Option, Some, None, Result, Ok, Err, List, [], ◌∷◌, ◌++◌, length, take, drop, sym, ap, ◌∙◌, subst, arith}
use Rattle.std.specs.Prelude.{nat_lt, ◌||◌, IsOkAnd, reverse}
use Rattle.std.specs.Int.{w32, to_be_bytes, from_be_bytes}
use Rattle.std.specs.List.{AllByRecursion}
use Rattle.std.proofs.Math.Seq.{take-append_seam, drop-append-add, drop-append_seam}
use Rattle.std.proofs.lemmas.Bool.{cond_both}
use Rattle.std.proofs.lemmas.List.{reverse-append}
use Rattle.std.proofs.lemmas.Nat.{from_be_bytes-to_be_bytes_4}
use Rattle.group_quorum.specs.Voters.{is_in}
use Rattle.values.specs.declared.entry.Point.{Point}
use Rattle.values.specs.declared.event.Event.{Event}
use Rattle.values.specs.declared.limits.TheConstants.{MAX_CONTENT}
use Rattle.values.specs.declared.peer.PeerMsg.{PeerMsg}
use Rattle.values.specs.declared.peer.PeerMsg.TheVariants.{AskVote, Vote, Append, Accepted, Rejected, Part, PartTaken}
use Rattle.replica_model.specs.Path.{Link}
use Rattle.replica_model.specs.Message.{Message}
use Rattle.replica_model.specs.Replica.{Named, Role, Learner, Follower, Candidate, Leader}
use Rattle.replica_model.specs.Tables.{IsTruePart}
use Rattle.group_model.specs.Enclave.{HostInput, Tick, Peer, Client, Join, Admit, Remove, Save, Roll, Connect, Margin, Enclave, Called}
use Rattle.group_model.specs.Log.{NoCollision}
use Rattle.group_model.specs.Run.{Recorded, World, run}
use Rattle.trace_model.specs.Session.{Content, Starts, Frames, Hands, Wording, Tagging, Cause, Handed, Session, accepted_of, accepted_from, read_message, content_called, goes_on, read_content, sized_frame, frame_size, session_from, IsTrueAt, IsTrueMessage, IsTrueHanded}
use Rattle.trace_model.specs.PartMap.{IsNamed, SaysInput, AreFramesOf, bytes_of, calls_of}
use Rattle.trace_model.specs.Claims.{FramesHaveAMap}
use Rattle.log_laws.proofs.Ending.{all-append}
use Rattle.outcome_laws.proofs.Tickets.{all_filter}
use Rattle.part_laws.proofs.Map.{names_in, sent_named, mail_known}
use Rattle.part_laws.proofs.Runs.{HandedSent, run_true}

module _ {E : Type 0} (wording : Wording E) (tagging : Tagging) (link : Link) (names : Point → Named) where
  -- a message that was handed is named by the map
  abbrev NamedInput : Option (HostInput Message) → Type 0
  NamedInput (Some (Peer from to m)) = IsNamed link names m.msg m.names
  NamedInput input = Unit {0}

  true_at : (role : Role) (msg : PeerMsg) (n : Named) → IsNamed link names msg n → IsTrueAt wording tagging link names role msg
  true_at (Learner taking) (AskVote term last_index last_term) n named = tt
  true_at (Learner taking) (Vote term granted) n named = tt
  true_at (Learner taking) (Append term prev entries promise commit) n named = tt
  true_at (Learner taking) (Accepted term end promised) n named = tt
  true_at (Learner taking) (Rejected term asked hint) n named = tt
  true_at (Learner taking) (Part term part) n named = subst (IsTruePart link part) (sym named.1) named.0
  true_at (Learner taking) (PartTaken term point next) n named = tt
  true_at Follower msg n named = tt
  true_at (Candidate votes) msg n named = tt
  true_at (Leader l) msg n named = tt

  -- a frame of such a message hands it, or is refused
  frame_true : (e : Enclave) (frame : List ℕ) (msg : PeerMsg) (n : Named) → wording.message_of (drop 8 frame) ≡ Ok msg → IsNamed link names msg n → IsTrueMessage wording tagging link names e.replica.role (accepted_of wording tagging link names e frame)
  frame_true e frame msg n reads named =
      cond_both (nat_lt (length frame) 8) _ _ (IsTrueMessage wording tagging link names e.replica.role)
      (λ b. tt)
      (λ b. by_parts (from_be_bytes w32 (take 4 (drop 4 frame)) == e.replica.me) (is_in e.links (from_be_bytes w32 (take 4 frame))))
    where
      by_parts : (mine linked : Bool) → IsTrueMessage wording tagging link names e.replica.role (accepted_from wording tagging link names mine linked (from_be_bytes w32 (take 4 frame)) (from_be_bytes w32 (take 4 (drop 4 frame))) (drop 8 frame))
      by_parts false linked = tt
      by_parts true false = tt
      by_parts true true =
          subst (λ (r : Result PeerMsg ℕ). IsTrueMessage wording tagging link names e.replica.role (read_message wording tagging link names (from_be_bytes w32 (take 4 frame)) r)) (sym reads) (true_at e.replica.role msg n named)

  content_true : (before : Option Enclave) (input : Option (HostInput Message)) (c : Content) → SaysInput wording tagging input c → NamedInput input → IsTrueHanded wording tagging link names before c
  content_true None input c says named = tt
  content_true (Some e) input (Starts hello) says named = tt
  content_true (Some e) input (Hands handed) says named = tt
  content_true (Some e) (Some (Peer from to m)) (Frames frame) says named = frame_true e frame m.msg m.names says.message named
  content_true (Some e) None (Frames frame) says named = absurd says
  content_true (Some e) (Some Tick) (Frames frame) says named = absurd says
  content_true (Some e) (Some (Client client number request)) (Frames frame) says named = absurd says
  content_true (Some e) (Some (Join id)) (Frames frame) says named = absurd says
  content_true (Some e) (Some (Admit id)) (Frames frame) says named = absurd says
  content_true (Some e) (Some (Remove id)) (Frames frame) says named = absurd says
  content_true (Some e) (Some Save) (Frames frame) says named = absurd says
  content_true (Some e) (Some (Roll state)) (Frames frame) says named = absurd says
  content_true (Some e) (Some (Connect id)) (Frames frame) says named = absurd says
  content_true (Some e) (Some (Margin margin)) (Frames frame) says named = absurd says

  -- ---- frames, one after another
  abbrev AllTrue : Session E → Type 0
  AllTrue s = AllByRecursion (λ (h : Handed). IsTrueHanded wording tagging link names h.before h.content) s.handed

  content_named : (offset : ℕ) (before : Option Enclave) (input : Option (HostInput Message)) → NamedInput input → (r : Result Content E) → IsOkAnd r (SaysInput wording tagging input) → (next : Enclave → Session E) → ((e : Enclave) → AllTrue (next e)) → AllTrue (read_content wording tagging link names offset before r next)
  content_named offset before input named (Err fault) says next rest = tt
  content_named offset before input named (Ok c) says next rest = by_call (content_called wording tagging link names before c)
    where
      by_call : (called : Result Called (Cause E)) → AllTrue (goes_on wording tagging link names offset before c called next)
      by_call (Ok called) = (content_true before input c says named, rest called.enclave)
      by_call (Err cause) = tt

  by_bool : (b : Bool) (s t : Session E) → AllTrue s → AllTrue t → AllTrue (elim b [ true ↦ s | false ↦ t ])
  by_bool true s t h k = h
  by_bool false s t h k = k

  -- one frame, before what follows, where its length is right
  module _ (n offset number : ℕ) (before : Option Enclave) (input : Option (HostInput Message)) (content tag more : List ℕ)
      (named : NamedInput input) (tagged : length tag ≡ tagging.size) (says : IsOkAnd (wording.content_of content) (SaysInput wording tagging input))
      (rest : (offset : ℕ) (e : Enclave) → AllTrue (session_from wording tagging link names n offset (number + 1) (Some e) more)) where
    abbrev Behind : List ℕ
    Behind = content ++ (tag ++ more)

    sized_named : (m : ℕ) → m ≡ length content → (next : Enclave → Session E) → ((e : Enclave) → AllTrue (next e)) → AllTrue (sized_frame wording tagging link names offset number before m Behind next)
    sized_named m is next follows =
        cond_both (nat_lt m 1 || nat_lt MAX_CONTENT m) _ _ AllTrue (λ b. tt)
        (λ b. cond_both (nat_lt (length Behind) (m + tagging.size)) _ _ AllTrue (λ b. tt)
        (λ b. cond_both (tagging.is_right number (take m Behind) (take tagging.size (drop m Behind))) _ _ AllTrue
        (λ b. content_named offset before input named (wording.content_of (take m Behind)) (subst (λ (bytes : List ℕ). IsOkAnd (wording.content_of bytes) (SaysInput wording tagging input)) (sym taken) says) next follows)
        (λ b. tt)))
      where
        taken : take m Behind ≡ content
        taken = ap (λ (k : ℕ). take k Behind) is ∙ take-append_seam content (tag ++ more)

    four_named : (a b c d : ℕ) → from_be_bytes w32 (a ∷ b ∷ c ∷ d ∷ []) ≡ length content → AllTrue (session_from wording tagging link names (suc n) offset number before (a ∷ b ∷ c ∷ d ∷ Behind))
    four_named a b c d is =
        by_bool (nat_lt (length (a ∷ b ∷ c ∷ d ∷ Behind)) 4) _ _ tt
        (sized_named (from_be_bytes w32 (a ∷ b ∷ c ∷ d ∷ [])) is
        (λ e. session_from wording tagging link names n (offset + frame_size wording tagging link names (a ∷ b ∷ c ∷ d ∷ Behind)) (number + 1) (Some e) (drop (frame_size wording tagging link names (a ∷ b ∷ c ∷ d ∷ Behind)) (a ∷ b ∷ c ∷ d ∷ Behind)))
        (λ e. subst (λ (bytes : List ℕ). AllTrue (session_from wording tagging link names n (offset + frame_size wording tagging link names (a ∷ b ∷ c ∷ d ∷ Behind)) (number + 1) (Some e) bytes)) (sym dropped) (rest _ e)))
      where
        dropped : drop (4 + (from_be_bytes w32 (a ∷ b ∷ c ∷ d ∷ []) + tagging.size)) (a ∷ b ∷ c ∷ d ∷ Behind) ≡ more
        dropped =
            drop-append-add (a ∷ b ∷ c ∷ d ∷ []) Behind (from_be_bytes w32 (a ∷ b ∷ c ∷ d ∷ []) + tagging.size)
            ∙ ap (λ (k : ℕ). drop (k + tagging.size) Behind) is
            ∙ drop-append-add content (tag ++ more) tagging.size
            ∙ ap (λ (k : ℕ). drop k (tag ++ more)) (sym tagged)
            ∙ drop-append_seam tag more

    frame_named : length content < 2 ^ 32 → AllTrue (session_from wording tagging link names (suc n) offset number before (to_be_bytes w32 (length content) ++ Behind))
    frame_named fits = four_named _ _ _ _ (from_be_bytes-to_be_bytes_4 (length content) fits)

  frames_named : (rs : List Recorded) (frames : List (List ℕ × List ℕ)) → AreFramesOf wording tagging rs frames → AllByRecursion (λ (r : Recorded). NamedInput r.input) rs → (n offset number : ℕ) (before : Option Enclave) → AllTrue (session_from wording tagging link names n offset number before (bytes_of wording tagging frames))
  frames_named [] [] are named n offset number before = tt
  frames_named [] (frame ∷ frames) are named n offset number before = absurd are
  frames_named (r ∷ rs) [] are named n offset number before = absurd are
  frames_named (r ∷ rs) ((content, tag) ∷ frames) (is, are) (named, others) zero offset number before = tt
  frames_named (r ∷ rs) ((content, tag) ∷ frames) (is, are) (named, others) (suc n) offset number before =
      let small : length content ≤ 1048576 = is.fits in
      frame_named n offset number before r.input content tag (bytes_of wording tagging frames) named is.tagged is.says
      (λ offset e. frames_named rs frames are others n offset (number + 1) (Some e)) (omega (arith, small))

-- ---- all that a run handed to a replica
module _ {A : Type 0} (P : A → Type 0) where
  all_reversed : (xs : List A) → AllByRecursion P xs → AllByRecursion P (reverse xs)
  all_reversed [] h = tt
  all_reversed (x ∷ xs) h = subst (AllByRecursion P) (sym (reverse-append (x ∷ []) xs)) (all-append P (reverse xs) (x ∷ []) (all_reversed xs h.1) (h.0, tt))

module _ (link : Link) (events : List Event) (none : NoCollision link (run link events)) where
  abbrev W : World
  W = run link events

  input_named : {E : Type 0} (wording : Wording E) (tagging : Tagging) (input : Option (HostInput Message)) → HandedSent W.messages input → NamedInput wording tagging link (names_in W.messages) input
  input_named wording tagging (Some (Peer from to m)) sent = sent_named link W none (mail_known link events none) from to m sent
  input_named wording tagging other sent = tt

  calls_named : {E : Type 0} (wording : Wording E) (tagging : Tagging) (v : ℕ) → AllByRecursion (λ (r : Recorded). NamedInput wording tagging link (names_in W.messages) r.input) (calls_of W v)
  calls_named wording tagging v =
      all_filter (λ (r : Recorded). HandedSent W.messages r.input) (λ (r : Recorded). NamedInput wording tagging link (names_in W.messages) r.input) (λ r. r.replica == v) (reverse W.field.history)
      (λ r b sent. input_named wording tagging r.input sent)
      (all_reversed (λ (r : Recorded). HandedSent W.messages r.input) W.field.history (run_true link events).handed)

pub frames_have_a_map : (E : Type 0) (wording : Wording E) → FramesHaveAMap wording
frames_have_a_map E wording tagging link events none =
    (names_in (run link events).messages, λ v frames are. frames_named wording tagging link (names_in (run link events).messages) (calls_of (run link events) v) frames are (calls_named link events none wording tagging v) (length (bytes_of wording tagging frames)) 0 0 None)
