-- A byte behind the greatest number of frames passes the limit.
use Rattle.std.proofs.Common.{◌≡◌, ℕ, ◌+◌, ◌<◌, inl, inr, Bool, true, false, cond, Option, Some, Result, Ok, Err, List, [], ◌∷◌, ◌++◌, length, take, drop, refl, sym, ap, subst, ◌∙◌, arith}
use Rattle.std.specs.Prelude.{nat_lt, ◌||◌}
use Rattle.std.proofs.lemmas.Bool.{cond_both}
use Rattle.std.proofs.lemmas.List.{append_assoc}
use Rattle.values.specs.declared.entry.Point.{Point}
use Rattle.values.specs.declared.limits.TheConstants.{MAX_CONTENT, MAX_FRAMES}
use Rattle.host_inputs.specs.declared.input.HostFault.{HostFault}
use Rattle.replica_model.specs.Linked.{sha_link}
use Rattle.replica_model.specs.Replica.{Named}
use Rattle.group_model.specs.Enclave.{Enclave, Called}
use Rattle.trace_model.specs.Session.{Content, Tagging, Session, Cause, Cut, Length, Tag, ends_at, goes_on, read_content, content_called, whole_frame, sized_frame, length_of, frame_size, session_from, session_with}
use Rattle.enclave_host.specs.Words.{wording}
use Rattle.replica_server.specs.declared.served.Served.TheVariants as served
use Rattle.replica_server.specs.Reached.{Place, session_at}
use Rattle.replica_server.specs.Serving.{Passes}
use Rattle.replica_server.specs.Turning.{Spot, SoFar, EndsSo}
use Rattle.replica_server.proofs.Endings.{end_limit}
use Rattle.replica_server.proofs.Turned.{served_by}

module _ (tagging : Tagging) (names : Point → Named) (n : ℕ) (full : n ≡ MAX_FRAMES) where
  abbrev pub Past : Session HostFault → Type 0
  Past s = Passes tagging names n s.handed s.end

  goes_past : (offset : ℕ) (before : Option Enclave) (content : Content) (r : Result Called (Cause HostFault)) (next : Enclave → Session HostFault)
      → Past (goes_on wording tagging sha_link names offset before content r next)
  goes_past offset before content (Ok c) next = inl full
  goes_past offset before content (Err cause) next = full

  read_past : (offset : ℕ) (before : Option Enclave) (r : Result Content HostFault) (next : Enclave → Session HostFault)
      → Past (read_content wording tagging sha_link names offset before r next)
  read_past offset before (Err fault) next = full
  read_past offset before (Ok content) next = goes_past offset before content (content_called wording tagging sha_link names before content) next

  whole_past : (offset number : ℕ) (before : Option Enclave) (content tag : List ℕ) (next : Enclave → Session HostFault)
      → Past (whole_frame wording tagging sha_link names offset number before content tag next)
  whole_past offset number before content tag next =
      cond_both (tagging.is_right number content tag) (read_content wording tagging sha_link names offset before (wording.content_of content) next) (ends_at wording tagging sha_link names offset (Tag number))
      Past (λ _. read_past offset before (wording.content_of content) next) (λ _. full)

  sized_past : (offset number : ℕ) (before : Option Enclave) (k : ℕ) (bytes : List ℕ) (next : Enclave → Session HostFault)
      → Past (sized_frame wording tagging sha_link names offset number before k bytes next)
  sized_past offset number before k bytes next =
      let whole = whole_frame wording tagging sha_link names offset number before (take k bytes) (take tagging.size (drop k bytes)) next in
      let cut = ends_at wording tagging sha_link names offset Cut in
      let short = nat_lt (length bytes) (k + tagging.size) in
      cond_both (nat_lt k 1 || nat_lt MAX_CONTENT k) (ends_at wording tagging sha_link names offset (Length k)) (cond short cut whole) Past (λ _. full)
      (λ _. cond_both short cut whole Past (λ _. full) (λ _. whole_past offset number before (take k bytes) (take tagging.size (drop k bytes)) next))

  four_past : (four : Bool) (u s : Session HostFault) → Past u → Past s → Past (elim four [ true ↦ u | false ↦ s ])
  four_past true u s h k = h
  four_past false u s h k = k

  pub past : (p : Place) (b : ℕ) (bytes : List ℕ) → Past (session_at wording tagging sha_link names p (b ∷ bytes))
  past p b bytes =
      let size = frame_size wording tagging sha_link names (b ∷ bytes) in
      let next = λ (e : Enclave). session_from wording tagging sha_link names (length bytes) (p.offset + size) (p.number + 1) (Some e) (drop size (b ∷ bytes)) in
      let k = length_of wording tagging sha_link names (b ∷ bytes) in
      four_past (nat_lt (length (b ∷ bytes)) 4) (ends_at wording tagging sha_link names p.offset Cut)
      (sized_frame wording tagging sha_link names p.offset p.number p.before k (drop 4 (b ∷ bytes)) next) full
      (sized_past p.offset p.number p.before k (drop 4 (b ∷ bytes)) next)

module _ (tagging : Tagging) (read written : List ℕ) (s : Spot) (so_far : SoFar tagging read written s) (full : s.number ≡ MAX_FRAMES) where
  -- one more byte was read
  pub last_limit : (more : List ℕ) (left : Option (List ℕ)) → 0 < length more → EndsSo tagging (read ++ more) written left served.Limit
  last_limit [] left some names future e whose = absurd (omega (arith, some))
  last_limit (b ∷ more) left some names future e whose =
      let so = served_by tagging read written s so_far names (b ∷ more) future whose in
      let rest = session_at wording tagging sha_link names so.place (b ∷ more ++ future) in
      end_limit tagging names ((read ++ (b ∷ more)) ++ future) written left so.handed rest.handed rest.end
      (ap (λ xs. session_with wording tagging sha_link names xs) (append_assoc read (b ∷ more) future) ∙ so.reached (b ∷ more ++ future))
      so.short (omega (arith, full, so.count)) so.answered (past tagging names (length so.handed) (so.count ∙ full) so.place b (more ++ future))
