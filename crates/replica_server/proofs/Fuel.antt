-- A session needs no more turns than it has bytes.
use Rattle.std.proofs.Common.{◌≡◌, ℕ, zero, suc, ◌+◌, ◌-◌, ◌<◌, ◌≤◌, Bool, true, false, Option, Some, None, Result, Ok, Err, List, [], ◌∷◌, length, take, drop, refl, sym, ap, ◌∙◌, arith, length-drop}
use Rattle.std.specs.Prelude.{nat_lt, ◌||◌, if◌then◌else◌}
use Rattle.values.specs.declared.entry.Point.{Point}
use Rattle.values.specs.declared.limits.TheConstants.{MAX_CONTENT}
use Rattle.replica_model.specs.Path.{Link}
use Rattle.replica_model.specs.Replica.{Named}
use Rattle.group_model.specs.Enclave.{Enclave, Called}
use Rattle.trace_model.specs.Session.{Content, Wording, Tagging, Cause, Length, Cut, Tag, Session, content_called, goes_on, read_content, whole_frame, sized_frame, length_of, frame_size, session_from, ends_at, onto}

module _ {E : Type 0} (wording : Wording E) (tagging : Tagging) (link : Link) (names : Point → Named) where
  -- what follows a frame is the same
  abbrev Same : (Enclave → Session E) → (Enclave → Session E) → Type 0
  Same next after = (e : Enclave) → next e ≡ after e

  called_same : (offset : ℕ) (before : Option Enclave) (content : Content) (r : Result Called (Cause E)) (next after : Enclave → Session E) → Same next after
      → goes_on wording tagging link names offset before content r next ≡ goes_on wording tagging link names offset before content r after
  called_same offset before content (Ok c) next after same = ap (onto wording tagging link names (record { before = before; content = content; called = c })) (same c.enclave)
  called_same offset before content (Err cause) next after same = refl

  read_same : (offset : ℕ) (before : Option Enclave) (r : Result Content E) (next after : Enclave → Session E) → Same next after
      → read_content wording tagging link names offset before r next ≡ read_content wording tagging link names offset before r after
  read_same offset before (Err fault) next after same = refl
  read_same offset before (Ok content) next after same = called_same offset before content (content_called wording tagging link names before content) next after same

  if_same : (b : Bool) (u s t : Session E) → s ≡ t → (if b then u else s) ≡ (if b then u else t)
  if_same true u s t same = refl
  if_same false u s t same = same

  then_same : (b : Bool) (u s t : Session E) → s ≡ t → (if b then s else u) ≡ (if b then t else u)
  then_same true u s t same = same
  then_same false u s t same = refl

  pub sized_same : (offset number : ℕ) (before : Option Enclave) (n : ℕ) (bytes : List ℕ) (next after : Enclave → Session E) → Same next after
      → sized_frame wording tagging link names offset number before n bytes next ≡ sized_frame wording tagging link names offset number before n bytes after
  sized_same offset number before n bytes next after same =
      if_same (nat_lt n 1 || nat_lt MAX_CONTENT n) _ _ _
      (if_same (nat_lt (length bytes) (n + tagging.size)) _ _ _
      (then_same (tagging.is_right number (take n bytes) (take tagging.size (drop n bytes))) _ _ _
      (read_same offset before (wording.content_of (take n bytes)) next after same)))

  by_four : (four : Bool) (u s t : Session E) → s ≡ t → ◌≡◌ {A = Session E} (elim four [ true ↦ u | false ↦ s ]) (elim four [ true ↦ u | false ↦ t ])
  by_four true u s t same = refl
  by_four false u s t same = same

  -- with more turns than bytes it is the same session
  pub turns : (n m offset number : ℕ) (before : Option Enclave) (bytes : List ℕ) → length bytes ≤ n → length bytes ≤ m
      → session_from wording tagging link names n offset number before bytes ≡ session_from wording tagging link names m offset number before bytes
  turns zero zero offset number before [] hn hm = refl
  turns zero zero offset number before (b ∷ bytes) hn hm = absurd (omega arith)
  turns zero (suc m) offset number before [] hn hm = refl
  turns (suc n) zero offset number before [] hn hm = refl
  turns (suc n) (suc m) offset number before [] hn hm = refl
  turns zero m offset number before (b ∷ bytes) hn hm = absurd (omega arith)
  turns (suc n) zero offset number before (b ∷ bytes) hn hm = absurd (omega arith)
  turns (suc n) (suc m) offset number before (b ∷ bytes) hn hm =
      by_four (nat_lt (length (b ∷ bytes)) 4) _ _ _
      (sized_same offset number before (length_of wording tagging link names (b ∷ bytes)) (drop 4 (b ∷ bytes)) _ _
      (λ e. turns n m (offset + frame_size wording tagging link names (b ∷ bytes)) (number + 1) (Some e) (drop (frame_size wording tagging link names (b ∷ bytes)) (b ∷ bytes)) (omega (arith, length-drop (frame_size wording tagging link names (b ∷ bytes)) (b ∷ bytes))) (omega (arith, length-drop (frame_size wording tagging link names (b ∷ bytes)) (b ∷ bytes)))))
