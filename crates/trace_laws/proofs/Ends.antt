-- Two sessions of the same bytes end alike, whichever enclaves they call.
use Rattle.std.proofs.Common.{◌≡◌, ℕ, zero, suc, ◌+◌, Bool, true, false, Option, Some, None, Result, Ok, Err, List, [], ◌∷◌, length, take, drop, refl}
use Rattle.std.specs.Prelude.{nat_lt, ◌||◌, if◌then◌else◌}
use Rattle.values.specs.declared.entry.Point.{Point}
use Rattle.replica_model.specs.Path.{Link}
use Rattle.replica_model.specs.Replica.{Named}
use Rattle.group_model.specs.Enclave.{Enclave}
use Rattle.values.specs.declared.limits.TheConstants.{MAX_CONTENT}
use Rattle.trace_model.specs.Session.{Content, Starts, Frames, Hands, Wording, untagged, Length, Cut, Session, content_called, goes_on, read_content, whole_frame, sized_frame, length_of, frame_size, session_from, ends_at}
use Rattle.trace_model.specs.Claims.{EndIgnoresTheMap}

-- both have begun, or neither
abbrev BothBegun : Option Enclave → Option Enclave → Type 0
BothBegun None None = Unit {0}
BothBegun None (Some e) = ⊥
BothBegun (Some e) None = ⊥
BothBegun (Some e) (Some d) = Unit {0}

module _ {E : Type 0} (wording : Wording E) (link : Link) (names others : Point → Named) where
  -- two sessions end alike
  abbrev SameEnd : Session E → Session E → Type 0
  SameEnd s t = s.end ≡ t.end

  -- what follows the frame ends alike, from whichever enclaves
  abbrev Follow : (Enclave → Session E) → (Enclave → Session E) → Type 0
  Follow next after = (e d : Enclave) → SameEnd (next e) (after d)

  content_same : (offset : ℕ) (before found : Option Enclave) → BothBegun before found → (content : Content) (next after : Enclave → Session E) → Follow next after
      → SameEnd (goes_on wording untagged link names offset before content (content_called wording untagged link names before content) next) (goes_on wording untagged link others offset found content (content_called wording untagged link others found content) after)
  content_same offset None None both (Starts hello) next after follow = follow _ _
  content_same offset None None both (Frames frame) next after follow = refl
  content_same offset None None both (Hands input) next after follow = refl
  content_same offset None (Some d) both content next after follow = absurd both
  content_same offset (Some e) None both content next after follow = absurd both
  content_same offset (Some e) (Some d) both (Starts hello) next after follow = refl
  content_same offset (Some e) (Some d) both (Frames frame) next after follow = follow _ _
  content_same offset (Some e) (Some d) both (Hands input) next after follow = follow _ _

  read_same : (offset : ℕ) (before found : Option Enclave) → BothBegun before found → (r : Result Content E) (next after : Enclave → Session E) → Follow next after
      → SameEnd (read_content wording untagged link names offset before r next) (read_content wording untagged link others offset found r after)
  read_same offset before found both (Err fault) next after follow = refl
  read_same offset before found both (Ok content) next after follow = content_same offset before found both content next after follow

  sized_same : (offset number : ℕ) (before found : Option Enclave) → BothBegun before found → (n : ℕ) (bytes : List ℕ) (next after : Enclave → Session E) → Follow next after
      → SameEnd (sized_frame wording untagged link names offset number before n bytes next) (sized_frame wording untagged link others offset number found n bytes after)
  sized_same offset number before found both n bytes next after follow =
      by_length (nat_lt n 1 || nat_lt MAX_CONTENT n) _ _ (by_size (nat_lt (length bytes) (n + untagged.size)))
    where
      by_size : (b : Bool) → SameEnd (if b then ends_at wording untagged link names offset Cut else whole_frame wording untagged link names offset number before (take n bytes) (take untagged.size (drop n bytes)) next) (if b then ends_at wording untagged link others offset Cut else whole_frame wording untagged link others offset number found (take n bytes) (take untagged.size (drop n bytes)) after)
      by_size true = refl
      by_size false = read_same offset before found both (wording.content_of (take n bytes)) next after follow

      by_length : (b : Bool) (s t : Session E) → SameEnd s t → SameEnd (if b then ends_at wording untagged link names offset (Length n) else s) (if b then ends_at wording untagged link others offset (Length n) else t)
      by_length true s t same = refl
      by_length false s t same = same

  session_same : (n offset number : ℕ) (before found : Option Enclave) → BothBegun before found → (bytes : List ℕ) → SameEnd (session_from wording untagged link names n offset number before bytes) (session_from wording untagged link others n offset number found bytes)
  session_same n offset number before found both [] = refl
  session_same zero offset number before found both (b ∷ bytes) = refl
  session_same (suc n) offset number before found both (b ∷ bytes) =
      by_four (nat_lt (length (b ∷ bytes)) 4) _ _
      (sized_same offset number before found both (length_of wording untagged link names (b ∷ bytes)) (drop 4 (b ∷ bytes)) _ _
      (λ e d. session_same n (offset + frame_size wording untagged link names (b ∷ bytes)) (number + 1) (Some e) (Some d) tt (drop (frame_size wording untagged link names (b ∷ bytes)) (b ∷ bytes))))
    where
      by_four : (four : Bool) (s t : Session E) → SameEnd s t → SameEnd (elim four [ true ↦ ends_at wording untagged link names offset Cut | false ↦ s ]) (elim four [ true ↦ ends_at wording untagged link others offset Cut | false ↦ t ])
      by_four true s t same = refl
      by_four false s t same = same

pub end_ignores_the_map : (E : Type 0) (wording : Wording E) → EndIgnoresTheMap wording
end_ignores_the_map E wording link names others bytes = session_same wording link names others (length bytes) 0 0 None None tt bytes
