-- How far a session is in its bytes.
use Rattle.std.specs.Prelude.{◌≡◌, ℕ, List, [], ◌∷◌, ◌++◌, length, Option}
use Rattle.values.specs.declared.entry.Point.{Point}
use Rattle.replica_model.specs.Path.{Link}
use Rattle.replica_model.specs.Replica.{Named}
use Rattle.group_model.specs.Enclave.{Enclave}
use Rattle.trace_model.specs.Session.{Wording, Tagging, Handed, Session, session_with, session_from}

-- the offset of the next frame, how many frames came before it, and the enclave that it finds
pub record Place : Type 0 where
  pub offset : ℕ
  pub number : ℕ
  pub before : Option Enclave

-- the session with these frames before its own
abbrev pub behind : {E : Type 0} → List Handed → Session E → Session E
behind hs s = record s { handed = hs ++ s.handed }

module _ {E : Type 0} (wording : Wording E) (tagging : Tagging) (link : Link) (names : Point → Named) where
  -- the session that goes on here
  abbrev pub session_at : Place → List ℕ → Session E
  session_at p bytes = session_from wording tagging link names (length bytes) p.offset p.number p.before bytes

  -- these bytes are whole frames that handed this, and whatever follows them goes on from here
  abbrev pub Reaches : List ℕ → List Handed → Place → Type 0
  Reaches read handed p =
      (future : List ℕ) → session_with wording tagging link names (read ++ future) ≡ behind handed (session_at p future)
