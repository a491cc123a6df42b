-- A session goes on frame by frame, and ends at one that is bad.
use Rattle.std.proofs.Common.{◌≡◌, ℕ, ◌+◌, ◌<◌, Bool, true, false, cond, Option, Some, None, Result, Ok, Err, List, [], ◌∷◌, ◌++◌, length, refl, sym, ap, subst, ◌∙◌}
use Rattle.std.specs.Prelude.{nat_lt, ◌||◌}
use Rattle.std.specs.Int.{w32, from_be_bytes}
use Rattle.std.proofs.lemmas.List.{append_assoc, append-nil}
use Rattle.values.specs.declared.entry.Point.{Point}
use Rattle.values.specs.declared.limits.TheConstants.{MAX_CONTENT}
use Rattle.replica_model.specs.Path.{Link}
use Rattle.replica_model.specs.Replica.{Named}
use Rattle.group_model.specs.Enclave.{Enclave, Called}
use Rattle.trace_model.specs.Session.{Content, Wording, Tagging, Handed, Cause, Length, Cut, Tag, Faulty, Bad, Done, Session, content_called, goes_on, read_content, session_with, ends_at, onto}
use Rattle.replica_server.specs.Reached.{Place, behind, session_at, Reaches}
use Rattle.replica_server.proofs.Framed.{after_frame, at_cut, at_sized, behind_length, behind_cut, behind_whole, Whole, Behind}

module _ {E : Type 0} (wording : Wording E) (tagging : Tagging) (link : Link) (names : Point → Named) where
  abbrev Of : List ℕ → Session E
  Of bytes = session_with wording tagging link names bytes

  abbrev Here : Place → List ℕ → Session E
  Here p bytes = session_at wording tagging link names p bytes

  -- nothing was read
  pub reach_none : Reaches wording tagging link names [] [] (record { offset = 0; number = 0; before = None })
  reach_none future = refl

  -- it is the length of a content
  abbrev pub IsLength : ℕ → Type 0
  IsLength n = (nat_lt n 1 || nat_lt MAX_CONTENT n) ≡ false

  -- a whole frame: its length, content and tag
  pub record Framed (n : ℕ) (head content tag : List ℕ) : Type 0 where
    pub four : length head ≡ 4
    pub spelled : from_be_bytes w32 head ≡ n
    pub long : length content ≡ n
    pub range : IsLength n
    pub size : length tag ≡ tagging.size

  at_frame : (p : Place) (n : ℕ) (head content tag future : List ℕ) → Framed n head content tag
      → Here p (head ++ (content ++ (tag ++ future))) ≡ Whole wording tagging link names p (length content) content tag future
  at_frame p n head content tag future f =
      at_sized wording tagging link names p head (content ++ (tag ++ future)) f.four
      ∙ (ap (λ k. Behind wording tagging link names p k (content ++ (tag ++ future))) (f.spelled ∙ sym f.long)
      ∙ behind_whole wording tagging link names p content tag future (subst IsLength (sym f.long) f.range) f.size)

  if_true : (b : Bool) (s u : Session E) → b ≡ true → cond b s u ≡ s
  if_true true s u e = refl
  if_true false s u e = absurd (cc)

  if_false : (b : Bool) (s u : Session E) → b ≡ false → cond b s u ≡ u
  if_false false s u e = refl
  if_false true s u e = absurd (cc)

  -- the session behind a frame of n bytes
  abbrev Next : Place → ℕ → List ℕ → Enclave → Session E
  Next p n future e = Here (after_frame wording tagging link names p n e) future

  -- a whole frame has a right tag, and its content reads as this
  abbrev Read : Place → (n : ℕ) → (future : List ℕ) → Result Content E → Session E
  Read p n future r = read_content wording tagging link names p.offset p.before r (Next p n future)

  whole_right : (p : Place) (n : ℕ) (content tag future : List ℕ) → tagging.is_right p.number content tag ≡ true
      → Whole wording tagging link names p n content tag future ≡ Read p n future (wording.content_of content)
  whole_right p n content tag future right = if_true (tagging.is_right p.number content tag) _ _ right

  whole_called : (p : Place) (n : ℕ) (content tag future : List ℕ) (said : Content) (r : Result Called (Cause E)) → tagging.is_right p.number content tag ≡ true
      → wording.content_of content ≡ Ok said → content_called wording tagging link names p.before said ≡ r
      → Whole wording tagging link names p n content tag future ≡ goes_on wording tagging link names p.offset p.before said r (Next p n future)
  whole_called p n content tag future said r right says calls =
      whole_right p n content tag future right
      ∙ (ap (Read p n future) says ∙ ap (λ x. goes_on wording tagging link names p.offset p.before said x (Next p n future)) calls)

  onto_behind : (handed : List Handed) (h : Handed) (s : Session E) → behind handed (onto wording tagging link names h s) ≡ behind (handed ++ h ∷ []) s
  onto_behind handed h s = ap (λ hs. record s { handed = hs }) (sym (append_assoc handed (h ∷ []) s.handed))

  pub spread : (read head content tag future : List ℕ) → (read ++ (head ++ (content ++ tag))) ++ future ≡ read ++ (head ++ (content ++ (tag ++ future)))
  spread read head content tag future =
      append_assoc read (head ++ (content ++ tag)) future
      ∙ ap (λ xs. read ++ xs) (append_assoc head (content ++ tag) future ∙ ap (λ xs. head ++ xs) (append_assoc content tag future))

  -- a frame whose content was called
  pub reach_frame : (read : List ℕ) (handed : List Handed) (p : Place) (n : ℕ) (head content tag : List ℕ) (said : Content) (c : Called)
      → Reaches wording tagging link names read handed p → Framed n head content tag
      → tagging.is_right p.number content tag ≡ true → wording.content_of content ≡ Ok said → content_called wording tagging link names p.before said ≡ Ok c
      → Reaches wording tagging link names (read ++ (head ++ (content ++ tag))) (handed ++ record { before = p.before; content = said; called = c } ∷ [])
      (after_frame wording tagging link names p (length content) c.enclave)
  reach_frame read handed p n head content tag said c reached f right says calls future =
      ap Of (spread read head content tag future)
      ∙ (reached (head ++ (content ++ (tag ++ future)))
      ∙ (ap (behind handed) (at_frame p n head content tag future f ∙ whole_called p (length content) content tag future said (Ok c) right says calls)
      ∙ onto_behind handed (record { before = p.before; content = said; called = c }) (Here (after_frame wording tagging link names p (length content) c.enclave) future)))

  -- the session ends here, whatever follows
  pub reach_end : (read tail : List ℕ) (handed : List Handed) (p : Place) (cause : Cause E) → Reaches wording tagging link names read handed p
      → Here p tail ≡ ends_at wording tagging link names p.offset cause
      → Of (read ++ tail) ≡ record { handed = handed; end = Bad p.offset cause }
  reach_end read tail handed p cause reached ends =
      reached tail ∙ (ap (behind handed) ends ∙ ap (λ hs. record { handed = hs; end = Bad p.offset cause }) (append-nil handed))

  -- all was read
  pub reach_done : (read : List ℕ) (handed : List Handed) (p : Place) → Reaches wording tagging link names read handed p
      → Of read ≡ record { handed = handed; end = Done }
  reach_done read handed p reached =
      ap Of (sym (append-nil read)) ∙ (reached [] ∙ ap (λ hs. record { handed = hs; end = Done }) (append-nil handed))

  -- how the session ends at a frame: cut off in its length, no length, cut off behind it
  pub ends_in_length : (p : Place) (b : ℕ) (head : List ℕ) → length (b ∷ head) < 4 → Here p (b ∷ head) ≡ ends_at wording tagging link names p.offset Cut
  ends_in_length p b head few = at_cut wording tagging link names p b head few

  pub ends_at_length : (p : Place) (n : ℕ) (head rest : List ℕ) → length head ≡ 4 → from_be_bytes w32 head ≡ n → (nat_lt n 1 || nat_lt MAX_CONTENT n) ≡ true
      → Here p (head ++ rest) ≡ ends_at wording tagging link names p.offset (Length n)
  ends_at_length p n head rest four spelled bad =
      at_sized wording tagging link names p head rest four
      ∙ (ap (λ k. Behind wording tagging link names p k rest) spelled ∙ behind_length wording tagging link names p n rest bad)

  pub ends_behind_length : (p : Place) (n : ℕ) (head rest : List ℕ) → length head ≡ 4 → from_be_bytes w32 head ≡ n → IsLength n → length rest < n + tagging.size
      → Here p (head ++ rest) ≡ ends_at wording tagging link names p.offset Cut
  ends_behind_length p n head rest four spelled range few =
      at_sized wording tagging link names p head rest four
      ∙ (ap (λ k. Behind wording tagging link names p k rest) spelled ∙ behind_cut wording tagging link names p n rest range few)

  -- at a whole frame: another tag, a content that says nothing, or one that is not called
  pub ends_at_tag : (p : Place) (n : ℕ) (head content tag future : List ℕ) → Framed n head content tag → tagging.is_right p.number content tag ≡ false
      → Here p (head ++ (content ++ (tag ++ future))) ≡ ends_at wording tagging link names p.offset (Tag p.number)
  ends_at_tag p n head content tag future f wrong =
      at_frame p n head content tag future f ∙ if_false (tagging.is_right p.number content tag) _ _ wrong

  pub ends_at_content : (p : Place) (n : ℕ) (head content tag future : List ℕ) (fault : E) → Framed n head content tag → tagging.is_right p.number content tag ≡ true
      → wording.content_of content ≡ Err fault → Here p (head ++ (content ++ (tag ++ future))) ≡ ends_at wording tagging link names p.offset (Faulty fault)
  ends_at_content p n head content tag future fault f right says =
      at_frame p n head content tag future f ∙ (whole_right p (length content) content tag future right ∙ ap (Read p (length content) future) says)

  pub ends_at_call : (p : Place) (n : ℕ) (head content tag future : List ℕ) (said : Content) (cause : Cause E) → Framed n head content tag
      → tagging.is_right p.number content tag ≡ true → wording.content_of content ≡ Ok said → content_called wording tagging link names p.before said ≡ Err cause
      → Here p (head ++ (content ++ (tag ++ future))) ≡ ends_at wording tagging link names p.offset cause
  ends_at_call p n head content tag future said cause f right says refused =
      at_frame p n head content tag future f ∙ whole_called p (length content) content tag future said (Err cause) right says refused
