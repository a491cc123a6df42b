-- One frame at the front of bytes, and how a session ends there.
use Rattle.std.proofs.Common.{◌≡◌, ℕ, zero, suc, ◌+◌, ◌<◌, ◌≤◌, Bool, true, false, cond, Option, Some, Result, Ok, Err, List, [], ◌∷◌, ◌++◌, length, take, drop, refl, sym, ap, subst, ◌∙◌, arith, length-drop, length-append}
use Rattle.std.specs.Prelude.{nat_lt, ◌||◌, if◌then◌else◌}
use Rattle.std.specs.Int.{w32, from_be_bytes}
use Rattle.std.proofs.lemmas.Bool.{lt-ltb, le-ltb}
use Rattle.std.proofs.lemmas.List.{drop-drop}
use Rattle.std.proofs.Math.Seq.{take-append_seam, drop-append_seam, drop-append-add}
use Rattle.values.specs.declared.entry.Point.{Point}
use Rattle.values.specs.declared.limits.TheConstants.{MAX_CONTENT}
use Rattle.replica_model.specs.Path.{Link}
use Rattle.replica_model.specs.Replica.{Named}
use Rattle.group_model.specs.Enclave.{Enclave}
use Rattle.trace_model.specs.Session.{Wording, Tagging, Length, Cut, Session, Done, whole_frame, sized_frame, ends_at, session_from}
use Rattle.replica_server.specs.Reached.{Place, session_at}
use Rattle.replica_server.proofs.Fuel.{turns, sized_same}

module _ {E : Type 0} (wording : Wording E) (tagging : Tagging) (link : Link) (names : Point → Named) where
  abbrev At : Place → List ℕ → Session E
  At p bytes = session_at wording tagging link names p bytes

  -- where a frame of a content of n bytes leads
  abbrev pub after_frame : Place → ℕ → Enclave → Place
  after_frame p n e = record { offset = p.offset + (4 + (n + tagging.size)); number = p.number + 1; before = Some e }

  -- nothing follows
  pub at_end : (p : Place) → At p [] ≡ record { handed = []; end = Done }
  at_end p = refl

  few_is : (b : Bool) (u s : Session E) → b ≡ true → ◌≡◌ {A = Session E} (elim b [ true ↦ u | false ↦ s ]) u
  few_is true u s e = refl
  few_is false u s e = absurd (cc)

  four_is : (b : Bool) (u s : Session E) → b ≡ false → ◌≡◌ {A = Session E} (elim b [ true ↦ u | false ↦ s ]) s
  four_is false u s e = refl
  four_is true u s e = absurd (cc)

  is_true : (b : Bool) (u s : Session E) → b ≡ true → cond b u s ≡ u
  is_true true u s e = refl
  is_true false u s e = absurd (cc)

  is_false : (b : Bool) (u s : Session E) → b ≡ false → cond b u s ≡ s
  is_false false u s e = refl
  is_false true u s e = absurd (cc)

  -- fewer bytes than a length has
  pub at_cut : (p : Place) (b : ℕ) (head : List ℕ) → length (b ∷ head) < 4 → At p (b ∷ head) ≡ ends_at wording tagging link names p.offset Cut
  at_cut p b head few = few_is (nat_lt (length (b ∷ head)) 4) _ _ (lt-ltb (length (b ∷ head)) 4 few)

  -- what stands behind a length, up to where the frame ends
  abbrev pub Behind : Place → (n : ℕ) → List ℕ → Session E
  Behind p n rest =
      sized_frame wording tagging link names p.offset p.number p.before n rest (λ e. At (after_frame p n e) (drop (n + tagging.size) rest))

  -- four bytes are a length
  at_four : (p : Place) (b : ℕ) (bytes : List ℕ) → 4 ≤ length (b ∷ bytes)
      → At p (b ∷ bytes) ≡ Behind p (from_be_bytes w32 (take 4 (b ∷ bytes))) (drop 4 (b ∷ bytes))
  at_four p b bytes enough =
      let n = from_be_bytes w32 (take 4 (b ∷ bytes)) in
      let left = drop (4 + (n + tagging.size)) (b ∷ bytes) in
      let rest = drop (n + tagging.size) (drop 4 (b ∷ bytes)) in
      four_is (nat_lt (length (b ∷ bytes)) 4) (ends_at wording tagging link names p.offset Cut)
      (sized_frame wording tagging link names p.offset p.number p.before n (drop 4 (b ∷ bytes)) (λ e. session_from wording tagging link names (length bytes) (p.offset + (4 + (n + tagging.size))) (p.number + 1) (Some e) left))
      (le-ltb (length (b ∷ bytes)) 4 enough)
      ∙ sized_same wording tagging link names p.offset p.number p.before n (drop 4 (b ∷ bytes)) _ _
      (λ e. turns wording tagging link names (length bytes) (length left) (p.offset + (4 + (n + tagging.size))) (p.number + 1) (Some e) left (omega (arith, length-drop (4 + (n + tagging.size)) (b ∷ bytes))) (omega arith)
      ∙ ap (λ xs. At (after_frame p n e) xs) (sym (drop-drop (n + tagging.size) 4 (b ∷ bytes))))

  pub at_sized : (p : Place) (head rest : List ℕ) → length head ≡ 4 → At p (head ++ rest) ≡ Behind p (from_be_bytes w32 head) rest
  at_sized p [] rest four = absurd (cc)
  at_sized p (b ∷ head) rest four =
      at_four p b (head ++ rest) (omega (arith, length-append (b ∷ head) rest))
      ∙ (ap (λ xs. Behind p (from_be_bytes w32 xs) (drop 4 (b ∷ head ++ rest))) (subst (λ k. take k ((b ∷ head) ++ rest) ≡ b ∷ head) four (take-append_seam (b ∷ head) rest))
      ∙ ap (λ xs. Behind p (from_be_bytes w32 (b ∷ head)) xs) (subst (λ k. drop k ((b ∷ head) ++ rest) ≡ rest) four (drop-append_seam (b ∷ head) rest)))

  -- the length of no content
  pub behind_length : (p : Place) (n : ℕ) (rest : List ℕ) → (nat_lt n 1 || nat_lt MAX_CONTENT n) ≡ true → Behind p n rest ≡ ends_at wording tagging link names p.offset (Length n)
  behind_length p n rest e = is_true (nat_lt n 1 || nat_lt MAX_CONTENT n) _ _ e

  -- the frame is cut off
  pub behind_cut : (p : Place) (n : ℕ) (rest : List ℕ) → (nat_lt n 1 || nat_lt MAX_CONTENT n) ≡ false → length rest < n + tagging.size
      → Behind p n rest ≡ ends_at wording tagging link names p.offset Cut
  behind_cut p n rest e few =
      is_false (nat_lt n 1 || nat_lt MAX_CONTENT n) _ _ e
      ∙ is_true (nat_lt (length rest) (n + tagging.size)) _ _ (lt-ltb (length rest) (n + tagging.size) few)

  -- the frame that these bytes make, in front of others
  abbrev pub Whole : Place → (n : ℕ) → (content tag future : List ℕ) → Session E
  Whole p n content tag future = whole_frame wording tagging link names p.offset p.number p.before content tag (λ e. At (after_frame p n e) future)

  parts_are : (p : Place) (n : ℕ) (c t f content tag future : List ℕ) → c ≡ content → t ≡ tag → f ≡ future → Whole p n c t f ≡ Whole p n content tag future
  parts_are p n c t f content tag future same right left =
      ap (λ x. Whole p n x t f) same ∙ (ap (λ x. Whole p n content x f) right ∙ ap (λ x. Whole p n content tag x) left)

  -- the frame is whole
  pub behind_whole : (p : Place) (content tag future : List ℕ) → (nat_lt (length content) 1 || nat_lt MAX_CONTENT (length content)) ≡ false → length tag ≡ tagging.size
      → Behind p (length content) (content ++ (tag ++ future)) ≡ Whole p (length content) content tag future
  behind_whole p content tag future e size =
      is_false (nat_lt (length content) 1 || nat_lt MAX_CONTENT (length content)) _ _ e
      ∙ (is_false (nat_lt (length (content ++ (tag ++ future))) (length content + tagging.size)) _ _
      (le-ltb (length (content ++ (tag ++ future))) (length content + tagging.size) (omega (arith, length-append content (tag ++ future), length-append tag future)))
      ∙ parts_are p (length content) (take (length content) (content ++ (tag ++ future))) (take tagging.size (drop (length content) (content ++ (tag ++ future)))) (drop (length content + tagging.size) (content ++ (tag ++ future))) content tag future
      (take-append_seam content (tag ++ future))
      (ap (take tagging.size) (drop-append_seam content (tag ++ future)) ∙ subst (λ n. take n (tag ++ future) ≡ tag) size (take-append_seam tag future))
      (drop-append-add content (tag ++ future) tagging.size ∙ subst (λ n. drop n (tag ++ future) ≡ future) size (drop-append_seam tag future)))
