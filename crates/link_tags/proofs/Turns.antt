-- What passes are the contents whose numbers come in turn.
use Rattle.std.proofs.Common.{◌≡◌, ℕ, ◌+◌, ◌<◌, ◌≤◌, Bool, true, false, cond, List, [], ◌∷◌, ◌++◌, length, get_or, take, append_assoc, append-nil, refl, sym, ap, ◌∙◌, subst, zero-add, arith}
use Rattle.std.specs.Prelude.{◌==◌, bytes_eq, All, Contains}
use Rattle.std.proofs.lemmas.Bool.{eqb-true, eq-eqb}
use Rattle.std.proofs.lemmas.Bool.Decides.{same_from_decides}
use Rattle.std.proofs.lemmas.List.{take_more}
use Rattle.std.proofs.lemmas.List.Elements.{All-head, All-tail, Contains-get_or, Contains-append_left, Contains-append_right}
use Rattle.std.proofs.lemmas.Slice.Eq.{bytes_eq-Decides}
use Rattle.values.specs.declared.limits.TheConstants.{TOP}
use Rattle.link_tags.specs.declared.ends.Side.{Side}
use Rattle.link_tags.specs.Ends.{End, new_end, other, text_of, text_due, is_right}
use Rattle.link_tags.specs.Passing.{Frame, frames_sealed, frames_at, contents_passed, texts_sealed, texts_checked, turns_from, Link, IsLink, PassesOnce, sealing, checking, offered}
use Rattle.link_tags.proofs.Sealed.{other_twice, same_number, length-texts_sealed, get_or-texts_sealed, frame_of, first_frame}

module _ (mac : (key text : List ℕ) → List ℕ) (key : List ℕ) (side : Side) (contents : List (List ℕ)) (few : length contents ≤ TOP) where
  abbrev frames : List Frame
  frames = frames_sealed mac (new_end key side) contents

  abbrev content : ℕ → List ℕ
  content j = get_or contents j []

  abbrev text : ℕ → List ℕ
  text j = text_of side j (content j)

  abbrev frame : ℕ → Frame
  frame j = frame_of mac key side j (content j)

  -- the other end, where h of the frames have passed
  abbrev checker : ℕ → End
  checker h = record { key = key; side = other side; own = 0; heard = h }

  -- a text that is checked and has the tag of a sealed one is that one
  abbrev KeepsApart : List (List ℕ) → Type 0
  KeepsApart checked = (j : ℕ) (t : List ℕ) → j < length contents → Contains checked t → mac key (text j) ≡ mac key t → text j ≡ t

  is_due : (h j : ℕ) → text_due (checker h) (content j) ≡ text_of side h (content j)
  is_due h j = ap (λ s. text_of s h (content j)) (other_twice side)

  -- a frame passes exactly where its number is the one that is due
  in_turn : (h j : ℕ) → h ≤ length contents → j < length contents
      → (mac key (text j) ≡ mac key (text_due (checker h) (content j)) → text j ≡ text_due (checker h) (content j))
      → is_right mac (checker h) (content j) (mac key (text j)) ≡ (j == h)
  in_turn h j heard sealed apart =
      let due = mac key (text_due (checker h) (content j)) in
      same_from_decides (bytes_eq (mac key (text j)) due) (j == h) (
        λ right. same_number side j h (content j) (content j) (omega (arith, few)) (omega (arith, few)) (apart ((bytes_eq-Decides (mac key (text j)) due).0 right) ∙ is_due h j),
        λ e. (bytes_eq-Decides (mac key (text j)) due).1 (ap (λ n. mac key (text_of side n (content j))) e ∙ sym (ap (mac key) (is_due h j))),
      )
      (λ t. eqb-true j h t, λ e. eq-eqb j h e)

  record PassesFrom (h : ℕ) (js : List ℕ) : Type 0 where
    within : turns_from h js ≤ length contents
    front : take h contents ++ contents_passed mac (checker h) (frames_at js frames) ≡ take (turns_from h js) contents

  module _ (j : ℕ) (js : List ℕ) (h : ℕ) (heard : h ≤ length contents) (sealed : j < length contents) where
    abbrev rest : List Frame
    rest = frames_at js frames

    -- what the frame leads to, where it passes or not
    passes_by : (b : Bool) → is_right mac (checker h) (content j) (mac key (text j)) ≡ b
        → contents_passed mac (checker h) (frames_at (j ∷ js) frames) ≡ cond b (content j ∷ contents_passed mac (checker (h + 1)) rest) (contents_passed mac (checker h) rest)
    passes_by b right =
        ap (contents_passed mac (checker h)) (first_frame mac key side contents j js sealed)
        ∙ ap (λ t. cond t (content j ∷ contents_passed mac (checker (h + 1)) rest) (contents_passed mac (checker h) rest)) right

    checks_by : (b : Bool) → is_right mac (checker h) (content j) (mac key (text j)) ≡ b
        → texts_checked mac (checker h) (frames_at (j ∷ js) frames) ≡ text_due (checker h) (content j) ∷ texts_checked mac (cond b (checker (h + 1)) (checker h)) rest
    checks_by b right =
        ap (texts_checked mac (checker h)) (first_frame mac key side contents j js sealed)
        ∙ ap (λ t. text_due (checker h) (content j) ∷ texts_checked mac (cond t (checker (h + 1)) (checker h)) rest) right

    step : (b : Bool) → (j == h) ≡ b → is_right mac (checker h) (content j) (mac key (text j)) ≡ b
        → ((n : ℕ) → n ≤ length contents → KeepsApart (texts_checked mac (checker n) rest) → PassesFrom n js)
        → KeepsApart (texts_checked mac (checker h) (frames_at (j ∷ js) frames)) → PassesFrom h (j ∷ js)
    step true turn right later apart =
        let here : j ≡ h = eqb-true j h turn in
        let one_on : h + 1 ≤ length contents = omega arith in
        let kept : KeepsApart (texts_checked mac (checker (h + 1)) rest) =
        λ k t k_sealed found e. apart k t k_sealed (subst (λ ts. Contains ts t) (sym (checks_by true right)) (Contains-append_right (text_due (checker h) (content j) ∷ []) (texts_checked mac (checker (h + 1)) rest) t found)) e in
        let next = later (h + 1) one_on kept in
        let turns : turns_from h (j ∷ js) ≡ turns_from (h + 1) js = ap (λ t. turns_from (cond t (h + 1) h) js) turn in
        record {
          within = subst (λ n. n ≤ length contents) (sym turns) next.within;
          front =
              ap (λ cs. take h contents ++ cs) (passes_by true right)
              ∙ ap (λ n. take h contents ++ content n ∷ contents_passed mac (checker (h + 1)) rest) here
              ∙ sym (append_assoc (take h contents) (content h ∷ []) (contents_passed mac (checker (h + 1)) rest))
              ∙ ap (λ cs. cs ++ contents_passed mac (checker (h + 1)) rest) (sym (take_more contents h [] (omega arith)))
              ∙ next.front
              ∙ ap (λ n. take n contents) (sym turns);
        }
    step false turn right later apart =
        let kept : KeepsApart (texts_checked mac (checker h) rest) =
        λ k t k_sealed found e. apart k t k_sealed (subst (λ ts. Contains ts t) (sym (checks_by false right)) (Contains-append_right (text_due (checker h) (content j) ∷ []) (texts_checked mac (checker h) rest) t found)) e in
        let next = later h heard kept in
        let turns : turns_from h (j ∷ js) ≡ turns_from h js = ap (λ t. turns_from (cond t (h + 1) h) js) turn in
        record {
          within = subst (λ n. n ≤ length contents) (sym turns) next.within;
          front = ap (λ cs. take h contents ++ cs) (passes_by false right) ∙ next.front ∙ ap (λ n. take n contents) (sym turns);
        }

  passes_from : (js : List ℕ) (h : ℕ) → h ≤ length contents → All (λ j. j < length contents) js
      → KeepsApart (texts_checked mac (checker h) (frames_at js frames)) → PassesFrom h js
  passes_from [] h heard sealed apart = record { within = heard; front = append-nil (take h contents) }
  passes_from (j ∷ js) h heard sealed apart =
      let first : j < length contents = All-head (λ n. n < length contents) j js sealed in
      let checked = texts_checked mac (checker h) (frames_at (j ∷ js) frames) in
      let is_checked : Contains checked (text_due (checker h) (content j)) =
      subst (λ ts. Contains ts (text_due (checker h) (content j))) (sym (checks_by j js h heard first (is_right mac (checker h) (content j) (mac key (text j))) refl)) (0, omega arith, refl) in
      let turn = in_turn h j heard first (apart j (text_due (checker h) (content j)) first is_checked) in
      step j js h heard first (j == h) refl turn (λ n n_heard kept. passes_from js n n_heard (All-tail (λ n. n < length contents) j js sealed) kept) apart

  contains_text : (j : ℕ) → j < length contents → Contains (texts_sealed (new_end key side) contents) (text j)
  contains_text j sealed =
      let texts = texts_sealed (new_end key side) contents in
      subst (Contains texts) (get_or-texts_sealed (new_end key side) contents j [] sealed ∙ ap (λ n. text_of side n (content j)) (zero-add j))
      (Contains-get_or texts j [] (omega (arith, length-texts_sealed (new_end key side) contents)))

pub once : (mac : (key text : List ℕ) → List ℕ) (l : Link) → IsLink mac l → PassesOnce mac l
once mac l is =
    let sent = texts_sealed (sealing mac l) l.contents in
    let heard = texts_checked mac (checking mac l) (offered mac l) in
    let all = passes_from mac l.key l.side l.contents is.few l.numbers 0 (omega arith) is.sealed
    (λ j t j_sealed found e. is.tags_differ (text mac l.key l.side l.contents is.few j) t
    (Contains-append_left sent heard (text mac l.key l.side l.contents is.few j) (contains_text mac l.key l.side l.contents is.few j j_sealed))
    (Contains-append_right sent heard t found) e) in
    record { within = all.within; front = all.front }
