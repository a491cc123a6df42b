-- What one frame that is handed over adds to those that pass.
use Rattle.std.proofs.Common.{◌≡◌, ℕ, ◌+◌, ◌<◌, ◌≤◌, cond, List, [], ◌∷◌, length, get_or, map, drop, Result, Ok, Err, sym, ap, ◌∙◌, zero-add, arith}
use Rattle.std.specs.Prelude.{is_ok, OnOk, OnErr}
use Rattle.std.proofs.lemmas.List.{at_drop_more, get_or-map, length-map}
use Rattle.values.specs.declared.entry.Hash.{Hash}
use Rattle.link_tags.specs.declared.ends.Side.TheVariants.{Host}
use Rattle.link_tags.specs.Ends.{End, new_end, text_of, is_right, after_check}
use Rattle.link_tags.specs.Passing.{Frame, frames_sealed, frames_at, tags_in, contents_passed}
use Rattle.link_tags.proofs.Sealed.{frame_of, first_frame, length-tags_in, get_or-tags_in}

module _ (mac : (key text : List ℕ) → List ℕ) (key : List ℕ) (contents : List (List ℕ)) where
  abbrev frames : List Frame
  frames = frames_sealed mac (new_end key Host) contents

  module _ (tags : List Hash) (made : map (λ (tag : Hash). tag.0) tags ≡ tags_in frames) where
    pub many : length tags ≡ length contents
    many = sym (length-map tags (λ (tag : Hash). tag.0)) ∙ ap length made ∙ length-tags_in mac (new_end key Host) contents

    pub tag_at : (j : ℕ) (d : Hash) → j < length contents → (get_or tags j d).0 ≡ mac key (text_of Host j (get_or contents j []))
    tag_at j d sealed =
        sym (get_or-map (λ (tag : Hash). tag.0) tags j d [] (omega (arith, many)))
        ∙ ap (λ ts. get_or ts j []) made
        ∙ get_or-tags_in mac (new_end key Host) contents j sealed
        ∙ ap (λ n. mac key (text_of Host n (get_or contents j []))) (zero-add j)

  -- what is left to pass, before and after the frame of the number at a place of the order
  module _ (order : List ℕ) (i : ℕ) (here : i < length order) (sealed : get_or order i 0 < length contents) (e : End) (content tag : List ℕ)
      (content_is : content ≡ get_or contents (get_or order i 0) []) (tag_is : tag ≡ mac key (text_of Host (get_or order i 0) content)) where
    abbrev left : ℕ → List Frame
    left n = frames_at (drop n order) frames

    passing : contents_passed mac e (left i)
        ≡ cond (is_right mac e content tag) (content ∷ contents_passed mac (after_check e) (left (i + 1))) (contents_passed mac e (left (i + 1)))
    passing =
        at_drop_more (λ js. contents_passed mac e (frames_at js frames)) order i 0 here
        ∙ ap (contents_passed mac e) (first_frame mac key Host contents (get_or order i 0) (drop (i + 1) order) sealed)
        ∙ ap (λ c. contents_passed mac e (frame_of mac key Host (get_or order i 0) c ∷ left (i + 1))) (sym content_is)
        ∙ ap (λ t. contents_passed mac e (record { content = content; tag = t } ∷ left (i + 1))) (sym tag_is)

    pub record Counts (n : End) (passed after : ℕ) : Type 0 where
      pub all : after + length (contents_passed mac n (left (i + 1))) ≡ passed + length (contents_passed mac e (left i))
      pub one : after ≤ passed + 1
      pub heard : n.heard ≤ e.heard + 1

    pub counts : {A B : Type 0} (r : Result A B) (n : End) (passed after : ℕ) → is_ok r ≡ is_right mac e content tag
        → OnOk r (n ≡ after_check e) → OnErr r (n ≡ e) → after ≡ cond (is_ok r) (passed + 1) passed → Counts n passed after
    counts (Ok x) n passed after right taken stays adds =
        let now : contents_passed mac e (left i) ≡ content ∷ contents_passed mac (after_check e) (left (i + 1)) =
        passing ∙ ap (λ b. cond b (content ∷ contents_passed mac (after_check e) (left (i + 1))) (contents_passed mac e (left (i + 1)))) (sym right) in
        let rest : length (contents_passed mac n (left (i + 1))) ≡ length (contents_passed mac (after_check e) (left (i + 1))) =
        ap (λ m. length (contents_passed mac m (left (i + 1)))) taken in
        let counter : n.heard ≡ e.heard + 1 = ap (λ (m : End). m.heard) taken in
        record { all = omega (arith, ap length now, rest); one = omega arith; heard = omega (arith, counter) }
    counts (Err x) n passed after right taken stays adds =
        let now : contents_passed mac e (left i) ≡ contents_passed mac e (left (i + 1)) =
        passing ∙ ap (λ b. cond b (content ∷ contents_passed mac (after_check e) (left (i + 1))) (contents_passed mac e (left (i + 1)))) (sym right) in
        let rest : length (contents_passed mac n (left (i + 1))) ≡ length (contents_passed mac e (left (i + 1))) =
        ap (λ m. length (contents_passed mac m (left (i + 1)))) stays in
        let counter : n.heard ≡ e.heard = ap (λ (m : End). m.heard) stays in
        record { all = omega (arith, ap length now, rest); one = omega arith; heard = omega (arith, counter) }
