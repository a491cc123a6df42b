-- What stands at a place of what an end seals, and that a text tells its number.
use Rattle.std.proofs.Common.{◌≡◌, ℕ, zero, suc, ◌+◌, ◌<◌, ◌^◌, List, [], ◌∷◌, length, get_or, take, drop, refl, sym, ap, ◌∙◌, add-zero, zero-add, arith}
use Rattle.std.specs.Prelude.{Some, slice_get}
use Rattle.std.specs.List.{cons_option}
use Rattle.std.specs.Int.{w64, to_be_bytes, from_be_bytes}
use Rattle.std.proofs.lemmas.List.{take_at}
use Rattle.std.proofs.lemmas.Nat.{from_be_bytes-to_be_bytes_8}
use Rattle.link_tags.specs.declared.ends.Side.{Side}
use Rattle.link_tags.specs.declared.ends.Side.TheVariants.{Host, Enclave}
use Rattle.link_tags.specs.Ends.{End, new_end, other, text_of, after_seal}
use Rattle.link_tags.specs.Passing.{Frame, frames_sealed, frames_at, tags_in, texts_sealed}

pub other_twice : (side : Side) → other (other side) ≡ side
other_twice Host = refl
other_twice Enclave = refl

pub same_number : (side : Side) (m n : ℕ) (c d : List ℕ) → m < 2 ^ 64 → n < 2 ^ 64 → text_of side m c ≡ text_of side n d → m ≡ n
same_number side m n c d m_fits n_fits e =
    let bytes : to_be_bytes w64 m ≡ to_be_bytes w64 n =
    sym (take_at (to_be_bytes w64 m) c 8 refl) ∙ ap (λ text. take 8 (drop 1 text)) e ∙ take_at (to_be_bytes w64 n) d 8 refl in
    sym (from_be_bytes-to_be_bytes_8 m m_fits) ∙ ap (from_be_bytes w64) bytes ∙ from_be_bytes-to_be_bytes_8 n n_fits

pub length-texts_sealed : (e : End) (contents : List (List ℕ)) → length (texts_sealed e contents) ≡ length contents
length-texts_sealed e [] = refl
length-texts_sealed e (c ∷ cs) = ap suc (length-texts_sealed (after_seal e) cs)

pub get_or-texts_sealed : (e : End) (contents : List (List ℕ)) (i : ℕ) (d : List ℕ) → i < length contents → get_or (texts_sealed e contents) i d ≡ text_of e.side (e.own + i) (get_or contents i [])
get_or-texts_sealed e [] i d within = absurd (omega arith)
get_or-texts_sealed e (c ∷ cs) zero d within = ap (λ n. text_of e.side n c) (sym (add-zero e.own))
get_or-texts_sealed e (c ∷ cs) (suc i) d within =
    let next : e.own + 1 + i ≡ e.own + suc i = omega arith in
    get_or-texts_sealed (after_seal e) cs i d (omega arith) ∙ ap (λ n. text_of e.side n (get_or cs i [])) next

module _ (mac : (key text : List ℕ) → List ℕ) where
  abbrev pub frame_of : List ℕ → Side → (number : ℕ) → (content : List ℕ) → Frame
  frame_of key side number content = record { content = content; tag = mac key (text_of side number content) }

  pub slice_get-frames_sealed : (e : End) (contents : List (List ℕ)) (i : ℕ) → i < length contents
      → slice_get (frames_sealed mac e contents) i ≡ Some (frame_of e.key e.side (e.own + i) (get_or contents i []))
  slice_get-frames_sealed e [] i within = absurd (omega arith)
  slice_get-frames_sealed e (c ∷ cs) zero within = ap (λ n. Some (frame_of e.key e.side n c)) (sym (add-zero e.own))
  slice_get-frames_sealed e (c ∷ cs) (suc i) within =
      let next : e.own + 1 + i ≡ e.own + suc i = omega arith in
      slice_get-frames_sealed (after_seal e) cs i (omega arith) ∙ ap (λ n. Some (frame_of e.key e.side n (get_or cs i []))) next

  -- the first of some frames that are sealed by a new end, and those behind it
  pub first_frame : (key : List ℕ) (side : Side) (contents : List (List ℕ)) (j : ℕ) (js : List ℕ) → j < length contents
      → let frames = frames_sealed mac (new_end key side) contents in
      frames_at (j ∷ js) frames ≡ frame_of key side j (get_or contents j []) ∷ frames_at js frames
  first_frame key side contents j js sealed =
      let frames = frames_sealed mac (new_end key side) contents in
      let found : slice_get frames j ≡ Some (frame_of key side j (get_or contents j [])) =
      slice_get-frames_sealed (new_end key side) contents j sealed ∙ ap (λ n. Some (frame_of key side n (get_or contents j []))) (zero-add j) in
      ap (λ o. cons_option o (frames_at js frames)) found

  pub length-tags_in : (e : End) (contents : List (List ℕ)) → length (tags_in (frames_sealed mac e contents)) ≡ length contents
  length-tags_in e [] = refl
  length-tags_in e (c ∷ cs) = ap suc (length-tags_in (after_seal e) cs)

  pub get_or-tags_in : (e : End) (contents : List (List ℕ)) (i : ℕ) → i < length contents
      → get_or (tags_in (frames_sealed mac e contents)) i [] ≡ mac e.key (text_of e.side (e.own + i) (get_or contents i []))
  get_or-tags_in e [] i within = absurd (omega arith)
  get_or-tags_in e (c ∷ cs) zero within = ap (λ n. mac e.key (text_of e.side n c)) (sym (add-zero e.own))
  get_or-tags_in e (c ∷ cs) (suc i) within =
      let next : e.own + 1 + i ≡ e.own + suc i = omega arith in
      get_or-tags_in (after_seal e) cs i (omega arith) ∙ ap (λ n. mac e.key (text_of e.side n (get_or cs i []))) next
