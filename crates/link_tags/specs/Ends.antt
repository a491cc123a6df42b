-- The ends of a link, under any hash of a text with a key.
use Rattle.std.specs.Prelude.{ℕ, ◌+◌, Bool, List, ◌∷◌, ◌++◌, length}
use Rattle.std.specs.Int.{w32, w64, to_be_bytes}
use Rattle.std.specs.Str.{bytes_eq}
use Rattle.link_tags.specs.declared.ends.Side.{Side}
use Rattle.link_tags.specs.declared.ends.Side.TheVariants.{Host, Enclave}

abbrev pub other : Side → Side
other Host = Enclave
other Enclave = Host

abbrev pub byte_of : Side → ℕ
byte_of Host = 1
byte_of Enclave = 2

-- an end has sealed so many frames, and so many of the other end's have passed there
pub record End : Type 0 where
  pub key : List ℕ
  pub side : Side
  pub own : ℕ
  pub heard : ℕ

abbrev pub new_end : List ℕ → Side → End
new_end key side = record { key = key; side = side; own = 0; heard = 0 }

-- what the tag of a frame is made of: the side that sealed it, its number and its content
abbrev pub text_of : Side → (number : ℕ) → (content : List ℕ) → List ℕ
text_of side number content = byte_of side ∷ (to_be_bytes w64 number ++ content)

-- the text of the next frame that the end seals, and of the next one that is due there
abbrev pub text_sealed : End → (content : List ℕ) → List ℕ
text_sealed e content = text_of e.side e.own content

abbrev pub text_due : End → (content : List ℕ) → List ℕ
text_due e content = text_of (other e.side) e.heard content

abbrev pub after_seal : End → End
after_seal e = record { key = e.key; side = e.side; own = e.own + 1; heard = e.heard }

abbrev pub after_check : End → End
after_check e = record { key = e.key; side = e.side; own = e.own; heard = e.heard + 1 }

module _ (mac : (key text : List ℕ) → List ℕ) where
  abbrev pub next_tag : End → (content : List ℕ) → List ℕ
  next_tag e content = mac e.key (text_sealed e content)

  -- the content's length, the content and the tag
  abbrev pub sealed_frame : End → (content : List ℕ) → List ℕ
  sealed_frame e content = to_be_bytes w32 (length content) ++ (content ++ next_tag e content)

  -- whether the tag is that of the frame that is due
  abbrev pub is_right : End → (content tag : List ℕ) → Bool
  is_right e content tag = bytes_eq tag (mac e.key (text_due e content))
