-- What passes at an end of what the other end sealed.
use Rattle.std.specs.Prelude.{◌≡◌, ℕ, ◌+◌, ◌<◌, ◌≤◌, ◌==◌, List, [], ◌∷◌, ◌++◌, length, take, All, Contains, slice_get, if◌then◌else◌}
use Rattle.std.specs.List.{filter_map}
use Rattle.values.specs.declared.limits.TheConstants.{TOP}
use Rattle.link_tags.specs.Hmac.{hmac_of}
use Rattle.link_tags.specs.Ends.{End, new_end, other, text_sealed, text_due, next_tag, is_right, after_seal, after_check}
use Rattle.link_tags.specs.declared.ends.Side.{Side}
use Rattle.link_tags.specs.declared.ends.Side.TheVariants.{Host}

-- a frame: a content and its tag
pub record Frame : Type 0 where
  pub content : List ℕ
  pub tag : List ℕ

-- the texts that an end makes tags of when it seals
abbrev pub texts_sealed : End → (contents : List (List ℕ)) → List (List ℕ)
texts_sealed e [] = []
texts_sealed e (c ∷ cs) = text_sealed e c ∷ texts_sealed (after_seal e) cs

module _ (mac : (key text : List ℕ) → List ℕ) where
  -- the frames that an end seals of contents, one after the other
  abbrev pub frames_sealed : End → (contents : List (List ℕ)) → List Frame
  frames_sealed e [] = []
  frames_sealed e (c ∷ cs) = record { content = c; tag = next_tag mac e c } ∷ frames_sealed (after_seal e) cs

  -- the end after a frame is offered to it
  abbrev pub after_offer : End → Frame → End
  after_offer e f = if is_right mac e f.content f.tag then after_check e else e

  -- the contents that pass of frames that are offered one after the other
  abbrev pub contents_passed : End → List Frame → List (List ℕ)
  contents_passed e [] = []
  contents_passed e (f ∷ fs) =
      if is_right mac e f.content f.tag then f.content ∷ contents_passed (after_check e) fs else contents_passed e fs

  -- the texts that it makes tags of to check them
  abbrev pub texts_checked : End → List Frame → List (List ℕ)
  texts_checked e [] = []
  texts_checked e (f ∷ fs) = text_due e f.content ∷ texts_checked (after_offer e f) fs

  -- no two different texts have one tag
  abbrev pub TagsDiffer : (key : List ℕ) → (texts : List (List ℕ)) → Type 0
  TagsDiffer key texts = (a b : List ℕ) → Contains texts a → Contains texts b → mac key a ≡ mac key b → a ≡ b

-- the frames of these numbers, from 0
abbrev pub frames_at : (numbers : List ℕ) → List Frame → List Frame
frames_at numbers frames = filter_map (slice_get frames) numbers

-- how many of the numbers come in turn: it starts at n and rises by one at each number that equals it
abbrev pub turns_from : (n : ℕ) → (numbers : List ℕ) → ℕ
turns_from n [] = n
turns_from n (number ∷ numbers) = turns_from (if number == n then n + 1 else n) numbers

abbrev pub tags_in : List Frame → List (List ℕ)
tags_in [] = []
tags_in (f ∷ fs) = f.tag ∷ tags_in fs

-- a new end of a side seals contents, and the frames of some numbers are offered to the new end of the other side
pub record Link : Type 0 where
  pub key : List ℕ
  pub side : Side
  pub contents : List (List ℕ)
  pub numbers : List ℕ

module _ (mac : (key text : List ℕ) → List ℕ) (l : Link) where
  abbrev pub sealing : End
  sealing = new_end l.key l.side

  abbrev pub checking : End
  checking = new_end l.key (other l.side)

  abbrev pub offered : List Frame
  offered = frames_at l.numbers (frames_sealed mac sealing l.contents)

  abbrev pub passed : List (List ℕ)
  passed = contents_passed mac checking offered

  -- each frame that is offered was sealed, and no two different texts that are tagged or checked have one tag
  pub record IsLink : Type 0 where
    pub few : length l.contents ≤ TOP
    pub sealed : All (λ number. number < length l.contents) l.numbers
    pub tags_differ : TagsDiffer mac l.key (texts_sealed sealing l.contents ++ texts_checked mac checking offered)

  -- what passes is the front of what was sealed, as long as the numbers that came in turn are many
  pub record PassesOnce : Type 0 where
    pub within : turns_from 0 l.numbers ≤ length l.contents
    pub front : passed ≡ take (turns_from 0 l.numbers) l.contents

abbrev pub SealedContentsPassOnce : Type 0
SealedContentsPassOnce = (l : Link) → IsLink hmac_of l → PassesOnce hmac_of l

-- how many pass at an enclave of the frames of these numbers that its host sealed
abbrev pub passed_of : ((key text : List ℕ) → List ℕ) → (key : List ℕ) → (contents : List (List ℕ)) → (numbers : List ℕ) → ℕ
passed_of mac key contents numbers = length (passed mac (record { key = key; side = Host; contents = contents; numbers = numbers }))
