-- Texts as lists of lines that can be read, both ways.
use Rattle.std.specs.Prelude.{ℕ, zero, suc, ◌-◌, ◌==◌, if◌then◌else◌, List, [], ◌∷◌, ◌++◌, codes}
use Prim.Native.Char.{Char, nul}
use Prim.Native.String.{String}
use Prim.Native.String.{[] as no_text, ◌∷◌ as ◌then◌}

-- the bytes of lines, each ended by a line feed
abbrev pub bytes_of : List String → List ℕ
bytes_of [] = []
bytes_of (s ∷ ss) = codes s ++ (10 ∷ bytes_of ss)

-- the characters that a trace has, from 33 on
abbrev pub printable : String
printable = "!\"#$%&'()*+,-./0123456789:;<=>?@ABCDEFGHIJKLMNOPQRSTUVWXYZ[\\]^_`abcdefghijklmnopqrstuvwxyz"

abbrev pub character_in : String → ℕ → Char
character_in no_text n = nul
character_in (c then s) zero = c
character_in (c then s) (suc n) = character_in s n

-- bytes as a text, line feeds left out
abbrev pub text_of : List ℕ → String
text_of [] = no_text
text_of (b ∷ bs) = elim (b - 32) [ zero ↦ text_of bs | suc k ↦ character_in printable k then text_of bs ]

-- a character at the front of the first line
abbrev pub in_front : Char → List String → List String
in_front c [] = (c then no_text) ∷ []
in_front c (s ∷ ss) = (c then s) ∷ ss

-- a byte at the front of lines: a line feed begins one, and no other control character or space is shown
abbrev pub with_byte : ℕ → List String → List String
with_byte b lines = if b == 10 then no_text ∷ lines else elim (b - 32) [ zero ↦ lines | suc k ↦ in_front (character_in printable k) lines ]

-- bytes as lines that can be read, from their end on, so that each byte is looked at once
abbrev pub shown : List ℕ → List String
shown [] = []
shown (b ∷ bs) = with_byte b (shown bs)
