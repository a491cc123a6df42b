-- The meaning of a text in a list, found one by one.
use Rattle.std.proofs.Common.{refl, ◌≡◌, ◌<◌, ◌+◌, ℕ, add-one, true, false, List, length, map, drop, drop-cons, get_or}
use Rattle.std.specs.Prelude.{bytes_eq, Some}
use Rattle.std.specs.Borrow.{Bor}
use Rattle.schedule_model.specs.Records.{meaning}
use Rattle.schedule_text.specs.Words.{entry, meant}
use Rattle.schedule_text.specs.declared.word.Word.{Word}

-- not the one at i
pub next_meaning : (text : List ℕ) (words : List (Bor (List ℕ) × Word)) (i : ℕ) (d : Bor (List ℕ) × Word) → i < length words
    → bytes_eq text (get_or words i d).0.now ≡ false → meaning text (map entry (drop i words)) ≡ meaning text (map entry (drop (i + 1) words))
next_meaning text words i d within other = rw (add-one, drop-cons words i d, other) refl

pub this_meaning : (text : List ℕ) (words : List (Bor (List ℕ) × Word)) (i : ℕ) (d : Bor (List ℕ) × Word) → i < length words
    → bytes_eq text (get_or words i d).0.now ≡ true → Some (meant (get_or words i d).1) ≡ meaning text (map entry (drop i words))
this_meaning text words i d within same = rw (drop-cons words i d, same) refl
