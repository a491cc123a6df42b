-- The words of records.
use Rattle.std.specs.Prelude.{ℕ, ◌≡◌, List, Result, Ok, Err, ⊤}
use Rattle.std.specs.Borrow.{Bor}
use Rattle.schedule_model.specs.Reading.{RecordFault}
use Rattle.schedule_model.specs.Records as records
use Rattle.schedule_text.specs.declared.word.Word.{Word}
use Rattle.schedule_text.specs.declared.word.Word.TheVariants as word

-- the word that a value stands for
abbrev pub meant : Word → records.Word
meant word.Begin = records.Begin
meant word.Start = records.Start
meant word.Tick = records.Tick
meant word.Deliver = records.Deliver
meant word.Lose = records.Lose
meant word.Settle = records.Settle
meant word.Crash = records.Crash
meant word.Save = records.Save
meant word.Roll = records.Roll
meant word.Join = records.Join
meant word.Admit = records.Admit
meant word.Remove = records.Remove
meant word.Margin = records.Margin
meant word.Ask = records.Ask
meant word.Store = records.Store
meant word.Recover = records.Recover
meant word.Erase = records.Erase
meant word.Say = records.Say
meant word.Hear = records.Hear
meant word.Again = records.Again

-- a text with its meaning
abbrev pub entry : Bor (List ℕ) × Word → List ℕ × records.Word
entry (text, word) = (text.now, meant word)

-- the word that is read is the one that the record has, or the fault is
abbrev pub Tells : Result Word RecordFault → Result records.Word RecordFault → Type 0
Tells (Ok word) said = said ≡ Ok (meant word)
Tells (Err fault) said = said ≡ Err fault

-- a record of a replica, and one of a client, that owns no bytes
abbrev pub OfReplica : Word → Type 0
OfReplica word.Start = ⊤
OfReplica word.Tick = ⊤
OfReplica word.Crash = ⊤
OfReplica word.Save = ⊤
OfReplica word.Roll = ⊤
OfReplica word.Join = ⊤
OfReplica word.Admit = ⊤
OfReplica word.Remove = ⊤
OfReplica word.Margin = ⊤
OfReplica other = ⊥

abbrev pub OfClient : Word → Type 0
OfClient word.Recover = ⊤
OfClient word.Erase = ⊤
OfClient word.Say = ⊤
OfClient word.Hear = ⊤
OfClient word.Again = ⊤
OfClient other = ⊥
