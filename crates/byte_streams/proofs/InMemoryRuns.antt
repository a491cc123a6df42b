-- The definitions of the source and the sink in memory, run on literals.
use Rattle.std.proofs.Common.{refl, ◌≡◌, [], ◌∷◌, Ok, Err}
use Rattle.byte_streams.specs.InMemory.{fresh_source, read_answer, after_read, fresh_sink, write_answer, after_write}

-- three bytes, two a read, the second call fails
reads_two : read_answer (fresh_source (7 ∷ 8 ∷ 9 ∷ []) 2 (2 ∷ [])) 5 ≡ Ok 2
reads_two = refl

second_fails : read_answer (after_read (fresh_source (7 ∷ 8 ∷ 9 ∷ []) 2 (2 ∷ [])) 5) 5 ≡ Err (record {})
second_fails = refl

keeps_one : (after_read (after_read (fresh_source (7 ∷ 8 ∷ 9 ∷ []) 2 (2 ∷ [])) 5) 5).left ≡ 9 ∷ []
keeps_one = refl

third_reads_one : read_answer (after_read (after_read (fresh_source (7 ∷ 8 ∷ 9 ∷ []) 2 (2 ∷ [])) 5) 5) 5 ≡ Ok 1
third_reads_one = refl

-- room for two bytes
takes_two : write_answer (fresh_sink 2 []) 3 ≡ Ok 2
takes_two = refl

holds_two : (after_write (fresh_sink 2 []) (7 ∷ 8 ∷ 9 ∷ [])).taken ≡ 7 ∷ 8 ∷ []
holds_two = refl

then_is_full : write_answer (after_write (fresh_sink 2 []) (7 ∷ 8 ∷ 9 ∷ [])) 1 ≡ Err (record {})
then_is_full = refl

nothing_fits : write_answer (after_write (fresh_sink 2 []) (7 ∷ 8 ∷ 9 ∷ [])) 0 ≡ Ok 0
nothing_fits = refl
