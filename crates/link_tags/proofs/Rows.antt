-- Rows that compute, so that the definitions are seen to say what is meant.
use Rattle.std.proofs.Common.{◌≡◌, ℕ, false, List, [], ◌∷◌, ◌++◌, refl}
use Rattle.std.specs.Prelude.{codes}
use Rattle.sha2.specs.Sha256.{first_words, schedule, rounds, compress, hash_after, digest_bytes, sha256}
use Rattle.link_tags.specs.declared.ends.Side.TheVariants.{Host, Enclave}
use Rattle.link_tags.specs.Hmac.{hmac_of}
use Rattle.link_tags.specs.Ends.{new_end, next_tag, is_right, after_check}
use Rattle.link_tags.specs.Passing.{passed_of, turns_from}

-- case 2 of RFC 4231
known_answer : hmac_of (codes "Jefe") (codes "what do ya want for nothing?") ≡
    0x5b ∷ 0xdc ∷ 0xc1 ∷ 0x46 ∷ 0xbf ∷ 0x60 ∷ 0x75 ∷ 0x4e ∷ 0x6a ∷ 0x04 ∷ 0x24 ∷ 0x26 ∷ 0x08 ∷ 0x95 ∷ 0x75 ∷ 0xc7 ∷ 0x5a ∷ 0x00 ∷ 0x3f ∷ 0x08 ∷ 0x9d ∷ 0x27 ∷ 0x39 ∷ 0x83 ∷ 0x9d ∷ 0xec ∷ 0x58 ∷ 0xb9 ∷ 0x64 ∷ 0xec ∷ 0x38 ∷ 0x43 ∷ []
unfolding first_words schedule rounds compress hash_after digest_bytes sha256
known_answer = refl

-- a hash that has no collision, and one that is nothing else
abbrev plain : (key text : List ℕ) → List ℕ
plain key text = key ++ text

abbrev constant : (key text : List ℕ) → List ℕ
constant key text = 0 ∷ []

abbrev five : List (List ℕ)
five = codes "a" ∷ codes "a" ∷ [] ∷ codes "d" ∷ codes "e" ∷ []

abbrev order : List ℕ
order = 0 ∷ 0 ∷ 2 ∷ 1 ∷ 4 ∷ 2 ∷ []

in_turn : turns_from 0 order ≡ 3
in_turn = refl

relayed : passed_of plain (7 ∷ []) five order ≡ 3
relayed = refl

-- where tags collide, frames out of turn pass
collisions_pass : passed_of constant (7 ∷ []) five order ≡ 6
collisions_pass = refl

abbrev first_tag : List ℕ
first_tag = next_tag plain (new_end (7 ∷ []) Host) (codes "one")

-- a frame that has passed is not the next one
second_time : is_right plain (after_check (new_end (7 ∷ []) Enclave)) (codes "one") first_tag ≡ false
second_time = refl

second_number : (after_check (new_end (7 ∷ []) Enclave)).heard ≡ 1
second_number = refl

-- an end takes no frame of its own side
turned_back : is_right plain (new_end (7 ∷ []) Host) (codes "one") first_tag ≡ false
turned_back = refl
