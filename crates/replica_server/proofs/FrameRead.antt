-- A frame whose length was read, and not the whole rest.
use Rattle.std.proofs.Common.{◌≡◌, ℕ, inl, inr, ◌+◌, ◌<◌, false, Option, List, [], ◌++◌, length, Err, ◌≤◌, refl, ap, ◌∙◌, subst, sym, arith, length-append}
use Rattle.std.proofs.lemmas.Bool.{le-ltb}
use Rattle.values.specs.declared.limits.TheConstants.{MAX_CONTENT}
use Rattle.std.specs.Prelude.{◌⊎◌, ◌||◌, nat_lt}
use Rattle.std.specs.Int.{w32, from_be_bytes}
use Rattle.std.specs.Io.KnownBytes.{Consumes}
use Rattle.std.proofs.KnownBytes.{Consumes-trans}
use Rattle.replica_server.specs.declared.frame.Unread.{Unread}
use Rattle.replica_server.specs.declared.frame.Unread.TheVariants.{Memory, ReadFault, Cut, Length}
use Rattle.replica_server.specs.Reading.{is_no_length, IsBegun, IsPart, ReadsFrame, ReadsRest}

pub in_range : (n : ℕ) → 1 ≤ n → n ≤ MAX_CONTENT → is_no_length n ≡ false
in_range n least most = ap (λ b. b || nat_lt MAX_CONTENT n) (le-ltb n 1 least) ∙ le-ltb MAX_CONTENT n most

module _ (tag : ℕ) (head : List ℕ) (four : length head ≡ 4) (range : is_no_length (from_be_bytes w32 head) ≡ false) where
  begun : (read : List ℕ) → length read < from_be_bytes w32 head + tag → IsPart tag (head ++ read)
  begun read few = inr (record { head = head; rest = read; parts = refl; four = four; range = range; few = few })

  pub rest_failed : (a b c : Option (List ℕ)) (rest frame : List ℕ) (why : Unread) → Consumes a b head → ReadsRest (from_be_bytes w32 head + tag) b c rest (Err why) → ReadsFrame tag a c frame (Err why)
  rest_failed a b c rest frame Memory p q = (head ++ [], Consumes-trans a b c head [] p q)
  rest_failed a b c rest frame ReadFault p (read, few, q) = (head ++ read, begun read few, Consumes-trans a b c head read p q)
  rest_failed a b c rest frame Cut p (read, few, q, end) =
      (head ++ read, begun read few, omega (arith, length-append head read, four), Consumes-trans a b c head read p q, end)
  rest_failed a b c rest frame (Length n) p q = absurd q
