-- The newest answer to a number of a client, in the world and in the groups that it stands for.
use Rattle.std.proofs.lemmas.List.{drop_all, length-drop, take_all}
use Rattle.std.proofs.Common.{arith, ◌-◌, ◌≤◌, take, refl, sym, ap, ◌∙◌, ◌≡◌, ℕ, zero, suc, ◌+◌, Bool, true, false, if◌then◌else◌, List, [], ◌∷◌, drop, fold, length, Option, Some, None, option_map}
use Rattle.std.specs.Prelude.{◌==◌, ◌&&◌}
use Rattle.std.specs.List.{enumerate_from}
use Rattle.values.specs.declared.ids.ClientId.{ClientId}
use Rattle.values.specs.declared.message.Answer.{Answer}
use Rattle.group_model.specs.Group.{Answered, is_client}
use Rattle.trace_model.specs.Driven.{answers_to, last_answer}
use Rattle.group_world.specs.declared.answered.Answered.{Answered as Kept}
use Rattle.group_world.specs.Newest.{found_after, newest_after, without_giver}
use Rattle.group_world.specs.Standing.{AreKept, IsKept}
use Rattle.group_world.proofs.ClosingLines.{as_many_answers}

module _ (c : ClientId) (number : ℕ) where
  abbrev pub finds : Option (ℕ × Answered) → ℕ × Answered → Option (ℕ × Answered)
  finds found x = if answers_to c number x.1 then Some x else found

  one_more : (k : ℕ) (kept : Kept) (given : Answered) → IsKept kept given → (found : Option (ℕ × Answered))
      → found_after c number (option_map without_giver found) (k, kept) ≡ option_map without_giver (finds found (k, given))
  one_more k kept given is found =
      ap (λ (x : ClientId × (ℕ × Answer)). if is_client x.0 c && (x.1.0 == number) then Some (k, x.1.1) else option_map without_giver found)
      (ap (λ (d : ClientId). (d, (kept.number, kept.answer))) is.client ∙ ap (λ (n : ℕ). (given.client, (n, kept.answer))) is.number ∙ ap (λ (a : Answer). (given.client, (given.number, a))) is.answer)
      ∙ by (is_client given.client c && (given.number == number))
    where
      by : (b : Bool) → (if b then Some (k, given.answer) else option_map without_giver found) ≡ option_map without_giver (if b then Some (k, given) else found)
      by true = refl
      by false = refl

  pub newest_so : (k : ℕ) (kept : List Kept) (given : List Answered) → AreKept kept given → (found : Option (ℕ × Answered))
      → fold (found_after c number) (option_map without_giver found) (enumerate_from k kept) ≡ option_map without_giver (fold finds found (enumerate_from k given))
  newest_so k [] [] are found = refl
  newest_so k [] (g ∷ gs) are found = absurd are
  newest_so k (a ∷ bs) [] are found = absurd are
  newest_so k (a ∷ bs) (g ∷ gs) (is, are) found =
      ap (λ (f : Option (ℕ × Answer)). fold (found_after c number) f (enumerate_from (k + 1) bs)) (one_more k a g is found) ∙ newest_so (k + 1) bs gs are (finds found (k, g))

pub kept_after : (n : ℕ) (kept : List Kept) (given : List Answered) → AreKept kept given → AreKept (drop n kept) (drop n given)
kept_after zero kept given are = are
kept_after (suc n) [] [] are = tt
kept_after (suc n) [] (g ∷ gs) are = absurd are
kept_after (suc n) (a ∷ bs) [] are = absurd are
kept_after (suc n) (a ∷ bs) (g ∷ gs) (is, are) = kept_after n bs gs are

-- all that comes after the first n
pub all_after : (n : ℕ) (xs ys : List Kept) → xs ≡ ys → take (length xs - n) (drop n xs) ≡ drop n ys
all_after n xs ys is = take_all (length xs - n) (drop n xs) (omega (arith, length-drop n xs)) ∙ ap (λ (zs : List Kept). drop n zs) is

-- nothing comes after all
pub none_after : (c : ClientId) (number n : ℕ) (kept : List Kept) (given : List Answered) → AreKept kept given → length kept ≤ n → None ≡ newest_after c number n given
none_after c number n kept given are past =
    ap (λ (gs : List Answered). option_map without_giver (last_answer c number (enumerate_from (n + 1) gs))) (sym (drop_all n given (omega (arith, past, as_many_answers kept given are))))
