-- What more places leave as it was.
use Rattle.std.proofs.Common.{◌≡◌, ℕ, zero, suc, ◌+◌, ◌<◌, ◌≤◌, [], ◌∷◌, ◌++◌, length, take, refl, ap, ◌∙◌, arith, add-one}
use Rattle.std.specs.Prelude.{Some, option_map}
use Rattle.std.proofs.lemmas.List.{take-append-le}
use Rattle.record_rules.specs.Rules.{apply}
use Rattle.record_rules.specs.Places.{ClientAsk, Places, fold_places, ask_at, reply_at}

ask_kept : (places more : Places) (k : ℕ) → k < length places → ask_at (places ++ more) (suc k) ≡ ask_at places (suc k)
ask_kept [] more k h = absurd (omega arith)
ask_kept (place ∷ places) more zero h = refl
ask_kept (place ∷ places) more (suc k) h = ask_kept places more k (omega arith)

pub replies_stay : (limit : ℕ) (places more : Places) (i : ℕ) → i ≤ length places → reply_at limit (places ++ more) i ≡ reply_at limit places i
replies_stay limit places more zero h = refl
replies_stay limit places more (suc k) h =
    λ i. option_map (λ ask. (apply (fold_places limit (front i)) ask.client ask.number ask.request).1) (ask_kept places more k h i)
  where
    front : take k (places ++ more) ≡ take k places
    front = take-append-le k places more (omega arith)

ask_last : (places : Places) (ask : ClientAsk) → ask_at (places ++ Some ask ∷ []) (suc (length places)) ≡ Some ask
ask_last [] ask = refl
ask_last (place ∷ places) ask = ask_last places ask

front_all : (places : Places) (ask : ClientAsk) → take (length places) (places ++ Some ask ∷ []) ≡ places
front_all [] ask = refl
front_all (place ∷ places) ask = ap (λ ps. place ∷ ps) (front_all places ask)

pub last_reply : (limit : ℕ) (places : Places) (ask : ClientAsk)
    → reply_at limit (places ++ Some ask ∷ []) (length places + 1) ≡ Some (apply (fold_places limit places) ask.client ask.number ask.request).1
last_reply limit places ask =
    ap (reply_at limit (places ++ Some ask ∷ [])) (add-one (length places))
    ∙ (λ i. option_map (λ a. (apply (fold_places limit (front_all places ask i)) a.client a.number a.request).1) (ask_last places ask i))
