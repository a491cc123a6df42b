-- The configurations of the entries that a replica takes.
use Rattle.std.proofs.Common.{◌≡◌, ℕ, ◌+◌, ◌-◌, ◌<◌, ◌≤◌, Option, Some, None, List, [], ◌∷◌, ◌++◌, length, drop, filter_map, refl, sym, ap, ◌∙◌, arith, append_assoc, append-nil}
use Rattle.std.specs.List.{cons_option}
use Rattle.std.specs.Option.{option_to_list}
use Rattle.std.proofs.lemmas.List.{take_all}
use Rattle.replica_model.specs.Path.{Path}
use Rattle.replica_model.specs.Graft.{members_of}
use Rattle.replica_model.specs.Raise.{numbered_from}
use Rattle.replica_log.specs.Window.{Window, base_index, last_index}
use Rattle.replica_core.specs.Applying.{kept_between}
use Rattle.replica_core.specs.Replacing.{members_in, members_above}
use Rattle.replica_core.proofs.Entries.{Next, none_between, length-between, numbered-push}

cons-listed : {A : Type 0} (o : Option A) (xs : List A) → cons_option o xs ≡ option_to_list o ++ xs
cons-listed None xs = refl
cons-listed (Some x) xs = refl

pub filter_map-push : {A B : Type 0} (f : A → Option B) (xs : List A) (x : A) → filter_map f (xs ++ x ∷ []) ≡ filter_map f xs ++ option_to_list (f x)
filter_map-push f [] x = cons-listed (f x) [] ∙ append-nil (option_to_list (f x))
filter_map-push f (y ∷ xs) x =
    ap (cons_option (f y)) (filter_map-push f xs x)
    ∙ (cons-listed (f y) (filter_map f xs ++ option_to_list (f x))
    ∙ (sym (append_assoc (option_to_list (f y)) (filter_map f xs) (option_to_list (f x)))
    ∙ ap (λ zs. zs ++ option_to_list (f x)) (sym (cons-listed (f y) (filter_map f xs)))))

-- the configurations of the entries above one index and up to another
abbrev pub members_between : Window → ℕ → ℕ → List (ℕ × ℕ × List ℕ)
members_between w low i = filter_map members_of (numbered_from (low + 1) (kept_between w low i))

module _ (w : Window) (low : ℕ) (base : base_index w ≤ low) where
  pub members-next : (i : ℕ) → low ≤ i → i < last_index w → (next : Next w i) → members_between w low (i + 1) ≡ members_between w low i ++ members_in (i + 1, next.entry)
  members-next i le lt next =
      let xs : Path = kept_between w low i in
      ap (λ p. filter_map members_of (numbered_from (low + 1) p)) (next.follows low base le)
      ∙ (ap (filter_map members_of) (numbered-push (low + 1) xs next.entry)
      ∙ (filter_map-push members_of (numbered_from (low + 1) xs) (low + 1 + length xs, next.entry)
      ∙ ap (λ n. members_between w low i ++ members_in (n, next.entry))
      (let l = length-between w low i base le (omega (arith, lt)) in let k : low + 1 + length xs ≡ i + 1 = omega (arith, l, le) in k)))

pub members-none : (w : Window) (low : ℕ) → members_between w low low ≡ []
members-none w low = ap (λ p. filter_map members_of (numbered_from (low + 1) p)) (none_between w low)

pub members-all : (w : Window) (low i : ℕ) → last_index w ≤ i → members_between w low i ≡ members_above w low
members-all w low i past =
    ap (λ p. filter_map members_of (numbered_from (low + 1) (drop (low - base_index w) p))) (take_all (i - base_index w) w.entries (omega (arith, past)))
