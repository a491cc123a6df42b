-- Ids that rise are in order already.
use Rattle.std.proofs.Common.{◌≡◌, ℕ, ◌<◌, List, [], ◌∷◌, ◌++◌, refl, sym, ap, ◌∙◌, append_assoc}
use Rattle.std.specs.Prelude.{fold}
use Rattle.std.specs.List.{AllByRecursion}
use Rattle.std.specs.Ordering.{nat_cmp}
use Rattle.std.specs.declared.cmp.Ordering.TheVariants.{Greater}
use Rattle.std.specs.Cmp.{nat_cmp_is}
use Rattle.std.proofs.lemmas.List.{append-nil}
use Rattle.std.specs.BTreeSet.{insert_key}
use Rattle.std.proofs.lemmas.Bool.{lt-ltb}
use Rattle.values.specs.Rising.{Rising}
use Rattle.group_quorum.specs.Voters.{insert_rising, rising}
use Rattle.host_inputs.specs.Checking.{each_once}

insert_first : (v : ℕ) (ids : List ℕ) → AllByRecursion (λ w. v < w) ids → insert_rising v ids ≡ v ∷ ids
insert_first v [] h = refl
insert_first v (w ∷ ids) h = rw (lt-ltb v w h.0) refl

pub rising-rising : (ids : List ℕ) → Rising ids → rising ids ≡ ids
rising-rising [] h = refl
rising-rising (v ∷ ids) h = ap (insert_rising v) (rising-rising ids h.1) ∙ insert_first v ids h.0

-- an id above those of a list goes to its end
insert_last : (ids : List ℕ) (v : ℕ) → AllByRecursion (λ w. w < v) ids → insert_key nat_cmp ids v ≡ ids ++ v ∷ []
insert_last [] v h = refl
insert_last (w ∷ ids) v h =
    let e : nat_cmp v w ≡ Greater = sym (nat_cmp_is v w Greater h.0) in
    rw e (ap (λ (t : List ℕ). w ∷ t) (insert_last ids v h.1))

-- each of a list is below each of another
abbrev Below : List ℕ → List ℕ → Type 0
Below front ids = AllByRecursion (λ v. AllByRecursion (λ w. w < v) front) ids

all_push : (front : List ℕ) (w v : ℕ) → AllByRecursion (λ u. u < v) front → w < v → AllByRecursion (λ u. u < v) (front ++ w ∷ [])
all_push [] w v h lt = (lt, tt)
all_push (u ∷ front) w v h lt = (h.0, all_push front w v h.1 lt)

below_push : (front : List ℕ) (w : ℕ) (ids : List ℕ) → Below front ids → AllByRecursion (λ v. w < v) ids → Below (front ++ w ∷ []) ids
below_push front w [] h lt = tt
below_push front w (v ∷ ids) h lt = (all_push front w v h.0 lt.0, below_push front w ids h.1 lt.1)

inserted : (front ids : List ℕ) → Below front ids → Rising ids → fold (insert_key nat_cmp) front ids ≡ front ++ ids
inserted front [] below up = sym (append-nil front)
inserted front (v ∷ ids) below up =
    ap (λ (t : List ℕ). fold (insert_key nat_cmp) t ids) (insert_last front v below.0)
    ∙ inserted (front ++ v ∷ []) ids (below_push front v ids below.1 up.0) up.1
    ∙ append_assoc front (v ∷ []) ids

none_below : (ids : List ℕ) → Below [] ids
none_below [] = tt
none_below (v ∷ ids) = (tt, none_below ids)

pub each_once-rising : (ids : List ℕ) → Rising ids → each_once ids ≡ ids
each_once-rising ids up = inserted [] ids (none_below ids) up
