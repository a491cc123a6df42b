-- How the premises of the laws are shown of a world whose history computes.
use Rattle.std.proofs.Common.{◌≡◌, ℕ, ◌+◌, ◌==◌, ◌&&◌, ◌||◌, not, Bool, true, false, List, [], ◌∷◌, ◌++◌, length, refl, subst, ap, inl, inr, arith}
use Rattle.std.specs.Prelude.{flat_map, bytes_eq, Option, Some, None, IfSome}
use Rattle.std.specs.List.{list_all}
use Rattle.std.proofs.lemmas.Bool.{and_parts, eqb-true, leb-true}
use Rattle.std.proofs.lemmas.Slice.Eq.{bytes_eq-Decides}
use Rattle.values.specs.declared.entry.Hash.{Hash}
use Rattle.values.specs.declared.entry.Body.{Body}
use Rattle.values.specs.declared.entry.Body.TheVariants.{Noop, Ask, Members}
use Rattle.values.specs.declared.entry.LogEntry.{LogEntry}
use Rattle.values.specs.declared.ids.ClientId.{ClientId}
use Rattle.replica_model.specs.Path.{Path, Link, chain, chain_from, first_hash, same_hash}
use Rattle.replica_model.specs.Configs.{is_members}
use Rattle.group_model.specs.Group.{Setup, is_client}
use Rattle.trace_model.specs.Audit.{same_entry, same_body}
use Rattle.group_model.specs.Log.{AnyByRecursion, IsFrontOf, Bears, NoCollision, WithinBound, state_of}
use Rattle.group_model.specs.Run.{Recorded, World}
use Rattle.model_rows.proofs.Tests.{clash, bears_first}

-- what is hashed at one place of a path
pub record Input : Type 0 where
  pub prev : Hash
  pub index : ℕ
  pub entry : LogEntry

abbrev pub inputs_from : Link → Hash → ℕ → Path → List Input
inputs_from link h k [] = []
inputs_from link h k (e ∷ p) = record { prev = h; index = k + 1; entry = e } ∷ inputs_from link (link h (k + 1) e) (k + 1) p

-- all that is hashed for the paths of a history
abbrev pub inputs_of : Link → List Recorded → List Input
inputs_of link history = flat_map (λ r. inputs_from link first_hash 0 (state_of r).path) history

abbrev pub Among : {A : Type 0} → A → List A → Type 0
Among x xs = AnyByRecursion (λ y. y ≡ x) xs

some_left : {A : Type 0} (P : A → Type 0) (xs ys : List A) → AnyByRecursion P xs → AnyByRecursion P (xs ++ ys)
some_left P [] ys h = absurd h
some_left P (x ∷ xs) ys (inl h) = inl h
some_left P (x ∷ xs) ys (inr h) = inr (some_left P xs ys h)

some_right : {A : Type 0} (P : A → Type 0) (xs ys : List A) → AnyByRecursion P ys → AnyByRecursion P (xs ++ ys)
some_right P [] ys h = h
some_right P (x ∷ xs) ys h = inr (some_right P xs ys h)

-- the input of an entry is among those of each path that goes on from there
input_in : (link : Link) (h : Hash) (k : ℕ) (p : Path) (a : LogEntry) (rest : Path) (n : ℕ) → n ≡ k + length p + 1 → Among (record { prev = chain_from link h k p; index = n; entry = a }) (inputs_from link h k ((p ++ a ∷ []) ++ rest))
input_in link h k [] a rest n e = inl (ap (λ m. record { prev = h; index = m; entry = a }) (omega arith))
input_in link h k (x ∷ p) a rest n e = inr (input_in link (link h (k + 1) x) (k + 1) p a rest n (omega arith))

abbrev input_of : Link → Path → LogEntry → Input
input_of link p a = record { prev = chain link p; index = length p + 1; entry = a }

held_input : (link : Link) (history : List Recorded) (p : Path) (a : LogEntry) → AnyByRecursion (λ r. IsFrontOf (p ++ a ∷ []) (state_of r).path) history → Among (input_of link p a) (inputs_of link history)
held_input link [] p a h = absurd h
held_input link (r ∷ rs) p a (inl (rest, e)) =
    some_left (λ y. y ≡ input_of link p a) (inputs_from link first_hash 0 (state_of r).path) (inputs_of link rs)
    (subst (λ path. Among (input_of link p a) (inputs_from link first_hash 0 path)) e (input_in link first_hash 0 p a rest (length p + 1) (omega arith)))
held_input link (r ∷ rs) p a (inr h) =
    some_right (λ y. y ≡ input_of link p a) (inputs_from link first_hash 0 (state_of r).path) (inputs_of link rs) (held_input link rs p a h)

-- a test that all pass is passed by each
pub passes_among : {A : Type 0} (test : A → Bool) (x : A) (xs : List A) → Among x xs → list_all test xs ≡ true → test x ≡ true
passes_among test x [] h e = absurd h
passes_among test x (y ∷ ys) (inl h) e = subst (λ z. test z ≡ true) h (and_parts _ _ e).0
passes_among test x (y ∷ ys) (inr h) e = passes_among test x ys h (and_parts _ _ e).1

abbrev pub hashed : Link → Input → Hash
hashed link i = link i.prev i.index i.entry

abbrev pub same_input : Input → Input → Bool
same_input i j = same_hash i.prev j.prev && ((i.index == j.index) && same_entry i.entry j.entry)

-- two inputs have two hashes, or are the same
abbrev pub are_apart : Link → Input → Input → Bool
are_apart link i j = not (same_hash (hashed link i) (hashed link j)) || same_input i j

abbrev pub all_apart : Link → List Input → Bool
all_apart link inputs = list_all (λ i. list_all (are_apart link i) inputs) inputs

lists_same : (a b : List ℕ) → bytes_eq a b ≡ true → a ≡ b
lists_same a b e = (bytes_eq-Decides a b).0 e

clients_same : (c d : ClientId) → is_client c d ≡ true → c ≡ d
clients_same c d e = ap (λ bytes. record { 0 = bytes }) (lists_same c.0 d.0 e)

hashes_same : (h k : Hash) → same_hash h k ≡ true → h ≡ k
hashes_same h k e = ap (λ bytes. record { 0 = bytes }) (lists_same h.0 k.0 e)

asks_same : {c d : ClientId} {n m : ℕ} {r q : List ℕ} → c ≡ d → n ≡ m → r ≡ q → Ask c n r ≡ Ask d m q
asks_same e f g = λ i. Ask (e i) (f i) (g i)

members_same : {m k : ℕ} {v w : List ℕ} → m ≡ k → v ≡ w → Members m v ≡ Members k w
members_same e f = λ i. Members (e i) (f i)

bodies_same : (a b : Body) → same_body a b ≡ true → a ≡ b
bodies_same Noop Noop e = refl
bodies_same (Ask c n r) (Ask d m q) e =
    let first = and_parts (is_client c d) ((n == m) && bytes_eq r q) e in
    let second = and_parts (n == m) (bytes_eq r q) first.1 in
    asks_same (clients_same c d first.0) (eqb-true n m second.0) (lists_same r q second.1)
bodies_same (Members m v) (Members k w) e =
    let parts = and_parts (m == k) (bytes_eq v w) e in
    members_same (eqb-true m k parts.0) (lists_same v w parts.1)
bodies_same Noop (Ask d m q) e = Prim.cc
bodies_same Noop (Members k w) e = Prim.cc
bodies_same (Ask c n r) Noop e = Prim.cc
bodies_same (Ask c n r) (Members k w) e = Prim.cc
bodies_same (Members m v) Noop e = Prim.cc
bodies_same (Members m v) (Ask d k q) e = Prim.cc

pub entries_same : (a b : LogEntry) → same_entry a b ≡ true → a ≡ b
entries_same a b e =
    let parts = and_parts (a.term == b.term) (same_body a.body b.body) e in
    let terms = eqb-true a.term b.term parts.0 in
    let bodies = bodies_same a.body b.body parts.1 in
    λ i. record { term = terms i; body = bodies i }

hash_own : (h : Hash) → same_hash h h ≡ true
hash_own h = (bytes_eq-Decides h.0 h.0).1 refl

second_of : (a b : Bool) → a ≡ true → (not a || b) ≡ true → b ≡ true
second_of true b e f = f
second_of false b e f = Prim.cc

-- where all inputs are apart nothing collides
pub no_collision : (link : Link) (w : World) → all_apart link (inputs_of link w.field.history) ≡ true → NoCollision link w
no_collision link w test p q a b held_p held_q same =
    let inputs = inputs_of link w.field.history in
    let i = input_of link p a in
    let j = input_of link q b in
    let at_i = passes_among (λ i. list_all (are_apart link i) inputs) i inputs (held_input link w.field.history p a held_p) test in
    let at_j = passes_among (are_apart link i) j inputs (held_input link w.field.history q b held_q) at_i in
    let hashes = subst (λ h. same_hash (hashed link i) h ≡ true) same (hash_own (hashed link i)) in
    let parts = and_parts (same_hash i.prev j.prev) ((i.index == j.index) && same_entry a b) (second_of (same_hash (hashed link i) (hashed link j)) (same_input i j) hashes at_j) in
    let more = and_parts (i.index == j.index) (same_entry a b) parts.1 in
    let indices = eqb-true i.index j.index more.0 in
    (hashes_same i.prev j.prev parts.0, (omega (arith, indices)), entries_same a b more.1)

-- no entry of a history changes the configuration
abbrev pub is_no_change : Input → Bool
is_no_change i = not (is_members i.entry.body)

abbrev pub nothing_changes : Link → List Recorded → Bool
nothing_changes link history = list_all is_no_change (inputs_of link history)

bears_is : (w : World) (setup : Option Setup) → bears_first w.rolled setup ≡ true → IfSome setup (λ setup. Bears w setup.first)
bears_is w None e = tt
bears_is w (Some setup) e = leb-true _ _ e

-- where the configuration never changes and the first one bears what was rolled back, the run is within the bound
pub within_bound : (link : Link) (w : World) → bears_first w.rolled w.setup ≡ true → nothing_changes link w.field.history ≡ true → WithinBound w
within_bound link w first nothing =
    record {
      first = bears_is w w.setup first;
      gained = λ p term margin voters held.
          let entry : LogEntry = record { term = term; body = Members margin voters } in
          absurd (clash (is_no_change (input_of link p entry)) (passes_among is_no_change (input_of link p entry) (inputs_of link w.field.history) (held_input link w.field.history p entry held) nothing) refl);
    }
