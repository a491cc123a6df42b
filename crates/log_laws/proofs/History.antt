-- What a history tells of promises and paths, and that it only grows.
use Rattle.std.proofs.Common.{zero, suc, inl, inr, take, ◌++◌, ◌≡◌, ◌≤◌, ℕ, Option, List, [], ◌∷◌, length, nat_lt, sym, ap, ◌∙◌, length-append, arith}
use Rattle.group_model.specs.Log.{AnyByRecursion, state_of, promised_path, longest, IsFrontOf}
use Rattle.std.specs.List.{AllByRecursion}
use Rattle.std.proofs.lemmas.Bool.{cond_both, ltb-true, ltb-false}
use Rattle.std.proofs.lemmas.List.{append-nil, nil_from_length}
use Rattle.replica_model.specs.Path.{Path, Link}
use Rattle.replica_model.specs.Replica.{Replica}
use Rattle.replica_model.specs.Message.{Message}
use Rattle.replica_model.specs.Call.{Call}
use Rattle.group_model.specs.Enclave.{HostInput}
use Rattle.group_model.specs.Run.{Recorded}
use Rattle.agreement.specs.Promised.{IsComparable}
use Rattle.log_laws.proofs.Chain.{NoCollisionIn}
use Rattle.log_laws.proofs.Good.{front_refl}
pub use Rattle.agreement.proofs.Fronts.{both_fronts}
use Rattle.agreement.proofs.Fronts.{begins}
use Rattle.log_laws.proofs.Leading.{front}

-- a history with one more call
abbrev pub with_call : List Recorded → ℕ → Replica → Option (HostInput Message) → Call → List Recorded
with_call history v before input call = record { replica = v; before = before; input = input; call = call } ∷ history

-- after some call of a history the replica v had promised p, or a longer path that begins with p
abbrev pub EverIn : List Recorded → ℕ → Path → Type 0
EverIn history v p = AnyByRecursion (λ (r : Recorded). (r.replica ≡ v) × IsFrontOf p (promised_path (state_of r))) history

-- after some call of a history a replica held p, or a longer path that begins with p
abbrev pub HeldIn : List Recorded → Path → Type 0
HeldIn history p = AnyByRecursion (λ r. IsFrontOf p (state_of r).path) history

pub ever_shorter : (history : List Recorded) (v : ℕ) (p w : Path) → IsFrontOf p w → EverIn history v w → EverIn history v p
ever_shorter [] v p w pre h = h
ever_shorter (r ∷ history) v p w pre (inl h) = inl (h.0, begins p w (promised_path (state_of r)) pre h.1)
ever_shorter (r ∷ history) v p w pre (inr h) = inr (ever_shorter history v p w pre h)

pub held_shorter : (history : List Recorded) (p w : Path) → IsFrontOf p w → HeldIn history w → HeldIn history p
held_shorter [] p w pre h = h
held_shorter (r ∷ history) p w pre (inl h) = inl (begins p w (state_of r).path pre h)
held_shorter (r ∷ history) p w pre (inr h) = inr (held_shorter history p w pre h)

-- what was promised was held
pub promised_held : (history : List Recorded) (v : ℕ) (p : Path) → EverIn history v p → HeldIn history p
promised_held [] v p h = h
promised_held (r ∷ history) v p (inl h) = inl (begins p (promised_path (state_of r)) (state_of r).path h.1 (front (state_of r).promised (state_of r).path))
promised_held (r ∷ history) v p (inr h) = inr (promised_held history v p h)

pub none_larger : (link : Link) (Held Larger : Path → Type 0) → ((p : Path) → Held p → Larger p) → NoCollisionIn link Larger → NoCollisionIn link Held
none_larger link Held Larger larger none p q a b hp hq same = none p q a b (larger (p ++ a ∷ []) hp) (larger (q ++ b ∷ []) hq) same

-- ---- elements of lists
module _ {A : Type 0} where
  pub any_more : (P Q : A → Type 0) → ((x : A) → P x → Q x) → (xs : List A) → AnyByRecursion P xs → AnyByRecursion Q xs
  any_more P Q more [] h = absurd h
  any_more P Q more (x ∷ xs) (inl h) = inl (more x h)
  any_more P Q more (x ∷ xs) (inr h) = inr (any_more P Q more xs h)

  pub any_left : (P : A → Type 0) (xs ys : List A) → AnyByRecursion P xs → AnyByRecursion P (xs ++ ys)
  any_left P [] ys h = absurd h
  any_left P (x ∷ xs) ys (inl h) = inl h
  any_left P (x ∷ xs) ys (inr h) = inr (any_left P xs ys h)

  pub any_right : (P : A → Type 0) (xs ys : List A) → AnyByRecursion P ys → AnyByRecursion P (xs ++ ys)
  any_right P [] ys h = h
  any_right P (x ∷ xs) ys h = inr (any_right P xs ys h)

  pub all_more : (P Q : A → Type 0) → ((x : A) → P x → Q x) → (xs : List A) → AllByRecursion P xs → AllByRecursion Q xs
  all_more P Q f [] h = tt
  all_more P Q f (x ∷ xs) h = (f x h.0, all_more P Q f xs h.1)

  pub all_take : (P : A → Type 0) (k : ℕ) (xs : List A) → AllByRecursion P xs → AllByRecursion P (take k xs)
  all_take P zero xs h = tt
  all_take P (suc k) [] h = tt
  all_take P (suc k) (x ∷ xs) h = (h.0, all_take P k xs h.1)

-- the shorter of two comparable paths is the front
shorter_first : (p q : Path) → IsComparable p q → length p ≤ length q → IsFrontOf p q
shorter_first p q (inl pre) le = pre
shorter_first p q (inr pre) le =
    let none : pre.0 ≡ [] = nil_from_length pre.0 (omega (arith, length-append q pre.0, ap length pre.1)) in
    ([], append-nil p ∙ (sym pre.1 ∙ (ap (λ x. q ++ x) none ∙ append-nil q)))

longest_is : (P : Path → Type 0) → P [] → (ps : List Path) → AllByRecursion P ps → P (longest ps)
longest_is P nil [] h = nil
longest_is P nil (p ∷ ps) h = cond_both (nat_lt (length (longest ps)) (length p)) p (longest ps) P (λ b. h.0) (λ b. longest_is P nil ps h.1)

-- where each two with P are comparable, those with P begin the longest of them
pub begin_longest : (P : Path → Type 0) → P [] → ((p q : Path) → P p → P q → IsComparable p q) → (ps : List Path) → AllByRecursion P ps → AllByRecursion (λ p. IsFrontOf p (longest ps)) ps
begin_longest P nil agrees [] h = tt
begin_longest P nil agrees (p ∷ ps) h =
    let rest = begin_longest P nil agrees ps h.1 in
    let old : P (longest ps) = longest_is P nil ps h.1 in
    cond_both (nat_lt (length (longest ps)) (length p)) p (longest ps) (λ l. AllByRecursion (λ q. IsFrontOf q l) (p ∷ ps))
    (λ b.
    let grows : IsFrontOf (longest ps) p = shorter_first (longest ps) p (agrees (longest ps) p old h.0) (omega (arith, ltb-true _ _ b)) in
    (front_refl p, all_more (λ q. IsFrontOf q (longest ps)) (λ q. IsFrontOf q p) (λ q pre. begins q (longest ps) p pre grows) ps rest))
    (λ b. (shorter_first p (longest ps) (agrees p (longest ps) h.0 old) (ltb-false _ _ b), rest))
