-- What was told, against the log and the bound.
use Rattle.std.proofs.Common.{◌≡◌, ℕ, ◌*◌, ◌≤◌, nat_lt, inl, inr, Bool, Option, Some, None, List, [], ◌∷◌, ◌++◌, length, map, refl, sym, ap, subst, arith}
use Rattle.std.specs.Prelude.{IsTrue, IsSomeAnd, IfSome, count_by}
use Rattle.std.specs.List.{AllByRecursion, list_all}
use Rattle.std.proofs.lemmas.Bool.{cond_both, ltb-true, ltb-false, and_parts, and_from, leb-true, le-leb}
use Rattle.std.proofs.lemmas.List.{length-take}
use Rattle.group_quorum.specs.Conf.{Conf}
use Rattle.group_quorum.specs.Voters.{is_in}
use Rattle.values.specs.declared.entry.Body.{Body}
use Rattle.values.specs.declared.entry.Body.TheVariants.{Noop, Ask, Members}
use Rattle.replica_model.specs.Path.{Path}
use Rattle.group_model.specs.Group.{Setup, bears, is_within}
use Rattle.group_model.specs.Run.{Recorded, World}
use Rattle.group_model.specs.Log.{AnyByRecursion, IsFrontOf, state_of, committed_path, longest, log_of, Held, Bears, WithinBound}
use Rattle.trace_model.specs.Claims.{ClosingTells}
use Rattle.closing_laws.proofs.Tells.{IsAmong, AllTold, IsOf, Holds, TellsState}
use Rattle.closing_laws.proofs.Moved.{IsFound}
use Rattle.closing_laws.proofs.Events.{KeptWorld}

-- ---- the log
abbrev fronts : List Recorded → List Path
fronts history = map (λ (r : Recorded). committed_path (state_of r)) history

module _ (seen : ℕ) (confs : List Conf) where
  abbrev Recalled : List Recorded → Type 0
  Recalled history = AllByRecursion (λ (r : Recorded). TellsState seen confs (state_of r)) history

  front_length : (r : Recorded) → TellsState seen confs (state_of r) → length (committed_path (state_of r)) ≡ (state_of r).committed
  front_length r g = let s = state_of r in omega (arith, length-take s.committed s.path, g.within, g.fits)

  longest_upto : (history : List Recorded) → Recalled history → length (longest (fronts history)) ≤ seen
  longest_upto [] k = omega arith
  longest_upto (r ∷ history) k =
      cond_both (nat_lt (length (longest (fronts history))) (length (committed_path (state_of r)))) (committed_path (state_of r)) (longest (fronts history)) (λ (p : Path). length p ≤ seen)
      (λ b. let below = k.0.below in omega (arith, front_length r k.0, below))
      (λ b. longest_upto history k.1)

  longest_from : (history : List Recorded) → Recalled history → AnyByRecursion (λ (r : Recorded). seen ≤ (state_of r).committed) history → seen ≤ length (longest (fronts history))
  longest_from [] k h = absurd h
  longest_from (r ∷ history) k (inl h) =
      cond_both (nat_lt (length (longest (fronts history))) (length (committed_path (state_of r)))) (committed_path (state_of r)) (longest (fronts history)) (λ (p : Path). seen ≤ length p)
      (λ b. omega (arith, front_length r k.0, h))
      (λ b. omega (arith, front_length r k.0, h, ltb-false (length (longest (fronts history))) (length (committed_path (state_of r))) b))
  longest_from (r ∷ history) k (inr h) =
      let rest = longest_from history k.1 h in
      cond_both (nat_lt (length (longest (fronts history))) (length (committed_path (state_of r)))) (committed_path (state_of r)) (longest (fronts history)) (λ (p : Path). seen ≤ length p)
      (λ b. omega (arith, rest, ltb-true (length (longest (fronts history))) (length (committed_path (state_of r))) b))
      (λ b. rest)

log_told : (w : World) → KeptWorld w → w.committed ≡ length (log_of w)
log_told w k =
    let upto = longest_upto w.committed w.confs w.field.history k.history in
    elim k.reached [
      | inl none ↦ omega (arith, none, upto)
      | inr some ↦ omega (arith, upto, longest_from w.committed w.confs w.field.history k.history some)
    ]

-- ---- the bound
all_pass : (test : Conf → Bool) (confs : List Conf) → IsTrue (list_all test confs) → (c : Conf) → IsAmong confs c → IsTrue (test c)
all_pass test [] passes c h = absurd h
all_pass test (d ∷ confs) passes c (inl same) = subst (λ x. IsTrue (test x)) same (and_parts (test d) (list_all test confs) passes).0
all_pass test (d ∷ confs) passes c (inr h) = all_pass test confs (and_parts (test d) (list_all test confs) passes).1 c h

each_passes : (test : Conf → Bool) (P : Conf → Type 0) → ((c : Conf) → P c → IsTrue (test c)) → (confs : List Conf) → AllByRecursion P confs → IsTrue (list_all test confs)
each_passes test P pass [] h = refl
each_passes test P pass (c ∷ confs) h = and_from (test c) (list_all test confs) (pass c h.0) (each_passes test P pass confs h.1)

-- the configuration of an entry that a path has was told
told_at : (confs : List Conf) (p rest path : Path) (term margin : ℕ) (voters : List ℕ) → (p ++ record { term = term; body = Members margin voters } ∷ []) ++ rest ≡ path → AllTold confs path → IsAmong confs (record { margin = margin; voters = voters })
told_at confs p rest path term margin voters is told = last p (subst (AllTold confs) (sym is) told)
  where
    last : (p : Path) → AllTold confs ((p ++ record { term = term; body = Members margin voters } ∷ []) ++ rest) → IsAmong confs (record { margin = margin; voters = voters })
    last [] h = h.0
    last (e ∷ p) h = last p h.1

held_told : (seen : ℕ) (confs : List Conf) (history : List Recorded) → AllByRecursion (λ (r : Recorded). TellsState seen confs (state_of r)) history → (p : Path) (term margin : ℕ) (voters : List ℕ)
    → AnyByRecursion (λ (r : Recorded). IsFrontOf (p ++ record { term = term; body = Members margin voters } ∷ []) (state_of r).path) history → IsAmong confs (record { margin = margin; voters = voters })
held_told seen confs [] k p term margin voters h = absurd h
held_told seen confs (r ∷ history) k p term margin voters (inl h) = told_at confs p h.0 (state_of r).path term margin voters h.1 k.0.told
held_told seen confs (r ∷ history) k p term margin voters (inr h) = held_told seen confs history k.1 p term margin voters h

-- where a path gained a configuration
record Gained (path : Path) (c : Conf) : Type 0 where
  before : Path
  term : ℕ
  front : IsFrontOf (before ++ record { term = term; body = Members c.margin c.voters } ∷ []) path

gained_here : (c : Conf) (b : Body) (term : ℕ) (path : Path) → IsOf c b → Gained (record { term = term; body = b } ∷ path) c
gained_here c Noop term path never = absurd never
gained_here c (Ask client number request) term path never = absurd never
gained_here c (Members margin voters) term path same =
    subst (Gained (record { term = term; body = Members margin voters } ∷ path)) same (record { before = []; term = term; front = (path, refl) })

gained_at : (path : Path) (c : Conf) → Holds path c → Gained path c
gained_at [] c h = absurd h
gained_at (e ∷ path) c (inl h) = gained_here c e.body e.term path h
gained_at (e ∷ path) c (inr h) =
    let g = gained_at path c h in record { before = e ∷ g.before; term = g.term; front = (g.front.0, ap (λ (p : Path). e ∷ p) g.front.1) }

module _ (w : World) (k : KeptWorld w) where
  held_bears : WithinBound w → (c : Conf) → (history : List Recorded) → ((p : Path) → AnyByRecursion (λ (r : Recorded). IsFrontOf p (state_of r).path) history → Held w p) → AnyByRecursion (λ (r : Recorded). Holds (state_of r).path c) history → Bears w c
  held_bears bound c [] more h = absurd h
  held_bears bound c (r ∷ history) more (inl h) =
      let g = gained_at (state_of r).path c h in bound.gained g.before g.term c.margin c.voters (more _ (inl g.front))
  held_bears bound c (r ∷ history) more (inr h) = held_bears bound c history (λ p held. more p (inr held)) h

  first_bears : (o : Option Setup) (c : Conf) → IfSome o (λ s. Bears w s.first) → IsSomeAnd o (λ s. s.first ≡ c) → Bears w c
  first_bears None c fine never = absurd never
  first_bears (Some s) c fine same = subst (Bears w) same fine

  found_bears : WithinBound w → (c : Conf) → IsFound w.setup w.field.history c → IsTrue (bears w.rolled c)
  found_bears bound c (inl first) = le-leb (count_by (is_in w.rolled) c.voters) (2 * c.margin) (first_bears w.setup c bound.first first)
  found_bears bound c (inr held) = le-leb (count_by (is_in w.rolled) c.voters) (2 * c.margin) (held_bears bound c w.field.history (λ p h. h) held)

  passes_bears : IsTrue (is_within w) → (c : Conf) → IsAmong w.confs c → Bears w c
  passes_bears passes c h = leb-true (count_by (is_in w.rolled) c.voters) (2 * c.margin) (all_pass (bears w.rolled) w.confs passes c h)

  setup_bears : IsTrue (is_within w) → (o : Option Setup) → IfSome o (λ s. IsAmong w.confs s.first) → IfSome o (λ s. Bears w s.first)
  setup_bears passes None h = tt
  setup_bears passes (Some s) h = passes_bears passes s.first h

  pub closing : ClosingTells w
  closing = record {
    log = log_told w k;
    bound = (
      λ passes. record {
        first = setup_bears passes w.setup k.first;
        gained = λ p term margin voters held. passes_bears passes (record { margin = margin; voters = voters }) (held_told w.committed w.confs w.field.history k.history p term margin voters held);
      },
      λ bound. each_passes (bears w.rolled) (IsFound w.setup w.field.history) (found_bears bound) w.confs k.found,
    );
  }
