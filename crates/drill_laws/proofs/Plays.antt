-- Events that are played one after another.
use Rattle.std.proofs.Common.{◌≡◌, ℕ, zero, suc, ◌+◌, Option, Some, None, List, [], ◌∷◌, ◌++◌, refl, subst, ◌∙◌, sym, arith}
use Rattle.values.specs.declared.event.Event.{Event}
use Rattle.values.specs.declared.event.Event.TheVariants as event
use Rattle.schedule_model.specs.Written.{Written, On, Off, onto, follow, all_written, last_of, stop_of}
use Rattle.replica_model.specs.Path.{Link}
use Rattle.replica_model.specs.Message.{Message}
use Rattle.group_model.specs.Group.{next_message}
use Rattle.group_model.specs.Run.{Enclaves, enclaves}
use Rattle.trace_model.specs.Trace.{Playing, played, settled, expanded, events_played}
use Rattle.drill_laws.specs.Laws.{NamesTheNewest, EachNamesTheNewest}
use Rattle.drill_laws.proofs.Worlds.{Goes, goes_onto}

module _ {S : Type 0} where
  pub goes_last : (P : S → Type 0) (w : Written S) → stop_of w ≡ None → P (last_of w) → Goes w P
  goes_last P (On text s) none h = h
  goes_last P (Off text stop s) none h = cc

  pub last_goes : (P : S → Type 0) (w : Written S) → Goes w P → P (last_of w)
  last_goes P (On text s) h = h
  last_goes P (Off text stop s) h = absurd h

  stop_onto : (text : List ℕ) (w : Written S) → stop_of (onto text w) ≡ stop_of w
  stop_onto text (On more s) = refl
  stop_onto text (Off more stop s) = refl

  last_onto : (text : List ℕ) (w : Written S) → last_of (onto text w) ≡ last_of w
  last_onto text (On more s) = refl
  last_onto text (Off more stop s) = refl

  none_follow : (w : Written S) (next : S → Written S) → Goes w (λ s. stop_of (next s) ≡ None) → stop_of (follow w next) ≡ None
  none_follow (On text s) next h = stop_onto text (next s) ∙ h
  none_follow (Off text stop s) next h = absurd h

  goes_more : (P R : S → Type 0) (w : Written S) → ((s : S) → P s → R s) → Goes w P → Goes w R
  goes_more P R (On text s) f h = f s h
  goes_more P R (Off text stop s) f h = h

module _ (link : Link) where
  abbrev Player : Type 0
  Player = Playing Message Enclaves

  -- each goes on, and names the newest answer where it is a hear, and at the end this holds
  abbrev pub Plays : Player → List Event → (Player → Type 0) → Type 0
  Plays p [] Q = Q p
  Plays p (e ∷ events) Q = NamesTheNewest p.group e × Goes (expanded (enclaves link) p e) (λ t. Plays t events Q)

  pub none_stops : (events : List Event) (p : Player) (Q : Player → Type 0) → Plays p events Q → stop_of (events_played (enclaves link) p events) ≡ None
  unfolding all_written
  none_stops [] p Q h = refl
  none_stops (e ∷ events) p Q h =
      none_follow (expanded (enclaves link) p e) (λ t. events_played (enclaves link) t events)
      (goes_more (λ t. Plays t events Q) (λ t. stop_of (events_played (enclaves link) t events) ≡ None) (expanded (enclaves link) p e) (λ t. none_stops events t Q) h.1)

  ends_follow : (Q : Player → Type 0) (w : Written Player) (next : Player → Written Player) → Goes w (λ s. Q (last_of (next s))) → Q (last_of (follow w next))
  ends_follow Q (On text s) next h = subst Q (sym (last_onto text (next s))) h
  ends_follow Q (Off text stop s) next h = absurd h

  pub ends_so : (events : List Event) (p : Player) (Q : Player → Type 0) → Plays p events Q → Q (last_of (events_played (enclaves link) p events))
  unfolding all_written
  ends_so [] p Q h = h
  ends_so (e ∷ events) p Q h =
      ends_follow Q (expanded (enclaves link) p e) (λ t. events_played (enclaves link) t events)
      (goes_more (λ t. Plays t events Q) (λ t. Q (last_of (events_played (enclaves link) t events))) (expanded (enclaves link) p e) (λ t. ends_so events t Q) h.1)

  pub each_newest : (events : List Event) (p : Player) (Q : Player → Type 0) → Plays p events Q → EachNamesTheNewest link p events
  each_newest [] p Q h = tt
  each_newest (e ∷ events) p Q h = (h.0, each_newest events (last_of (expanded (enclaves link) p e)) Q (last_goes (λ t. Plays t events Q) (expanded (enclaves link) p e) h.1))

  pub plays_append : (events more : List Event) (p : Player) (Q : Player → Type 0) → Plays p events (λ t. Plays t more Q) → Plays p (events ++ more) Q
  plays_append [] more p Q h = h
  plays_append (e ∷ events) more p Q h =
      (h.0, goes_more (λ t. Plays t events (λ u. Plays u more Q)) (λ t. Plays t (events ++ more) Q) (expanded (enclaves link) p e) (λ t. plays_append events more t Q) h.1)

  -- a settle in two parts
  abbrev settling : ℕ → Player → Option ℕ → Written Player
  settling n p o = elim o [ None ↦ On [] p | Some k ↦ follow (played (enclaves link) p (event.Deliver k)) (settled (enclaves link) n) ]

  at_rest : (n : ℕ) (p : Player) (P : Player → Type 0) → next_message p.group ≡ None → Goes (settled (enclaves link) n p) P → P p
  at_rest zero p P none h = h
  at_rest (suc n) p P none h = subst (λ (o : Option ℕ). Goes (settling n p o) P) none h

  goes_off : (R : Player → Type 0) (text : List ℕ) (w : Written Player) → Goes (onto text w) R → Goes w R
  goes_off R text (On more s) h = h
  goes_off R text (Off more stop s) h = h

  onward : (k m : ℕ) (R P : Player → Type 0) → ((s : Player) → Goes (settled (enclaves link) k s) R → Goes (settled (enclaves link) m s) P)
      → (w : Written Player) → Goes (follow w (settled (enclaves link) k)) R → Goes (follow w (settled (enclaves link) m)) P
  onward k m R P later (On text s) h = goes_onto P text (settled (enclaves link) m s) (later s (goes_off R text (settled (enclaves link) k s) h))
  onward k m R P later (Off text stop s) h = h

  by_next : (k n : ℕ) (p : Player) (P : Player → Type 0) → ((s : Player) → Goes (settled (enclaves link) k s) (λ t. Goes (settled (enclaves link) n t) P) → Goes (settled (enclaves link) (k + n) s) P)
      → (o : Option ℕ) → next_message p.group ≡ o → Goes (settling k p o) (λ t. Goes (settled (enclaves link) n t) P) → Goes (settling (k + n) p o) P
  by_next k n p P later None is h = at_rest n p P is h
  by_next k n p P later (Some j) is h = onward k (k + n) (λ t. Goes (settled (enclaves link) n t) P) P later (played (enclaves link) p (event.Deliver j)) h

  pub settled_on : (k n : ℕ) (p : Player) (P : Player → Type 0) → Goes (settled (enclaves link) k p) (λ t. Goes (settled (enclaves link) n t) P) → Goes (settled (enclaves link) (k + n) p) P
  settled_on zero n p P h = subst (λ (m : ℕ). Goes (settled (enclaves link) m p) P) none h
    where
      none : n ≡ zero + n
      none = omega arith
  settled_on (suc k) n p P h = subst (λ (m : ℕ). Goes (settled (enclaves link) m p) P) count (by_next k n p P (λ s. settled_on k n s P) (next_message p.group) refl h)
    where
      count : suc (k + n) ≡ suc k + n
      count = omega arith
