-- Texts one after another; and what was named at their end as it is without a collision was so named before.
use Rattle.std.proofs.Common.{refl, sym, ap, ◌≡◌, ℕ, List, [], ◌∷◌, ◌++◌, append_assoc}
use Rattle.values.specs.declared.event.Event.TheVariants as event
use Rattle.record_cutting.specs.Lines.{Record}
use Rattle.schedule_model.specs.Written.{Written, On, Off, all_written, follow, last_of, onto}
use Rattle.trace_model.specs.Trace.{Playing, played, record_played, records_played, settled}
use Rattle.group_world.specs.Meanings.{Meaning, MessageOf, StateOf, model_of}
use Rattle.group_world.specs.Plays.{IsNamedBy}
use Rattle.group_world.proofs.Named.{IsNamedTill, StandsAsGroup, follow-till, played_so, record_so, records_before, settle-before}

-- ---- texts one after another

module _ {S : Type 0} where
  pub last_onto : (text : List ℕ) (w : Written S) → last_of (onto text w) ≡ last_of w
  last_onto text (On more s) = refl
  last_onto text (Off more stop s) = refl

  pub onto_onto : (text more : List ℕ) (w : Written S) → onto text (onto more w) ≡ onto (text ++ more) w
  onto_onto text more (On t s) = ap (λ (l : List ℕ). On l s) (sym (append_assoc text more t))
  onto_onto text more (Off t stop s) = ap (λ (l : List ℕ). Off l stop s) (sym (append_assoc text more t))

  pub onto_none : (w : Written S) → onto [] w ≡ w
  onto_none (On text s) = refl
  onto_none (Off text stop s) = refl

  pub follow_onto : (text : List ℕ) (w : Written S) (next : S → Written S) → follow (onto text w) next ≡ onto text (follow w next)
  follow_onto text (On more s) next = sym (onto_onto text more (next s))
  follow_onto text (Off more stop s) next = refl

module _ (m : Meaning) (p : Playing (MessageOf m) (StateOf m)) (stands : StandsAsGroup m p) where
  -- before the next delivery
  pub named_delivery : (n : ℕ) (k : ℕ) → IsNamedTill m (follow (played (model_of m) p (event.Deliver k)) (settled (model_of m) n)) → IsNamedBy m p (event.Deliver k)
  named_delivery n k named = follow-till m (played (model_of m) p (event.Deliver k)) (settled (model_of m) n) (played_so m p (event.Deliver k)) (settle-before m n) named

  -- before the records that follow the first
  pub named_first : (r : Record) (more : List Record) → IsNamedTill m (records_played (model_of m) p ((r ∷ []) ++ more)) → IsNamedTill m (record_played (model_of m) p r)
  unfolding all_written
  named_first r more named =
      follow-till m (record_played (model_of m) p r) (λ q. records_played (model_of m) q more) (record_so m p r stands) (λ q so till. records_before m q more so till) named
