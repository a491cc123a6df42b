-- Texts one after another.
use Rattle.std.proofs.Common.{refl, sym, ap, ◌∙◌, ◌≡◌, ℕ, List, [], ◌∷◌, ◌++◌, append_assoc}
use Rattle.values.specs.declared.event.Event.{Event}
use Rattle.values.specs.declared.event.Event.TheVariants as event
use Rattle.schedule_model.specs.Written.{Written, On, Off, all_written, follow, onto}
use Rattle.trace_model.specs.Trace.{expanded}
use Rattle.group_world.specs.Meanings.{OfEnclaves, model_of}
use Rattle.drill_command.specs.Drilled.{Model, to_play}

module _ {S : Type 0} where
  pub onto_onto : (text more : List ℕ) (w : Written S) → onto text (onto more w) ≡ onto (text ++ more) w
  onto_onto text more (On t s) = ap (λ (l : List ℕ). On l s) (sym (append_assoc text more t))
  onto_onto text more (Off t stop s) = ap (λ (l : List ℕ). Off l stop s) (sym (append_assoc text more t))

  pub onto_none : (w : Written S) → onto [] w ≡ w
  onto_none (On text s) = refl
  onto_none (Off text stop s) = refl

  follow_onto : (text : List ℕ) (w : Written S) (next : S → Written S) → follow (onto text w) next ≡ onto text (follow w next)
  follow_onto text (On more s) next = sym (onto_onto text more (next s))
  follow_onto text (Off more stop s) next = refl

  pub follow_follow : (w : Written S) (f g : S → Written S) → follow (follow w f) g ≡ follow w (λ s. follow (f s) g)
  follow_follow (On text s) f g = follow_onto text (f s) g
  follow_follow (Off text stop s) f g = refl

-- nothing is left to play, or an event and then others
pub played_none : (p : Model) → to_play [] p ≡ On [] p
unfolding all_written
played_none p = refl

pub played_first : (e : Event) (rest : List Event) (p : Model) → to_play (e ∷ rest) p ≡ follow (expanded (model_of OfEnclaves) p e) (to_play rest)
unfolding all_written
played_first e rest p = refl
