-- Paths whose places were all promised never differ.
use Rattle.std.proofs.Common.{◌≡◌, ℕ, Bool, inl, inr, [], ◌∷◌, ◌++◌, refl, sym, ap, ◌∙◌, subst, append_assoc}
use Rattle.std.proofs.lemmas.List.{append-nil, append_cancel_left}
use Rattle.values.specs.declared.entry.Body.{Body}
use Rattle.values.specs.declared.entry.Body.TheVariants.{Noop, Ask, Members}
use Rattle.values.specs.declared.entry.LogEntry.{LogEntry}
use Rattle.group_quorum.specs.Conf.{Conf}
use Rattle.group_quorum.specs.Sharing.{QuorumsOutlast, CountsOverlap}
use Rattle.replica_model.specs.Path.{Path}
use Rattle.replica_model.specs.Configs.{changed_by, conf}
use Rattle.group_model.specs.Log.{IsFrontOf}
use Rattle.agreement.specs.Promised.{IsComparable}
use Rattle.group_model.specs.Log.{MetBy}
use Rattle.agreement.specs.Promised.{EachPlacePromised, Bears, KeepsToOnePath}
use Rattle.agreement.proofs.Counting.{some_voter, shared_voter}
use Rattle.agreement.proofs.Fronts.{first_of_front}
use Rattle.replica_model.proofs.Paths.{conf-append}

same_next : (c : Path) (a b : LogEntry) → IsFrontOf (c ++ a ∷ []) (c ++ b ∷ []) → a ≡ b
same_next c a b pre =
    let same : a ∷ pre.0 ≡ b ∷ [] = append_cancel_left c (a ∷ pre.0) (b ∷ []) (sym (append_assoc c (a ∷ []) pre.0) ∙ pre.1) in
    cc

pub met_more : (C : Conf) (R S : ℕ → Type 0) → ((v : ℕ) → R v → S v) → MetBy C R → MetBy C S
met_more C R S f met = record { who = met.who; each = λ v is. f v (met.each v is); enough = met.enough }

pub each_shorter : (first : Conf) (Ever : ℕ → Path → Type 0) (p w : Path) → IsFrontOf p w → EachPlacePromised first Ever w → EachPlacePromised first Ever p
each_shorter first Ever p w pre each c a r is =
    each c a (r ++ pre.0) (sym (append_assoc c (a ∷ r) pre.0) ∙ (ap (λ x. x ++ pre.0) is ∙ pre.1))

pub each_more : (first : Conf) (Ever More : ℕ → Path → Type 0) (p : Path) → ((v : ℕ) (q : Path) → Ever v q → More v q) → EachPlacePromised first Ever p → EachPlacePromised first More p
each_more first Ever More p f each c a r is = met_more (conf first c) (λ v. Ever v (c ++ a ∷ [])) (λ v. More v (c ++ a ∷ [])) (λ v. f v (c ++ a ∷ [])) (each c a r is)

pub each_nil : (first : Conf) (Ever : ℕ → Path → Type 0) → EachPlacePromised first Ever []
each_nil first Ever [] a r is = cc
each_nil first Ever (x ∷ c) a r is = cc

module _ (outlast : QuorumsOutlast) (overlap : CountsOverlap) (first : Conf) (rolled : ℕ → Bool) (Ever : ℕ → Path → Type 0) (history : KeepsToOnePath first rolled Ever) where
  -- the bound holds of each configuration on the way of a path ever promised
  gained : (v : ℕ) (p : Path) (term : ℕ) (body : Body) → Ever v (p ++ record { term = term; body = body } ∷ []) → Bears rolled (conf first p) → Bears rolled (changed_by (conf first p) body)
  gained v p term Noop ever h = h
  gained v p term (Ask client number request) ever h = h
  gained v p term (Members margin voters) ever h = history.gained_bear v p term margin voters ever

  within_along : (v : ℕ) (p t : Path) → Bears rolled (conf first p) → Ever v (p ++ t) → Bears rolled (conf first (p ++ t))
  within_along v p [] h ever = rw append-nil h
  within_along v p (e ∷ t) h ever =
      let step : Bears rolled (conf first (p ++ e ∷ [])) =
      subst (Bears rolled) (sym (conf-append first p (e ∷ [])))
      (gained v p e.term e.body (history.shorter v (p ++ e ∷ []) (p ++ e ∷ t) (first_of_front p e t) ever) h) in
      subst (λ x. Bears rolled (conf first x)) (append_assoc p (e ∷ []) t)
      (within_along v (p ++ e ∷ []) t step (subst (Ever v) (sym (append_assoc p (e ∷ []) t)) ever))

  -- two such paths that agree so far agree on the next entry
  next_agrees : (c : Path) (a b : LogEntry) → MetBy (conf first c) (λ v. Ever v (c ++ a ∷ [])) → MetBy (conf first c) (λ v. Ever v (c ++ b ∷ [])) → a ≡ b
  next_agrees c a b met met' =
      let some = some_voter overlap (conf first c) (λ v. Ever v (c ++ a ∷ [])) met in
      let ever : Ever some.0 c = history.shorter some.0 c (c ++ a ∷ []) (a ∷ [], refl) some.1 in
      let within : Bears rolled (conf first c) = within_along some.0 [] c history.first_bears ever in
      let shared = shared_voter outlast (conf first c) rolled (λ v. Ever v (c ++ a ∷ [])) (λ v. Ever v (c ++ b ∷ [])) within met met' in
      elim (history.one_path shared.0 (c ++ a ∷ []) (c ++ b ∷ []) shared.1 shared.2 shared.3) [
        | inl pre ↦ same_next c a b pre
        | inr pre ↦ sym (same_next c b a pre)
      ]

  agree_from : (c p q : Path) → EachPlacePromised first Ever (c ++ p) → EachPlacePromised first Ever (c ++ q) → IsComparable (c ++ p) (c ++ q)
  agree_from c [] q hp hq = inl (q, ap (λ x. x ++ q) (append-nil c))
  agree_from c (a ∷ p) [] hp hq = inr (a ∷ p, ap (λ x. x ++ (a ∷ p)) (append-nil c))
  agree_from c (a ∷ p) (b ∷ q) hp hq =
      let same : b ≡ a = sym (next_agrees c a b (hp c a p refl) (hq c b q refl)) in
      let one : c ++ b ∷ q ≡ (c ++ a ∷ []) ++ q = rw same (sym (append_assoc c (a ∷ []) q)) in
      let two : c ++ a ∷ p ≡ (c ++ a ∷ []) ++ p = sym (append_assoc c (a ∷ []) p) in
      rw (one, two) (agree_from (c ++ a ∷ []) p q (subst (EachPlacePromised first Ever) two hp) (subst (EachPlacePromised first Ever) one hq))

  pub agree_each : (p q : Path) → EachPlacePromised first Ever p → EachPlacePromised first Ever q → IsComparable p q
  agree_each p q hp hq = agree_from [] p q hp hq
