-- What a leader commits was promised at each place.
use Rattle.std.proofs.Common.{◌≡◌, ℕ, ◌+◌, ◌-◌, ◌<◌, Bool, true, false, ◌⊎◌, inl, inr, [], ◌∷◌, ◌++◌, length, take, refl, sym, ap, ◌∙◌, subst, append_assoc, arith}
use Rattle.std.proofs.lemmas.Bool.{cases_lt}
use Rattle.values.specs.declared.entry.LogEntry.{LogEntry}
use Rattle.group_quorum.specs.Conf.{Conf}
use Rattle.replica_model.specs.Path.{Path}
use Rattle.replica_model.specs.Configs.{is_members, conf, conf_index, older_conf}
use Rattle.replica_model.proofs.Paths.{conf-append}
use Rattle.group_model.specs.Log.{IsFrontOf}
use Rattle.group_model.specs.Log.{MetBy}
use Rattle.agreement.specs.Promised.{EachPlacePromised}
use Rattle.agreement.proofs.Fronts.{first_of_front}
use Rattle.agreement.proofs.Promised.{each_shorter}
use Rattle.agreement.proofs.Places.{has_members, conf_plain, last_at, first_members, take_before, take_upto, take_front}

-- each place up to a Members entry of the path was promised, except for the last one
abbrev pub OldPromised : Conf → (ℕ → Path → Type 0) → Path → Type 0
OldPromised first Ever path =
    (front : Path) (e : LogEntry) (rest : Path) → front ++ e ∷ rest ≡ path → is_members e.body ≡ true → has_members rest ≡ true → EachPlacePromised first Ever (front ++ e ∷ [])

-- what stands first stays first in a longer front
head_stays : (u : Path) (e : LogEntry) (z : Path) (a : LogEntry) (s : Path) → a ∷ s ≡ u ++ e ∷ z → (r : Path) × (u ++ e ∷ [] ≡ a ∷ r)
head_stays [] e z a s is = ([], let same : e ≡ a = cc in rw same refl)
head_stays (x ∷ u) e z a s is = (u ++ e ∷ [], let same : x ≡ a = cc in rw same refl)

module _ (first : Conf) (Ever : ℕ → Path → Type 0) (shorter : (v : ℕ) (p w : Path) → IsFrontOf p w → Ever v w → Ever v p) where
  met_shorter : (C : Conf) (p w : Path) → IsFrontOf p w → MetBy C (λ v. Ever v w) → MetBy C (λ v. Ever v p)
  met_shorter C p w pre met = record { who = met.who; each = λ v is. shorter v p w pre (met.each v is); enough = met.enough }

  module _ (committed : ℕ) (w : Path) (before : EachPlacePromised first Ever (take committed w)) (older : OldPromised first Ever w) (whole : MetBy (conf first w) (λ v. Ever v w)) (newest : committed < conf_index w → MetBy (older_conf first w) (λ v. Ever v (take (conf_index w) w))) where
    -- each place up to a Members entry
    upto_members : (u : Path) (e : LogEntry) (z : Path) (b : Bool) → has_members z ≡ b → is_members e.body ≡ true → w ≡ u ++ e ∷ z → MetBy (conf first u) (λ v. Ever v (u ++ e ∷ [])) ⊎ EachPlacePromised first Ever (u ++ e ∷ [])
    upto_members u e z true h m is = inr (older u e z (sym is) m h)
    upto_members u e z false h m is =
        let place : conf_index w ≡ length u + 1 = ap conf_index is ∙ last_at u e z m h in
        let less : conf_index w - 1 ≡ length u = omega (arith, place) in
        let upto : take (conf_index w) w ≡ u ++ e ∷ [] = ap (λ i. take i w) place ∙ (ap (take (length u + 1)) is ∙ take_upto u e z) in
        let under : take (conf_index w - 1) w ≡ u = ap (λ i. take i w) less ∙ (ap (take (length u)) is ∙ take_before u e z) in
        elim (cases_lt committed (conf_index w)) [
          | inl above ↦ inl (subst (λ C. MetBy C (λ v. Ever v (u ++ e ∷ []))) (ap (conf first) under) (subst (λ x. MetBy (older_conf first w) (λ v. Ever v x)) upto (newest above)))
          | inr within ↦ inr (each_shorter first Ever (u ++ e ∷ []) (take committed w) (subst (λ y. IsFrontOf y (take committed w)) upto (take_front (conf_index w) committed w within)) before)
        ]

    pub committed_each : EachPlacePromised first Ever w
    committed_each c a s is = elim (first_members (a ∷ s)) [
      | inl none ↦
          met_shorter (conf first c) (c ++ a ∷ []) (c ++ a ∷ s) (first_of_front c a s)
          (subst (λ C. MetBy C (λ v. Ever v (c ++ a ∷ s))) (conf-append first c (a ∷ s) ∙ conf_plain (conf first c) (a ∷ s) none)
          (subst (λ x. MetBy (conf first x) (λ v. Ever v x)) (sym is) whole))
      | inr f ↦
          let u : Path = c ++ f.front in
          let split : c ++ a ∷ s ≡ u ++ f.entry ∷ f.rest = ap (λ xs. c ++ xs) f.is ∙ sym (append_assoc c f.front (f.entry ∷ f.rest)) in
          let more = head_stays f.front f.entry f.rest a s f.is in
          let upto : u ++ f.entry ∷ [] ≡ c ++ a ∷ more.0 = append_assoc c f.front (f.entry ∷ []) ∙ ap (λ xs. c ++ xs) more.1 in
          elim (upto_members u f.entry f.rest (has_members f.rest) refl f.members (sym is ∙ split)) [
            | inl met ↦
                met_shorter (conf first c) (c ++ a ∷ []) (c ++ a ∷ more.0) (first_of_front c a more.0)
                (subst (λ C. MetBy C (λ v. Ever v (c ++ a ∷ more.0))) (conf-append first c f.front ∙ conf_plain (conf first c) f.front f.plain)
                (subst (λ x. MetBy (conf first u) (λ v. Ever v x)) upto met))
            | inr earlier ↦ earlier c a more.0 (sym upto)
          ]
    ]
