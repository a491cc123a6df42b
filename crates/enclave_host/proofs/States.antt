-- Saved states stand for those of the model by their numbers.
use Rattle.std.proofs.Common.{◌≡◌, ◌∙◌, sym, ap, subst, refl, ℕ, zero, suc, ◌+◌, ◌-◌, ◌<◌, ◌≤◌, ◌==◌, eqb, ◌++◌, Bool, true, false, List, [], ◌∷◌, length, inl, inr, Option, Some, None, arith}
use Rattle.std.specs.Prelude.{not, slice_get}
use Rattle.std.proofs.lemmas.Bool.{eqb-true, eqb-false, cases_lt}
use Rattle.values.specs.declared.batch.Batch.{Batch}
use Rattle.values.specs.declared.batch.Refusal.TheVariants.{NoState}
use Rattle.schedule_model.specs.Reading.{max_u32}
use Rattle.replica_model.specs.Call.{empty_batch}
use Rattle.replica_model.specs.Linked.{sha_link}
use Rattle.replica_model.specs.Replica as model
use Rattle.attested_link.specs.Links.{is_linked}
use Rattle.group_quorum.specs.Voters.{is_in}
use Rattle.replica_core.specs.declared.replica.State.{State}
use Rattle.replica_core.specs.Standing as core
use Rattle.group_model.specs.Enclave.{Enclave, Roll, Save, called, rolls_to, saves_if}
use Rattle.enclave_host.specs.declared.running.Running.{Running}
use Rattle.enclave_host.specs.Standing.{SavedFor, RunsFor, Becomes}

saved-push : (rs : List State) (ss : List model.Replica) (r : State) (s : model.Replica) → SavedFor rs ss → core.StandsFor r s
    → SavedFor (rs ++ r ∷ []) (ss ++ s ∷ [])
saved-push [] [] r s all last = (last, tt)
saved-push [] (t ∷ ss) r s all last = absurd all
saved-push (t ∷ rs) [] r s all last = absurd all
saved-push (t ∷ rs) (u ∷ ss) r s all last = (all.0, saved-push rs ss r s all.1 last)

saved-length : (rs : List State) (ss : List model.Replica) → SavedFor rs ss → length rs ≡ length ss
saved-length [] [] all = refl
saved-length [] (t ∷ ss) all = absurd all
saved-length (t ∷ rs) [] all = absurd all
saved-length (t ∷ rs) (u ∷ ss) all = ap suc (saved-length rs ss all.1)

abbrev FoundFor : Option State → Option model.Replica → Type 0
FoundFor None None = Unit {0}
FoundFor (Some r) (Some s) = core.StandsFor r s
FoundFor _ _ = ⊥

found-for : (k : ℕ) (rs : List State) (ss : List model.Replica) → SavedFor rs ss → FoundFor (slice_get rs k) (slice_get ss k)
found-for k [] [] all = tt
found-for k [] (t ∷ ss) all = absurd all
found-for k (t ∷ rs) [] all = absurd all
found-for zero (t ∷ rs) (u ∷ ss) all = all.0
found-for (suc k) (t ∷ rs) (u ∷ ss) all = found-for k rs ss all.1

-- whoever keeps this stands for the model's
pub as-before : (r t : Running) (e : Enclave) → RunsFor r e → t.replica ≡ r.replica → t.links ≡ r.links → t.saved.items ≡ r.saved.items → RunsFor t e
as-before r t e runs replica links saved =
    record {
      replica = subst (λ x. core.StandsFor x e.replica) (sym replica) runs.replica;
      links = subst (λ x. (v : ℕ) → is_linked x v ≡ is_in e.links v) (sym links) runs.links;
      saved = subst (λ x. SavedFor x e.saved) (sym saved) runs.saved;
    }

module _ (r t : Running) (b : Batch) (e : Enclave) (runs : RunsFor r e) (links : t.links ≡ r.links) where
  same-links : (v : ℕ) → is_linked t.links v ≡ is_in e.links v
  same-links = subst (λ x. (v : ℕ) → is_linked x v ≡ is_in e.links v) (sym links) runs.links

  rolled-to : (k : ℕ) (found : Option model.Replica) → t.saved ≡ r.saved → b ≡ empty_batch → FoundFor (Some t.replica) found → Becomes t b (rolls_to e k found)
  rolled-to k None saved nothing found = absurd found
  rolled-to k (Some s) saved nothing found =
      (record { replica = found; links = same-links; saved = subst (λ x. SavedFor x.items e.saved) (sym saved) runs.saved }, nothing)

  pub rolled : (k : ℕ) → slice_get r.saved.items k ≡ Some t.replica → t.saved ≡ r.saved → b ≡ empty_batch → Becomes t b (called sha_link e (Roll k))
  rolled k is saved nothing =
      rolled-to k (slice_get e.saved k) saved nothing
      (subst (λ o. FoundFor o (slice_get e.saved k)) is (found-for k r.saved.items e.saved runs.saved))

  saved-to : (n : ℕ) (full : Bool) → n ≡ length r.saved.items → 1 ≤ n → n ≤ max_u32 → eqb (length e.saved - 1) max_u32 ≡ full
      → t.replica ≡ r.replica → t.saved.items ≡ r.saved.items ++ r.replica ∷ [] → b ≡ record empty_batch { saved = Some n } → Becomes t b (saves_if (not full) e)
  saved-to n true count some few is replica saved told =
      absurd (let top = eqb-true (length e.saved - 1) max_u32 is in let same = saved-length r.saved.items e.saved runs.saved in omega (arith, count, some, few, top, same))
  saved-to n false count some few is replica saved told = (
    record {
      replica = subst (λ x. core.StandsFor x e.replica) (sym replica) runs.replica;
      links = same-links;
      saved = subst (λ x. SavedFor x (e.saved ++ e.replica ∷ [])) (sym saved) (saved-push r.saved.items e.saved r.replica e.replica runs.saved runs.replica);
    },
    told ∙ ap (λ (m : ℕ). record empty_batch { saved = Some m }) (count ∙ saved-length r.saved.items e.saved runs.saved),
  )

  pub saved-as : (n : ℕ) → n ≡ length r.saved.items → 1 ≤ n → n ≤ max_u32 → t.replica ≡ r.replica → t.saved.items ≡ r.saved.items ++ r.replica ∷ []
      → b ≡ record empty_batch { saved = Some n } → Becomes t b (called sha_link e Save)
  saved-as n count some few replica saved told = saved-to n (eqb (length e.saved - 1) max_u32) count some few refl replica saved told

-- what is refused changes nothing
module _ (r : Running) (b : Batch) (e : Enclave) (runs : RunsFor r e) where
  none-to : (k : ℕ) (found : Option model.Replica) → FoundFor None found → b ≡ record empty_batch { refused = Some (NoState k) } → Becomes r b (rolls_to e k found)
  none-to k None found told = (runs, told)
  none-to k (Some s) found told = absurd found

  pub not-rolled : (k : ℕ) → slice_get r.saved.items k ≡ None → b ≡ record empty_batch { refused = Some (NoState k) } → Becomes r b (called sha_link e (Roll k))
  not-rolled k is told = none-to k (slice_get e.saved k) (subst (λ o. FoundFor o (slice_get e.saved k)) is (found-for k r.saved.items e.saved runs.saved)) told

  full-to : (full : Bool) → length r.saved.items ≡ max_u32 + 1 → eqb (length e.saved - 1) max_u32 ≡ full
      → b ≡ record empty_batch { refused = Some (NoState max_u32) } → Becomes r b (saves_if (not full) e)
  full-to true count is told = (runs, told)
  full-to false count is told =
      absurd (eqb-false (length e.saved - 1) max_u32 is (let same = saved-length r.saved.items e.saved runs.saved in omega (arith, count, same)))

  pub not-saved : length r.saved.items ≡ max_u32 + 1 → b ≡ record empty_batch { refused = Some (NoState max_u32) } → Becomes r b (called sha_link e Save)
  not-saved count told = full-to (eqb (length e.saved - 1) max_u32) count refl told

pub full-is : (n len : ℕ) → n ≡ len → (n < 4294967296 → ⊥) → len ≤ max_u32 + 1 → len ≡ max_u32 + 1
full-is n len same not_lt few = elim (cases_lt n 4294967296) [ inl lt ↦ absurd (not_lt lt) | inr ge ↦ omega (arith, same, few, ge) ]
