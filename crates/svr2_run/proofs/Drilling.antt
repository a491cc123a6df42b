-- How the summary of a drill was written, as the end of a run.
use Rattle.std.proofs.Common.{◌≡◌, ◌⊎◌, inl, inr, ℕ, List, refl, sym, subst, Option, Some, Result, Ok, Err, IfOk, OnErr}
use Rattle.std.specs.Io.KnownBytes.{Appends}
use Rattle.byte_streams.specs.Streams.{AppendsPrefix}
use Rattle.sha2.specs.Sha256.{sha256}
use Rattle.replica_model.specs.Linked.{sha_link}
use Rattle.trace_model.specs.Summary.{summary}
use Rattle.svr2_run.specs.Drills.{DrillsTo}
use Rattle.svr2_run.specs.Texts.{WroteText}
use Rattle.svr2_run.specs.declared.exit.Status.{Status}
use Rattle.svr2_run.specs.declared.exit.Status.TheVariants as status
use Rattle.svr2_run.specs.declared.words.Command.{Command}
use Rattle.svr2_run.specs.declared.words.Command.TheVariants.{Drill}

pub drills_to : {T E : Type 0} (items : T → List ℕ) (text : Result T E) (seed clients : ℕ) (old new : Option (List ℕ)) (result : Status)
    → IfOk text (λ t. items t ≡ summary sha256 sha_link seed clients)
    → IfOk text (λ t. WroteText old new (items t) status.Done result)
    → OnErr text ((result ≡ status.Memory) × (new ≡ old)) → DrillsTo seed clients old new result
drills_to items (Ok t) seed clients old new result is (inl (ended, wrote)) none =
    subst (DrillsTo seed clients old new) (sym ended) (subst (Appends old new) is wrote)
drills_to items (Ok t) seed clients old new result is (inr (ended, wrote)) none =
    subst (DrillsTo seed clients old new) (sym ended) (subst (AppendsPrefix old new) is wrote)
drills_to items (Err e) seed clients old new result is wrote (ended, none) =
    subst (DrillsTo seed clients old new) (sym ended) none

-- the words say one drill
pub one_drill : (o : Option Command) (s c : ℕ) (P : ℕ → ℕ → Type 0) → o ≡ Some (Drill s c) → P s c → (seed clients : ℕ) → o ≡ Some (Drill seed clients) → P seed clients
one_drill o s c P is h seed clients says =
    let seeds : s ≡ seed = cc in
    let counts : c ≡ clients = cc in
    subst (λ (n : ℕ). P seed n) counts (subst (λ (n : ℕ). P n c) seeds h)
