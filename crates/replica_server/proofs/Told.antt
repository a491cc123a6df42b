-- How serving ended over a source that tells.
use Rattle.std.proofs.Common.{◌≡◌, Option, Some, None, List, [], ◌++◌, refl, sym, ap, subst, ◌∙◌, ℕ, ◌≤◌, length, IfSome}
use Rattle.std.specs.Io.KnownBytes.{Appends, Consumes}
use Rattle.values.specs.declared.entry.Point.{Point}
use Rattle.replica_model.specs.Linked.{sha_link}
use Rattle.replica_model.specs.Replica.{Named}
use Rattle.trace_model.specs.Session.{Tagging, IsMapFor}
use Rattle.enclave_host.specs.Words.{wording}
use Rattle.replica_server.specs.declared.served.Served.{Served}
use Rattle.replica_server.specs.declared.served.Served.TheVariants as served
use Rattle.values.specs.declared.limits.TheConstants.{MAX_BATCH}
use Rattle.std.proofs.lemmas.List.Elements.{All-nil}
use Rattle.replica_server.specs.Serving.{answer_of, ServedOver}
use Rattle.replica_server.specs.Turning.{SoFar, EndsSo}
use Rattle.replica_server.proofs.Reaching.{reach_none}

-- what was gained in all
gained_so : (old new : Option (List ℕ)) (written text : List ℕ) → Appends old new written → Appends (Some []) (Some written) text → Appends old new text
gained_so old new written text h e = subst (Appends old new) e h

module _ (tagging : Tagging) (names : Point → Named) where
  over_sink : (all : List ℕ) (left old new : Option (List ℕ)) (written : List ℕ) (r : Served) → Appends old new written
      → ServedOver tagging names all left (Some []) (Some written) r → ServedOver tagging names all left old new r
  over_sink all left old new written served.Done h (a, b, c, d) = (a, b, c, gained_so old new written _ h d)
  over_sink all left old new written (served.Frame at why) h (a, b, c, d) = (a, b, c, gained_so old new written _ h d)
  over_sink all left old new written served.Limit h (a, b, c) = (a, b, gained_so old new written _ h c)
  over_sink all left old new written served.ReadFault h (a, b, c, d) = (a, b, c, gained_so old new written _ h d)
  over_sink all left old new written served.WriteFault h (a, b, c, d, e) = (a, b, c, d, gained_so old new written _ h e)
  over_sink all left old new written served.Memory h (a, b, c, d, e) = (a, b, c, d, gained_so old new written _ h e)

-- a source that tells all that it held
pub told : (tagging : Tagging) (left_old left_new old new : Option (List ℕ)) (read written : List ℕ) (r : Served) → Consumes left_old left_new read → Appends old new written
    → EndsSo tagging read written left_new r
    → IfSome left_old (λ all. (names : Point → Named) → IsMapFor wording tagging sha_link names all → ServedOver tagging names all left_new old new r)
told tagging None left_new old new read written r consumed gained ends = tt
told tagging (Some all) None old new read written r consumed gained ends = absurd consumed
told tagging (Some all) (Some left) old new read written r consumed gained ends = λ names whose.
    over_sink tagging names all (Some left) old new written r gained
    (subst (λ xs. ServedOver tagging names xs (Some left) (Some []) (Some written) r) (sym consumed) (ends names left refl (subst (IsMapFor wording tagging sha_link names) consumed whose)))

-- before the first frame
pub at_first : (tagging : Tagging) → SoFar tagging [] [] (record { at = 0; number = 0; enclave = None })
at_first tagging names future whose =
    record {
      handed = [];
      place = record { offset = 0; number = 0; before = None };
      reached = reach_none wording tagging sha_link names;
      offset = refl;
      number = refl;
      count = refl;
      answered = refl;
      short = All-nil (λ h. length (answer_of tagging names h) ≤ MAX_BATCH);
      stands = tt;
      by_map = tt;
    }
