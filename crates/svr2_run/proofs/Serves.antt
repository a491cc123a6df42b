-- How serving ended, as the status of a run.
use Rattle.std.proofs.Common.{◌≡◌, ℕ, List, [], refl, subst, sym, Option, Some, None, IfSome}
use Rattle.std.proofs.KnownBytes.{Appends-nil}
use Rattle.values.specs.declared.entry.Point.{Point}
use Rattle.replica_model.specs.Linked.{sha_link}
use Rattle.replica_model.specs.Replica.{Named}
use Rattle.trace_model.specs.Session.{Tagging, IsMapFor}
use Rattle.enclave_host.specs.Words.{wording}
use Rattle.replica_server.specs.Serving.{ServedOver, answers_to, session_of}
use Rattle.replica_server.specs.declared.served.Served.{Served}
use Rattle.replica_server.specs.declared.served.Served.TheVariants as served
use Rattle.svr2_run.specs.Sessions.{ServesOver, status_of}
use Rattle.svr2_run.specs.declared.exit.Status.{Status}
use Rattle.svr2_run.specs.declared.exit.Status.TheVariants as status

module _ (tagging : Tagging) where
  serves_over : (names : Point → Named) (all : List ℕ) (left x y : Option (List ℕ)) (r : Served) → ServedOver tagging names all left x y r → ServesOver tagging names all left x y (status_of r)
  serves_over names all left x y served.Done h = h
  serves_over names all left x y served.Memory h = h
  serves_over names all left x y served.ReadFault h = h
  serves_over names all left x y served.WriteFault h = h
  serves_over names all left x y (served.Frame at why) h = (at, why, h)
  serves_over names all left x y served.Limit h = h

  pub told_serves : (left left' x y : Option (List ℕ)) (r : Served) (s : Status) → s ≡ status_of r
      → IfSome left (λ all. (names : Point → Named) → IsMapFor wording tagging sha_link names all → ServedOver tagging names all left' x y r)
      → IfSome left (λ all. (names : Point → Named) → IsMapFor wording tagging sha_link names all → ServesOver tagging names all left' x y s)
  told_serves None left' x y r s is h = tt
  told_serves (Some all) left' x y r s is h = λ names map. subst (ServesOver tagging names all left' x y) (sym is) (serves_over names all left' x y r (h names map))

-- nothing was read
pub unread_session : (tagging : Option Tagging) (left x : Option (List ℕ))
    → IfSome tagging (λ tagging. IfSome left (λ all. (names : Point → Named) → IsMapFor wording tagging sha_link names all → ServesOver tagging names all left x x status.Memory))
unread_session None left x = tt
unread_session (Some tagging) None x = tt
unread_session (Some tagging) (Some all) x = λ names map. ([], refl, [], (answers_to tagging names (session_of tagging names []).handed, refl), Appends-nil x)
