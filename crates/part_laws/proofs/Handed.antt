-- Without a collision, what a run hands to its learners goes on with the tables of which they took parts.
use Rattle.std.proofs.Common.{◌≡◌, ℕ, ◌<◌, inl, inr, Option, Some, List, [], ◌∷◌, length, refl, sym, ap, subst, ◌∙◌, arith}
use Rattle.std.specs.List.{AllByRecursion}
use Rattle.values.specs.declared.entry.Point.{Point}
use Rattle.values.specs.declared.peer.TablePart.{TablePart}
use Rattle.values.specs.declared.peer.PeerMsg.{PeerMsg}
use Rattle.values.specs.declared.peer.PeerMsg.TheVariants.{Part}
use Rattle.replica_model.specs.Path.{Link, end_point}
use Rattle.replica_model.specs.Message.{Message}
use Rattle.replica_model.specs.Replica.{Named, Taking, Role, Learner}
use Rattle.replica_model.specs.Tables.{point_taken}
use Rattle.replica_model.proofs.Parts.{one_part}
use Rattle.group_model.specs.Enclave.{HostInput, Peer}
use Rattle.group_model.specs.Group.{Sent}
use Rattle.group_model.specs.Log.{AnyByRecursion, NoCollision}
use Rattle.group_model.specs.Run.{Recorded, World, run}
use Rattle.outcome_laws.proofs.Recorded.{all_at}
use Rattle.part_laws.specs.Named.{GoesOn, IsNamed, IsNamedTo, IsNamedCall, CallsAreNamed}
use Rattle.part_laws.proofs.True.{GoodTables, HasGoodTables}
use Rattle.part_laws.proofs.Runs.{HandedSent, PartOf, IsPartOf, WasTold, TrueRun, run_true}
use Rattle.part_laws.proofs.Map.{KnownPart, Known, KnownMail, same_point_is, one_name, mail_known}

module _ (link : Link) (w : World) (none : NoCollision link w) where
  part_point : (names : Named) (part : TablePart) → KnownPart link w none names part → part.point ≡ end_point link names.path
  part_point names part k = ap (λ (x : TablePart). x.point) k.true_part.is_part

  -- so no later part has the point of the empty path
  first_alone : (names : Named) (part : TablePart) → KnownPart link w none names part → length names.path ≡ 0 → part.part < 1
  first_alone names part k empty =
      subst (λ (n : ℕ). part.part < n) (ap (λ (x : TablePart). x.parts) k.true_part.is_part ∙ one_part names names.path refl empty) k.true_part.below

  -- a part that names this was sent
  abbrev KnownTable : Named → Type 0
  KnownTable names = (part : TablePart) × KnownPart link w none names part

  part_known : (names other : Named) (msg : PeerMsg) → Known link w none other msg → PartOf names other msg → KnownTable names
  part_known names other (Part term part) k is = (part, subst (λ (n : Named). KnownPart link w none n part) is k)
  part_known names other rest k is = absurd is

  sent_known : (names : Named) (messages : List (Sent Message)) → AllByRecursion (KnownMail link w none) messages → AnyByRecursion (IsPartOf names) messages → KnownTable names
  sent_known names [] known any = absurd any
  sent_known names (m ∷ messages) known (inl here) = part_known names m.message.names m.message.msg known.0 here
  sent_known names (m ∷ messages) known (inr there) = sent_known names messages known.1 there

  module _ (known : AllByRecursion (KnownMail link w none) w.messages) where
    goes_on : (taking : Taking) → WasTold w.messages taking.names → (names : Named) (part : TablePart) → KnownPart link w none names part → GoesOn link taking part names
    goes_on taking (inl nothing) names part k later same =
        let at : part.point ≡ point_taken link taking = same_point_is part.point (point_taken link taking) same in
        let empty : length names.path ≡ 0 = ap (λ (p : Point). p.index) (sym (part_point names part k) ∙ (at ∙ ap (λ (n : Named). end_point link n.path) nothing)) in
        let first : part.part < 1 = first_alone names part k empty in
        absurd (omega (arith, later, first))
    goes_on taking (inr told) names part k later same =
        let table : KnownTable taking.names = sent_known taking.names w.messages known told in
        one_name link w none names taking.names part table.0 k table.1
        (same_point_is part.point (point_taken link taking) same ∙ sym (part_point taking.names table.0 table.1))

    msg_named : (taking : Taking) → WasTold w.messages taking.names → (names : Named) (msg : PeerMsg) → Known link w none names msg → IsNamed link (Learner taking) msg names
    msg_named taking told names (Part term part) k = (k.true_part, goes_on taking told names part k)
    msg_named taking told names other k = tt

    peer_named : (limit : ℕ) (role : Role) → GoodTables (WasTold w.messages) limit role → (names : Named) (msg : PeerMsg) → Known link w none names msg → IsNamed link role msg names
    peer_named limit (Learner taking) told names msg k = msg_named taking told names msg k
    peer_named limit other told names msg k = tt

    handed_named : (limit : ℕ) (role : Role) → GoodTables (WasTold w.messages) limit role → (input : Option (HostInput Message)) → HandedSent w.messages input → IsNamedTo link role input
    handed_named limit role told (Some (Peer from to m)) sent =
        peer_named limit role told m.names m.msg (all_at (KnownMail link w none) w.messages (record { from = from; to = to; message = m }) sent known)
    handed_named limit role told other sent = tt

    all_named : (history : List Recorded) → AllByRecursion (λ (r : Recorded). HandedSent w.messages r.input) history → AllByRecursion (λ (r : Recorded). HasGoodTables (WasTold w.messages) r.before) history → AllByRecursion (IsNamedCall link) history
    all_named [] handed found = tt
    all_named (r ∷ history) handed found = (handed_named r.before.limit r.before.role found.0 r.input handed.0, all_named history handed.1 found.1)

pub calls_are_named : CallsAreNamed
calls_are_named link events none =
    let w : World = run link events in
    let kept : TrueRun link w.messages w.field = run_true link events in
    all_named link w none (mail_known link events none) w.field.history kept.handed kept.found
