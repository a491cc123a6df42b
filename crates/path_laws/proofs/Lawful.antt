-- What is kept comes to the laws.
use Rattle.std.proofs.Common.{◌≡◌, ◌<◌, ◌≤◌, Bool, inl, inr, Some, [], ◌∷◌, ◌++◌, length, take, refl, sym, ap, ◌∙◌, subst, append_assoc, arith}
use Rattle.std.proofs.lemmas.List.{length_push, length-take-le}
use Rattle.values.specs.declared.entry.LogEntry.{LogEntry}
use Rattle.replica_model.specs.Path.{Path}
use Rattle.group_quorum.specs.Conf.{Conf}
use Rattle.group_model.specs.Log.{IsFrontOf}
use Rattle.path_machine.specs.Node.{Node}
use Rattle.path_machine.specs.Machine.{Machine, start, run}
use Rattle.path_machine.specs.Laws.{Held, MachineLaws, RunsKeepTheLaws}
use Rattle.agreement.proofs.Fronts.{begins}
use Rattle.path_machine.proofs.Fronts.{front_long}
use Rattle.path_machine.proofs.Completeness.{same_reign, complete}
use Rattle.path_machine.proofs.Good.{ledger, Place, Kept}
use Rattle.path_laws.proofs.Kept.{run_kept, start_kept}
use Rattle.path_laws.proofs.Recorded.{Recorded, run_recorded, start_recorded}
use Rattle.path_laws.proofs.Configurations.{Changed, held_changed}

equal_long : (p q l : Path) → IsFrontOf p l → IsFrontOf q l → length p ≡ length q → p ≡ q
equal_long [] [] l a b same = refl
equal_long [] (y ∷ q) l a b same = absurd (omega (arith, same))
equal_long (x ∷ p) [] l a b same = absurd (omega (arith, same))
equal_long (x ∷ p) (y ∷ q) [] a b same = absurd (let none : x ∷ (p ++ a.0) ≡ [] = a.1 in cc)
equal_long (x ∷ p) (y ∷ q) (z ∷ l) a b same =
    let one : x ∷ (p ++ a.0) ≡ z ∷ l = a.1 in
    let two : y ∷ (q ++ b.0) ≡ z ∷ l = b.1 in
    let tail : p ++ a.0 ≡ l = cc in
    let tail' : q ++ b.0 ≡ l = cc in
    let head : x ≡ y = cc in
    let rest : p ≡ q = equal_long p q l (a.0, tail) (b.0, tail') (omega (arith, same)) in
    cc

module _ (first : Conf) (w : Machine) (k : Kept first w) where
  -- the last entry of a path held stands where its leader put it
  placed : (p : Path) (a : LogEntry) → Held w (p ++ a ∷ []) → Place first w.history p a
  placed p a held = ((k.held held.0 held.1).1 p a held.2.0 (sym (append_assoc p (a ∷ []) held.2.0) ∙ held.2.1)).1

  matches : (p q : Path) (a b : LogEntry) → Held w (p ++ a ∷ []) → Held w (q ++ b ∷ []) → length p ≡ length q → a.term ≡ b.term → p ++ a ∷ [] ≡ q ++ b ∷ []
  matches p q a b here there long term =
      let x = placed p a here in
      let y = placed q b there in
      let same : x.reign ≡ y.reign = same_reign (w.history.reigns b.term) x.reign y.reign (subst (λ n. w.history.reigns n ≡ Some x.reign) term x.is) y.is in
      let up : IsFrontOf (p ++ a ∷ []) (ledger y.reign) = subst (λ r. IsFrontOf (p ++ a ∷ []) (ledger r)) same x.upto in
      equal_long (p ++ a ∷ []) (q ++ b ∷ []) (ledger y.reign) up y.upto (omega (arith, length_push p a, length_push q b, long))

  not_short : (s : Node) → s.promised ≤ length s.path → 0 < s.promised → take s.promised s.path ≡ [] → ⊥
  not_short s le some none =
      let long : length (take s.promised s.path) ≡ s.promised = length-take-le s.promised s.path le in
      let zero' : length (take s.promised s.path) ≡ 0 = ap length none in
      omega (arith, long, zero')

  pub lawful : (near : Conf → Conf → Bool) → Recorded w → ((p : Path) → Held w p → Changed first near p) → MachineLaws first near w
  lawful near r changed = record {
    one_leader = λ a b in_a in_b same.
        let x = k.leads a in_a in
        let y = k.leads b in_b in
        let one : x.0 ≡ y.0 = same_reign (w.history.reigns b.term) x.0 y.0 (subst (λ n. w.history.reigns n ≡ Some x.0) same x.1) y.1 in
        sym x.2 ∙ (ap (λ r. r.leader) one ∙ y.2);
    log_matching = matches;
    leader_completeness = λ l t p at chosen lt.
        let x = k.leads l at in
        begins p x.0.base l.path (complete first w.history k.history l.term x.0 x.1 t p chosen lt) x.3;
    promises_lie = λ v s is some. elim (k.nodes v s is).settled [
      | inl none ↦ absurd (not_short s (k.nodes v s is).fits some none)
      | inr x ↦ (x.term, x.path, x.chosen, x.front)
    ];
    no_halt = λ v s is. (k.nodes v s is).alive;
    lead_recorded = r.leads;
    path_recorded = r.held;
    committed_promised = λ v s is. (k.nodes v s is).within;
    promised_held = λ v s is. (k.nodes v s is).fits;
    learner_empty = λ v s is. (k.nodes v s is).nothing;
    changes = λ p held. changed p held p (Rattle.path_machine.proofs.Fronts.front_refl p);
  }

-- the laws of every run
pub lawful_run : RunsKeepTheLaws
lawful_run near overlaps first holds moves =
    let w : Machine = run first near (start holds) moves in
    lawful first w (run_kept first near overlaps (start holds) moves (start_kept first near overlaps holds)) near
    (run_recorded first near (start holds) moves (start_recorded holds))
    (λ p held q pre. held_changed first near holds moves held.0 held.1 q (begins q p held.0 pre held.2))
