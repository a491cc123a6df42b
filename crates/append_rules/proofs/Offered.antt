-- What came of an append is what the model says.
use Rattle.std.proofs.Common.{◌≡◌, ℕ, cond, nat_le, min, max, Option, Some, None, List, [], ◌∷◌, refl, sym, ap, subst, ◌∙◌}
use Rattle.std.proofs.lemmas.Bool.{lt-leb, le-leb, cond-true, cond-false}
use Rattle.values.specs.declared.entry.Point.{Point}
use Rattle.values.specs.declared.peer.PeerMsg.{PeerMsg}
use Rattle.values.specs.declared.peer.PeerMsg.TheVariants.{Accepted, Rejected}
use Rattle.replica_model.specs.Path.{point}
use Rattle.replica_model.specs.Linked.{sha_link}
use Rattle.replica_model.specs.Message.{Message, plain}
use Rattle.replica_model.specs.Replica.{Replica}
use Rattle.replica_model.specs.Call.{Call, says}
use Rattle.replica_model.specs.Graft.{Offer, Difference, end_of, first_difference, points_of, refusal_hint, halts, following, grafted, accepts, answered, graft, conflict_or_graft, append_heard}
use Rattle.replica_log.specs.Window.{Window}
use Rattle.replica_log.specs.Models.{StandsFor, IsNoConflict, IsConflict, IsRefused, IsGrafted, with_graft}
use Rattle.append_rules.specs.declared.take.Taken.TheVariants.{Replied, Conflict}
use Rattle.append_rules.specs.Taken.{TakesOffer, unless_refused, cut_at}

-- ---- the model's call in each of the three cases

-- without a conflict it grafts, or refuses
joins : (s : Replica) (o : Offer) (d : Option Difference) → IsNoConflict s d → conflict_or_graft sha_link s d o ≡ graft sha_link s d o
joins s o None free = refl
joins s o (Some d) free = ap (λ b. cond b (halts s d) (graft sha_link s (Some d) o)) (lt-leb d.0 s.promised free)

module _ (s : Replica) (o : Offer) where
  grafted_call : (cut : Option Difference) → first_difference sha_link s (points_of sha_link o) ≡ cut → IsNoConflict s cut → refusal_hint s cut o ≡ None
      → append_heard sha_link s o ≡ accepts sha_link (grafted (following s o.from) cut o) o
  grafted_call cut found free taken =
      ap (λ d. conflict_or_graft sha_link s d o) found ∙ joins s o cut free ∙ ap (answered sha_link (following s o.from) cut o) taken

  refused_call : (hint : ℕ) → IsRefused sha_link s o hint → append_heard sha_link s o ≡ says (following s o.from) o.from (Rejected s.term o.prev.index hint)
  refused_call hint is =
      let d : Option Difference = first_difference sha_link s (points_of sha_link o) in
      joins s o d is.no_conflict ∙ ap (answered sha_link (following s o.from) d o) is.refused

  conflict_call : (d : Difference) → IsConflict sha_link s o d → append_heard sha_link s o ≡ halts s d
  conflict_call d is =
      ap (λ f. conflict_or_graft sha_link s f o) is.first ∙ ap (λ b. cond b (halts s d) (graft sha_link s (Some d) o)) (le-leb d.0 s.promised is.promised)

  -- ---- where the path is cut in each case

  refused_cut : (d : Option Difference) (hint : ℕ) → IsNoConflict s d → refusal_hint s d o ≡ Some hint → cut_at s d o ≡ None
  refused_cut None hint free refused = refl
  refused_cut (Some d) hint free refused =
      cond-false (nat_le d.0 s.promised) None (unless_refused (refusal_hint s (Some d) o) d) (lt-leb d.0 s.promised free)
      ∙ ap (λ r. unless_refused r d) refused

  grafted_cut : (d : Option Difference) → IsNoConflict s d → refusal_hint s d o ≡ None → cut_at s d o ≡ d
  grafted_cut None free taken = refl
  grafted_cut (Some d) free taken =
      cond-false (nat_le d.0 s.promised) None (unless_refused (refusal_hint s (Some d) o) d) (lt-leb d.0 s.promised free)
      ∙ ap (λ r. unless_refused r d) taken

  -- ---- the answer in each case

  pub takes_conflict : (d : Difference) (w : Window) → IsConflict sha_link s o d → StandsFor sha_link w s
      → TakesOffer s o w (Conflict d.0 d.1 d.2)
  takes_conflict d w is stands =
      let e = conflict_call d is in
      record {
        stands = subst (λ (c : Call). StandsFor sha_link w c.state) (sym e) stands;
        halts = ap (λ (c : Call). c.batch.halt) e;
        replies = ap (λ (c : Call). c.sent) e;
        cuts = sym (ap (λ f. cut_at s f o) is.first ∙ cond-true (nat_le d.0 s.promised) None (unless_refused (refusal_hint s (Some d) o) d) (le-leb d.0 s.promised is.promised));
      }

  pub takes_refused : (hint term : ℕ) (prev : Point) (w : Window) → IsRefused sha_link s o hint → s.term ≡ term → o.prev ≡ prev → StandsFor sha_link w s
      → TakesOffer s o w (Replied (Rejected term prev.index hint) None)
  takes_refused hint term prev w is term_is prev_is stands =
      let e = refused_call hint is in
      let to : PeerMsg → List (ℕ × Message) = λ msg. (o.from, plain msg) ∷ [] in
      record {
        stands = subst (λ (c : Call). StandsFor sha_link w c.state) (sym e) stands;
        halts = ap (λ (c : Call). c.batch.halt) e;
        replies = ap (λ (c : Call). c.sent) e ∙ ap (λ n. to (Rejected n o.prev.index hint)) term_is ∙ ap (λ (p : Point). to (Rejected term p.index hint)) prev_is;
        cuts = sym (refused_cut (first_difference sha_link s (points_of sha_link o)) hint is.no_conflict is.refused);
      }

  pub takes_grafted : (end : Point) (cut : Option Difference) (term promised : ℕ) (w u : Window) → IsGrafted sha_link s o w end cut → s.term ≡ term
      → StandsFor sha_link u (record (with_graft s cut o) {
        promised = max s.promised (min o.promise (end_of o));
        committed = max s.committed (min o.commit (min o.promise (end_of o)));
      })
      → promised ≡ max s.promised (min o.promise (end_of o))
      → TakesOffer s o u (Replied (Accepted term end (min promised (end_of o))) cut)
  takes_grafted end cut term promised w u is term_is stands promised_is =
      let e = grafted_call cut is.found is.no_conflict is.taken in
      let to : PeerMsg → List (ℕ × Message) = λ msg. (o.from, plain msg) ∷ [] in
      let here : Point = point sha_link (with_graft s cut o).path (end_of o) in
      let n : ℕ = max s.promised (min o.promise (end_of o)) in
      record {
        stands = subst (λ (c : Call). StandsFor sha_link u c.state) (sym e) stands;
        halts = ap (λ (c : Call). c.batch.halt) e;
        replies =
            ap (λ (c : Call). c.sent) e
            ∙ ap (λ k. to (Accepted k here (min n (end_of o)))) term_is
            ∙ ap (λ p. to (Accepted term p (min n (end_of o)))) (sym is.ends)
            ∙ ap (λ k. to (Accepted term end (min k (end_of o)))) (sym promised_is);
        cuts = sym (ap (λ f. cut_at s f o) is.found ∙ grafted_cut cut is.no_conflict is.taken);
      }
