-- What a leader knows of its peers still fits as it hears of them, sends to them and pushes.
use Rattle.std.proofs.Common.{◌≡◌, ℕ, ◌+◌, ◌≤◌, inl, inr, Some, None, List, [], ◌∷◌, ◌++◌, length, take, sym, ap, ◌∙◌, subst, arith}
use Rattle.std.specs.Prelude.{unwrap_or, map}
use Rattle.std.proofs.lemmas.Option.{same_Some}
use Rattle.std.proofs.lemmas.List.{take-append-le, length_push}
use Rattle.values.specs.declared.entry.LogEntry.{LogEntry}
use Rattle.replica_model.specs.declared.Progress.{Progress}
use Rattle.replica_model.specs.Path.{Path}
use Rattle.replica_model.specs.Keyed.{value_at, put, without}
use Rattle.replica_model.specs.Replica.{Sending, Leading, Replica}
use Rattle.replica_model.specs.Peers.{progress_of, with_progress, others, voters_counted}
use Rattle.replica_model.specs.Votes.{leading_anew}
use Rattle.log_laws.proofs.Lookups.{put_cases, without_stood, map_stands}
use Rattle.log_laws.proofs.Leading.{unknown}
use Rattle.halt_laws.proofs.Alike.{LeadingFits}

-- the progress of one peer is put: what holds of it and of each other
progress_put : (l : Leading) (u : ℕ) (p : Progress) (P : ℕ → Progress → Type 0) → P u p → ((x : ℕ) → P x (progress_of l x)) → (x : ℕ) → P x (progress_of (with_progress l u p) x)
progress_put l u p P new old x = elim (put_cases l.progress u p x) [
  | inl here ↦ subst (P x) (sym (ap (λ o. unwrap_or o unknown) here.1)) (subst (λ y. P y p) here.0 new)
  | inr there ↦ subst (P x) (sym (ap (λ o. unwrap_or o unknown) there.1)) (old x)
]

-- a new leader knows nothing
progress_anew : (ids : List ℕ) (p : Progress) (P : Progress → Type 0) → P p → P unknown → (x : ℕ) → P (unwrap_or (value_at (map (λ v. (v, p)) ids) x) unknown)
progress_anew ids p P new nothing x = elim (map_stands ids p x) [
  | inl some ↦ subst P (sym (ap (λ o. unwrap_or o unknown) some)) new
  | inr none ↦ subst P (sym (ap (λ o. unwrap_or o unknown) none)) nothing
]

pub anew_fits : (s : Replica) (path : Path) (committed : ℕ) (marks : ℕ → ℕ) → length s.path ≤ length path → LeadingFits path committed (leading_anew s) marks
anew_fits s path committed marks long =
    let ids : List ℕ = others s.me (voters_counted s) in
    let p : Progress = record { next = length s.path + 1; mark = 0; promised = 0 } in
    record {
      next_fits = λ u. progress_anew ids p (λ x. x.next ≤ length path + 1) (omega arith) (omega arith) u;
      mark_fits = λ u. progress_anew ids p (λ x. x.mark ≤ length path) (omega arith) (omega arith) u;
      marked = λ u. progress_anew ids p (λ x. x.mark ≤ marks u) (omega arith) (omega arith) u;
      sendings = λ u sending is. absurd (let apart : None ≡ Some sending = is in cc);
    }

module _ (path : Path) (committed : ℕ) (l : Leading) where
  pub put_fits : (marks marks' : ℕ → ℕ) (u : ℕ) (p : Progress) → p.next ≤ length path + 1 → p.mark ≤ length path → p.mark ≤ marks' u → ((x : ℕ) → marks x ≤ marks' x) → LeadingFits path committed l marks → LeadingFits path committed (with_progress l u p) marks'
  put_fits marks marks' u p next mark marked more k = record {
    next_fits = progress_put l u p (λ x q. q.next ≤ length path + 1) next k.next_fits;
    mark_fits = progress_put l u p (λ x q. q.mark ≤ length path) mark k.mark_fits;
    marked = progress_put l u p (λ x q. q.mark ≤ marks' x) marked (λ x. omega (arith, k.marked x, more x));
    sendings = k.sendings;
  }

  -- one entry more
  pub pushed_fits : (marks : ℕ → ℕ) (e : LogEntry) → committed ≤ length path → LeadingFits path committed l marks → LeadingFits (path ++ e ∷ []) committed l marks
  pushed_fits marks e within k = record {
    next_fits = λ u. omega (arith, k.next_fits u, length_push path e);
    mark_fits = λ u. omega (arith, k.mark_fits u, length_push path e);
    marked = k.marked;
    sendings = λ u sending is.
        let x = k.sendings u sending is in
        let le = x.0 in
        (le, take-append-le (length sending.path) path (e ∷ []) (omega arith) ∙ x.1);
  }

  -- a table is being sent to one more
  pub sending_put : (marks : ℕ → ℕ) (v : ℕ) (new : Sending) → length new.path ≤ committed → take (length new.path) path ≡ new.path → LeadingFits path committed l marks → LeadingFits path committed (record l { sendings = put l.sendings v new }) marks
  sending_put marks v new le front k = record {
    next_fits = k.next_fits;
    mark_fits = k.mark_fits;
    marked = k.marked;
    sendings = λ u sending is. elim (put_cases l.sendings v new u) [
      | inl here ↦ subst (λ (x : Sending). (length x.path ≤ committed) × (take (length x.path) path ≡ x.path)) (same_Some new sending (sym here.1 ∙ is)) (le, front)
      | inr there ↦ k.sendings u sending (sym there.1 ∙ is)
    ];
  }

  pub sending_gone : (marks : ℕ → ℕ) (v : ℕ) → LeadingFits path committed l marks → LeadingFits path committed (record l { sendings = without l.sendings v }) marks
  sending_gone marks v k = record {
    next_fits = k.next_fits;
    mark_fits = k.mark_fits;
    marked = k.marked;
    sendings = λ u sending is. k.sendings u sending (without_stood l.sendings v u sending is);
  }
