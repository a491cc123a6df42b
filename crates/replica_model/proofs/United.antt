-- Ids put at their places from the last on are united.
use Rattle.std.proofs.Common.{◌≡◌, ℕ, List, [], ◌∷◌, fold, reverse, refl, ap, ◌∙◌}
use Rattle.std.proofs.lemmas.List.{reverse-append}
use Rattle.std.proofs.lemmas.List.Sums.{fold_push}
use Rattle.replica_model.specs.Peers.{with_id, united}

pub united-fold : (more ids : List ℕ) → fold (λ vs v. with_id v vs) ids (reverse more) ≡ united more ids
united-fold [] ids = refl
united-fold (v ∷ more) ids =
    ap (fold (λ vs w. with_id w vs) ids) (reverse-append (v ∷ []) more)
    ∙ (fold_push (λ vs w. with_id w vs) ids (reverse more) v ∙ ap (with_id v) (united-fold more ids))
