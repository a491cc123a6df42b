-- Words whose first asks for no edge of its own.
use Rattle.std.proofs.Common.{refl, ◌≡◌, ℕ, List, [], ◌∷◌, map, Some, None, codes}
use Rattle.std.specs.Prelude.{slice_get}
use Rattle.svr2_run.specs.Edges.{port_of, program_of}
use Rattle.svr2_run.proofs.Parses.{differs}

pub no_edge : {X : Type 0} (bytes : X → List ℕ) (words : List X) (x : X) → slice_get words 0 ≡ Some x → (bytes x ≡ codes "serve" → ⊥) → (bytes x ≡ codes "group" → ⊥)
    → (port_of (map bytes words) ≡ None) × (program_of (map bytes words) ≡ None)
no_edge bytes [] x is serve group = cc
no_edge bytes (w ∷ words) x is serve group =
    let same : w ≡ x = cc is in rw (same, differs (bytes x) (codes "serve") serve, differs (bytes x) (codes "group") group) (refl, refl)
