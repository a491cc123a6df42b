-- Who is among the voters that count.
use Rattle.std.proofs.Common.{◌≡◌, ℕ, Bool, true, false, cond, ◌&&◌, ◌||◌, ◌==◌, List, [], ◌∷◌, refl, sym, ap, ◌∙◌}
use Rattle.std.proofs.lemmas.Bool.{eqb-true}
use Rattle.group_quorum.specs.Voters.{is_in, insert_rising}
use Rattle.group_quorum.proofs.Inserted.{is_in-insert}
use Rattle.replica_model.specs.Configs.{older_conf}
use Rattle.replica_model.specs.Peers.{with_id, united, newest, is_pending}
use Rattle.replica_model.specs.Laws.{VotersCounted}

or_turn : (a b : Bool) → (a || b) ≡ (b || a)
or_turn true true = refl
or_turn true false = refl
or_turn false true = refl
or_turn false false = refl

or_join : (a b c : Bool) → (a || (b || c)) ≡ ((a || b) || c)
or_join true b c = refl
or_join false b c = refl

-- an id that stands in a list already adds none
held : (f : ℕ) (ids : List ℕ) (v : ℕ) → is_in ids f ≡ true → is_in ids v ≡ ((f == v) || is_in ids v)
held f ids v e = by (f == v) refl
  where
    by : (b : Bool) → (f == v) ≡ b → is_in ids v ≡ (b || is_in ids v)
    by true same = ap (is_in ids) (sym (eqb-true f v same)) ∙ e
    by false other = refl

in_with_id : (f : ℕ) (ids : List ℕ) (v : ℕ) → is_in (with_id f ids) v ≡ ((f == v) || is_in ids v)
in_with_id f ids v = by (is_in ids f) refl
  where
    by : (b : Bool) → is_in ids f ≡ b → is_in (cond b ids (insert_rising f ids)) v ≡ ((f == v) || is_in ids v)
    by true e = held f ids v e
    by false e = is_in-insert f ids v

pub in_united : (more ids : List ℕ) (v : ℕ) → is_in (united more ids) v ≡ (is_in more v || is_in ids v)
in_united [] ids v = refl
in_united (w ∷ more) ids v =
    in_with_id w (united more ids) v ∙ ap (λ b. (w == v) || b) (in_united more ids v) ∙ or_join (w == v) (is_in more v) (is_in ids v)

pub voters_counted_are : VotersCounted
voters_counted_are s v = by (is_pending s)
  where
    older : List ℕ
    older = (older_conf s.first s.path).voters

    by : (b : Bool) → is_in (cond b (united older (newest s).voters) (newest s).voters) v ≡ (is_in (newest s).voters v || (b && is_in older v))
    by true = in_united older (newest s).voters v ∙ or_turn (is_in older v) (is_in (newest s).voters v)
    by false = sym (or_turn (is_in (newest s).voters v) false)
