-- What holds of an input in which nothing is wrong.
use Rattle.std.proofs.Common.{◌≡◌, ℕ, ◌≤◌, true, cond, List, [], ◌∷◌, Option, Some, None, Ok, sym, ap, subst, ◌∙◌}
use Rattle.std.specs.Prelude.{All, fold}
use Rattle.std.specs.Ordering.{nat_cmp}
use Rattle.std.specs.BTreeSet.{insert_key}
use Rattle.std.proofs.lemmas.List.Elements.{All-nil, All-head, All-tail}
use Rattle.std.proofs.lemmas.Map.Views.{All-insert_key}
use Rattle.group_quorum.specs.Conf.{Conf}
use Rattle.group_quorum.specs.Voters.{IsId, IsSound, is_in, first_bad, fault_of, rising, conf_or, conf_of}
use Rattle.group_quorum.specs.declared.ConfigFault.{ConfigFault}
use Rattle.group_quorum.proofs.Inserted.{is_in-rising}
use Rattle.group_quorum.proofs.Made.{ids_from}
use Rattle.values.specs.declared.limits.TheConstants.{MOST_ROWS}
use Rattle.host_inputs.specs.Checking.{each_once}
use Rattle.host_inputs.specs.Sound.{IsBeginning}

-- ---- ids

pub own_is : (id : ℕ) (ids : List ℕ) → first_bad (id ∷ ids) ≡ None → IsId id
own_is id ids e = All-head IsId id ids (ids_from (id ∷ ids) e)

inserted_all : (P : ℕ → Type 0) (front ids : List ℕ) → All P front → All P ids → All P (fold (insert_key nat_cmp) front ids)
inserted_all P front [] all more = all
inserted_all P front (v ∷ ids) all more =
    inserted_all P (insert_key nat_cmp front v) ids (All-insert_key nat_cmp v P front all (All-head P v ids more)) (All-tail P v ids more)

pub linked_are : (id : ℕ) (listed : List ℕ) → first_bad (id ∷ listed) ≡ None → All IsId (each_once listed)
linked_are id listed e = inserted_all IsId [] listed (All-nil IsId) (All-tail IsId id listed (ids_from (id ∷ listed) e))

-- ---- voters

made_by : (o : Option ConfigFault) (margin : ℕ) (ids : List ℕ) (conf : Conf) → Ok conf ≡ conf_or o margin ids → conf ≡ record { margin = margin; voters = rising ids }
made_by None margin ids conf e = cc
made_by (Some fault) margin ids conf e = absurd cc

pub conf_made : (margin : ℕ) (ids : List ℕ) (conf : Conf) → Ok conf ≡ conf_of margin ids → conf ≡ record { margin = margin; voters = rising ids }
conf_made margin ids conf e = made_by (fault_of margin ids) margin ids conf e

pub beginning : (id margin limit : ℕ) (listed voters : List ℕ) (conf : Conf) → IsId id → Ok conf ≡ conf_of margin listed → IsSound conf → conf_of conf.margin conf.voters ≡ Ok conf → is_in listed id ≡ true
    → voters ≡ conf.voters → 1 ≤ limit → limit ≤ MOST_ROWS → IsBeginning id margin limit voters
beginning id margin limit listed voters conf own of sound made votes same from to =
    let e = conf_made margin listed conf of in
    let order : voters ≡ rising listed = same ∙ ap (λ (c : Conf). c.voters) e in
    let is : conf ≡ record { margin = margin; voters = voters } = e ∙ ap (λ (vs : List ℕ). record { margin = margin; voters = vs }) (sym order) in
    record {
      own = own;
      conf = subst IsSound is sound;
      made = subst (λ (c : Conf). conf_of c.margin c.voters ≡ Ok c) is made;
      votes = subst (λ vs. is_in vs id ≡ true) (sym order) (is_in-rising listed id ∙ votes);
      limit_from = from;
      limit_to = to;
    }
