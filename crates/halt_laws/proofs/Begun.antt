-- A group begins beside the machine's start.
use Rattle.std.proofs.Common.{◌≡◌, ℕ, ◌+◌, ◌<◌, ◌==◌, not, Bool, true, false, cond, nat_lt, inl, inr, Some, None, Ok, List, [], ◌∷◌, length, refl, sym, ap, ◌∙◌, subst, arith}
use Rattle.std.proofs.lemmas.Bool.{cond_both, cond-true, cond-false, cases_Bool, and_parts, or_cases, or_left, or_right, eqb-true, eq-eqb, ltb-true}
use Rattle.std.proofs.lemmas.Option.{none-some}
use Rattle.group_quorum.specs.Conf.{Conf}
use Rattle.group_quorum.specs.Voters.{is_id, is_in, first_bad, bad_fault, fault_of, rising, conf_of}
use Rattle.group_quorum.specs.declared.ConfigFault.TheVariants.{TooMany}
use Rattle.group_quorum.specs.declared.TheConstants.{MAX_VOTERS, MAX_ID}
use Rattle.group_quorum.proofs.Inserted.{is_in-rising}
use Rattle.group_quorum.proofs.Made.{bad_step, conf_or-made}
use Rattle.replica_model.specs.Path.{Link}
use Rattle.replica_model.specs.Replica.{Replica, begin}
use Rattle.replica_model.specs.Call.{still}
use Rattle.group_model.specs.Enclave.{Begin, started}
use Rattle.group_model.specs.Happens as happening
use Rattle.group_model.specs.Run.{Enclaves, no_enclaves, newly, start_enclave, enclaves}
use Rattle.log_laws.proofs.History.{with_call, HeldIn}
use Rattle.path_machine.specs.Node as node
use Rattle.path_machine.specs.Machine.{start}
use Rattle.path_machine.specs.Changes.{rises_from, is_rising, is_single_change}
use Rattle.path_machine.proofs.Changes.{single_change_overlaps}
use Rattle.path_laws.proofs.Goes.{start_reached}
use Rattle.halt_laws.proofs.Alike.{Is}
use Rattle.halt_laws.proofs.Onward.{still_went}
use Rattle.halt_laws.proofs.Moving.{Simulated, moves_simulated, moves_others}

all_ids : (ids : List ℕ) (v : ℕ) → first_bad ids ≡ None → is_in ids v ≡ true → is_id v ≡ true
all_ids [] v none h = absurd (let apart : false ≡ true = h in cc)
all_ids (x ∷ ids) v none h = elim (cases_Bool (is_id x)) [
  | inl good ↦
      let rest : first_bad ids ≡ None = sym (cond-false (not (is_id x)) (Some x) (first_bad ids) (subst (λ b. not b ≡ false) (sym good) refl)) ∙ none in
      elim (or_cases (x == v) (is_in ids v) h) [
        | inl same ↦ subst (λ y. is_id y ≡ true) (eqb-true x v same) good
        | inr more ↦ all_ids ids v rest more
      ]
  | inr bad ↦ absurd (none-some x (sym none ∙ cond-true (not (is_id x)) (Some x) (first_bad ids) (subst (λ b. not b ≡ true) (sym bad) refl)))
]

faultless : (margin : ℕ) (ids : List ℕ) → fault_of margin ids ≡ None → first_bad ids ≡ None
faultless margin ids = cond_both (nat_lt MAX_VOTERS (length ids)) (Some (TooMany _)) (bad_fault (first_bad ids) margin ids) (λ o. o ≡ None → first_bad ids ≡ None)
    (λ b h. cc)
    (λ b h. (bad_step margin ids (first_bad ids) h).0)

pub made_ids : (margin : ℕ) (ids : List ℕ) (c : Conf) → conf_of margin ids ≡ Ok c → (v : ℕ) → is_in c.voters v ≡ true → 0 < v
made_ids margin ids c h v among =
    let made = conf_or-made (fault_of margin ids) margin ids c h in
    let known : is_in (rising ids) v ≡ true = subst (λ vs. is_in vs v ≡ true) (sym made.1) among in
    ltb-true 0 v (and_parts (nat_lt 0 v) (nat_lt v (MAX_ID + 1)) (all_ids ids v (faultless margin ids made.0) (sym (is_in-rising ids v) ∙ known))).0

-- who comes later is higher
above : (v : ℕ) (vs : List ℕ) (u : ℕ) → rises_from v vs ≡ true → is_in vs u ≡ true → v < u
above v [] u h among = absurd (let apart : false ≡ true = among in cc)
above v (w ∷ vs) u h among =
    let parts = and_parts (nat_lt v w) (rises_from w vs) h in
    let first = ltb-true v w parts.0 in
    elim (or_cases (w == u) (is_in vs u) among) [
      | inl same ↦ subst (λ y. v < y) (eqb-true w u same) first
      | inr more ↦ let rest = above w vs u parts.1 more in omega arith
    ]

rest_rises : (v : ℕ) (vs : List ℕ) → rises_from v vs ≡ true → is_rising vs ≡ true
rest_rises v [] h = refl
rest_rises v (w ∷ vs) h = (and_parts (nat_lt v w) (rises_from w vs) h).1

module _ (link : Link) (c : Conf) (limit : ℕ) where
  abbrev holds : ℕ → Bool
  holds v = is_in c.voters v

  -- nobody has started
  nobody : Simulated link c holds c.voters [] no_enclaves
  nobody = record {
    machine = start holds;
    reached = start_reached c is_single_change single_change_overlaps holds;
    states = λ v e is. absurd (none-some e is);
    used = λ v e is. absurd (none-some e is);
    fresh = λ v out. ap (λ b. Some (node.empty (cond b node.Follower node.Learner))) out;
    mail = tt;
    noted = λ x none. absurd none;
    enough = λ x none. absurd none;
    recounted = tt;
  }

  nobody_holds : (v : ℕ) → is_in c.voters v ≡ true → nobody.machine.nodes v ≡ Some (node.empty node.Follower)
  unfolding nobody
  nobody_holds v among = ap (λ b. Some (node.empty (cond b node.Follower node.Learner))) among

  -- the voters start
  voters_start : (vs : List ℕ) (f : Enclaves) (k : Simulated link c holds c.voters [] f) → is_rising vs ≡ true → ((u : ℕ) → is_in vs u ≡ true → (is_in c.voters u ≡ true) × (0 < u) × (k.machine.nodes u ≡ Some (node.empty node.Follower))) → Simulated link c holds c.voters [] (happening.starts_all (enclaves link) f c limit vs)
  voters_start [] f k rises fresh = k
  voters_start (v ∷ vs) f k rises fresh =
      let s : Replica = begin v c limit in
      let mine = fresh v (or_left (v == v) (is_in vs v) (eq-eqb v v refl)) in
      let here : Is c holds k.machine v s =
      record {
        reached = k.reached;
        voted = None;
        votes = λ u. false;
        marks = λ u. 0;
        here = mine.2;
        mine = refl;
        some = mine.1;
        based = omega arith;
        vote_is = inl refl;
        acts = refl;
        awake = refl;
      } in
      let went = still_went link c holds (HeldIn (with_call f.history v s None (still s))) k.machine v s here in
      let next : Simulated link c holds c.voters [] (start_enclave f (Begin v c.margin limit c.voters)) =
      moves_simulated link c holds c.voters [] f k c.voters (λ u out. out) v mine.0 s None (newly (started (Begin v c.margin limit c.voters))) refl went in
      voters_start vs (start_enclave f (Begin v c.margin limit c.voters)) next (rest_rises v vs rises)
      (λ u among.
      let old = fresh u (or_right (v == u) (is_in vs u) among) in
      let higher = above v vs u rises among in
      (old.0, old.1, moves_others link c holds c.voters [] f k c.voters (λ u out. out) v mine.0 s None (newly (started (Begin v c.margin limit c.voters))) refl went u (λ same. absurd (omega arith)) ∙ old.2))

  pub begun : is_rising c.voters ≡ true → ((u : ℕ) → is_in c.voters u ≡ true → 0 < u) → Simulated link c holds c.voters [] (happening.starts_all (enclaves link) no_enclaves c limit c.voters)
  begun rises some = voters_start c.voters no_enclaves nobody rises (λ u among. (among, some u among, nobody_holds u among))
