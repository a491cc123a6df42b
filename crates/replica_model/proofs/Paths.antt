-- The chain and the configurations of a path and more entries, and the terms of its fronts.
use Rattle.std.proofs.Common.{◌≡◌, ℕ, zero, suc, ◌+◌, ◌≤◌, false, inl, inr, [], ◌∷◌, ◌++◌, length, take, slice_get, option_map, unwrap_or, cond, refl, ap, ◌∙◌, arith}
use Rattle.std.proofs.lemmas.Bool.{cases_Bool}
use Rattle.std.proofs.lemmas.List.{length-take-le}
use Rattle.values.specs.declared.entry.Body.{Body}
use Rattle.values.specs.declared.entry.Body.TheVariants.{Noop, Ask, Members}
use Rattle.values.specs.declared.entry.Hash.{Hash}
use Rattle.values.specs.declared.entry.LogEntry.{LogEntry}
use Rattle.group_quorum.specs.Conf.{Conf}
use Rattle.replica_model.specs.Path.{Path, Link, chain_from, chain, first_hash, last_term, term_at}
use Rattle.replica_model.specs.Configs.{is_members, changed_by, conf, conf_index_from, conf_index}
use Rattle.replica_model.specs.Laws.{ChainFollows, ConfFollows}

pub chain_from-append : (link : Link) (h : Hash) (k : ℕ) (p q : Path) → chain_from link h k (p ++ q) ≡ chain_from link (chain_from link h k p) (k + length p) q
chain_from-append link h k [] q = ap (λ n. chain_from link h n q) (omega arith)
chain_from-append link h k (e ∷ p) q =
    chain_from-append link (link h (k + 1) e) (k + 1) p q
    ∙ ap (λ n. chain_from link (chain_from link (link h (k + 1) e) (k + 1) p) n q) (omega arith)

pub chain-append : (link : Link) (p q : Path) → chain link (p ++ q) ≡ chain_from link (chain link p) (length p) q
chain-append link p q = chain_from-append link first_hash 0 p q ∙ ap (λ n. chain_from link (chain link p) n q) (omega arith)

pub chain-push : ChainFollows
chain-push link p e = chain-append link p (e ∷ [])

pub conf-append : (first : Conf) (p q : Path) → conf first (p ++ q) ≡ conf (conf first p) q
conf-append first [] q = refl
conf-append first (e ∷ p) q = conf-append (changed_by first e.body) p q

pub conf_index_from-append : (i k : ℕ) (p q : Path) → conf_index_from i k (p ++ q) ≡ conf_index_from (conf_index_from i k p) (k + length p) q
conf_index_from-append i k [] q = ap (λ n. conf_index_from i n q) (omega arith)
conf_index_from-append i k (e ∷ p) q =
    conf_index_from-append (cond (is_members e.body) (k + 1) i) (k + 1) p q
    ∙ ap (λ n. conf_index_from (conf_index_from (cond (is_members e.body) (k + 1) i) (k + 1) p) n q) (omega arith)

pub conf_index-append : (p q : Path) → conf_index (p ++ q) ≡ conf_index_from (conf_index p) (length p) q
conf_index-append p q = conf_index_from-append 0 0 p q ∙ ap (λ n. conf_index_from (conf_index p) n q) (omega arith)

pub conf-push : ConfFollows
conf-push first p e = record { conf = conf-append first p (e ∷ []); index = conf_index-append p (e ∷ []) }

-- the index of a configuration is not above the last entry
pub conf_index_from-bound : (i k : ℕ) (p : Path) → i ≤ k → conf_index_from i k p ≤ k + length p
conf_index_from-bound i k [] le = omega arith
conf_index_from-bound i k (e ∷ p) le = elim (cases_Bool (is_members e.body)) [
  | inl m ↦ omega (arith, ap (λ b. conf_index_from (cond b (k + 1) i) (k + 1) p) m, conf_index_from-bound (k + 1) (k + 1) p (omega arith))
  | inr m ↦ omega (arith, ap (λ b. conf_index_from (cond b (k + 1) i) (k + 1) p) m, conf_index_from-bound i (k + 1) p (omega arith))
]

-- the configuration stays under an entry that is no Members entry
pub changed_plain : (c : Conf) (b : Body) → is_members b ≡ false → changed_by c b ≡ c
changed_plain c Noop h = refl
changed_plain c (Ask client number request) h = refl
changed_plain c (Members margin voters) h = cc

-- the last term of a front is the term at its index
get-take : (k : ℕ) (p : Path) → slice_get (take (suc k) p) k ≡ slice_get p k
get-take k [] = refl
get-take zero (e ∷ p) = refl
get-take (suc k) (e ∷ p) = get-take k p

term_at-take : (i : ℕ) (p : Path) → term_at (take i p) i ≡ term_at p i
term_at-take zero p = refl
term_at-take (suc k) p = ap (λ o. unwrap_or (option_map (λ (e : LogEntry). e.term) o) 0) (get-take k p)

pub last_term-take : (i : ℕ) (p : Path) → i ≤ length p → last_term (take i p) ≡ term_at p i
last_term-take i p le = ap (λ n. term_at (take i p) n) (length-take-le i p le) ∙ term_at-take i p
