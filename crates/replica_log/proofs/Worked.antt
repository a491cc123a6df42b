-- Windows and grafts, run on short logs with a link that is easy to read.
use Rattle.std.proofs.Common.{◌≡◌, ℕ, ◌+◌, ◌*◌, List, [], ◌∷◌, ◌++◌, refl}
use Rattle.std.specs.Prelude.{Some, None}
use Rattle.values.specs.declared.entry.Hash.{Hash}
use Rattle.values.specs.declared.entry.Point.{Point}
use Rattle.values.specs.declared.entry.LogEntry.{LogEntry}
use Rattle.values.specs.declared.entry.Body.TheVariants.{Noop, Members}
use Rattle.group_quorum.specs.Conf.{Conf}
use Rattle.replica_model.specs.Path.{Path, Link, first_hash}
use Rattle.replica_log.specs.declared.graft.Graft.TheVariants.{Grafted, Apart, Conflict}
use Rattle.replica_log.specs.Window.{Window, summary_of, last_point, hash_at, term_at, entry_at, configs_at, first_window, pushed, promised_to, committed_to, dropped_below}
use Rattle.replica_log.specs.Grafting.{graft_of, after_graft}

-- 1000 times the index and the term, for each entry
abbrev toy : Link
toy h index e = record { 0 = h.0 ++ (1000 * index + e.term) ∷ [] }

abbrev hash : List ℕ → Hash
hash links = record { 0 = first_hash.0 ++ links }

abbrev at : ℕ → List ℕ → Point
at i links = record { index = i; hash = hash links }

abbrev noop : ℕ → LogEntry
noop term = record { term = term; body = Noop }

abbrev voters : List ℕ → Conf
voters ids = record { margin = 0; voters = ids }

abbrev members : ℕ → List ℕ → LogEntry
members term ids = record { term = term; body = Members 0 ids }

abbrev pushed_all : Window → Path → Window
pushed_all w [] = w
pushed_all w (e ∷ p) = pushed_all (pushed w e) p

-- entries of the terms 1, 1 and 2, of which the first is promised
abbrev three : Window
three = promised_to (pushed_all (first_window (voters (1 ∷ 2 ∷ []))) (noop 1 ∷ noop 1 ∷ noop 2 ∷ [])) 1

replaced : graft_of toy three (at 1 (1001 ∷ [])) (noop 3 ∷ []) ≡ Grafted (at 2 (1001 ∷ 2003 ∷ [])) (Some (2, hash (1001 ∷ 2001 ∷ []), hash (1001 ∷ 2003 ∷ [])))
replaced = refl

after_replaced : (after_graft three (at 1 (1001 ∷ [])) (noop 3 ∷ []) (graft_of toy three (at 1 (1001 ∷ [])) (noop 3 ∷ []))).entries ≡ noop 1 ∷ noop 3 ∷ []
after_replaced = refl

conflicting : graft_of toy three (at 0 []) (noop 2 ∷ []) ≡ Conflict 1 (hash (1001 ∷ [])) (hash (1002 ∷ []))
conflicting = refl

above : graft_of toy three (at 5 []) [] ≡ Apart 3
above = refl

beside : graft_of toy three (at 3 (9 ∷ [])) [] ≡ Apart 1
beside = refl

-- a longer log stays where nothing differs
standing : (after_graft three (at 0 []) (noop 1 ∷ []) (graft_of toy three (at 0 []) (noop 1 ∷ []))).entries ≡ noop 1 ∷ noop 1 ∷ noop 2 ∷ []
standing = refl

-- a log of five entries with a configuration at 2 and at 4, whose base is 3
abbrev moved : Window
moved = dropped_below toy (committed_to (promised_to (pushed_all (first_window (voters (1 ∷ []))) (noop 1 ∷ members 1 (1 ∷ 2 ∷ []) ∷ noop 1 ∷ members 2 (2 ∷ []) ∷ noop 2 ∷ [])) 3) 3) 3

moved_base : moved.base ≡ summary_of toy (voters (1 ∷ [])) (noop 1 ∷ members 1 (1 ∷ 2 ∷ []) ∷ noop 1 ∷ [])
moved_base = refl

moved_last : last_point toy moved ≡ at 5 (1001 ∷ 2001 ∷ 3001 ∷ 4002 ∷ 5002 ∷ [])
moved_last = refl

-- at the base there is a hash and a term, and no entry
moved_hash : hash_at toy moved 2 ≡ None
moved_hash = refl

moved_term : term_at moved 3 ≡ Some 1
moved_term = refl

moved_entry : entry_at moved 3 ≡ None
moved_entry = refl

first_kept : entry_at moved 4 ≡ Some (members 2 (2 ∷ []))
first_kept = refl

-- the older configuration is known while the newest one's entry is kept
at_base : configs_at moved 3 ≡ record { newest = voters (1 ∷ 2 ∷ []); newest_index = 2; older = voters (1 ∷ 2 ∷ []) }
at_base = refl

at_last : configs_at moved 5 ≡ record { newest = voters (2 ∷ []); newest_index = 4; older = voters (1 ∷ 2 ∷ []) }
at_last = refl

-- all that is offered lies below the base; one that reaches to it is compared there
below : graft_of toy moved (at 0 []) (noop 1 ∷ []) ≡ Apart 3
below = refl

reaching : graft_of toy moved (at 1 (1001 ∷ [])) (members 1 (1 ∷ 2 ∷ []) ∷ noop 1 ∷ []) ≡ Grafted (at 3 (1001 ∷ 2001 ∷ 3001 ∷ [])) None
reaching = refl

differing_at_base : graft_of toy moved (at 2 (1001 ∷ 2001 ∷ [])) (noop 5 ∷ []) ≡ Conflict 3 (hash (1001 ∷ 2001 ∷ 3001 ∷ [])) (hash (1001 ∷ 2001 ∷ 3005 ∷ []))
differing_at_base = refl
