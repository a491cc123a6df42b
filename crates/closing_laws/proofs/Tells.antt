-- What a call tells: how far the committed index rose, and each configuration that its path gained.
use Rattle.log_laws.proofs.History.{any_right, all_more}
use Rattle.std.proofs.Common.{◌≡◌, ℕ, ◌+◌, ◌≤◌, zero, suc, max, Some, List, [], ◌∷◌, ◌++◌, length, take, drop, map, refl, sym, ap, arith}
use Rattle.std.proofs.lemmas.List.{length-take}
use Rattle.std.specs.List.{AllByRecursion}
use Rattle.group_quorum.specs.Conf.{Conf}
use Rattle.values.specs.declared.entry.Body.{Body}
use Rattle.values.specs.declared.entry.Body.TheVariants.{Noop, Ask, Members}
use Rattle.values.specs.declared.entry.LogEntry.{LogEntry}
use Rattle.replica_model.specs.Path.{Path}
use Rattle.replica_model.specs.Keyed.{value_at}
use Rattle.replica_model.specs.Message.{Message}
use Rattle.replica_model.specs.Replica.{Sending, Role, Leader, Replica}
use Rattle.replica_model.specs.Call.{Call}
use Rattle.replica_model.specs.Raise.{numbered_from}
use Rattle.group_model.specs.Group.{committed_in, conf_told}
use Rattle.group_model.specs.Log.{AnyByRecursion}

-- ---- configurations
abbrev pub IsAmong : List Conf → Conf → Type 0
IsAmong confs c = AnyByRecursion (λ d. d ≡ c) confs

-- the configuration of an entry was told
abbrev pub IsTold : List Conf → Body → Type 0
IsTold confs Noop = Unit {0}
IsTold confs (Ask client number request) = Unit {0}
IsTold confs (Members margin voters) = IsAmong confs (record { margin = margin; voters = voters })

abbrev pub AllTold : List Conf → Path → Type 0
AllTold confs p = AllByRecursion (λ (e : LogEntry). IsTold confs e.body) p

abbrev pub IsOf : Conf → Body → Type 0
IsOf c Noop = ⊥
IsOf c (Ask client number request) = ⊥
IsOf c (Members margin voters) = record { margin = margin; voters = voters } ≡ c

-- the configuration is that of an entry of the path
abbrev pub Holds : Path → Conf → Type 0
Holds p c = AnyByRecursion (λ (e : LogEntry). IsOf c e.body) p

-- a table is of a path whose configurations were told, and no longer than the greatest index told
abbrev pub IsTable : ℕ → List Conf → Path → Type 0
IsTable seen confs [] = Unit {0}
IsTable seen confs (e ∷ p) = AllTold confs (e ∷ p) × (length (e ∷ p) ≤ seen)

pub table_from : (seen : ℕ) (confs : List Conf) (p : Path) → AllTold confs p → length p ≤ seen → IsTable seen confs p
table_from seen confs [] told short = tt
table_from seen confs (e ∷ p) told short = (told, short)

pub table_told : (seen : ℕ) (confs : List Conf) (p : Path) → IsTable seen confs p → AllTold confs p
table_told seen confs [] h = tt
table_told seen confs (e ∷ p) h = h.0

pub table_short : (seen : ℕ) (confs : List Conf) (p : Path) → IsTable seen confs p → length p ≤ seen
table_short seen confs [] h = omega arith
table_short seen confs (e ∷ p) h = h.1

-- the tables that are being sent are such
abbrev pub SendingsTold : ℕ → List Conf → Role → Type 0
SendingsTold seen confs (Leader l) = (v : ℕ) (x : Sending) → value_at l.sendings v ≡ Some x → IsTable seen confs x.path
SendingsTold seen confs other = Unit {0}

abbrev pub NamesTold : ℕ → List Conf → List (ℕ × Message) → Type 0
NamesTold seen confs sent = AllByRecursion (λ (m : ℕ × Message). IsTable seen confs m.1.names.path) sent

-- the entries that were told as committed are those of the path from some index on that was told, up to the committed one
pub record TellsFrom (seen : ℕ) (path : Path) (committed : ℕ) (commits : List (ℕ × LogEntry)) : Type 0 where
  pub start : ℕ
  pub known : start ≤ seen
  pub upto : start ≤ committed
  pub are : commits ≡ numbered_from (start + 1) (drop start (take committed path))

pub drop_past : {A : Type 0} (k : ℕ) (xs : List A) → length xs ≤ k → drop k xs ≡ []
drop_past zero [] h = refl
drop_past (suc k) [] h = refl
drop_past zero (x ∷ xs) h = absurd (omega arith)
drop_past (suc k) (x ∷ xs) h = drop_past k xs (omega arith)

pub drop_taken : {A : Type 0} (k : ℕ) (xs : List A) → drop k (take k xs) ≡ []
drop_taken k xs = drop_past k (take k xs) (omega (arith, length-take k xs))

-- nothing was told
pub none_from : (seen : ℕ) (path : Path) (committed : ℕ) → committed ≤ seen → TellsFrom seen path committed []
none_from seen path committed known = record {
  start = committed;
  known = known;
  upto = omega arith;
  are = sym (ap (numbered_from (committed + 1)) (drop_taken committed path));
}

-- what holds of a call so far, before which the greatest index told was `seen` and these configurations were told. The
-- call has told of `reached` and of the new ones
pub record Tells (seen : ℕ) (confs : List Conf) (path : Path) (committed promised : ℕ) (role : Role) (reached : ℕ) (commits : List (ℕ × LogEntry)) (new : List Conf) (sent : List (ℕ × Message)) : Type 0 where
  pub within : committed ≤ promised
  pub fits : promised ≤ length path
  pub below : committed ≤ max seen reached
  pub above : reached ≤ committed
  pub told : AllTold (new ++ confs) path
  pub held : AllByRecursion (Holds path) new
  pub sendings : SendingsTold seen (new ++ confs) role
  pub named : NamesTold seen (new ++ confs) sent
  pub from : TellsFrom seen path committed commits

abbrev pub TellsCall : ℕ → List Conf → Call → Type 0
TellsCall seen confs c =
    Tells seen confs c.state.path c.state.committed c.state.promised c.state.role (committed_in c.batch) c.batch.commits (map conf_told c.batch.members) c.sent

-- a state in a call that has told nothing yet
abbrev pub TellsState : ℕ → List Conf → Replica → Type 0
TellsState seen confs s = Tells seen confs s.path s.committed s.promised s.role 0 [] [] []

-- ---- more is told
told_more : (new confs : List Conf) (b : Body) → IsTold confs b → IsTold (new ++ confs) b
told_more new confs Noop h = tt
told_more new confs (Ask client number request) h = tt
told_more new confs (Members margin voters) h = any_right (λ d. d ≡ record { margin = margin; voters = voters }) new confs h

pub path_more : (new confs : List Conf) (p : Path) → AllTold confs p → AllTold (new ++ confs) p
path_more new confs p h = all_more (λ (e : LogEntry). IsTold confs e.body) (λ (e : LogEntry). IsTold (new ++ confs) e.body) (λ e k. told_more new confs e.body k) p h

pub table_more : (seen later : ℕ) (new confs : List Conf) (p : Path) → seen ≤ later → IsTable seen confs p → IsTable later (new ++ confs) p
table_more seen later new confs p le h = table_from later (new ++ confs) p (path_more new confs p (table_told seen confs p h)) (omega (arith, table_short seen confs p h, le))

pub sendings_more : (seen later : ℕ) (new confs : List Conf) (role : Role) → seen ≤ later → SendingsTold seen confs role → SendingsTold later (new ++ confs) role
sendings_more seen later new confs (Leader l) le h = λ v x is. table_more seen later new confs x.path le (h v x is)
sendings_more seen later new confs other le h = tt

pub state_later : (seen later : ℕ) (new confs : List Conf) (s : Replica) → seen ≤ later → TellsState seen confs s → TellsState later (new ++ confs) s
state_later seen later new confs s le g = record {
  within = g.within;
  fits = g.fits;
  below = omega (arith, g.below, le);
  above = g.above;
  told = path_more new confs s.path g.told;
  held = tt;
  sendings = sendings_more seen later new confs s.role le g.sendings;
  named = tt;
  from = none_from later s.path s.committed (omega (arith, g.below, le));
}

sendings_later : (seen later : ℕ) (confs : List Conf) (role : Role) → seen ≤ later → SendingsTold seen confs role → SendingsTold later confs role
sendings_later seen later confs role le h = sendings_more seen later [] confs role le h

-- a state after a call
pub state_after : (seen : ℕ) (confs : List Conf) (c : Call) → TellsCall seen confs c → TellsState (max seen (committed_in c.batch)) (map conf_told c.batch.members ++ confs) c.state
state_after seen confs c g = record {
  within = g.within;
  fits = g.fits;
  below = omega (arith, g.below);
  above = omega arith;
  told = g.told;
  held = tt;
  sendings = sendings_later seen (max seen (committed_in c.batch)) (map conf_told c.batch.members ++ confs) c.state.role (omega arith) g.sendings;
  named = tt;
  from = none_from (max seen (committed_in c.batch)) c.state.path c.state.committed (omega (arith, g.below));
}
