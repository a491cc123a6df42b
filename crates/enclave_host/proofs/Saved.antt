-- What stands under a number stays there, whatever is handed to an enclave.
use Rattle.std.proofs.Common.{◌≡◌, ◌∙◌, sym, ap, subst, refl, ℕ, ◌+◌, ◌<◌, ◌==◌, ◌++◌, Bool, true, false, List, [], ◌∷◌, length, arith}
use Rattle.std.specs.Prelude.{not, ◌-◌, Option, Some, None, Result, Ok, Err, unwrap_or, slice_get}
use Rattle.std.proofs.lemmas.Option.{none-some, slice_get_within, slice_get_read, get_or_from_slice_get}
use Rattle.std.proofs.lemmas.List.{get_or_append_left, length-append}
use Rattle.values.specs.declared.batch.Refusal.{Refusal}
use Rattle.values.specs.declared.peer.PeerMsg.{PeerMsg}
use Rattle.group_quorum.specs.Voters.{is_in}
use Rattle.schedule_model.specs.Reading.{max_u32}
use Rattle.replica_model.specs.Call.{still}
use Rattle.replica_model.specs.Linked.{sha_link}
use Rattle.replica_model.specs.Message.{Message}
use Rattle.replica_model.specs.Replica.{Named, Replica}
use Rattle.group_model.specs.Enclave.{Enclave, Hello, Begin, Learn, started, HostInput, Tick, Peer, Client, Join, Admit, Remove, Save, Roll, Connect, Margin, accepts, called, calls, rolls_to, saves_if}
use Rattle.trace_model.specs.Session.{Content, Starts, Frames, Hands}
use Rattle.enclave_host.specs.Handing.{accepted_of, handed, heard, after_all}

get-append : {X : Type 0} (xs ys : List X) (k : ℕ) (x : X) → slice_get xs k ≡ Some x → slice_get (xs ++ ys) k ≡ Some x
get-append xs ys k x is =
    let inside = slice_get_within xs k x is in
    let long : k < length (xs ++ ys) = subst (λ n. k < n) (sym (length-append xs ys)) (omega (arith, inside)) in
    slice_get_read (xs ++ ys) (length (xs ++ ys)) k x refl long (sym (get_or_append_left xs ys x k inside ∙ get_or_from_slice_get xs k x x is))

-- this replica stands under this number
abbrev Keeps : ℕ → Replica → Enclave → Type 0
Keeps k s e = slice_get e.saved k ≡ Some s

module _ (k : ℕ) (s : Replica) (e : Enclave) (keeps : Keeps k s e) where
  accepts-keeps : (mine linked : Bool) (from to : ℕ) (m : Message) → Keeps k s (accepts mine linked sha_link e from to m).enclave
  accepts-keeps false linked from to m = keeps
  accepts-keeps true false from to m = keeps
  accepts-keeps true true from to m = keeps

  saves-keeps : (room : Bool) → Keeps k s (saves_if room e).enclave
  saves-keeps true = get-append e.saved (e.replica ∷ []) k s keeps
  saves-keeps false = keeps

  rolls-keeps : (n : ℕ) (found : Option Replica) → Keeps k s (rolls_to e n found).enclave
  rolls-keeps n None = keeps
  rolls-keeps n (Some found) = keeps

  called-keeps : (input : HostInput Message) → Keeps k s (called sha_link e input).enclave
  called-keeps Tick = keeps
  called-keeps (Peer from to m) = accepts-keeps (to == e.replica.me) (is_in e.links from) from to m
  called-keeps (Client client number request) = keeps
  called-keeps (Join id) = keeps
  called-keeps (Admit id) = keeps
  called-keeps (Remove id) = keeps
  called-keeps Save = saves-keeps (not (length e.saved - 1 == max_u32))
  called-keeps (Roll n) = rolls-keeps n (slice_get e.saved n)
  called-keeps (Connect id) = keeps
  called-keeps (Margin margin) = keeps

  heard-keeps : (names : Named) (accepted : Result (ℕ × PeerMsg) Refusal) → Keeps k s (heard names e accepted).enclave
  heard-keeps names (Ok (from, msg)) = called-keeps (Peer from e.replica.me (record { msg = msg; names = names }))
  heard-keeps names (Err refusal) = keeps

  handed-keeps : (names : Named) (content : Content) → Keeps k s (handed names e content).enclave
  handed-keeps names (Starts hello) = keeps
  handed-keeps names (Frames frame) = heard-keeps names (accepted_of e frame)
  handed-keeps names (Hands input) = called-keeps input

all-keep : (k : ℕ) (s : Replica) (later : List (Named × Content)) (e : Enclave) → Keeps k s e → Keeps k s (after_all later e)
all-keep k s [] e keeps = keeps
all-keep k s ((names, content) ∷ later) e keeps = all-keep k s later (handed names e content).enclave (handed-keeps k s e keeps names content)

-- so a roll to that number puts it back
pub put-back : (k : ℕ) (s : Replica) (later : List (Named × Content)) (e : Enclave) → slice_get e.saved k ≡ Some s
    → called sha_link (after_all later e) (Roll k) ≡ calls (after_all later e) (still s)
put-back k s later e keeps = ap (rolls_to (after_all later e) k) (all-keep k s later e keeps)

-- a save that has a number keeps the replica under it
last-get : {X : Type 0} (xs : List X) (x : X) → slice_get (xs ++ x ∷ []) (length xs) ≡ Some x
last-get [] x = refl
last-get (y ∷ xs) x = last-get xs x

saves-under : (k : ℕ) (e : Enclave) (room : Bool) → (saves_if room e).call.batch.saved ≡ Some k → slice_get (saves_if room e).enclave.saved k ≡ Some e.replica
saves-under k e true is = subst (λ n. slice_get (e.saved ++ e.replica ∷ []) n ≡ Some e.replica) (ap (λ o. unwrap_or o 0) is) (last-get e.saved e.replica)
saves-under k e false is = absurd (none-some k is)

pub saved-under : (k : ℕ) (e : Enclave) → (called sha_link e Save).call.batch.saved ≡ Some k
    → slice_get (called sha_link e Save).enclave.saved k ≡ Some e.replica
saved-under k e is = saves-under k e (not (length e.saved - 1 == max_u32)) is

pub first-back : (hello : Hello) (later : List (Named × Content))
    → called sha_link (after_all later (started hello)) (Roll 0) ≡ calls (after_all later (started hello)) (still (started hello).replica)
first-back (Begin id margin limit voters) later = put-back 0 (started (Begin id margin limit voters)).replica later (started (Begin id margin limit voters)) refl
first-back (Learn id linked) later = put-back 0 (started (Learn id linked)).replica later (started (Learn id linked)) refl
