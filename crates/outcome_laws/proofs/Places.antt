-- Places of a path: what an entry is read as, and what a front of a path says of the path.
use Rattle.std.proofs.Common.{◌≡◌, ℕ, zero, suc, ◌<◌, ◌≤◌, Option, Some, None, Result, Ok, Err, List, [], ◌∷◌, ◌++◌, length, take, refl, sym, ap, subst, ◌∙◌, arith}
use Rattle.std.specs.Prelude.{IfSome, IfOk, option_map}
use Rattle.std.proofs.lemmas.Option.{none-some, same_Some}
use Rattle.std.proofs.lemmas.List.{take-take, take_at}
use Rattle.proto_wire.specs.declared.field.WireFault.{WireFault}
use Rattle.proto_wire.specs.Fields.{Field, sequence_at}
use Rattle.proto_wire.specs.Reading.{first_fault, last_member}
use Rattle.values.specs.declared.entry.Body.{Body}
use Rattle.values.specs.declared.entry.Body.TheVariants.{Noop, Ask, Members}
use Rattle.values.specs.declared.entry.LogEntry.{LogEntry}
use Rattle.values.specs.declared.ids.ClientId.{ClientId}
use Rattle.values.specs.declared.message.Part.{Part}
use Rattle.values.specs.declared.message.Request.{Request}
use Rattle.client_msgs.specs.Reading.{if_sized, request_from, request_in, request_of}
use Rattle.client_msgs.proofs.RoundTrip.{request_of-canonical}
use Rattle.client_msgs.proofs.SizesLemmas.{size_fault-valid}
use Rattle.client_msgs.specs.Canonical.{canonical_request}
use Rattle.client_msgs.specs.Sizes.{size_fault}
use Rattle.client_msgs.specs.declared.fault.RequestFault.{RequestFault}
use Rattle.values.specs.Sizes.{IsValid}
use Rattle.values.specs.declared.message.Reply.{Reply}
use Rattle.record_rules.specs.Places.{ClientAsk, Places, fold_places, ask_at, reply_at}
use Rattle.record_rules.specs.Rules.{apply}
use Rattle.record_rules.specs.Laws.{AreValid}
use Rattle.replica_model.specs.Path.{Path, entry_at}
use Rattle.replica_model.specs.Folds.{ask_of, place_of, places_of, reply_of}
use Rattle.group_model.specs.Log.{IsFrontOf}

valid_sized : (request : Request) (o : Option (Part × ℕ)) → size_fault request ≡ o → IfOk (if_sized o request) IsValid
valid_sized request None is = (size_fault-valid request is).0
valid_sized request (Some fault) is = tt

valid_in : (fault : Option WireFault) (member : Option (ℕ × List Field)) → IfOk (request_in fault member) IsValid
valid_in (Some fault) member = tt
valid_in None None = tt
valid_in None (Some (number, fs)) = valid_sized (request_from number fs) (size_fault (request_from number fs)) refl

-- what is read of bytes is a valid request
valid_read : (bytes : List ℕ) → IfOk (request_of bytes) IsValid
valid_read bytes = valid_in (first_fault 2 5 (sequence_at 0 bytes)) (last_member 2 5 (sequence_at 0 bytes).fields)

-- ---- a request that was read is read again from its canonical bytes
again_sized : (read : Request) (o : Option (Part × ℕ)) → size_fault read ≡ o → IfOk (if_sized o read) (λ request. request_of (canonical_request request) ≡ Ok request)
again_sized read None is = let sized = size_fault-valid read is in request_of-canonical read sized.0 sized.1
again_sized read (Some fault) is = tt

again_in : (fault : Option WireFault) (member : Option (ℕ × List Field)) → IfOk (request_in fault member) (λ request. request_of (canonical_request request) ≡ Ok request)
again_in (Some fault) member = tt
again_in None None = tt
again_in None (Some (number, fs)) = again_sized (request_from number fs) (size_fault (request_from number fs)) refl

pub read_again : (bytes : List ℕ) (request : Request) → request_of bytes ≡ Ok request → request_of (canonical_request request) ≡ Ok request
read_again bytes request is =
    subst (λ r. IfOk r (λ request. request_of (canonical_request request) ≡ Ok request)) is (again_in (first_fault 2 5 (sequence_at 0 bytes)) (last_member 2 5 (sequence_at 0 bytes).fields))

valid_ask : (client : ClientId) (number : ℕ) (r : Result Request RequestFault) → IfOk r IsValid → IfSome (ask_of client number r) (λ ask. IsValid ask.request)
valid_ask client number (Ok request) valid = valid
valid_ask client number (Err fault) valid = tt

valid_place : (b : Body) → IfSome (place_of b) (λ ask. IsValid ask.request)
valid_place Noop = tt
valid_place (Ask client number bytes) = valid_ask client number (request_of bytes) (valid_read bytes)
valid_place (Members margin voters) = tt

pub valid_places : (p : Path) → AreValid (places_of p)
valid_places [] k d below = absurd (omega arith)
valid_places (e ∷ p) zero d below = valid_place e.body
valid_places (e ∷ p) (suc k) d below = valid_places p k d (omega arith)

-- ---- a front of a path

-- what stands at an index of a front stands there in the path
pub entry_of_front : (q p : Path) (i : ℕ) (e : LogEntry) → IsFrontOf q p → entry_at q i ≡ Some e → entry_at p i ≡ Some e
entry_of_front q p zero e pre is = is
entry_of_front [] p (suc k) e pre is = absurd (none-some e is)
entry_of_front (x ∷ q) p (suc zero) e pre is = subst (λ y. entry_at y 1 ≡ Some e) pre.1 is
entry_of_front (x ∷ q) p (suc (suc k)) e pre is =
    subst (λ y. entry_at y (suc (suc k)) ≡ Some e) pre.1 (entry_of_front q (q ++ pre.0) (suc k) e (pre.0, refl) is)

-- and what stands in the path at an index of a front stands there in the front
pub entry_in_front : (c : ℕ) (p : Path) (i : ℕ) (e : LogEntry) → i ≤ c → entry_at p i ≡ Some e → entry_at (take c p) i ≡ Some e
entry_in_front c p zero e le is = is
entry_in_front zero p (suc k) e le is = absurd (omega arith)
entry_in_front (suc c) [] (suc k) e le is = is
entry_in_front (suc c) (x ∷ p) (suc zero) e le is = is
entry_in_front (suc c) (x ∷ p) (suc (suc k)) e le is = entry_in_front c p (suc k) e (omega arith) is

pub entry_fits : (p : Path) (i : ℕ) (e : LogEntry) → entry_at p i ≡ Some e → i ≤ length p
entry_fits p zero e is = omega arith
entry_fits [] (suc k) e is = absurd (none-some e is)
entry_fits (x ∷ p) (suc zero) e is = omega arith
entry_fits (x ∷ p) (suc (suc k)) e is = omega (arith, entry_fits p (suc k) e is)

ask_in_front : (c : ℕ) (places : Places) (k : ℕ) → k < c → ask_at (take c places) (suc k) ≡ ask_at places (suc k)
ask_in_front zero places k le = absurd (omega arith)
ask_in_front (suc c) [] k le = refl
ask_in_front (suc c) (x ∷ places) zero le = refl
ask_in_front (suc c) (x ∷ places) (suc k) le = ask_in_front c places k (omega arith)

-- the reply at an index of a front is that of the path
reply_in_front : (limit c : ℕ) (places : Places) (i : ℕ) → i ≤ c → reply_at limit (take c places) i ≡ reply_at limit places i
reply_in_front limit c places zero le = refl
reply_in_front limit c places (suc k) le =
    ap (λ (ps : Places). option_map (λ (ask : ClientAsk). (apply (fold_places limit ps) ask.client ask.number ask.request).1) (ask_at (take c places) (suc k))) (take-take k c places (omega arith))
    ∙ ap (option_map (λ (ask : ClientAsk). (apply (fold_places limit (take k places)) ask.client ask.number ask.request).1)) (ask_in_front c places k (omega arith))

places_take : (c : ℕ) (p : Path) → places_of (take c p) ≡ take c (places_of p)
places_take zero p = refl
places_take (suc c) [] = refl
places_take (suc c) (e ∷ p) = ap (λ ps. place_of e.body ∷ ps) (places_take c p)

pub reply_taken : (limit c : ℕ) (p : Path) (i : ℕ) → i ≤ c → reply_of limit (take c p) i ≡ reply_of limit p i
reply_taken limit c p i le = ap (λ (ps : Places). reply_at limit ps i) (places_take c p) ∙ reply_in_front limit c (places_of p) i le

pub reply_of_front : (limit : ℕ) (q p : Path) (i : ℕ) → IsFrontOf q p → i ≤ length q → reply_of limit q i ≡ reply_of limit p i
reply_of_front limit q p i pre le =
    let same : take (length q) p ≡ q = subst (λ y. take (length q) y ≡ q) pre.1 (take_at q pre.0 (length q) refl) in
    ap (λ (y : Path). reply_of limit y i) (sym same) ∙ reply_taken limit (length q) p i le

-- the ask at an index is what its entry is read as
pub ask_of_entry : (p : Path) (i : ℕ) (e : LogEntry) → entry_at p i ≡ Some e → ask_at (places_of p) i ≡ place_of e.body
ask_of_entry p zero e is = absurd (none-some e is)
ask_of_entry [] (suc k) e is = absurd (none-some e is)
ask_of_entry (x ∷ p) (suc zero) e is = ap (λ (y : LogEntry). place_of y.body) (same_Some x e is)
ask_of_entry (x ∷ p) (suc (suc k)) e is = ask_of_entry p (suc k) e is

-- a place where an ask stands gives a reply
pub reply_of_ask : (limit : ℕ) (p : Path) (i : ℕ) (ask : ClientAsk) → ask_at (places_of p) i ≡ Some ask → (reply : Reply) × (reply_of limit p i ≡ Some reply)
reply_of_ask limit p zero ask is = absurd (none-some ask is)
reply_of_ask limit p (suc k) ask is = (_, ap (option_map (λ (ask : ClientAsk). (apply (fold_places limit (take k (places_of p))) ask.client ask.number ask.request).1)) is)
