-- The link frames that the program takes are those that a session takes.
use Rattle.std.proofs.Common.{◌≡◌, ◌∙◌, sym, ap, subst, refl, ℕ, ◌+◌, ◌-◌, ◌<◌, ◌≤◌, ◌==◌, Bool, true, false, cond, ltb, inl, inr, List, length, take, drop, Option, Some, None, Result, Ok, Err, arith}
use Rattle.std.specs.Prelude.{IfSome}
use Rattle.std.specs.Int.{w32, from_be_bytes}
use Rattle.std.proofs.lemmas.Bool.{ltb-true, ltb-false, eq-eqb}
use Rattle.std.proofs.lemmas.List.{drop-drop, length-drop}
use Rattle.fixed_fields.specs.Fields.{number_at}
use Rattle.fixed_fields.specs.Formats.{◌>>=◌, number, rest, before}
use Rattle.values.specs.declared.batch.Refusal.{Refusal}
use Rattle.values.specs.declared.batch.Refusal.TheVariants.{BadPeer}
use Rattle.values.specs.declared.peer.PeerMsg.{PeerMsg}
use Rattle.group_quorum.specs.Voters.{is_in}
use Rattle.attested_link.specs.declared.frames.LinkFault.{LinkFault}
use Rattle.attested_link.specs.declared.frames.LinkFault.TheVariants.{NotForMe, NoLink}
use Rattle.attested_link.specs.Frames.{link_frame, taken_by}
use Rattle.attested_link.specs.Frames as link
use Rattle.replica_model.specs.Linked.{sha_link}
use Rattle.replica_model.specs.Replica.{Named, Role, nothing_named}
use Rattle.replica_model.specs.Call as model_call
use Rattle.replica_model.specs.Step.{step}
use Rattle.replica_core.specs.Inputs.{IsNamed}
use Rattle.group_msgs.specs.Peer.{peer_of}
use Rattle.group_model.specs.Enclave.{Enclave, Called, accepts, calls}
use Rattle.trace_model.specs.Session.{untagged}
use Rattle.trace_model.specs.Session as session
use Rattle.enclave_host.specs.Handing.{accepted_of, heard, link_refusal, read_from, IsNamedIn}
use Rattle.enclave_host.specs.Words.{message_if, wording}

-- what comes of a frame that was taken, or refused
abbrev pub on_link : Result (ℕ × List ℕ) LinkFault → Result (ℕ × PeerMsg) Refusal
on_link (Ok (from, message)) = read_from from message
on_link (Err fault) = Err (link_refusal fault)

-- a frame has its parts where it has eight bytes
abbrev parts_at : List ℕ → Option (ℕ × (ℕ × List ℕ))
parts_at frame =
    cond (ltb (length frame) 8) None (Some (from_be_bytes w32 (take 4 frame), (from_be_bytes w32 (take 4 (drop 4 frame)), drop 8 frame)))

bind_if : {X : Type 0} (short : Bool) (p : ℕ × List ℕ) (f : ℕ × List ℕ → Option X) → (cond short None (Some p) >>= f) ≡ cond short None (f p)
bind_if true p f = refl
bind_if false p f = refl

bind_rest : (short : Bool) (from : ℕ) (p : ℕ × List ℕ) → ◌>>=◌ {A = ℕ × List ℕ} {B = ℕ × (ℕ × List ℕ)} (◌>>=◌ {A = ℕ × List ℕ} {B = ℕ × List ℕ} (cond short None (Some p)) (λ x. Some (x.0, x.1))) (λ y. Some (from, y)) ≡ cond short None (Some (from, (p.0, p.1)))
bind_rest true from p = refl
bind_rest false from p = refl

-- four bytes and four bytes are eight
eight_by : {X : Type 0} (n : ℕ) (found : Option X) (first second all : Bool) → ltb n 4 ≡ first → ltb (n - 4) 4 ≡ second → ltb n 8 ≡ all
    → cond first None (cond second None found) ≡ cond all None found
eight_by n found true second true f s a = refl
eight_by n found true second false f s a = absurd (let few = ltb-true n 4 f in let many = ltb-false n 8 a in omega (arith, few, many))
eight_by n found false true true f s a = refl
eight_by n found false true false f s a = absurd (let few = ltb-true (n - 4) 4 s in let many = ltb-false n 8 a in omega (arith, few, many))
eight_by n found false false true f s a = absurd (let four = ltb-false n 4 f in let more = ltb-false (n - 4) 4 s in let few = ltb-true n 8 a in omega (arith, four, more, few))
eight_by n found false false false f s a = refl

eight : {X : Type 0} (n : ℕ) (found : Option X) → cond (ltb n 4) None (cond (ltb (n - 4) 4) None found) ≡ cond (ltb n 8) None found
eight n found = eight_by n found (ltb n 4) (ltb (n - 4) 4) (ltb n 8) refl refl refl

parts-as : (frame : List ℕ) → link_frame.read frame ≡ parts_at frame
unfolding number_at
parts-as frame =
    let from = from_be_bytes w32 (take 4 frame) in
    let to = from_be_bytes w32 (take 4 (drop 4 frame)) in
    let behind = drop 4 (drop 4 frame) in
    let first = bind_if (ltb (length frame) 4) (from, drop 4 frame) (λ x. (before (number w32) rest).read x.1 >>= λ y. Some (x.0, y)) in
    let second = bind_rest (ltb (length (drop 4 frame)) 4) from (to, behind) in
    let both = first ∙ ap (cond (ltb (length frame) 4) None) second in
    let sized = ap (λ n. cond (ltb (length frame) 4) None (cond (ltb n 4) None (Some (from, (to, behind))))) (length-drop 4 frame) in
    both ∙ sized ∙ eight (length frame) (Some (from, (to, behind))) ∙ ap (λ rest. cond (ltb (length frame) 8) None (Some (from, (to, rest)))) (drop-drop 4 4 frame)

abbrev accepted_by : Enclave → Bool → Bool → ℕ → ℕ → List ℕ → Result (ℕ × PeerMsg) Refusal
accepted_by e mine linked from to bytes = session.accepted_from wording untagged sha_link (λ point. nothing_named) mine linked from to bytes

by_parts : (e : Enclave) (mine linked : Bool) (from to : ℕ) (bytes : List ℕ)
    → accepted_by e mine linked from to bytes ≡ on_link (cond mine (cond linked (Ok (from, bytes)) (Err (NoLink from))) (Err (NotForMe to)))
by_parts e true true from to bytes = refl
by_parts e true false from to bytes = refl
by_parts e false linked from to bytes = refl

by_size : (e : Enclave) (linked : ℕ → Bool) (size from to : ℕ) (bytes : List ℕ) (short : Bool) → linked from ≡ is_in e.links from
    → cond short (Err (BadPeer 0)) (accepted_by e (to == e.replica.me) (is_in e.links from) from to bytes)
    ≡ on_link (taken_by linked e.replica.me size (cond short None (Some (from, (to, bytes)))))
by_size e linked size from to bytes true same = refl
by_size e linked size from to bytes false same =
    ap (λ b. accepted_by e (to == e.replica.me) b from to bytes) (sym same) ∙ by_parts e (to == e.replica.me) (linked from) from to bytes

pub accepted-as : (e : Enclave) (linked : ℕ → Bool) (frame : List ℕ) → ((v : ℕ) → linked v ≡ is_in e.links v)
    → accepted_of e frame ≡ on_link (link.accepted_of linked e.replica.me frame)
accepted-as e linked frame same =
    let from = from_be_bytes w32 (take 4 frame) in
    let to = from_be_bytes w32 (take 4 (drop 4 frame)) in
    by_size e linked (length frame) from to (drop 8 frame) (ltb (length frame) 8) (same from)
    ∙ ap (λ parts. on_link (taken_by linked e.replica.me (length frame) parts)) (sym (parts-as frame))

pub accepted-at : (e : Enclave) (linked : ℕ → Bool) (me : ℕ) (frame : List ℕ) (a : Result (ℕ × List ℕ) LinkFault) → ((v : ℕ) → linked v ≡ is_in e.links v)
    → me ≡ e.replica.me → link.accepted_of linked me frame ≡ a → accepted_of e frame ≡ on_link a
accepted-at e linked me frame a same mine is =
    accepted-as e linked frame same ∙ ap (λ m. on_link (link.accepted_of linked m frame)) (sym mine) ∙ ap on_link is

pub id-is : (id : Option ℕ) (me s : ℕ) → id ≡ Some me → IfSome id (λ i. i ≡ s) → me ≡ s
id-is id me s is same = subst (λ o. IfSome o (λ i. i ≡ s)) is same

-- a message that is read is taken by the replica's step
read-as : (from : ℕ) (bytes : List ℕ) (msg : PeerMsg) → peer_of bytes ≡ Ok msg → read_from from bytes ≡ Ok (from, msg)
read-as from bytes msg is = ap (λ r. session.read_message wording untagged sha_link (λ point. nothing_named) from (message_if r)) is

step-is : (e : Enclave) (names : Named) (from : ℕ) (msg : PeerMsg) → is_in e.links from ≡ true
    → heard names e (Ok (from, msg)) ≡ calls e (step sha_link e.replica (model_call.Peer from (record { msg = msg; names = names })))
step-is e names from msg linked =
    ap (λ b. accepts b (is_in e.links from) sha_link e from e.replica.me (record { msg = msg; names = names })) (eq-eqb e.replica.me e.replica.me refl)
    ∙ ap (λ b. accepts true b sha_link e from e.replica.me (record { msg = msg; names = names })) linked

pub taken-as : (e : Enclave) (names : Named) (from : ℕ) (bytes : List ℕ) (msg : PeerMsg) (P : Called → Type 0) → is_in e.links from ≡ true → peer_of bytes ≡ Ok msg
    → P (calls e (step sha_link e.replica (model_call.Peer from (record { msg = msg; names = names })))) → P (heard names e (read_from from bytes))
taken-as e names from bytes msg P linked is p = subst P (sym (ap (heard names e) (read-as from bytes msg is) ∙ step-is e names from msg linked)) p

pub named-as : (names : Named) (role : Role) (from : ℕ) (bytes : List ℕ) (msg : PeerMsg) → peer_of bytes ≡ Ok msg → IsNamedIn names role (read_from from bytes) → IsNamed role msg names
named-as names role from bytes msg is named = subst (IsNamedIn names role) (read-as from bytes msg is) named
