-- Where the bytes that a run hashes do not collide, its entries do not.
use Rattle.std.proofs.Common.{◌≡◌, ℕ, ◌+◌, ◌≤◌, ◌<◌, ◌^◌, ◌==◌, ◌&&◌, List, [], ◌∷◌, ◌++◌, length, refl, sym, ap, subst, ◌∙◌, arith, inl, inr}
use Rattle.std.specs.List.{AllByRecursion, list_all}
use Rattle.std.proofs.lemmas.Bool.{and_parts, eqb-true, leb-true}
use Rattle.std.proofs.lemmas.List.{length-append}
use Rattle.std.proofs.lemmas.List.Elements.{All-from_recursion}
use Rattle.values.specs.declared.limits.TheConstants.{MAX_EVENTS}
use Rattle.values.specs.declared.entry.Body.{Body}
use Rattle.values.specs.declared.entry.Body.TheVariants.{Noop, Ask, Members}
use Rattle.values.specs.declared.entry.Hash.{Hash}
use Rattle.values.specs.declared.entry.LogEntry.{LogEntry}
use Rattle.hash_chain.specs.Links.{LinkInput, IsLinkInput, BytesTellInputs, bytes_of}
use Rattle.schedule_model.specs.Reading.{max_u64}
use Rattle.replica_model.specs.Path.{Path, chain}
use Rattle.replica_model.specs.Linked.{link_input, sha_link}
use Rattle.replica_model.specs.Laws.{IsInRange, BytesTellBodies}
use Rattle.group_model.specs.Run.{Recorded, World}
use Rattle.group_model.specs.Log.{AnyByRecursion, IsFrontOf, state_of, NoCollision}
use Rattle.trace_model.specs.TraceLines.{is_byte, is_client_id, is_u64}
use Rattle.trace_model.specs.Hashing.{NoByteCollision}
use Rattle.range_laws.specs.Ranges.{AreIds, BodyIn, EntryIn, EntriesIn}
use Rattle.range_laws.specs.Laws.{RecordedIn}
use Rattle.range_laws.proofs.Raising.{chain_hash}
use Rattle.range_laws.proofs.Rules.{id_low}
use Rattle.range_laws.proofs.OwnLink.{own_link}

-- the last entry of a path that was held, and its index
module _ (n : ℕ) where
  last_in : (p : Path) (e : LogEntry) (rest : Path) → EntriesIn n ((p ++ e ∷ []) ++ rest) → EntryIn n e
  last_in [] e rest h = h.0
  last_in (x ∷ p) e rest h = last_in p e rest h.1

  front_in : (p : Path) (e : LogEntry) (path : Path) → EntriesIn n path → length path ≤ n → IsFrontOf (p ++ e ∷ []) path → EntryIn n e × (length p + 1 ≤ n)
  front_in p e path all long front = (
    last_in p e front.0 (subst (EntriesIn n) (sym front.1) all),
    omega (arith, long, ap length front.1, length-append (p ++ e ∷ []) front.0, length-append p (e ∷ [])),
  )

  held_in : (history : List Recorded) (p : Path) (e : LogEntry) → AllByRecursion (RecordedIn n) history → AnyByRecursion (λ r. IsFrontOf (p ++ e ∷ []) (state_of r).path) history → EntryIn n e × (length p + 1 ≤ n)
  held_in [] p e all some = absurd some
  held_in (r ∷ rs) p e all (inl here) = front_in p e (state_of r).path all.0.call.state.path.entries all.0.call.state.path.long here
  held_in (r ∷ rs) p e all (inr later) = held_in rs p e all.1 later

-- what is hashed of it
input_in : (n : ℕ) → n ≤ MAX_EVENTS → (p : Path) (e : LogEntry) → EntryIn n e × (length p + 1 ≤ n) → IsLinkInput (link_input (chain sha_link p) (length p + 1) e)
input_in n few p e h = record {
  prev = eqb-true (length (chain sha_link p).0) 32 (and_parts (length (chain sha_link p).0 == 32) (list_all is_byte (chain sha_link p).0) (chain_hash sha_link own_link p)).0;
  index = omega (arith, h.1, few);
  term = omega (arith, h.0.0, few);
}

body_in : (b : Body) → BodyIn b → IsInRange b
body_in Noop h = tt
body_in (Ask client number request) h =
    let a = and_parts (is_client_id client) (is_u64 number && list_all is_byte request) h.0 in
    let b = and_parts (is_u64 number) (list_all is_byte request) a.1 in
    (eqb-true (length client.0) 16 (and_parts (length client.0 == 16) (list_all is_byte client.0) a.0).0, omega (arith, leb-true number max_u64 b.0))
body_in (Members margin voters) h = All-from_recursion (λ v. v < 2 ^ 32) voters (low voters h.ids)
  where
    low : (vs : List ℕ) → AreIds vs → AllByRecursion (λ v. v < 2 ^ 32) vs
    low [] ids = tt
    low (v ∷ vs) ids = (omega (arith, id_low v ids.0), low vs ids.1)

same_hash : (a b : Hash) → a.0 ≡ b.0 → a ≡ b
same_hash a b is = ap (λ (bytes : List ℕ). record { 0 = bytes }) is

same_entry : (a b : LogEntry) → a.term ≡ b.term → a.body ≡ b.body → a ≡ b
same_entry a b term body = ap (λ (t : ℕ). record { term = t; body = a.body }) term ∙ ap (λ (x : Body). record { term = b.term; body = x }) body

pub no_collision : BytesTellInputs → BytesTellBodies → (n : ℕ) → n ≤ MAX_EVENTS → (w : World) → AllByRecursion (RecordedIn n) w.field.history → NoByteCollision w → NoCollision sha_link w
no_collision tell_inputs tell_bodies n few w all none p q a b held_p held_q same =
    let x = held_in n w.field.history p a all held_p in
    let y = held_in n w.field.history q b all held_q in
    let one : LinkInput = link_input (chain sha_link p) (length p + 1) a in
    let two : LinkInput = link_input (chain sha_link q) (length q + 1) b in
    let bytes : bytes_of one ≡ bytes_of two = none (bytes_of one) (bytes_of two) (p, a, held_p, refl) (q, b, held_q, refl) (ap (λ (h : Hash). h.0) same) in
    let is : one ≡ two = tell_inputs one two (input_in n few p a x) (input_in n few q b y) bytes in (
      same_hash (chain sha_link p) (chain sha_link q) (ap (λ (i : LinkInput). i.prev) is),
      omega (arith, ap (λ (i : LinkInput). i.index) is),
      same_entry a b (ap (λ (i : LinkInput). i.term) is) (tell_bodies a.body b.body (body_in a.body x.0.1) (body_in b.body y.0.1) (ap (λ (i : LinkInput). i.kind) is) (ap (λ (i : LinkInput). i.body) is)),
    )
