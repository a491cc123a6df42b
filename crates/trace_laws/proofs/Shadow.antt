-- A world as it is seen where contents answer its calls.
use Rattle.std.proofs.Common.{◌≡◌, ℕ, ◌+◌, zero, suc, Bool, true, false, Option, Some, None, Ok, List, [], ◌∷◌, ◌++◌, length, map, refl, sym, ap, ◌∙◌}
use Rattle.std.specs.Prelude.{cond, if◌then◌else◌, is_some, reverse, filter, find, option_map, unwrap_or}
use Rattle.std.specs.List.{range_with_len}
use Rattle.std.proofs.lemmas.List.{reverse-append, map-append, append_assoc, length-map}
use Rattle.values.specs.declared.batch.Batch.{Batch}
use Rattle.values.specs.declared.peer.PeerMsg.{PeerMsg}
use Rattle.group_quorum.specs.Voters.{is_in}
use Rattle.replica_model.specs.Message.{Message}
use Rattle.group_model.specs.Group.{Group, Sent, sent_by, numbered, is_addressed, next_message, keeps}
use Rattle.group_model.specs.Run.{Recorded, Enclaves, World}
use Rattle.trace_model.specs.Contents.{ReadsBatch}

abbrev pub Left : Type 0
Left = List (List ℕ)

-- a message without what it names
abbrev pub plainly : Sent Message → Sent PeerMsg
plainly m = record { from = m.from; to = m.to; message = m.message.msg }

-- the world, where these contents are left
abbrev pub shadow : World → Left → Group PeerMsg Left
shadow g left =
    record {
      setup = g.setup;
      running = g.running;
      started = g.started;
      messages = map plainly g.messages;
      lost = g.lost;
      waiting = g.waiting;
      answers = g.answers;
      cores = g.cores;
      hearings = g.hearings;
      saves = g.saves;
      rolled = g.rolled;
      confs = g.confs;
      committed = g.committed;
      past = g.past;
      field = left;
    }

-- ---- messages
pub numbered_shadow : (messages : List (Sent Message)) (k : ℕ) → numbered (map plainly messages) k ≡ option_map plainly (numbered messages k)
numbered_shadow messages zero = refl
numbered_shadow [] (suc k) = refl
numbered_shadow (m ∷ messages) (suc zero) = refl
numbered_shadow (m ∷ messages) (suc (suc k)) = numbered_shadow messages (suc k)

addressed_in : (running : List ℕ) (o : Option (Sent Message)) → unwrap_or (option_map (λ (m : Sent PeerMsg). is_in running m.to) (option_map plainly o)) false ≡ unwrap_or (option_map (λ (m : Sent Message). is_in running m.to) o) false
addressed_in running None = refl
addressed_in running (Some m) = refl

addressed_shadow : (g : World) (left : Left) (k : ℕ) → is_addressed (shadow g left) k ≡ is_addressed g k
addressed_shadow g left k =
    ap (λ o. unwrap_or (option_map (λ (m : Sent PeerMsg). is_in g.running m.to) o) false) (numbered_shadow g.messages k) ∙ addressed_in g.running (numbered g.messages k)

pub next_shadow : (g : World) (left : Left) → next_message (shadow g left) ≡ next_message g
next_shadow g left = λ i. find (λ k. addressed_shadow g left k i) g.waiting

-- ---- what is kept of a batch
plain_sent : (r : ℕ) (sent : List (ℕ × Message)) → map (sent_by r) (map (λ (m : ℕ × Message). (m.0, m.1.msg)) sent) ≡ map plainly (map (sent_by r) sent)
plain_sent r [] = refl
plain_sent r (m ∷ sent) = ap (λ (ms : List (Sent PeerMsg)). sent_by r (m.0, m.1.msg) ∷ ms) (plain_sent r sent)

pub keeps_shadow : (g : World) (before after : Left) (r : ℕ) (batch : Batch) (sent : List (ℕ × Message)) (f : Enclaves) → batch.sent ≡ map (λ (m : ℕ × Message). (m.0, m.1.msg)) sent → keeps (shadow g before) r batch batch.sent after ≡ shadow (keeps g r batch sent f) after
keeps_shadow g before after r batch sent f is =
    λ i. record (shadow (keeps g r batch sent f) after) { messages = messages i; waiting = g.waiting ++ range_with_len (count i + 1) (many i) }
  where
    messages : map plainly g.messages ++ map (sent_by r) batch.sent ≡ map plainly (g.messages ++ map (sent_by r) sent)
    messages =
        ap (λ (ms : List (ℕ × PeerMsg)). map plainly g.messages ++ map (sent_by r) ms) is
        ∙ ap (λ (ms : List (Sent PeerMsg)). map plainly g.messages ++ ms) (plain_sent r sent)
        ∙ sym (map-append plainly g.messages (map (sent_by r) sent))

    count : length (map plainly g.messages) ≡ length g.messages
    count = length-map g.messages plainly

    many : length batch.sent ≡ length sent
    many = ap (λ (ms : List (ℕ × PeerMsg)). length ms) is ∙ length-map sent (λ (m : ℕ × Message). (m.0, m.1.msg))

pub rolled_shadow : (g : World) (left : Left) (r : ℕ) (b : Bool) → (if b then record (shadow g left) { rolled = r ∷ g.rolled } else shadow g left) ≡ shadow (if b then record g { rolled = r ∷ g.rolled } else g) left
rolled_shadow g left r true = refl
rolled_shadow g left r false = refl

-- ---- contents
module _ (batch_bytes : ℕ → Batch → List ℕ) (batch_of : ReadsBatch) where
  abbrev pub content_of : Recorded → List ℕ
  content_of r = batch_bytes r.replica r.call.batch

  -- the content of this call is read as its batch
  abbrev pub ReadBack : Recorded → Type 0
  ReadBack r = batch_of (content_of r) ≡ Ok r.call.batch

  -- the contents of calls, the newest of which stands first, before those that follow
  abbrev pub contents_then : List Recorded → Left → Left
  contents_then [] rest = rest
  contents_then (r ∷ rs) rest = contents_then rs (if is_some r.input then content_of r ∷ rest else rest)

  pub then_append : (new old : List Recorded) (rest : Left) → contents_then (new ++ old) rest ≡ contents_then old (contents_then new rest)
  then_append [] old rest = refl
  then_append (r ∷ new) old rest = then_append new old (if is_some r.input then content_of r ∷ rest else rest)

  filter_append : (xs ys : List Recorded) → filter (λ (r : Recorded). is_some r.input) (xs ++ ys) ≡ filter (λ (r : Recorded). is_some r.input) xs ++ filter (λ (r : Recorded). is_some r.input) ys
  filter_append [] ys = refl
  filter_append (x ∷ xs) ys = by_input (is_some x.input) (filter_append xs ys)
    where
      by_input : (b : Bool) → filter (λ (r : Recorded). is_some r.input) (xs ++ ys) ≡ filter (λ (r : Recorded). is_some r.input) xs ++ filter (λ (r : Recorded). is_some r.input) ys
          → cond b (x ∷ filter (λ (r : Recorded). is_some r.input) (xs ++ ys)) (filter (λ (r : Recorded). is_some r.input) (xs ++ ys)) ≡ cond b (x ∷ filter (λ (r : Recorded). is_some r.input) xs) (filter (λ (r : Recorded). is_some r.input) xs) ++ filter (λ (r : Recorded). is_some r.input) ys
      by_input true same = ap (λ (rs : List Recorded). x ∷ rs) same
      by_input false same = same

  abbrev in_order : List Recorded → Left
  in_order history = map content_of (filter (λ (r : Recorded). is_some r.input) (reverse history))

  one_more : (r : Recorded) (rs : List Recorded) (rest : Left) → in_order (r ∷ rs) ++ rest ≡ in_order rs ++ (if is_some r.input then content_of r ∷ rest else rest)
  one_more r rs rest =
      ap (λ (xs : List Recorded). map content_of (filter (λ (r : Recorded). is_some r.input) xs) ++ rest) (reverse-append (r ∷ []) rs)
      ∙ ap (λ (xs : List Recorded). map content_of xs ++ rest) (filter_append (reverse rs) (r ∷ []))
      ∙ ap (λ (xs : Left). xs ++ rest) (map-append content_of (filter (λ (r : Recorded). is_some r.input) (reverse rs)) (filter (λ (r : Recorded). is_some r.input) (r ∷ [])))
      ∙ append_assoc (in_order rs) (map content_of (filter (λ (r : Recorded). is_some r.input) (r ∷ []))) rest
      ∙ ap (λ (xs : Left). in_order rs ++ xs) (by_input (is_some r.input))
    where
      by_input : (b : Bool) → map content_of (cond b (r ∷ []) []) ++ rest ≡ (if b then content_of r ∷ rest else rest)
      by_input true = refl
      by_input false = refl

  -- the contents of a history in their order
  pub contents_in_order : (history : List Recorded) (rest : Left) → in_order history ++ rest ≡ contents_then history rest
  contents_in_order [] rest = refl
  contents_in_order (r ∷ rs) rest = one_more r rs rest ∙ contents_in_order rs (if is_some r.input then content_of r ∷ rest else rest)
