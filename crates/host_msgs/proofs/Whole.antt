-- What is written of a whole batch is read again as that batch.
use Rattle.std.proofs.Common.{◌≡◌, ℕ, zero, suc, ◌+◌, ◌<◌, ◌≤◌, ◌^◌, Bool, true, false, eqb, ltb, List, [], ◌∷◌, ◌++◌, length, map, Option, Some, None, Result, Ok, Err, refl, sym, ap, subst, ◌∙◌, arith}
use Rattle.std.specs.Prelude.{◌||◌, All, IfSome}
use Rattle.std.specs.Int.{w8, w32, w64}
use Rattle.std.proofs.lemmas.Bool.{lt-ltb, eqb-true, eqb-false, eq-eqb}
use Rattle.std.proofs.lemmas.List.{append_assoc, append-nil, length-append, map-append}
use Rattle.std.proofs.lemmas.List.Elements.{All-nil, All-cons, All-head, All-tail}
use Rattle.fixed_fields.specs.Fields.{number_bytes}
use Rattle.fixed_fields.specs.Formats.{◌>>=◌, IsOfWidth, AreWords}
use Rattle.fixed_fields.proofs.Bytes.{wide8, wide32}
use Rattle.fixed_fields.proofs.Laws.{number_is, block_is}
use Rattle.group_quorum.specs.Voters.{is_id}
use Rattle.values.specs.declared.batch.Batch.{Batch}
use Rattle.values.specs.declared.batch.Refusal.{Refusal}
use Rattle.values.specs.declared.entry.Hash.{Hash}
use Rattle.values.specs.declared.entry.LogEntry.{LogEntry}
use Rattle.values.specs.declared.entry.Point.{Point}
use Rattle.values.specs.declared.ids.ClientId.{ClientId}
use Rattle.values.specs.declared.message.Answer.{Answer}
use Rattle.values.specs.declared.peer.PeerMsg.{PeerMsg}
use Rattle.group_msgs.specs.Canonical.{canonical_peer}
use Rattle.group_msgs.specs.Peer.{peer_of}
use Rattle.host_msgs.specs.declared.gathered.Gathered.{Gathered}
use Rattle.host_msgs.specs.declared.item.Item.{Item}
use Rattle.host_msgs.specs.declared.item.Item.TheVariants as item
use Rattle.host_msgs.specs.Refusals.{refusal_numbers}
use Rattle.host_msgs.specs.Wrapped.{if_ok, message_in}
use Rattle.host_msgs.specs.Items.{long_field, word_field, is_conf, item_in}
use Rattle.host_msgs.specs.Batches.{item_bytes, item_at, is_in_place, placed, next_in, none_yet, batch_in}
use Rattle.host_msgs.specs.Contents.{members_content, halt_content, taken_content, commit_content, answer_content, sent_content, refused_content, once, each, batch_bytes}
use Rattle.host_msgs.specs.Needs.{IsShort, AreShort}
use Rattle.host_msgs.specs.Grammar.{IsIndex, IsRefusal, ItemsAreReadAgain}
use Rattle.host_msgs.specs.Again.{IsMembersItem, IsHaltItem, IsTakenItem, IsCommitItem, IsAnswerItem, IsSentItem, IsInGrammar, sender_of, IsReadAgain}
use Rattle.host_msgs.proofs.Shorts.{short_long, short_word, short_halt, short_point, short_refusal}
use Rattle.host_msgs.proofs.Walks.{Walked, begins, goes_on, ends}

-- ---- one item

item_written : (kind : ℕ) (content behind : List ℕ) → IsOfWidth w8 kind → IsShort content → item_at (item_bytes kind content ++ behind) ≡ Some ((kind, content), behind)
unfolding item_at
item_written kind content behind small short =
    let head = number_bytes w8 kind in
    let size = number_bytes w32 (length content) in
    let flat : item_bytes kind content ++ behind ≡ head ++ (size ++ (content ++ behind)) = append_assoc head (size ++ content) behind ∙ ap (λ bytes. head ++ bytes) (append_assoc size content behind) in
    rw (flat, (number_is w8 wide8).again kind (size ++ (content ++ behind)) small, (number_is w32 wide32).again (length content) (content ++ behind) short, (block_is (length content)).again content behind refl) refl

item_is_some : (kind : ℕ) (content behind : List ℕ) → length behind < length (item_bytes kind content ++ behind)
unfolding number_bytes
item_is_some kind content behind = omega (arith, length-append (item_bytes kind content) behind)

-- an item of the grammar that is written in place
pub record IsWritten (kind : ℕ) (content : List ℕ) (said : Item) : Type 0 where
  pub short : IsShort content
  pub again : item_in kind content ≡ Some said

one : (whole behind : List ℕ) (g g' : Gathered) (kind : ℕ) (content : List ℕ) (said : Item) → IsOfWidth w8 kind → is_in_place g.last kind ≡ true → placed g kind said ≡ Some g' → IsWritten kind content said
    → Walked whole (item_bytes kind content ++ behind) g → Walked whole behind g'
one whole behind g g' kind content said small in-place put w walked =
    let shorter = item_is_some kind content behind in
    let next : next_in g (item_bytes kind content ++ behind) ≡ Some (g', behind) = rw (item_written kind content behind small w.short, in-place, w.again, put) refl in
    goes_on whole (item_bytes kind content ++ behind) behind g g' walked (omega (arith, shorter)) next shorter

-- ---- the items of a kind

-- the walk came to the bytes behind, and every item before them was of a kind below this one
pub record Reached (whole behind : List ℕ) (kind : ℕ) (state : ℕ → Gathered) : Type 0 where
  pub last : ℕ
  pub below : last < kind
  pub walked : Walked whole behind (state last)

-- at most one
at_most_one : {X : Type 0} (whole behind : List ℕ) (kind : ℕ) (content : X → List ℕ) (put : X → Item) (state : Option X → ℕ → Gathered) → IsOfWidth w8 kind
    → ((last : ℕ) → (state None last).last ≡ last) → ((last : ℕ) (x : X) → placed (state None last) kind (put x) ≡ Some (state (Some x) kind))
    → (o : Option X) → IfSome o (λ x. IsWritten kind (content x) (put x)) → Reached whole (once kind content o ++ behind) kind (state None) → Reached whole behind (suc kind) (state o)
at_most_one whole behind kind content put state small shows puts None is r = record { last = r.last; below = omega (arith, r.below); walked = r.walked }
at_most_one whole behind kind content put state small shows puts (Some x) is r =
    let in-place : is_in_place (state None r.last).last kind ≡ true = rw (shows r.last, lt-ltb r.last kind r.below) refl in
    record { last = kind; below = omega arith; walked = one whole behind (state None r.last) (state (Some x) kind) kind (content x) (put x) small in-place (puts r.last x) is r.walked }

-- one for each of a list, behind those that stand already
one_for_each : {X : Type 0} (whole behind : List ℕ) (kind : ℕ) (content : X → List ℕ) (put : X → Item) (state : List X → ℕ → Gathered) → IsOfWidth w8 kind
    → ((xs : List X) (last : ℕ) → (state xs last).last ≡ last) → ((last : ℕ) → last < suc kind → is_in_place last kind ≡ true)
    → (P : X → Type 0) → ((xs : List X) (x : X) (last : ℕ) → P x → placed (state xs last) kind (put x) ≡ Some (state (xs ++ x ∷ []) kind)) → ((x : X) → P x → IsWritten kind (content x) (put x))
    → (stand xs : List X) → All P xs → Reached whole (each kind content xs ++ behind) (suc kind) (state stand) → Reached whole behind (suc kind) (state (stand ++ xs))
one_for_each whole behind kind content put state small shows repeats P puts is stand [] all r =
    subst (λ ys. Reached whole behind (suc kind) (state ys)) (sym (append-nil stand)) r
one_for_each whole behind kind content put state small shows repeats P puts is stand (x ∷ xs) all r =
    let head = All-head P x xs all in
    let flat : each kind content (x ∷ xs) ++ behind ≡ item_bytes kind (content x) ++ (each kind content xs ++ behind) = append_assoc (item_bytes kind (content x)) (each kind content xs) behind in
    let at-item : Walked whole (item_bytes kind (content x) ++ (each kind content xs ++ behind)) (state stand r.last) = subst (λ bytes. Walked whole bytes (state stand r.last)) flat r.walked in
    let in-place : is_in_place (state stand r.last).last kind ≡ true = rw (shows stand r.last) (repeats r.last r.below) in
    let walked = one whole (each kind content xs ++ behind) (state stand r.last) (state (stand ++ x ∷ []) kind) kind (content x) (put x) small in-place (puts stand x r.last head) (is x head) at-item in
    let r' : Reached whole (each kind content xs ++ behind) (suc kind) (state (stand ++ x ∷ [])) = record { last = kind; below = omega arith; walked = walked } in
    subst (λ ys. Reached whole behind (suc kind) (state ys)) (append_assoc stand (x ∷ []) xs)
    (one_for_each whole behind kind content put state small shows repeats P puts is (stand ++ x ∷ []) xs (All-tail P x xs all) r')

-- ---- what was gathered, kind by kind

-- a batch of these items, of the messages of this sender
abbrev made : (me : ℕ) → Option ℕ → List (ℕ × ℕ × List ℕ) → Option (ℕ × Hash × Hash) → Option Point → List (ℕ × LogEntry) → List (ClientId × ℕ × Answer) → List (ℕ × PeerMsg) → Option ℕ → Option Refusal → (last : ℕ) → Gathered
made me lead members halt taken commits answers sent saved refused last =
    record {
      last = last;
      sender = sender_of me sent;
      batch = record { lead = lead; members = members; halt = halt; taken = taken; commits = commits; answers = answers; sent = sent; saved = saved; refused = refused };
      frames = map (sent_content me) sent;
    }

ranked : (kind last : ℕ) → is_in_place kind kind ≡ true → last < suc kind → is_in_place last kind ≡ true
ranked kind last same lt = by_test (eqb last kind) refl
  where
    by_test : (b : Bool) → eqb last kind ≡ b → is_in_place last kind ≡ true
    by_test true e = subst (λ k. is_in_place k kind ≡ true) (sym (eqb-true last kind e)) same
    by_test false e = let below : last < kind = omega (arith, lt, eqb-false last kind e) in rw (lt-ltb last kind below) refl

sender_again : (me : ℕ) (sent : List (ℕ × PeerMsg)) → (eqb (sender_of me sent) 0 || eqb (sender_of me sent) me) ≡ true
sender_again me [] = refl
sender_again me (s ∷ ss) = or-true (eqb me 0) (eqb me me) (eq-eqb me me refl)
  where
    or-true : (a b : Bool) → b ≡ true → (a || b) ≡ true
    or-true true b e = refl
    or-true false b e = e

sender_pushed : (me : ℕ) (sent : List (ℕ × PeerMsg)) (s : ℕ × PeerMsg) → sender_of me (sent ++ s ∷ []) ≡ me
sender_pushed me [] s = refl
sender_pushed me (t ∷ sent) s = refl

frames_pushed : (me : ℕ) (sent : List (ℕ × PeerMsg)) (s : ℕ × PeerMsg) → map (sent_content me) (sent ++ s ∷ []) ≡ map (sent_content me) sent ++ sent_content me s ∷ []
frames_pushed me sent s = map-append (sent_content me) sent (s ∷ [])

-- ---- the whole batch

message_again : (message : PeerMsg) → peer_of (canonical_peer message) ≡ Ok message → message_in (canonical_peer message) ≡ Some message
unfolding message_in
message_again message again = ap if_ok again

both_all : {X : Type 0} (P Q : X → Type 0) (xs : List X) → All P xs → All Q xs → All (λ x. P x × Q x) xs
both_all P Q [] p q = All-nil (λ x. P x × Q x)
both_all P Q (x ∷ xs) p q = All-cons (λ x. P x × Q x) x xs (All-head P x xs p, All-head Q x xs q) (both_all P Q xs (All-tail P x xs p) (All-tail Q x xs q))

weaker : (whole behind : List ℕ) (kind : ℕ) (state : ℕ → Gathered) → Reached whole behind kind state → Reached whole behind (suc kind) state
weaker whole behind kind state r = record { last = r.last; below = omega (arith, r.below); walked = r.walked }

-- what is written of the items of each kind

lead_written : ItemsAreReadAgain → (o : Option ℕ) → IfSome o IsIndex → IfSome o (λ x. IsWritten 1 (long_field.spelled x) (item.Lead x))
lead_written items None is = tt
lead_written items (Some term) is = record { short = short_long term; again = items.lead term is }

halt_written : ItemsAreReadAgain → (o : Option (ℕ × Hash × Hash)) → IfSome o IsHaltItem → IfSome o (λ h. IsWritten 3 (halt_content h) (item.Halt h.0 h.1 h.2))
halt_written items None is = tt
halt_written items (Some (index, kept, offered)) is = record { short = short_halt index kept.0 offered.0 is.1.0 is.1.1; again = items.halt index kept offered is.0 is.1.0 is.1.1 }

taken_written : ItemsAreReadAgain → (o : Option Point) → IfSome o IsTakenItem → IfSome o (λ p. IsWritten 4 (taken_content p) (item.Taken p))
taken_written items None is = tt
taken_written items (Some point) is = record { short = short_point point.index point.hash.0 is.1; again = items.taken point is.0 is.1 }

saved_written : ItemsAreReadAgain → (o : Option ℕ) → IfSome o (IsOfWidth w32) → IfSome o (λ k. IsWritten 8 (word_field.spelled k) (item.Saved k))
saved_written items None is = tt
saved_written items (Some k) is = record { short = short_word k; again = items.saved k (omega (arith, is)) }

refused_written : ItemsAreReadAgain → (o : Option Refusal) → IfSome o IsRefusal → IfSome o (λ r. IsWritten 9 (refused_content r) (item.Refused r))
refused_written items None is = tt
refused_written items (Some why) is = record { short = short_refusal (refusal_numbers why); again = items.refused why is }

abbrev Members : ℕ × ℕ × List ℕ → Type 0
Members m = IsShort (members_content m) × IsMembersItem m

members_written : ItemsAreReadAgain → (m : ℕ × ℕ × List ℕ) → Members m → IsWritten 2 (members_content m) (item.Members m.0 m.1 m.2)
members_written items (index, margin, voters) is = record { short = is.0; again = items.members index margin voters is.1.0 is.1.1.0 is.1.1.1.0 is.1.1.1.1 }

abbrev Commit : ℕ × LogEntry → Type 0
Commit c = IsShort (commit_content c) × IsCommitItem c

commit_written : ItemsAreReadAgain → (c : ℕ × LogEntry) → Commit c → IsWritten 5 (commit_content c) (item.Commit c.0 c.1)
commit_written items (index, entry) is = record { short = is.0; again = items.commit index entry is.1.0 is.1.1.0 is.1.1.1 }

abbrev Told : ClientId × ℕ × Answer → Type 0
Told a = IsShort (answer_content a) × IsAnswerItem a

answer_written : ItemsAreReadAgain → (a : ClientId × ℕ × Answer) → Told a → IsWritten 6 (answer_content a) (item.Answer a.0 a.1 a.2)
answer_written items (client, n, said) is = record { short = is.0; again = items.answer client n said is.1.0 is.1.1.0 is.1.1.1 }

abbrev Sent : (me : ℕ) → ℕ × PeerMsg → Type 0
Sent me s = IsShort (sent_content me s) × IsSentItem me s

abbrev sent_item : (me : ℕ) → ℕ × PeerMsg → Item
sent_item me s = item.Sent me s.0 s.1 (sent_content me s)

sent_written : ItemsAreReadAgain → (me : ℕ) (s : ℕ × PeerMsg) → Sent me s → IsWritten 7 (sent_content me s) (sent_item me s)
sent_written items me (to, message) is =
    record { short = is.0; again = items.sent me to message is.1.0 is.1.1.0 (message_again message is.1.1.1) }

-- each kind in its turn

module _ (me : ℕ) (batch : Batch) (w : AreShort me batch) (g : IsInGrammar me batch) (items : ItemsAreReadAgain) (whole : List ℕ) where
  leading : (behind : List ℕ) → Reached whole (once 1 long_field.spelled batch.lead ++ behind) 1 (made me None [] None None [] [] [] None None) → Reached whole behind 2 (made me batch.lead [] None None [] [] [] None None)
  leading behind r = at_most_one whole behind 1 long_field.spelled item.Lead (λ o. made me o [] None None [] [] [] None None) (omega arith) (λ last. refl) (λ last x. refl) batch.lead (lead_written items batch.lead g.lead) r

  configured : (behind : List ℕ) → Reached whole (each 2 members_content batch.members ++ behind) 2 (made me batch.lead [] None None [] [] [] None None)
      → Reached whole behind 3 (made me batch.lead batch.members None None [] [] [] None None)
  configured behind r =
      one_for_each whole behind 2 members_content (λ m. item.Members m.0 m.1 m.2) (λ xs. made me batch.lead xs None None [] [] [] None None) (omega arith) (λ xs last. refl) (λ last lt. ranked 2 last refl lt)
      Members (λ xs x last is. refl) (members_written items) [] batch.members (both_all (λ m. IsShort (members_content m)) IsMembersItem batch.members w.members g.members) (weaker whole _ 2 _ r)

  halted : (behind : List ℕ) → Reached whole (once 3 halt_content batch.halt ++ behind) 3 (made me batch.lead batch.members None None [] [] [] None None)
      → Reached whole behind 4 (made me batch.lead batch.members batch.halt None [] [] [] None None)
  halted behind r =
      at_most_one whole behind 3 halt_content (λ h. item.Halt h.0 h.1 h.2) (λ o. made me batch.lead batch.members o None [] [] [] None None) (omega arith) (λ last. refl) (λ last x. refl) batch.halt (halt_written items batch.halt g.halt) r

  took : (behind : List ℕ) → Reached whole (once 4 taken_content batch.taken ++ behind) 4 (made me batch.lead batch.members batch.halt None [] [] [] None None)
      → Reached whole behind 5 (made me batch.lead batch.members batch.halt batch.taken [] [] [] None None)
  took behind r =
      at_most_one whole behind 4 taken_content item.Taken (λ o. made me batch.lead batch.members batch.halt o [] [] [] None None) (omega arith) (λ last. refl) (λ last x. refl) batch.taken (taken_written items batch.taken g.taken) r

  committed : (behind : List ℕ) → Reached whole (each 5 commit_content batch.commits ++ behind) 5 (made me batch.lead batch.members batch.halt batch.taken [] [] [] None None)
      → Reached whole behind 6 (made me batch.lead batch.members batch.halt batch.taken batch.commits [] [] None None)
  committed behind r =
      one_for_each whole behind 5 commit_content (λ c. item.Commit c.0 c.1) (λ xs. made me batch.lead batch.members batch.halt batch.taken xs [] [] None None) (omega arith) (λ xs last. refl) (λ last lt. ranked 5 last refl lt)
      Commit (λ xs x last is. refl) (commit_written items) [] batch.commits (both_all (λ c. IsShort (commit_content c)) IsCommitItem batch.commits w.commits g.commits) (weaker whole _ 5 _ r)

  answered : (behind : List ℕ) → Reached whole (each 6 answer_content batch.answers ++ behind) 6 (made me batch.lead batch.members batch.halt batch.taken batch.commits [] [] None None)
      → Reached whole behind 7 (made me batch.lead batch.members batch.halt batch.taken batch.commits batch.answers [] None None)
  answered behind r =
      one_for_each whole behind 6 answer_content (λ a. item.Answer a.0 a.1 a.2) (λ xs. made me batch.lead batch.members batch.halt batch.taken batch.commits xs [] None None) (omega arith) (λ xs last. refl) (λ last lt. ranked 6 last refl lt)
      Told (λ xs x last is. refl) (answer_written items) [] batch.answers (both_all (λ a. IsShort (answer_content a)) IsAnswerItem batch.answers w.answers g.answers) (weaker whole _ 6 _ r)

  abbrev sending : List (ℕ × PeerMsg) → ℕ → Gathered
  sending xs = made me batch.lead batch.members batch.halt batch.taken batch.commits batch.answers xs None None

  sent_put : (xs : List (ℕ × PeerMsg)) (s : ℕ × PeerMsg) (last : ℕ) → placed (sending xs last) 7 (sent_item me s) ≡ Some (sending (xs ++ s ∷ []) 7)
  sent_put xs s last = rw (sender_again me xs, sender_pushed me xs s, frames_pushed me xs s) refl

  sent_out : (behind : List ℕ) → Reached whole (each 7 (sent_content me) batch.sent ++ behind) 7 (sending []) → Reached whole behind 8 (sending batch.sent)
  sent_out behind r =
      one_for_each whole behind 7 (sent_content me) (sent_item me) sending (omega arith) (λ xs last. refl) (λ last lt. ranked 7 last refl lt)
      (Sent me) (λ xs x last is. sent_put xs x last) (sent_written items me) [] batch.sent (both_all (λ s. IsShort (sent_content me s)) (IsSentItem me) batch.sent w.sent g.sent) (weaker whole _ 7 _ r)

  saved_one : (behind : List ℕ) → Reached whole (once 8 word_field.spelled batch.saved ++ behind) 8 (sending batch.sent)
      → Reached whole behind 9 (made me batch.lead batch.members batch.halt batch.taken batch.commits batch.answers batch.sent batch.saved None)
  saved_one behind r =
      at_most_one whole behind 8 word_field.spelled item.Saved (λ o. made me batch.lead batch.members batch.halt batch.taken batch.commits batch.answers batch.sent o None) (omega arith) (λ last. refl) (λ last x. refl) batch.saved (saved_written items batch.saved g.saved) r

  abbrev all_of : ℕ → Gathered
  all_of = made me batch.lead batch.members batch.halt batch.taken batch.commits batch.answers batch.sent batch.saved batch.refused

  refused_one : (behind : List ℕ) → Reached whole (once 9 refused_content batch.refused ++ behind) 9 (made me batch.lead batch.members batch.halt batch.taken batch.commits batch.answers batch.sent batch.saved None)
      → Reached whole behind 10 all_of
  refused_one behind r =
      at_most_one whole behind 9 refused_content item.Refused (λ o. made me batch.lead batch.members batch.halt batch.taken batch.commits batch.answers batch.sent batch.saved o) (omega arith) (λ last. refl) (λ last x. refl) batch.refused (refused_written items batch.refused g.refused) r

in_a_row : (a b c d e f g h i : List ℕ) → (a ++ (b ++ (c ++ d))) ++ ((e ++ (f ++ g)) ++ (h ++ i)) ≡ a ++ (b ++ (c ++ (d ++ (e ++ (f ++ (g ++ (h ++ (i ++ []))))))))
in_a_row a b c d e f g h i =
    rw (append-nil i, append_assoc a (b ++ (c ++ d)) ((e ++ (f ++ g)) ++ (h ++ i)), append_assoc b (c ++ d) ((e ++ (f ++ g)) ++ (h ++ i)), append_assoc c d ((e ++ (f ++ g)) ++ (h ++ i)), append_assoc e (f ++ g) (h ++ i), append_assoc f g (h ++ i)) refl

read_again : (me : ℕ) (batch : Batch) (read : Result Gathered ℕ) (g : Gathered) → read ≡ Ok g → (g.batch ≡ batch) × (g.sender ≡ sender_of me batch.sent) × (g.frames ≡ map (sent_content me) batch.sent) → IsReadAgain me batch read
read_again me batch read g e is = subst (IsReadAgain me batch) (sym e) is

pub batches_again : ItemsAreReadAgain → (me : ℕ) (batch : Batch) → IsInGrammar me batch → AreShort me batch → IsReadAgain me batch (batch_in (batch_bytes me batch))
batches_again items me batch g w =
    let whole = batch_bytes me batch in
    let b9 = once 9 refused_content batch.refused ++ [] in
    let b8 = once 8 word_field.spelled batch.saved ++ b9 in
    let b7 = each 7 (sent_content me) batch.sent ++ b8 in
    let b6 = each 6 answer_content batch.answers ++ b7 in
    let b5 = each 5 commit_content batch.commits ++ b6 in
    let b4 = once 4 taken_content batch.taken ++ b5 in
    let b3 = once 3 halt_content batch.halt ++ b4 in
    let b2 = each 2 members_content batch.members ++ b3 in
    let b1 = once 1 long_field.spelled batch.lead ++ b2 in
    let row : whole ≡ b1 =
    in_a_row (once 1 long_field.spelled batch.lead) (each 2 members_content batch.members) (once 3 halt_content batch.halt) (once 4 taken_content batch.taken) (each 5 commit_content batch.commits)
    (each 6 answer_content batch.answers) (each 7 (sent_content me) batch.sent) (once 8 word_field.spelled batch.saved) (once 9 refused_content batch.refused) in
    let r0 : Reached whole b1 1 (made me None [] None None [] [] [] None None) = record { last = 0; below = omega arith; walked = subst (λ bytes. Walked whole bytes none_yet) row (begins whole) } in
    let r1 = leading me batch w g items whole b2 r0 in
    let r2 = configured me batch w g items whole b3 r1 in
    let r3 = halted me batch w g items whole b4 r2 in
    let r4 = took me batch w g items whole b5 r3 in
    let r5 = committed me batch w g items whole b6 r4 in
    let r6 = answered me batch w g items whole b7 r5 in
    let r7 = sent_out me batch w g items whole b8 r6 in
    let r8 = saved_one me batch w g items whole b9 r7 in
    let r9 = refused_one me batch w g items whole [] r8 in
    read_again me batch (batch_in whole) (all_of me batch w g items whole r9.last) (ends whole [] (all_of me batch w g items whole r9.last) r9.walked refl) (refl, refl, refl)
