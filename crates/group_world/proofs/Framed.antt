-- The frames of a batch that was read are link frames of its messages, all from its sender.
use Rattle.std.proofs.Common.{◌≡◌, ◌≢◌, ◌∙◌, sym, ap, subst, refl, ℕ, zero, suc, ◌+◌, ◌-◌, ◌==◌, ◌&&◌, ◌||◌, Bool, true, false, cond, List, [], ◌∷◌, ◌++◌, length, take, drop, inl, inr, Option, Some, None, Result, Ok, Err}
use Rattle.std.specs.Prelude.{nat_lt, IfSome}
use Rattle.std.specs.Int.{w32, from_be_bytes}
use Rattle.std.proofs.lemmas.Bool.{and_parts, cond_both, eqb-true, or_cases}
use Rattle.std.proofs.lemmas.List.{drop-drop}
use Rattle.fixed_fields.specs.Fields.{number_at}
use Rattle.fixed_fields.specs.Formats.{◌>>=◌, number, rest, before}
use Rattle.fixed_fields.proofs.Laws.{bind_some, guard_some, some_is}
use Rattle.values.specs.declared.batch.Batch.{Batch}
use Rattle.values.specs.declared.peer.PeerMsg.{PeerMsg}
use Rattle.group_quorum.specs.Voters.{is_id}
use Rattle.group_msgs.specs.Peer.{peer_of}
use Rattle.attested_link.specs.Frames.{link_frame}
use Rattle.host_msgs.specs.declared.gathered.Gathered.{Gathered}
use Rattle.host_msgs.specs.declared.item.Item.{Item}
use Rattle.host_msgs.specs.declared.item.Item.TheVariants as item
use Rattle.host_msgs.specs.Items.{only_if, answer_in, commit_in, halt_in, item_in, lead_in, members_in, refused_in, saved_in, sent_in, taken_in}
use Rattle.host_msgs.specs.Batches.{batch_in, gathered_from, is_in_place, item_at, next_in, none_yet, or_at, passed, placed, with_item}
use Rattle.host_msgs.specs.Walking.{ReadsBatch}
use Rattle.host_msgs.specs.Wrapped.{if_ok, message_in}
use Rattle.group_world.specs.Plays.{IsBatch}

-- ---- an item of a message

abbrev is_sent : Item → Bool
is_sent (item.Lead term) = false
is_sent (item.Members index margin voters) = false
is_sent (item.Halt index kept offered) = false
is_sent (item.Taken point) = false
is_sent (item.Commit index entry) = false
is_sent (item.Answer client number answer) = false
is_sent (item.Sent from to message frame) = true
is_sent (item.Saved k) = false
is_sent (item.Refused refusal) = false

NotSent : Option Item → Type 0
NotSent o = IfSome o (λ i. is_sent i ≡ false)

bind_plain : {A : Type 0} (o : Option A) (f : A → Option Item) → ((x : A) → NotSent (f x)) → NotSent (o >>= f)
unfolding NotSent
bind_plain None f h = tt
bind_plain (Some x) f h = h x

only_plain : (b : Bool) (i : Item) → is_sent i ≡ false → NotSent (only_if b i)
unfolding NotSent
only_plain true i h = h
only_plain false i h = tt

none_plain : NotSent None
unfolding NotSent
none_plain = tt

some_plain : (i : Item) → is_sent i ≡ false → NotSent (Some i)
unfolding NotSent
some_plain i h = h

lead_plain : (bytes : List ℕ) → NotSent (lead_in bytes)
lead_plain bytes = search (bind_plain, only_plain)

members_plain : (bytes : List ℕ) → NotSent (members_in bytes)
members_plain bytes = search (bind_plain, only_plain)

halt_plain : (bytes : List ℕ) → NotSent (halt_in bytes)
halt_plain bytes = search (bind_plain, only_plain)

taken_plain : (bytes : List ℕ) → NotSent (taken_in bytes)
taken_plain bytes = search (bind_plain, only_plain)

commit_plain : (bytes : List ℕ) → NotSent (commit_in bytes)
commit_plain bytes = search (bind_plain, only_plain)

answer_plain : (bytes : List ℕ) → NotSent (answer_in bytes)
answer_plain bytes = search (bind_plain, some_plain)

saved_plain : (bytes : List ℕ) → NotSent (saved_in bytes)
saved_plain bytes = search (bind_plain, some_plain)

refused_plain : (bytes : List ℕ) → NotSent (refused_in bytes)
refused_plain bytes = search (bind_plain, some_plain)

module _ (bytes : List ℕ) (i : Item) (sent : is_sent i ≡ true) where
  abbrev IsSentAt : Option Item → Type 0
  IsSentAt o = o ≡ Some i → sent_in bytes ≡ Some i

  plain : (o : Option Item) → NotSent o → IsSentAt o
  unfolding NotSent
  plain None h is = absurd cc
  plain (Some j) h is = let same : j ≡ i = cc in absurd (cc (sym h ∙ ap is_sent same ∙ sent))

  -- only the kind 7 says a message
  item_sent : (kind : ℕ) → item_in kind bytes ≡ Some i → sent_in bytes ≡ Some i
  unfolding item_in
  item_sent kind =
      cond_both (kind == 1) _ _ IsSentAt (λ so. plain _ (lead_plain bytes))
      (λ other. cond_both (kind == 2) _ _ IsSentAt (λ so. plain _ (members_plain bytes))
      (λ other. cond_both (kind == 3) _ _ IsSentAt (λ so. plain _ (halt_plain bytes))
      (λ other. cond_both (kind == 4) _ _ IsSentAt (λ so. plain _ (taken_plain bytes))
      (λ other. cond_both (kind == 5) _ _ IsSentAt (λ so. plain _ (commit_plain bytes))
      (λ other. cond_both (kind == 6) _ _ IsSentAt (λ so. plain _ (answer_plain bytes))
      (λ other. cond_both (kind == 7) _ _ IsSentAt (λ so is. is)
      (λ other. cond_both (kind == 8) _ _ IsSentAt (λ so. plain _ (saved_plain bytes))
      (λ other. cond_both (kind == 9) _ _ IsSentAt (λ so. plain _ (refused_plain bytes))
      (λ other. plain None none_plain)))))))))

-- ---- a link frame, by what is read of it

-- the parts of a link frame
pub record IsFrame (from to : ℕ) (msg : PeerMsg) (frame : List ℕ) : Type 0 where
  pub sender : from_be_bytes w32 (take 4 frame) ≡ from
  pub addressee : from_be_bytes w32 (take 4 (drop 4 frame)) ≡ to
  pub message : peer_of (drop 8 frame) ≡ Ok msg
  pub some : is_id from ≡ true

only_some : {X : Type 0} (b : Bool) (x y : X) → only_if b x ≡ Some y → (b ≡ true) × (x ≡ y)
only_some true x y is = (refl, some_is x y is)
only_some false x y is = absurd cc

message_read : (bytes : List ℕ) (msg : PeerMsg) → message_in bytes ≡ Some msg → peer_of bytes ≡ Ok msg
unfolding message_in
message_read bytes msg is = by (peer_of bytes) is
  where
    by : {E : Type 0} (r : Result PeerMsg E) → if_ok r ≡ Some msg → r ≡ Ok msg
    by (Ok m) is = ap Ok (some_is m msg is)
    by (Err e) is = absurd cc

frame_parts : (frame : List ℕ) (p : ℕ × (ℕ × List ℕ)) → link_frame.read frame ≡ Some p
    → (from_be_bytes w32 (take 4 frame) ≡ p.0) × (from_be_bytes w32 (take 4 (drop 4 frame)) ≡ p.1.0) × (drop 8 frame ≡ p.1.1)
unfolding number_at
frame_parts frame p is =
    let first = bind_some (number_at w32 frame) (λ x. (before (number w32) rest).read x.1 >>= λ y. Some (x.0, y)) p is in
    let x = (guard_some (nat_lt (length frame) 4) (from_be_bytes w32 (take 4 frame), drop 4 frame) first.value first.first).1 in
    let second = bind_some ((before (number w32) rest).read first.value.1) (λ y. Some (first.value.0, y)) p first.then in
    let third = bind_some (number_at w32 first.value.1) (λ z. rest.read z.1 >>= λ behind. Some (z.0, behind)) second.value second.first in
    let z = (guard_some (nat_lt (length first.value.1) 4) (from_be_bytes w32 (take 4 first.value.1), drop 4 first.value.1) third.value third.first).1 in
    let whole : (first.value.0, second.value) ≡ p = some_is (first.value.0, second.value) p second.then in
    let behind : (third.value.0, third.value.1) ≡ second.value = some_is (third.value.0, third.value.1) second.value third.then in
    let at : drop 4 frame ≡ first.value.1 = ap (λ (q : ℕ × List ℕ). q.1) x in (
      ap (λ (q : ℕ × List ℕ). q.0) x ∙ ap (λ (q : ℕ × (ℕ × List ℕ)). q.0) whole,
      ap (λ (bytes : List ℕ). from_be_bytes w32 (take 4 bytes)) at ∙ ap (λ (q : ℕ × List ℕ). q.0) z ∙ ap (λ (q : ℕ × List ℕ). q.0) behind ∙ ap (λ (q : ℕ × (ℕ × List ℕ)). q.1.0) whole,
      sym (drop-drop 4 4 frame) ∙ ap (drop 4) at ∙ ap (λ (q : ℕ × List ℕ). q.1) z ∙ ap (λ (q : ℕ × List ℕ). q.1) behind ∙ ap (λ (q : ℕ × (ℕ × List ℕ)). q.1.1) whole,
    )

sent_frame : (bytes : List ℕ) (from to : ℕ) (msg : PeerMsg) (frame : List ℕ) → sent_in bytes ≡ Some (item.Sent from to msg frame) → IsFrame from to msg frame
sent_frame bytes from to msg frame is =
    let a = bind_some (link_frame.read bytes) (λ p. message_in p.1.1 >>= λ m. only_if (is_id p.0 && is_id p.1.0) (item.Sent p.0 p.1.0 m bytes)) (item.Sent from to msg frame) is in
    let b = bind_some (message_in a.value.1.1) (λ m. only_if (is_id a.value.0 && is_id a.value.1.0) (item.Sent a.value.0 a.value.1.0 m bytes)) (item.Sent from to msg frame) a.then in
    let c = only_some (is_id a.value.0 && is_id a.value.1.0) (item.Sent a.value.0 a.value.1.0 b.value bytes) (item.Sent from to msg frame) b.then in
    let same = c.1 in
    let (sender, addressee, behind) = frame_parts bytes a.value a.first in
    let from_is : a.value.0 ≡ from = cc same in
    let to_is : a.value.1.0 ≡ to = cc same in
    let msg_is : b.value ≡ msg = cc same in
    let bytes_is : bytes ≡ frame = cc same in
    subst (IsFrame from to msg) bytes_is
    (record {
      sender = sender ∙ from_is;
      addressee = addressee ∙ to_is;
      message = message_read (drop 8 bytes) msg (ap message_in behind ∙ b.first ∙ ap Some msg_is);
      some = ap is_id (sym from_is) ∙ (and_parts (is_id a.value.0) (is_id a.value.1.0) c.0).0;
    })

-- ---- all of them

-- each frame is one of the message at its place
abbrev pub AreFrames : ℕ → List (List ℕ) → List (ℕ × PeerMsg) → Type 0
AreFrames from [] [] = Unit {0}
AreFrames from [] (s ∷ ss) = ⊥
AreFrames from (f ∷ fs) [] = ⊥
AreFrames from (f ∷ fs) (s ∷ ss) = IsFrame from s.0 s.1 f × AreFrames from fs ss

pub frames_length : (from : ℕ) (fs : List (List ℕ)) (ss : List (ℕ × PeerMsg)) → AreFrames from fs ss → length fs ≡ length ss
frames_length from [] [] h = refl
frames_length from [] (s ∷ ss) h = absurd h
frames_length from (f ∷ fs) [] h = absurd h
frames_length from (f ∷ fs) (s ∷ ss) h = ap suc (frames_length from fs ss h.1)

frames_more : (from : ℕ) (fs : List (List ℕ)) (ss : List (ℕ × PeerMsg)) (f : List ℕ) (s : ℕ × PeerMsg) → AreFrames from fs ss → IsFrame from s.0 s.1 f → AreFrames from (fs ++ f ∷ []) (ss ++ s ∷ [])
frames_more from [] [] f s h last = (last, tt)
frames_more from [] (t ∷ ss) f s h last = absurd h
frames_more from (e ∷ fs) [] f s h last = absurd h
frames_more from (e ∷ fs) (t ∷ ss) f s h last = (h.0, frames_more from fs ss f s h.1 last)

no_frames : (from other : ℕ) (fs : List (List ℕ)) (ss : List (ℕ × PeerMsg)) → AreFrames from fs ss → fs ≡ [] → AreFrames other fs ss
no_frames from other [] [] h none = tt
no_frames from other [] (s ∷ ss) h none = absurd h
no_frames from other (f ∷ fs) ss h none = absurd cc

record Framed (g : Gathered) : Type 0 where
  are : AreFrames g.sender g.frames g.batch.sent
  first : g.sender ≡ 0 → g.frames ≡ []

from_same : (g : Gathered) (from : ℕ) → Framed g → (g.sender == 0) || (g.sender == from) ≡ true → AreFrames from g.frames g.batch.sent
from_same g from h test = elim (or_cases (g.sender == 0) (g.sender == from) test) [
  | inl none ↦ no_frames g.sender from g.frames g.batch.sent h.are (h.first (eqb-true g.sender 0 none))
  | inr same ↦ subst (λ (k : ℕ). AreFrames k g.frames g.batch.sent) (eqb-true g.sender from same) h.are
]

not_zero : (k : ℕ) → is_id k ≡ true → k ≢ 0
not_zero zero is = absurd cc
not_zero (suc k) is = λ e. absurd cc

sent_placed : (g h : Gathered) (kind from to : ℕ) (msg : PeerMsg) (frame : List ℕ) → IsFrame from to msg frame → Framed g → placed g kind (item.Sent from to msg frame) ≡ Some h → Framed h
sent_placed g h kind from to msg frame is framed e =
    let a = bind_some (passed g kind (Some from)) (λ g'. Some (with_item g' (item.Sent from to msg frame))) h e in
    let b = only_some ((g.sender == 0) || (g.sender == from)) (record g { last = kind; sender = from }) a.value a.first in
    let same : with_item (record g { last = kind; sender = from }) (item.Sent from to msg frame) ≡ h = ap (λ (g' : Gathered). with_item g' (item.Sent from to msg frame)) b.1 ∙ some_is _ _ a.then in
    subst Framed same
    (record {
      are = frames_more from g.frames g.batch.sent frame (to, msg) (from_same g from framed b.0) is;
      first = λ zero. absurd (not_zero from is.some zero);
    })

plain_placed : (g h : Gathered) (kind : ℕ) (i : Item) → is_sent i ≡ false → Framed g → placed g kind i ≡ Some h → Framed h
plain_placed g h kind (item.Lead term) not_sent framed e = subst Framed (some_is _ _ e) (record { are = framed.are; first = framed.first })
plain_placed g h kind (item.Members index margin voters) not_sent framed e = subst Framed (some_is _ _ e) (record { are = framed.are; first = framed.first })
plain_placed g h kind (item.Halt index kept offered) not_sent framed e = subst Framed (some_is _ _ e) (record { are = framed.are; first = framed.first })
plain_placed g h kind (item.Taken point) not_sent framed e = subst Framed (some_is _ _ e) (record { are = framed.are; first = framed.first })
plain_placed g h kind (item.Commit index entry) not_sent framed e = subst Framed (some_is _ _ e) (record { are = framed.are; first = framed.first })
plain_placed g h kind (item.Answer client number answer) not_sent framed e = subst Framed (some_is _ _ e) (record { are = framed.are; first = framed.first })
plain_placed g h kind (item.Sent from to message frame) not_sent framed e = absurd cc
plain_placed g h kind (item.Saved k) not_sent framed e = subst Framed (some_is _ _ e) (record { are = framed.are; first = framed.first })
plain_placed g h kind (item.Refused refusal) not_sent framed e = subst Framed (some_is _ _ e) (record { are = framed.are; first = framed.first })

item_placed : (g h : Gathered) (kind : ℕ) (content : List ℕ) (i : Item) → item_in kind content ≡ Some i → Framed g → placed g kind i ≡ Some h → Framed h
item_placed g h kind content (item.Sent from to msg frame) is framed e =
    sent_placed g h kind from to msg frame (sent_frame content from to msg frame (item_sent content (item.Sent from to msg frame) refl kind is)) framed e
item_placed g h kind content (item.Lead term) is framed e = plain_placed g h kind (item.Lead term) refl framed e
item_placed g h kind content (item.Members index margin voters) is framed e = plain_placed g h kind (item.Members index margin voters) refl framed e
item_placed g h kind content (item.Halt index kept offered) is framed e = plain_placed g h kind (item.Halt index kept offered) refl framed e
item_placed g h kind content (item.Taken point) is framed e = plain_placed g h kind (item.Taken point) refl framed e
item_placed g h kind content (item.Commit index entry) is framed e = plain_placed g h kind (item.Commit index entry) refl framed e
item_placed g h kind content (item.Answer client number answer) is framed e = plain_placed g h kind (item.Answer client number answer) refl framed e
item_placed g h kind content (item.Saved k) is framed e = plain_placed g h kind (item.Saved k) refl framed e
item_placed g h kind content (item.Refused refusal) is framed e = plain_placed g h kind (item.Refused refusal) refl framed e

if_some : {X : Type 0} (b : Bool) (o : Option X) (x : X) → cond b o None ≡ Some x → o ≡ Some x
if_some true o x is = is
if_some false o x is = absurd cc

next_framed : (g h : Gathered) (bytes behind : List ℕ) → Framed g → next_in g bytes ≡ Some (h, behind) → Framed h
next_framed g h bytes behind framed e =
    let a = bind_some (item_at bytes) (λ p. (cond (is_in_place g.last p.0.0) (item_in p.0.0 p.0.1) None) >>= λ i. placed g p.0.0 i >>= λ g'. Some (g', p.1)) (h, behind) e in
    let b = bind_some (cond (is_in_place g.last a.value.0.0) (item_in a.value.0.0 a.value.0.1) None) (λ i. placed g a.value.0.0 i >>= λ g'. Some (g', a.value.1)) (h, behind) a.then in
    let c = bind_some (placed g a.value.0.0 b.value) (λ g'. Some (g', a.value.1)) (h, behind) b.then in
    let same : c.value ≡ h = ap (λ (p : Gathered × List ℕ). p.0) (some_is (c.value, a.value.1) (h, behind) c.then) in
    subst Framed same (item_placed g c.value a.value.0.0 a.value.0.1 b.value (if_some (is_in_place g.last a.value.0.0) (item_in a.value.0.0 a.value.0.1) b.value b.first) framed c.first)

goes_on : (n at : ℕ) (g h : Gathered) (bytes : List ℕ) → Framed g
    → ((at' : ℕ) (g' : Gathered) (behind : List ℕ) → Framed g' → gathered_from n at' g' behind ≡ Ok h → Framed h)
    → (o : Option (Gathered × List ℕ)) → next_in g bytes ≡ o → or_at at o (λ p. gathered_from n (at + (length bytes - length p.1)) p.0 p.1) ≡ Ok h → Framed h
goes_on n at g h bytes framed rest None is e = absurd cc
goes_on n at g h bytes framed rest (Some p) is e = rest (at + (length bytes - length p.1)) p.0 p.1 (next_framed g p.0 bytes p.1 framed is) e

gathered_framed : (n at : ℕ) (g h : Gathered) (bytes : List ℕ) → Framed g → gathered_from n at g bytes ≡ Ok h → Framed h
unfolding gathered_from
gathered_framed n at g h [] framed e = let same : g ≡ h = cc in subst Framed same framed
gathered_framed zero at g h (b ∷ bytes) framed e = absurd cc
gathered_framed (suc n) at g h (b ∷ bytes) framed e =
    goes_on n at g h (b ∷ bytes) framed (λ at' g' behind f rest. gathered_framed n at' g' h behind f rest) (next_in g (b ∷ bytes)) refl e

pub batch_framed : (content : List ℕ) (g : Gathered) → batch_in content ≡ Ok g → AreFrames g.sender g.frames g.batch.sent
batch_framed content g is = (gathered_framed (length content) 0 none_yet g content (record { are = tt; first = λ e. refl }) is).are

-- what is read of a content is its batch
read_by : (content : List ℕ) (sender : ℕ) (batch : Batch) (frames : List (List ℕ)) (there : Result Gathered ℕ) → batch_in content ≡ there → ReadsBatch (Ok (sender, batch, frames)) there → IsBatch content batch frames
read_by content sender batch frames (Ok g) is (of, same, framed) = record {
  sender = sender;
  last = g.last;
  read = is ∙ λ i. Ok (record { last = g.last; sender = of i; batch = same i; frames = framed i });
}
read_by content sender batch frames (Err at) is reads = absurd reads

pub batch_found : (content : List ℕ) (sender : ℕ) (batch : Batch) (frames : List (List ℕ)) → ReadsBatch (Ok (sender, batch, frames)) (batch_in content) → IsBatch content batch frames
batch_found content sender batch frames reads = read_by content sender batch frames (batch_in content) refl reads
