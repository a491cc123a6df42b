-- An item's kind and sender decide whether it may stand, whatever else was gathered before it.
use Rattle.std.proofs.Common.{◌≡◌, ℕ, Bool, true, false, cond, eqb, List, Option, Some, None, Result, Ok, Err, refl, sym, ap, subst, ◌∙◌, inl, inr}
use Rattle.std.specs.Prelude.{◌||◌, ◌&&◌, ◌==◌, nat_le}
use Rattle.group_quorum.specs.Voters.{is_id}
use Rattle.std.specs.Int.{w32}
use Rattle.std.proofs.lemmas.Bool.{cases_Bool, cond-true, cond-false, eqb-true}
use Rattle.fixed_fields.specs.Fields.{number_at}
use Rattle.fixed_fields.specs.Formats.{◌>>=◌}
use Rattle.fixed_fields.proofs.Laws.{some_is}
use Rattle.values.specs.declared.memory.Memory.{Memory}
use Rattle.host_msgs.specs.declared.gathered.Gathered.{Gathered}
use Rattle.host_msgs.specs.declared.read.Reading.{Reading}
use Rattle.host_msgs.specs.declared.item.Item.{Item}
use Rattle.host_msgs.specs.declared.item.Item.TheVariants as item
use Rattle.host_msgs.specs.Items.{only_if, hash_of, is_conf, long_field, word_field, members_fields, halt_fields, point_fields, commit_fields, answer_fields, refusal_fields, lead_in, members_in, halt_in, taken_in, body_in, commit_in, answer_of, answer_in, sent_in, saved_in, refused_in, item_in}
use Rattle.host_msgs.specs.Refusals.{refusal_of}
use Rattle.values.specs.declared.limits.TheConstants.{TOP}
use Rattle.values.specs.declared.peer.PeerMsg.{PeerMsg}
use Rattle.host_msgs.specs.Wrapped.{message_in}
use Rattle.host_msgs.specs.Batches.{sender_of, passed, with_item, placed, item_at, is_in_place, next_in}
use Rattle.host_msgs.specs.Walking.{AreAlike, Stands, sender_in, Passes, IsAlike, Follows, Nexts}

-- ---- what is gathered behind items that are alike

pub with_item-marks : (g : Gathered) (i : Item) → AreAlike (with_item g i) g
with_item-marks g (item.Lead term) = record { last = refl; sender = refl }
with_item-marks g (item.Members index margin voters) = record { last = refl; sender = refl }
with_item-marks g (item.Halt index kept offered) = record { last = refl; sender = refl }
with_item-marks g (item.Taken point) = record { last = refl; sender = refl }
with_item-marks g (item.Commit index entry) = record { last = refl; sender = refl }
with_item-marks g (item.Answer client number answer) = record { last = refl; sender = refl }
with_item-marks g (item.Sent from to message frame) = record { last = refl; sender = refl }
with_item-marks g (item.Saved k) = record { last = refl; sender = refl }
with_item-marks g (item.Refused why) = record { last = refl; sender = refl }

and_alike : (a b c : Gathered) → AreAlike a b → AreAlike b c → AreAlike a c
and_alike a b c first second = record { last = first.last ∙ second.last; sender = first.sender ∙ second.sender }

turned : (a b : Gathered) → AreAlike a b → AreAlike b a
turned a b is = record { last = sym is.last; sender = sym is.sender }

abbrev AreBoth : Option Gathered → Option Gathered → Type 0
AreBoth (Some g) (Some h) = AreAlike g h
AreBoth (Some g) None = ⊥
AreBoth None (Some h) = ⊥
AreBoth None None = Unit {0}

passed-both : (a b : Gathered) (kind : ℕ) (s : Option ℕ) → AreAlike a b → AreBoth (passed a kind s) (passed b kind s)
passed-both a b kind None is = record { last = refl; sender = is.sender }
passed-both a b kind (Some from) is =
    subst (λ (n : ℕ). AreBoth (passed a kind (Some from)) (only_if ((n == 0) || (n == from)) (record b { last = kind; sender = from }))) is.sender (by ((a.sender == 0) || (a.sender == from)))
  where
    by : (holds : Bool) → AreBoth (only_if holds (record a { last = kind; sender = from })) (only_if holds (record b { last = kind; sender = from }))
    by true = record { last = refl; sender = refl }
    by false = tt

with_item-both : (o p : Option Gathered) (i : Item) → AreBoth o p → AreBoth (o >>= λ g. Some (with_item g i)) (p >>= λ g. Some (with_item g i))
with_item-both (Some g) (Some h) i is = and_alike (with_item g i) g (with_item h i) (with_item-marks g i) (and_alike g h (with_item h i) is (turned (with_item h i) h (with_item-marks h i)))
with_item-both (Some g) None i is = is
with_item-both None (Some h) i is = is
with_item-both None None i is = is

placed-both : (a b : Gathered) (kind : ℕ) (i : Item) → AreAlike a b → AreBoth (placed a kind i) (placed b kind i)
placed-both a b kind i is = with_item-both (passed a kind (sender_of i)) (passed b kind (sender_of i)) i (passed-both a b kind (sender_of i) is)

-- the marks of an item alone
passed-placed : (g : Gathered) (kind : ℕ) (i : Item) → AreBoth (passed g kind (sender_of i)) (placed g kind i)
passed-placed g kind i = by (passed g kind (sender_of i))
  where
    by : (o : Option Gathered) → AreBoth o (o >>= λ h. Some (with_item h i))
    by (Some h) = turned (with_item h i) h (with_item-marks h i)
    by None = tt

then_both : (o p q : Option Gathered) → AreBoth o p → AreBoth p q → AreBoth o q
then_both (Some a) (Some b) (Some c) first second = and_alike a b c first second
then_both (Some a) (Some b) None first second = second
then_both (Some a) None q first second = absurd first
then_both None (Some b) q first second = absurd first
then_both None None q first second = second

-- ---- what was read with one item more

lost-follows : (holds : Bool) (r : Reading) (o there : Option Gathered) → r.lost ≡ true → Passes holds r.gathered o → AreBoth o there → Follows holds r there
lost-follows true r o (Some g) lost is both = record { marks = subst (λ p. AreBoth p (Some g)) is both; whole = λ not. absurd cc }
lost-follows true r o None lost is both = subst (λ p. AreBoth p None) is both
lost-follows false r o (Some g) lost is both = absurd (subst (λ p. AreBoth p (Some g)) is both)
lost-follows false r o None lost is both = refl

pub passed-follows : (holds : Bool) (old new : Reading) (g : Gathered) (kind : ℕ) (sender : Option ℕ) (i : Item) → new.lost ≡ true → Passes holds new.gathered (passed old.gathered kind sender)
    → Stands old g → sender_of i ≡ sender → Follows holds new (placed g kind i)
passed-follows holds old new g kind sender i lost is stands from =
    let here = subst (λ s. Passes holds new.gathered (passed old.gathered kind s)) (sym from) is in
    lost-follows holds new (passed old.gathered kind (sender_of i)) (placed g kind i) lost here
    (then_both (passed old.gathered kind (sender_of i)) (passed g kind (sender_of i)) (placed g kind i) (passed-both old.gathered g kind (sender_of i) stands.marks) (passed-placed g kind i))

pub unkept-follows : (old new : Reading) (g : Gathered) (kind : ℕ) (i : Item) → new.lost ≡ true → IsAlike new.gathered (placed old.gathered kind i) → Stands old g → Follows true new (placed g kind i)
unkept-follows old new g kind i lost is stands = by (placed old.gathered kind i) (placed g kind i) is (placed-both old.gathered g kind i stands.marks)
  where
    by : (o there : Option Gathered) → IsAlike new.gathered o → AreBoth o there → Follows true new there
    by (Some a) (Some b) is both = record { marks = and_alike new.gathered a b is both; whole = λ not. absurd cc }
    by (Some a) None is both = both
    by None there is both = absurd is

pub placed-follows : (holds : Bool) (old new : Reading) (g : Gathered) (kind : ℕ) (i : Item) → new.lost ≡ old.lost → Passes holds new.gathered (placed old.gathered kind i) → Stands old g → Follows holds new (placed g kind i)
placed-follows holds old new g kind i lost is stands = by holds (placed g kind i) refl is (placed-both old.gathered g kind i stands.marks)
  where
    by : (holds : Bool) (there : Option Gathered) → placed g kind i ≡ there → Passes holds new.gathered (placed old.gathered kind i) → AreBoth (placed old.gathered kind i) there → Follows holds new there
    by true (Some h) eq is both =
        record {
          marks = subst (λ p. AreBoth p (Some h)) is both;
          whole = λ not. some_is new.gathered h (sym is ∙ ap (λ (a : Gathered). placed a kind i) (stands.whole (sym lost ∙ not)) ∙ eq);
        }
    by true None eq is both = subst (λ p. AreBoth p None) is both
    by false (Some h) eq is both = absurd (subst (λ p. AreBoth p (Some h)) is both)
    by false None eq is both = refl

-- ---- the sender in the content of an item

abbrev NamesNone : Option Item → Type 0
NamesNone o = (i : Item) → o ≡ Some i → sender_of i ≡ None

none_named : NamesNone None
none_named i is = absurd cc

named : (j : Item) → sender_of j ≡ None → NamesNone (Some j)
named j names i is = subst (λ (k : Item). sender_of k ≡ None) (some_is j i is) names

held : (b : Bool) (j : Item) → sender_of j ≡ None → NamesNone (only_if b j)
held true j names = named j names
held false j names = none_named

pick : (b : Bool) (x y : Option Item) → NamesNone x → NamesNone y → NamesNone (cond b x y)
pick true x y first second = first
pick false x y first second = second

bound : {X : Type 0} (o : Option X) (f : X → Option Item) → ((x : X) → NamesNone (f x)) → NamesNone (o >>= f)
bound None f go = none_named
bound (Some x) f go = go x

lead_names : (bytes : List ℕ) → NamesNone (lead_in bytes)
lead_names bytes = bound (long_field.read bytes) (λ term. only_if (nat_le term TOP) (item.Lead term)) (λ term. held (nat_le term TOP) (item.Lead term) refl)

members_names : (bytes : List ℕ) → NamesNone (members_in bytes)
members_names bytes =
    bound (members_fields.read bytes) (λ p. only_if (nat_le p.0 TOP && is_conf p.1.0 p.1.1) (item.Members p.0 p.1.0 p.1.1)) (λ p. held (nat_le p.0 TOP && is_conf p.1.0 p.1.1) (item.Members p.0 p.1.0 p.1.1) refl)

halt_names : (bytes : List ℕ) → NamesNone (halt_in bytes)
halt_names bytes =
    bound (halt_fields.read bytes) (λ p. only_if (nat_le p.0 TOP) (item.Halt p.0 (hash_of p.1.0) (hash_of p.1.1))) (λ p. held (nat_le p.0 TOP) (item.Halt p.0 (hash_of p.1.0) (hash_of p.1.1)) refl)

taken_names : (bytes : List ℕ) → NamesNone (taken_in bytes)
taken_names bytes =
    bound (point_fields.read bytes) (λ p. only_if (nat_le p.0 TOP) (item.Taken (record { index = p.0; hash = hash_of p.1 }))) (λ p. held (nat_le p.0 TOP) (item.Taken (record { index = p.0; hash = hash_of p.1 })) refl)

commit_names : (bytes : List ℕ) → NamesNone (commit_in bytes)
commit_names bytes =
    bound (commit_fields.read bytes) (λ p. body_in p.1.1.0 p.1.1.1 >>= λ b. only_if (nat_le p.0 TOP && nat_le p.1.0 TOP) (item.Commit p.0 (record { term = p.1.0; body = b })))
    (λ p. bound (body_in p.1.1.0 p.1.1.1) (λ b. only_if (nat_le p.0 TOP && nat_le p.1.0 TOP) (item.Commit p.0 (record { term = p.1.0; body = b })))
    (λ b. held (nat_le p.0 TOP && nat_le p.1.0 TOP) (item.Commit p.0 (record { term = p.1.0; body = b })) refl))

answer_names : (bytes : List ℕ) → NamesNone (answer_in bytes)
answer_names bytes =
    bound (answer_fields.read bytes) (λ p. answer_of p.1.1.0 p.1.1.1 >>= λ a. Some (item.Answer (record { 0 = p.0 }) p.1.0 a))
    (λ p. bound (answer_of p.1.1.0 p.1.1.1) (λ a. Some (item.Answer (record { 0 = p.0 }) p.1.0 a)) (λ a. named (item.Answer (record { 0 = p.0 }) p.1.0 a) refl))

saved_names : (bytes : List ℕ) → NamesNone (saved_in bytes)
saved_names bytes = bound (word_field.read bytes) (λ k. Some (item.Saved k)) (λ k. named (item.Saved k) refl)

refused_names : (bytes : List ℕ) → NamesNone (refused_in bytes)
refused_names bytes =
    bound (refusal_fields.read bytes) (λ p. refusal_of p.0 p.1.0 p.1.1 >>= λ r. Some (item.Refused r)) (λ p. bound (refusal_of p.0 p.1.0 p.1.1) (λ r. Some (item.Refused r)) (λ r. named (item.Refused r) refl))

other_kinds : (kind : ℕ) (bytes : List ℕ) → eqb kind 7 ≡ false → NamesNone (item_in kind bytes)
unfolding item_in
other_kinds kind bytes other =
    pick (eqb kind 1) (lead_in bytes) _ (lead_names bytes) (pick (eqb kind 2) (members_in bytes) _ (members_names bytes) (pick (eqb kind 3) (halt_in bytes) _ (halt_names bytes) (pick (eqb kind 4) (taken_in bytes) _ (taken_names bytes)
    (pick (eqb kind 5) (commit_in bytes) _ (commit_names bytes) (pick (eqb kind 6) (answer_in bytes) _ (answer_names bytes) behind)))))
  where
    last_kinds : NamesNone (cond (eqb kind 8) (saved_in bytes) (cond (eqb kind 9) (refused_in bytes) None))
    last_kinds = pick (eqb kind 8) (saved_in bytes) (cond (eqb kind 9) (refused_in bytes) None) (saved_names bytes) (pick (eqb kind 9) (refused_in bytes) None (refused_names bytes) none_named)

    behind : NamesNone (cond (eqb kind 7) (sent_in bytes) (cond (eqb kind 8) (saved_in bytes) (cond (eqb kind 9) (refused_in bytes) None)))
    behind = subst NamesNone (sym (cond-false (eqb kind 7) (sent_in bytes) (cond (eqb kind 8) (saved_in bytes) (cond (eqb kind 9) (refused_in bytes) None)) other)) last_kinds

abbrev sent_from : List ℕ → ℕ × (ℕ × List ℕ) → Option Item
sent_from bytes p = message_in p.1.1 >>= λ m. only_if (is_id p.0 && is_id p.1.0) (item.Sent p.0 p.1.0 m bytes)

names_held : (b : Bool) (from to : ℕ) (m : PeerMsg) (bytes : List ℕ) (i : Item) → only_if b (item.Sent from to m bytes) ≡ Some i → sender_of i ≡ Some from
names_held true from to m bytes i is = subst (λ (k : Item). sender_of k ≡ Some from) (some_is (item.Sent from to m bytes) i is) refl
names_held false from to m bytes i is = absurd cc

names_message : (bytes : List ℕ) (from : ℕ) (y : ℕ × List ℕ) (o : Option PeerMsg) (i : Item) → (o >>= λ m. only_if (is_id from && is_id y.0) (item.Sent from y.0 m bytes)) ≡ Some i → sender_of i ≡ Some from
names_message bytes from y None i is = absurd cc
names_message bytes from y (Some m) i is = names_held (is_id from && is_id y.0) from y.0 m bytes i is

names_second : (bytes : List ℕ) (from : ℕ) (o : Option (ℕ × List ℕ)) (i : Item) → (((o >>= λ y. Some y.1 >>= λ z. Some (y.0, z)) >>= λ q. Some (from, q)) >>= sent_from bytes) ≡ Some i → sender_of i ≡ Some from
names_second bytes from None i is = absurd cc
names_second bytes from (Some y) i is = names_message bytes from y (message_in y.1) i is

names_first : (bytes : List ℕ) (o : Option (ℕ × List ℕ)) (i : Item)
    → ((o >>= λ x. (number_at w32 x.1 >>= λ y. Some y.1 >>= λ z. Some (y.0, z)) >>= λ q. Some (x.0, q)) >>= sent_from bytes) ≡ Some i → sender_of i ≡ (o >>= λ p. Some p.0)
names_first bytes None i is = absurd cc
names_first bytes (Some x) i is = names_second bytes x.0 (number_at w32 x.1) i is

sent-names : (bytes : List ℕ) (i : Item) → item_in 7 bytes ≡ Some i → sender_of i ≡ (number_at w32 bytes >>= λ p. Some p.0)
unfolding item_in
sent-names bytes i is = names_first bytes (number_at w32 bytes) i is

pub item-names : (kind : ℕ) (bytes : List ℕ) (i : Item) → item_in kind bytes ≡ Some i → sender_of i ≡ sender_in kind bytes
item-names kind bytes i is =
    elim (cases_Bool (eqb kind 7)) [
      | inl sent ↦ sent-names bytes i (ap (λ (k : ℕ). item_in k bytes) (sym (eqb-true kind 7 sent)) ∙ is) ∙ sym (cond-true (eqb kind 7) (number_at w32 bytes >>= λ p. Some p.0) None sent)
      | inr other ↦ other_kinds kind bytes other i is ∙ sym (cond-false (eqb kind 7) (number_at w32 bytes >>= λ p. Some p.0) None other)
    ]
