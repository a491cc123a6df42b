-- What is read of bytes is what their items say.
use Rattle.std.proofs.Common.{◌≡◌, ℕ, zero, suc, ◌+◌, ◌-◌, ◌<◌, ◌^◌, Bool, true, false, cond, List, [], ◌∷◌, ◌++◌, length, Option, Some, None, Result, Ok, Err, refl, sym, ap, subst, ◌∙◌, arith}
use Rattle.std.specs.Prelude.{IfOk}
use Rattle.std.specs.Int.{w8, w32}
use Rattle.std.specs.List.{flat_map}
use Rattle.std.proofs.lemmas.List.{append_assoc}
use Rattle.fixed_fields.specs.Fields.{number_bytes, number_at, block_at}
use Rattle.fixed_fields.specs.Formats.{◌>>=◌, IsBytes}
use Rattle.fixed_fields.proofs.Bytes.{IsBytes-behind, wide8, wide32}
use Rattle.fixed_fields.proofs.Laws.{bind_some, some_is, number_is, block_is}
use Rattle.values.specs.declared.batch.Batch.{Batch}
use Rattle.host_msgs.specs.declared.fault.BatchFault.{BatchFault}
use Rattle.host_msgs.specs.declared.gathered.Gathered.{Gathered}
use Rattle.host_msgs.specs.declared.item.Item.{Item}
use Rattle.host_msgs.specs.declared.item.Item.TheVariants as item
use Rattle.host_msgs.specs.Items.{only_if, item_in}
use Rattle.host_msgs.specs.Batches.{item_bytes, item_at, is_in_place, sender_of, passed, with_item, placed, next_in, none_yet, or_at, gathered_from, batch_in}
use Rattle.host_msgs.specs.Needs.{IsShort}
use Rattle.host_msgs.specs.Walking.{ReadsBatch}
use Rattle.host_msgs.specs.Listed.{Listed, AreInOrder, all_placed, AreListed, IsListed}
use Rattle.host_msgs.proofs.Marks.{with_item-marks}
use Rattle.host_msgs.proofs.Walks.{done}

-- ---- the item at the front

item_taken : (bytes : List ℕ) (p : (ℕ × List ℕ) × List ℕ) → IsBytes bytes → item_at bytes ≡ Some p → (bytes ≡ item_bytes p.0.0 p.0.1 ++ p.1) × IsShort p.0.1
unfolding item_at
item_taken bytes p fits e =
    let kind = bind_some (number_at w8 bytes) (λ kind. number_at w32 kind.1 >>= λ size. block_at size.0 size.1 >>= λ content. Some ((kind.0, content.0), content.1)) p e in
    let k = kind.value in
    let size = bind_some (number_at w32 k.1) (λ size. block_at size.0 size.1 >>= λ content. Some ((k.0, content.0), content.1)) p kind.then in
    let z = size.value in
    let content = bind_some (block_at z.0 z.1) (λ content. Some ((k.0, content.0), content.1)) p size.then in
    let c = content.value in
    let tk = (number_is w8 wide8).taken bytes k.0 k.1 fits kind.first in
    let fk = IsBytes-behind bytes (number_bytes w8 k.0) k.1 tk.0 fits in
    let tz = (number_is w32 wide32).taken k.1 z.0 z.1 fk size.first in
    let fz = IsBytes-behind k.1 (number_bytes w32 z.0) z.1 tz.0 fk in
    let tc = (block_is z.0).taken z.1 c.0 c.1 fz content.first in
    spelled bytes k.0 z.0 k.1 z.1 c.0 c.1 tk.0 tz.0 tc.0 tc.1 tz.1 p (some_is ((k.0, c.0), c.1) p content.then)
  where
    spelled : (bytes : List ℕ) (kind size : ℕ) (b1 b2 content behind : List ℕ) → bytes ≡ number_bytes w8 kind ++ b1 → b1 ≡ number_bytes w32 size ++ b2 → b2 ≡ content ++ behind → length content ≡ size → size < 2 ^ 32
        → (p : (ℕ × List ℕ) × List ℕ) → ((kind, content), behind) ≡ p → (bytes ≡ item_bytes p.0.0 p.0.1 ++ p.1) × IsShort p.0.1
    spelled bytes kind size b1 b2 content behind e1 e2 e3 len small p is =
        let head = number_bytes w8 kind in
        let word = number_bytes w32 (length content) in
        let flat : item_bytes kind content ++ behind ≡ head ++ (word ++ (content ++ behind)) = append_assoc head (word ++ content) behind ∙ ap (λ bytes. head ++ bytes) (append_assoc word content behind) in
        let whole : bytes ≡ head ++ (word ++ (content ++ behind)) = e1 ∙ ap (λ b. head ++ b) (e2 ∙ ap (λ n. number_bytes w32 n ++ b2) (sym len) ∙ ap (λ b. word ++ b) e3) in
        let short : IsShort content = omega (arith, len, small) in
        subst (λ (q : (ℕ × List ℕ) × List ℕ). (bytes ≡ item_bytes q.0.0 q.0.1 ++ q.1) × IsShort q.0.1) is (whole ∙ sym flat, short)

-- ---- one item taken in

-- what a step took from the front
pub record Took (g : Gathered) (bytes : List ℕ) (g' : Gathered) (behind : List ℕ) : Type 0 where
  pub item : Listed
  pub bytes_are : bytes ≡ item_bytes item.kind item.content ++ behind
  pub in_place : is_in_place g.last item.kind ≡ true
  pub short : IsShort item.content
  pub says : item_in item.kind item.content ≡ Some item.said
  pub puts : placed g item.kind item.said ≡ Some g'

if_some : (b : Bool) (o : Option Item) (i : Item) → cond b o None ≡ Some i → (b ≡ true) × (o ≡ Some i)
if_some true o i e = (refl, e)
if_some false o i e = absurd cc

took : (g : Gathered) (bytes : List ℕ) (q : Gathered × List ℕ) → IsBytes bytes → next_in g bytes ≡ Some q → Took g bytes q.0 q.1
took g bytes q fits e =
    let front = bind_some (item_at bytes) (λ p. cond (is_in_place g.last p.0.0) (item_in p.0.0 p.0.1) None >>= λ i. placed g p.0.0 i >>= λ g'. Some (g', p.1)) q e in
    let p = front.value in
    let said = bind_some (cond (is_in_place g.last p.0.0) (item_in p.0.0 p.0.1) None) (λ i. placed g p.0.0 i >>= λ g'. Some (g', p.1)) q front.then in
    let put = bind_some (placed g p.0.0 said.value) (λ g'. Some (g', p.1)) q said.then in
    let t = item_taken bytes p fits front.first in
    let s = if_some (is_in_place g.last p.0.0) (item_in p.0.0 p.0.1) said.value said.first in
    let made : Took g bytes put.value p.1 = record { item = record { kind = p.0.0; content = p.0.1; said = said.value }; bytes_are = t.0; in_place = s.0; short = t.1; says = s.1; puts = put.first } in
    subst (λ (r : Gathered × List ℕ). Took g bytes r.0 r.1) (some_is (put.value, p.1) q put.then) made

-- it is the last from then on
held_some : (b : Bool) (x y : Gathered) → only_if b x ≡ Some y → x ≡ y
held_some true x y e = some_is x y e
held_some false x y e = absurd cc

passed_last : (g : Gathered) (kind : ℕ) (s : Option ℕ) (g' : Gathered) → passed g kind s ≡ Some g' → kind ≡ g'.last
passed_last g kind None g' e = ap (λ (h : Gathered). h.last) (some_is _ g' e)
passed_last g kind (Some from) g' e = ap (λ (h : Gathered). h.last) (held_some _ _ g' e)

last_is : (g : Gathered) (kind : ℕ) (i : Item) (g' : Gathered) → placed g kind i ≡ Some g' → kind ≡ g'.last
last_is g kind i g' e =
    let p = bind_some (passed g kind (sender_of i)) (λ h. Some (with_item h i)) g' e in
    passed_last g kind (sender_of i) p.value p.first ∙ sym (with_item-marks p.value i).last ∙ ap (λ (h : Gathered). h.last) (some_is (with_item p.value i) g' p.then)

-- ---- all of them

and_the_rest : (g g1 g' : Gathered) (bytes behind : List ℕ) → Took g bytes g1 behind → AreListed g1 behind g' → AreListed g bytes g'
and_the_rest g g1 g' bytes behind t r =
    record {
      items = t.item ∷ r.items;
      spelled = t.bytes_are ∙ ap (λ b. item_bytes t.item.kind t.item.content ++ b) r.spelled;
      order = (t.in_place, (t.short, (t.says, subst (λ k. AreInOrder k r.items) (sym (last_is g t.item.kind t.item.said g1 t.puts)) r.order)));
      says = ap (λ (o : Option Gathered). o >>= λ h. all_placed h r.items) t.puts ∙ r.says;
    }

abbrev read_as : Gathered → Result Gathered ℕ
read_as g = Ok g

same : (g g' : Gathered) → read_as g ≡ read_as g' → Some g ≡ Some g'
same g g' e = cc

listed_from : (n at : ℕ) (g g' : Gathered) (bytes : List ℕ) → IsBytes bytes → gathered_from n at g bytes ≡ Ok g' → AreListed g bytes g'
unfolding gathered_from
listed_from n at g g' [] fits e = record { items = []; spelled = refl; order = tt; says = same g g' (sym (done n at g) ∙ e) }
listed_from zero at g g' (b ∷ bytes) fits e = absurd cc
listed_from (suc n) at g g' (b ∷ bytes) fits e =
    by_next (next_in g (b ∷ bytes)) refl e (λ g1 behind fits' e'. listed_from n (at + (length (b ∷ bytes) - length behind)) g1 g' behind fits' e')
  where
    by_next : (o : Option (Gathered × List ℕ)) → next_in g (b ∷ bytes) ≡ o → or_at at o (λ p. gathered_from n (at + (length (b ∷ bytes) - length p.1)) p.0 p.1) ≡ Ok g'
        → ((g1 : Gathered) (behind : List ℕ) → IsBytes behind → gathered_from n (at + (length (b ∷ bytes) - length behind)) g1 behind ≡ Ok g' → AreListed g1 behind g') → AreListed g (b ∷ bytes) g'
    by_next None is e go = absurd cc
    by_next (Some q) is e go =
        let t = took g (b ∷ bytes) q fits is in
        let fits' = IsBytes-behind (b ∷ bytes) (item_bytes t.item.kind t.item.content) q.1 t.bytes_are fits in
        and_the_rest g q.0 g' (b ∷ bytes) q.1 t (go q.0 q.1 fits' e)

-- what was read is listed
pub found : (content : List ℕ) (r : Result (ℕ × Batch × List (List ℕ)) BatchFault) → IsBytes content → ReadsBatch r (batch_in content) → IfOk r (λ read. IsListed content read.0 read.1 read.2)
found content (Err fault) fits reads = tt
found content (Ok read) fits reads = by_there (batch_in content) refl reads
  where
    by_there : (there : Result Gathered ℕ) → batch_in content ≡ there → ReadsBatch (Ok read) there → IsListed content read.0 read.1 read.2
    by_there (Err at) is reads = absurd reads
    by_there (Ok g) is reads =
        let whole : AreListed none_yet content g = listed_from (length content) 0 none_yet g content fits is in
        let step1 = subst (λ s. AreListed none_yet content (record { last = g.last; sender = s; batch = g.batch; frames = g.frames })) reads.0 whole in
        let step2 = subst (λ b. AreListed none_yet content (record { last = g.last; sender = read.0; batch = b; frames = g.frames })) reads.1 step1 in
        record { last = g.last; listed = subst (λ f. AreListed none_yet content (record { last = g.last; sender = read.0; batch = read.1; frames = f })) reads.2 step2 }
