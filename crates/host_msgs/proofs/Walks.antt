-- Walking through the items of a batch.
use Rattle.std.proofs.Common.{◌≡◌, ℕ, zero, suc, ◌+◌, ◌-◌, ◌<◌, ◌≤◌, Bool, true, false, cond, eqb, ltb, List, [], ◌∷◌, length, drop, take, Option, Some, None, Result, Ok, Err, refl, sym, ap, subst, ◌∙◌, arith}
use Rattle.std.specs.Int.{Width, byte_len, from_be_bytes}
use Rattle.std.proofs.lemmas.Bool.{ltb-false, eqb-true, false≢true}
use Rattle.std.proofs.lemmas.List.{length-drop, nil_from_length}
use Rattle.fixed_fields.specs.Fields.{number_at, block_at}
use Rattle.fixed_fields.proofs.Laws.{guard_some}
use Rattle.host_msgs.specs.declared.gathered.Gathered.{Gathered}
use Rattle.std.specs.Prelude.{IfSome, IsOk, IsSome}
use Rattle.fixed_fields.specs.Formats.{◌>>=◌}
use Rattle.host_msgs.specs.declared.item.Item.{Item}
use Rattle.host_msgs.specs.declared.read.Reading.{Reading}
use Rattle.host_msgs.specs.Items.{item_in}
use Rattle.host_msgs.specs.Walking.{Stands, Follows, Nexts, ReadsBatch}
use Rattle.host_msgs.specs.Batches.{item_at, is_in_place, placed, next_in, none_yet, or_at, gathered_from, batch_in}

-- ---- what stands behind a field is shorter

pub behind_number : (w : Width) (bytes : List ℕ) (n : ℕ) (behind : List ℕ) → number_at w bytes ≡ Some (n, behind) → length behind + byte_len w ≤ length bytes
unfolding number_at
behind_number w bytes n behind e =
    let g = guard_some (ltb (length bytes) (byte_len w)) (from_be_bytes w (take (byte_len w) bytes), drop (byte_len w) bytes) (n, behind) e in
    let long : byte_len w ≤ length bytes = ltb-false _ _ g.0 in
    let is : length (drop (byte_len w) bytes) ≡ length behind = ap (λ (p : ℕ × List ℕ). length p.1) g.1 in
    omega (arith, long, is, length-drop (byte_len w) bytes)

pub behind_block : (n : ℕ) (bytes block behind : List ℕ) → block_at n bytes ≡ Some (block, behind) → length behind ≤ length bytes
unfolding block_at
behind_block n bytes block behind e =
    let g = guard_some (ltb (length bytes) n) (take n bytes, drop n bytes) (block, behind) e in
    let is : length (drop n bytes) ≡ length behind = ap (λ (p : List ℕ × List ℕ). length p.1) g.1 in
    omega (arith, is, length-drop n bytes)

-- ---- one item after another

-- what is left of the bytes gives with what was gathered the same as all of them
pub record Walked (content rest : List ℕ) (g : Gathered) : Type 0 where
  pub steps : ℕ
  pub enough : length rest ≤ steps
  pub within : length rest ≤ length content
  pub same : gathered_from steps (length content - length rest) g rest ≡ batch_in content

pub begins : (content : List ℕ) → Walked content content none_yet
begins content =
    let start : length content - length content ≡ 0 = omega arith in
    record { steps = length content; enough = omega arith; within = omega arith; same = ap (λ (at : ℕ). gathered_from (length content) at none_yet content) start }

step : (n at : ℕ) (g g' : Gathered) (bytes behind : List ℕ) → 0 < length bytes → next_in g bytes ≡ Some (g', behind) → gathered_from (suc n) at g bytes ≡ gathered_from n (at + (length bytes - length behind)) g' behind
unfolding gathered_from
step n at g g' [] behind some e = absurd (omega arith)
step n at g g' (b ∷ bytes) behind some e = ap (λ (o : Option (Gathered × List ℕ)). or_at at o (λ p. gathered_from n (at + (length (b ∷ bytes) - length p.1)) p.0 p.1)) e

stop : (n at : ℕ) (g : Gathered) (bytes : List ℕ) → 0 < length bytes → next_in g bytes ≡ None → gathered_from (suc n) at g bytes ≡ Err at
unfolding gathered_from
stop n at g [] some e = absurd (omega arith)
stop n at g (b ∷ bytes) some e = ap (λ (o : Option (Gathered × List ℕ)). or_at at o (λ p. gathered_from n (at + (length (b ∷ bytes) - length p.1)) p.0 p.1)) e

pub done : (n at : ℕ) (g : Gathered) → gathered_from n at g [] ≡ Ok g
unfolding gathered_from
done zero at g = refl
done (suc n) at g = refl

pub goes_on : (content rest behind : List ℕ) (g g' : Gathered) → Walked content rest g → 0 < length rest → next_in g rest ≡ Some (g', behind) → length behind < length rest → Walked content behind g'
goes_on content rest behind g g' w some e shorter = by_steps w.steps w.enough w.same
  where
    by_steps : (n : ℕ) → length rest ≤ n → gathered_from n (length content - length rest) g rest ≡ batch_in content → Walked content behind g'
    by_steps zero enough same = absurd (omega arith)
    by_steps (suc n) enough same =
        let at : length content - length rest + (length rest - length behind) ≡ length content - length behind = omega (arith, w.within) in
        record {
          steps = n;
          enough = omega arith;
          within = omega (arith, w.within);
          same = ap (λ (k : ℕ). gathered_from n k g' behind) (sym at) ∙ sym (step n (length content - length rest) g g' rest behind some e) ∙ same;
        }

pub stops : (content rest : List ℕ) (g : Gathered) → Walked content rest g → 0 < length rest → next_in g rest ≡ None → batch_in content ≡ Err (length content - length rest)
stops content rest g w some e = by_steps w.steps w.enough w.same
  where
    by_steps : (n : ℕ) → length rest ≤ n → gathered_from n (length content - length rest) g rest ≡ batch_in content → batch_in content ≡ Err (length content - length rest)
    by_steps zero enough same = absurd (omega arith)
    by_steps (suc n) enough same = sym same ∙ stop n (length content - length rest) g rest some e

pub ends : (content rest : List ℕ) (g : Gathered) → Walked content rest g → length rest ≡ 0 → batch_in content ≡ Ok g
ends content rest g w none =
    let nil = nil_from_length rest none in
    sym w.same ∙ ap (gathered_from w.steps (length content - length rest) g) nil ∙ done w.steps (length content - length rest) g

-- ---- what a step answers

pub next_is : (g : Gathered) (bytes : List ℕ) (kind : ℕ) (content behind : List ℕ) (i : Item) → item_at bytes ≡ Some ((kind, content), behind) → is_in_place g.last kind ≡ true → item_in kind content ≡ Some i
    → next_in g bytes ≡ (placed g kind i >>= λ g'. Some (g', behind))
next_is g bytes kind content behind i front in-place says = rw (front, in-place, says) refl

pub next_follows : {S : Type 0} (view : S → List ℕ) (holds : Bool) (behind : S) (new : Reading) (there : Option Gathered) → Follows holds new there
    → Nexts view (cond holds (Some behind) None) new (there >>= λ g'. Some (g', view behind))
next_follows view true behind new (Some g) is = (g, refl, is)
next_follows view true behind new None is = absurd is
next_follows view false behind new there is = ap (λ (o : Option Gathered). o >>= λ g'. Some (g', view behind)) is

-- an item that may stand here
module _ {S : Type 0} (view : S → List ℕ) (r new : Reading) (g : Gathered) (bytes : List ℕ) (kind : ℕ) (content : List ℕ) (behind : S)
    (stands : Stands r g) (front : item_at bytes ≡ Some ((kind, content), view behind)) (in-place : is_in_place r.gathered.last kind ≡ true) where
  in_place : is_in_place g.last kind ≡ true
  in_place = subst (λ (last : ℕ). is_in_place last kind ≡ true) stands.marks.last in-place

  pub item_next : (holds : Bool) (i : Item) → item_in kind content ≡ Some i → Follows holds new (placed g kind i) → Nexts view (cond holds (Some behind) None) new (next_in g bytes)
  item_next holds i says follows = subst (Nexts view (cond holds (Some behind) None) new) (sym (next_is g bytes kind content (view behind) i front in_place says)) (next_follows view holds behind new (placed g kind i) follows)

  pub some_next : (holds : Bool) → IsSome (item_in kind content) → ((i : Item) → item_in kind content ≡ Some i → Follows holds new (placed g kind i)) → Nexts view (cond holds (Some behind) None) new (next_in g bytes)
  some_next holds some follows = by (item_in kind content) refl some
    where
      by : (o : Option Item) → item_in kind content ≡ o → IsSome o → Nexts view (cond holds (Some behind) None) new (next_in g bytes)
      by (Some i) is some = item_next holds i is (follows i is)
      by None is some = absurd cc

  pub no_next : item_in kind content ≡ None → next_in g bytes ≡ None
  no_next says = rw (front, in_place, says) refl

pub if_stands : {S : Type 0} (view : S → List ℕ) (holds : Bool) (o p : Option S) (new : Reading) (there : Option (Gathered × List ℕ)) → holds ≡ true → Nexts view (cond holds o p) new there → Nexts view o new there
if_stands view holds o p new there is next = subst (λ (b : Bool). Nexts view (cond b o p) new there) is next

pub unless_stands : {S : Type 0} (view : S → List ℕ) (holds : Bool) (o p : Option S) (new : Reading) (there : Option (Gathered × List ℕ)) → holds ≡ false → Nexts view (cond holds o p) new there → Nexts view p new there
unless_stands view holds o p new there is next = subst (λ (b : Bool). Nexts view (cond b o p) new there) is next

pub next_some : {S : Type 0} (view : S → List ℕ) (o : Option S) (behind : S) (new : Reading) (there : Option (Gathered × List ℕ)) → o ≡ Some behind → Nexts view o new there → (g : Gathered) × (there ≡ Some (g, view behind)) × Stands new g
next_some view o behind new there is next = subst (λ p. Nexts view p new there) is next

pub next_none : {S : Type 0} (view : S → List ℕ) (o : Option S) (new : Reading) (there : Option (Gathered × List ℕ)) → o ≡ None → Nexts view o new there → there ≡ None
next_none view o new there is next = subst (λ p. Nexts view p new there) is next

pub next_shorter : {S : Type 0} (view : S → List ℕ) (o : Option S) (behind : S) (n : ℕ) → o ≡ Some behind → IfSome o (λ b. length (view b) < n) → length (view behind) < n
next_shorter view o behind n is short = subst (λ p. IfSome p (λ b. length (view b) < n)) is short

pub reads_whole : (r : Reading) (g : Gathered) (there : Result Gathered ℕ) → Stands r g → r.lost ≡ false → there ≡ Ok g → ReadsBatch (Ok (r.gathered.sender, r.gathered.batch, r.gathered.frames)) there
reads_whole r g there stands not e =
    let is = sym (stands.whole not) in
    subst (ReadsBatch (Ok (r.gathered.sender, r.gathered.batch, r.gathered.frames))) (sym e) (ap (λ (h : Gathered). h.sender) is, ap (λ (h : Gathered). h.batch) is, ap (λ (h : Gathered). h.frames) is)

pub reads_lost : (g : Gathered) (there : Result Gathered ℕ) → there ≡ Ok g → IsOk there
reads_lost g (Ok h) e = refl
reads_lost g (Err at) e = absurd cc

pub some_left : (n : ℕ) (b : Bool) → b ≡ eqb n 0 → b ≡ false → 0 < n
some_left zero b e empty = absurd (false≢true (sym empty ∙ e))
some_left (suc n) b e empty = omega arith

pub none_left : (n : ℕ) (b : Bool) → b ≡ eqb n 0 → b ≡ true → n ≡ 0
none_left n b e empty = eqb-true n 0 (sym e ∙ empty)
