use Rattle.std.proofs.Common.{◌≡◌, ◌<◌, ◌≤◌, ℕ, false, List, [], ◌∷◌, ◌++◌, length, drop, map, set, take, Option, sym, ap, subst, ◌∙◌, arith, rules}
use Rattle.std.proofs.lemmas.List.{length_push, length-map, length-take, set_at}
use Rattle.std.specs.Option.{option_or}
use Rattle.std.specs.Result.{result_err}
use Rattle.proto_wire.specs.Fields.{sequence_at}
use Rattle.values.specs.declared.limits.TheConstants.{ROWS_PER_PART}
use Rattle.group_msgs.specs.declared.fault.PeerFault.{PeerFault}
use Rattle.group_msgs.specs.declared.scalars.Scalars.{Scalars}
use Rattle.group_msgs.specs.Known.{Known, known_of}
use Rattle.group_msgs.specs.Gathered.{seen}
use Rattle.group_msgs.specs.Rules.{item_fault, items_fault}
use Rattle.group_msgs.proofs.ListLemmas.{kept-more, kept-full}
use Rattle.group_msgs.proofs.RuleLemmas.{items-push}
use Rattle.group_msgs.proofs.listed.Listed.read.Goals as goal
use Rattle.group_msgs.proofs.listed.Listed.read.Goals.{then-self-via-then-self, then-self-via-else-self+then-kept}

-- the first rule that is broken, with one message more
checked_more : (member place : ℕ) (all : List Known) (old found : Option PeerFault) (seen item : Known) → found ≡ option_or old (item_fault member place seen) → old ≡ items_fault member all → place ≡ length all → seen ≡ item
    → found ≡ items_fault member (all ++ item ∷ [])
checked_more member place all old found seen item is before count same =
    is ∙ ap (λ (o : Option PeerFault). option_or o (item_fault member place seen)) before ∙ ap (λ (n : ℕ). option_or (items_fault member all) (item_fault member n seen)) count
    ∙ ap (λ (x : Known). option_or (items_fault member all) (item_fault member (length all) x)) same ∙ items-push member all item

pub returns-then-self-clause-list : goal.returns-then-self-clause-list
returns-then-self-clause-list c all list =
    let old = c.make_room.ensures.list c.args.member all list in
    let items = c.make_room.new.self.first.items in
    let item = known_of (sequence_at c.args.from (drop c.args.from c.args.bytes.now)).fields in
    record {
      count = omega (arith, old.count, length_push all item);
      checked = checked_more c.args.member c.make_room.new.self.count all (result_err c.make_room.new.self.checked) _ _ item c.check_next-self.ensures old.checked old.count c.in_ok-read.ensures.scalars;
      first = elim c.then-self.branch [
        | then-self-via-then-self w ↦ λ kept. cc (sym w.if-self.true ∙ kept)
        | then-self-via-else-self+then-kept w ↦
            λ kept.
            let most : length items ≤ ROWS_PER_PART = omega (arith, length-map items seen, ap length (old.first kept), length-take ROWS_PER_PART all) in
            let full : length items ≡ ROWS_PER_PART = omega (arith, most, w.if-kept.true, c.len-kept.ensures) in
            kept-full seen ROWS_PER_PART all c.read.new.self items (old.first kept) full ∙ ap (λ (x : Known). take ROWS_PER_PART (all ++ x ∷ [])) c.in_ok-read.ensures.scalars
      ];
    }

pub returns-clause-list : goal.returns-clause-list
returns-clause-list c all list =
    let old = c.make_room.ensures.list c.args.member all list in
    let items = c.make_room.new.self.first.items in
    let item = known_of (sequence_at c.args.from (drop c.args.from c.args.bytes.now)).fields in
    let place = c.len-kept.result in
    let room : length items < ROWS_PER_PART = omega (arith, c.if-kept.false, c.len-kept.ensures) in
    let read = c.read-2.new.self in
    let pushed : set c.push_reserved.new.self.items place read ≡ items ++ read ∷ [] =
    ap (λ (xs : List Scalars). set xs place read) c.push_reserved.ensures.items ∙ set_at items c.empty.result [] read place (omega (arith, c.len-kept.ensures)) in
    let same : c.index.result.now ≡ read = search rules in
    record {
      count = omega (arith, old.count, length_push all item);
      checked = checked_more c.args.member c.make_room.new.self.count all (result_err c.make_room.new.self.checked) _ _ item c.check_next-self-2.ensures old.checked old.count (ap seen same ∙ c.in_ok-read-2.ensures.scalars);
      first = λ kept. ap (map seen) pushed ∙ kept-more seen ROWS_PER_PART all read items (old.first kept) room ∙ ap (λ (x : Known). take ROWS_PER_PART (all ++ x ∷ [])) c.in_ok-read-2.ensures.scalars;
    }
