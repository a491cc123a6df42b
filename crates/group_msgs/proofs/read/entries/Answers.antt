use Rattle.std.proofs.Common.{◌≡◌, ◌+◌, ◌<◌, ℕ, List, [], length, map, drop, get_or, None, sym, ◌∙◌}
use Rattle.std.proofs.lemmas.List.{at_drop_more}
use Rattle.group_msgs.specs.declared.scalars.Scalars.{Scalars}
use Rattle.group_msgs.specs.Gathered.{seen}
use Rattle.group_msgs.specs.Rules.{entry_fault, entries_fault}
use Rattle.group_msgs.specs.Values.{entry_of}
use Rattle.client_msgs.proofs.SizesLemmas.{or-none}
use Rattle.group_msgs.proofs.ListLemmas.{made-more}
use Rattle.group_msgs.proofs.read.entries.Goals as goal

-- what holds of the next entry, and of those behind it
next : (xs : List Scalars) (i : ℕ) (d : Scalars) → i < length xs → entries_fault i (map seen (drop i xs)) ≡ None → (entry_fault i (seen (get_or xs i d)) ≡ None) × (entries_fault (i + 1) (map seen (drop (i + 1) xs)) ≡ None)
next xs i d within none =
    or-none (entry_fault i (seen (get_or xs i d))) (entries_fault (i + 1) (map seen (drop (i + 1) xs))) (sym (at_drop_more (λ (ys : List Scalars). entries_fault i (map seen ys)) xs i d within) ∙ none)

pub entry-requires : goal.entry-requires
entry-requires c = (c.loop-scalars.scalars-index, (next c.args.listed.now c.loop-scalars.scalars-index _ c.loop-scalars-test.true c.loop-scalars.invariant.none).0)

pub loop-scalars-preserved : goal.loop-scalars-preserved
loop-scalars-preserved c =
    record {
      none = (next c.args.listed.now c.loop-scalars.scalars-index (record { varints = []; blocks = [] }) c.loop-scalars-test.true c.loop-scalars.invariant.none).1;
      made = made-more entry_of seen c.args.listed.now c.loop-scalars.scalars-index (record { varints = []; blocks = [] }) c.loop-scalars.entries.items c.push.new.self.items c.in_ok-entry.entry c.loop-scalars-test.true c.in_ok-push.ensures.items c.loop-scalars.invariant.made c.in_ok-entry.ensures;
    }
