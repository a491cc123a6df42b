use Rattle.std.proofs.Common.{arith, ◌≡◌, ◌≤◌, length, take, drop}
use Rattle.std.proofs.lemmas.Grind.{common_steps}
use Rattle.byte_streams.proofs.Moved.{at_end, moved_front}
use Rattle.byte_streams.proofs.in_memory.MemSourceSource.read.Goals as goal

pub returns-clause-bytes : goal.returns-clause-bytes
returns-clause-bytes c =
    let moved : c.copy_from_slice.new.self ≡ take c.min-count.result (drop c.self.inside.at c.self.inside.bytes.items) = grind (arith, common_steps) in
    let len : length c.copy_from_slice.new.self ≡ c.min-count.result = grind (arith, common_steps) in (
      rw (← c.self.view_is) (moved_front _ _ _ _ _ moved len),
      λ none room. let end : length c.self.inside.bytes.items ≤ c.self.inside.at = grind (arith, common_steps) in at_end _ _ _ end,
    )
