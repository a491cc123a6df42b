use Rattle.std.proofs.Common.{◌≡◌, ◌*◌, map, drop}
use Rattle.std.specs.List.{range_with_len}
use Rattle.byteorder.specs.Endian.{big_number}
use Rattle.group_msgs.proofs.voters.ids_in.Given as goal

abbrev pub invariant-loop-k : goal.invariant-loop-k
invariant-loop-k l = l.ids.items ≡ map (λ k. big_number 4 (drop (4 * k) l.bytes)) (range_with_len 0 l.k)
