use Rattle.std.proofs.Common.{arith}
use Rattle.fixed_fields.proofs.Numbers.{numbers_in-read}
use Rattle.fixed_fields.proofs.reading.read_u32s.Goals as goal

pub returns : goal.returns
returns c = numbers_in-read c.args.bytes.now c.read_u32_into.new.dst (omega arith) c.read_u32_into.ensures
