use Rattle.std.proofs.Common.{refl}
use Rattle.hash_chain.proofs.head_bytes.Goals as goal

pub returns : goal.returns
returns c = rw (c.write_u64-2.ensures, c.write_u64.ensures) refl
