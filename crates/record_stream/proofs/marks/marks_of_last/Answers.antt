use Rattle.record_stream.proofs.Strides.{bit_within, pad_within}
use Rattle.record_stream.proofs.marks.marks_of_last.Goals as goal

pub returns-clause-within : goal.returns-clause-within
returns-clause-within c k set =
    let lt = bit_within c.marks_of.result k c.marks_of.type_inv set in
    pad_within c.args.bytes.now c.copy_from_slice.new.self c.marks_of.result k c.copy_from_slice.ensures.after lt (c.marks_of.ensures k lt) set
