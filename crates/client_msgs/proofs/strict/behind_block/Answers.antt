use Rattle.std.proofs.Common.{◌≡◌, ℕ, ◌+◌, ◌-◌, ◌++◌, List, length, get_or, take, drop, refl, sym, ap, ◌∙◌, arith}
use Rattle.std.proofs.lemmas.List.{take_rest}
use Rattle.proto_wire.specs.Written.{block_field}
use Rattle.client_msgs.proofs.StrictLemmas.{begins, begins-from}
use Rattle.client_msgs.proofs.strict.behind_block.Goals as goal

pub returns-then-bytes-lt2-clause-all : goal.returns-then-bytes-lt2-clause-all
returns-then-bytes-lt2-clause-all c block rest low high is =
    let b = begins c.args.number block rest c.args.bytes.now c.requires.to_15 (omega (arith, c.requires.some, low)) (omega (arith, c.requires.short, high)) is in
    omega (arith, c.if-bytes-lt2.true, b.long)

pub returns-then-bytes-number-clause-all : goal.returns-then-bytes-number-clause-all
returns-then-bytes-number-clause-all c block rest low high is =
    let b = begins c.args.number block rest c.args.bytes.now c.requires.to_15 (omega (arith, c.requires.some, low)) (omega (arith, c.requires.short, high)) is in
    c.if-bytes-number.true b.tag

pub returns-then-len-least-clause-all : goal.returns-then-len-least-clause-all
returns-then-len-least-clause-all c block rest low high is =
    let b = begins c.args.number block rest c.args.bytes.now c.requires.to_15 (omega (arith, c.requires.some, low)) (omega (arith, c.requires.short, high)) is in
    omega (arith, c.if-len-least.true, b.len, low)

pub returns-then-len-most-clause-all : goal.returns-then-len-most-clause-all
returns-then-len-most-clause-all c block rest low high is =
    let b = begins c.args.number block rest c.args.bytes.now c.requires.to_15 (omega (arith, c.requires.some, low)) (omega (arith, c.requires.short, high)) is in
    omega (arith, c.if-len-most.true, b.len, high)

pub returns-then-bytes-from-clause-all : goal.returns-then-bytes-from-clause-all
returns-then-bytes-from-clause-all c block rest low high is =
    let b = begins c.args.number block rest c.args.bytes.now c.requires.to_15 (omega (arith, c.requires.some, low)) (omega (arith, c.requires.short, high)) is in
    omega (arith, c.if-bytes-from.true, c.from.ensures, b.len, b.long)

pub returns-clause-told : goal.returns-clause-told
returns-clause-told c =
    let bytes = c.args.bytes.now in
    let len = get_or bytes 1 0 in
    let from = begins-from c.args.number len bytes c.requires.to_15 (omega (arith, c.requires.some, c.if-len-least.false)) (omega (arith, c.requires.short, c.if-len-most.false)) (omega (arith, c.if-bytes-from.false, c.from.ensures, c.if-bytes-lt2.false)) c.if-bytes-number.false refl in
    let rest : take (length bytes - (2 + c.from-2.result)) (drop (2 + c.from-2.result) bytes) ≡ drop (2 + len) bytes = take_rest bytes (2 + c.from-2.result) ∙ ap (λ (n : ℕ). drop (2 + n) bytes) c.from-2.ensures in
    (take len (drop 2 bytes), omega (arith, from.0, c.if-len-least.false), omega (arith, from.0, c.if-len-most.false), from.1 ∙ ap (λ (x : List ℕ). block_field c.args.number (take len (drop 2 bytes)) ++ x) (sym rest))

pub returns-clause-all : goal.returns-clause-all
returns-clause-all c block rest low high is =
    let bytes = c.args.bytes.now in
    let b = begins c.args.number block rest bytes c.requires.to_15 (omega (arith, c.requires.some, low)) (omega (arith, c.requires.short, high)) is in
    take_rest bytes (2 + c.from-2.result) ∙ ap (λ (n : ℕ). drop (2 + n) bytes) (c.from-2.ensures ∙ b.len) ∙ b.behind
