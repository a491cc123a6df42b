use Rattle.std.proofs.Common.{◌++◌, ◌∷◌, [], ap, ◌∙◌, append_assoc}
use Rattle.byteorder.specs.Endian.{big_bytes}
use Rattle.sha2.specs.Sha256.{sha256}
use Rattle.hash_chain.proofs.link_parts.Goals as goal

pub returns : goal.returns
returns c =
    let prev = c.args.prev.now in
    let start = c.args.start.now in
    let rest = c.args.rest.now in
    let head = big_bytes 8 c.args.index ++ (big_bytes 8 c.args.term ++ c.args.kind ∷ []) in
    let fed = c.update-4.ensures _ (c.update-3.ensures _ (c.update-2.ensures _ (c.update.ensures _ c.new-hasher.ensures))) in
    c.finalize.ensures _ fed
    ∙ ap (λ head. sha256 (((prev ++ head) ++ start) ++ rest)) c.head_bytes-head.ensures
    ∙ ap sha256 (append_assoc (prev ++ head) start rest ∙ append_assoc prev head (start ++ rest))
