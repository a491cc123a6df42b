use Rattle.std.proofs.Common.{◌≡◌, ◌+◌, ◌≤◌, length, drop}
use Rattle.link_tags.specs.Hmac.{hmac_of}
use Rattle.link_tags.specs.Ends.{new_end}
use Rattle.link_tags.specs.Passing.{frames_sealed, frames_at, contents_passed, passed_of}
use Rattle.link_tags.specs.declared.ends.Side.TheVariants.{Host}
use Rattle.link_tags.proofs.relaying.relay.Given as goal

-- what has passed, with what passes of the frames that are left, is all that passes
abbrev pub invariant-loop-number : goal.invariant-loop-number
invariant-loop-number l = record {
  counted : l.passed + length (contents_passed hmac_of l.enclave (frames_at (drop l.number-index l.order) (frames_sealed hmac_of (new_end l.fn.key Host) l.contents)))
      ≡ passed_of hmac_of l.fn.key l.contents l.order;
  few : l.passed ≤ l.number-index;
  heard : l.enclave.heard ≤ l.number-index;
}
