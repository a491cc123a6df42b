use Rattle.std.proofs.Common.{◌≡◌, ◌++◌, map, drop}
use Rattle.link_tags.specs.Hmac.{hmac_of}
use Rattle.link_tags.specs.Ends.{new_end}
use Rattle.link_tags.specs.Passing.{frames_sealed, tags_in}
use Rattle.link_tags.specs.declared.ends.Side.TheVariants.{Host}
use Rattle.link_tags.proofs.relaying.tags_of.Given as goal

-- the tags so far, with those of the contents that are left, are all tags
abbrev pub invariant-loop-content : goal.invariant-loop-content
invariant-loop-content l = record {
  tags : map (λ tag. tag.0) l.tags.items ++ tags_in (frames_sealed hmac_of l.host (drop l.content-index l.contents))
      ≡ tags_in (frames_sealed hmac_of (new_end l.fn.key Host) l.contents);
  own : l.host.own ≡ l.content-index;
}
