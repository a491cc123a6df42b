use Rattle.link_tags.specs.Hmac.{hmac_of}
use Rattle.link_tags.proofs.Turns.{once}
use Rattle.link_tags.proofs.sealed_contents_pass_once.Goals as goal

pub returns : goal.returns
returns c = once hmac_of
