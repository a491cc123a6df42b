use Rattle.std.proofs.Common.{◌≡◌, ℕ, take}
use Rattle.group_quorum.specs.Voters.{is_in}
use Rattle.attested_link.specs.Links.{is_linked}
use Rattle.enclave_host.proofs.start.linked_with.Given as goal

abbrev pub invariant-loop-id : goal.invariant-loop-id
invariant-loop-id l = (v : ℕ) → is_linked l.links v ≡ is_in (take l.id-index l.ids) v
