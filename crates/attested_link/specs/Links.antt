-- Whom a replica is linked with.
use Rattle.std.specs.Prelude.{ℕ, Bool}
use Rattle.std.specs.Ordering.{nat_cmp}
use Rattle.std.specs.BTreeSet.{contains}
use Rattle.attested_link.specs.declared.links.Links.{Links}

-- whether the id is among the links
abbrev pub is_linked : Links → ℕ → Bool
is_linked links id = contains nat_cmp links.ids id
