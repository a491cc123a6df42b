use Rattle.std.proofs.Common.{◌≡◌, [], refl}
use Rattle.group_model.specs.Log.{NoCollision}
use Rattle.halt_laws.specs.Whole.{whole_link}
use Rattle.halt_laws.specs.Succession.{succession, succeeded}
use Rattle.halt_laws.proofs.a_succession.Goals as goal

pub returns : goal.returns
returns c =
    let unrolled : succeeded.rolled ≡ [] = refl in
    let apart : NoCollision whole_link succeeded = c.nothing_collides.ensures succeeded in
    record {
      unrolled = unrolled;
      apart = apart;
      lawful = c.no_halt.ensures whole_link succession unrolled apart;
      leads = refl;
      taken = refl;
      voters = refl;
      margin = refl;
    }
