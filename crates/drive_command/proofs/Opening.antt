-- The player before the first record.
use Rattle.std.proofs.Common.{refl, sym, subst, ◌≡◌, ℕ, List, [], Option, Some, None}
use Rattle.group_model.specs.Run.{no_enclaves}
use Rattle.trace_model.specs.Driver.{new_driver}
use Rattle.enclave_host.specs.declared.running.Running.{Running}
use Rattle.group_world.specs.Meanings.{OfEnclaves, Fits}
use Rattle.group_world.specs.Plays.{passed_in}
use Rattle.group_world.specs.Playing.{CanPlay}
use Rattle.group_world.specs.Scripts.{map_of}
use Rattle.group_world.specs.Standing.{IsNew, Runs}
use Rattle.group_world.specs.declared.world.World.{World}
use Rattle.drive_command.specs.Course.{start}
use Rattle.drive_command.specs.Standing.{Takes}
use Rattle.drive_command.specs.declared.player.DrivePlayer.{DrivePlayer}

-- nobody runs
idle_fits : Fits OfEnclaves (Some (map_of [])) [] no_enclaves
unfolding Fits
idle_fits = λ id. tt

pub live_new : (w : World) (field : List (ℕ × Option Running)) → IsNew w → field ≡ [] → passed_in w ≡ None → CanPlay w (Some (map_of field))
live_new w field new idle within = record {
  runs = subst (λ f. Runs (Some (map_of f)) w.running.items) (sym idle) (subst (Runs (Some (map_of []))) (sym (new OfEnclaves no_enclaves).running) (λ id. refl));
  within = within;
}

pub takes_new : (p : DrivePlayer) → IsNew p.group.world → p.group.field ≡ [] → p.group.records ≡ 0 → p.driver ≡ new_driver 0 → Takes p start
takes_new p new idle none driver = record {
  stands = refl;
  sees = λ named. record {
    sees = (record { world = new OfEnclaves no_enclaves; field = subst (λ f. Fits OfEnclaves (Some (map_of f)) [] no_enclaves) (sym idle) idle_fits }, refl);
    driver = sym driver;
    records = sym none;
  };
}
