use Rattle.std.proofs.Common.{ℕ, List, not, nat_lt, refl, sym, ap, ◌∙◌, arith, length}
use Rattle.std.proofs.lemmas.List.Sums.{prefix_len-le-length}
use Rattle.std.specs.List.{insert, position_or_len}
use Rattle.group_quorum.proofs.Inserted.{insert-rising}
use Rattle.group_world.proofs.Enlisting.{roster-either}
use Rattle.group_world.proofs.world.World.enlist.Goals as goal

pub insert-requires : goal.insert-requires
insert-requires c =
    let at = c.place_of-place.ensures ∙ ap (position_or_len (λ v. nat_lt c.args.id v)) c.as_slice.ensures.value in
    let within = prefix_len-le-length (λ v. not (nat_lt c.args.id v)) c.args.self.now.running.items in
    let size = c.as_slice.ensures.len in
    let same = ap length c.as_slice.ensures.value in
    omega (arith, within, at, size, same)

pub invariant_of-self-2 : goal.invariant_of-self-2
invariant_of-self-2 c = record {
  roster = roster-either c.args.self.now.begun _ _ _ _ _ c.args.id c.place_of-place.result c.requires.begun c.requires.id c.requires.new c.requires.room c.args.self.now.roster
      (c.place_of-place.ensures ∙ ap (position_or_len (λ v. nat_lt c.args.id v)) c.as_slice.ensures.value) c.in_ok-push.ensures.items c.insert.ensures.items;
}

pub returns : goal.returns
returns c =
    let xs : List ℕ = c.args.self.now.running.items in
    let at = c.place_of-place.ensures ∙ ap (position_or_len (λ v. nat_lt c.args.id v)) c.as_slice.ensures.value in
    record {
      rest = record { post = refl; answers = refl; clients = refl; saves = refl; rolled = refl; committed = refl; events = refl };
      begun = refl;
      running = c.in_ok-insert.ensures.items ∙ ap (λ n. insert xs n c.args.id) at ∙ sym (insert-rising xs c.args.id);
      started = c.in_ok-push.ensures.items;
      confs = refl;
    }
