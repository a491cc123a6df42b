use Rattle.std.proofs.Common.{rules, sym, ◌∙◌, ◌≡◌, codes, decimal, length, [], ◌∷◌, ◌++◌}
use Rattle.table_command.proofs.Faulty.{rows_parts}
use Rattle.table_command.proofs.player.TablePlayer.rows_text.Goals as goal

pub returns : goal.returns
returns c =
    let built : c.push.new.self.items ≡ (codes "rows," ++ decimal (length c.args.self.now.table.rows)) ++ (10 ∷ []) = search rules in
    built ∙ sym (rows_parts (decimal (length c.args.self.now.table.rows)))
