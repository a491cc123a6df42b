use Rattle.std.proofs.Common.{refl, map, string_bytes, option_map}
use Rattle.clap.specs.Words.{app_of, new_app}
use Rattle.svr2_run.proofs.Parses.{refused}
use Rattle.svr2_run.proofs.words.read_plain.Goals as goal

pub returns-in-Err : goal.returns-in-Err
returns-in-Err c =
    refused (app_of c.new-plain.result) (new_app c.args.name.now) (map string_bytes c.args.words.now) c.in-Err.error c.refusal.result (option_map (λ rows. c.args.command)) c.new-plain.ensures.app refl
    c.in-Err.ensures.kinds refl c.refusal.ensures.none (rw c.kind.ensures at c.refusal.ensures.refused)
