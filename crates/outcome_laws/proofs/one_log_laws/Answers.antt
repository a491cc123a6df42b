use Rattle.outcome_laws.proofs.Holding.{one_log_laws_of}
use Rattle.outcome_laws.proofs.one_log_laws.Goals as goal

pub returns : goal.returns
returns c link events bound none =
    one_log_laws_of c.one_log.ensures
    (record { numbers = c.numbers_rise.ensures; guesses = c.guesses_end.ensures; earned = c.data_is_earned.ensures })
    link events bound none
