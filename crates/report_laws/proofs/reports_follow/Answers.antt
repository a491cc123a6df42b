use Rattle.report_laws.proofs.Hearings.{reports_of}
use Rattle.report_laws.proofs.reports_follow.Goals as goal

pub returns : goal.returns
returns c link events client bound none only =
    reports_of c.requests_are_read_again.ensures (record { put = c.rows_follow_asks.ensures.put; stay = c.rows_follow_asks.ensures.stay }) link events client (c.one_log_laws.ensures link events bound none) only
