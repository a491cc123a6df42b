use Rattle.svr2_run.proofs.Auditing.{accepts_decides, accepts_over, limit_decides, limit_over, refuses_decides, refuses_over}
use Rattle.svr2_run.proofs.audit.audit.Goals as goal

pub returns-in-Accepts-clause-audits : goal.returns-in-Accepts-clause-audits
returns-in-Accepts-clause-audits g c =
    accepts_over _ c.accept_line.result _ _ _ _ c.in-Accepts.lines _ c.in-Accepts.ensures.ends c.accept_line.ensures c.tell.ensures.wrote c.tell.ensures.memory

pub returns-in-Accepts-clause-decided : goal.returns-in-Accepts-clause-decided
returns-in-Accepts-clause-decided g c =
    accepts_decides _ c.accept_line.result _ _ _ _ c.in-Accepts.lines _ _ _ c.in-Accepts.ensures.ends c.tell.ensures.wrote c.tell.ensures.memory c.tell.ensures.cause

pub returns-in-Refuses-clause-audits : goal.returns-in-Refuses-clause-audits
returns-in-Refuses-clause-audits g c =
    refuses_over _ c.refuse_line.result _ _ _ _ c.in-Refuses.line c.in-Refuses.why _ c.in-Refuses.ensures.ends c.refuse_line.ensures c.tell-in-Refuses.ensures.wrote c.tell-in-Refuses.ensures.memory

pub returns-in-Refuses-clause-decided : goal.returns-in-Refuses-clause-decided
returns-in-Refuses-clause-decided g c =
    refuses_decides _ c.refuse_line.result _ _ _ _ c.in-Refuses.line c.in-Refuses.why _ _ _ c.in-Refuses.ensures.ends c.tell-in-Refuses.ensures.wrote c.tell-in-Refuses.ensures.memory c.tell-in-Refuses.ensures.cause

pub returns-in-Limit-clause-audits : goal.returns-in-Limit-clause-audits
returns-in-Limit-clause-audits g c = limit_over _ _ _ c.in-Limit.ensures.ends

pub returns-in-Limit-clause-decided : goal.returns-in-Limit-clause-decided
returns-in-Limit-clause-decided g c = limit_decides _ _ _ _ c.in-Limit.ensures.ends
