use Rattle.group_quorum.specs.Marks.{mark_of}
use Rattle.promise_rules.proofs.Stretch.{stretch_hit, stretch_miss, stretch_within}
use Rattle.promise_rules.proofs.greatest.search_stretch.Goals as goal

pub returns-then-found-below-clause-found : goal.returns-then-found-below-clause-found
returns-then-found-below-clause-found c =
    stretch_hit c.args.log.now c.args.term (mark_of c.args.marks.now) c.args.had c.args.top c.requires.had c.requires.less
    c.configs_to-configs.result c.committed.result c.max-below.result c.reach.result c.min-reached.result c.last_of_term-found.result
    c.configs_to-configs.ensures.within c.configs_to-configs.ensures.stay c.committed.ensures.committed c.reach.ensures c.max-below.ensures c.min-reached.ensures
    c.last_of_term-found.ensures c.if-found-below.true

pub returns-then-found-below-clause-within : goal.returns-then-found-below-clause-within
returns-then-found-below-clause-within c =
    stretch_within c.args.log.now c.args.term (mark_of c.args.marks.now) c.args.had c.args.top c.requires.had c.requires.less
    c.configs_to-configs.result c.committed.result c.max-below.result c.reach.result c.min-reached.result c.last_of_term-found.result
    c.configs_to-configs.ensures.within c.configs_to-configs.ensures.stay c.committed.ensures.committed c.reach.ensures c.max-below.ensures c.min-reached.ensures
    c.last_of_term-found.ensures c.if-found-below.true

pub returns-else-found-below-clause-below : goal.returns-else-found-below-clause-below
returns-else-found-below-clause-below c =
    stretch_miss c.args.log.now c.args.term (mark_of c.args.marks.now) c.args.had c.args.top c.requires.had c.requires.less
    c.configs_to-configs.result c.committed.result c.max-below.result c.reach.result c.min-reached.result c.last_of_term-found.result
    c.configs_to-configs.ensures.within c.configs_to-configs.ensures.stay c.committed.ensures.committed c.reach.ensures c.max-below.ensures c.min-reached.ensures
    c.last_of_term-found.ensures c.if-found-below.false
