use Rattle.meet_scan.proofs.own.commit_alone.Goals as goal

pub returns-in-Given-clause-made : goal.returns-in-Given-clause-made
returns-in-Given-clause-made g c = (0, c.args.mine.1, c.in-Given.ensures.made)

pub returns-in-Late-clause-made : goal.returns-in-Late-clause-made
returns-in-Late-clause-made g c = (0, c.in-Late.ensures.made)

pub returns-in-NotEnabled-clause-made : goal.returns-in-NotEnabled-clause-made
returns-in-NotEnabled-clause-made g c = (0, c.in-NotEnabled.ensures.made)
