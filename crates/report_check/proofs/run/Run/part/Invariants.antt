use Rattle.report_check.proofs.run.Run.part.Given as goal

abbrev pub ghost-idles : goal.ghost-idles
ghost-idles g a = g.r

abbrev pub ghost-spins : goal.ghost-spins
ghost-spins g a = g.r

abbrev pub ghost-tries : goal.ghost-tries
ghost-tries g a = g.r

abbrev pub ghost-turns : goal.ghost-turns
ghost-turns g a = g.r

abbrev pub ghost-waits : goal.ghost-waits
ghost-waits g a = g.r

abbrev pub ghost-calls : goal.ghost-calls
ghost-calls g a = g.r
