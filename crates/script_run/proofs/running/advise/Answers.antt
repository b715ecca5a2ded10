use Rattle.script_run.proofs.running.advise.Goals as goal

pub returns-in-Bad : goal.returns-in-Bad
returns-in-Bad g c = rw c.in-Bad.is (λ d stays stops. c.end_bad.ensures d stays stops c.args.number)
