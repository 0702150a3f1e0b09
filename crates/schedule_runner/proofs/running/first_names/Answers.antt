use Rattle.schedule_runner.proofs.running.first_names.Goals as goal

pub returns-in-Ok-fresh_run-clause-free : goal.returns-in-Ok-fresh_run-clause-free
returns-in-Ok-fresh_run-clause-free g c files told = c.a_fresh_run_has_free_names.ensures c.args.table.now c.in-Ok.session c.in-Ok-fresh_run.run' 1 files (c.in-Ok-fresh_run.ensures.run files told).free
