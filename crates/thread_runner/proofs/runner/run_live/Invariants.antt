use Rattle.thread_runner.proofs.runner.run_live.Given as goal

-- the run begins where its machine does
abbrev pub ghosts-run_of : goal.ghosts-run_of
ghosts-run_of g a = record { first = a.journaled.first }
