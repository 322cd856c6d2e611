use Rattle.finding.proofs.View.+eval_find.Given as goal

abbrev pub decreases-eval : goal.decreases-eval
decreases-eval l = l.r

abbrev pub decreases-find : goal.decreases-find
decreases-find l = l.r
