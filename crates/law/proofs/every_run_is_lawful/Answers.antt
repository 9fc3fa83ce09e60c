use Rattle.law.proofs.Runs.{runs_lawful}
use Rattle.law.proofs.every_run_is_lawful.Goals as goal

pub returns : goal.returns
returns c = runs_lawful
