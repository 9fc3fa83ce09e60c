use Rattle.plans.proofs.Views.{views_show}
use Rattle.plans.proofs.view.views_show_pictures.Goals as goal

pub returns : goal.returns
returns c = views_show
