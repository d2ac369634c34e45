use Rattle.engine.proofs.Showing.{shown_whole}
use Rattle.engine.proofs.laws.drawn_shown.Goals as goal

pub returns : goal.returns
returns c = shown_whole
