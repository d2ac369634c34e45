use Rattle.std.proofs.Common.{refl}
use Rattle.search.proofs.Soundness.{undecided_less}
use Rattle.search.proofs.searching.Trial.begin.Goals as goal

pub returns : goal.returns
returns c = record {
  joined = c.with.ensures;
  less = undecided_less c.args.trail.now c.with.result c.args.literal c.requires.0 c.with.ensures c.requires.1;
  before = refl;
  lent = refl;
}
