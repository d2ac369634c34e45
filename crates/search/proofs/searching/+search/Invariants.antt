use Rattle.search.specs.Searches.{undecided_in}
use Rattle.search.proofs.searching.+search.Given as goal

abbrev pub decreases-search : goal.decreases-search
decreases-search l = undecided_in l.trail.now
