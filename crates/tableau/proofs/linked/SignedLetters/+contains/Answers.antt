use Rattle.tableau.specs.Claims.{letters_of}
use Rattle.tableau.proofs.Members.{in_first, in_rest}
use Rattle.tableau.proofs.linked.SignedLetters.+contains.Goals as goal

pub returns-then-eq : goal.returns-then-eq
returns-then-eq t c = rw c.in-More.is (in_first c.in-More.first c.args.letter (letters_of c.in-More.rest.now) c.eq.result c.eq.ensures c.if-eq.true)

pub returns-else-eq : goal.returns-else-eq
returns-else-eq t c = rw c.in-More.is (in_rest c.in-More.first c.args.letter (letters_of c.in-More.rest.now) c.eq.result c.contains.result c.eq.ensures c.if-eq.false c.contains.ensures)
