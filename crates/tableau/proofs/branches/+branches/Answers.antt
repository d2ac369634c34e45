use Rattle.std.proofs.Common.{arith}
use Rattle.std.proofs.lemmas.Bool.{not_from_true}
use Rattle.std.proofs.lemmas.Grind.{common_steps}
use Rattle.tableau.specs.Claims.{claimed, claims_of}
use Rattle.tableau.proofs.Branching.{lighter_here, always, same, both, letter, clash, everywhere, somewhere, either_one, either_other}
use Rattle.tableau.proofs.Rooted.{beyond}
use Rattle.tableau.proofs.branches.+branches.Goals as goal

pub is_open-returns-in_default : goal.is_open-returns-in_default
is_open-returns-in_default t c = rw c.in_default.is (beyond _ _ _ _ c.requires c.each_can_be_right.ensures)

pub is_open-returns-in-Always : goal.is_open-returns-in-Always
is_open-returns-in-Always t c = rw c.in-More.is (always _ _ _ (claimed c.in-More.claim) _ _ (rw c.in-Always.is at c.step.ensures) c.is_open.ensures)

pub is_open-returns-then-not-contains : goal.is_open-returns-then-not-contains
is_open-returns-then-not-contains t c = rw c.in-More.is (letter _ _ _ (claimed c.in-More.claim) _ _ c.in-Letter.letter (rw c.in-Letter.is at c.step.ensures) c.is_open-then-not-contains.ensures)

pub is_open-returns-else-not-contains : goal.is_open-returns-else-not-contains
is_open-returns-else-not-contains t c =
    rw c.in-More.is
    (clash _ _ _ (claimed c.in-More.claim) _ _ c.in-Letter.letter (rw c.in-Letter.is at c.step.ensures) (rw c.opposite.ensures at (c.contains.ensures.0 c.if-not-contains.false)) (not_from_true _ c.if-not-contains.false))

pub is_open-returns-in-Same : goal.is_open-returns-in-Same
is_open-returns-in-Same t c = rw c.in-More.is (same _ _ _ (claimed c.in-More.claim) _ _ c.in-Same.c (rw c.in-Same.is at c.step.ensures) c.is_open-in-Same.ensures)

pub is_open-returns-in-Both : goal.is_open-returns-in-Both
is_open-returns-in-Both t c = rw c.in-More.is (both _ _ _ (claimed c.in-More.claim) _ _ c.in-Both.c c.in-Both.d (rw c.in-Both.is at c.step.ensures) c.is_open-in-Both.ensures)

pub is_open-returns-then-is_open : goal.is_open-returns-then-is_open
is_open-returns-then-is_open t c = rw c.in-More.is (either_one _ _ _ (claimed c.in-More.claim) _ c.in-Either.c c.in-Either.d (rw c.in-Either.is at c.step.ensures) _ c.is_open-in-Either.ensures c.if-is_open.true)

pub is_open-returns-else-is_open : goal.is_open-returns-else-is_open
is_open-returns-else-is_open t c = rw c.in-More.is (either_other _ _ _ (claimed c.in-More.claim) _ c.in-Either.c c.in-Either.d (rw c.in-Either.is at c.step.ensures) _ _ c.is_open-in-Either.ensures c.if-is_open.false c.is_open-else-is_open.ensures)

pub is_open-returns-in-Everywhere : goal.is_open-returns-in-Everywhere
is_open-returns-in-Everywhere t c = rw c.in-More.is (everywhere _ _ _ (claimed c.in-More.claim) _ _ c.in-Everywhere.c (rw c.in-Everywhere.is at c.step.ensures) c.is_open-in-Everywhere.ensures)

pub is_open-returns-in-Somewhere : goal.is_open-returns-in-Somewhere
is_open-returns-in-Somewhere t c = rw c.in-More.is (somewhere _ _ _ (claimed c.in-More.claim) _ _ c.in-Somewhere.c (rw c.in-Somewhere.is at c.step.ensures) c.is_open-in-Somewhere.ensures)

pub each_can_be_right-can_be_right-requires : goal.each_can_be_right-can_be_right-requires
each_can_be_right-can_be_right-requires t c = (grind (arith, common_steps, lighter_here (claims_of c.args.everywhere.now)), tt)
