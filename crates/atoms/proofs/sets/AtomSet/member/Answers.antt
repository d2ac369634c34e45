use Rattle.std.proofs.Common.{◌≡◌, false, ltb, sym, ◌∙◌, arith}
use Rattle.std.proofs.lemmas.Bool.Decides.{nat_tests}
use Rattle.atoms.proofs.Members.{has_test, has_high}
use Rattle.atoms.proofs.sets.AtomSet.member.Goals as goal

pub returns-then-a-lt-ATOMS : goal.returns-then-a-lt-ATOMS
returns-then-a-lt-ATOMS c = has_test _ _

pub returns-else-a-lt-ATOMS : goal.returns-else-a-lt-ATOMS
returns-else-a-lt-ATOMS c =
    let out : ltb c.args.a 64 ≡ false = grind (arith, nat_tests, c.if-a-lt-ATOMS.false) in
    out ∙ sym (has_high 64 c.args.self.bits c.args.a (omega arith) c.if-a-lt-ATOMS.false)
