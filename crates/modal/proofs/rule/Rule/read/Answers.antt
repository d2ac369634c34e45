use Rattle.std.proofs.Common.{arith}
use Rattle.std.proofs.lemmas.Bool.Decides.{nat_tests}
use Rattle.modal.proofs.Writing.{parsed_of, read_some, round_trip}
use Rattle.modal.proofs.rule.Rule.read.Goals as goal

pub returns : goal.returns
returns c =
    let said = c.in_ok-self.ensures in
    let some = c.if-is_empty.ensures in
    (parsed_of c.args.bytes.now _ said (read_some c.args.bytes.now _ said (grind (arith, nat_tests))), round_trip c.args.bytes.now _ said)
