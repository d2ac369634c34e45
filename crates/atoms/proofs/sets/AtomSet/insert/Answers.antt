use Rattle.std.proofs.Common.{ℕ, cond, bit_or, ◌^◌, sym, ap, ◌∙◌}
use Rattle.std.proofs.lemmas.Nat.{one_shl}
use Rattle.std.proofs.lemmas.Bool.{lt-ltb}
use Rattle.atoms.specs.Sets.{has}
use Rattle.atoms.specs.declared.sets.AtomSet.{AtomSet}
use Rattle.atoms.proofs.Members.{has_insert}
use Rattle.atoms.proofs.sets.AtomSet.insert.Goals as goal

abbrev set : ℕ → AtomSet
set n = record { bits = n }

pub returns-then-a-lt-ATOMS : goal.returns-then-a-lt-ATOMS
returns-then-a-lt-ATOMS c =
    let l = c.if-a-lt-ATOMS.true in
    let word = ap set (ap (bit_or c.args.self.bits) (one_shl c.args.a 64 l)) ∙ sym (ap (λ b. set (cond b (bit_or c.args.self.bits (2 ^ c.args.a)) c.args.self.bits)) (lt-ltb c.args.a 64 l)) in
    record { word = word; atoms = λ i. ap (λ s. has s i) word ∙ has_insert c.args.self.bits c.args.a i }
