use Rattle.std.proofs.Common.{◌≡◌, ℕ, ◌-◌, ◌*◌, ◌%◌, ◌^◌, ◌≤◌, Bool, true, false, not, ◌&&◌, eqb, refl, arith}
use Rattle.std.proofs.lemmas.Bool.{both_ways}
use lib.Bits.{bit_and}
use Rattle.std.proofs.lemmas.Bool.Decides.{nat_tests}
use Rattle.atoms.specs.Bits.{bit}
use Rattle.atoms.proofs.Members.{has_remove, has_high}
use Rattle.atoms.proofs.Counts.{count_less}
use Rattle.atoms.proofs.sets.AtomSet.remove.Goals as goal

pub returns-then-a-lt-ATOMS : goal.returns-then-a-lt-ATOMS
returns-then-a-lt-ATOMS c =
    let n : ℕ = c.args.self.bits in
    let a : ℕ = c.args.a in
    let rest : (i : ℕ) → bit (bit_and n (2 ^ 64 - 1 - (1 * 2 ^ a) % 2 ^ 64)) i ≡ bit n i && not (eqb a i) =
    λ i. has_remove n a i (omega arith) c.if-a-lt-ATOMS.true in
    record { rest = rest; fewer = λ h. count_less 64 (bit (bit_and n (2 ^ 64 - 1 - (1 * 2 ^ a) % 2 ^ 64))) (bit n) a rest c.if-a-lt-ATOMS.true h }

pub returns-else-a-lt-ATOMS : goal.returns-else-a-lt-ATOMS
returns-else-a-lt-ATOMS c =
    let high : (i : ℕ) → 64 ≤ i → bit c.args.self.bits i ≡ false = λ i l. has_high 64 c.args.self.bits i (omega arith) l in
    record {
      rest = λ i. same (bit c.args.self.bits i) c.args.a i c.if-a-lt-ATOMS.false (high i);
      fewer = λ h. absurd (both_ways _ (high c.args.a c.if-a-lt-ATOMS.false) h);
    }
  where
    same : (b : Bool) (a i : ℕ) → 64 ≤ a → (64 ≤ i → b ≡ false) → b ≡ b && not (eqb a i)
    same true a i l h = grind (arith, nat_tests, h)
    same false a i l h = refl
