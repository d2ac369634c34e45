use Rattle.std.proofs.Common.{◌≡◌, ℕ, ◌+◌, ◌-◌, ◌^◌, ◌<◌, false, eqb, sym, ap, ◌∙◌, subst, arith}
use Rattle.std.proofs.lemmas.Bool.{and_parts}
use lib.Bits.{bit_and}
use Rattle.std.proofs.lemmas.Bool.Decides.{nat_tests}
use Rattle.atoms.specs.Bits.{bit}
use Rattle.atoms.proofs.Members.{has_and}
use Rattle.plain.specs.Counts.{Part, NextPart}
use Rattle.plain.proofs.Counting.{part_le, next, filled}
use Rattle.plain.proofs.next_part.Goals as goal

-- a part that is not all of the set is a lower number
less : (v m : ℕ) → v < 2 ^ 64 → Part v m → false ≡ eqb v m → v < m
less v m l p e = let h = part_le 64 v m l p in grind (arith, nat_tests)

pub overflow_add-part : goal.overflow_add-part
overflow_add-part c =
    let v : ℕ = c.args.part.bits in
    let m : ℕ = c.args.mask.bits in
    let l : v < m = less v m (omega arith) c.requires c.if-eq.ensures in
    let e = filled v m (omega arith) (omega arith) c.requires in
    omega arith

pub returns : goal.returns
returns c =
    let v : ℕ = c.args.part.bits in
    let m : ℕ = c.args.mask.bits in
    let n = next 64 m v (omega arith) (omega arith) c.requires in
    let e : bit_and (v + (2 ^ 64 - 1 - m) + 1) m ≡ c.from.result.bits =
    ap (λ (a : ℕ). bit_and (a + 1) m) (sym (filled v m (omega arith) (omega arith) c.requires)) ∙ sym c.from.ensures.0 in
    subst (λ (w : ℕ). NextPart v m w) e
    (record { part = λ i h. (and_parts _ (bit m i) (sym (has_and _ m i) ∙ h)).1; more = n.more (less v m (omega arith) c.requires c.if-eq.ensures); least = n.least })
