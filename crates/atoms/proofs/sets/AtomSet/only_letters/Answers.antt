use Rattle.std.proofs.Common.{◌≡◌, ℕ, Bool, true, false, not, ◌&&◌, ltb, leb, ap, ◌∙◌, arith}
use Rattle.std.proofs.lemmas.Bool.Decides.{nat_tests}
use Rattle.atoms.specs.Sets.{has}
use Rattle.atoms.proofs.Members.{has_letters, has_high}
use Rattle.atoms.proofs.Below.{empty_none, some_same}
use Rattle.atoms.proofs.sets.AtomSet.only_letters.Goals as goal

pub returns : goal.returns
returns c =
    let past : (i : ℕ) → has c.difference.result i ≡ leb 15 i && has c.args.self i =
    λ i. c.difference.ensures i ∙ ap (λ (b : Bool). has c.args.self i && not b) (has_letters i) ∙ turn (has c.args.self i) i in
    empty_none 64 (has c.difference.result) c.is_empty.result (λ i l. has_high 64 c.difference.result.bits i (omega arith) l) c.is_empty.ensures.all c.is_empty.ensures.some
    ∙ ap not (some_same 64 (has c.difference.result) (λ a. leb 15 a && has c.args.self a) (λ i _. past i))
  where
    turn : (b : Bool) (i : ℕ) → b && not (ltb i 15) ≡ leb 15 i && b
    turn true i = grind (arith, nat_tests)
    turn false i = grind (arith, nat_tests)
