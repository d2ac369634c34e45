use Rattle.std.proofs.Common.{ℕ, Bool, not, ◌&&◌, sym, ap, ◌∙◌, arith}
use Rattle.std.proofs.Math.Bool.{not-not}
use Rattle.atoms.specs.Sets.{has, some_below}
use Rattle.atoms.proofs.Members.{has_high}
use Rattle.atoms.proofs.Below.{empty_none, some_same}
use Rattle.atoms.proofs.assumptions.Assumptions.clashes.Goals as goal

pub returns : goal.returns
returns c =
    let t : ℕ → Bool = has c.intersection.result in
    record {
      answer = ap not (empty_none 64 t c.is_empty.result (λ i l. has_high 64 c.intersection.result.bits i (omega arith) l) c.is_empty.ensures.all c.is_empty.ensures.some)
          ∙ not-not (some_below 64 t) ∙ some_same 64 t (λ a. has c.args.self.within a && has c.args.self.without a) (λ i _. c.intersection.ensures i);
      apart = λ e i. sym (c.intersection.ensures i) ∙ c.is_empty.ensures.all (sym (not-not c.is_empty.result) ∙ ap not e) i;
    }
