use Rattle.std.proofs.Common.{◌≡◌, ℕ, ◌+◌, ◌-◌, length, refl, ap, ◌∙◌, arith}
use Rattle.modal.specs.Reading.{rest_of}
use Rattle.modal.specs.Rules.{listed}
use Rattle.modal.proofs.reader.read_rows.Goals as goal

pub loop-first-init : goal.loop-first-init
loop-first-init c =
    let none : length c.args.bytes.now - length c.args.bytes.now ≡ 0 = omega arith in record { shorter = omega arith; same = rw (c.new-reader.ensures, none) refl }

pub loop-first-preserved : goal.loop-first-preserved
loop-first-preserved c =
    let n = length c.args.bytes.now in
    let front = c.in-Some.ensures.cases in
    let done = c.in_ok-rest.ensures in
    let left = c.in_ok-rest.rest.now in
    let next : n - length c.loop-first.rest.now + 1 + (length c.in-Some.body.now - length left) ≡ n - length left = omega (arith, front, done.shorter) in
    record {
      shorter = omega (arith, front, done.shorter);
      same =
          c.loop-first.invariant.same
          ∙ ap (rest_of (listed c.loop-first.reader.list) (n - length c.loop-first.rest.now)) front.0
          ∙ done.same
          ∙ ap (λ (b : ℕ). rest_of (listed c.read_row.new.self.list) b left) next;
    }
