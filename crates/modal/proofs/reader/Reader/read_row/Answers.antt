use Rattle.std.proofs.Common.{◌≡◌, length, ap, arith}
use Rattle.std.proofs.lemmas.Result.{err_from_is_err_and}
use Rattle.modal.specs.Rules.{listed}
use Rattle.modal.proofs.Built.{length_depths}
use Rattle.modal.proofs.Steps.{step_refused}
use Rattle.modal.proofs.reader.Reader.read_row.Goals as goal

pub returns-in_err-push : goal.returns-in_err-push
returns-in_err-push c =
    let told = err_from_is_err_and c.from_residual-in_err-push.result c.from_residual-in_err-push.ensures.1 in
    let reader = c.args.self.now in
    let rows = listed reader.list in
    let count : c.len-count.result ≡ length rows = omega (arith, c.len-count.ensures.count, ap length reader.known, length_depths rows) in
    rw (told.1, told.2) (step_refused rows _ _ _ (omega arith) _ _ c.in_ok-row.ensures _ (rw count at c.in_err-push.ensures))
