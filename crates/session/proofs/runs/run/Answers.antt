use Rattle.std.proofs.Common.{sym, ◌∙◌, subst, List, arith}
use Rattle.std.proofs.lemmas.Iterator.Adapters.{YieldsList-from_vec}
use Rattle.std.proofs.lemmas.Iterator.Consumers.{YieldsList-end}
use Rattle.std.proofs.lemmas.List.{map-id}
use Rattle.session.specs.Runs.{Ran}
use Rattle.session.specs.declared.runs.Call.{Call}
use Rattle.session.proofs.Running.{leads_new, leads_on, ran}
use Rattle.session.proofs.runs.run.Goals as goal

pub loop-call-init : goal.loop-call-init
loop-call-init g c = leads_new _ _ c.new-replies.ensures.items c.new-session.ensures

pub loop-call-preserved : goal.loop-call-preserved
loop-call-preserved g c = rw c.in_ok-push.ensures.items (leads_on _ _ _ _ c.in-Some.call c.carry_out.result c.loop-call.invariant c.carry_out.ensures)

pub returns : goal.returns
returns g c =
    let end = YieldsList-end (YieldsList-from_vec {s = c.into_iter-call-iterator.result} c.args.calls.items c.into_iter-call-iterator.ensures.into_iter_gives.0 (omega (arith, c.into_iter-call-iterator.ensures.into_iter_gives.1))) c.loop-call.yielded c.loop-call.call-iterator c.loop-call.yielded_by c.next.result c.next.new.self c.in-None.is c.next.ensures.steps in
    subst (λ (cs : List Call). Ran cs c.loop-call.replies.items) (sym (map-id _) ∙ end.0) (ran _ _ _ c.loop-call.invariant)
