-- A run grows call by call.
use Rattle.std.proofs.Common.{◌≡◌, List, [], ◌∷◌, ◌++◌, length, length-append, refl, sym, subst, arith}
use Rattle.clausal.specs.States.{State}
use Rattle.clausal.specs.Adding.{Fresh}
use Rattle.law.specs.Runs.{History, LeadsTo, new, call, CallLaw}
use Rattle.law.proofs.Leading.{led_sound, led_agree}
use Rattle.session.specs.Runs.{call_of, reply_of, history_from, history, Ran}
use Rattle.session.specs.declared.runs.Call.{Call as Asking}
use Rattle.session.specs.declared.runs.Reply.{Reply as Answer}

-- one call more, with its reply
history_more : (h : History) (cs : List Asking) (rs : List Answer) (c : Asking) (r : Answer) → length rs ≡ length cs → history_from h (cs ++ c ∷ []) (rs ++ r ∷ []) ≡ (call_of c, reply_of r) ∷ history_from h cs rs
history_more h [] [] c r e = refl
history_more h [] (x ∷ rs) c r e = absurd (omega arith)
history_more h (y ∷ cs) [] c r e = absurd (omega arith)
history_more h (y ∷ cs) (x ∷ rs) c r e = history_more ((call_of y, reply_of x) ∷ h) cs rs c r (omega arith)

-- where the calls so far have led
pub record Leads (cs : List Asking) (rs : List Answer) (st : State) : Type 0 where
  pub each : length rs ≡ length cs
  pub led : LeadsTo (history cs rs) st

-- a new session, before any call
pub leads_new : (rs : List Answer) (st : State) → rs ≡ [] → Fresh st → Leads [] rs st
leads_new rs st e f = rw e (record { each = refl; led = new f })

pub leads_on : (cs : List Asking) (rs : List Answer) (st after : State) (c : Asking) (r : Answer) → Leads cs rs st → CallLaw st (call_of c) (reply_of r) after → Leads (cs ++ c ∷ []) (rs ++ r ∷ []) after
leads_on cs rs st after c r l o = record {
  each = omega (arith, l.each, length-append cs (c ∷ []), length-append rs (r ∷ []));
  led = subst (λ h. LeadsTo h after) (sym (history_more [] cs rs c r l.each)) (call (call_of c) (reply_of r) l.led (o (history cs rs) l.led).step);
}

pub ran : (cs : List Asking) (rs : List Answer) (st : State) → Leads cs rs st → Ran cs rs
ran cs rs st l = record { each = l.each; left = st; led = l.led; sound = led_sound l.led; agrees = λ k t run e. led_agree l.led run (sym e) }
