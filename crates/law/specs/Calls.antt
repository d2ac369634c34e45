-- The calls on a session and their replies.
use Rattle.std.specs.Prelude.{ℕ, List}
use Rattle.modal.specs.declared.row.Row.{Row}

pub data Call : Type 0 where
  add : List Row → Call
  -- the numbers of the rules asked
  question : List ℕ → Call
  forget : Call

pub data Reply : Type 0 where
  -- a rule's number
  added : ℕ → Reply
  -- how many worlds
  opened : ℕ → Reply
  -- the numbers of the rules in the core
  closed : List ℕ → Reply
  forgotten : Reply
  -- a refusal's number and detail
  refused : ℕ → ℕ → Reply
