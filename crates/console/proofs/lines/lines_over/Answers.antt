use Rattle.std.proofs.Common.{sym, ◌∙◌, subst, length}
use Rattle.std.specs.List.{All}
use Rattle.std.proofs.lemmas.List.Elements.{All-get_or}
use Rattle.console.specs.Carrying.{Within}
use Rattle.console.specs.declared.pieces.Piece.{Piece}
use Rattle.console.proofs.Within.{pieces_within}
use Rattle.console.proofs.Saying.{leads_new, leads_next, says}
use Rattle.console.proofs.lines.lines_over.Goals as goal

pub loop-piece-init : goal.loop-piece-init
loop-piece-init g c = leads_new c.args.input.now _ _ c.new-lines.ensures.items c.new-session.ensures

pub answer-requires : goal.answer-requires
answer-requires g c =
    let within : Piece → Type 0 = λ p. Within (length c.args.input.now) p in
    All-get_or within _ _ _ c.loop-piece-test.true (subst (All within) (sym (c.deref-piece-items.ensures.value ∙ c.in_ok-pieces.ensures)) (pieces_within c.args.input.now))

pub loop-piece-preserved : goal.loop-piece-preserved
loop-piece-preserved g c = rw c.in_ok-push.ensures.items (leads_next _ _ _ _ _ _ _ _ c.loop-piece-test.true c.loop-piece.invariant c.answer.ensures)

pub returns : goal.returns
returns g c = says _ _ _ _ _ (c.deref-piece-items.ensures.value ∙ c.in_ok-pieces.ensures) c.loop-piece-test.false c.loop-piece.invariant
