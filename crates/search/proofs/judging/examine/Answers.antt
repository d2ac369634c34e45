use Rattle.std.proofs.Common.{◌≡◌, ℕ, ◌+◌, ◌<◌, List, ◌∷◌, length, get_or, drop, sym, subst, add-one, drop-cons}
use Rattle.std.proofs.lemmas.List.{drop_all}
use Rattle.atoms.specs.declared.clauses.Entry.{Entry}
use Rattle.atoms.proofs.Making.{blank}
use Rattle.search.specs.Judging.{FirstJudged, none, here, later}
use Rattle.search.specs.declared.status.Status.TheVariants.{Open}
use Rattle.search.proofs.judging.examine.Goals as goal

-- the entries from place i on, by the first of them
split : (es : List Entry) (i : ℕ) → i < length es → drop i es ≡ get_or es i blank ∷ drop (i + 1) es
split es i l = rw (add-one, drop-cons es i blank)

pub returns-in_default : goal.returns-in_default
returns-in_default c =
    c.loop-entry.invariant c.judge.result (subst (λ (xs : List Entry). FirstJudged c.args.trail xs c.judge.result)
    (sym (split c.args.entries.now c.loop-entry.entry-index c.loop-entry-test.true)) (here c.in_default.not-Open c.judge.ensures))

pub loop-entry-preserved : goal.loop-entry-preserved
loop-entry-preserved c s h =
    c.loop-entry.invariant s (subst (λ (xs : List Entry). FirstJudged c.args.trail xs s)
    (sym (split c.args.entries.now c.loop-entry.entry-index c.loop-entry-test.true)) (later c.in-Open.ensures h))

pub returns : goal.returns
returns c =
    c.loop-entry.invariant Open (subst (λ (xs : List Entry). FirstJudged c.args.trail xs Open)
    (sym (drop_all c.loop-entry.entry-index c.args.entries.now c.loop-entry-test.false)) none)
