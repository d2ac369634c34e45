-- The branch that asks what all the rules say is open exactly if the rules can be met together.
use Rattle.std.proofs.Common.{◌≡◌, Bool, true, List, [], ◌∷◌, refl}
use Rattle.lists.specs.Lists.{In, here, there}
use Rattle.lists.proofs.Members.{every_in, every_from}
use Rattle.modal.specs.Rows.{says}
use Rattle.modal.specs.declared.row.Row.{Row}
use Rattle.tableau.specs.Branches.{DecidesBranch, asks, all_said}
use Rattle.tableau.specs.Claims.{SignedFormula, holds, plainly}
use Rattle.tableau.specs.Deciding.{Decides}

in_later : (rules : List (List Row)) (cs : List SignedFormula) {s : SignedFormula} → In s cs → In s (all_said rules cs)
in_later [] cs i = i
in_later (rows ∷ rules) cs i = in_later rules (plainly (says rows) ∷ cs) (there i)

said_in : (rules : List (List Row)) (cs : List SignedFormula) {rows : List Row} → In rows rules → In (plainly (says rows)) (all_said rules cs)
said_in (rows ∷ rules) cs here = in_later rules (plainly (says rows) ∷ cs) here
said_in (r ∷ rules) cs (there i) = said_in rules (plainly (says r) ∷ cs) i
said_in [] cs i = elim i [ ]

all_in : (P : SignedFormula → Type 0) (rules : List (List Row)) (cs : List SignedFormula) → ((rows : List Row) → In rows rules → P (plainly (says rows))) → ((s : SignedFormula) → In s cs → P s) → (s : SignedFormula) → In s (all_said rules cs) → P s
all_in P [] cs f g s i = g s i
all_in P (rows ∷ rules) cs f g s i = all_in P rules (plainly (says rows) ∷ cs) (λ r j. f r (there j)) more s i
  where
    more : (x : SignedFormula) → In x (plainly (says rows) ∷ cs) → P x
    more x here = f rows here
    more x (there j) = g x j

pub decided : (rules : List (List Row)) (met : Bool) → DecidesBranch (asks (all_said rules [])) met → Decides rules met
decided rules met a = (
  (λ e. let o = a.0 e in record {
    model = o.model;
    world = o.number;
    inside = o.inside;
    met = λ rows i. every_in (λ s. holds s o.model.worlds o.number) (said_in rules [] i) o.fulfils.claims;
  }),
  (λ e m. a.1 e (record {
    model = m.model;
    number = m.world;
    inside = m.inside;
    fulfils = record {
      claims = every_from (λ s. holds s m.model.worlds m.world) (all_said rules []) (all_in (λ s. holds s m.model.worlds m.world ≡ true) rules [] m.met (λ s i. elim i [ ]));
      letters = refl;
      everywhere = refl;
      somewhere = refl;
    };
  })),
)
