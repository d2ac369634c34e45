-- Each case of the table.
use Rattle.std.proofs.lemmas.Grind.{common_steps}
use Rattle.std.proofs.lemmas.Bool.Decides.{nat_tests}
use Rattle.std.proofs.Common.{◌≡◌, ℕ, suc, ◌-◌, Bool, true, false, not, ◌&&◌, ◌||◌, List, [], ◌∷◌, length, refl, ap, subst, arith}
use mathlib.Core.Bool.{false≢true}
use Rattle.std.proofs.lemmas.Bool.{and_parts}
use Rattle.lists.specs.Lists.{In, every, here, some, there}
use Rattle.lists.proofs.Members.{every_in, some_in}
use Rattle.modal.specs.Kripke.{Model, World, box, conj, dia, disj, falsum, letter, meets, neg, verum, world}
use Rattle.modal.specs.Rows.{says}
use Rattle.modal.specs.declared.faults.ReadFault.TheVariants.{ChildNotEarlier, LetterTooHigh, TooDeep}
use Rattle.modal.specs.declared.row.Row.{Row}
use Rattle.clausal.specs.States.{State}
use Rattle.clausal.specs.Trees.{Complete, Tree, size}
use Rattle.clausal.specs.declared.places.Place.{Place}
use Rattle.law.specs.Verdicts.{handles}
use Rattle.clausal.specs.declared.shapes.Shape.TheVariants.{Both}
use Rattle.samples.specs.Laws.{shape_at, AllHold, Demanded, diamond_places, left, right, whole}
use Rattle.samples.specs.Samples.{HeldBySome, Closed, HeldBy, Holds, MetBy, Open, Sample, numbers, samples}
use Rattle.samples.proofs.Counting.{counted, lone}
use Rattle.samples.proofs.Holding.{held_somewhere}
use Rattle.samples.proofs.Meeting.{all_met_tree, met_by_root, root_meeting}
use Rattle.samples.proofs.Sources.{no_diamonds}

-- rules that a world meets are open with the number of worlds that each complete tree has
open_from : (rules : List (List Row)) (count : ℕ) → HeldBySome rules → MetBy rules → ((st : State) → HeldBy rules st → (t : Tree) → Complete st 0 (handles st (numbers rules)) t → size t ≡ count) → Open rules count
open_from rules count h met e = record {
  held = h;
  met = met;
  answer = λ st held. (let (t, c) = all_met_tree rules st held met in record { tree = t; whole = c; counted = e st held t c; meeting = root_meeting rules st held t c });
  exactly = e;
}

closed_from : (rules : List (List Row)) → HeldBySome rules → (MetBy rules → ⊥) → Closed rules
closed_from rules h n = record { held = h; nowhere = n; no_tree = λ st held t c. n (met_by_root rules st held t c) }

-- one rule that no world of any model meets
closed_rule : (rows : List Row) → HeldBySome (rows ∷ []) → ((ws : List World) (w : ℕ) → meets (says rows) ws w ≡ true → ⊥) → Closed (rows ∷ [])
closed_rule rows h n = closed_from (rows ∷ []) h (λ met. n met.model.worlds met.at (and_parts _ true met.meeting).0)

-- one rule whose diamonds are demanded, none of them at level 1
open_rule : (rows : List Row) → HeldBySome (rows ∷ []) → MetBy (rows ∷ []) → ((p : Place) → In p (diamond_places rows 0) → Demanded rows p.row p.plus) → diamond_places rows 1 ≡ [] → Open (rows ∷ []) (suc (length (diamond_places rows 0)))
open_rule rows h met demanded flat = open_from (rows ∷ []) _ h met (counted rows demanded flat)

-- a world alone, where every letter is true
abbrev alone : Model
alone = record { worlds = record { letters = λ _. true; successors = [] } ∷ []; inhabited = omega arith; inside = refl }

met_alone : (rules : List (List Row)) → every (λ rows. meets (says rows) alone.worlds 0) rules ≡ true → MetBy rules
met_alone rules e = record { model = alone; at = 0; inside = omega arith; meeting = e }

-- no rules are held, and none are asked
nothing_asked : Open [] 1
nothing_asked = open_from [] 1 (held_somewhere [] refl) (met_alone [] refl) (λ st held t c. lone st 0 _ t c (no_diamonds st held.clausal 0 (λ r h. (let e = ap length held.rules_held in absurd (omega arith)))))

-- one rule without diamonds, met by a world alone
without_diamonds : (rows : List Row) → HeldBySome (rows ∷ []) → MetBy (rows ∷ []) → diamond_places rows 0 ≡ [] → diamond_places rows 1 ≡ [] → Open (rows ∷ []) 1
without_diamonds rows h met bare flat = subst (Open (rows ∷ [])) (ap (λ ps. suc (length ps)) bare) (open_rule rows h met (λ p i. elim (subst (In p) bare i) [ ]) flat)

-- a world with two successors, one where every letter is true and one where none is
abbrev fork : Model
fork = record { worlds = record { letters = λ _. true; successors = 1 ∷ 2 ∷ [] } ∷ record { letters = λ _. true; successors = [] } ∷ record { letters = λ _. false; successors = [] } ∷ []; inhabited = omega arith; inside = refl }

met_at_fork : (rules : List (List Row)) → every (λ rows. meets (says rows) fork.worlds 0) rules ≡ true → MetBy rules
met_at_fork rules e = record { model = fork; at = 0; inside = omega arith; meeting = e }

-- one rule whose last row is a conjunction of two diamonds
both_parts : (rows : List Row) (c e : ℕ) → shape_at rows (length rows - 1) true ≡ Both c e → diamond_places rows 0 ≡ record { row = e; plus = true; level = 0 } ∷ record { row = c; plus = true; level = 0 } ∷ [] → (p : Place) → In p (diamond_places rows 0) → Demanded rows p.row p.plus
both_parts rows c e q d p i = go p (subst (In p) d i)
  where
    go : (p : Place) → In p (record { row = e; plus = true; level = 0 } ∷ record { row = c; plus = true; level = 0 } ∷ []) → Demanded rows p.row p.plus
    go p here = right whole q
    go p (there here) = left whole q
    go p (there (there j)) = elim j [ ]

-- box false, and diamond true
box_false_and_diamond : (ws : List World) (w : ℕ) → meets (conj (box falsum) (dia verum)) ws w ≡ true → ⊥
box_false_and_diamond ws w met =
    let next = (world ws w).successors in
    let (all, one) = and_parts (every (meets falsum ws) next) (some (meets verum ws) next) met in
    let (x, i, e) = some_in (meets verum ws) next one in
    false≢true (every_in (meets falsum ws) i all)

clash : (p q : Bool) → (not p || q) ≡ true → p ≡ true → not q ≡ true → ⊥
clash v1 v2 v3 v4 v5 = grind (arith, common_steps, nat_tests)

-- box (not p or q), and box p, and diamond not q
boxes_against_diamond : (ws : List World) (w : ℕ) → meets (conj (conj (box (disj (neg (letter 0)) (letter 1))) (box (letter 0))) (dia (neg (letter 1)))) ws w ≡ true → ⊥
boxes_against_diamond ws w met =
    let next = (world ws w).successors in
    let implies = meets (disj (neg (letter 0)) (letter 1)) ws in
    let p = meets (letter 0) ws in
    let not_q = meets (neg (letter 1)) ws in
    let (both, one) = and_parts (every implies next && every p next) (some not_q next) met in
    let (first, second) = and_parts (every implies next) (every p next) both in
    let (x, i, c) = some_in not_q next one in
    clash (p x) (meets (letter 1) ws x) (every_in implies i first) (every_in p i second) c

ended : AllHold []
ended c i = elim i [ ]

also : {c : Sample} {cs : List Sample} → Holds c → AllHold cs → AllHold (c ∷ cs)
also h hs x here = h
also h hs x (there i) = hs x i

pub all_hold : AllHold samples
all_hold =
    also nothing_asked
    (also (without_diamonds _ (held_somewhere _ refl) (met_alone _ refl) refl refl)
    (also (without_diamonds _ (held_somewhere _ refl) (met_alone _ refl) refl refl)
    (also (closed_rule _ (held_somewhere _ refl) box_false_and_diamond)
    (also (open_rule _ (held_somewhere _ refl) (met_at_fork _ refl) (both_parts _ 1 3 refl refl) refl)
    (also (closed_rule _ (held_somewhere _ refl) boxes_against_diamond)
    (also (ChildNotEarlier (record { row = 0; byte = 0 }), refl, refl)
    (also refl
    (also (LetterTooHigh (record { row = 0; byte = 0 }), refl, refl)
    (also refl
    (also (TooDeep (record { row = 8; byte = 16 }), refl, refl)
    ended))))))))))
