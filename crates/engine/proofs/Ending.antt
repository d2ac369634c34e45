-- Each turn of a question keeps the bounds and lowers the measure.
use Rattle.std.proofs.Common.{◌≡◌, ℕ, zero, suc, ◌+◌, ◌-◌, ◌*◌, ◌^◌, ◌<◌, ◌≤◌, Bool, true, false, cond, eqb, inl, inr, List, [], ◌∷◌, ◌++◌, length, take, sym, refl, ap, ◌∙◌, subst, add-one, arith, lit<, Result, is_ok}
use Rattle.std.specs.Prelude.{⊤}
use Rattle.std.proofs.lemmas.Bool.{cases_lt, both_ways, eq-eqb, ne_eqb, ltb-true}
use Rattle.std.proofs.lemmas.List.{length-append}
use Rattle.std.proofs.lemmas.List.Elements.{filter-append}
use Rattle.atoms.specs.Clauses.{is_learnt, learnt}
use Rattle.atoms.specs.Sets.{has, count_below}
use Rattle.atoms.specs.declared.assumptions.Assumptions.{Assumptions}
use Rattle.atoms.specs.declared.clauses.Clause.{Clause}
use Rattle.atoms.specs.declared.sets.AtomSet.{AtomSet}
use Rattle.atoms.proofs.Members.{has_none}
use Rattle.clausal.specs.declared.modal_clauses.ModalClause.{ModalClause}
use Rattle.engine.specs.Steps.{fresh, valued, staged, outset, leaving, popped, learnt_entry}
use Rattle.engine.specs.Termination.{turns_at, visit_turns, visits_left, waiting_turns, stage_turns, question_turns, Small, FromBelow, Bounded, Decreases, TurnDecreases}
use Rattle.engine.specs.declared.frames.Answer.{Answer}
use Rattle.engine.specs.declared.frames.Answer.TheVariants.{Nothing}
use Rattle.engine.specs.declared.frames.Cursor.{Cursor}
use Rattle.engine.specs.declared.frames.Frame.{Frame}
use Rattle.engine.specs.declared.outcome.Outcome.{Outcome}
use Rattle.engine.specs.declared.frames.Stage.{Stage}
use Rattle.engine.specs.declared.frames.Stage.TheVariants.{Seeking, Descending, Settled}
use Rattle.engine.specs.declared.frames.Turn.TheVariants.{Go, Done}
use Rattle.oracle.specs.Oracles.{Lists, Taken}
use Rattle.oracle.specs.declared.answers.LevelFull.{LevelFull}
use Rattle.engine.specs.Worlds.{no_frame, frame_at}
use Rattle.engine.proofs.TurnCounts.{seek_costs, all_fits}
use Rattle.engine.proofs.Decreasing.{learns_again, stage_changes, goes_down, goes_back}
use Rattle.engine.proofs.Stacked.{Topped, Cut, taken}

-- the first world
pub first_bounded : (under : Assumptions) → Bounded (fresh under 0 0 ∷ []) outset
unfolding waiting_turns
first_bounded under =
    record {
      long = refl;
      level = lit< tt;
      seek_again = λ i h. (let z : 0 ≡ i = omega arith in subst (λ (j : ℕ). ((frame_at (fresh under 0 0 ∷ []) j).row + 1) + (waiting_turns (fresh under 0 0 ∷ []) j + turns_at j) ≤ question_turns) z (let q : (0 + 1) + (0 + turns_at 0) ≤ question_turns = omega arith in q));
      turns = (let q : 1 + (0 + turns_at 0) ≤ question_turns = omega arith in q);
      last_level = λ h. absurd (omega arith);
      descending = λ i h. absurd (omega arith);
      small = λ i h. (let z : 0 ≡ i = omega arith in subst (λ (j : ℕ). Small (frame_at (fresh under 0 0 ∷ []) j).diamond) z nothing_small);
      shallow = tt;
    }
  where
    nothing_small : Small (record { name = 0; literal = record { atom = 0; holds = false } })
    nothing_small = record { name = lit< tt; atom = lit< tt }

module _ (before after : Lists) (fs gs : List Frame) (at : Cursor) (b : Bounded fs at) where
  -- the world on top has a valuation
  pub seek_decreases : (v unvisited : AtomSet) → (frame_at fs at.level).stage ≡ Seeking → ((k : ℕ) → after k ≡ before k) → (7 ≤ at.level → (i : ℕ) → has unvisited i ≡ false) → Topped no_frame fs gs at.level (valued (frame_at fs at.level) v unvisited) → Decreases before fs at after gs (record { level = at.level; count = at.count; answer = Nothing })
  seek_decreases v unvisited stage e bot top =
      let l : ℕ = at.level in
      let c : stage_turns (frame_at fs l).stage (frame_at fs l) l ≡ turns_at l = ap (λ (x : Stage). stage_turns x (frame_at fs l) l) stage in
      let s = seek_costs l (has unvisited) bot in
      stage_changes before after fs gs at b e (valued (frame_at fs l) v unvisited) top refl refl bot (let q : count_below 64 (has unvisited) * visit_turns l + 2 < stage_turns (frame_at fs l).stage (frame_at fs l) l = omega arith in q)

  -- it learns an entry
  pub learn_decreases : (clause : Clause) (r : Result ⊤ LevelFull) → is_ok r ≡ true → Taken before after at.level (learnt_entry clause) r → Topped no_frame fs gs at.level (fresh (frame_at fs at.level).under (frame_at fs at.level).parent (frame_at fs at.level).row) → Decreases before fs at after gs (record { level = at.level; count = (frame_at fs at.level).row + 1; answer = Nothing })
  learn_decreases clause r ok tk top =
      let l : ℕ = at.level in
      let here : after l ≡ before l ++ learnt_entry clause ∷ [] = tk.here ∙ ap (λ (x : Bool). cond x (before l ++ learnt_entry clause ∷ []) (before l)) ok in
      let n = filter-append is_learnt (before l) (learnt_entry clause ∷ []) in
      let longer : length (learnt (after l)) ≡ suc (length (learnt (before l))) = ap (λ es. length (learnt es)) here ∙ ap length n ∙ length-append (learnt (before l)) (learnt_entry clause ∷ []) ∙ add-one (length (learnt (before l))) in
      learns_again before after fs gs at _ b top tk.others longer (ltb-true (length (learnt (before l))) 128 (sym tk.when ∙ ok)) refl refl has_none (record { name = lit< tt; atom = lit< tt })

-- the world on top has its answer
pub leave_decreases : (before after : Lists) (fs : List Frame) (at : Cursor) (a : Answer) (o : Outcome) → Bounded fs at → ((k : ℕ) → after k ≡ before k) → ((k : ℕ) → k < 7 → FromBelow a k) → TurnDecreases before fs at after (popped at fs) (leaving at a o)
leave_decreases before after fs at a o b e below = go at.level refl
  where
    Left : Bool → Type 0
    Left root = TurnDecreases before fs at after (cond root fs (take at.level fs)) (cond root (Done o) (Go (record { level = at.level - 1; count = at.count; answer = a })))

    go : (l : ℕ) → at.level ≡ l → Left (eqb at.level 0)
    go zero q = subst Left (sym (eq-eqb at.level 0 q)) tt
    go (suc k) q =
        let v = b.level in
        let lg = b.long in
        let less : k ≡ at.level - 1 = omega arith in
        let cut : Cut no_frame fs (take at.level fs) (suc k) = subst (Cut no_frame fs (take at.level fs)) q (taken no_frame fs at.level (omega arith)) in
        subst Left (sym (ne_eqb at.level 0 (λ z. omega arith)))
        (subst (λ (n : ℕ). Decreases before fs at after (take at.level fs) (record { level = n; count = at.count; answer = a })) less
        (goes_back before after fs (take at.level fs) at k a b e (sym q) cut (below k (omega arith))))

module _ (fs : List Frame) (at : Cursor) (b : Bounded fs at) (stage : (frame_at fs at.level).stage ≡ Descending) where
  -- a world has a diamond clause to visit only above the last level, and one more world can be counted
  pub visit_shallow : (name : ℕ) → has (frame_at fs at.level).unvisited name ≡ true → at.level < 7
  visit_shallow name member = elim (cases_lt at.level 7) [ inl lt ↦ lt | inr ge ↦ absurd (both_ways _ (b.last_level ge name) member) ]

  descending_cost : stage_turns (frame_at fs at.level).stage (frame_at fs at.level) at.level ≡ visits_left (frame_at fs at.level) * visit_turns at.level + 2
  descending_cost = ap (λ (x : Stage). stage_turns x (frame_at fs at.level) at.level) stage

  pub visit_fits : at.count + 1 < 2 ^ 64
  visit_fits = let c = descending_cost in let s = b.turns in let f = all_fits in omega arith

  -- the part of a fired diamond clause is tried one level further
  pub visit_decreases : (es : Lists) (mid gs : List Frame) (name : ℕ) (unvisited : AtomSet) (d : ModalClause) (under : Assumptions) → has (frame_at fs at.level).unvisited name ≡ true → count_below 64 (has unvisited) + 1 ≡ visits_left (frame_at fs at.level) → d.name < 64 → d.literal.atom < 64 → Topped no_frame fs mid at.level (staged (frame_at fs at.level) (frame_at fs at.level).stage unvisited d) → Topped no_frame mid gs (suc at.level) (fresh under (frame_at fs at.level).row at.count) → Decreases es fs at es gs (record { level = at.level + 1; count = at.count + 1; answer = Nothing })
  visit_decreases es mid gs name unvisited d under member fewer dn da top more =
      subst (λ (n : ℕ). Decreases es fs at es gs (record { level = n; count = at.count + 1; answer = Nothing })) (sym (add-one at.level))
      (goes_down es fs mid gs at _ _ b stage (visit_shallow name member) top more stage refl (record { name = dn; atom = da }) fewer refl refl has_none (record { name = lit< tt; atom = lit< tt }))

  -- nothing is left to visit
  pub settle_decreases : (es : Lists) (gs : List Frame) → Topped no_frame fs gs at.level (staged (frame_at fs at.level) Settled (frame_at fs at.level).unvisited (frame_at fs at.level).diamond) → Decreases es fs at es gs (record { level = at.level; count = at.count; answer = Nothing })
  settle_decreases es gs top =
      let l : ℕ = at.level in
      let c = descending_cost in
      stage_changes es es fs gs at b (λ k. refl) _ top refl refl b.last_level (let q : 1 < stage_turns (frame_at fs l).stage (frame_at fs l) l = omega arith in q)

-- the count after a world has learnt fits
pub learn_fits : (fs : List Frame) (at : Cursor) → Bounded fs at → (frame_at fs at.level).row + 1 < 2 ^ 64
learn_fits fs at b = let r = b.seek_again at.level (omega arith) in let f = all_fits in omega arith
