-- What is known is kept by a turn of a world that closes, has its tree, or learns from a part that has closed.
use Rattle.std.proofs.Common.{◌≡◌, ℕ, zero, suc, ◌+◌, ◌-◌, ◌<◌, Bool, true, false, cond, eqb, ◌⊎◌, List, [], ◌∷◌, ◌++◌, length, sym, refl, ap, ◌∙◌, subst, inl, inr, arith, ltb-false, ltb-true, eq-eqb, ne_eqb, take, Result, is_ok}
use mathlib.Core.Path.{fun_ext}
use Rattle.std.proofs.lemmas.Bool.{cases_eq}
use Rattle.std.proofs.lemmas.List.{get_or-take}
use Rattle.std.specs.Prelude.{◌≢◌, ⊤}
use Rattle.atoms.specs.Clauses.{learnt}
use Rattle.atoms.specs.Sets.{has}
use Rattle.atoms.specs.declared.assumptions.Assumptions.{Assumptions}
use Rattle.atoms.specs.declared.clauses.Clause.{Clause}
use Rattle.atoms.specs.declared.clauses.Entry.{Entry}
use Rattle.atoms.specs.declared.clauses.Literal.{Literal}
use Rattle.clausal.specs.States.{State}
use Rattle.clausal.specs.declared.modal_clauses.ModalClause.{ModalClause}
use Rattle.engine.specs.Outcomes.{QuestionLeaves}
use Rattle.engine.specs.Steps.{fresh, leaving, popped, learnt_entry, tidied, Keeps, KeepsAll}
use Rattle.engine.specs.Worlds.{Seeks, PartCloses, Settles, Top, Holds, no_frame, frame_at}
use Rattle.engine.specs.declared.frames.Answer.{Answer}
use Rattle.engine.specs.declared.frames.Answer.TheVariants.{Nothing, Open, Closed}
use Rattle.engine.specs.declared.frames.Cursor.{Cursor}
use Rattle.engine.specs.declared.frames.Frame.{Frame}
use Rattle.engine.specs.declared.outcome.Outcome.{Outcome}
use Rattle.engine.specs.declared.outcome.Outcome.TheVariants.{Open as opened, Closed as closed, Full as full}
use Rattle.engine.specs.declared.frames.Stage.TheVariants.{Seeking, Descending, Settled}
use Rattle.engine.specs.declared.frames.Turn.{Turn}
use Rattle.engine.specs.declared.frames.Turn.TheVariants.{Go, Done}
use Rattle.engine.proofs.Holding.{top_seeks, top_part_closes, holds_at, top_settles}
use Rattle.engine.proofs.Growing.{learns_more, few_more}
use Rattle.engine.proofs.Leaving.{part_closes_same, descends_same, Closes, closes_root, closes_part_above, settles_open, settles_leave}
use Rattle.engine.proofs.PartClosing.{part_closes_learns, part_closes_seeks, part_closes_full}
use Rattle.engine.proofs.Worlding.{SameBelow}
use Rattle.firing.specs.Firing.{LearntFromCore}
use Rattle.naming.specs.Tables.{boxes_in}
use Rattle.naming.specs.declared.table.Table.{Table}
use Rattle.oracle.specs.Oracles.{Lists, Refutes, Taken}
use Rattle.oracle.specs.declared.answers.LevelFull.{LevelFull}
use Rattle.sheet.specs.declared.row.SheetRow.{SheetRow}

-- the world on top has its answer
leaves_keeps : (st : State) (es : Lists) (fs gs : List Frame) (xs : List Literal) (sheet : List SheetRow) (at : Cursor) (a : Answer) (o : Outcome) → ((k : ℕ) → k < at.level → (frame_at fs k).stage ≡ Descending) → SameBelow at.level fs gs → Holds st es fs xs sheet at → (at.level ≡ 0 → QuestionLeaves st es xs (length sheet) (tidied o sheet) o) → ((k : ℕ) → at.level ≡ suc k → SameBelow (suc k) fs gs → Top st es gs xs sheet k at.count a Descending) → Keeps st es gs xs sheet (leaving at a o)
leaves_keeps st es fs gs xs sheet at a o descending same h root other = go at.level refl
  where
    Left : Bool → Type 0
    Left b = Keeps st es gs xs sheet (cond b (Done o) (Go (record { level = at.level - 1; count = at.count; answer = a })))

    go : (l : ℕ) → at.level ≡ l → Left (eqb at.level 0)
    go zero q = subst Left (sym (eq-eqb at.level 0 q)) (root q)
    go (suc k) q =
        let less : k ≡ at.level - 1 = omega arith in
        subst Left (sym (ne_eqb at.level 0 (λ z. omega arith)))
        (subst (λ (n : ℕ). Holds st es gs xs sheet (record { level = n; count = at.count; answer = a })) less
        (holds_at st es fs gs xs sheet sheet at k at.count a Descending h (ap (λ (f : Frame). f.stage) (same k (omega arith)) ∙ descending k (omega arith)) (other k q (subst (λ (n : ℕ). SameBelow n fs gs) q same))))

pub popped_same : (at : Cursor) (fs : List Frame) → SameBelow at.level fs (popped at fs)
popped_same at fs = pick (eqb at.level 0)
  where
    pick : (b : Bool) → SameBelow at.level fs (cond b fs (take at.level fs))
    pick true k h = refl
    pick false k h = get_or-take at.level fs k no_frame h

-- it closes
pub close_keeps : (t : Table) (es es' : Lists) (fs gs : List Frame) (sheet : List SheetRow) (at : Cursor) (core : Assumptions) (turn : Turn) → ((k : ℕ) → k < at.level → (frame_at fs k).stage ≡ Descending) → (frame_at fs at.level).stage ≡ Seeking → ((k : ℕ) → es' k ≡ es k) → Refutes (es at.level) (frame_at fs at.level).under core → gs ≡ popped at fs → turn ≡ leaving at (Closed core) (closed core) → KeepsAll t es fs sheet at es' gs sheet turn
close_keeps t es es' fs gs sheet at core turn descending stage e ref gs_is turn_is st xs listed h =
    subst (Keeps st es' gs xs sheet) (sym turn_is)
    (subst (λ (x : Lists). Keeps st x gs xs sheet (leaving at (Closed core) (closed core))) (sym (fun_ext e))
    (leaves_keeps st es fs gs xs sheet at (Closed core) (closed core) descending (subst (SameBelow at.level fs) (sym gs_is) (popped_same at fs)) h
    (λ q. record { learns = h.learns; few = h.few; ends = closes_root (at_level 0 q) })
    (λ k q same'. part_closes_same st es fs gs xs sheet k core same' (closes_part_above k (at_level (suc k) q)))))
  where
    at_level : (l : ℕ) → at.level ≡ l → Closes st es fs xs sheet at.count core l
    at_level l q = subst (Closes st es fs xs sheet at.count core) q (record { seeks = top_seeks st es fs xs sheet at h stage; refutes = ref })

-- it has its tree
pub leave_keeps : (t : Table) (es : Lists) (fs gs : List Frame) (sheet : List SheetRow) (at : Cursor) (turn : Turn) → ((k : ℕ) → k < at.level → (frame_at fs k).stage ≡ Descending) → (frame_at fs at.level).stage ≡ Settled → gs ≡ popped at fs → turn ≡ leaving at Open (opened at.count) → KeepsAll t es fs sheet at es gs sheet turn
leave_keeps t es fs gs sheet at turn descending stage gs_is turn_is st xs listed h =
    subst (Keeps st es gs xs sheet) (sym turn_is)
    (leaves_keeps st es fs gs xs sheet at Open (opened at.count) descending (subst (SameBelow at.level fs) (sym gs_is) (popped_same at fs)) h
    (λ q. record { learns = h.learns; few = h.few; ends = settles_open st es fs xs sheet at.count h.learns (at_level 0 q) })
    (λ k q same'. descends_same st es fs gs xs sheet k at.count same' (settles_leave st es fs xs sheet k at.count h.learns (at_level (suc k) q))))
  where
    at_level : (l : ℕ) → at.level ≡ l → Settles st es fs xs sheet l at.count
    at_level l q = subst (λ (n : ℕ). Settles st es fs xs sheet n at.count) q (top_settles st es fs xs sheet at h stage)

-- the part being visited has closed
pub learn_keeps : (t : Table) (es es' : Lists) (fs gs : List Frame) (sheet : List SheetRow) (at : Cursor) (core : Assumptions) (clause : Clause) (count : ℕ) (r : Result ⊤ LevelFull) → (frame_at fs at.level).stage ≡ Descending → at.answer ≡ Closed core → LearntFromCore (boxes_in t at.level) (has (frame_at fs at.level).valuation) (frame_at fs at.level).diamond core clause → is_ok r ≡ true → Taken es es' at.level (learnt_entry clause) r → SameBelow at.level fs gs → frame_at gs at.level ≡ fresh (frame_at fs at.level).under (frame_at fs at.level).parent (frame_at fs at.level).row → count ≡ (frame_at fs at.level).row + 1 → KeepsAll t es fs sheet at es' gs sheet (Go (record { level = at.level; count = count; answer = Nothing }))
learn_keeps t es es' fs gs sheet at core clause count r stage closed_is blames ok taken same is count_is st xs listed h =
    record {
      learns = learns_more es es' l e refl taken.others now st h.learns (part_closes_learns st es fs xs sheet l core s clause (subst (λ (bs : List ModalClause). LearntFromCore bs (has (frame_at fs l).valuation) (frame_at fs l).diamond core clause) (sym (listed.boxes l)) blames));
      few = λ f. few_more es es' l e refl taken.others now (ltb-true (length (learnt (es l))) 128 (sym taken.when ∙ ok)) (h.few f);
      top = subst (Top st es' gs xs sheet l count Nothing) (sym (ap (λ (f : Frame). f.stage) is))
          (subst (Seeks st es' gs xs sheet l) (sym more) (part_closes_seeks st es fs xs sheet l core s es' gs taken.others same is));
    }
  where
    l : ℕ
    l = at.level

    e : Entry
    e = learnt_entry clause

    s : PartCloses st es fs xs sheet l core
    s = top_part_closes st es fs xs sheet at h stage core closed_is

    more : count ≡ suc (frame_at fs l).row
    more = omega arith

    now : es' l ≡ es l ++ e ∷ []
    now = taken.here ∙ ap (λ (b : Bool). cond b (es l ++ e ∷ []) (es l)) ok

pub full_keeps : (t : Table) (es es' : Lists) (fs gs : List Frame) (sheet : List SheetRow) (at : Cursor) (core : Assumptions) (clause : Clause) (r : Result ⊤ LevelFull) → (frame_at fs at.level).stage ≡ Descending → at.answer ≡ Closed core → is_ok r ≡ false → Taken es es' at.level (learnt_entry clause) r → KeepsAll t es fs sheet at es' gs sheet (Done (full at.level))
full_keeps t es es' fs gs sheet at core clause r stage closed_is filled taken st xs listed h =
    subst (λ (x : Lists). Keeps st x gs xs sheet (Done (full l))) (sym (fun_ext (λ k. pick k (cases_eq k l))))
    (record { learns = h.learns; few = h.few; ends = part_closes_full st es fs xs sheet l core s (ltb-false (length (learnt (es l))) 128 (sym taken.when ∙ filled)) })
  where
    l : ℕ
    l = at.level

    s : PartCloses st es fs xs sheet l core
    s = top_part_closes st es fs xs sheet at h stage core closed_is

    same : es' l ≡ es l
    same = taken.here ∙ ap (λ (b : Bool). cond b (es l ++ learnt_entry clause ∷ []) (es l)) filled

    pick : (k : ℕ) → (k ≡ l) ⊎ (k ≢ l) → es' k ≡ es k
    pick k (inl q) = subst (λ (j : ℕ). es' j ≡ es j) (sym q) same
    pick k (inr ne) = taken.others k ne
