-- What is known is kept by a turn of a world that has its valuation, tries a part, or has no part left to try.
use Rattle.std.proofs.Common.{◌≡◌, ℕ, suc, ◌+◌, true, false, not, ◌&&◌, eqb, List, ◌∷◌, sym, ap, subst, inl, inr, arith}
use mathlib.Core.Path.{fun_ext}
use Rattle.lists.specs.Lists.{In}
use Rattle.lists.proofs.Members.{in_right, kept_in}
use Rattle.atoms.specs.Clauses.{Valuation}
use Rattle.atoms.specs.Sets.{has, letters_of}
use Rattle.atoms.specs.declared.assumptions.Assumptions.{Assumptions}
use Rattle.atoms.specs.declared.clauses.Literal.{Literal}
use Rattle.atoms.specs.declared.sets.AtomSet.{AtomSet}
use Rattle.clausal.specs.Clausal.{Orderly}
use Rattle.clausal.specs.States.{State, fired, literals}
use Rattle.clausal.specs.declared.modal_clauses.ModalClause.{ModalClause}
use Rattle.engine.specs.Pending.{NextIs, NoneNext}
use Rattle.engine.specs.Steps.{NoCore, fresh, valued, staged, drawn_at, KeepsAll}
use Rattle.engine.specs.Worlds.{Seeks, Holds, frame_at}
use Rattle.engine.specs.declared.frames.Answer.TheVariants.{Nothing}
use Rattle.engine.specs.declared.frames.Cursor.{Cursor}
use Rattle.engine.specs.declared.frames.Frame.{Frame}
use Rattle.engine.specs.declared.frames.Stage.TheVariants.{Seeking, Descending, Settled}
use Rattle.engine.specs.declared.frames.Turn.TheVariants.{Go}
use Rattle.engine.specs.Outcomes.{SameClauses}
use Rattle.engine.proofs.Holding.{holds_at, top_seeks, top_descends}
use Rattle.engine.proofs.Visiting.{seeks_on, descends_on, settles}
use Rattle.engine.proofs.Worlding.{SameBelow}
use Rattle.firing.specs.Firing.{AssumesJust, NamesOf}
use Rattle.naming.specs.Tables.{boxes_in, diamonds_in}
use Rattle.naming.specs.declared.table.Table.{Table}
use Rattle.oracle.specs.Oracles.{Lists, Satisfies}
use Rattle.sheet.specs.declared.row.SheetRow.{SheetRow}

-- a world has its valuation
pub seek_keeps : (t : Table) (es es' : Lists) (fs gs : List Frame) (sheet : List SheetRow) (at : Cursor) (v unvisited : AtomSet) → (frame_at fs at.level).stage ≡ Seeking → ((k : ℕ) → es' k ≡ es k) → Satisfies (es at.level) (frame_at fs at.level).under (has v) → NamesOf unvisited (fired (has v) (diamonds_in t at.level)) → SameBelow at.level fs gs → frame_at gs at.level ≡ valued (frame_at fs at.level) v unvisited → KeepsAll t es fs sheet at es' gs (drawn_at sheet (frame_at fs at.level).row (frame_at fs at.level).parent at.level (letters_of (has v))) (Go (record { level = at.level; count = at.count; answer = Nothing }))
seek_keeps t es es' fs gs sheet at v unvisited stage e sat names same is st xs listed h =
    let l : ℕ = at.level in
    let sheet' : List SheetRow = drawn_at sheet (frame_at fs l).row (frame_at fs l).parent l (letters_of (has v)) in
    subst (λ (x : Lists). Holds st x gs xs sheet' (record { level = l; count = at.count; answer = Nothing })) (sym (fun_ext e))
    (holds_at st es fs gs xs sheet sheet' at l at.count Nothing Descending h (ap (λ (f : Frame). f.stage) is)
    (seeks_on st es fs gs xs sheet l at.count v unvisited (top_seeks st es fs xs sheet at h stage) same is sat
    (subst (λ (ds : List ModalClause). NamesOf unvisited (fired (has v) ds)) (sym (listed.diamonds l)) names)))

-- the part of the next diamond clause is tried
pub visit_keeps : (t : Table) (es : Lists) (fs gs : List Frame) (sheet : List SheetRow) (at : Cursor) (unvisited : AtomSet) (m : ModalClause) (under : Assumptions) (level count : ℕ) → (frame_at fs at.level).stage ≡ Descending → NoCore at.answer → Orderly at.level (boxes_in t at.level) → Orderly at.level (diamonds_in t at.level) → NextIs (diamonds_in t at.level) (frame_at fs at.level).unvisited m → ((i : ℕ) → has unvisited i ≡ has (frame_at fs at.level).unvisited i && not (eqb m.name i)) → AssumesJust under (m.literal ∷ literals (fired (has (frame_at fs at.level).valuation) (boxes_in t at.level))) → SameBelow at.level fs gs → frame_at gs at.level ≡ staged (frame_at fs at.level) (frame_at fs at.level).stage unvisited m → frame_at gs level ≡ fresh under (frame_at fs at.level).row at.count → level ≡ at.level + 1 → count ≡ at.count + 1 → KeepsAll t es fs sheet at es gs sheet (Go (record { level = level; count = count; answer = Nothing }))
visit_keeps t es fs gs sheet at unvisited m under level count stage ready boxes diamonds next_is less assumed same is below level_is count_is st xs listed h =
    let l : ℕ = at.level in
    let v : Valuation = has (frame_at fs l).valuation in
    let up : level ≡ suc l = omega arith in
    let more : count ≡ suc at.count = omega arith in
    let top : Seeks st es gs xs sheet (suc l) (suc at.count) =
    descends_on st es fs gs xs sheet l at.count unvisited m under (top_descends st es fs xs sheet at h stage ready)
    (subst (Orderly l) (sym (listed.boxes l)) boxes)
    (subst (Orderly l) (sym (listed.diamonds l)) diamonds)
    (subst (λ (ds : List ModalClause). NextIs ds (frame_at fs l).unvisited m) (sym (listed.diamonds l)) next_is)
    less
    (subst (λ (bs : List ModalClause). AssumesJust under (m.literal ∷ literals (fired v bs))) (sym (listed.boxes l)) assumed)
    same is
    (subst (λ (n : ℕ). frame_at gs n ≡ fresh under (frame_at fs l).row at.count) up below) in
    holds_at st es fs gs xs sheet sheet at level count Nothing Seeking h (ap (λ (f : Frame). f.stage) below)
    (subst (λ (n : ℕ). Seeks st es gs xs sheet n count) (sym up) (subst (λ (n : ℕ). Seeks st es gs xs sheet (suc l) n) (sym more) top))

-- nothing is left to visit

-- there is a diamond clause with each name still to visit
unvisited_known : (t : Table) (es : Lists) (fs : List Frame) (sheet : List SheetRow) (at : Cursor) (a : ℕ) → (frame_at fs at.level).stage ≡ Descending → NoCore at.answer → has (frame_at fs at.level).unvisited a ≡ true → (st : State) (xs : List Literal) → SameClauses st t → Holds st es fs xs sheet at → (d : ModalClause) × In d (diamonds_in t at.level) × (d.name ≡ a)
unvisited_known t es fs sheet at a stage ready there_is st xs listed h =
    let k = top_descends st es fs xs sheet at h stage ready in
    let v : Valuation = has (frame_at fs at.level).valuation in
    let o = k.unvisited.only a there_is in
    (o.0, subst (In o.0) (listed.diamonds at.level) (kept_in (λ d. v d.name) (st.diamonds at.level) (subst (In o.0) (sym k.world.split) (in_right k.world.done o.1))).0, o.2)

pub settle_keeps : (t : Table) (es : Lists) (fs gs : List Frame) (sheet : List SheetRow) (at : Cursor) → (frame_at fs at.level).stage ≡ Descending → NoCore at.answer → NoneNext (diamonds_in t at.level) (frame_at fs at.level).unvisited → SameBelow at.level fs gs → frame_at gs at.level ≡ staged (frame_at fs at.level) Settled (frame_at fs at.level).unvisited (frame_at fs at.level).diamond → KeepsAll t es fs sheet at es gs sheet (Go (record { level = at.level; count = at.count; answer = Nothing }))
settle_keeps t es fs gs sheet at stage ready none_next same is st xs listed h =
    holds_at st es fs gs xs sheet sheet at at.level at.count Nothing Settled h (ap (λ (f : Frame). f.stage) is)
    (settles st es fs gs xs sheet at.level at.count (top_descends st es fs xs sheet at h stage ready) (none_is none_next) same is)
  where
    none_is : NoneNext (diamonds_in t at.level) (frame_at fs at.level).unvisited → (i : ℕ) → has (frame_at fs at.level).unvisited i ≡ false
    none_is (inl z) = z
    none_is (inr (a, low, misses)) = let (d, i, q) = unvisited_known t es fs sheet at a stage ready low.member st xs listed h in absurd (misses d i q)
