-- What is known of the world on top, by its stage; and of the first world.
use Rattle.std.proofs.Common.{◌≡◌, ℕ, ◌<◌, List, [], sym, refl, ap, subst, arith}
use Rattle.lists.specs.Lists.{In}
use Rattle.atoms.specs.declared.assumptions.Assumptions.{Assumptions}
use Rattle.atoms.specs.declared.clauses.Literal.{Literal}
use Rattle.clausal.specs.States.{State}
use Rattle.engine.specs.Outcomes.{SameState}
use Rattle.engine.specs.Steps.{NoCore, fresh, outset}
use Rattle.engine.specs.Worlds.{Above, Seeks, Descends, PartCloses, Settles, Answered, Top, Holds, frame_at}
use Rattle.engine.specs.declared.frames.Answer.{Answer}
use Rattle.engine.specs.declared.frames.Answer.TheVariants.{Nothing, Open, Closed}
use Rattle.engine.specs.declared.frames.Cursor.{Cursor}
use Rattle.engine.specs.declared.frames.Frame.{Frame}
use Rattle.engine.specs.declared.frames.Stage.{Stage}
use Rattle.engine.specs.declared.frames.Stage.TheVariants.{Seeking, Descending, Settled}
use Rattle.engine.proofs.Growing.{learns_nothing, few_same}
use Rattle.firing.specs.Firing.{AssumesJust}
use Rattle.naming.specs.declared.table.Table.{Table}
use Rattle.oracle.specs.Oracles.{Lists}
use Rattle.sheet.specs.declared.row.SheetRow.{SheetRow}

-- what is known of the world on top, by its stage

module _ (st : State) (es : Lists) (fs : List Frame) (xs : List Literal) (sheet : List SheetRow) (at : Cursor) (h : Holds st es fs xs sheet at) where
  pub top_seeks : (frame_at fs at.level).stage ≡ Seeking → Seeks st es fs xs sheet at.level at.count
  top_seeks e = subst (Top st es fs xs sheet at.level at.count at.answer) e h.top

  pub top_settles : (frame_at fs at.level).stage ≡ Settled → Settles st es fs xs sheet at.level at.count
  top_settles e = subst (Top st es fs xs sheet at.level at.count at.answer) e h.top

  pub top_descends : (frame_at fs at.level).stage ≡ Descending → NoCore at.answer → Descends st es fs xs sheet at.level at.count
  top_descends e r = pick at.answer r (subst (Top st es fs xs sheet at.level at.count at.answer) e h.top)
    where
      pick : (a : Answer) → NoCore a → Answered st es fs xs sheet at.level at.count a → Descends st es fs xs sheet at.level at.count
      pick Nothing q d = d
      pick Open q d = d
      pick (Closed c) q d = absurd q

  pub top_part_closes : (frame_at fs at.level).stage ≡ Descending → (core : Assumptions) → at.answer ≡ Closed core → PartCloses st es fs xs sheet at.level core
  top_part_closes e core q = subst (Answered st es fs xs sheet at.level at.count) q (subst (Top st es fs xs sheet at.level at.count at.answer) e h.top)

-- and back
pub holds_at : (st : State) (es : Lists) (fs gs : List Frame) (xs : List Literal) (sheet sheet' : List SheetRow) (at : Cursor) (l count : ℕ) (a : Answer) (s : Stage) → Holds st es fs xs sheet at → (frame_at gs l).stage ≡ s → Top st es gs xs sheet' l count a s → Holds st es gs xs sheet' (record { level = l; count = count; answer = a })
holds_at st es fs gs xs sheet sheet' at l count a s h stage t = record { learns = h.learns; few = h.few; top = subst (Top st es gs xs sheet' l count a) (sym stage) t }

-- the first world

pub first_holds : (t : Table) (es : Lists) (fs : List Frame) (sheet : List SheetRow) (under : Assumptions) → frame_at fs 0 ≡ fresh under 0 0 → (st : State) (xs : List Literal) → SameState st t es → AssumesJust under xs → ((x : Literal) → In x xs → x.atom < 64) → Holds st es fs xs sheet outset
unfolding Above
first_holds t es fs sheet under is st xs same assumed small =
    record {
      learns = learns_nothing st es same.entries;
      few = few_same st es same.entries;
      top = subst (Top st es fs xs sheet 0 1 Nothing) (sym (ap (λ (f : Frame). f.stage) is)) top;
    }
  where
    top : Seeks st es fs xs sheet 0 1
    top =
        record {
          trial = record { literals = xs; small = small; parent = 0; rows = [] };
          above = (refl, refl, refl);
          row = ap (λ (f : Frame). f.row) is;
          parent = ap (λ (f : Frame). f.parent) is;
          assumed = subst (λ (w : Assumptions). AssumesJust w xs) (sym (ap (λ (f : Frame). f.under) is)) assumed;
          counted = refl;
          shows = λ i g h. absurd (omega arith);
        }
