-- For proofs alone: why a question ends: each turn uses up an entry that can still be learnt, or one of the turns that are left while nothing is learnt.
use Rattle.std.specs.Prelude.{◌≡◌, ℕ, zero, suc, ◌+◌, ◌-◌, ◌*◌, ◌<◌, ◌≤◌, false, List, length}
use Rattle.atoms.specs.Clauses.{learnt}
use Rattle.atoms.specs.Sets.{has, count_below}
use Rattle.clausal.specs.declared.modal_clauses.ModalClause.{ModalClause}
use Rattle.engine.specs.declared.frames.Answer.{Answer}
use Rattle.engine.specs.declared.frames.Answer.TheVariants.{Nothing, Open, Closed}
use Rattle.engine.specs.declared.frames.Cursor.{Cursor}
use Rattle.engine.specs.declared.frames.Frame.{Frame}
use Rattle.engine.specs.declared.frames.Stage.{Stage}
use Rattle.engine.specs.declared.frames.Stage.TheVariants.{Seeking, Descending, Settled}
use Rattle.engine.specs.declared.frames.Turn.{Turn}
use Rattle.engine.specs.declared.frames.Turn.TheVariants.{Go, Done}
use Rattle.oracle.specs.Oracles.{Lists}
use Rattle.engine.specs.Worlds.{frame_at}

-- the most turns of a world with so many levels below it, from seeking to its answer, while nothing is learnt
unfoldable pub world_turns : ℕ → ℕ
world_turns zero = 3
world_turns (suc h) = 65 * (world_turns h + 2) + 3

unfoldable pub turns_at : ℕ → ℕ
turns_at l = world_turns (7 - l)

-- the most turns of one visit from the level
abbrev pub visit_turns : ℕ → ℕ
visit_turns l = turns_at (suc l) + 2

-- how many fired diamond clauses the world is still to visit
abbrev pub visits_left : Frame → ℕ
visits_left f = count_below 64 (has f.unvisited)

-- the turns that wait at the worlds above a level, each of which has a visit under way
unfoldable pub waiting_turns : List Frame → ℕ → ℕ
waiting_turns fs zero = 0
waiting_turns fs (suc l) = waiting_turns fs l + (visits_left (frame_at fs l) * visit_turns l + 3)

-- the most turns of the world on top, by its stage
abbrev pub stage_turns : Stage → Frame → ℕ → ℕ
stage_turns Seeking f l = turns_at l
stage_turns Descending f l = visits_left f * visit_turns l + 2
stage_turns Settled f l = 1

-- the most turns that are left, while nothing is learnt
abbrev pub turns_left : List Frame → Cursor → ℕ
turns_left fs at = waiting_turns fs at.level + stage_turns (frame_at fs at.level).stage (frame_at fs at.level) at.level

-- the most turns of a question, while nothing is learnt
abbrev pub question_turns : ℕ
question_turns = turns_at 0 + 1

-- how many entries can still be learnt at the levels below the number, and at all of them
unfoldable pub learnable_below : Lists → ℕ → ℕ
learnable_below es zero = 0
learnable_below es (suc n) = learnable_below es n + (128 - length (learnt (es n)))

abbrev pub learnable : Lists → ℕ
learnable es = learnable_below es 8

-- the number that each turn lowers
unfoldable pub measure : Lists → List Frame → Cursor → ℕ
measure es fs at = learnable es * suc question_turns + turns_left fs at

-- the clause's name and the atom of its literal are atoms
pub record Small (d : ModalClause) : Type 0 where
  pub name : d.name < 64
  pub atom : d.literal.atom < 64

-- a core that came back is that of a world one level further
abbrev pub FromBelow : Answer → ℕ → Type 0
FromBelow Nothing l = Unit {0}
FromBelow Open l = Unit {0}
FromBelow (Closed _) l = l < 7

-- One frame for each level from 0 to the cursor's. The worlds so far and the turns that are left are together at most the turns of a question, also if any of the worlds should seek again. A world at the last level has nothing to visit, and the worlds above the top wait for a visit.
pub record Bounded (fs : List Frame) (at : Cursor) : Type 0 where
  pub long : length fs ≡ suc at.level
  pub level : at.level < 8
  pub seek_again : (i : ℕ) → i ≤ at.level → ((frame_at fs i).row + 1) + (waiting_turns fs i + turns_at i) ≤ question_turns
  pub turns : at.count + turns_left fs at ≤ question_turns
  pub last_level : 7 ≤ at.level → (i : ℕ) → has (frame_at fs at.level).unvisited i ≡ false
  pub descending : (i : ℕ) → i < at.level → (frame_at fs i).stage ≡ Descending
  pub small : (i : ℕ) → i ≤ at.level → Small (frame_at fs i).diamond
  pub shallow : FromBelow at.answer at.level

-- a turn keeps the bounds and lowers the measure
pub record Decreases (before : Lists) (fs : List Frame) (at : Cursor) (after : Lists) (gs : List Frame) (next : Cursor) : Type 0 where
  pub bounded : Bounded gs next
  pub less : measure after gs next < measure before fs at

abbrev pub TurnDecreases : Lists → List Frame → Cursor → Lists → List Frame → Turn → Type 0
TurnDecreases before fs at after gs (Go next) = Decreases before fs at after gs next
TurnDecreases before fs at after gs (Done _) = Unit {0}
