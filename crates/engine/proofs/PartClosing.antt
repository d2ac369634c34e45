-- The part that a world visits has closed: what is learnt from that, and what is known where there is no room to learn.
use Rattle.std.proofs.Common.{◌≡◌, ℕ, zero, suc, ◌≤◌, true, List, length, sym, ap, ◌∙◌, subst, arith}
use Rattle.std.specs.Prelude.{◌≢◌}
use Rattle.lists.specs.Lists.{In, here}
use Rattle.lists.proofs.Members.{in_right}
use Rattle.atoms.specs.Assuming.{assumes}
use Rattle.atoms.specs.Clauses.{learnt}
use Rattle.atoms.specs.Sets.{has}
use Rattle.atoms.specs.declared.assumptions.Assumptions.{Assumptions}
use Rattle.atoms.specs.declared.clauses.Clause.{Clause}
use Rattle.atoms.specs.declared.clauses.Literal.{Literal}
use Rattle.clausal.specs.Questions.{with_entries, part_of, WorldReached, first, part, LearntFrom}
use Rattle.clausal.specs.States.{State, fired}
use Rattle.engine.specs.Outcomes.{Filled}
use Rattle.engine.specs.Steps.{fresh, learnt_entry, tidied}
use Rattle.engine.specs.Worlds.{Shows, Trial, own_rows, Visits, Above, Seeks, PartCloses, frame_at}
use Rattle.engine.specs.declared.frames.Frame.{Frame}
use Rattle.engine.specs.declared.outcome.Outcome.TheVariants.{Full as full}
use Rattle.engine.proofs.Sheets.{shows_front, none_stays}
use Rattle.engine.proofs.Growing.{learnt_next}
use Rattle.engine.proofs.Worlding.{SameBelow, above_same}
use Rattle.firing.specs.Firing.{AssumesJust, LearntFromCore}
use Rattle.firing.proofs.FromCores.{core_literals, learnt_clause_of, core_of}
use Rattle.oracle.specs.Oracles.{Lists}
use Rattle.sheet.specs.declared.row.SheetRow.{SheetRow}

-- the worlds above lead the question to it
reaches_it : (st : State) (es : Lists) (fs : List Frame) (xs : List Literal) (l : ℕ) (trial : Trial) → Above st es fs xs l trial → WorldReached (with_entries st es) xs l trial.literals
unfolding Above
reaches_it st es fs xs zero trial a = subst (WorldReached (with_entries st es) xs 0) (sym a.0) first
reaches_it st es fs xs (suc l) trial a =
    let w = a.world in
    let f : Frame = frame_at fs l in
    let c : WorldReached (with_entries st es) xs (suc l) (part_of st l (has f.valuation) f.diamond) =
    part (reaches_it st es fs xs l a.trial a.above) (has f.valuation) (record { obeyed = w.obeyed; made = w.made }) f.diamond (subst (In f.diamond) (sym w.split) (in_right w.done here)) in
    subst (WorldReached (with_entries st es) xs (suc l)) (sym a.literals) c

module _ (st : State) (es : Lists) (fs : List Frame) (xs : List Literal) (sheet : List SheetRow) (l : ℕ) (core : Assumptions) (s : PartCloses st es fs xs sheet l core) where
  visiting : Visits (Above st es fs xs l) st es l (frame_at fs l) s.trial
  unfolding Above
  visiting = s.above

  fires_now : In (frame_at fs l).diamond (fired (has (frame_at fs l).valuation) (st.diamonds l))
  fires_now = subst (In (frame_at fs l).diamond) (sym visiting.world.split) (in_right visiting.world.done here)

  inside : (x : Literal) → assumes core x ≡ true → In x (part_of st l (has (frame_at fs l).valuation) (frame_at fs l).diamond)
  inside x e = subst (In x) visiting.literals (s.part x e)

  -- the clause is learnt from a core
  pub part_closes_learns : (c : Clause) → LearntFromCore (st.boxes l) (has (frame_at fs l).valuation) (frame_at fs l).diamond core c → LearntFrom st es l (length (es l)) (learnt_entry c)
  part_closes_learns c b =
      learnt_next st es l (learnt_entry c) (has (frame_at fs l).valuation) (frame_at fs l).diamond
      (core_literals st l (has (frame_at fs l).valuation) (frame_at fs l).diamond core)
      visiting.world.made
      (core_of st l (has (frame_at fs l).valuation) (frame_at fs l).diamond core inside es s.unsatisfiable)
      (learnt_clause_of st l (has (frame_at fs l).valuation) (frame_at fs l).diamond core inside c fires_now b)

  -- the world seeks again
  pub part_closes_seeks : (es' : Lists) (gs : List Frame) → ((k : ℕ) → (k ≢ l) → es' k ≡ es k) → SameBelow l fs gs → frame_at gs l ≡ fresh (frame_at fs l).under (frame_at fs l).parent (frame_at fs l).row → Seeks st es' gs xs sheet l (suc (frame_at fs l).row)
  part_closes_seeks es' gs others same is =
      let w = visiting.world in
      record {
        trial = visiting.trial;
        above = above_same st es es' fs gs xs l same (λ k h. others k (λ q. omega arith)) visiting.trial visiting.above;
        row = ap (λ (f : Frame). f.row) is ∙ w.row;
        parent = ap (λ (f : Frame). f.parent) is ∙ w.parent;
        assumed = subst (λ (a : Assumptions). AssumesJust a visiting.trial.literals) (sym (ap (λ (f : Frame). f.under) is)) w.assumed;
        counted = ap suc w.row;
        shows = shows_front sheet visiting.trial.rows (own_rows (frame_at fs l) l w.trees) (subst (Shows sheet) visiting.rows s.shows);
      }

  -- there is no room to learn
  pub part_closes_full : 128 ≤ length (learnt (es l)) → Filled st es xs (length sheet) (tidied (full l) sheet) l
  part_closes_full many =
      record {
        many = many;
        literals = visiting.trial.literals;
        reached = reaches_it st es fs xs l visiting.trial visiting.above;
        valuation = has (frame_at fs l).valuation;
        allowed = record { obeyed = visiting.world.obeyed; made = visiting.world.made };
        diamond = (frame_at fs l).diamond;
        fires = fires_now;
        core = core_literals st l (has (frame_at fs l).valuation) (frame_at fs l).diamond core;
        lost = core_of st l (has (frame_at fs l).valuation) (frame_at fs l).diamond core inside es s.unsatisfiable;
        blank = none_stays sheet;
      }
