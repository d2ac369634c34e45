use Rattle.std.proofs.Common.{◌≡◌, ℕ, ◌+◌, ◌-◌, ◌<◌, ◌≤◌, [], length, get_or, set, sym, refl, ap, ◌∙◌, subst, subst₂, arith, length-set}
use Rattle.std.proofs.lemmas.List.{get_or-map}
use Rattle.fixed_list.specs.Items.{items_of}
use Rattle.clausal.proofs.Rows.{lawful_rows}
use Rattle.clausal.specs.Counting.{count_of_names}
use Rattle.naming.specs.Levels.{LevelLists, names_at, lists_of}
use Rattle.naming.specs.TakenIn.{TakenAt}
use Rattle.naming.proofs.AtLevel.{level_at, level_read, level_beyond, read_other}
use Rattle.naming.proofs.Taking.{beyond_taken, level_taken, level_left}
use Rattle.naming.proofs.level_table.take_in.Goals as goal

pub loop-level-init : goal.loop-level-init
loop-level-init c =
    let r = c.args.rule.now in
    let e : length c.args.levels.now ≡ 8 = omega arith in
    record {
      done = beyond_taken r.number r.rows.now (lawful_rows _ r.lawful) c.args.levels.now c.args.definitions.now.levels e (omega arith);
      left = λ k h. refl;
      none = λ k h. c.requires.none k;
      size = omega arith;
      further = c.new-further.ensures ∙ sym (ap (λ (s : LevelLists). s.names) (level_beyond c.args.levels.now 8 (omega arith)));
    }

pub take_in-requires-clause-room : goal.take_in-requires-clause-room
take_in-requires-clause-room c =
    let l = c.loop-level.level - 1 in
    let rows = c.args.rule.now.rows.now in
    let h : l < length c.loop-level.levels = omega arith in
    subst₂ (λ (s : LevelLists) (k : ℕ). length s.names + count_of_names rows k ≤ 48) (sym (c.loop-level.invariant.left l (omega arith)) ∙ level_read c.loop-level.levels l _ h) (sym (level_at l c.index-level.result (omega arith))) (c.requires.room l (omega arith))

pub take_in-requires-clause-none : goal.take_in-requires-clause-none
take_in-requires-clause-none c =
    let ds = c.loop-level.definitions.levels in
    let l = c.loop-level.level - 1 in
    sym (get_or-map items_of ds l _ [] (omega (arith, c.loop-level.invariant.size))) ∙ c.loop-level.invariant.none l (omega arith)

pub loop-level-preserved : goal.loop-level-preserved
loop-level-preserved c =
    let r = c.args.rule.now in
    let ts = c.loop-level.levels in
    let l = c.loop-level.level - 1 in
    let h : l < length ts = omega arith in
    let k : l < length c.loop-level.definitions.levels = omega (arith, c.loop-level.invariant.size) in
    let n : c.loop-level.level ≡ l + 1 = omega arith in
    let d = c.index-levels-level.result in
    let t = subst (λ (s : LevelLists). TakenAt r.number r.rows.now l (items_of c.loop-level.further) s (lists_of c.take_in.new.self) (items_of c.take_in.new.definitions)) (sym (level_read ts l d h)) (subst (λ (k : ℕ). TakenAt r.number r.rows.now k (items_of c.loop-level.further) (lists_of (get_or ts l d)) (lists_of c.take_in.new.self) (items_of c.take_in.new.definitions)) (level_at l c.index-level.result (omega arith)) c.take_in.ensures) in
    let f = c.loop-level.invariant.further ∙ ap (names_at ts) n in
    record {
      done = level_taken r.number r.rows.now c.args.levels.now ts c.loop-level.definitions.levels l c.take_in.new.self c.take_in.new.definitions h k (λ j b. c.loop-level.invariant.done j (omega arith)) (λ j b. c.loop-level.invariant.left j (omega arith)) _ f t;
      left = level_left r.number r.rows.now c.args.levels.now ts c.loop-level.definitions.levels l c.take_in.new.self c.take_in.new.definitions h k (λ j b. c.loop-level.invariant.done j (omega arith)) (λ j b. c.loop-level.invariant.left j (omega arith)) _ f t;
      none = λ k b. read_other items_of [] c.loop-level.definitions.levels l c.take_in.new.definitions k (λ q. omega arith) ∙ c.loop-level.invariant.none k (omega arith);
      size = length-set c.loop-level.definitions.levels l c.take_in.new.definitions ∙ c.loop-level.invariant.size;
      further = sym (ap (λ (s : LevelLists). s.names) (level_read (set ts l c.take_in.new.self) l _ (omega (arith, length-set ts l c.take_in.new.self))));
    }
