use Rattle.std.proofs.Common.{◌≡◌, ℕ, ◌<◌, ◌≤◌, List, length, sym, ap, ◌∙◌, arith, below_more}
use Rattle.atoms.specs.Clauses.{definitions}
use Rattle.oracle.specs.Stores.{entries_in}
use Rattle.oracle.specs.declared.entry_list.EntryList.{EntryList}
use Rattle.oracle.proofs.Storing.{entries_here, entries_other, entries_read, entries_past}
use Rattle.oracle.proofs.store.Store.forget.Goals as goal

pub loop-level-preserved : goal.loop-level-preserved
loop-level-preserved c =
    let rs : List EntryList = c.loop-level.level-items in
    let i : ℕ = c.loop-level.level-index in
    let l : i < length rs = omega arith in (
      below_more _ i (λ k l. entries_other rs i k _ (λ q. omega arith) ∙ c.loop-level.invariant.0 k l)
          (entries_here rs i _ l ∙ c.forget.ensures ∙ ap definitions (entries_read rs i c.level-item.result l ∙ c.loop-level.invariant.1 i (omega arith))),
      λ k l. entries_other rs i k _ (λ q. omega arith) ∙ c.loop-level.invariant.1 k (omega arith),
    )

-- a number that is no level has no entry
past : (rs os : List EntryList) (k : ℕ) → length os ≤ k → entries_in rs k ≡ entries_in os k → entries_in rs k ≡ definitions (entries_in os k)
past rs os k l e = e ∙ entries_past os k l ∙ ap definitions (sym (entries_past os k l))
