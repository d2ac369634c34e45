-- What a list holds.
use Rattle.std.specs.Prelude.{ℕ, List, take}
use Rattle.fixed_list.specs.declared.ArrayVec.{ArrayVec}

-- the items, in the order in which they came
abbrev pub items_of : {T : Type 0} {N : ℕ} → ArrayVec T N → List T
items_of v = take v.len v.items
