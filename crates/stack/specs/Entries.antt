-- What a stack holds.
use Rattle.std.specs.Prelude.{◌≡◌, ◌-◌, Bool, List, length, nat_lt, take}
use Rattle.std.specs.Borrow.{GName}
use Rattle.stack.specs.declared.Stack.{Stack}

-- what stands in the slots, taken or not
abbrev pub slots_of : {T : Type 0} → Stack T → List T
slots_of s = s.slots.now

-- the entries, oldest first
abbrev pub entries_of : {T : Type 0} → Stack T → List T
entries_of s = take s.len (slots_of s)

-- the entries below the top
abbrev pub below_top : {T : Type 0} → Stack T → List T
below_top s = take (s.len - 1) (slots_of s)

-- is a slot left for one entry more
abbrev pub has_room : {T : Type 0} → Stack T → Bool
has_room s = nat_lt (length (entries_of s)) (length (slots_of s))

-- the name of the slice that was lent, which gets the slots back when the stack goes
abbrev pub lender_of : {T : Type 0} → Stack T → GName
lender_of s = s.slots.ghost_name

-- the slots are as many as before, and still those that were lent
pub record SameSlots {T : Type 0} (before after : Stack T) : Type 0 where
  pub room : length (slots_of after) ≡ length (slots_of before)
  pub lender : lender_of after ≡ lender_of before
