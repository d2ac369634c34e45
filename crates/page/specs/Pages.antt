-- The text form of a rule and a drawing: what a page has on it after each byte.
use Rattle.std.specs.Prelude.{◌≡◌, ℕ, ◌+◌, ◌*◌, ◌^◌, Bool, true, false, cond, ◌||◌, List, [], ◌∷◌, ◌++◌, length, Some, None, Ok, Err, vec_items, Option, Result, ◌==◌, bit_or, nat_lt}
use Rattle.std.specs.Char.{is_digit, digit_value}
use Rattle.std.specs.Option.{unwrap_or}
use Rattle.sheet.specs.declared.row.SheetRow.{SheetRow}
use Rattle.page.specs.declared.faults.TextFault.{TextFault}
use Rattle.page.specs.declared.faults.TextFault.TheVariants.{Unexpected, TooLarge, TooFew}
use Rattle.page.specs.declared.faults.PageFault.{PageFault}
use Rattle.page.specs.declared.faults.PageFault.TheVariants as fault
use Rattle.page.specs.declared.page.Expect.{Expect}
use Rattle.page.specs.declared.page.Expect.TheVariants.{Byte, Parent, Level, Letter}
use Rattle.page.specs.declared.page.Page.{Page}

-- what is read so far: what the next number of the line is, with what the line has of a row, whether the rest of the line is a comment, the number whose digits are being read, the rule's bytes and the rows of the sheet
pub record PageState : Type 0 where
  pub expect : Expect
  pub comment : Bool
  pub digits : Option ℕ
  pub bytes : List ℕ
  pub rows : List SheetRow

abbrev pub state_of : Page → PageState
state_of p = record { expect = p.expect; comment = p.comment; digits = p.digits; bytes = vec_items p.bytes; rows = vec_items p.sheet }

-- an empty page
abbrev pub empty_page : PageState
empty_page = record { expect = Byte; comment = false; digits = None; bytes = []; rows = [] }

-- go on, unless there was a fault
abbrev pub and_then : Result PageState TextFault → (PageState → Result PageState TextFault) → Result PageState TextFault
and_then (Ok p) f = f p
and_then (Err e) f = Err e

-- the letters of a row with one more
abbrev pub letter_added : SheetRow → ℕ → SheetRow
letter_added r a = record { parent = r.parent; level = r.level; letters = record { bits = bit_or r.letters.bits (2 ^ a) } }

-- the row before its letters
abbrev pub row_from : ℕ → ℕ → SheetRow
row_from parent level = record { parent = parent; level = level; letters = record { bits = 0 } }

abbrev pub number_as : Expect → PageState → ℕ → ℕ → Result PageState TextFault
number_as Byte p n at = cond (nat_lt n 256) (Ok (record p { digits = None; bytes = p.bytes ++ n ∷ [] })) (Err (TooLarge at))
number_as Parent p n at = Ok (record p { expect = Level n; digits = None })
number_as (Level parent) p n at = cond (nat_lt n 256) (Ok (record p { expect = Letter (row_from parent n); digits = None })) (Err (TooLarge at))
number_as (Letter r) p n at = cond (nat_lt n 64) (Ok (record p { expect = Letter (letter_added r n); digits = None })) (Err (TooLarge at))

-- a number stands where the line wants it: a byte below 256, a parent, a level below 256, or a letter below 64
abbrev pub number_taken : PageState → ℕ → ℕ → Result PageState TextFault
number_taken p n at = number_as p.expect p n at

abbrev pub end_digits : Option ℕ → PageState → ℕ → Result PageState TextFault
end_digits None p at = Ok p
end_digits (Some n) p at = number_taken p n at

abbrev pub number_ended : PageState → ℕ → Result PageState TextFault
number_ended p at = end_digits p.digits p at

abbrev pub line_as : Expect → PageState → ℕ → Result PageState TextFault
line_as Byte p at = Ok (record p { expect = cond (length p.bytes == 0) Byte Parent; comment = false })
line_as Parent p at = Ok (record p { expect = Parent; comment = false })
line_as (Level parent) p at = Err (TooFew at)
line_as (Letter r) p at = Ok (record p { expect = Parent; comment = false; rows = p.rows ++ r ∷ [] })

-- the end of a line: the first line with a byte on it ends the rule, a later line with a parent and a level on it is a row
abbrev pub line_ended : PageState → ℕ → Result PageState TextFault
line_ended p at = line_as p.expect p at

-- the number that is open ends with its line
abbrev pub line_closed : PageState → ℕ → Result PageState TextFault
line_closed p at = and_then (number_ended p at) (λ q. line_ended q at)

-- the rule's bytes are in base sixteen, the numbers of a row in base ten
abbrev pub base_for : Expect → ℕ
base_for Byte = 16
base_for Parent = 10
base_for (Level parent) = 10
base_for (Letter r) = 10

abbrev pub base_of : PageState → ℕ
base_of p = base_for p.expect

-- the value of a digit in a base, as the standard library has it: 0 to 9, then a to z and A to Z
abbrev pub digit_in : ℕ → ℕ → Option ℕ
digit_in b base = cond (is_digit b base) (Some (digit_value b)) None

abbrev pub digit_as : Option ℕ → PageState → ℕ → Result PageState TextFault
digit_as None p at = Err (Unexpected at)
digit_as (Some d) p at =
    cond (nat_lt (unwrap_or p.digits 0 * base_of p + d) (2 ^ 64))
    (Ok (record p { digits = Some (unwrap_or p.digits 0 * base_of p + d) }))
    (Err (TooLarge at))

abbrev pub digit_added : PageState → ℕ → ℕ → Result PageState TextFault
digit_added p b at = digit_as (digit_in b (base_of p)) p at

abbrev pub in_comment : PageState → Result PageState TextFault
in_comment p = Ok (record p { comment = true })

-- one byte more: the end of a line, a byte of a comment, a blank, the start of a comment, or a digit
abbrev pub byte_read : PageState → ℕ → ℕ → Result PageState TextFault
byte_read p b at =
    cond (b == 10) (line_closed p at)
    (cond p.comment (Ok p)
    (cond (b == 32 || (b == 9 || b == 13)) (number_ended p at)
    (cond (b == 35) (and_then (number_ended p at) in_comment) (digit_added p b at))))

abbrev pub read_from : PageState → ℕ → List ℕ → Result PageState TextFault
read_from p at [] = line_closed p at
read_from p at (b ∷ bs) = and_then (byte_read p b at) (λ q. read_from q (at + 1) bs)

-- what a text has on it; its end ends its last line
abbrev pub read_page : List ℕ → Result PageState TextFault
read_page text = read_from empty_page 0 text

-- the fault is the one that the definition finds, or there was no memory
abbrev pub Faulted : Result PageState TextFault → PageFault → Type 0
Faulted want (fault.Text e) = want ≡ Err e
Faulted want fault.Memory = Unit {0}
Faulted want _ = ⊥

-- a step of the program does what the definition says, or fails for want of memory
abbrev pub Moves : Result PageState TextFault → PageState → Result (Unit {0}) PageFault → Type 0
Moves want after (Ok _) = want ≡ Ok after
Moves want after (Err e) = Faulted want e

abbrev pub PageRead : Result PageState TextFault → Result Page PageFault → Type 0
PageRead want (Ok p) = want ≡ Ok (state_of p)
PageRead want (Err e) = Faulted want e
