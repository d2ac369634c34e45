-- Which bytes a text says: what is read of it after each byte.
use Rattle.std.specs.Prelude.{◌≡◌, ℕ, ◌+◌, ◌*◌, Bool, cond, ◌||◌, List, [], ◌∷◌, ◌++◌, Some, None, Ok, Err, vec_items, Option, Result, ◌==◌}
use Rattle.std.specs.Char.{is_digit, digit_value}
use Rattle.hex_text.specs.declared.faults.TextFault.{TextFault}
use Rattle.hex_text.specs.declared.faults.TextFault.TheVariants.{Unexpected, Memory}
use Rattle.hex_text.specs.declared.place.Place.{Place}
use Rattle.hex_text.specs.declared.place.Place.TheVariants.{Blank, Digit, Number, Comment}
use Rattle.hex_text.specs.declared.place.Reader.{Reader}

-- what stands before the next byte, and the bytes that the text says so far
pub record TextState : Type 0 where
  pub place : Place
  pub bytes : List ℕ

abbrev pub text_state : Place → List ℕ → TextState
text_state place bytes = record { place = place; bytes = bytes }

abbrev pub state_of : Reader → TextState
state_of r = text_state r.place (vec_items r.bytes)

abbrev pub nothing_read : TextState
nothing_read = text_state Blank []

-- the value of a digit in base sixteen, as the standard library has it: 0 to 9, a to f and A to F
abbrev pub digit_of : ℕ → Option ℕ
digit_of b = cond (is_digit b 16) (Some (digit_value b)) None

-- space, tab, carriage return and the end of a line
abbrev pub is_blank : ℕ → Bool
is_blank b = b == 32 || (b == 9 || (b == 13 || b == 10))

-- a number begins, or the byte at which the text is refused
abbrev pub begun : Option ℕ → List ℕ → ℕ → Result TextState ℕ
begun (Some d) bytes at = Ok (text_state (Digit d) bytes)
begun None bytes at = Err at

-- a number ends with its second digit
abbrev pub ended : ℕ → Option ℕ → List ℕ → ℕ → Result TextState ℕ
ended high (Some low) bytes at = Ok (text_state Number (bytes ++ (16 * high + low) ∷ []))
ended high None bytes at = Err at

-- a blank, the start of a comment (#), or what else may stand there
abbrev pub parted : ℕ → List ℕ → Result TextState ℕ → Result TextState ℕ
parted b bytes other = cond (is_blank b) (Ok (text_state Blank bytes)) (cond (b == 35) (Ok (text_state Comment bytes)) other)

-- a comment ends with its line
abbrev pub byte_as : Place → List ℕ → ℕ → ℕ → Result TextState ℕ
byte_as Blank bytes b at = parted b bytes (begun (digit_of b) bytes at)
byte_as (Digit high) bytes b at = ended high (digit_of b) bytes at
byte_as Number bytes b at = parted b bytes (Err at)
byte_as Comment bytes b at = Ok (text_state (cond (b == 10) Blank Comment) bytes)

-- one byte more
abbrev pub byte_read : TextState → ℕ → ℕ → Result TextState ℕ
byte_read s b at = byte_as s.place s.bytes b at

-- the text does not end within a number
abbrev pub text_ended : Place → List ℕ → ℕ → Result (List ℕ) ℕ
text_ended Blank bytes at = Ok bytes
text_ended (Digit high) bytes at = Err at
text_ended Number bytes at = Ok bytes
text_ended Comment bytes at = Ok bytes

-- go on, unless the text was refused
abbrev pub and_then : Result TextState ℕ → (TextState → Result (List ℕ) ℕ) → Result (List ℕ) ℕ
and_then (Ok s) f = f s
and_then (Err at) f = Err at

abbrev pub read_from : TextState → ℕ → List ℕ → Result (List ℕ) ℕ
read_from s at [] = text_ended s.place s.bytes at
read_from s at (b ∷ bs) = and_then (byte_read s b at) (λ t. read_from t (at + 1) bs)

-- the bytes that a text says, or the byte, counted from 0, at which it is refused
abbrev pub text_of : List ℕ → Result (List ℕ) ℕ
text_of text = read_from nothing_read 0 text

-- the text is refused at this byte, or there was no memory
abbrev pub Refuses : {S : Type 0} → Result S ℕ → TextFault → Type 0
Refuses want (Unexpected at) = want ≡ Err at
Refuses want Memory = Unit {0}

-- a step of the program does what the definition says, or fails for want of memory
abbrev pub Moves : Result TextState ℕ → TextState → Result (Unit {0}) TextFault → Type 0
Moves want after (Ok _) = want ≡ Ok after
Moves want after (Err e) = Refuses want e
