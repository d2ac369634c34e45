-- The words in which the refusal of a text is printed.
use Rattle.std.specs.Prelude.{ℕ, List, ◌++◌, codes, decimal}
use Rattle.hex_text.specs.declared.faults.TextFault.{TextFault}
use Rattle.hex_text.specs.declared.faults.TextFault.TheVariants.{Unexpected, Memory}

abbrev pub text_words : TextFault → List ℕ
text_words (Unexpected at) = codes "byte " ++ (decimal at ++ codes " of the text: bytes are numbers of two hexadecimal digits, parted by blanks and ends of lines")
text_words Memory = codes "there is no memory for the bytes"
