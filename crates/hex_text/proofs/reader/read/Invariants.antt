use Rattle.std.proofs.Common.{◌≡◌, drop}
use Rattle.hex_text.specs.Texts.{state_of, read_from, text_of}
use Rattle.hex_text.proofs.reader.read.Given as goal

abbrev pub invariant-loop-at : goal.invariant-loop-at
invariant-loop-at l = text_of l.text ≡ read_from (state_of l.reader) l.at (drop l.at l.text)
