use Rattle.std.proofs.Common.{ℕ, ◌^◌, Bool, cond, ap, ◌∙◌, lt-ltb, bit_or}
use Rattle.atoms.specs.declared.sets.AtomSet.{AtomSet}
use Rattle.sheet.specs.declared.row.SheetRow.{SheetRow}
use Rattle.page.proofs.reader.with_letter.Goals as goal

pub returns : goal.returns
returns c =
    let row = c.args.row in
    let bits = row.letters.bits in
    let lettered : ℕ → SheetRow = λ b. record { parent = row.parent; level = row.level; letters = record { bits = b } } in
    ap lettered (ap (λ (s : AtomSet). s.bits) c.insert.ensures.word ∙ ap (λ (b : Bool). cond b (bit_or bits (2 ^ c.args.letter)) bits) (lt-ltb c.args.letter 64 c.requires))
