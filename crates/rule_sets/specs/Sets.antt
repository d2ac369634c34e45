-- What a set of rules holds.
use Rattle.std.specs.Prelude.{List, vec_items}
use Rattle.rule_writer.specs.declared.Writer.{Writer}
use Rattle.rule_sets.specs.declared.RuleSet.{RuleSet}

-- the bytes of each rule, by the rule's number
abbrev pub writers_in : RuleSet → List Writer
writers_in s = vec_items s.rules
