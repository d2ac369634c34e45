use Rattle.std.proofs.Common.{◌≡◌, ◌-◌, ◌≤◌, [], length}
use Rattle.modal.specs.Format.{parse}
use Rattle.modal.specs.Reading.{rest_of}
use Rattle.modal.specs.Rules.{listed}
use Rattle.modal.proofs.reader.read_rows.Given as goal

abbrev pub invariant-loop-first : goal.invariant-loop-first
invariant-loop-first l = record {
  shorter : length l.rest ≤ length l.bytes;
  same : parse 64 [] 0 l.bytes ≡ rest_of (listed l.reader.list) (length l.bytes - length l.rest) l.rest;
}

abbrev pub decreases-loop-first : goal.decreases-loop-first
decreases-loop-first l = length l.rest
