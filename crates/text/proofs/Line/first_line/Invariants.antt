-- What is left of the first line, behind what the line has of it, is what the whole is behind the line.
use Rattle.std.proofs.Common.{◌≡◌, drop}
use Rattle.text.specs.Lines.{behind, first_line}
use Rattle.text.proofs.Line.first_line.Given as goal

abbrev pub invariant-loop-b : goal.invariant-loop-b
invariant-loop-b l = behind l.next (first_line (drop l.b-index l.text)) ≡ behind l.initial.next (first_line l.text)
