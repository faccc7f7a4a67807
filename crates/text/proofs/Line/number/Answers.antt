-- The library's digits of a number are as few as it takes (AppendedText).
use Rattle.std.proofs.Common.{length, rules}
use Rattle.std.specs.Fmt.{decimal}
use Rattle.text.proofs.AppendedText.{decimal_digits}
use Rattle.text.proofs.Line.number.Goals as goal

pub returns : goal.returns
returns c =
    let d = decimal_digits c.args.n c.ranges.n.fits in
    record { places = length (decimal c.args.n); fewest = d.fewest; says = rw d.same (search rules) }
