-- What is taken of the text is what there is room for, and lies behind what the line has (AppendedText).
use Rattle.std.proofs.Common.{◌+◌, take, ap, ◌∙◌}
use Rattle.text.proofs.AppendedText.{taken_few, taken_fits, laid_says, laid_whole, laid_unused, taken_behind, said_short}
use Rattle.text.proofs.Line.words.Goals as goal

pub invariant_of-result : goal.invariant_of-result
invariant_of-result c =
    let l = c.args.self in
    let t = c.args.text.now in
    let n = c.min-n.result in
    let few = taken_few l t n cc in
    let fits = taken_fits l t n cc in
    record {
      whole = rw c.laid_over.ensures (laid_whole l t n few fits);
      in_room = fits;
      unused = rw c.laid_over.ensures (laid_unused l t n few fits);
    }

pub returns : goal.returns
returns c =
    let l = c.args.self in
    let t = c.args.text.now in
    let n = c.min-n.result in
    record {
      says = ap (take (l.used + n)) c.laid_over.ensures ∙ (laid_says l t n (taken_few l t n cc) (taken_fits l t n cc) ∙ taken_behind l t n cc);
      kept = search said_short;
    }
