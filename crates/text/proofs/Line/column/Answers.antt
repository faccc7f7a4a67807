-- As many spaces as there is room for (AppendedText).
use Rattle.std.proofs.Common.{◌≡◌, ◌-◌, max, min, length, take, replicate, ap, ◌∙◌}
use Rattle.text.specs.Lines.{said, behind}
use Rattle.text.proofs.AppendedText.{column_spaces}
use Rattle.text.proofs.Line.column.Goals as goal

pub returns : goal.returns
returns c =
    let l = c.args.self in
    let spaces : c.clamp-n.result ≡ max 1 (min (c.args.c - length (said l)) 160) = cc in
    record {
      says = c.words.ensures.says ∙ (ap (λ n. behind l (take n (replicate 160 32))) spaces ∙ column_spaces l c.args.c);
      kept = c.words.ensures.kept;
    }
