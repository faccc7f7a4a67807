-- What the text of a fault says: what is wrong with bytes that are not a report.
use Rattle.std.specs.Prelude.{ℕ, List, ◌++◌, codes}
use Rattle.std.specs.Fmt.{decimal}
use Rattle.report_reader.specs.declared.Fault.{Fault}
use Rattle.report_reader.specs.declared.Fault.TheVariants.{Short, Long, Length, Version, Globals, Functions, Cut, Counts, Summary, Uses, Pairs, Mixed, Expressions, LeftOver}

-- the function that a fault is of
abbrev pub of_function : ℕ → List ℕ
of_function f = codes "function " ++ decimal f

abbrev pub fault_text : Fault → List ℕ
fault_text Short = codes "fewer bytes than the 9 of a header"
fault_text Long = codes "more than 65536 bytes"
fault_text (Length n) = codes "its length field says " ++ decimal n ++ codes " bytes after it"
fault_text (Version v) = codes "version " ++ decimal v ++ codes ", and only 1 is known"
fault_text (Globals n) = decimal n ++ codes " globals, and at most 256 can be"
fault_text (Functions n) = decimal n ++ codes " functions, and at most 64 can be"
fault_text (Cut f) = of_function f ++ codes ": the bytes end inside it"
fault_text (Counts f) = of_function f ++ codes ": a count is over its limit"
fault_text (Summary f) = of_function f ++ codes ": its origin, requirements or may-kill can't be"
fault_text (Uses f) = of_function f ++ codes ": a use has an unknown bit"
fault_text (Pairs f) = of_function f ++ codes ": a pair names no global, or is out of order"
fault_text (Mixed f) = of_function f ++ codes ": a mixed pair can't be, or is out of order"
fault_text (Expressions f) = of_function f ++ codes ": an expression's line can't be"
fault_text LeftOver = codes "bytes are left over behind its last function"
