use native.Mathlib.Omega.{arith}
use mathlib.Core.Path.{◌∙◌}
use Rattle.analyzer.proofs.SectionWritten.{few_counts, put_refused, put_more, put_room, place_room, small_end}
use Rattle.analyzer.proofs.put.Goals as goal

pub section_length-size-requires : goal.section_length-size-requires
section_length-size-requires c = few_counts c.requires.0 c.requires.1 (record { globals_are = c.from.ensures ∙ c.globals.ensures; expressions_are = c.from-2.ensures })

pub overflow_add-out : goal.overflow_add-out
overflow_add-out c = omega (arith, small_end c.requires.0 c.requires.1 (record { globals_are = c.from.ensures ∙ c.globals.ensures; expressions_are = c.from-2.ensures }) c.section_length-size.ensures)

pub returns-then-out-size-gt-REPORT : goal.returns-then-out-size-gt-REPORT
returns-then-out-size-gt-REPORT c = put_refused c.requires.0 c.requires.1 (record { globals_are = c.from.ensures ∙ c.globals.ensures; expressions_are = c.from-2.ensures }) c.section_length-size.ensures c.if-out-size-gt-REPORT.true

pub put_section-requires : goal.put_section-requires
put_section-requires c = put_room c.requires.0 c.requires.1 (record { globals_are = c.from.ensures ∙ c.globals.ensures; expressions_are = c.from-2.ensures }) c.section_length-size.ensures c.if-out-size-gt-REPORT.false

pub set_section-requires : goal.set_section-requires
set_section-requires c = place_room c.requires.0 c.from-4.ensures

pub returns : goal.returns
returns c = put_more c.requires.0 c.requires.1 (record { globals_are = c.from.ensures ∙ c.globals.ensures; expressions_are = c.from-2.ensures }) c.section_length-size.ensures c.from-3.ensures c.if-out-size-gt-REPORT.false c.put_section.ensures c.from-4.ensures c.set_section.ensures
