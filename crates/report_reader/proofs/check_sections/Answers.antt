-- A section a turn: the sections that are left give the answer of all (SectionLoop).
use Rattle.std.proofs.Common.{arith, rules}
use mathlib.Core.Path.{sym, ◌∙◌}
use borrow.Author.Tests.{lt-ltb, le-ltb}
use Rattle.report_reader.proofs.FirstFault.{pass, stop}
use Rattle.report_reader.proofs.SectionLoop.{sections_start, sections_cut, sections_fault, sections_on, sections_end}
use Rattle.report_reader.proofs.check_sections.Goals as goal

pub functions-n-requires : goal.functions-n-requires
functions-n-requires c = c.requires.header

pub loop-f-init : goal.loop-f-init
loop-f-init c = sections_start _ _ c.requires c.functions-n.ensures

pub overflow_add-at : goal.overflow_add-at
overflow_add-at c = omega (arith, c.loop-f.invariant.within, c.requires.small)

pub returns-then-b-at : goal.returns-then-b-at
returns-then-b-at c = sym (sections_cut _ _ _ _ c.loop-f.invariant c.loop-f-test.true c.if-b-at.true)

pub header_at-h-requires : goal.header_at-h-requires
header_at-h-requires c = record { begins = c.loop-f.invariant.begins; header = c.if-b-at.false; small = c.requires.small }

pub check_section_header-requires : goal.check_section_header-requires
check_section_header-requires c = record {
  layout = c.header_at-h.ensures.layout;
  header = omega arith;
  small = c.requires.small;
}

pub returns-in_err-check_section_header : goal.returns-in_err-check_section_header
returns-in_err-check_section_header c =
    let e = sections_fault _ _ _ _ c.header_at-h.result c.loop-f.invariant c.loop-f-test.true c.if-b-at.false c.header_at-h.ensures _ (sym c.in_err-check_section_header.ensures) in
    search rules

pub loop-f-preserved : goal.loop-f-preserved
loop-f-preserved c = sections_on _ _ _ _ c.header_at-h.result c.loop-f.invariant c.loop-f-test.true c.if-b-at.false c.header_at-h.ensures (sym c.in_ok-check_section_header.ensures)

pub returns-then-at-b : goal.returns-then-at-b
returns-then-at-b c = sym (sections_end _ _ _ _ c.loop-f.invariant c.loop-f-test.false ∙ stop _ _ _ (lt-ltb _ _ c.if-at-b.true))

pub returns : goal.returns
returns c = sym (sections_end _ _ _ _ c.loop-f.invariant c.loop-f-test.false ∙ pass _ _ _ (le-ltb _ _ c.if-at-b.false))
