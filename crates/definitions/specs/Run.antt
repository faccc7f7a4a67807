-- `run` is `analyse`, and opens with all that it is made of: a proof that wants to compute writes `unfolding run` and nothing else. The list
-- of names is every definition of the files above.
use Rattle.std.specs.Prelude.{ℕ, List}
use Rattle.definitions.specs.Checks.{Checked}
use Rattle.definitions.specs.Limits.{Limits}
use Rattle.definitions.specs.Bytes.{byte, be16, be32, put16, put32, range}
use Rattle.definitions.specs.Limits.{version_1}
use Rattle.definitions.specs.Module.{length_field, version, capabilities, globals, functions, space, sheet, sheet_length, flag, arguments, expressions, operands, statements, initialisers, named, parts_length, argument_byte, record_at, kind, sub, number, first_operand, operand_count, pool, pooled, operand, s_record_at, s_kind, s_sub, s_number, s_end, s_first, s_count, s_operand, initialiser, named_at, absent}
use Rattle.definitions.specs.Codes.{uniform_space, buffer_space, SAMPLED, STORAGE_IMAGES, UNIFORM_BUFFERS, STORAGE_BUFFERS, READ, WRITE, QUERY, ATOMIC, BARRIER, DERIVATIVE, IMPLICIT_LEVEL, COOPERATIVE, join, meets}
use Rattle.definitions.specs.Checks.{refusal, ◌>>=◌, ◌⇒◌, first, each, for_each, through, any, count}
use Rattle.definitions.specs.Roles.{level_1, level_2, operands_by_kind, role, takes, has_sub, has_number, s_role, s_takes, s_has_sub, s_has_number, use_of, misplaced}
use Rattle.definitions.specs.Form.{outer, module_counts, space_bytes, capability_code, space_code, sheet_header, argument_code, in_pool, some_misplaced, some_not_earlier, expression_form, inside, last_around, owner, owner_kind, owner_end, depth, holds_others, holds_arms, misowned, s_in_pool, s_some_absent, s_some_unknown, statement_form, arms, arms_form, listed_form, sheet_form, left_over, form}
use Rattle.definitions.specs.Origin.{or_else, has_origin, origin_number, origin_from}
use Rattle.definitions.specs.Ends.{trace, end_or_7, replaced, is_global, both_global, end_before, same_end, before}
use Rattle.definitions.specs.Pairs.{no_pairs, insert, within, enter, sample, replacing_place, replace, take_pair, take_pairs}
use Rattle.definitions.specs.State.{start, unknown, known_of, present, operand_at, operands_of, s_operand_at, s_operands_of, counted, mark, marked, refer, refer_all, handed_by, carry, carried}
use Rattle.definitions.specs.Summary.{no_section, summary_of}
use Rattle.definitions.specs.Expressions.{first_origin, own_origin, origin_of, own_requirements, requirements_of, own_global, base, base_space, index_origin, capability_asked, access, sampled, with_expression, expression_step}
use Rattle.definitions.specs.Walk.{disrupted, or_then, disruptor_of, nothing, requiring, joined, exit, non_uniform, stopped, emit_one, emitted, operand_origin, own_outcome, join_uses, called, call, effect, own, inside_start, hands_on, next, go, onward, walk, walk_all, visited}
use Rattle.definitions.specs.Report.{flag_byte, tag, end_number, global_number, concat_map, pair_bytes, mixed_bytes, entry_bytes, section_header, section_bytes, report_header, report, r_globals, r_functions, r_origin, r_requirements, r_may_kill, r_expressions, r_pair_count, r_mixed_count, r_use, r_pairs_at, r_mixed_at, r_entries_at, r_section_end, end_from, global_from, r_pair, r_mixed, r_entry, records, r_lists, r_summary, r_section, r_section_at, section_in, dominates}
use Rattle.definitions.specs.Analyse.{initialise, query_unused, name, function_run, entry_of, section_of, report_fits, sections, accepted, analyse}
use Rattle.definitions.specs.Answer.{lent, run_outcome, answer, lent_report, lent_work}

unfoldable pub run : Limits → List ℕ → Checked (List ℕ)
unfolding byte be16 be32 put16 put32 range version_1 length_field version capabilities globals functions space sheet sheet_length flag arguments expressions operands statements initialisers named parts_length argument_byte record_at kind sub number first_operand operand_count pool pooled operand s_record_at s_kind s_sub s_number s_end s_first s_count s_operand initialiser named_at absent uniform_space buffer_space SAMPLED STORAGE_IMAGES UNIFORM_BUFFERS STORAGE_BUFFERS READ WRITE QUERY ATOMIC BARRIER DERIVATIVE IMPLICIT_LEVEL COOPERATIVE join meets refusal ◌>>=◌ ◌⇒◌ first each for_each through any count level_1 level_2 operands_by_kind role takes has_sub has_number s_role s_takes s_has_sub s_has_number use_of misplaced outer module_counts space_bytes capability_code space_code sheet_header argument_code in_pool some_misplaced some_not_earlier expression_form inside last_around owner owner_kind owner_end depth holds_others holds_arms misowned s_in_pool s_some_absent s_some_unknown statement_form arms arms_form listed_form sheet_form left_over form or_else has_origin origin_number origin_from trace end_or_7 replaced is_global both_global end_before same_end before no_pairs insert within enter sample replacing_place replace take_pair take_pairs start unknown known_of present operand_at operands_of s_operand_at s_operands_of counted mark marked refer refer_all handed_by carry carried no_section summary_of first_origin own_origin origin_of own_requirements requirements_of own_global base base_space index_origin capability_asked access sampled with_expression expression_step disrupted or_then disruptor_of nothing requiring joined exit non_uniform stopped emit_one emitted operand_origin own_outcome join_uses called call effect own inside_start hands_on next go onward walk walk_all visited flag_byte tag end_number global_number concat_map pair_bytes mixed_bytes entry_bytes section_header section_bytes report_header report r_globals r_functions r_origin r_requirements r_may_kill r_expressions r_pair_count r_mixed_count r_use r_pairs_at r_mixed_at r_entries_at r_section_end end_from global_from r_pair r_mixed r_entry records r_lists r_summary r_section r_section_at section_in dominates initialise query_unused name function_run entry_of section_of report_fits sections accepted analyse lent run_outcome answer lent_report lent_work
run L m = analyse L m
